-- Circuits: constraints over wires, of which some are outputs and some are inputs.
use Rattle.std.specs.Prelude.{ℕ, ◌+◌, ◌≤◌, Bool, ◌&&◌, nat_lt, nat_le, List, map}
use Rattle.gold_field.specs.declared.form.Constraint.{Constraint}
use Rattle.cir_lc.specs.Number.{value_of, negated}
use Rattle.cir_lc.specs.Sparse.{form_of, normal_of}

-- wire 0 is always 1; the outputs come next, then the inputs, then the other wires
pub record Circuit : Type 0 where
  pub constraints : List Constraint
  pub wires : ℕ
  pub outputs : ℕ
  pub inputs : ℕ

abbrev pub IsOutput : Circuit → (wire : ℕ) → Type 0
IsOutput c wire = (1 ≤ wire) × (wire ≤ c.outputs)

abbrev pub is_input : Circuit → (wire : ℕ) → Bool
is_input c wire = nat_lt c.outputs wire && nat_le wire (c.outputs + c.inputs)

-- the normal constraint of `A * B - C = 0`, where the wires are below n
abbrev pub normalized : (n : ℕ) → Constraint → Constraint
normalized n k = normal_of n record {
  a = k.a;
  b = k.b;
  c = form_of n (negated (value_of k.c));
}

-- the same circuit with each constraint in normal form
abbrev pub in_normal_form : Circuit → Circuit
in_normal_form c = record c { constraints = map (normalized c.wires) c.constraints }
