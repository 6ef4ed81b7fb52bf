-- The file that a circuit is written as, and what its values mean for the source.
use Rattle.std.specs.Prelude.{◌≡◌, ◌↔◌, ℕ, ◌+◌, ◌<◌, List, length, All, slice_index}
use Rattle.gold_field.specs.Form.{Holds}
use Rattle.gold_field.specs.declared.gold.TheConstants.{P}
use Rattle.iden_files.specs.File.{File}
use Rattle.cir_ast.specs.Program.{Program}
use Rattle.cir_lc.specs.Number.{Assignment}
use Rattle.cir_inst.specs.declared.circuit.Circuit.{Circuit}
use Rattle.cir_meaning.specs.Compile.{Satisfies}
use Rattle.cir_simplify.specs.declared.types.Level.{Level}
use Rattle.cir_simplify.specs.declared.types.Rules.{Rules}
use Rattle.cir_simplify.specs.declared.types.Simple.{Simple}

-- how many signals are main's own
abbrev pub own_count : Circuit → ℕ
own_count c = c.signals.outputs + (c.signals.public_inputs + c.signals.private_inputs)

-- signals 1 to the number of outputs and inputs are main's own, and are never eliminated
abbrev pub rules_of : Level → Circuit → Rules
rules_of level c = record {
  level = level;
  kept = own_count c;
  bound = length c.signals.names + 1;
}

-- the wires are the signals that simplification keeps, and the label of each is its number
abbrev pub file_of : Circuit → Simple → File
file_of c simple = record {
  wires = length simple.wires;
  outputs = c.signals.outputs;
  public_inputs = c.signals.public_inputs;
  private_inputs = c.signals.private_inputs;
  label_count = 1 + length c.signals.names;
  labels = simple.wires;
  constraints = simple.constraints;
}

-- values of the wires: numbers of the field, with 1 at wire 0
pub record AreValues (f : File) (w : List ℕ) : Type 0 where
  pub count : length w ≡ f.wires
  pub one : slice_index w 0 ≡ 1
  pub below : (k : ℕ) → slice_index w k < P

-- the assignment has these values at the wires: the value of each wire is that of the signal that
-- its label names
pub record Extends (f : File) (w : List ℕ) (s : Assignment) : Type 0 where
  pub agrees : (wire : ℕ) → wire < f.wires → s.at (slice_index f.labels wire) ≡ slice_index w wire

-- values of the wires satisfy the file exactly when they extend to an assignment that satisfies the
-- program
abbrev pub Means : Program → File → Type 0
Means p f = (w : List ℕ) → AreValues f w
    → All (Holds (slice_index w)) f.constraints ↔ ((s : Assignment) × Extends f w s × Satisfies p s)
