-- The circuit of a world that is made, by its parts.
use Rattle.std.specs.Prelude.{All, sum_by, flat_map}
use Rattle.std.proofs.Common.{◌≡◌, ℕ, ◌+◌, ◌≤◌, List, map, length, sym, ap, subst, ◌∙◌, arith}
use Rattle.std.proofs.lemmas.List.{length-map}
use Rattle.gold_field.specs.declared.form.Constraint.{Constraint}
use Rattle.gold_field.specs.Form.{ConstraintBelow}
use Rattle.cir_values.specs.declared.signals.Signals.{Signals}
use Rattle.cir_meaning.specs.Source.{Equation, IsSource}
use Rattle.cir_meaning.specs.Frame.{World}
use Rattle.cir_meaning.specs.Compile as M
use Rattle.cir_meaning.specs.Compile.{group_size, in_order, names_of_row, renumbered_equation}
use Rattle.cir_frame.specs.declared.world.World.{World as CodeWorld}
use Rattle.cir_frame.specs.Shown.{world_of}
use Rattle.cir_inst.specs.declared.circuit.Circuit.{Circuit}
use Rattle.cir_inst.specs.Table.{IsTableOf, name_of}
use Rattle.cir_inst.specs.Renumbered.{IsRoomy, IsNumbered, renumbered_constraint}
use Rattle.cir_inst.specs.Compiled.{IsCircuitOf, IsWithinLimits, IsFormed}
use Rattle.cir_inst.specs.Made.{IsMade}
use Rattle.cir_inst.proofs.Circuits.{is_roomy, names_are, names_few, are_numbered, final_source}
use Rattle.cir_inst.proofs.Circuits.{constraints_few, terms_few, constraints_below}
use Rattle.cir_inst.proofs.Circuits.{constraints_formed}

module _ (w : CodeWorld) (es : List Equation) (made : IsMade es w) where
  abbrev whole : World
  whole = world_of w es

  pub made_roomy : IsRoomy whole.sizes
  made_roomy = is_roomy whole made.declared made.few

  pub made_numbered : All (IsNumbered whole.sizes) w.constraints.items
  made_numbered = are_numbered whole made.declared made.few w.constraints.items made.listed

  abbrev final : List Constraint
  final = map (renumbered_constraint whole.sizes) w.constraints.items

  abbrev shown : Signals → List Constraint → List (List ℕ) → Circuit
  shown signals ks instances =
      record { signals = signals; constraints = ks; instances = instances }

  pub made_circuit : (signals : Signals) (ks : List Constraint) (instances : List (List ℕ))
      → IsTableOf (M.circuit_of group_size whole) signals → ks ≡ final
      → instances ≡ w.instances.items
      → IsCircuitOf (M.circuit_of group_size whole) (shown signals ks instances)
  made_circuit signals ks instances t e i = record {
    names = t.names;
    outputs = t.outputs;
    public_inputs = t.public_inputs;
    private_inputs = t.private_inputs;
    inputs = t.inputs;
    instances = i;
    source = subst (λ (xs : List Constraint).
        IsSource (1 + length (flat_map names_of_row (in_order whole.rows)))
        (map (renumbered_equation group_size whole.sizes) es) xs) (sym e)
        (final_source whole made.declared made.few w.constraints.items made.listed);
  }

  as_many : (signals : Signals) → IsTableOf (M.circuit_of group_size whole) signals
      → length signals.names ≡ length (flat_map names_of_row (in_order whole.rows))
  as_many signals t = sym (length-map signals.names name_of) ∙ ap length t.names

  pub made_fits : (signals : Signals) (ks : List Constraint) (instances : List (List ℕ))
      → IsTableOf (M.circuit_of group_size whole) signals → ks ≡ final
      → IsWithinLimits (shown signals ks instances)
  made_fits signals ks instances t e = record {
    few_signals = omega (arith, as_many signals t, names_few whole made.declared made.few);
    few_constraints = subst (λ (xs : List Constraint). length xs ≤ 1048576) (sym e)
        (constraints_few whole made.declared made.few w.constraints.items made.listed);
    few_terms = subst (λ (xs : List Constraint). sum_by (λ k. length k.a
        + (length k.b + length k.c)) xs ≤ 8388608) (sym e)
        (terms_few whole made.declared made.few w.constraints.items made.listed);
    own = omega (
      arith,
      as_many signals t,
      names_are whole made.declared made.few,
      t.outputs,
      t.public_inputs,
      t.private_inputs,
    );
    below = subst (λ (n : ℕ). All (ConstraintBelow (1 + n)) ks) (sym (as_many signals t))
        (subst (λ (xs : List Constraint). All (ConstraintBelow (1 + length
        (flat_map names_of_row (in_order whole.rows)))) xs) (sym e)
        (constraints_below whole made.declared made.few w.constraints.items made.listed));
    formed = subst (λ (xs : List Constraint). All IsFormed xs) (sym e)
        (constraints_formed whole made.declared made.few w.constraints.items made.listed);
  }
