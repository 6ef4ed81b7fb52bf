-- Constraints by the final numbers of their signals.
use Rattle.std.specs.Prelude.{◌<◌, List, map, All}
use Rattle.gold_field.specs.declared.form.Constraint.{Constraint}
use Rattle.gold_field.specs.declared.form.Term.{Term}
use Rattle.cir_meaning.specs.Frame.{Sizes, size_in}
use Rattle.cir_meaning.specs.Compile.{group_size, final_number}
use Rattle.cir_meaning.specs.Dependence.{IsDeclared}

-- each group has room for its signals
pub record IsRoomy (s : Sizes) : Type 0 where
  pub outputs : s.outputs < 1048576
  pub public_inputs : s.public_inputs < 1048576
  pub private_inputs : s.private_inputs < 1048576
  pub others : s.others < 1048576

-- all signals that it names are declared
abbrev pub AreDeclared : Sizes → List Term → Type 0
AreDeclared s terms = All (λ t. IsDeclared group_size (λ g. size_in g s) t.signal) terms

pub record IsNumbered (s : Sizes) (k : Constraint) : Type 0 where
  pub a : AreDeclared s k.a
  pub b : AreDeclared s k.b
  pub c : AreDeclared s k.c

abbrev pub renumbered_term : Sizes → Term → Term
renumbered_term s t = record { signal = final_number group_size s t.signal; coef = t.coef }

abbrev pub renumbered_terms : Sizes → List Term → List Term
renumbered_terms s terms = map (renumbered_term s) terms

abbrev pub renumbered_constraint : Sizes → Constraint → Constraint
renumbered_constraint s k = record {
  a = renumbered_terms s k.a;
  b = renumbered_terms s k.b;
  c = renumbered_terms s k.c;
}
