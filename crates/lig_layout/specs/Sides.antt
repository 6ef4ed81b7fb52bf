-- The three sides of a constraint.
use Rattle.std.specs.Prelude.{List, map}
use Rattle.gold_field.specs.declared.form.Term.{Term}
use Rattle.gold_field.specs.declared.form.Constraint.{Constraint}
use Rattle.lig_layout.specs.declared.side.Side.{Side}
use Rattle.lig_layout.specs.declared.side.Side.TheVariants.{A, B, C}

abbrev pub form_of : Side → Constraint → List Term
form_of A k = k.a
form_of B k = k.b
form_of C k = k.c

-- the forms of one side of the constraints
abbrev pub forms : Side → List Constraint → List (List Term)
forms side constraints = map (form_of side) constraints
