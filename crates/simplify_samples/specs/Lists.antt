-- Lists that can be simplified.
use Rattle.std.specs.Prelude.{ℕ, List, All}
use Rattle.gold_field.specs.declared.form.Constraint.{Constraint}
use Rattle.cir_lc.specs.Normal.{IsConstraintWithin}
use Rattle.cir_lc.specs.Sparse.{IsNormalForm}

-- normal constraints over signals below n
abbrev pub IsListed : ℕ → List Constraint → Type 0
IsListed n list = All IsNormalForm list × All (IsConstraintWithin n) list
