-- Rules that are found one after the other.
use Rattle.std.specs.Prelude.{◌≡◌, ℕ, Bool, true, false, List, [], ◌∷◌, ◌++◌, Some}
use Rattle.gold_field.specs.declared.form.Constraint.{Constraint}
use Rattle.cir_determined.specs.declared.rule.Rule.{Rule}
use Rattle.cir_determined.specs.Marks.{Marks}
use Rattle.cir_determined.specs.Rules.{AppliesTo, place_of, shown_at}
use Rattle.cir_determined.specs.Certificate.{AllApply, shown_by}

-- no rule applies to the constraint at the place
abbrev pub HasNone : Constraint → (place : ℕ) → Marks → Type 0
HasNone k place m = (r : Rule) → place_of r ≡ place → AppliesTo (Some k) m r → ⊥

-- a rule for the constraint at the place, which applies, is added, with what it shows
pub record AddsRule (k : Constraint) (place : ℕ) (m n : Marks) (old new : List Rule) : Type 0 where
  pub rule : Rule
  pub at : place_of rule ≡ place
  pub applies : AppliesTo (Some k) m rule
  pub marks_are : n ≡ shown_at k m rule
  pub rules_are : new ≡ old ++ rule ∷ []

-- no rule applies to the constraint at the place, and nothing is added
pub record AddsNone (k : Constraint) (place : ℕ) (m n : Marks) (old new : List Rule) : Type 0 where
  pub none : HasNone k place m
  pub marks_are : n ≡ m
  pub rules_are : new ≡ old

abbrev pub Visits : Constraint → (place : ℕ) → Marks → Marks → List Rule → List Rule → Bool → Type 0
Visits k place m n old new true = AddsRule k place m n old new
Visits k place m n old new false = AddsNone k place m n old new

-- the rules that are added apply one after the other, with what they show
pub record AddsRules (ks : List Constraint) (m n : Marks) (old new : List Rule) : Type 0 where
  pub added : List Rule
  pub rules_are : new ≡ old ++ added
  pub apply : AllApply ks m added
  pub marks_are : n ≡ shown_by ks m added
