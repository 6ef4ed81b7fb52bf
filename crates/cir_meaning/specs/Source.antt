-- The constraints of a source: equations between values, and the source list, whose constraints
-- stand for them.
use Rattle.std.specs.Prelude.{◌≡◌, ℕ, ◌+◌, ◌-◌, ◌%◌, ◌<◌, List, [], ◌∷◌, sum_by, Option, Some, None}
use Rattle.gold_field.specs.declared.form.Constraint.{Constraint}
use Rattle.gold_field.specs.declared.gold.TheConstants.{P}
use Rattle.gold_field.specs.Rises.{RisesFrom}
use Rattle.cir_lc.specs.declared.quad.Quad.{Quad}
use Rattle.cir_lc.specs.Number.{Assignment, Number, added, scaled, multiplied, negated, value_of}
use Rattle.cir_lc.specs.Coefficient.{terms_below, constant_in}
use Rattle.cir_lc.specs.Normal.{IsNormal, IsQuadWithin, IsConstraintWithin}
use Rattle.cir_meaning.specs.Values.{Parts}

-- the numbers of two sides that have to be equal, and the parts a, b, c of left minus right
pub record Equation : Type 0 where
  pub left : Number
  pub right : Number
  pub parts : Parts

-- the two sides are equal at the assignment
abbrev pub IsEqualAt : Assignment → Equation → Type 0
IsEqualAt s e = e.left s ≡ e.right s

-- the number a * b + c
abbrev pub number_of_parts : Parts → Number
number_of_parts p = added (multiplied p.a p.b) p.c

-- a * b + c is left minus right, at each assignment
pub record IsDifference (e : Equation) : Type 0 where
  pub sum : (s : Assignment) → (number_of_parts e.parts s + e.right s) % P ≡ e.left s
  pub small : (s : Assignment) → e.right s < P

-- the numbers of a, b and c
abbrev pub parts_from : Quad → Parts
parts_from q = record { a = value_of q.a; b = value_of q.b; c = value_of q.c }

-- a, b and c have sparse forms, and this is the normal constraint of a * b + c = 0
pub record IsConstraintOf (n : ℕ) (e : Equation) (k : Constraint) : Type 0 where
  pub quad : Quad
  pub numbers : e.parts ≡ parts_from quad
  pub rises_a : RisesFrom 0 quad.a
  pub rises_b : RisesFrom 0 quad.b
  pub rises_c : RisesFrom 0 quad.c
  pub within : IsQuadWithin n quad
  pub normal : IsNormal quad k
  pub rises_left : RisesFrom 0 k.a
  pub rises_right : RisesFrom 0 k.b
  pub rises_product : RisesFrom 0 k.c
  pub within_constraint : IsConstraintWithin n k

-- the source list: constraint i stands for equation i
abbrev pub IsSource : ℕ → List Equation → List Constraint → Type 0
IsSource n [] [] = Unit {0}
IsSource n [] (k ∷ ks) = ⊥
IsSource n (e ∷ es) [] = ⊥
IsSource n (e ∷ es) (k ∷ ks) = IsConstraintOf n e k × IsSource n es ks

-- the terms of the normal constraint of a * b + c = 0, where there are n signals with signal 0: a
-- constant factor goes into C
abbrev pub terms_by : ℕ → Option ℕ → Option ℕ → Parts → ℕ
terms_by n (Some k) _ p = terms_below n (negated (added p.c (scaled k p.b)))
terms_by n None (Some k) p = terms_below n (negated (added p.c (scaled k p.a)))
terms_by n None None p = terms_below n p.a + terms_below n p.b + terms_below n (negated p.c)

abbrev pub terms_of : ℕ → Parts → ℕ
terms_of n p = terms_by n (constant_in (n - 1) p.a) (constant_in (n - 1) p.b) p

abbrev pub all_terms : ℕ → List Equation → ℕ
all_terms n es = sum_by (λ e. terms_of n e.parts) es
