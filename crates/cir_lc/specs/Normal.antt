-- The normal constraint of `a * b + c = 0`.
use Rattle.std.specs.Prelude.{◌≡◌, ℕ, ◌==◌, List, [], ◌∷◌, Option, Some, None, if◌then◌else◌}
use Rattle.gold_field.specs.declared.form.Term.{Term}
use Rattle.gold_field.specs.declared.form.Constraint.{Constraint}
use Rattle.cir_lc.specs.declared.quad.Quad.{Quad}
use Rattle.cir_lc.specs.Terms.{IsWithin}
use Rattle.cir_lc.specs.Number.{Number, added, scaled, multiplied, negated, value_of}

-- the number for which a linear combination stands that names no signal but 0
abbrev pub constant_of : List Term → Option ℕ
constant_of [] = Some 0
constant_of (t ∷ []) = if t.signal == 0 then Some t.coef else None
constant_of (t ∷ (u ∷ ts)) = None

-- the numbers of a * b + c
abbrev pub value_of_quad : Quad → Number
value_of_quad q = added (multiplied (value_of q.a) (value_of q.b)) (value_of q.c)

-- a factor stays only where neither factor is a constant
abbrev pub kept_of : Option ℕ → Option ℕ → List Term → List Term
kept_of None None terms = terms
kept_of (Some k) _ terms = []
kept_of None (Some k) terms = []

-- c, and the product where one factor is the constant k
abbrev pub rest_of : Option ℕ → Option ℕ → Quad → Number
rest_of (Some k) _ q = added (value_of q.c) (scaled k (value_of q.b))
rest_of None (Some k) q = added (value_of q.c) (scaled k (value_of q.a))
rest_of None None q = value_of q.c

-- A and B are the factors where neither is a constant, else both are empty; and C is minus the rest
pub record IsNormal (q : Quad) (n : Constraint) : Type 0 where
  pub left : n.a ≡ kept_of (constant_of q.a) (constant_of q.b) q.a
  pub right : n.b ≡ kept_of (constant_of q.a) (constant_of q.b) q.b
  pub rest : value_of n.c ≡ negated (rest_of (constant_of q.a) (constant_of q.b) q)

abbrev pub IsQuadWithin : ℕ → Quad → Type 0
IsQuadWithin m q = IsWithin m q.a × IsWithin m q.b × IsWithin m q.c

abbrev pub IsConstraintWithin : ℕ → Constraint → Type 0
IsConstraintWithin m n = IsWithin m n.a × IsWithin m n.b × IsWithin m n.c

-- the normal constraint of k * factor + c = 0
pub record IsLinear (k : ℕ) (factor c : List Term) (n : Constraint) : Type 0 where
  pub left : n.a ≡ []
  pub right : n.b ≡ []
  pub rest : value_of n.c ≡ negated (added (value_of c) (scaled k (value_of factor)))
