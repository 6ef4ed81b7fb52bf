-- The sparse form of a linear number, and the normal constraint as a list.
use Rattle.std.specs.Prelude.{◌≡◌, ℕ, zero, suc, List, [], ◌++◌, ◌⊎◌, None}
use Rattle.gold_field.specs.declared.form.Term.{Term}
use Rattle.gold_field.specs.declared.form.Constraint.{Constraint}
use Rattle.gold_field.specs.Rises.{RisesFrom}
use Rattle.cir_lc.specs.declared.quad.Quad.{Quad}
use Rattle.cir_lc.specs.Number.{Number, negated}
use Rattle.cir_lc.specs.Coefficient.{coefficient}
use Rattle.cir_lc.specs.Terms.{term_of}
use Rattle.cir_lc.specs.Normal.{constant_of, kept_of, rest_of}

-- the terms of a linear number that names signals below n alone
abbrev pub form_of : ℕ → Number → List Term
form_of zero f = []
form_of (suc n) f = form_of n f ++ term_of n (coefficient f n)

-- the normal constraint of `a * b + c = 0`, where the signals are below n
abbrev pub normal_of : ℕ → Quad → Constraint
normal_of n q = record {
  a = kept_of (constant_of q.a) (constant_of q.b) q.a;
  b = kept_of (constant_of q.a) (constant_of q.b) q.b;
  c = form_of n (negated (rest_of (constant_of q.a) (constant_of q.b) q));
}

-- A and B are both empty, or neither of them is a constant
abbrev pub IsNormalForm : Constraint → Type 0
IsNormalForm k = ((k.a ≡ []) × (k.b ≡ [])) ⊎ ((constant_of k.a ≡ None) × (constant_of k.b ≡ None))

-- the terms of A, B and C stand by rising signal, none with coefficient 0
abbrev pub IsRising : Constraint → Type 0
IsRising k = RisesFrom 0 k.a × RisesFrom 0 k.b × RisesFrom 0 k.c
