-- The form of a sparse linear combination.
use Rattle.std.specs.Prelude.{ℕ, ◌+◌, ◌<◌, ◌≤◌, List, [], ◌∷◌}
use Rattle.gold_field.specs.declared.form.Term.{Term}

-- signals rise, the first of them from `low` on, and no coefficient is 0
abbrev pub RisesFrom : ℕ → List Term → Type 0
RisesFrom low [] = Unit {0}
RisesFrom low (t ∷ ts) = (low ≤ t.signal) × (0 < t.coef) × RisesFrom (t.signal + 1) ts
