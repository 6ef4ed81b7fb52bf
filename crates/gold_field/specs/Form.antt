-- Linear combinations of signals and rank-1 constraints, at an assignment of numbers to signals.
use Rattle.std.specs.Prelude.{◌≡◌, ℕ, ◌*◌, ◌%◌, ◌<◌, List, All, sum_by}
use Rattle.gold_field.specs.declared.form.Term.{Term}
use Rattle.gold_field.specs.declared.form.Constraint.{Constraint}
use Rattle.gold_field.specs.declared.gold.TheConstants.{P}

-- the sum of the terms, as a number of the field; s has a number for each signal, and that signal 0
-- has 1 isn't asked here
abbrev pub value_at : (ℕ → ℕ) → List Term → ℕ
value_at s terms = sum_by (λ t. t.coef * s t.signal) terms % P

-- A * B - C = 0
abbrev pub Holds : (ℕ → ℕ) → Constraint → Type 0
Holds s k = (value_at s k.a * value_at s k.b) % P ≡ value_at s k.c

-- every signal has a number among the first n
abbrev pub SignalsBelow : ℕ → List Term → Type 0
SignalsBelow n terms = All (λ t. t.signal < n) terms

pub record ConstraintBelow (n : ℕ) (k : Constraint) : Type 0 where
  pub a : SignalsBelow n k.a
  pub b : SignalsBelow n k.b
  pub c : SignalsBelow n k.c
