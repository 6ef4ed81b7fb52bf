-- Numbers that depend on the signals, and what sums, multiples and products of them are.
use Rattle.std.specs.Prelude.{◌≡◌, ℕ, ◌+◌, ◌-◌, ◌*◌, ◌%◌, ◌<◌, List}
use Rattle.gold_field.specs.declared.form.Term.{Term}
use Rattle.gold_field.specs.declared.gold.TheConstants.{P}
use Rattle.gold_field.specs.Form.{value_at}

-- a number of the field for each signal, and 1 for signal 0
pub record Assignment : Type 0 where
  pub at : ℕ → ℕ
  pub one : at 0 ≡ 1
  pub below : (k : ℕ) → at k < P

-- a number for each assignment
abbrev pub Number : Type 0
Number = Assignment → ℕ

-- the same number at each assignment
unfoldable pub constant : ℕ → Number
constant k = λ s. k

-- what the assignment gives to the signal
unfoldable pub signal : ℕ → Number
signal n = λ s. s.at n

unfoldable pub added : Number → Number → Number
added f g = λ s. (f s + g s) % P

unfoldable pub scaled : ℕ → Number → Number
scaled k f = λ s. (k * f s) % P

unfoldable pub multiplied : Number → Number → Number
multiplied f g = λ s. (f s * g s) % P

unfoldable pub negated : Number → Number
negated f = λ s. ((P - 1) * f s) % P

-- the number that a linear combination stands for
unfoldable pub value_of : List Term → Number
value_of terms = λ s. value_at s.at terms
