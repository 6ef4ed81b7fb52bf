-- A linear combination in place of a signal.
use Rattle.std.specs.Prelude.{ℕ, zero, suc, ◌<◌, ◌%◌, List}
use Rattle.std.proofs.Common.{mod-lt, lit<}
use Rattle.gold_field.specs.declared.form.Term.{Term}
use Rattle.gold_field.specs.declared.form.Constraint.{Constraint}
use Rattle.gold_field.specs.declared.gold.TheConstants.{P}
use Rattle.cir_lc.specs.Number.{Assignment, Number, value_of, negated}
use Rattle.cir_lc.specs.Sparse.{form_of, normal_of}

-- the number v at k, and elsewhere what stands there
abbrev pub put : ℕ → ℕ → (ℕ → ℕ) → ℕ → ℕ
put zero v s zero = v
put zero v s (suc j) = s (suc j)
put (suc k) v s zero = s zero
put (suc k) v s (suc j) = put k v (λ i. s (suc i)) j

pub put-small : (k v : ℕ) (s : ℕ → ℕ) → v < P → ((j : ℕ) → s j < P) → (j : ℕ) → put k v s j < P
put-small zero v s l h zero = l
put-small zero v s l h (suc j) = h (suc j)
put-small (suc k) v s l h zero = h zero
put-small (suc k) v s l h (suc j) = put-small k v (λ i. s (suc i)) l (λ i. h (suc i)) j

-- the signal has the number v; signal 0 keeps 1
abbrev pub with_number : ℕ → ℕ → Assignment → Assignment
with_number zero v s = s
with_number (suc k) v s = record {
  at = put (suc k) (v % P) s.at;
  one = s.one;
  below = put-small (suc k) (v % P) s.at (mod-lt v (lit< tt)) s.below;
}

-- f where the signal has the number that g has
unfoldable pub substituted : ℕ → Number → Number → Number
substituted signal g f = λ s. f (with_number signal (g s) s)

-- the normal constraint where `by` stands in place of the signal; all signals are below n
abbrev pub substitute : ℕ → ℕ → List Term → Constraint → Constraint
substitute n signal by k = normal_of n record {
  a = form_of n (substituted signal (value_of by) (value_of k.a));
  b = form_of n (substituted signal (value_of by) (value_of k.b));
  c = form_of n (negated (substituted signal (value_of by) (value_of k.c)));
}
