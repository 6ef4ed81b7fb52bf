-- Sums of terms.
use Rattle.std.proofs.Common.{◌≡◌, ℕ, ◌+◌, ◌*◌, List, [], ◌∷◌, ◌++◌, refl}
use Rattle.std.proofs.lemmas.List.Sums.{sum_by-cons, sum_by-append}
use Rattle.gold_field.specs.declared.form.Term.{Term}
use Rattle.cir_lc.specs.Merge.{total}

pub total-nil : (s : ℕ → ℕ) → total s [] ≡ 0
unfolding total
total-nil s = refl

pub total-cons : (s : ℕ → ℕ) (t : Term) (ts : List Term)
    → total s (t ∷ ts) ≡ t.coef * s t.signal + total s ts
unfolding total
total-cons s t ts = sum_by-cons (λ (t : Term). t.coef * s t.signal) t ts

pub total-append : (s : ℕ → ℕ) (ts us : List Term) → total s (ts ++ us) ≡ total s ts + total s us
unfolding total
total-append s ts us = sum_by-append (λ (t : Term). t.coef * s t.signal) ts us
