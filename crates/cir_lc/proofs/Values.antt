-- The numbers of a sum and of a multiple.
use Rattle.std.proofs.Common.{◌≡◌, ℕ, ◌+◌, ◌*◌, ◌%◌, List, [], ◌∷◌, arith, refl, ap, sym, ◌∙◌}
use Rattle.std.proofs.Math.Nat.{mod-add-mod, add-mod-mod, mod-mod}
use Rattle.std.proofs.lemmas.Nat.{mul-mod_second}
use Rattle.gold_field.specs.declared.form.Term.{Term}
use Rattle.gold_field.specs.declared.gold.TheConstants.{P}
use Rattle.cir_lc.specs.Number.{Assignment, value_of, signal, added, scaled}
use Rattle.cir_lc.specs.Merge.{total, IsMerged}
use Rattle.cir_lc.proofs.Totals.{total-nil, total-cons}

pub value-total : (s : Assignment) (ts : List Term) → value_of ts s ≡ total s.at ts % P
unfolding value_of total
value-total s ts = refl

pub small_value : (ts : List Term) (s : Assignment) → value_of ts s % P ≡ value_of ts s
unfolding value_of
small_value ts s = mod-mod _ P

pub scaled_at : (k : ℕ) (f : List Term) (s : Assignment)
    → (k * total s.at f) % P ≡ scaled k (value_of f) s
unfolding scaled
scaled_at k f s =
    sym (mul-mod_second k (total s.at f) P) ∙ ap (λ (n : ℕ). (k * n) % P) (sym (value-total s f))

pub added_at : (f g : List Term) (s : Assignment) → (total s.at f + total s.at g) % P
    ≡ added (value_of f) (value_of g) s
unfolding added
added_at f g s =
    sym (mod-add-mod (total s.at f) P (total s.at g))
    ∙ sym (add-mod-mod (total s.at f % P) (total s.at g) P)
    ∙ ap (λ (n : ℕ). (n + total s.at g % P) % P) (sym (value-total s f))
    ∙ ap (λ (n : ℕ). (value_of f s + n) % P) (sym (value-total s g))

more_at : (k : ℕ) (f g : List Term) (s : Assignment) → (total s.at f + k * total s.at g) % P
    ≡ added (value_of f) (scaled k (value_of g)) s
unfolding added
more_at k f g s =
    sym (mod-add-mod (total s.at f) P (k * total s.at g))
    ∙ sym (add-mod-mod (total s.at f % P) (k * total s.at g) P)
    ∙ ap (λ (n : ℕ). (n + (k * total s.at g) % P) % P) (sym (value-total s f))
    ∙ ap (λ (n : ℕ). (value_of f s + n) % P) (scaled_at k g s)

pub value-sum : (k : ℕ) (a b out : List Term) → IsMerged k a b out [] []
    → value_of out ≡ added (value_of a) (scaled k (value_of b))
value-sum k a b out m = λ i s. at s i
  where
    none : (s : Assignment) → total s.at out
        ≡ total s.at out + (total s.at [] + k * total s.at [])
    none s = omega (arith, total-nil s.at, ap (λ (n : ℕ). k * n) (total-nil s.at))

    at : (s : Assignment) → value_of out s ≡ added (value_of a) (scaled k (value_of b)) s
    at s = value-total s out ∙ ap (λ (n : ℕ). n % P) (none s) ∙ m.value s.at ∙ more_at k a b s

pub value-multiple : (k : ℕ) (a out : List Term) → IsMerged k [] a out [] []
    → value_of out ≡ scaled k (value_of a)
value-multiple k a out m = λ i s. at s i
  where
    none : (s : Assignment) → total s.at out
        ≡ total s.at out + (total s.at [] + k * total s.at [])
    none s = omega (arith, total-nil s.at, ap (λ (n : ℕ). k * n) (total-nil s.at))

    alone : (s : Assignment) → total s.at [] + k * total s.at a ≡ k * total s.at a
    alone s = omega (arith, total-nil s.at)

    at : (s : Assignment) → value_of out s ≡ scaled k (value_of a) s
    at s = value-total s out ∙ ap (λ (n : ℕ). n % P) (none s) ∙ m.value s.at
        ∙ ap (λ (n : ℕ). n % P) (alone s) ∙ scaled_at k a s

pub value-single : (x j : ℕ) → value_of (record { signal = x; coef = j } ∷ []) ≡ scaled j (signal x)
unfolding scaled signal
value-single x j = λ i s. at s i
  where
    at : (s : Assignment) → value_of (record { signal = x; coef = j } ∷ []) s ≡ (j * s.at x) % P
    at s = value-total s (record { signal = x; coef = j } ∷ [])
        ∙ ap (λ (n : ℕ). n % P) (total-cons s.at (record { signal = x; coef = j }) []
        ∙ omega (arith, total-nil s.at))

pub scaled-one : (f : List Term) → scaled 1 (value_of f) ≡ value_of f
unfolding scaled
scaled-one f = λ i s. at s i
  where
    at : (s : Assignment) → (1 * value_of f s) % P ≡ value_of f s
    at s =
        let one : 1 * value_of f s ≡ value_of f s = omega arith in
        ap (λ (n : ℕ). n % P) one ∙ small_value f s
