-- One more term of a sum.
use Rattle.std.proofs.Common.{◌≡◌, ℕ, zero, suc, ◌+◌, ◌*◌, ◌%◌, ◌<◌, List, [], ◌∷◌, ◌++◌, arith}
use Rattle.std.proofs.Common.{refl, ap, sym, subst, ◌∙◌, mod-lt, lit<}
use Rattle.std.proofs.Math.Nat.{mod-add-mod, add-mod-mod, mod-mod}
use Rattle.std.proofs.lemmas.Nat.{mul-mod_first}
use Rattle.std.proofs.lemmas.List.{append_assoc, append-nil}
use Rattle.std.proofs.lemmas.List.Elements.{All-append, All-head, All-tail, All-cons, All-nil}
use Rattle.gold_field.specs.declared.form.Term.{Term}
use Rattle.gold_field.specs.declared.gold.TheConstants.{P}
use Rattle.gold_field.specs.Rises.{RisesFrom}
use Rattle.cir_lc.specs.Terms.{IsWithin, term_of}
use Rattle.cir_lc.specs.Merge.{total, IsMerged}
use Rattle.cir_lc.proofs.Rising.{other_rest, left_out, other_coef, rest_rises, front_rises}
use Rattle.cir_lc.proofs.Totals.{total-nil, total-cons, total-append}

abbrev Small : ℕ → Term → Type 0
Small n t = (t.signal < n) × (t.coef < P)

pub total-term : (s : ℕ → ℕ) (g c : ℕ) → total s (term_of g c) ≡ c * s g
total-term s g zero = omega (arith, total-nil s)
total-term s g (suc c) =
    omega (arith, total-cons s (record { signal = g; coef = suc c }) [], total-nil s)

rises_term : (out us : List Term) (t : Term) (g c : ℕ) → g ≡ t.signal → RisesFrom 0 (out ++ t ∷ us)
    → RisesFrom 0 ((out ++ term_of g c) ++ us)
rises_term out us t g zero e h = rw append-nil (left_out 0 out t us h)
rises_term out us t g (suc c) e h =
    rw (append_assoc, e) (other_coef 0 out t (suc c) us (omega arith) h)

within_term : (n g c : ℕ) → g < n → c < P → IsWithin n (term_of g c)
within_term n g zero h k = All-nil (Small n)
within_term n g (suc c) h k =
    All-cons (Small n) (record { signal = g; coef = suc c }) [] (h, k) (All-nil (Small n))

pub within_one : (n g c m : ℕ) → g < n → m ≡ c → m < P
    → IsWithin n (record { signal = g; coef = c } ∷ [])
within_one n g c m h e k =
    All-cons (Small n) (record { signal = g; coef = c }) []
    (h, subst (λ (i : ℕ). i < P) e k) (All-nil (Small n))

-- the walk takes the lower signal: of a ..
pub step_left : (k : ℕ) (a b out us vs : List Term) (x y : Term) → x.signal < y.signal
    → IsMerged k a b out (x ∷ us) (y ∷ vs) → IsMerged k a b (out ++ x ∷ []) us (y ∷ vs)
step_left k a b out us vs x y l m = record {
  rises_left = rw append_assoc m.rises_left;
  rises_right =
      rw append_assoc (other_rest 0 out x us (y ∷ vs) m.rises_left (omega arith, above.1, above.2));
  value = λ s. ap (λ (n : ℕ). n % P) (moved s) ∙ m.value s;
  within = λ n p q.
      let w = m.within n p q in (
        All-append (Small n) out (x ∷ []) w.0
            (All-cons (Small n) x [] (All-head (Small n) x us w.1) (All-nil (Small n))),
        All-tail (Small n) x us w.1,
        w.2,
      );
}
  where
    above : RisesFrom 0 (y ∷ vs)
    above = rest_rises 0 out (y ∷ vs) m.rises_right

    moved : (s : ℕ → ℕ) → total s (out ++ x ∷ []) + (total s us + k * total s (y ∷ vs))
        ≡ total s out + (total s (x ∷ us) + k * total s (y ∷ vs))
    moved s =
        omega (
          arith,
          total-append s out (x ∷ []),
          total-cons s x [],
          total-nil s,
          total-cons s x us,
        )

-- the remainder of a sum of remainders
reduced_first : (c k d e m : ℕ) → c % m ≡ d % m → (c * k + e) % m ≡ (d * k + e) % m
reduced_first c k d e m h =
    sym (mod-add-mod (c * k) m e)
    ∙ ap (λ (n : ℕ). (n + e) % m) (sym (mul-mod_first c k m) ∙ ap (λ (n : ℕ). (n * k) % m) h
    ∙ mul-mod_first d k m) ∙ mod-add-mod (d * k) m e

-- a term with the coefficient c stands for one with a coefficient that has the same remainder
term_stands : (s : ℕ → ℕ) (out : List Term) (g c d r : ℕ) → c ≡ d % P
    → (total s (out ++ term_of g c) + r) % P ≡ (total s out + d * s g + r) % P
term_stands s out g c d r h =
    let before : total s (out ++ term_of g c) + r ≡ c * s g + (total s out + r) =
    omega (arith, total-append s out (term_of g c), total-term s g c) in
    let after : d * s g + (total s out + r) ≡ total s out + d * s g + r = omega arith in
    ap (λ (n : ℕ). n % P) before
    ∙ reduced_first c (s g) d (total s out + r) P (ap (λ (n : ℕ). n % P) h ∙ mod-mod d P)
    ∙ ap (λ (n : ℕ). n % P) after

-- .. or of b, whose multiple fits in front of what is left of a
pub step_right : (k : ℕ) (a b out us vs : List Term) (y : Term) (c : ℕ) → c ≡ (y.coef * k) % P
    → RisesFrom 0 (out ++ y ∷ us) → IsMerged k a b out us (y ∷ vs)
    → IsMerged k a b (out ++ term_of y.signal c) us vs
step_right k a b out us vs y c h r m = record {
  rises_left = rises_term out us y y.signal c refl r;
  rises_right = rises_term out vs y y.signal c refl m.rises_right;
  value = λ s. moved s ∙ m.value s;
  within = λ n p q.
      let w = m.within n p q in
      let t : IsWithin n (term_of y.signal c) =
      within_term n y.signal c (All-head (Small n) y vs w.2).0
      (subst (λ (k : ℕ). k < P) (sym h) (mod-lt (y.coef * k) (lit< tt))) in (
        All-append (Small n) out (term_of y.signal c) w.0 t,
        w.1,
        All-tail (Small n) y vs w.2,
      );
}
  where
    moved : (s : ℕ → ℕ) → (total s (out ++ term_of y.signal c) + (total s us + k * total s vs)) % P
        ≡ (total s out + (total s us + k * total s (y ∷ vs))) % P
    moved s =
        term_stands s out y.signal c (y.coef * k) (total s us + k * total s vs) h
        ∙ ap (λ (n : ℕ). n % P) (omega (arith, ap (λ (n : ℕ). k * n) (total-cons s y vs)))

-- the term of b stands in front of the greater one of a
pub before : (out us vs : List Term) (x y : Term) → y.signal < x.signal
    → RisesFrom 0 (out ++ x ∷ us) → RisesFrom 0 (out ++ y ∷ vs) → RisesFrom 0 (out ++ y ∷ (x ∷ us))
before out us vs x y l p q =
    let above : RisesFrom 0 (x ∷ us) = rest_rises 0 out (x ∷ us) p in
    other_rest 0 out y vs (x ∷ us) q (omega arith, above.1, above.2)

-- or the signal of both
pub step_both : (k : ℕ) (a b out us vs : List Term) (x y : Term) (c d : ℕ) → x.signal ≡ y.signal
    → d ≡ (y.coef * k) % P → c ≡ (x.coef + d) % P → IsMerged k a b out (x ∷ us) (y ∷ vs)
    → IsMerged k a b (out ++ term_of x.signal c) us vs
step_both k a b out us vs x y c d e g h m = record {
  rises_left = rises_term out us x x.signal c refl m.rises_left;
  rises_right = rises_term out vs y x.signal c e m.rises_right;
  value = λ s. moved s ∙ m.value s;
  within = λ n p q.
      let w = m.within n p q in
      let t : IsWithin n (term_of x.signal c) =
      within_term n x.signal c (All-head (Small n) x us w.1).0
      (subst (λ (k : ℕ). k < P) (sym h) (mod-lt (x.coef + d) (lit< tt))) in (
        All-append (Small n) out (term_of x.signal c) w.0 t,
        All-tail (Small n) x us w.1,
        All-tail (Small n) y vs w.2,
      );
}
  where
    both : c ≡ (x.coef + y.coef * k) % P
    both = h ∙ ap (λ (n : ℕ). (x.coef + n) % P) g ∙ add-mod-mod x.coef (y.coef * k) P

    moved : (s : ℕ → ℕ) → (total s (out ++ term_of x.signal c) + (total s us + k * total s vs)) % P
        ≡ (total s out + (total s (x ∷ us) + k * total s (y ∷ vs))) % P
    moved s =
        term_stands s out x.signal c (x.coef + y.coef * k) (total s us + k * total s vs) both
        ∙ ap (λ (n : ℕ). n % P)
        (omega (
          arith,
          total-cons s x us,
          ap (λ (n : ℕ). k * n) (total-cons s y vs),
          ap (λ (n : ℕ). y.coef * k * s n) e,
        ))

-- nothing is left of b: what is left of a ends the sum
pub last_left : (k : ℕ) (a b out us : List Term) → IsMerged k a b out us []
    → IsMerged k a b (out ++ us) [] []
last_left k a b out us m = record {
  rises_left = rw append-nil m.rises_left;
  rises_right = rw append-nil m.rises_left;
  value = λ s. ap (λ (n : ℕ). n % P) (moved s) ∙ m.value s;
  within = λ n p q. let w = m.within n p q
      in (All-append (Small n) out us w.0 w.1, All-nil (Small n), All-nil (Small n));
}
  where
    moved : (s : ℕ → ℕ) → total s (out ++ us) + (total s [] + k * total s [])
        ≡ total s out + (total s us + k * total s [])
    moved s = omega (arith, total-append s out us, total-nil s)

pub none_merged : (k : ℕ) (a b : List Term) → RisesFrom 0 a → RisesFrom 0 b
    → IsMerged k a b [] a b
none_merged k a b p q = record {
  rises_left = p;
  rises_right = q;
  value = λ s. ap (λ (n : ℕ). n % P) (none s);
  within = λ n v w. (All-nil (Small n), v, w);
}
  where
    none : (s : ℕ → ℕ) → total s [] + (total s a + k * total s b) ≡ total s a + k * total s b
    none s = omega (arith, total-nil s)

-- nothing of b stands behind a yet
pub none_behind : (k : ℕ) (a b : List Term) → RisesFrom 0 (a ++ b) → IsMerged k a b a [] b
none_behind k a b p = record {
  rises_left = rw append-nil (front_rises 0 a b p);
  rises_right = p;
  value = λ s. ap (λ (n : ℕ). n % P) (none s);
  within = λ n v w. (v, All-nil (Small n), w);
}
  where
    none : (s : ℕ → ℕ) → total s a + (total s [] + k * total s b) ≡ total s a + k * total s b
    none s = omega (arith, total-nil s)

-- what is left of b ends the sum
pub joined : (k : ℕ) (a b mid vs out : List Term) → IsMerged k a b mid [] vs
    → IsMerged k mid vs out [] [] → IsMerged k a b out [] []
joined k a b mid vs out m n = record {
  rises_left = n.rises_left;
  rises_right = n.rises_right;
  value = λ s. n.value s ∙ ap (λ (n : ℕ). n % P) (moved s) ∙ m.value s;
  within = λ i p q. let w = m.within i p q in n.within i w.0 w.2;
}
  where
    moved : (s : ℕ → ℕ) → total s mid + k * total s vs
        ≡ total s mid + (total s [] + k * total s vs)
    moved s = omega (arith, total-nil s)
