-- The terms of a constraint whose signals have numbers.
use Rattle.std.proofs.Common.{◌≡◌, ℕ, zero, suc, ◌+◌, ◌-◌, ◌*◌, ◌%◌}
use Rattle.std.proofs.Common.{◌<◌, ◌≤◌, ◌&&◌, ◌==◌, Bool, cond, List, []}
use Rattle.std.proofs.Common.{◌∷◌, length, get_or, Option, Some, None, refl, ap, sym}
use Rattle.std.proofs.Common.{◌∙◌, arith, inl, inr}
use Rattle.std.specs.Prelude.{filter, nat_lt}
use Rattle.std.proofs.lemmas.List.Elements.{All-cons, All-head, All-tail, All-nil}
use Rattle.std.proofs.lemmas.Bool.{cases_lt, lt-ltb, le-ltb}
use Rattle.gold_field.specs.declared.gold.TheConstants.{P}
use Rattle.gold_field.specs.declared.form.Term.{Term}
use Rattle.gold_field.specs.declared.form.Constraint.{Constraint}
use Rattle.gold_field.specs.Rises.{RisesFrom}
use Rattle.cir_lc.specs.declared.quad.Quad.{Quad}
use Rattle.cir_lc.specs.Number.{Number, value_of, added, scaled, negated}
use Rattle.cir_lc.specs.Coefficient.{origin, unit, coefficient, counted, terms_below, is_constant}
use Rattle.cir_lc.specs.Coefficient.{constant_in, one_at}
use Rattle.cir_lc.specs.Terms.{IsWithin}
use Rattle.cir_lc.specs.Normal.{IsNormal, IsQuadWithin, IsConstraintWithin}
use Rattle.cir_lc.proofs.Known.{coef_of, coef_apart, value_origin, value_unit}
use Rattle.cir_lc.proofs.Totals.{total-cons}
use Rattle.cir_lc.proofs.Rising.{lower}
use Rattle.cir_meaning.specs.Values.{Parts}
use Rattle.cir_meaning.specs.Source.{parts_from, terms_by, terms_of}
use Rattle.cir_meaning.proofs.TermCount.{terms_normal}

abbrev pub numbered : ℕ → List Term → List Term
numbered n ts = filter (λ t. nat_lt t.signal n) ts

numbered_first : (n : ℕ) (t : Term) (ts : List Term) → t.signal < n
    → numbered n (t ∷ ts) ≡ t ∷ numbered n ts
numbered_first n t ts h =
    ap (λ (b : Bool). cond b (t ∷ numbered n ts) (numbered n ts)) (lt-ltb t.signal n h)

numbered_other : (n : ℕ) (t : Term) (ts : List Term) → n ≤ t.signal
    → numbered n (t ∷ ts) ≡ numbered n ts
numbered_other n t ts h =
    ap (λ (b : Bool). cond b (t ∷ numbered n ts) (numbered n ts)) (le-ltb t.signal n h)

coef_numbered : (k n : ℕ) (ts : List Term) → k < n
    → coef_of k (numbered n ts) ≡ coef_of k ts
coef_numbered k n [] h = refl
coef_numbered k n (t ∷ ts) h =
    elim (cases_lt t.signal n) [
      | inl l ↦ ap (coef_of k) (numbered_first n t ts l)
          ∙ total-cons (one_at k) t (numbered n ts)
          ∙ ap (λ (c : ℕ). t.coef * one_at k t.signal + c) (coef_numbered k n ts h)
          ∙ sym (total-cons (one_at k) t ts)
      | inr l ↦ ap (coef_of k) (numbered_other n t ts l) ∙ coef_numbered k n ts h
          ∙ sym (coef_apart k t ts (inl (omega arith)))
    ]

pub numbered_rises : (n low : ℕ) (ts : List Term) → RisesFrom low ts
    → RisesFrom low (numbered n ts)
numbered_rises n low [] h = tt
numbered_rises n low (t ∷ ts) h =
    elim (cases_lt t.signal n) [
      | inl l ↦ rw (numbered_first n t ts l)
          (h.0, h.1, numbered_rises n (t.signal + 1) ts h.2)
      | inr l ↦ rw (numbered_other n t ts l)
          (lower low (t.signal + 1) (numbered n ts) (omega (arith, h.0))
          (numbered_rises n (t.signal + 1) ts h.2))
    ]

abbrev Small : ℕ → Term → Type 0
Small n t = (t.signal < n) × (t.coef < P)

pub numbered_within : (n m : ℕ) (ts : List Term) → IsWithin m ts → IsWithin n (numbered n ts)
numbered_within n m [] w = All-nil (Small n)
numbered_within n m (t ∷ ts) w =
    elim (cases_lt t.signal n) [
      | inl l ↦ rw (numbered_first n t ts l)
          (All-cons (Small n) t (numbered n ts) (l, (All-head (Small m) t ts w).1)
          (numbered_within n m ts (All-tail (Small m) t ts w)))
      | inr l ↦ rw (numbered_other n t ts l)
          (numbered_within n m ts (All-tail (Small m) t ts w))
    ]

-- two numbers tell the same of the signals below n
pub record Agrees (n : ℕ) (f g : Number) : Type 0 where
  pub none : f origin ≡ g origin
  pub one : (k : ℕ) → suc k < n → f (unit k) ≡ g (unit k)

numbered_agrees : (n : ℕ) (ts : List Term) → 0 < n
    → Agrees n (value_of (numbered n ts)) (value_of ts)
numbered_agrees n ts h = record {
  none = value_origin (numbered n ts) ∙ ap (λ (c : ℕ). c % P) (coef_numbered 0 n ts h)
      ∙ sym (value_origin ts);
  one = λ k l. value_unit k (numbered n ts)
      ∙ ap (λ (c : ℕ). (c + coef_of (suc k) (numbered n ts)) % P) (coef_numbered 0 n ts h)
      ∙ ap (λ (c : ℕ). (coef_of 0 ts + c) % P) (coef_numbered (suc k) n ts l)
      ∙ sym (value_unit k ts);
}

added_agrees : (n : ℕ) (f g h k : Number) → Agrees n f g → Agrees n h k
    → Agrees n (added f h) (added g k)
unfolding added
added_agrees n f g h k p q = record {
  none = ap (λ (x : ℕ). (x + h origin) % P) p.none
      ∙ ap (λ (x : ℕ). (g origin + x) % P) q.none;
  one = λ j l. ap (λ (x : ℕ). (x + h (unit j)) % P) (p.one j l)
      ∙ ap (λ (x : ℕ). (g (unit j) + x) % P) (q.one j l);
}

scaled_agrees : (n j : ℕ) (f g : Number) → Agrees n f g → Agrees n (scaled j f) (scaled j g)
unfolding scaled
scaled_agrees n j f g p = record {
  none = ap (λ (x : ℕ). (j * x) % P) p.none;
  one = λ k l. ap (λ (x : ℕ). (j * x) % P) (p.one k l);
}

negated_agrees : (n : ℕ) (f g : Number) → Agrees n f g → Agrees n (negated f) (negated g)
unfolding negated
negated_agrees n f g p = record {
  none = ap (λ (x : ℕ). ((P - 1) * x) % P) p.none;
  one = λ k l. ap (λ (x : ℕ). ((P - 1) * x) % P) (p.one k l);
}

coefficient_same : (n k : ℕ) (f g : Number) → Agrees n f g → k < n
    → coefficient f k ≡ coefficient g k
coefficient_same n zero f g p h = p.none
coefficient_same n (suc k) f g p h =
    ap (λ (x : ℕ). (x + (P - f origin)) % P) (p.one k h)
    ∙ ap (λ (x : ℕ). (g (unit k) + (P - x)) % P) p.none

terms_same : (n m : ℕ) (f g : Number) → Agrees n f g → m ≤ n
    → terms_below m f ≡ terms_below m g
terms_same n zero f g p h = refl
terms_same n (suc m) f g p h =
    ap (λ (x : ℕ). x + counted (coefficient f m)) (terms_same n m f g p (omega arith))
    ∙ ap (λ (x : ℕ). terms_below m g + counted x) (coefficient_same n m f g p (omega arith))

constant_same : (n m : ℕ) (f g : Number) → Agrees n f g → m < n
    → is_constant m f ≡ is_constant m g
constant_same n zero f g p h = refl
constant_same n (suc m) f g p h =
    ap (λ (b : Bool). b && (coefficient f (suc m) == 0)) (constant_same n m f g p (omega arith))
    ∙ ap (λ (x : ℕ). is_constant m g && (x == 0)) (coefficient_same n (suc m) f g p h)

constant_in_same : (n m : ℕ) (f g : Number) → Agrees n f g → m < n
    → constant_in m f ≡ constant_in m g
constant_in_same n m f g p h =
    ap (λ (b : Bool). cond b (Some (f origin)) None) (constant_same n m f g p h)
    ∙ ap (λ (x : ℕ). cond (is_constant m g) (Some x) None) p.none

terms_by_same : (n : ℕ) (o u : Option ℕ) (p q : Parts) → Agrees n p.a q.a → Agrees n p.b q.b
    → Agrees n p.c q.c → terms_by n o u p ≡ terms_by n o u q
terms_by_same n (Some k) u p q a b c =
    terms_same n n _ _ (negated_agrees n _ _ (added_agrees n _ _ _ _ c (scaled_agrees n k _ _ b)))
    (omega arith)
terms_by_same n None (Some k) p q a b c =
    terms_same n n _ _ (negated_agrees n _ _ (added_agrees n _ _ _ _ c (scaled_agrees n k _ _ a)))
    (omega arith)
terms_by_same n None None p q a b c =
    let first : terms_below n p.a ≡ terms_below n q.a = terms_same n n _ _ a (omega arith) in
    let second : terms_below n p.b ≡ terms_below n q.b = terms_same n n _ _ b (omega arith) in
    let third : terms_below n (negated p.c) ≡ terms_below n (negated q.c) =
    terms_same n n _ _ (negated_agrees n _ _ c) (omega arith) in
    omega arith

terms_of_same : (n : ℕ) (p q : Parts) → 0 < n → Agrees n p.a q.a → Agrees n p.b q.b
    → Agrees n p.c q.c → terms_of n p ≡ terms_of n q
terms_of_same n p q h a b c =
    ap (λ (o : Option ℕ). terms_by n o (constant_in (n - 1) p.b) p)
    (constant_in_same n (n - 1) p.a q.a a (omega arith))
    ∙ ap (λ (o : Option ℕ). terms_by n (constant_in (n - 1) q.a) o p)
    (constant_in_same n (n - 1) p.b q.b b (omega arith))
    ∙ terms_by_same n _ _ p q a b c

-- the terms are those of the normal constraint of what names signals with numbers alone
pub numbered_terms : (n m : ℕ) (q r : Quad) (k : Constraint) → 0 < n
    → RisesFrom 0 q.a → RisesFrom 0 q.b → IsQuadWithin m q → r.a ≡ numbered n q.a
    → r.b ≡ numbered n q.b → r.c ≡ numbered n q.c → IsNormal r k
    → RisesFrom 0 k.a → RisesFrom 0 k.b → RisesFrom 0 k.c
    → (IsQuadWithin n r → IsConstraintWithin n k)
    → terms_of n (parts_from q) ≡ length k.a + length k.b + length k.c
numbered_terms n m q r k h qa qb w ea eb ec normal ka kb kc within =
    let wa : IsWithin n r.a = rw ea (numbered_within n m q.a w.0) in
    let wb : IsWithin n r.b = rw eb (numbered_within n m q.b w.1) in
    let wc : IsWithin n r.c = rw ec (numbered_within n m q.c w.2) in
    let a : Agrees n (value_of r.a) (value_of q.a) = rw ea (numbered_agrees n q.a h) in
    let b : Agrees n (value_of r.b) (value_of q.b) = rw eb (numbered_agrees n q.b h) in
    let c : Agrees n (value_of r.c) (value_of q.c) = rw ec (numbered_agrees n q.c h) in
    let ra : RisesFrom 0 r.a = rw ea (numbered_rises n 0 q.a qa) in
    let rb : RisesFrom 0 r.b = rw eb (numbered_rises n 0 q.b qb) in
    sym (terms_of_same n (parts_from r) (parts_from q) h a b c)
    ∙ terms_normal n r k h ra rb (wa, wb, wc) normal ka kb kc (within (wa, wb, wc))

-- a list that rises is within where its last signal is
pub last_within : (n m low : ℕ) (ts : List Term) (d : Term) → RisesFrom low ts → IsWithin m ts
    → (get_or ts (length ts - 1) d).signal < n → IsWithin n ts
last_within n m low [] d h w last = All-nil (Small n)
last_within n m low (t ∷ []) d h w last =
    All-cons (Small n) t [] (last, (All-head (Small m) t [] w).1) (All-nil (Small n))
last_within n m low (t ∷ (u ∷ ts)) d h w last =
    let more : length (t ∷ (u ∷ ts)) - 1 ≡ suc (length (u ∷ ts) - 1) = omega arith in
    let same : get_or (t ∷ (u ∷ ts)) (length (t ∷ (u ∷ ts)) - 1) d
    ≡ get_or (u ∷ ts) (length (u ∷ ts) - 1) d =
    ap (λ (j : ℕ). get_or (t ∷ (u ∷ ts)) j d) more in
    let rest : IsWithin n (u ∷ ts) =
    last_within n m (t.signal + 1) (u ∷ ts) d h.2 (All-tail (Small m) t (u ∷ ts) w)
    (omega (arith, last, ap (λ (x : Term). x.signal) same)) in
    All-cons (Small n) t (u ∷ ts) (
      omega (arith, h.2.0, (All-head (Small n) u ts rest).0),
      (All-head (Small m) t (u ∷ ts) w).1,
    ) rest
