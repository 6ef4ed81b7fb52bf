-- Sums of powers of two that differ, bit by bit.
use Rattle.std.proofs.Common.{◌≡◌, ℕ, ◌+◌, ◌*◌, ◌^◌, ◌%◌, ◌<◌, ◌≤◌, ◌==◌, ◌||◌, max, Bool}
use Rattle.std.proofs.Common.{true, false}
use Rattle.std.proofs.Common.{nat_eq, cond, List, [], ◌∷◌, ◌++◌, map, length, get_or, take, drop}
use Rattle.std.proofs.Common.{ltb, IsTrue, ◌↔◌}
use Rattle.std.proofs.Common.{bit_and, bit_or, w64, arith, refl, ap, sym, ◌∙◌, inl, inr, subst}
use Rattle.std.specs.Prelude.{sum_by}
use Rattle.std.specs.Int.{bit_at, trailing_zeros}
use Rattle.std.specs.List.{IsDistinct, AllByRecursion, list_any}
use Rattle.std.specs.Cmp.{IsEquivalence}
use Rattle.std.proofs.lemmas.Bool.{cases_Bool, cases_lt, cases_order, cases_eq, eqb-true, eqb-false}
use Rattle.std.proofs.lemmas.Bool.{eq-eqb}
use Rattle.std.proofs.lemmas.Bool.{ne_eqb, or_from, or_left, or_right, false≢true, ltb-true, lt-ltb}
use Rattle.std.proofs.lemmas.Nat.{pow_pos, pow_below, or_disjoint}
use Rattle.std.proofs.lemmas.Nat.Bits.{bit_at-zero, bit_at_or, bit_at-pow_same, bit_at-pow_other}
use Rattle.std.proofs.lemmas.Nat.Bits.{and_pow, bit_at-lt, bit_at-trailing_zeros}
use Rattle.std.proofs.lemmas.List.{map-append, take_more, take_all, take-append-drop, drop_more}
use Rattle.std.proofs.lemmas.List.Sums.{sum_by-cons, sum_by_push}
use Rattle.std.proofs.lemmas.Map.Keys.{IsDistinct-head, IsDistinct-tail, IsDistinct-push}
use Rattle.gold_field.specs.declared.gold.TheConstants.{P}
use Rattle.cir_determined.specs.Bits.{ArePowers, ArePowersBy}

abbrev pub sum_of : List ℕ → ℕ
sum_of es = sum_by (λ e. 2 ^ e) es

abbrev powers_of : List ℕ → List ℕ
powers_of es = map (λ e. 2 ^ e) es

abbrev pub has : ℕ → List ℕ → Bool
has e es = list_any (nat_eq e) es

pub none_from : (e : ℕ) (es : List ℕ) → AllByRecursion (λ y. nat_eq e y ≡ false) es
    → has e es ≡ false
none_from e [] h = refl
none_from e (f ∷ es) h = or_from (nat_eq e f) (has e es) h.0 (none_from e es h.1)

max_one : (x y : ℕ) → x < 2 → y ≡ 1 → max x y ≡ 1
max_one x y l e = omega arith

max_zero : (x y : ℕ) → y ≡ 0 → max x y ≡ x
max_zero x y e = omega arith

zero_one : (x : ℕ) → x ≡ 0 → x ≡ 1 → ⊥
zero_one x e f = omega arith

zero_times : (x p : ℕ) → x ≡ 0 → x * p ≡ 0
zero_times x p e = ap (λ (n : ℕ). n * p) e ∙ omega arith

-- the bits of the sum are the exponents
abbrev HasBits : List ℕ → Type 0
HasBits es = (i : ℕ) → bit_at (sum_of es) i ≡ cond (has i es) 1 0

bits_more : (e : ℕ) (es : List ℕ) → has e es ≡ false → HasBits es → HasBits (e ∷ es)
bits_more e es new rest i =
    ap (λ (n : ℕ). bit_at n i) joined ∙ bit_at_or (sum_of es) (2 ^ e) i
    ∙ (elim (cases_Bool (nat_eq i e)) [
      | inl s ↦
          max_one (bit_at (sum_of es) i) (bit_at (2 ^ e) i) (bit_at-lt (sum_of es) i)
          (ap (λ (j : ℕ). bit_at (2 ^ e) j) (eqb-true i e s) ∙ bit_at-pow_same e)
          ∙ sym (ap (λ (b : Bool). cond (b || has i es) 1 0) s)
      | inr s ↦
          max_zero (bit_at (sum_of es) i) (bit_at (2 ^ e) i)
          (bit_at-pow_other e i (eqb-false i e s))
          ∙ rest i ∙ sym (ap (λ (b : Bool). cond (b || has i es) 1 0) s)
    ])
  where
    at : bit_at (sum_of es) e ≡ 0
    at = rest e ∙ ap (λ (b : Bool). cond b 1 0) new

    apart : bit_and (sum_of es) (2 ^ e) ≡ 0
    apart = and_pow (sum_of es) e ∙ zero_times (bit_at (sum_of es) e) (2 ^ e) at

    joined : sum_of (e ∷ es) ≡ bit_or (sum_of es) (2 ^ e)
    joined =
        omega (
          arith,
          sum_by-cons (λ (e : ℕ). 2 ^ e) e es,
          or_disjoint (sum_of es) (2 ^ e) apart,
        )

bit_of : (es : List ℕ) (i : ℕ) → IsDistinct nat_eq es → bit_at (sum_of es) i ≡ cond (has i es) 1 0
bit_of [] i d = bit_at-zero i
bit_of (e ∷ es) i d =
    bits_more e es (none_from e es (IsDistinct-head nat_eq e es d))
    (λ j. bit_of es j (IsDistinct-tail nat_eq e es d)) i

-- the exponent of a power is one
pow_same : (a b : ℕ) → 2 ^ a ≡ 2 ^ b → a ≡ b
pow_same a b e =
    elim (cases_order a b) [
      | inl s ↦ s
      | inr q ↦
          elim q [
            | inl l ↦ absurd (omega (arith, e, pow_below a b l))
            | inr l ↦ absurd (omega (arith, e, pow_below b a l))
          ]
    ]

one_list : (es fs : List ℕ) → powers_of es ≡ powers_of fs → es ≡ fs
one_list [] [] h = refl
one_list [] (f ∷ fs) h = cc
one_list (e ∷ es) [] h = cc
one_list (e ∷ es) (f ∷ fs) h =
    let first : 2 ^ e ≡ 2 ^ f = cc in
    let rest : powers_of es ≡ powers_of fs = cc in
    let same : e ≡ f = pow_same e f first in
    let all : es ≡ fs = one_list es fs rest in
    cc

-- what stands behind powers in a longer list of powers that differ
next : (es fs : List ℕ) (q : ℕ) (rest : List ℕ) → powers_of fs ≡ powers_of es ++ q ∷ rest
    → IsDistinct nat_eq fs
    → (e : ℕ) × (q ≡ 2 ^ e) × (has e es ≡ false) × (has e fs ≡ true)
next [] [] q rest h d = cc
next [] (f ∷ fs) q rest h d =
    let first : q ≡ 2 ^ f = cc in
    (f, first, refl, or_left (nat_eq f f) (has f fs) (eq-eqb f f refl))
next (e ∷ es) [] q rest h d = cc
next (e ∷ es) (f ∷ fs) q rest h d =
    let first : 2 ^ f ≡ 2 ^ e = cc in
    let tails : powers_of fs ≡ powers_of es ++ q ∷ rest = cc in
    let same : f ≡ e = pow_same f e first in
    let r : (e : ℕ) × (q ≡ 2 ^ e) × (has e es ≡ false) × (has e fs ≡ true) =
    next es fs q rest tails (IsDistinct-tail nat_eq f fs d) in
    let new : has f fs ≡ false = none_from f fs (IsDistinct-head nat_eq f fs d) in
    let apart : nat_eq r.0 e ≡ false =
    ne_eqb r.0 e (λ s. false≢true (sym new ∙ ap (λ (x : ℕ). has x fs) (same ∙ sym s) ∙ r.3)) in (
      r.0,
      r.1,
      or_from (nat_eq r.0 e) (has r.0 es) apart r.2,
      or_right (nat_eq r.0 f) (has r.0 fs) r.3,
    )

eqb_turned : (x y : ℕ) → nat_eq x y ≡ nat_eq y x
eqb_turned x y =
    elim (cases_Bool (nat_eq y x)) [
      | inl e ↦ eq-eqb x y (sym (eqb-true y x e)) ∙ sym e
      | inr e ↦ ne_eqb x y (λ q. eqb-false y x e (sym q)) ∙ sym e
    ]

equal_numbers : IsEquivalence nat_eq
equal_numbers = record {
  refl = λ x. eq-eqb x x refl;
  symm = eqb_turned;
  congr = λ x y z e. ap (λ (k : ℕ). nat_eq k z) (eqb-true x y e);
}

pub powers_none : ArePowers [] 0
unfolding IsDistinct
powers_none = record { exponents = []; powers_are = refl; distinct = tt; sum_is = refl }

no_times : (x p : ℕ) → x < 2 → 0 < p → x * p ≡ 0 → x ≡ 0
no_times x p l pos e =
    elim (cases_lt x 1) [
      | inl s ↦ omega arith
      | inr s ↦
          let one : x ≡ 1 = omega arith in
          absurd (omega (arith, ap (λ (n : ℕ). n * p) one, e))
    ]

pub powers_more : (ps : List ℕ) (s e q : ℕ) → ArePowers ps s → q ≡ 2 ^ e → bit_and s q ≡ 0
    → ArePowers (ps ++ q ∷ []) (bit_or s q)
powers_more ps s e q h eq z = record {
  exponents = h.exponents ++ e ∷ [];
  powers_are = ap (λ (xs : List ℕ). xs ++ q ∷ []) h.powers_are
      ∙ ap (λ (x : ℕ). powers_of h.exponents ++ x ∷ []) eq
      ∙ sym (map-append (λ (e : ℕ). 2 ^ e) h.exponents (e ∷ []));
  distinct = IsDistinct-push equal_numbers h.exponents e h.distinct new;
  sum_is = or_disjoint s q z ∙ omega (arith, h.sum_is, eq)
      ∙ sym (sum_by_push (λ (e : ℕ). 2 ^ e) h.exponents e);
}
  where
    off : bit_at s e ≡ 0
    off = no_times (bit_at s e) (2 ^ e) (bit_at-lt s e) (pow_pos e)
        (sym (and_pow s e) ∙ ap (bit_and s) (sym eq) ∙ z)

    bit : bit_at s e ≡ cond (has e h.exponents) 1 0
    bit = ap (λ (n : ℕ). bit_at n e) h.sum_is ∙ bit_of h.exponents e h.distinct

    new : has e h.exponents ≡ false
    new =
        elim (cases_Bool (has e h.exponents)) [
          | inl t ↦
              absurd (zero_one (bit_at s e) off (bit ∙ ap (λ (b : Bool). cond b 1 0) t))
          | inr f ↦ f
        ]

pub powers_next : (ps : List ℕ) (s q : ℕ) (rest : List ℕ) (n : ℕ) → ArePowers ps s
    → ArePowers (ps ++ q ∷ rest) n → ((e : ℕ) × (q ≡ 2 ^ e)) × (bit_and s q ≡ 0)
powers_next ps s q rest n h all =
    let r = next h.exponents all.exponents q rest
    (sym all.powers_are ∙ ap (λ (xs : List ℕ). xs ++ q ∷ rest) h.powers_are) all.distinct in
    let off : bit_at s r.0 ≡ 0 =
    ap (λ (n : ℕ). bit_at n r.0) h.sum_is ∙ bit_of h.exponents r.0 h.distinct
    ∙ ap (λ (b : Bool). cond b 1 0) r.2 in (
      (r.0, r.1),
      ap (bit_and s) r.1 ∙ and_pow s r.0 ∙ zero_times (bit_at s r.0) (2 ^ r.0) off,
    )

one_total : (ps : List ℕ) (s n : ℕ) → ArePowers ps s → ArePowers ps n → s ≡ n
one_total ps s n h g =
    h.sum_is ∙ ap sum_of (one_list h.exponents g.exponents (sym h.powers_are ∙ g.powers_are))
    ∙ sym g.sum_is

-- the test for one bit
small_word : (x : ℕ) → x < 2 ^ 64 → 1 * x % 2 ^ 64 ≡ x
small_word x l = omega arith

pub power_test : (n : ℕ) → 0 < n → n < 2 ^ 64
    → IsTrue (n == (1 * 2 ^ trailing_zeros w64 n % 2 ^ 64)) ↔ ((e : ℕ) × (n ≡ 2 ^ e))
power_test n pos small = (
  λ h. (
    trailing_zeros w64 n,
    eqb-true n (1 * 2 ^ trailing_zeros w64 n % 2 ^ 64) h ∙ whole,
  ),
  λ h. (eq-eqb n (1 * 2 ^ trailing_zeros w64 n % 2 ^ 64)
      (h.1 ∙ ap (λ (j : ℕ). 2 ^ j) (sym (place h.0 h.1)) ∙ sym whole)),
)
  where
    found : (trailing_zeros w64 n < 64) × (bit_at n (trailing_zeros w64 n) ≡ 1)
    found =
        let b = bit_at-trailing_zeros w64 n pos small in
        (b.0, b.1)

    whole : 1 * 2 ^ trailing_zeros w64 n % 2 ^ 64 ≡ 2 ^ trailing_zeros w64 n
    whole =
        small_word (2 ^ trailing_zeros w64 n) (pow_below (trailing_zeros w64 n) 64 found.0)

    place : (e : ℕ) → n ≡ 2 ^ e → trailing_zeros w64 n ≡ e
    place e h =
        elim (cases_eq (trailing_zeros w64 n) e) [
          | inl s ↦ s
          | inr ne ↦
              absurd (zero_one (bit_at n (trailing_zeros w64 n))
              (ap (λ (m : ℕ). bit_at m (trailing_zeros w64 n)) h
              ∙ bit_at-pow_other e (trailing_zeros w64 n) ne) found.1)
        ]

-- a walk over the coefficients
abbrev pub times : ℕ → List ℕ → List ℕ
times f cs = map (λ c. c * f % P) cs

pub powers_step : (f : ℕ) (cs : List ℕ) (i c q more : ℕ) → i < length cs → c ≡ get_or cs i c
    → q ≡ c * f % P → ArePowers (times f (take i cs) ++ q ∷ []) more
    → ArePowers (times f (take (i + 1) cs)) more
powers_step f cs i c q more l e eq h =
    subst (λ (xs : List ℕ). ArePowers xs more) (sym joined) h
  where
    joined : times f (take (i + 1) cs) ≡ times f (take i cs) ++ q ∷ []
    joined =
        ap (times f) (take_more cs i c l)
        ∙ map-append (λ (c : ℕ). c * f % P) (take i cs) (get_or cs i c ∷ [])
        ∙ ap (λ (x : ℕ). times f (take i cs) ++ (x * f % P) ∷ []) (sym e)
        ∙ ap (λ (x : ℕ). times f (take i cs) ++ x ∷ []) (sym eq)

pub powers_rest : (f : ℕ) (cs : List ℕ) (i c q n : ℕ) → i < length cs → c ≡ get_or cs i c
    → q ≡ c * f % P → ArePowers (times f cs) n
    → ArePowers (times f (take i cs) ++ q ∷ times f (drop (i + 1) cs)) n
powers_rest f cs i c q n l e eq h = subst (λ (xs : List ℕ). ArePowers xs n) split h
  where
    split : times f cs ≡ times f (take i cs) ++ q ∷ times f (drop (i + 1) cs)
    split =
        ap (times f) (sym (take-append-drop i cs)
        ∙ ap (λ (xs : List ℕ). take i cs ++ xs) (drop_more cs i c l))
        ∙ map-append (λ (c : ℕ). c * f % P) (take i cs) (get_or cs i c ∷ drop (i + 1) cs)
        ∙ ap (λ (x : ℕ). times f (take i cs) ++ (x * f % P) ∷ times f (drop (i + 1) cs)) (sym e)
        ∙ ap (λ (x : ℕ). times f (take i cs) ++ x ∷ times f (drop (i + 1) cs)) (sym eq)

pub powers_end : (f : ℕ) (cs : List ℕ) (i s : ℕ) → length cs ≤ i
    → ArePowers (times f (take i cs)) s → IsTrue (ltb s P) ↔ ArePowersBy f cs
powers_end f cs i s l h = (
  λ t. record { sum = s; powers = all; below = ltb-true s P t },
  λ b. (lt-ltb s P (omega (arith, one_total (times f cs) s b.sum all b.powers, b.below))),
)
  where
    all : ArePowers (times f cs) s
    all = subst (λ (xs : List ℕ). ArePowers (times f xs) s) (take_all i cs l) h
