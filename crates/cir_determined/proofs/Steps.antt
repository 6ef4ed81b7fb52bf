-- What each rule shows holds at any two assignments that satisfy its constraint.
use Rattle.std.proofs.Common.{◌≡◌, ◌≢◌, ℕ, ◌+◌, ◌-◌, ◌*◌, ◌^◌, ◌%◌, ◌<◌, ◌≤◌, ◌==◌, ◌⊎◌, true}
use Rattle.std.proofs.Common.{false}
use Rattle.std.proofs.Common.{not, List, [], ◌∷◌, map, length, All, arith, refl, ap, sym, ◌∙◌, inl}
use Rattle.std.proofs.Common.{inr, lit<}
use Rattle.std.specs.Prelude.{filter}
use Rattle.std.proofs.lemmas.Nat.{mul-mod_first}
use Rattle.std.proofs.lemmas.Bool.{eqb-true, or_cases, or_left, or_right, cases_Bool, false≢true}
use Rattle.std.proofs.lemmas.List.{length-map}
use Rattle.std.proofs.lemmas.List.Elements.{All-nil, All-cons, All-head, All-weaker, All-filter}
use Rattle.std.proofs.lemmas.List.Elements.{All-map}
use Rattle.std.proofs.lemmas.List.Elements.{filter_passes}
use Rattle.std.proofs.lemmas.List.Filters.{sum_by-filter_both}
use Rattle.gold_field.specs.declared.form.Term.{Term}
use Rattle.gold_field.specs.declared.form.Constraint.{Constraint}
use Rattle.gold_field.specs.declared.gold.TheConstants.{P}
use Rattle.gold_field.specs.Form.{Holds, value_at}
use Rattle.gold_field.specs.Rises.{RisesFrom}
use Rattle.gold_field.proofs.FieldLaws.{sum_of_rests, sum_cancel, product_cancel}
use Rattle.gold_field.proofs.PrimeLaws.{p_euclid}
use Rattle.cir_lc.specs.Number.{Assignment}
use Rattle.cir_lc.specs.Terms.{IsWithin}
use Rattle.cir_lc.specs.Merge.{total}
use Rattle.cir_lc.proofs.Totals.{total-nil, total-cons}
use Rattle.cir_lc.proofs.Known.{coef_of, coef_small}
use Rattle.cir_determined.specs.Marks.{Marks}
use Rattle.cir_determined.specs.Bits.{AreBits}
use Rattle.cir_determined.specs.Rules.{is_named, unknown, AreKnownBut, Solves, IsMultiple}
use Rattle.cir_determined.specs.Rules.{IsMultipleLessOne, SaysBoolean, ShowsBits}
use Rattle.cir_determined.proofs.Totals.{Agrees, same_total, without, total_split, named_coef}
use Rattle.cir_determined.proofs.Totals.{agree_without, agree_unnamed}
use Rattle.cir_determined.proofs.Digits.{weighted, one_sum, weighted_le}

-- the assignments agree on the known wires, and have 0 or 1 at the boolean ones
pub record IsSound (s t : Assignment) (m : Marks) : Type 0 where
  pub known : (w : ℕ) → m.known w ≡ true → s.at w ≡ t.at w
  pub boolean : (w : ℕ) → m.boolean w ≡ true → (s.at w ≤ 1) × (t.at w ≤ 1)

-- a constraint that both satisfy, in the form that a normal one has
pub record IsMet (s t : Assignment) (n : ℕ) (k : Constraint) : Type 0 where
  pub rises : RisesFrom 0 k.c
  pub within : IsWithin n k.c
  pub first : Holds s.at k
  pub second : Holds t.at k

value-total : (s : ℕ → ℕ) (us : List Term) → value_at s us ≡ total s us % P
unfolding total
value-total s us = refl

-- products of the same numbers leave the same number for C
same_rest : (s t : Assignment) (n : ℕ) (k : Constraint) → IsMet s t n k
    → value_at s.at k.a ≡ value_at t.at k.a → value_at s.at k.b ≡ value_at t.at k.b
    → total s.at k.c % P ≡ total t.at k.c % P
same_rest s t n k h ea eb =
    sym (value-total s.at k.c) ∙ sym h.first
    ∙ ap (λ (x : ℕ). (x * value_at s.at k.b) % P) ea
    ∙ ap (λ (x : ℕ). (value_at t.at k.a * x) % P) eb
    ∙ h.second ∙ value-total t.at k.c

small_same : (x y : ℕ) → x < P → y < P → x % P ≡ y % P → x ≡ y
small_same x y lx ly e = omega arith

-- Solve
same_others : (o c x y : ℕ) → 0 < c → c < P → (c * x + o) % P ≡ (c * y + o) % P → x % P ≡ y % P
same_others o c x y pos small e =
    let left : o + c * x ≡ c * x + o = omega arith in
    let right : c * y + o ≡ o + c * y = omega arith in
    product_cancel c x y (λ z. omega arith)
    (sum_cancel P o (c * x) (c * y) (lit< tt)
    (ap (λ (n : ℕ). n % P) left ∙ e ∙ ap (λ (n : ℕ). n % P) right))

either : (s t : Assignment) (m : Marks) (w : ℕ) (us : List Term) → IsSound s t m
    → AreKnownBut m w us → All (λ u. (u.signal ≡ w) ⊎ (s.at u.signal ≡ t.at u.signal)) us
either s t m w us h =
    All-weaker (λ (u : Term). (u.signal ≡ w) ⊎ (m.known u.signal ≡ true))
    (λ (u : Term). (u.signal ≡ w) ⊎ (s.at u.signal ≡ t.at u.signal)) (λ u. one u) us
  where
    one : (u : Term) → (u.signal ≡ w) ⊎ (m.known u.signal ≡ true)
        → (u.signal ≡ w) ⊎ (s.at u.signal ≡ t.at u.signal)
    one u (inl e) = inl e
    one u (inr e) = inr (h.known u.signal e)

pub solved : (s t : Assignment) (m : Marks) (n : ℕ) (k : Constraint) (w : ℕ) → IsMet s t n k
    → IsSound s t m → Solves m k w → s.at w ≡ t.at w
solved s t m n k w met h r =
    let left : total s.at k.a ≡ total t.at k.a =
    same_total s.at t.at k.a
    (agree_unnamed w s.at t.at k.a r.not_left (either s t m w k.a h r.left)) in
    let right : total s.at k.b ≡ total t.at k.b =
    same_total s.at t.at k.b
    (agree_unnamed w s.at t.at k.b r.not_right (either s t m w k.b h r.right)) in
    let rest : total s.at k.c % P ≡ total t.at k.c % P =
    same_rest s t n k met
    (value-total s.at k.a ∙ ap (λ (x : ℕ). x % P) left ∙ sym (value-total t.at k.a))
    (value-total s.at k.b ∙ ap (λ (x : ℕ). x % P) right ∙ sym (value-total t.at k.b)) in
    let others : total (without w s.at) k.c ≡ total (without w t.at) k.c =
    same_total (without w s.at) (without w t.at) k.c
    (agree_without w s.at t.at k.c (either s t m w k.c h r.rest)) in
    small_same (s.at w) (t.at w) (s.below w) (t.below w)
    (same_others (total (without w t.at) k.c) (coef_of w k.c) (s.at w) (t.at w)
    (named_coef w 0 k.c met.rises r.named) (coef_small w 0 n k.c met.rises met.within)
    (ap (λ (x : ℕ). (coef_of w k.c * s.at w + x) % P) (sym others)
    ∙ ap (λ (x : ℕ). x % P) (sym (total_split w s.at k.c)) ∙ rest
    ∙ ap (λ (x : ℕ). x % P) (total_split w t.at k.c)))

-- Bool
zero_factor : (c x : ℕ) → 0 < c → c < P → x < P → (c * x) % P ≡ 0 → x ≡ 0
zero_factor c x pos small below e =
    elim (p_euclid c x e) [ inl z ↦ absurd (omega arith) | inr z ↦ omega arith ]

is_zero : (s : Assignment) (w : ℕ) (us : List Term) → IsMultiple w us → value_at s.at us % P ≡ 0
    → s.at w ≡ 0
is_zero s w us h e =
    let all : total s.at us ≡ h.factor * s.at w =
    ap (total s.at) h.terms_are
    ∙ omega (
      arith,
      total-cons s.at (record { signal = w; coef = h.factor }) [],
      total-nil s.at,
    ) in
    zero_factor h.factor (s.at w) h.positive h.below (s.below w)
    (ap (λ (x : ℕ). x % P) (sym all) ∙ omega (arith, value-total s.at us, e))

one_factor : (c x : ℕ) → 0 < c → c < P → x < P → (P - c + c * x) % P ≡ 0 → x ≡ 1
one_factor c x pos small below e =
    let whole : P - c + c * 1 ≡ P = omega arith in
    let same : (P - c + c * x) % P ≡ (P - c + c * 1) % P =
    e ∙ sym (ap (λ (y : ℕ). y % P) whole) in
    let cancelled : (c * x) % P ≡ (c * 1) % P =
    sum_cancel P (P - c) (c * x) (c * 1) (lit< tt) same in
    let q : x % P ≡ 1 % P = product_cancel c x 1 (λ z. omega arith) cancelled in
    omega arith

is_one : (s : Assignment) (w : ℕ) (us : List Term) → IsMultipleLessOne w us
    → value_at s.at us % P ≡ 0 → s.at w ≡ 1
is_one s w us h e =
    let one : (P - h.factor) * s.at 0 ≡ P - h.factor =
    ap (λ (x : ℕ). (P - h.factor) * x) s.one ∙ omega arith in
    let all : total s.at us ≡ P - h.factor + h.factor * s.at w =
    ap (total s.at) h.terms_are
    ∙ omega (
      arith,
      total-cons s.at (record { signal = 0; coef = P - h.factor })
          (record { signal = w; coef = h.factor } ∷ []),
      total-cons s.at (record { signal = w; coef = h.factor }) [],
      total-nil s.at,
      one,
    ) in
    one_factor h.factor (s.at w) h.positive h.below (s.below w)
    (ap (λ (x : ℕ). x % P) (sym all) ∙ omega (arith, value-total s.at us, e))

pub boolean_wire : (s : Assignment) (k : Constraint) (w : ℕ) → Holds s.at k → SaysBoolean k w
    → s.at w ≤ 1
boolean_wire s k w h says =
    let zero : (value_at s.at k.a * value_at s.at k.b) % P ≡ 0 =
    h ∙ ap (value_at s.at) says.empty in
    by says.factors (p_euclid (value_at s.at k.a) (value_at s.at k.b) zero)
  where
    by : (IsMultiple w k.a × IsMultipleLessOne w k.b) ⊎ (IsMultipleLessOne w k.a × IsMultiple w k.b)
        → (value_at s.at k.a % P ≡ 0) ⊎ (value_at s.at k.b % P ≡ 0) → s.at w ≤ 1
    by (inl f) (inl z) = omega (arith, is_zero s w k.a f.0 z)
    by (inl f) (inr z) = omega (arith, is_one s w k.b f.1 z)
    by (inr f) (inl z) = omega (arith, is_one s w k.a f.0 z)
    by (inr f) (inr z) = omega (arith, is_zero s w k.b f.1 z)

-- Bits: the sum of the terms is the factor times a sum of powers
abbrev pub coefs : List Term → List ℕ
coefs us = map (λ u. u.coef) us

abbrev powers : ℕ → List ℕ → List ℕ
powers f es = map (λ e. f * 2 ^ e % P) es

total_weighted : (f : ℕ) (s : ℕ → ℕ) (es : List ℕ) (us : List Term) → coefs us ≡ powers f es
    → total s us % P ≡ (f * weighted es (map (λ u. s u.signal) us)) % P
total_weighted f s [] [] h =
    let none : f * 0 ≡ 0 = omega arith in
    ap (λ (x : ℕ). x % P) (total-nil s ∙ sym none)
total_weighted f s [] (u ∷ us) h = cc
total_weighted f s (e ∷ es) [] h = cc
total_weighted f s (e ∷ es) (u ∷ us) h =
    let first : u.coef ≡ f * 2 ^ e % P = cc in
    let rest : coefs us ≡ powers f es = cc in
    let whole : f * 2 ^ e * s u.signal + f * weighted es (map (λ u. s u.signal) us)
    ≡ f * (2 ^ e * s u.signal + weighted es (map (λ u. s u.signal) us)) = omega arith in
    ap (λ (x : ℕ). x % P) (total-cons s u us)
    ∙ sym (sum_of_rests P (u.coef * s u.signal) (total s us))
    ∙ ap (λ (x : ℕ). (x + total s us % P) % P) (ap (λ (c : ℕ). (c * s u.signal) % P) first
    ∙ mul-mod_first (f * 2 ^ e) (s u.signal) P)
    ∙ ap (λ (x : ℕ). ((f * 2 ^ e * s u.signal) % P + x) % P) (total_weighted f s es us rest)
    ∙ sum_of_rests P (f * 2 ^ e * s u.signal) (f * weighted es (map (λ u. s u.signal) us))
    ∙ ap (λ (x : ℕ). x % P) whole

-- a wire that is named has the same number in both lists
named_same : (w : ℕ) (s t : ℕ → ℕ) (us : List Term)
    → map (λ u. s u.signal) us ≡ map (λ u. t u.signal) us → is_named w us ≡ true → s w ≡ t w
named_same w s t [] h e = cc
named_same w s t (u ∷ us) h e =
    let first : s u.signal ≡ t u.signal = cc in
    let rest : map (λ u. s u.signal) us ≡ map (λ u. t u.signal) us = cc in
    elim (or_cases (u.signal == w) (is_named w us) e) [
      | inl a ↦ sym (ap s (eqb-true u.signal w a)) ∙ first ∙ ap t (eqb-true u.signal w a)
      | inr b ↦ named_same w s t us rest b
    ]

-- the factor isn't 0
factor_unit : (f : ℕ) (es : List ℕ) (us : List Term) → us ≢ [] → All (λ u. 0 < u.coef) us
    → coefs us ≡ powers f es → f % P ≢ 0
factor_unit f es [] some pos h = absurd (some refl)
factor_unit f [] (u ∷ us) some pos h = cc
factor_unit f (e ∷ es) (u ∷ us) some pos h = λ z.
    let first : u.coef ≡ f * 2 ^ e % P = cc in
    let none : 0 * 2 ^ e ≡ 0 = omega arith in
    let zero : f * 2 ^ e % P ≡ 0 =
    sym (mul-mod_first f (2 ^ e) P) ∙ ap (λ (x : ℕ). (x * 2 ^ e) % P) z
    ∙ ap (λ (x : ℕ). x % P) none in
    omega (arith, All-head (λ (u : Term). 0 < u.coef) u us pos)

digits : (s : ℕ → ℕ) (us : List Term) → All (λ u. s u.signal ≤ 1) us
    → All (λ b. b ≤ 1) (map (λ u. s u.signal) us)
digits s us h = All-map (λ (b : ℕ). b ≤ 1) (λ u. s u.signal) us h

-- bits of the same number are the same
same_bits : (s t : ℕ → ℕ) (us : List Term) → AreBits (coefs us) → us ≢ [] → All (λ u. 0 < u.coef) us
    → All (λ u. s u.signal ≤ 1) us → All (λ u. t u.signal ≤ 1) us
    → total s us % P ≡ total t us % P → map (λ u. s u.signal) us ≡ map (λ u. t u.signal) us
same_bits s t us bits some pos hs ht e =
    one_sum bits.exponents (map (λ u. s u.signal) us) (map (λ u. t u.signal) us) bits.distinct
    (digits s us hs) (digits t us ht) (long s) (long t)
    (small_same (weighted bits.exponents (map (λ u. s u.signal) us))
    (weighted bits.exponents (map (λ u. t u.signal) us))
    (omega (
      arith,
      bits.below,
      weighted_le bits.exponents (map (λ u. s u.signal) us) (digits s us hs),
    ))
    (omega (
      arith,
      bits.below,
      weighted_le bits.exponents (map (λ u. t u.signal) us) (digits t us ht),
    ))
    (product_cancel bits.factor (weighted bits.exponents (map (λ u. s u.signal) us))
    (weighted bits.exponents (map (λ u. t u.signal) us))
    (factor_unit bits.factor bits.exponents us some pos bits.coefficients)
    (sym (total_weighted bits.factor s bits.exponents us bits.coefficients) ∙ e
    ∙ total_weighted bits.factor t bits.exponents us bits.coefficients)))
  where
    long : (s : ℕ → ℕ) → length (map (λ u. s u.signal) us) ≡ length bits.exponents
    long s =
        length-map us (λ u. s u.signal) ∙ sym (length-map us (λ u. u.coef))
        ∙ ap length bits.coefficients
        ∙ length-map bits.exponents (λ e. bits.factor * 2 ^ e % P)

pub positive : (low : ℕ) (us : List Term) → RisesFrom low us → All (λ u. 0 < u.coef) us
positive low [] h = All-nil (λ (u : Term). 0 < u.coef)
positive low (u ∷ us) h =
    All-cons (λ (u : Term). 0 < u.coef) u us h.1 (positive (u.signal + 1) us h.2)

-- the terms whose wires are known
abbrev known_part : Marks → List Term → List Term
known_part m us = filter (λ u. m.known u.signal) us

parts : (m : Marks) (s : ℕ → ℕ) (us : List Term)
    → total s (known_part m us) + total s (unknown m us) ≡ total s us
unfolding total
parts m s us =
    sum_by-filter_both (λ u. m.known u.signal) (λ u. not (m.known u.signal)) (λ u. refl)
    (λ u. u.coef * s u.signal) us

known_same : (s t : Assignment) (m : Marks) (us : List Term) → IsSound s t m
    → total s.at (known_part m us) ≡ total t.at (known_part m us)
known_same s t m us h =
    same_total s.at t.at (known_part m us)
    (All-weaker (λ (u : Term). m.known u.signal ≡ true) (Agrees s.at t.at)
    (λ u e. h.known u.signal e) (known_part m us) (filter_passes (λ u. m.known u.signal) us))

pub bits_same : (s t : Assignment) (m : Marks) (n : ℕ) (k : Constraint) (w : ℕ) → IsMet s t n k
    → IsSound s t m → ShowsBits m k → is_named w (unknown m k.c) ≡ true → s.at w ≡ t.at w
bits_same s t m n k w met h r named =
    let empty : (us : List Term) → us ≡ [] → value_at s.at us ≡ value_at t.at us =
    λ us e. ap (value_at s.at) e ∙ sym (ap (value_at t.at) e) in
    let rest : total s.at k.c % P ≡ total t.at k.c % P =
    same_rest s t n k met (empty k.a r.left) (empty k.b r.right) in
    let same : total s.at (unknown m k.c) % P ≡ total t.at (unknown m k.c) % P =
    sum_cancel P (total t.at (known_part m k.c)) (total s.at (unknown m k.c))
    (total t.at (unknown m k.c)) (lit< tt)
    (ap (λ (x : ℕ). (x + total s.at (unknown m k.c)) % P) (sym (known_same s t m k.c h))
    ∙ ap (λ (x : ℕ). x % P) (parts m s.at k.c) ∙ rest
    ∙ ap (λ (x : ℕ). x % P) (sym (parts m t.at k.c))) in
    named_same w s.at t.at (unknown m k.c)
    (same_bits s.at t.at (unknown m k.c) r.bits r.some
    (All-filter (λ u. not (m.known u.signal)) (λ (u : Term). 0 < u.coef) k.c
    (positive 0 k.c met.rises))
    (All-weaker (λ (u : Term). m.boolean u.signal ≡ true) (λ (u : Term). s.at u.signal ≤ 1)
    (λ u e. (h.boolean u.signal e).0) (unknown m k.c) r.booleans)
    (All-weaker (λ (u : Term). m.boolean u.signal ≡ true) (λ (u : Term). t.at u.signal ≤ 1)
    (λ u e. (h.boolean u.signal e).1) (unknown m k.c) r.booleans)
    same) named

-- a wire that is named and isn't known is named by the unknown terms
pub named_unknown : (m : Marks) (w : ℕ) (us : List Term) → m.known w ≡ false
    → is_named w us ≡ true → is_named w (unknown m us) ≡ true
named_unknown m w [] u e = e
named_unknown m w (x ∷ us) u e =
    elim (cases_Bool (m.known x.signal)) [
      | inl k ↦
          elim (or_cases (x.signal == w) (is_named w us) e) [
            | inl a ↦ absurd (false≢true (sym u ∙ sym (ap m.known (eqb-true x.signal w a)) ∙ k))
            | inr b ↦ rw k (named_unknown m w us u b)
          ]
      | inr k ↦
          rw k (
          elim (or_cases (x.signal == w) (is_named w us) e) [
            | inl a ↦ or_left (x.signal == w) (is_named w (unknown m us)) a
            | inr b ↦
                or_right (x.signal == w) (is_named w (unknown m us)) (named_unknown m w us u b)
          ]
          )
    ]
