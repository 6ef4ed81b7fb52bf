-- The order of rules doesn't matter.
use Rattle.std.proofs.Common.{◌≡◌, ◌≢◌, ℕ, ◌*◌, ◌^◌, ◌%◌, ◌≤◌, ◌==◌, ◌||◌, ◌⊎◌, Bool}
use Rattle.std.proofs.Common.{true, false}
use Rattle.std.proofs.Common.{nat_eq, not, cond, List, [], ◌∷◌, map, All, Option, Some, None, arith}
use Rattle.std.proofs.Common.{refl, ap}
use Rattle.std.proofs.Common.{sym, ◌∙◌, inl, inr, subst}
use Rattle.std.specs.Prelude.{slice_get}
use Rattle.std.specs.List.{IsDistinct, AllByRecursion}
use Rattle.std.proofs.lemmas.Bool.{cases_Bool, eqb-true, or_cases, or_parts, or_from, or_right}
use Rattle.std.proofs.lemmas.Bool.{false≢true}
use Rattle.std.proofs.lemmas.Bool.{true_from_ne_false}
use Rattle.std.proofs.lemmas.List.Elements.{All-weaker, All-nil, All-cons, All-head, All-tail}
use Rattle.std.proofs.lemmas.List.Sums.{sum_by-cons}
use Rattle.std.proofs.lemmas.Map.Keys.{IsDistinct-head, IsDistinct-tail, IsDistinct-cons}
use Rattle.gold_field.specs.declared.form.Term.{Term}
use Rattle.gold_field.specs.declared.form.Constraint.{Constraint}
use Rattle.gold_field.specs.declared.gold.TheConstants.{P}
use Rattle.cir_determined.specs.declared.rule.Rule.{Rule}
use Rattle.cir_determined.specs.declared.rule.Rule.TheVariants.{Solve, Bool as Boolean, Bits}
use Rattle.cir_determined.specs.Bits.{AreBits}
use Rattle.cir_determined.specs.Marks.{Marks}
use Rattle.cir_determined.specs.Rules.{AreKnownBut, unknown}
use Rattle.cir_determined.specs.Rules.{unknown_coefs, is_named, Applies, AppliesTo, shown}
use Rattle.cir_determined.specs.Rules.{shown_from}
use Rattle.cir_determined.specs.Rules.{place_of}
use Rattle.cir_determined.specs.Certificate.{AllApply, shown_by, IsClosed}
use Rattle.cir_determined.proofs.Powers.{has, none_from, sum_of}

-- what the first marks show, the second show too
pub record IsWithin (m n : Marks) : Type 0 where
  pub known : (w : ℕ) → m.known w ≡ true → n.known w ≡ true
  pub boolean : (w : ℕ) → m.boolean w ≡ true → n.boolean w ≡ true

-- a part of bits is bits
abbrev powers : ℕ → List ℕ → List ℕ
powers f es = map (λ e. f * 2 ^ e % P) es

record IsPart (f : ℕ) (es cs : List ℕ) : Type 0 where
  exponents : List ℕ
  coefficients : cs ≡ powers f exponents
  distinct : IsDistinct nat_eq exponents
  below : sum_of exponents ≤ sum_of es
  none : (x : ℕ) → has x es ≡ false → has x exponents ≡ false

apart_from : (e : ℕ) (es : List ℕ) → has e es ≡ false → AllByRecursion (λ y. nat_eq e y ≡ false) es
apart_from e [] h = tt
apart_from e (f ∷ es) h =
    let both : (nat_eq e f ≡ false) × (has e es ≡ false) = or_parts (nat_eq e f) (has e es) h in
    (both.0, apart_from e es both.1)

part_same : (f e : ℕ) (es cs : List ℕ) → IsPart f es cs → IsPart f (e ∷ es) cs
part_same f e es cs p = record {
  exponents = p.exponents;
  coefficients = p.coefficients;
  distinct = p.distinct;
  below = omega (arith, p.below, sum_by-cons (λ (e : ℕ). 2 ^ e) e es);
  none = λ x h. p.none x (or_parts (nat_eq x e) (has x es) h).1;
}

part_more : (f e c : ℕ) (es cs : List ℕ) → c ≡ f * 2 ^ e % P → has e es ≡ false → IsPart f es cs
    → IsPart f (e ∷ es) (c ∷ cs)
part_more f e c es cs first new p = record {
  exponents = e ∷ p.exponents;
  coefficients =
      ap (λ (x : ℕ). x ∷ cs) first ∙ ap (λ (xs : List ℕ). (f * 2 ^ e % P) ∷ xs) p.coefficients;
  distinct =
      IsDistinct-cons nat_eq e p.exponents (apart_from e p.exponents (p.none e new)) p.distinct;
  below = omega (
    arith,
    p.below,
    sum_by-cons (λ (e : ℕ). 2 ^ e) e es,
    sum_by-cons (λ (e : ℕ). 2 ^ e) e p.exponents,
  );
  none = λ x h.
      let both : (nat_eq x e ≡ false) × (has x es ≡ false) = or_parts (nat_eq x e) (has x es) h in
      or_from (nat_eq x e) (has x p.exponents) both.0 (p.none x both.1);
}

coefs_cons : (m : Marks) (t : Term) (us : List Term) (b : Bool) → m.known t.signal ≡ b
    → unknown_coefs m (t ∷ us) ≡ cond b (unknown_coefs m us) (t.coef ∷ unknown_coefs m us)
coefs_cons m t us true e =
    ap (λ (b : Bool). map (λ u. u.coef) (cond (not b) (t ∷ unknown m us) (unknown m us))) e
coefs_cons m t us false e =
    ap (λ (b : Bool). map (λ u. u.coef) (cond (not b) (t ∷ unknown m us) (unknown m us))) e

part : (m n : Marks) → IsWithin m n → (f : ℕ) (us : List Term) (es : List ℕ)
    → unknown_coefs m us ≡ powers f es → IsDistinct nat_eq es → IsPart f es (unknown_coefs n us)
part m n h f [] [] e d = record {
  exponents = [];
  coefficients = refl;
  distinct = d;
  below = omega arith;
  none = λ x g. refl;
}
part m n h f [] (x ∷ es) e d = cc
part m n h f (t ∷ us) es e d = by (m.known t.signal) (n.known t.signal) refl refl es e d
    (λ es e d. part m n h f us es e d)
  where
    by : (a b : Bool) → m.known t.signal ≡ a → n.known t.signal ≡ b → (es : List ℕ)
        → unknown_coefs m (t ∷ us) ≡ powers f es → IsDistinct nat_eq es
        → ((es : List ℕ) → unknown_coefs m us ≡ powers f es → IsDistinct nat_eq es
        → IsPart f es (unknown_coefs n us))
        → IsPart f es (unknown_coefs n (t ∷ us))
    by true true p q es e d rest =
        subst (λ (cs : List ℕ). IsPart f es cs) (sym (coefs_cons n t us true q))
        (rest es (sym (coefs_cons m t us true p) ∙ e) d)
    by true false p q es e d rest = absurd (false≢true (sym q ∙ h.known t.signal p))
    by false b p q [] e d rest =
        let wrong : t.coef ∷ unknown_coefs m us ≡ [] = sym (coefs_cons m t us false p) ∙ e in
        cc
    by false true p q (x ∷ es) e d rest =
        let all : t.coef ∷ unknown_coefs m us ≡ (f * 2 ^ x % P) ∷ powers f es =
        sym (coefs_cons m t us false p) ∙ e in
        let tail : unknown_coefs m us ≡ powers f es = cc in
        subst (λ (cs : List ℕ). IsPart f (x ∷ es) cs) (sym (coefs_cons n t us true q))
        (part_same f x es (unknown_coefs n us) (rest es tail (IsDistinct-tail nat_eq x es d)))
    by false false p q (x ∷ es) e d rest =
        let all : t.coef ∷ unknown_coefs m us ≡ (f * 2 ^ x % P) ∷ powers f es =
        sym (coefs_cons m t us false p) ∙ e in
        let first : t.coef ≡ f * 2 ^ x % P = cc in
        let tail : unknown_coefs m us ≡ powers f es = cc in
        subst (λ (cs : List ℕ). IsPart f (x ∷ es) cs) (sym (coefs_cons n t us false q))
        (part_more f x t.coef es (unknown_coefs n us) first
        (none_from x es (IsDistinct-head nat_eq x es d))
        (rest es tail (IsDistinct-tail nat_eq x es d)))

bits_part : (m n : Marks) (us : List Term) → IsWithin m n → AreBits (unknown_coefs m us)
    → AreBits (unknown_coefs n us)
bits_part m n us h b =
    let p = part m n h b.factor us b.exponents b.coefficients b.distinct in
    record {
      factor = b.factor;
      exponents = p.exponents;
      coefficients = p.coefficients;
      distinct = p.distinct;
      below = omega (arith, p.below, b.below);
    }

-- the unknown terms of the larger marks are among those of the smaller
boolean_part : (m n : Marks) (us : List Term) → IsWithin m n
    → All (λ t. m.boolean t.signal ≡ true) (unknown m us)
    → All (λ t. n.boolean t.signal ≡ true) (unknown n us)
boolean_part m n [] h b = All-nil (λ (t : Term). n.boolean t.signal ≡ true)
boolean_part m n (t ∷ us) h b =
    by (m.known t.signal) (n.known t.signal) refl refl (λ q. boolean_part m n us h q)
  where
    whole : (k : Marks) (a : Bool) → k.known t.signal ≡ a
        → unknown k (t ∷ us) ≡ cond (not a) (t ∷ unknown k us) (unknown k us)
    whole k a e = ap (λ (x : Bool). cond (not x) (t ∷ unknown k us) (unknown k us)) e

    by : (a c : Bool) → m.known t.signal ≡ a → n.known t.signal ≡ c
        → (All (λ t. m.boolean t.signal ≡ true) (unknown m us)
        → All (λ t. n.boolean t.signal ≡ true) (unknown n us))
        → All (λ t. n.boolean t.signal ≡ true) (unknown n (t ∷ us))
    by true true p q rest =
        subst (λ (vs : List Term). All (λ t. n.boolean t.signal ≡ true) vs) (sym (whole n true q))
        (rest (subst (λ (vs : List Term). All (λ t. m.boolean t.signal ≡ true) vs)
        (whole m true p) b))
    by true false p q rest = absurd (false≢true (sym q ∙ h.known t.signal p))
    by false true p q rest =
        subst (λ (vs : List Term). All (λ t. n.boolean t.signal ≡ true) vs) (sym (whole n true q))
        (rest (All-tail (λ (t : Term). m.boolean t.signal ≡ true) t (unknown m us)
        (subst (λ (vs : List Term). All (λ t. m.boolean t.signal ≡ true) vs) (whole m false p) b)))
    by false false p q rest =
        let all : All (λ t. m.boolean t.signal ≡ true) (t ∷ unknown m us) =
        subst (λ (vs : List Term). All (λ t. m.boolean t.signal ≡ true) vs) (whole m false p) b in
        subst (λ (vs : List Term). All (λ t. n.boolean t.signal ≡ true) vs) (sym (whole n false q))
        (All-cons (λ (t : Term). n.boolean t.signal ≡ true) t (unknown n us)
        (h.boolean t.signal
        (All-head (λ (t : Term). m.boolean t.signal ≡ true) t (unknown m us) all))
        (rest (All-tail (λ (t : Term). m.boolean t.signal ≡ true) t (unknown m us) all)))

-- a named wire stays among the unknown terms so long as it isn't known
unknown_some : (m : Marks) (w : ℕ) (us : List Term) → is_named w us ≡ true → m.known w ≡ false
    → unknown m us ≢ []
unknown_some m w [] e u = λ q. absurd (false≢true e)
unknown_some m w (t ∷ us) e u = λ q.
    elim (cases_Bool (m.known t.signal)) [
      | inl k ↦
          elim (or_cases (t.signal == w) (is_named w us) e) [
            | inl a ↦ false≢true (sym u ∙ sym (ap m.known (eqb-true t.signal w a)) ∙ k)
            | inr b ↦
                unknown_some m w us b u
                (sym (ap (λ (x : Bool). cond (not x) (t ∷ unknown m us) (unknown m us)) k) ∙ q)
          ]
      | inr k ↦
          let wrong : t ∷ unknown m us ≡ [] =
          sym (ap (λ (x : Bool). cond (not x) (t ∷ unknown m us) (unknown m us)) k) ∙ q in
          cc
    ]

-- a rule that applies to less than closed marks shows nothing new
but_known : (m n : Marks) (w : ℕ) (us : List Term) → IsWithin m n → AreKnownBut m w us
    → AreKnownBut n w us
but_known m n w us h =
    All-weaker (λ (t : Term). (t.signal ≡ w) ⊎ (m.known t.signal ≡ true))
    (λ (t : Term). (t.signal ≡ w) ⊎ (n.known t.signal ≡ true)) one us
  where
    one : (t : Term) → (t.signal ≡ w) ⊎ (m.known t.signal ≡ true)
        → (t.signal ≡ w) ⊎ (n.known t.signal ≡ true)
    one t (inl e) = inl e
    one t (inr e) = inr (h.known t.signal e)

solve_within : (m n : Marks) (o : Option Constraint) (c w : ℕ) → IsWithin m n
    → (AppliesTo o n (Solve c w) → ⊥) → AppliesTo o m (Solve c w)
    → IsWithin (shown_from o m (Solve c w)) n
solve_within m n None c w h none a = absurd a
solve_within m n (Some k) c w h none a = record { known = each; boolean = h.boolean }
  where
    here : n.known w ≡ true
    here = true_from_ne_false (n.known w) (λ fresh. none (record {
      fresh = fresh;
      named = a.named;
      not_left = a.not_left;
      not_right = a.not_right;
      left = but_known m n w k.a h a.left;
      right = but_known m n w k.b h a.right;
      rest = but_known m n w k.c h a.rest;
    }))

    each : (v : ℕ) → ((v == w) || m.known v) ≡ true → n.known v ≡ true
    each v e =
        elim (or_cases (v == w) (m.known v) e) [
          | inl s ↦ ap n.known (eqb-true v w s) ∙ here
          | inr q ↦ h.known v q
        ]

boolean_within : (m n : Marks) (o : Option Constraint) (c w : ℕ) → IsWithin m n
    → (AppliesTo o n (Boolean c w) → ⊥) → AppliesTo o m (Boolean c w)
    → IsWithin (shown_from o m (Boolean c w)) n
boolean_within m n None c w h none a = absurd a
boolean_within m n (Some k) c w h none a = record { known = h.known; boolean = each }
  where
    here : n.boolean w ≡ true
    here = true_from_ne_false (n.boolean w) (λ fresh. none (record {
      positive = a.positive;
      fresh = fresh;
      says = a.says;
    }))

    each : (v : ℕ) → ((v == w) || m.boolean v) ≡ true → n.boolean v ≡ true
    each v e =
        elim (or_cases (v == w) (m.boolean v) e) [
          | inl s ↦ ap n.boolean (eqb-true v w s) ∙ here
          | inr q ↦ h.boolean v q
        ]

bits_within : (m n : Marks) (o : Option Constraint) (c : ℕ) → IsWithin m n
    → (AppliesTo o n (Bits c) → ⊥) → AppliesTo o m (Bits c)
    → IsWithin (shown_from o m (Bits c)) n
bits_within m n None c h none a = absurd a
bits_within m n (Some k) c h none a = record { known = each; boolean = h.boolean }
  where
    here : (v : ℕ) → is_named v k.c ≡ true → n.known v ≡ true
    here v named = true_from_ne_false (n.known v) (λ fresh. none (record {
      left = a.left;
      right = a.right;
      some = unknown_some n v k.c named fresh;
      booleans = boolean_part m n k.c h a.booleans;
      bits = bits_part m n k.c h a.bits;
    }))

    each : (v : ℕ) → (is_named v k.c || m.known v) ≡ true → n.known v ≡ true
    each v e =
        elim (or_cases (is_named v k.c) (m.known v) e) [
          | inl s ↦ here v s
          | inr q ↦ h.known v q
        ]

step_within : (ks : List Constraint) (m n : Marks) (r : Rule) → IsWithin m n → IsClosed ks n
    → Applies ks m r → IsWithin (shown ks m r) n
step_within ks m n (Solve c w) h none a =
    solve_within m n (slice_get ks c) c w h (none (Solve c w)) a
step_within ks m n (Boolean c w) h none a =
    boolean_within m n (slice_get ks c) c w h (none (Boolean c w)) a
step_within ks m n (Bits c) h none a = bits_within m n (slice_get ks c) c h (none (Bits c)) a

pub all_within : (ks : List Constraint) (m n : Marks) (rs : List Rule) → IsWithin m n
    → IsClosed ks n → AllApply ks m rs → IsWithin (shown_by ks m rs) n
all_within ks m n [] h none a = h
all_within ks m n (r ∷ rs) h none a =
    all_within ks (shown ks m r) n rs (step_within ks m n r h none a.0) none a.1

-- rules show more
pub step_grows : (o : Option Constraint) (m : Marks) (r : Rule) → IsWithin m (shown_from o m r)
step_grows None m r = record { known = λ w e. e; boolean = λ w e. e }
step_grows (Some k) m (Solve c v) = record {
  known = λ w e. or_right (w == v) (m.known w) e;
  boolean = λ w e. e;
}
step_grows (Some k) m (Boolean c v) = record {
  known = λ w e. e;
  boolean = λ w e. or_right (w == v) (m.boolean w) e;
}
step_grows (Some k) m (Bits c) = record {
  known = λ w e. or_right (is_named w k.c) (m.known w) e;
  boolean = λ w e. e;
}

pub grows : (ks : List Constraint) (m : Marks) (rs : List Rule) → IsWithin m (shown_by ks m rs)
grows ks m [] = record { known = λ w e. e; boolean = λ w e. e }
grows ks m (r ∷ rs) =
    let first : IsWithin m (shown ks m r) = step_grows (slice_get ks (place_of r)) m r in
    let rest : IsWithin (shown ks m r) (shown_by ks (shown ks m r) rs) =
    grows ks (shown ks m r) rs in
    record {
      known = λ w e. rest.known w (first.known w e);
      boolean = λ w e. rest.boolean w (first.boolean w e);
    }

pub closed_knows : (ks : List Constraint) (m : Marks) (rs all : List Rule) → AllApply ks m rs
    → AllApply ks m all → IsClosed ks (shown_by ks m all) → (w : ℕ)
    → (shown_by ks m rs).known w ≡ true → (shown_by ks m all).known w ≡ true
closed_knows ks m rs all a b none w e =
    (all_within ks m (shown_by ks m all) rs (grows ks m all) none a).known w e
