-- Each rule that applies makes a wire known or boolean.
use Rattle.std.proofs.Common.{◌≡◌, ◌≢◌, ℕ, zero, suc, ◌+◌, ◌*◌, ◌<◌, ◌≤◌, ◌==◌, ◌⊎◌, Bool}
use Rattle.std.proofs.Common.{true, false}
use Rattle.std.proofs.Common.{cond, not, List, [], ◌∷◌, length, All, Option, Some, None}
use Rattle.std.proofs.Common.{arith, refl, ap}
use Rattle.std.proofs.Common.{sym, ◌∙◌, inl, inr, subst}
use Rattle.std.specs.Prelude.{slice_get, IfSome}
use Rattle.std.proofs.lemmas.Bool.{cases_Bool, cases_lt, eq-eqb, or_left, or_right}
use Rattle.std.proofs.lemmas.List.Elements.{All-head, All-tail}
use Rattle.gold_field.specs.declared.form.Term.{Term}
use Rattle.gold_field.specs.declared.form.Constraint.{Constraint}
use Rattle.gold_field.specs.Form.{ConstraintBelow}
use Rattle.cir_determined.specs.declared.rule.Rule.{Rule}
use Rattle.cir_determined.specs.declared.rule.Rule.TheVariants.{Solve, Bool as Boolean, Bits}
use Rattle.cir_determined.specs.Marks.{Marks}
use Rattle.cir_determined.specs.Rules.{AppliesTo, shown, shown_from, place_of, is_named}
use Rattle.cir_determined.specs.Rules.{unknown}
use Rattle.cir_determined.specs.Rules.{SaysBoolean, IsMultiple, IsMultipleLessOne}
use Rattle.cir_determined.specs.Certificate.{AllApply, shown_by}
use Rattle.cir_determined.proofs.Closed.{IsWithin, step_grows}
use Rattle.cir_determined.proofs.Kept.{named_below}

-- how many of the first n wires pass
count : ℕ → (ℕ → Bool) → ℕ
count zero f = 0
count (suc n) f = count n f + cond (f n) 1 0

one_le : (b : Bool) → cond b 1 0 ≤ 1
one_le true = omega arith
one_le false = omega arith

count_le : (n : ℕ) (f : ℕ → Bool) → count n f ≤ n
unfolding count
count_le zero f = omega arith
count_le (suc n) f = omega (arith, count_le n f, one_le (f n))

one_mono : (a b : Bool) → (a ≡ true → b ≡ true) → cond a 1 0 ≤ cond b 1 0
one_mono true b h =
    subst (λ (c : Bool). 1 ≤ cond c 1 0) (sym (h refl)) (omega arith)
one_mono false b h = omega arith

count_mono : (n : ℕ) (f g : ℕ → Bool) → ((w : ℕ) → f w ≡ true → g w ≡ true)
    → count n f ≤ count n g
unfolding count
count_mono zero f g h = omega arith
count_mono (suc n) f g h = omega (arith, count_mono n f g h, one_mono (f n) (g n) (h n))

count_grows : (n w : ℕ) (f g : ℕ → Bool) → ((w : ℕ) → f w ≡ true → g w ≡ true) → w < n
    → f w ≡ false → g w ≡ true → count n f + 1 ≤ count n g
unfolding count
count_grows zero w f g h l a b = absurd (omega arith)
count_grows (suc n) w f g h l a b =
    elim (cases_lt w n) [
      | inl m ↦ omega (arith, count_grows n w f g h m a b, one_mono (f n) (g n) (h n))
      | inr m ↦
          let same : w ≡ n = omega arith in
          omega (
            arith,
            count_mono n f g h,
            ap {B = ℕ} (λ (c : Bool). cond c 1 0) (sym (ap f same) ∙ a),
            ap {B = ℕ} (λ (c : Bool). cond c 1 0) (sym (ap g same) ∙ b),
          )
    ]

-- what the marks of the first n wires amount to
shown_of : ℕ → Marks → ℕ
shown_of n m = count n m.known + count n m.boolean

shown_le : (n : ℕ) (m : Marks) → shown_of n m ≤ 2 * n
unfolding shown_of
shown_le n m = omega (arith, count_le n m.known, count_le n m.boolean)

known_grows : (n w : ℕ) (m k : Marks) → IsWithin m k → w < n → m.known w ≡ false
    → k.known w ≡ true → shown_of n m + 1 ≤ shown_of n k
unfolding shown_of
known_grows n w m k h l a b =
    omega (
      arith,
      count_grows n w m.known k.known h.known l a b,
      count_mono n m.boolean k.boolean h.boolean,
    )

boolean_grows : (n w : ℕ) (m k : Marks) → IsWithin m k → w < n → m.boolean w ≡ false
    → k.boolean w ≡ true → shown_of n m + 1 ≤ shown_of n k
unfolding shown_of
boolean_grows n w m k h l a b =
    omega (
      arith,
      count_grows n w m.boolean k.boolean h.boolean l a b,
      count_mono n m.known k.known h.known,
    )

-- some wire of the terms isn't known
some_unknown : (m : Marks) (us : List Term) → unknown m us ≢ []
    → (w : ℕ) × (is_named w us ≡ true) × (m.known w ≡ false)
some_unknown m [] h = absurd (h refl)
some_unknown m (t ∷ us) h =
    elim (cases_Bool (m.known t.signal)) [
      | inl k ↦
          let rest : (w : ℕ) × (is_named w us ≡ true) × (m.known w ≡ false) =
          some_unknown m us (λ q. h
          (ap (λ (x : Bool). cond (not x) (t ∷ unknown m us) (unknown m us)) k ∙ q)) in
          (rest.0, or_right (t.signal == rest.0) (is_named rest.0 us) rest.1, rest.2)
      | inr k ↦ (
        t.signal,
        or_left (t.signal == t.signal) (is_named t.signal us) (eq-eqb t.signal t.signal refl),
        k,
      )
    ]

-- the wire that is said to be 0 or 1
says_below : (n w : ℕ) (k : Constraint) → ConstraintBelow n k → SaysBoolean k w → w < n
says_below n w k h says = by says.factors
  where
    multiple : (ts : List Term) → All (λ t. t.signal < n) ts → IsMultiple w ts → w < n
    multiple ts b q =
        named_below n w ts b (ap (is_named w) q.terms_are
        ∙ or_left (w == w) false (eq-eqb w w refl))

    by : (IsMultiple w k.a × IsMultipleLessOne w k.b) ⊎ (IsMultipleLessOne w k.a × IsMultiple w k.b)
        → w < n
    by (inl f) = multiple k.a h.a f.0
    by (inr f) = multiple k.b h.b f.1

step_counts : (n : ℕ) (o : Option Constraint) (m : Marks) (r : Rule)
    → IfSome o (ConstraintBelow n) → AppliesTo o m r
    → shown_of n m + 1 ≤ shown_of n (shown_from o m r)
step_counts n None m r below a = absurd a
step_counts n (Some k) m (Solve c w) below a =
    known_grows n w m (shown_from (Some k) m (Solve c w)) (step_grows (Some k) m (Solve c w))
    (named_below n w k.c below.c a.named) a.fresh (or_left (w == w) (m.known w) (eq-eqb w w refl))
step_counts n (Some k) m (Boolean c w) below a =
    boolean_grows n w m (shown_from (Some k) m (Boolean c w)) (step_grows (Some k) m (Boolean c w))
    (says_below n w k below a.says) a.fresh (or_left (w == w) (m.boolean w) (eq-eqb w w refl))
step_counts n (Some k) m (Bits c) below a =
    let u : (w : ℕ) × (is_named w k.c ≡ true) × (m.known w ≡ false) = some_unknown m k.c a.some in
    known_grows n u.0 m (shown_from (Some k) m (Bits c)) (step_grows (Some k) m (Bits c))
    (named_below n u.0 k.c below.c u.1) u.2 (or_left (is_named u.0 k.c) (m.known u.0) u.1)

below_at : (n : ℕ) (ks : List Constraint) (i : ℕ) → All (ConstraintBelow n) ks
    → IfSome (slice_get ks i) (ConstraintBelow n)
below_at n [] i h = tt
below_at n (k ∷ ks) zero h = All-head (ConstraintBelow n) k ks h
below_at n (k ∷ ks) (suc i) h = below_at n ks i (All-tail (ConstraintBelow n) k ks h)

rules_count : (n : ℕ) (ks : List Constraint) (m : Marks) (rs : List Rule)
    → All (ConstraintBelow n) ks → AllApply ks m rs
    → shown_of n m + length rs ≤ shown_of n (shown_by ks m rs)
rules_count n ks m [] h a = omega arith
rules_count n ks m (r ∷ rs) h a =
    omega (
      arith,
      step_counts n (slice_get ks (place_of r)) m r (below_at n ks (place_of r) h) a.0,
      rules_count n ks (shown ks m r) rs h a.1,
    )

pub few_rules : (n : ℕ) (ks : List Constraint) (m : Marks) (rs : List Rule)
    → All (ConstraintBelow n) ks → AllApply ks m rs → length rs ≤ 2 * n
few_rules n ks m rs h a =
    omega (arith, rules_count n ks m rs h a, shown_le n (shown_by ks m rs))
