-- The term for whose signal a constraint is solved.
use Rattle.std.proofs.Common.{◌≡◌, ℕ, zero, suc, ◌+◌, ◌<◌, ◌≤◌, Bool, true, false, ◌&&◌, cond}
use Rattle.std.proofs.Common.{nat_lt, nat_le, List, [], ◌∷◌, length, get_or, Option, Some, None}
use Rattle.std.proofs.Common.{IsSome, IfSome, slice_get, arith, refl, ap, sym, ◌∙◌, inl, inr, ◌⊎◌}
use Rattle.std.proofs.lemmas.Bool.{cases_eq, cases_lt}
use Rattle.std.proofs.lemmas.List.{get_or_past}
use Rattle.std.proofs.lemmas.List.Elements.{All-head, All-tail}
use Rattle.std.specs.List.{list_any}
use Rattle.std.specs.BTreeMap.{is_at}
use Rattle.std.specs.BTreeSet.{BTreeSet, contains, IsLowerBound}
use Rattle.std.specs.Ordering.{nat_cmp, is_gt}
use Rattle.gold_field.specs.declared.form.Term.{Term}
use Rattle.gold_field.specs.declared.form.Constraint.{Constraint}
use Rattle.gold_field.specs.declared.gold.TheConstants.{P}
use Rattle.gold_field.specs.Rises.{RisesFrom}
use Rattle.cir_lc.specs.Terms.{IsWithin}
use Rattle.cir_simplify.specs.declared.types.Rules.{Rules}
use Rattle.cir_simplify.specs.declared.state.Ready.{Ready}
use Rattle.cir_simplify.specs.Shape.{greatest, unless_later, pivot, has_no_terms, fits}
use Rattle.cir_simplify.specs.Turn.{first_pivot, or_later}
use Rattle.cir_simplify.specs.Index.{row, empty, IsGood, IsReady, IsNoneBefore}
use Rattle.cir_simplify.proofs.Starting.{pivot_empty, some_none}
use Rattle.cir_simplify.proofs.Noting.{or_cases}

rises_low : (low : ℕ) (ts : List Term) (m : ℕ) (t : Term) → RisesFrom low ts → m < length ts
    → t ≡ get_or ts m t → low ≤ t.signal
rises_low low [] m t h l e = absurd (omega arith)
rises_low low (u ∷ ts) zero t h l e = omega (arith, h.0, ap (λ (x : Term). x.signal) e)
rises_low low (u ∷ ts) (suc m) t h l e =
    omega (arith, h.0, rises_low (u.signal + 1) ts m t h.2 (omega arith) e)

test_below : (a b : ℕ) → a < b → nat_lt a b ≡ true
test_below a b h = grind (arith, h)

test_above : (a b : ℕ) → b ≤ a → nat_lt a b ≡ false
test_above a b h = grind (arith, h)

-- where the terms rise, the last one tells
pub greatest_some : (kept low : ℕ) (ts : List Term) (m : ℕ) (t : Term) → RisesFrom low ts
    → m + 1 ≡ length ts → t ≡ get_or ts m t → kept < t.signal → greatest kept ts ≡ Some t
greatest_some kept low [] m t h l e k = absurd (omega arith)
greatest_some kept low (u ∷ []) zero t h l e k =
    ap (λ (b : Bool). cond b (Some u) None)
    (test_below kept u.signal (omega (arith, ap (λ (x : Term). x.signal) e)))
    ∙ ap (λ (x : Term). Some x) (sym e)
greatest_some kept low (u ∷ []) (suc m) t h l e k = absurd (omega arith)
greatest_some kept low (u ∷ (v ∷ ts)) zero t h l e k = absurd (omega arith)
greatest_some kept low (u ∷ (v ∷ ts)) (suc m) t h l e k =
    ap (unless_later kept u) (greatest_some kept (u.signal + 1) (v ∷ ts) m t h.2 (omega arith) e k)

pub greatest_none : (kept low : ℕ) (ts : List Term) (m : ℕ) (t : Term) → RisesFrom low ts
    → m + 1 ≡ length ts → t ≡ get_or ts m t → t.signal ≤ kept → greatest kept ts ≡ None
greatest_none kept low [] m t h l e k = refl
greatest_none kept low (u ∷ []) zero t h l e k =
    ap (λ (b : Bool). cond b (Some u) None)
    (test_above kept u.signal (omega (arith, ap (λ (x : Term). x.signal) e)))
greatest_none kept low (u ∷ []) (suc m) t h l e k = absurd (omega arith)
greatest_none kept low (u ∷ (v ∷ ts)) zero t h l e k = absurd (omega arith)
greatest_none kept low (u ∷ (v ∷ ts)) (suc m) t h l e k =
    let above : u.signal + 1 ≤ t.signal =
    rises_low (u.signal + 1) (v ∷ ts) m t h.2 (omega arith) e in
    ap (unless_later kept u) (greatest_none kept (u.signal + 1) (v ∷ ts) m t h.2 (omega arith) e k)
    ∙ ap (λ (b : Bool). cond b (Some u) None) (test_above kept u.signal (omega arith))

-- what is known of the term
pub record Picked (r : Rules) (n : ℕ) (k : Constraint) (t : Term) : Type 0 where
  pub above : r.kept < t.signal
  pub below : t.signal < n
  pub some : 0 < t.coef
  pub small : t.coef < P
  pub linear : k.a ≡ []
  pub taken : greatest r.kept k.c ≡ Some t

record Taken (kept n : ℕ) (t : Term) : Type 0 where
  pub above : kept < t.signal
  pub below : t.signal < n
  pub some : 0 < t.coef
  pub small : t.coef < P

lt_from_test : (a b : ℕ) → nat_lt a b ≡ true → a < b
lt_from_test a b h = grind (arith, h)

pub unless_cases : (kept : ℕ) (t u : Term) (o : Option Term) → unless_later kept t o ≡ Some u
    → (o ≡ Some u) ⊎ ((t ≡ u) × (kept < t.signal))
unless_cases kept t u (Some v) h = inl h
unless_cases kept t u None h = by_test (nat_lt kept t.signal) refl h
  where
    by_test : (b : Bool) → nat_lt kept t.signal ≡ b → cond b (Some t) None ≡ Some u
        → (None ≡ Some u) ⊎ ((t ≡ u) × (kept < t.signal))
    by_test true e g = inr (cc, lt_from_test kept t.signal e)
    by_test false e g = inl g

greatest_taken : (kept n low : ℕ) (ts : List Term) (u : Term) → RisesFrom low ts → IsWithin n ts
    → greatest kept ts ≡ Some u → Taken kept n u
greatest_taken kept n low [] u h w e = cc
greatest_taken kept n low (t ∷ ts) u h w e =
    elim (unless_cases kept t u (greatest kept ts) e) [
      | inl g ↦
          greatest_taken kept n (t.signal + 1) ts u h.2
          (All-tail (λ (t : Term). (t.signal < n) × (t.coef < P)) t ts w) g
      | inr (g, k) ↦
          let here : (t.signal < n) × (t.coef < P) =
          All-head (λ (t : Term). (t.signal < n) × (t.coef < P)) t ts w in
          let taken : Taken kept n t =
          record { above = k; below = here.0; some = h.1; small = here.1 } in
          rw g at taken
    ]

no_terms : (ts : List Term) → has_no_terms ts ≡ true → ts ≡ []
no_terms [] h = refl
no_terms (t ∷ ts) h = cc

pub picked : (r : Rules) (n : ℕ) (k : Constraint) (t : Term) → IsGood n k → pivot r k ≡ Some t
    → Picked r n k t
picked r n k t g h =
    by_tests (has_no_terms k.a) (nat_le (length k.c) 1024) (fits r.level k.c) refl h
  where
    by_tests : (a b c : Bool) → has_no_terms k.a ≡ a → cond (a && b && c) (greatest r.kept k.c) None
        ≡ Some t → Picked r n k t
    by_tests true true true e p =
        let u : Taken r.kept n t = greatest_taken r.kept n 0 k.c t g.rises.2 g.within.2 p in
        record {
          above = u.above;
          below = u.below;
          some = u.some;
          small = u.small;
          linear =
              no_terms k.a e;
          taken = p;
        }
    by_tests true true false e p = cc
    by_tests true false c e p = cc
    by_tests false b c e p = cc

-- nothing below the least place of the worklist can be solved
pub below_none : (r : Rules) (rows : List Constraint) (ready : Ready) (k : ℕ)
    → IsReady r rows ready → IsLowerBound nat_cmp ready.again k → k < ready.next
    → IsNoneBefore r rows k
below_none r rows ready k h b m j l = by_pivot (pivot r (row rows j)) refl
  where
    gt_false : (k j : ℕ) → j < k → is_gt (nat_cmp k j) ≡ false → ⊥
    gt_false k j l e = grind (arith, l, e)

    by_pivot : (o : Option Term) → pivot r (row rows j) ≡ o → o ≡ None
    by_pivot None e = refl
    by_pivot (Some t) e =
        elim (h j (rw e refl)) [
          | inl g ↦ absurd (omega (arith, g, l, m))
          | inr here ↦ absurd (gt_false k j l (b j here))
        ]

-- the first key of a set is what is taken out
pub popped : (o : Option ℕ) (ks ms : List ℕ) (k : ℕ) → slice_get ks 0 ≡ Some k
    → (0 < length ks → IsSome o) → IfSome o (λ j. ks ≡ j ∷ ms) → ks ≡ k ∷ ms
popped o [] ms k f v r = cc
popped None (q ∷ ks) ms k f v r = let e : false ≡ true = v (omega arith) in cc
popped (Some j) (q ∷ ks) ms k f v r = cc

-- the first place before `next` goes where its constraint can't be solved
pub ready_less : (r : Rules) (rows : List Constraint) (before now : Ready) (k : ℕ)
    → now.next ≡ before.next → before.again.keys ≡ k ∷ now.again.keys
    → (before.next ≤ k) ⊎ (pivot r (row rows k) ≡ None) → IsReady r rows before
    → IsReady r rows now
ready_less r rows before now k e u g h j p =
    elim (h j p) [
      | inl l ↦ inl (omega (arith, l, e))
      | inr here ↦ elim (or_cases (is_at (nat_cmp j) k) (contains nat_cmp now.again j)
          (sym (ap (list_any (is_at (nat_cmp j))) u) ∙ here)) [
            | inl same ↦ elim g [
              | inl l ↦ inl (omega (arith, l, e, same_key j k same))
              | inr none ↦
                  absurd (some_none (pivot r (row rows j))
                  (ap (λ (i : ℕ). pivot r (row rows i)) (same_key j k same) ∙ none) p)
            ]
            | inr there ↦ inr there
          ]
    ]
  where
    same_key : (j k : ℕ) → is_at (nat_cmp j) k ≡ true → j ≡ k
    same_key j k h = grind (arith, h)

pub first_at : (r : Rules) (rows : List Constraint) (i : ℕ) (t : Term) → i < length rows
    → ((j : ℕ) → j < i → pivot r (row rows j) ≡ None) → pivot r (row rows i) ≡ Some t
    → first_pivot r rows ≡ Some (record { term = t; form = (row rows i).c })
first_at r [] i t l b e = absurd (omega arith)
first_at r (k ∷ ks) zero t l b e = ap (λ (o : Option Term). or_later o k.c (first_pivot r ks)) e
first_at r (k ∷ ks) (suc i) t l b e =
    ap (λ (o : Option Term). or_later o k.c (first_pivot r ks)) (b 0 (omega arith))
    ∙ first_at r ks i t (omega arith) (λ j q. b (suc j) (omega arith)) e

pub first_none : (r : Rules) (rows : List Constraint) → ((j : ℕ) → pivot r (row rows j) ≡ None)
    → first_pivot r rows ≡ None
first_none r [] h = refl
first_none r (k ∷ ks) h = ap (λ (o : Option Term). or_later o k.c (first_pivot r ks)) (h 0)
    ∙ first_none r ks (λ j. h (suc j))

-- one constraint more can't be solved
pub none_more : (r : Rules) (rows : List Constraint) (n : ℕ) → IsNoneBefore r rows n
    → pivot r (row rows n) ≡ None → IsNoneBefore r rows (n + 1)
none_more r rows n h e j l =
    elim (cases_eq j n) [
      | inl same ↦ ap (λ (i : ℕ). pivot r (row rows i)) same ∙ e
      | inr apart ↦ h j (omega (arith, l, apart))
    ]

-- so the worklist can begin behind it
pub ready_behind : (r : Rules) (rows : List Constraint) (before now : Ready)
    → IsReady r rows before → pivot r (row rows before.next) ≡ None
    → now.next ≡ before.next + 1 → now.again ≡ before.again → IsReady r rows now
ready_behind r rows before now h e n a j p =
    elim (h j p) [
      | inl l ↦ elim (cases_eq j before.next) [
        | inl same ↦
            absurd (some_none (pivot r (row rows j)) (ap (λ (i : ℕ). pivot r (row rows i)) same
            ∙ e) p)
        | inr apart ↦ inl (omega (arith, l, n, apart))
      ]
      | inr here ↦ inr (ap (λ (s : BTreeSet ℕ). contains nat_cmp s j) a ∙ here)
    ]

-- no constraint of the list can be solved
pub all_none : (r : Rules) (rows : List Constraint) (n : ℕ) → length rows ≤ n
    → IsNoneBefore r rows n → first_pivot r rows ≡ None
all_none r rows n l h = first_none r rows each
  where
    each : (j : ℕ) → pivot r (row rows j) ≡ None
    each j =
        elim (cases_lt j n) [
          | inl k ↦ h j k
          | inr k ↦ ap (pivot r) (get_or_past rows j empty (omega (arith, l, k))) ∙ pivot_empty r
        ]
