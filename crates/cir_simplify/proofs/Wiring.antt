-- Marks of kept signals, and constraints over their places.
use Rattle.std.proofs.Common.{◌≡◌, ℕ, zero, suc, ◌+◌, ◌<◌, ◌≤◌, ◌==◌, ◌||◌, not, nat_le}
use Rattle.std.proofs.Common.{slice_index, Bool, true, false, cond, List, [], ◌∷◌, ◌++◌, map}
use Rattle.std.proofs.Common.{length, get_or, set, take, All, arith, refl, ap, sym, subst, ◌∙◌, inl}
use Rattle.std.proofs.Common.{inr, add-one, length-append}
use Rattle.std.proofs.lemmas.Bool.{cases_lt, cases_eq, eq-eqb, eqb-true}
use Rattle.std.proofs.lemmas.List.{get_or-set_same, get_or-set_other}
use Rattle.std.proofs.lemmas.List.Folds.{list_any_more, list_any_at}
use Rattle.std.proofs.lemmas.List.Elements.{All-nil, All-cons, All-head, All-tail, All-filter}
use Rattle.std.proofs.lemmas.List.Elements.{All-from_get_or}
use Rattle.std.specs.List.{filter, list_any}
use Rattle.gold_field.specs.declared.form.Term.{Term}
use Rattle.gold_field.specs.declared.form.Constraint.{Constraint}
use Rattle.gold_field.specs.Rises.{RisesFrom}
use Rattle.cir_lc.specs.Terms.{IsWithin}
use Rattle.cir_lc.specs.Normal.{IsConstraintWithin}
use Rattle.cir_lc.proofs.Forms.{IsNaming, naming_within}
use Rattle.cir_simplify.specs.declared.types.Rules.{Rules}
use Rattle.cir_simplify.specs.declared.types.Solved.{Solved}
use Rattle.cir_simplify.specs.declared.types.Level.{Level}
use Rattle.cir_simplify.specs.declared.types.Level.TheVariants.{O0, O1, O2}
use Rattle.cir_simplify.specs.Turn.{dropped}
use Rattle.cir_simplify.specs.Answer.{IsOverWires}
use Rattle.cir_simplify.specs.Index.{row, empty, IsGood, IsNameable}
use Rattle.cir_simplify.specs.Shape.{names, names_in, is_empty}
use Rattle.cir_simplify.specs.Wires.{keeps_all, is_left, is_kept, kept_below, wire_of, renamed}
use Rattle.cir_simplify.specs.Wires.{renamed_in}
use Rattle.cir_simplify.proofs.Noting.{names_more}
use Rattle.cir_simplify.proofs.Holes.{is_empty_true}

or_same : (a b : Bool) → a || (b || true) ≡ true
or_same true b = refl
or_same false true = refl
or_same false false = refl

or_none : (a b : Bool) → a || (b || false) ≡ a || b
or_none true b = refl
or_none false true = refl
or_none false false = refl

test_apart : (a b : ℕ) → (a ≡ b → ⊥) → a == b ≡ false
test_apart a b h = by_test (a == b) refl
  where
    by_test : (t : Bool) → a == b ≡ t → t ≡ false
    by_test true e = absurd (h (eqb-true a b e))
    by_test false e = refl

-- one mark more
pub marks_step : (n : ℕ) (old now new : List Bool) (ts : List Term) (i : ℕ) (t : Term)
    → i < length ts → t ≡ get_or ts i t → t.signal < length now → new ≡ set now t.signal true
    → ((x : ℕ) → x < n → get_or now x false ≡ (get_or old x false || names x (take i ts))) → (x : ℕ)
    → x < n → get_or new x false ≡ (get_or old x false || names x (take (i + 1) ts))
marks_step n old now new ts i t l e b f h x p =
    ap (λ (v : List Bool). get_or v x false) f
    ∙ elim (cases_eq x t.signal) [
      | inl g ↦
          ap (λ (y : ℕ). get_or (set now t.signal true) y false) g
          ∙ get_or-set_same now t.signal true false b
          ∙ sym (ap (λ (v : Bool). get_or old x false || v) (names_more x ts i t l e
          ∙ ap (λ (v : Bool). names x (take i ts) || v) (eq-eqb t.signal x (sym g)))
          ∙ or_same (get_or old x false) (names x (take i ts)))
      | inr g ↦
          get_or-set_other now t.signal x true false g ∙ h x p
          ∙ sym (ap (λ (v : Bool). get_or old x false || v) (names_more x ts i t l e
          ∙ ap (λ (v : Bool). names x (take i ts) || v)
          (test_apart t.signal x (λ q. g (sym q))))
          ∙ or_none (get_or old x false) (names x (take i ts)))
    ]

or_three : (o a b c : Bool) → ((o || a) || b) || c ≡ o || ((a || b) || c)
or_three true a b c = refl
or_three false a b c = refl

-- the three forms of a constraint
pub marks_all : (n : ℕ) (h j k m : List Bool) (q : Constraint) → length j ≡ n → length k ≡ n
    → ((x : ℕ) → x < n → get_or j x false ≡ (get_or h x false || names x q.a))
    → ((x : ℕ) → x < length j → get_or k x false ≡ (get_or j x false || names x q.b))
    → ((x : ℕ) → x < length k → get_or m x false ≡ (get_or k x false || names x q.c)) → (x : ℕ)
    → x < n → get_or m x false ≡ (get_or h x false || names_in x q)
marks_all n h j k m q lj lk a b c x p =
    c x (omega (arith, lk))
    ∙ ap (λ (v : Bool). v || names x q.c) (b x (omega (arith, lj))
    ∙ ap (λ (v : Bool). v || names x q.b) (a x p))
    ∙ or_three (get_or h x false) (names x q.a) (names x q.b) (names x q.c)

-- one row more
pub kept_more : (level : Level) (kept : ℕ) (rows : List Constraint) (i x : ℕ) (q : Constraint)
    (now new : Bool) → i < length rows → q ≡ get_or rows i q
    → now ≡ is_kept level kept (take i rows) x → new ≡ (now || names_in x q)
    → new ≡ is_kept level kept (take (i + 1) rows) x
kept_more level kept rows i x q now new l e f g =
    g ∙ ap (λ (v : Bool). v || names_in x q) f
    ∙ or_later (keeps_all level || nat_le x kept) (is_left (take i rows) x) (names_in x q)
    ∙ ap (λ (v : Bool). (keeps_all level || nat_le x kept) || v)
    (sym (list_any_more (names_in x) rows i q l
    ∙ ap (λ (k : Constraint). list_any (names_in x) (take i rows) || names_in x k) (sym e)))
  where
    or_later : (a b c : Bool) → (a || b) || c ≡ a || (b || c)
    or_later true b c = refl
    or_later false b c = refl

pub kept_none : (level : Level) (kept x : ℕ) (b : Bool) (rows : List Constraint)
    → b ≡ (keeps_all level || nat_le x kept) → b ≡ is_kept level kept (take 0 rows) x
kept_none level kept x b rows e = e ∙ or_end (keeps_all level || nat_le x kept)
  where
    or_end : (a : Bool) → a ≡ a || false
    or_end true = refl
    or_end false = refl

-- places
pub kept_below_more : (keeps : ℕ → Bool) (n : ℕ)
    → kept_below keeps (n + 1) ≡ kept_below keeps n ++ cond (keeps n) (n ∷ []) []
kept_below_more keeps n = ap (kept_below keeps) (add-one n)

pub kept_below_same : (f g : ℕ → Bool) (n : ℕ) → ((x : ℕ) → x < n → f x ≡ g x)
    → kept_below f n ≡ kept_below g n
kept_below_same f g zero h = refl
kept_below_same f g (suc n) h =
    ap (λ (v : List ℕ). v ++ cond (f n) (n ∷ []) [])
    (kept_below_same f g n (λ x l. h x (omega arith)))
    ∙ ap (λ (b : Bool). kept_below g n ++ cond b (n ∷ []) []) (h n (omega arith))

pub wire_less : (keeps : ℕ → Bool) (m n : ℕ) → m ≤ n → wire_of keeps m ≤ wire_of keeps n
wire_less keeps m zero l = omega (arith, ap (wire_of keeps) (zero_at m l))
  where
    zero_at : (m : ℕ) → m ≤ 0 → m ≡ 0
    zero_at m l = omega arith
wire_less keeps m (suc n) l =
    elim (cases_lt m (suc n)) [
      | inl p ↦
          omega (
            arith,
            wire_less keeps m n (omega arith),
            length-append (kept_below keeps n) (cond (keeps n) (n ∷ []) []),
          )
      | inr p ↦ let same : m ≡ suc n = omega arith in omega (arith, ap (wire_of keeps) same)
    ]

pub wire_next : (keeps : ℕ → Bool) (n : ℕ) → keeps n ≡ true
    → wire_of keeps (n + 1) ≡ wire_of keeps n + 1
wire_next keeps n h =
    ap (λ (v : List ℕ). length v) (kept_below_more keeps n
    ∙ ap (λ (b : Bool). kept_below keeps n ++ cond b (n ∷ []) []) h)
    ∙ length-append (kept_below keeps n) (n ∷ [])

-- over the places the terms still rise
pub rises_renamed : (keeps : ℕ → Bool) (low : ℕ) (ts : List Term) → RisesFrom low ts
    → All (λ t. keeps t.signal ≡ true) ts
    → RisesFrom (wire_of keeps low) (map (renamed (wire_of keeps)) ts)
rises_renamed keeps low [] h k = tt
rises_renamed keeps low (t ∷ ts) h k =
    let here : keeps t.signal ≡ true = All-head (λ (t : Term). keeps t.signal ≡ true) t ts k in (
      wire_less keeps low t.signal h.0,
      h.1,
      subst (λ (n : ℕ). RisesFrom n (map (renamed (wire_of keeps)) ts))
          (wire_next keeps t.signal here)
          (rises_renamed keeps (t.signal + 1) ts h.2
          (All-tail (λ (t : Term). keeps t.signal ≡ true) t ts k)),
    )

pub renamed_same : (f g : ℕ → ℕ) (n : ℕ) (ts : List Term) → ((x : ℕ) → x < n → f x ≡ g x)
    → IsNaming n ts → map (renamed f) ts ≡ map (renamed g) ts
renamed_same f g n [] h w = refl
renamed_same f g n (t ∷ ts) h w =
    let here : f t.signal ≡ g t.signal =
    h t.signal (All-head (λ (t : Term). t.signal < n) t ts w) in
    ap (λ (s : ℕ). (record { signal = s; coef = t.coef }) ∷ map (renamed f) ts) here
    ∙ ap (λ (v : List Term). renamed g t ∷ v)
    (renamed_same f g n ts h (All-tail (λ (t : Term). t.signal < n) t ts w))

-- each signal that a form names passes the test that the named ones pass
pub all_named : (keeps : ℕ → Bool) (ts : List Term) → ((x : ℕ) → names x ts ≡ true → keeps x ≡ true)
    → All (λ t. keeps t.signal ≡ true) ts
all_named keeps [] h = All-nil (λ (t : Term). keeps t.signal ≡ true)
all_named keeps (t ∷ ts) h =
    All-cons (λ (t : Term). keeps t.signal ≡ true) t ts
    (h t.signal (first (names t.signal ts) (eq-eqb t.signal t.signal refl)))
    (all_named keeps ts (λ x e. h x (rest (t.signal == x) (names x ts) e)))
  where
    first : (b : Bool) {a : Bool} → a ≡ true → a || b ≡ true
    first b h = ap (λ (a : Bool). a || b) h

    rest : (a b : Bool) → b ≡ true → a || b ≡ true
    rest true b h = refl
    rest false b h = h

pub row_naming : (n m : ℕ) (rows : List Constraint) (i : ℕ) (q : Constraint) → q ≡ get_or rows i q
    → i < length rows → All (λ k. IsConstraintWithin n k) rows → m ≡ n → IsNaming m q.a
    × IsNaming m q.b × IsNaming m q.c
row_naming n m rows i q e l h f =
    let w : IsConstraintWithin n q = subst (IsConstraintWithin n) (sym e) (h i q l) in
    subst (λ (j : ℕ). IsNaming j q.a × IsNaming j q.b × IsNaming j q.c) (sym f)
    (naming_within n q.a w.0, naming_within n q.b w.1, naming_within n q.c w.2)

-- the list without its empty constraints has the same signals
left_one : (y : ℕ) (k : Constraint) (ks : List Constraint) (b : Bool) → is_empty k ≡ b
    → is_left (filter (λ k. not (is_empty k)) ks) y ≡ is_left ks y
    → is_left
    (cond (not b) (k ∷ filter (λ k. not (is_empty k)) ks) (filter (λ k. not (is_empty k)) ks)) y
    ≡ (names_in y k || is_left ks y)
left_one y k ks true e ih =
    ih ∙ ap (λ (b : Bool). b || is_left ks y) (sym (ap (names_in y) (is_empty_true k e)))
left_one y k ks false e ih = ap (λ (b : Bool). names_in y k || b) ih

left_kept : (y : ℕ) (ks : List Constraint) → is_left (filter (λ k. not (is_empty k)) ks) y
    ≡ is_left ks y
left_kept y [] = refl
left_kept y (k ∷ ks) = left_one y k ks (is_empty k) refl (left_kept y ks)

pub kept_shown : (l : Level) (main : ℕ) (ks : List Constraint) (y : ℕ)
    → is_kept l main (dropped l ks) y ≡ is_kept l main ks y
kept_shown O0 main ks y = refl
kept_shown O1 main ks y = ap (λ (b : Bool). (keeps_all O1 || nat_le y main) || b) (left_kept y ks)
kept_shown O2 main ks y = ap (λ (b : Bool). (keeps_all O2 || nat_le y main) || b) (left_kept y ks)

pub within_dropped : (n : ℕ) (l : Level) (ks : List Constraint)
    → All (λ k. IsConstraintWithin n k) ks → All (λ k. IsConstraintWithin n k) (dropped l ks)
within_dropped n O0 ks h = h
within_dropped n O1 ks h = All-filter (λ k. not (is_empty k)) (λ k. IsConstraintWithin n k) ks h
within_dropped n O2 ks h = All-filter (λ k. not (is_empty k)) (λ k. IsConstraintWithin n k) ks h

pub constraint_same : (f g : ℕ → ℕ) (n : ℕ) (k : Constraint) → ((x : ℕ) → x < n → f x ≡ g x)
    → IsConstraintWithin n k → renamed_in f k ≡ renamed_in g k
constraint_same f g n k h w =
    let a = renamed_same f g n k.a h (naming_within n k.a w.0) in
    let b = renamed_same f g n k.b h (naming_within n k.b w.1) in
    let c = renamed_same f g n k.c h (naming_within n k.c w.2) in
    λ i. record { a = a i; b = b i; c = c i }

pub list_same : (f g : ℕ → ℕ) (n : ℕ) (ks : List Constraint) → ((x : ℕ) → x < n → f x ≡ g x)
    → All (λ k. IsConstraintWithin n k) ks → map (renamed_in f) ks ≡ map (renamed_in g) ks
list_same f g n [] h w = refl
list_same f g n (k ∷ ks) h w =
    ap (λ (z : Constraint). z ∷ map (renamed_in f) ks)
    (constraint_same f g n k h (All-head (λ k. IsConstraintWithin n k) k ks w))
    ∙ ap (λ (v : List Constraint). renamed_in g k ∷ v)
    (list_same f g n ks h (All-tail (λ k. IsConstraintWithin n k) k ks w))

or_end : (a b : Bool) → b ≡ true → a || b ≡ true
or_end true b h = refl
or_end false b h = h

or_start : (a b : Bool) → a ≡ true → a || b ≡ true
or_start true b h = refl
or_start false b h = cc

-- a constraint of the list can be named by the places of the kept signals
pub nameable : (l : Level) (main n : ℕ) (rows : List Constraint) (places : List ℕ) (i : ℕ)
    → i < length rows → IsGood n (row rows i) → length places ≡ n
    → ((x : ℕ) → x < n → slice_index places x ≡ wire_of (is_kept l main rows) x)
    → IsNameable places (row rows i)
nameable l main n rows places i p g e h =
    let w : IsNaming (length places) (row rows i).a × IsNaming (length places) (row rows i).b
    × IsNaming (length places) (row rows i).c =
    subst (λ (j : ℕ). IsNaming j (row rows i).a × IsNaming j (row rows i).b
    × IsNaming j (row rows i).c) (sym e) (
      naming_within n _ g.within.0,
      naming_within n _ g.within.1,
      naming_within n _ g.within.2,
    ) in
    record {
      a = w.0;
      b = w.1;
      c = w.2;
      rises = (
        form_rises (row rows i).a g.rises.0 g.within.0
            (λ x d. or_start (names x (row rows i).a || names x (row rows i).b)
            (names x (row rows i).c)
            (or_start (names x (row rows i).a) (names x (row rows i).b) d)),
        form_rises (row rows i).b g.rises.1 g.within.1
            (λ x d. or_start (names x (row rows i).a || names x (row rows i).b)
            (names x (row rows i).c) (or_end (names x (row rows i).a) (names x (row rows i).b) d)),
        form_rises (row rows i).c g.rises.2 g.within.2
            (λ x d. or_end (names x (row rows i).a || names x (row rows i).b)
            (names x (row rows i).c) d),
      );
    }
  where
    kept_here : (x : ℕ) → names_in x (row rows i) ≡ true → is_kept l main rows x ≡ true
    kept_here x d =
        or_end (keeps_all l || nat_le x main) (is_left rows x)
        (list_any_at (names_in x) rows i empty p d)

    form_rises : (ts : List Term) → RisesFrom 0 ts → IsWithin n ts
        → ((x : ℕ) → names x ts ≡ true → names_in x (row rows i) ≡ true)
        → RisesFrom 0 (map (renamed (slice_index places)) ts)
    form_rises ts r v d =
        subst (RisesFrom 0)
        (sym (renamed_same (slice_index places) (wire_of (is_kept l main rows)) n ts h
        (naming_within n ts v)))
        (rises_renamed (is_kept l main rows) 0 ts r
        (all_named (is_kept l main rows) ts (λ x q. kept_here x (d x q))))

pub all_within : (n : ℕ) (rows : List Constraint) → ((i : ℕ) → IsGood n (row rows i))
    → All (λ k. IsConstraintWithin n k) rows
all_within n rows g = All-from_get_or (λ k. IsConstraintWithin n k) rows empty (λ i l. (g i).within)

-- what is made of the list, the wires and the places
pub wired : (r : Rules) (rows : List Constraint) (es : List Solved) (marks : List Bool)
    (wires places : List ℕ) (cs : List Constraint) → ((i : ℕ) → IsGood r.bound (row rows i))
    → length marks ≡ r.bound
    → ((x : ℕ) → x < r.bound → get_or marks x false ≡ is_kept r.level r.kept rows x)
    → wires ≡ kept_below (λ x. get_or marks x false) (length marks)
    → ((x : ℕ) → x < length marks → slice_index places x ≡ wire_of (λ x. get_or marks x false) x)
    → cs ≡ map (renamed_in (slice_index places)) (dropped r.level rows)
    → IsOverWires r (record { list = dropped r.level rows; solved = es })
    (record { constraints = cs; wires = wires; solved = es })
wired r rows es marks wires places cs g len h w p e = record {
  wires = w ∙ ap (kept_below (λ x. get_or marks x false)) len
      ∙ kept_below_same (λ x. get_or marks x false) (is_kept r.level r.kept (dropped r.level rows))
      r.bound same;
  constraints =
      e ∙ list_same (slice_index places) (wire_of (is_kept r.level r.kept (dropped r.level rows)))
      r.bound (dropped r.level rows)
      (λ x l. p x (omega (arith, len))
      ∙ ap (λ (v : List ℕ). length v)
      (kept_below_same (λ x. get_or marks x false)
      (is_kept r.level r.kept (dropped r.level rows)) x (λ y m. same y (omega arith))))
      (within_dropped r.bound r.level rows (all_within r.bound rows g));
  solved = refl;
}
  where
    same : (x : ℕ) → x < r.bound
        → get_or marks x false ≡ is_kept r.level r.kept (dropped r.level rows) x
    same x l = h x l ∙ sym (kept_shown r.level r.kept rows x)

pub all_nameable : (r : Rules) (rows : List Constraint) (marks : List Bool) (places : List ℕ)
    → ((i : ℕ) → IsGood r.bound (row rows i)) → length marks ≡ r.bound
    → ((x : ℕ) → x < r.bound → get_or marks x false ≡ is_kept r.level r.kept rows x)
    → length places ≡ length marks
    → ((x : ℕ) → x < length marks → slice_index places x ≡ wire_of (λ x. get_or marks x false) x)
    → All (λ k. IsNameable places k) rows
all_nameable r rows marks places g len h m p =
    All-from_get_or (λ k. IsNameable places k) rows empty
    (λ i l. nameable r.level r.kept r.bound rows places i l (g i) (m ∙ len)
    (λ x q. p x (omega (arith, len))
    ∙ ap (λ (v : List ℕ). length v)
    (kept_below_same (λ x. get_or marks x false) (is_kept r.level r.kept rows) x
    (λ y d. h y (omega arith)))))
