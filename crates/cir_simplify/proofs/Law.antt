-- What simplification keeps of the assignments that satisfy a list.
use Rattle.std.proofs.Common.{◌≡◌, ℕ, zero, suc, ◌+◌, ◌-◌, ◌*◌, ◌%◌, ◌<◌, ◌≤◌, ◌==◌, ◌||◌, ◌&&◌}
use Rattle.std.proofs.Common.{not, nat_le, Bool, true, false, cond, List, [], ◌∷◌, ◌++◌, map}
use Rattle.std.proofs.Common.{length, sum_by, All, Option, Some, None, Result, Ok, Err, ◌⊎◌, inl}
use Rattle.std.proofs.Common.{inr, arith, refl, ap, sym, subst, ◌∙◌, mod-lt, mod-eq_of_lt, lit<}
use Rattle.std.proofs.Math.Nat.{mod-add-mod, add-mod-mod, mul-mod_right}
use Rattle.std.proofs.lemmas.Nat.{mul-mod_first}
use Rattle.std.proofs.lemmas.Bool.{eq-eqb}
use Rattle.std.proofs.lemmas.List.Elements.{All-nil, All-cons, All-head, All-tail, All-filter}
use Rattle.std.specs.List.{filter}
use Rattle.gold_field.specs.declared.form.Term.{Term}
use Rattle.gold_field.specs.declared.form.Constraint.{Constraint}
use Rattle.gold_field.specs.declared.gold.TheConstants.{P}
use Rattle.gold_field.specs.Rises.{RisesFrom}
use Rattle.gold_field.specs.Form.{Holds, value_at}
use Rattle.gold_field.specs.Operators.{inverse_of}
use Rattle.gold_field.proofs.PrimeLaws.{inverse_from}
use Rattle.cir_lc.specs.declared.quad.Quad.{Quad}
use Rattle.cir_lc.specs.Number.{Assignment, Number, value_of, signal, added, scaled}
use Rattle.cir_lc.specs.Coefficient.{coefficient, one_at}
use Rattle.cir_lc.specs.Terms.{IsWithin, term_of}
use Rattle.cir_lc.specs.Normal.{IsQuadWithin, constant_of, kept_of}
use Rattle.cir_lc.specs.Sparse.{normal_of}
use Rattle.cir_lc.specs.Substitution.{put, with_number, substitute}
use Rattle.cir_lc.specs.Merge.{total}
use Rattle.cir_lc.proofs.Totals.{total-nil, total-cons, total-append}
use Rattle.cir_lc.proofs.Steps.{total-term}
use Rattle.cir_lc.proofs.Known.{one_here, coef_of, coef_here, coef_apart, coef_below}
use Rattle.cir_lc.proofs.Forms.{form_rises, coefficient_any}
use Rattle.cir_lc.proofs.Changes.{normal_form, multiple_value}
use Rattle.cir_simplify.specs.declared.types.Level.{Level}
use Rattle.cir_simplify.specs.declared.types.Level.TheVariants.{O0, O1, O2}
use Rattle.cir_simplify.specs.declared.types.Rules.{Rules}
use Rattle.cir_simplify.specs.Shape.{names, names_in, is_empty, has_no_terms, greatest, pivot, fits}
use Rattle.cir_simplify.specs.Shape.{terms_in}
use Rattle.cir_simplify.specs.Turn.{Pick, Simplified, first_pivot, or_later, solution, after}
use Rattle.cir_simplify.specs.Turn.{dropped, limited, turn, turns, simplified}
use Rattle.cir_simplify.specs.Wires.{is_left, is_kept, keeps_all}
use Rattle.cir_simplify.specs.Keeps.{HoldAll, Agree, KeepsSolutions}
use Rattle.cir_simplify.specs.Index.{IsGood}
use Rattle.cir_simplify.proofs.Picks.{Picked, picked, unless_cases}
use Rattle.cir_simplify.proofs.Linear.{IsLinear, linear_value, linear_within, linear_of}
use Rattle.cir_simplify.proofs.Linear.{linear_added, linear_scaled, linear_negated, linear_signal}
use Rattle.cir_simplify.proofs.Linear.{linear_put, linear_rest, normal_is, value_append}
use Rattle.cir_simplify.proofs.Linear.{value_times, times_all}
use Rattle.cir_simplify.proofs.Linear.{put_apart, or_false, total_times}
use Rattle.cir_simplify.proofs.Linear.{substitute_holds, scaled_once}
use Rattle.cir_simplify.proofs.Holes.{is_empty_true}
use Rattle.cir_simplify.proofs.Unnamed.{both_false, names_append, names_times, term_unnamed}
use Rattle.cir_simplify.proofs.Unnamed.{zero_unnamed, free_form, substitute_unnamed}
use Rattle.cir_simplify.proofs.Unnamed.{substitute_gone}

-- the coefficient of the term for which a form is solved
taken_low : (kept low : ℕ) (ts : List Term) (u : Term) → RisesFrom low ts
    → greatest kept ts ≡ Some u → low ≤ u.signal
taken_low kept low [] u h e = cc
taken_low kept low (t ∷ ts) u h e =
    elim (unless_cases kept t u (greatest kept ts) e) [
      | inl g ↦ omega (arith, h.0, taken_low kept (t.signal + 1) ts u h.2 g)
      | inr (g, k) ↦ omega (arith, h.0, ap (λ (x : Term). x.signal) g)
    ]

pub taken_coef : (kept low : ℕ) (ts : List Term) (u : Term) → RisesFrom low ts
    → greatest kept ts ≡ Some u → coef_of u.signal ts ≡ u.coef
taken_coef kept low [] u h e = cc
taken_coef kept low (t ∷ ts) u h e =
    elim (unless_cases kept t u (greatest kept ts) e) [
      | inl g ↦
          coef_apart u.signal t ts (inr (omega (arith, taken_low kept (t.signal + 1) ts u h.2 g)))
          ∙ taken_coef kept (t.signal + 1) ts u h.2 g
      | inr (g, k) ↦
          let here : coef_of t.signal (t ∷ ts) ≡ t.coef = coef_here t ts
          ∙ omega (arith, coef_below t.signal (t.signal + 1) ts (omega arith) h.2) in
          subst (λ (v : Term). coef_of v.signal (t ∷ ts) ≡ v.coef) g here
    ]

taken_named : (kept : ℕ) (ts : List Term) (u : Term) → greatest kept ts ≡ Some u
    → names u.signal ts ≡ true
taken_named kept [] u e = cc
taken_named kept (t ∷ ts) u e =
    elim (unless_cases kept t u (greatest kept ts) e) [
      | inl g ↦ right_true (t.signal == u.signal) (names u.signal ts) (taken_named kept ts u g)
      | inr (g, k) ↦
          left_true (t.signal == u.signal) (names u.signal ts)
          (eq-eqb t.signal u.signal (ap (λ (x : Term). x.signal) g))
    ]
  where
    right_true : (a b : Bool) → b ≡ true → a || b ≡ true
    right_true true b h = refl
    right_true false b h = h

    left_true : (a b : Bool) → a ≡ true → a || b ≡ true
    left_true true b h = refl
    left_true false b h = cc

-- one less the coefficient times its inverse is 0
cancels : (m k v : ℕ) → m ≡ (P - v) % P → v < P → (k * v) % P ≡ 1 → (1 + m * k) % P ≡ 0
cancels m k v e l h =
    let a : ℕ = (P - v) * k in
    let whole : k * v + a ≡ P * k = omega (arith, ap (λ (n : ℕ). n * k) (split v l)) in
    ap (λ (n : ℕ). (1 + n * k) % P) e ∙ sym (add-mod-mod 1 (((P - v) % P) * k) P)
    ∙ ap (λ (n : ℕ). (1 + n) % P) (mul-mod_first (P - v) k P) ∙ add-mod-mod 1 a P
    ∙ ap (λ (n : ℕ). (n + a) % P) (sym h) ∙ mod-add-mod (k * v) P a ∙ ap (λ (n : ℕ). n % P) whole
    ∙ mul-mod_right P k
  where
    split : (v : ℕ) → v < P → (P - v) + v ≡ P
    split v l = omega arith

-- the solution doesn't name the signal that is solved for
solution_raw : (t : Term) (c : List Term)
    → value_of (term_of t.signal 1 ++ times_all ((P - inverse_of t.coef) % P) c)
    ≡ added (signal t.signal) (scaled ((P - inverse_of t.coef) % P) (value_of c))
solution_raw t c =
    value_append (term_of t.signal 1) (times_all ((P - inverse_of t.coef) % P) c)
    ∙ ap (λ (f : Number). added f (value_of (times_all ((P - inverse_of t.coef) % P) c)))
    (multiple_value t.signal 1 (term_of t.signal 1) refl ∙ scaled_once t.signal)
    ∙ ap (added (signal t.signal)) (value_times ((P - inverse_of t.coef) % P) c)

pub solution_inverse : (t : Term) → 0 < t.coef → t.coef < P
    → (1 + ((P - inverse_of t.coef) % P) * t.coef) % P ≡ 0
solution_inverse t p l =
    let inverse : (t.coef * inverse_of t.coef) % P ≡ 1 =
    inverse_from t.coef (inverse_of t.coef) (λ e. omega arith) l refl in
    cancels ((P - inverse_of t.coef) % P) t.coef (inverse_of t.coef) refl
    (mod-lt _ (lit< tt)) inverse

solution_gone : (n kept : ℕ) (t : Term) (c : List Term) → RisesFrom 0 c → greatest kept c ≡ Some t
    → 0 < t.coef → t.coef < P → names t.signal (solution n (record { term = t; form = c })) ≡ false
solution_gone n kept t c h g p l = zero_unnamed n t.signal _ none
  where
    m : ℕ
    m = (P - inverse_of t.coef) % P

    raw : coef_of t.signal (term_of t.signal 1 ++ times_all m c) ≡ 1 + m * t.coef
    raw =
        total-append (one_at t.signal) (term_of t.signal 1) (times_all m c)
        ∙ omega (
          arith,
          total-term (one_at t.signal) t.signal 1,
          one_here t.signal t.signal refl,
          total_times m (one_at t.signal) c,
          ap (λ (k : ℕ). m * k) (taken_coef kept 0 c t h g),
        )

    none : coefficient (added (signal t.signal) (scaled m (value_of c))) t.signal ≡ 0
    none =
        ap (λ (f : Number). coefficient f t.signal) (sym (solution_raw t c))
        ∙ coefficient_any t.signal (term_of t.signal 1 ++ times_all m c)
        ∙ ap (λ (k : ℕ). k % P) raw ∙ solution_inverse t p l

solution_unnamed : (n y : ℕ) (t : Term) (c : List Term) → (t.signal ≡ y → ⊥) → names y c ≡ false
    → names y (solution n (record { term = t; form = c })) ≡ false
solution_unnamed n y t c h g =
    free_form n y _ (
      term_of t.signal 1 ++ times_all ((P - inverse_of t.coef) % P) c,
      names_append y (term_of t.signal 1) (times_all ((P - inverse_of t.coef) % P) c)
          (term_unnamed y t.signal 1 h) (names_times y ((P - inverse_of t.coef) % P) c g),
      solution_raw t c,
    )

-- an empty constraint holds
nothing_holds : (k : Constraint) (s : Assignment) → is_empty k ≡ true → Holds s.at k
nothing_holds k s e = subst (λ (z : Constraint). Holds s.at z) (sym (is_empty_true k e)) refl

abbrev kept : List Constraint → List Constraint
kept list = filter (λ k. not (is_empty k)) list

abbrev Met : Assignment → Constraint → Type 0
Met s k = Holds s.at k

hold_one : (s : Assignment) (k : Constraint) (ks : List Constraint) (b : Bool) → is_empty k ≡ b
    → (HoldAll s (kept ks) → HoldAll s ks) → HoldAll s (cond (not b) (k ∷ kept ks) (kept ks))
    → HoldAll s (k ∷ ks)
hold_one s k ks true e ih h = All-cons (Met s) k ks (nothing_holds k s e) (ih h)
hold_one s k ks false e ih h =
    All-cons (Met s) k ks (All-head (Met s) k (kept ks) h) (ih (All-tail (Met s) k (kept ks) h))

hold_kept : (s : Assignment) (ks : List Constraint) → HoldAll s (kept ks) → HoldAll s ks
hold_kept s [] h = All-nil (Met s)
hold_kept s (k ∷ ks) h = hold_one s k ks (is_empty k) refl (hold_kept s ks) h

hold_back : (l : Level) (s : Assignment) (ks : List Constraint) → HoldAll s (dropped l ks)
    → HoldAll s ks
hold_back O0 s ks h = h
hold_back O1 s ks h = hold_kept s ks h
hold_back O2 s ks h = hold_kept s ks h

pub all_dropped : (l : Level) (Q : Constraint → Type 0) (ks : List Constraint) → All Q ks
    → All Q (dropped l ks)
all_dropped O0 Q ks h = h
all_dropped O1 Q ks h = All-filter (λ k. not (is_empty k)) Q ks h
all_dropped O2 Q ks h = All-filter (λ k. not (is_empty k)) Q ks h

left_one : (y : ℕ) (k : Constraint) (ks : List Constraint) (b : Bool) → names_in y k ≡ false
    → is_left (kept ks) y ≡ false → is_left (cond (not b) (k ∷ kept ks) (kept ks)) y ≡ false
left_one y k ks true e h = h
left_one y k ks false e h = both_false (names_in y k) (is_left (kept ks) y) e h

left_kept : (y : ℕ) (ks : List Constraint) → is_left ks y ≡ false → is_left (kept ks) y ≡ false
left_kept y [] h = refl
left_kept y (k ∷ ks) h =
    let g : (names_in y k ≡ false) × (is_left ks y ≡ false) =
    or_false (names_in y k) (is_left ks y) h in
    left_one y k ks (is_empty k) g.0 (left_kept y ks g.1)

left_dropped : (l : Level) (y : ℕ) (ks : List Constraint) → is_left ks y ≡ false
    → is_left (dropped l ks) y ≡ false
left_dropped O0 y ks h = h
left_dropped O1 y ks h = left_kept y ks h
left_dropped O2 y ks h = left_kept y ks h

left_map : (f : Constraint → Constraint) (y : ℕ) (ks : List Constraint)
    → ((k : Constraint) → names_in y k ≡ false → names_in y (f k) ≡ false) → is_left ks y ≡ false
    → is_left (map f ks) y ≡ false
left_map f y [] h e = refl
left_map f y (k ∷ ks) h e =
    let g : (names_in y k ≡ false) × (is_left ks y ≡ false) =
    or_false (names_in y k) (is_left ks y) e in
    both_false (names_in y (f k)) (is_left (map f ks) y) (h k g.0) (left_map f y ks h g.1)

left_gone : (f : Constraint → Constraint) (x : ℕ) (ks : List Constraint)
    → ((k : Constraint) → names_in x (f k) ≡ false) → is_left (map f ks) x ≡ false
left_gone f x [] h = refl
left_gone f x (k ∷ ks) h =
    both_false (names_in x (f k)) (is_left (map f ks) x) (h k) (left_gone f x ks h)

-- the constraint that is solved
record Source (r : Rules) (ks : List Constraint) (p : Pick) : Type 0 where
  pub from : Constraint
  pub taken : pivot r from ≡ Some p.term
  pub form : from.c ≡ p.form
  pub good : IsGood r.bound from
  pub hold : (s : Assignment) → HoldAll s ks → Holds s.at from
  pub left : (y : ℕ) → is_left ks y ≡ false → names_in y from ≡ false

source_by : (r : Rules) (k : Constraint) (ks : List Constraint) (p : Pick) (o : Option Term)
    → pivot r k ≡ o → All (IsGood r.bound) (k ∷ ks) → or_later o k.c (first_pivot r ks) ≡ Some p
    → (first_pivot r ks ≡ Some p → Source r ks p) → Source r (k ∷ ks) p
source_by r k ks p (Some t) e g h ih =
    let term : t ≡ p.term = cc in
    let form : k.c ≡ p.form = cc in
    record {
      from = k;
      taken = e ∙ ap (λ (u : Term). Some u) term;
      form = form;
      good = All-head (IsGood r.bound) k ks g;
      hold = λ s a. All-head (Met s) k ks a;
      left = λ y a. (or_false (names_in y k) (is_left ks y) a).0;
    }
source_by r k ks p None e g h ih =
    let s : Source r ks p = ih h in
    record {
      from = s.from;
      taken = s.taken;
      form = s.form;
      good = s.good;
      hold = λ t a. s.hold t (All-tail (Met t) k ks a);
      left = λ y a. s.left y (or_false (names_in y k) (is_left ks y) a).1;
    }

source : (r : Rules) (ks : List Constraint) (p : Pick) → All (IsGood r.bound) ks
    → first_pivot r ks ≡ Some p → Source r ks p
source r [] p g h = cc
source r (k ∷ ks) p g h =
    source_by r k ks p (pivot r k) refl g h (source r ks p (All-tail (IsGood r.bound) k ks g))

-- substitution keeps constraints normal
kept_rises : (o p : Option ℕ) (ts : List Term) → RisesFrom 0 ts → RisesFrom 0 (kept_of o p ts)
kept_rises None None ts h = h
kept_rises (Some k) p ts h = tt
kept_rises None (Some k) ts h = tt

kept_within : (n : ℕ) (o p : Option ℕ) (ts : List Term) → IsWithin n ts
    → IsWithin n (kept_of o p ts)
kept_within n None None ts h = h
kept_within n (Some k) p ts h = All-nil (λ (t : Term). (t.signal < n) × (t.coef < P))
kept_within n None (Some k) ts h = All-nil (λ (t : Term). (t.signal < n) × (t.coef < P))

normal_good : (n : ℕ) (q : Quad) → RisesFrom 0 q.a → RisesFrom 0 q.b → IsQuadWithin n q
    → IsGood n (normal_of n q)
normal_good n q a b w = record {
  normal = normal_form q (normal_of n q) (normal_is n q w);
  rises = (
    kept_rises (constant_of q.a) (constant_of q.b) q.a a,
    kept_rises (constant_of q.a) (constant_of q.b) q.b b,
    form_rises n _,
  );
  within = (
    kept_within n (constant_of q.a) (constant_of q.b) q.a w.0,
    kept_within n (constant_of q.a) (constant_of q.b) q.b w.1,
    linear_within n _ (linear_negated n _ (linear_rest n q (constant_of q.a) (constant_of q.b) w)),
  );
}

substitute_good : (n x : ℕ) (by : List Term) (k : Constraint) → 0 < x → IsWithin n by → IsGood n k
    → IsGood n (substitute n x by k)
substitute_good n x by k h v g =
    normal_good n _ (form_rises n _) (form_rises n _) (
      linear_within n _ (linear_put n x by k.a h v g.within.0),
      linear_within n _ (linear_put n x by k.b h v g.within.1),
      linear_within n _ (linear_negated n _ (linear_put n x by k.c h v g.within.2)),
    )

-- a number put in where it stands already
put_same : (k v : ℕ) (s : ℕ → ℕ) (j : ℕ) → v ≡ s k → put k v s j ≡ s j
put_same zero v s zero e = e
put_same zero v s (suc j) e = refl
put_same (suc k) v s zero e = refl
put_same (suc k) v s (suc j) e = put_same k v (λ i. s (suc i)) j e

with_same : (x v : ℕ) (s : Assignment) → v ≡ s.at x → (with_number x v s).at ≡ s.at
with_same zero v s e = refl
with_same (suc x) v s e =
    λ i j. put_same (suc x) (v % P) s.at j (ap (λ (n : ℕ). n % P) e
    ∙ mod-eq_of_lt {n = s.at (suc x)} {m = P} (s.below (suc x))) i

with_apart : (x v : ℕ) (s : Assignment) (y : ℕ) → (y ≡ x → ⊥) → (with_number x v s).at y ≡ s.at y
with_apart zero v s y h = refl
with_apart (suc x) v s y h = put_apart (suc x) (v % P) s.at y h

-- what the solution is
pub solution_linear : (n m : ℕ) (t : Term) (c : List Term) → t.signal < n → IsWithin n c
    → IsLinear n (added (signal t.signal) (scaled m (value_of c)))
solution_linear n m t c l w =
    linear_added n (signal t.signal) (scaled m (value_of c)) (linear_signal n t.signal l)
    (linear_scaled n m (value_of c) (linear_of n c w))

solved_number : (x m v : ℕ) → x < P → v ≡ 0 → (x + (m * v) % P) % P ≡ x
solved_number x m v l e = ap (λ (n : ℕ). (x + (m * n) % P) % P) e ∙ zero_sum x m l
  where
    zero_sum : (x m : ℕ) → x < P → (x + (m * 0) % P) % P ≡ x
    zero_sum x m l = omega arith

solution_at : (n : ℕ) (t : Term) (c : List Term) (s : Assignment) → t.signal < n → IsWithin n c
    → value_of c s ≡ 0 → value_of (solution n (record { term = t; form = c })) s ≡ s.at t.signal
unfolding added scaled signal
solution_at n t c s l w e =
    ap (λ (f : Number). f s)
    (linear_value n _ (solution_linear n ((P - inverse_of t.coef) % P) t c l w))
    ∙ solved_number (s.at t.signal) ((P - inverse_of t.coef) % P) (value_of c s)
    (s.below t.signal) e

linear_zero : (k : Constraint) (s : Assignment) → k.a ≡ [] → Holds s.at k → value_of k.c s ≡ 0
unfolding value_of
linear_zero k s e h = sym h ∙ ap (λ (ts : List Term). (value_at s.at ts * value_at s.at k.b) % P) e
    ∙ zero_product (value_at s.at k.b)
  where
    zero_product : (b : ℕ) → (0 * b) % P ≡ 0
    zero_product b = omega arith

-- one turn
record Keeps (main : ℕ) (before now : List Constraint) : Type 0 where
  pub forth : (s : Assignment) → HoldAll s before → HoldAll s now
  pub back : (s : Assignment) → HoldAll s now → (t : Assignment)
      × ((x : ℕ) → (x ≤ main) ⊎ (is_left now x ≡ true) → t.at x ≡ s.at x) × HoldAll t before
  pub left : (x : ℕ) → is_left before x ≡ false → is_left now x ≡ false

all_mapped : (Q R : Constraint → Type 0) (f : Constraint → Constraint) (ks : List Constraint)
    → ((k : Constraint) → Q k → R (f k)) → All Q ks → All R (map f ks)
all_mapped Q R f [] h a = All-nil R
all_mapped Q R f (k ∷ ks) h a =
    All-cons R (f k) (map f ks) (h k (All-head Q k ks a))
    (all_mapped Q R f ks h (All-tail Q k ks a))

all_unmapped : (G Q R : Constraint → Type 0) (f : Constraint → Constraint) (ks : List Constraint)
    → ((k : Constraint) → G k → R (f k) → Q k) → All G ks → All R (map f ks) → All Q ks
all_unmapped G Q R f [] h g a = All-nil Q
all_unmapped G Q R f (k ∷ ks) h g a =
    All-cons Q k ks (h k (All-head G k ks g) (All-head R (f k) (map f ks) a))
    (all_unmapped G Q R f ks h (All-tail G k ks g) (All-tail R (f k) (map f ks) a))

all_both : (G Q : Constraint → Type 0) (ks : List Constraint) → All G ks → All Q ks
    → All (λ k. G k × Q k) ks
all_both G Q ks g q = λ k d l. (g k d l, q k d l)

abbrev pub next_list : Rules → List Constraint → Pick → List Constraint
next_list r list p = map (substitute r.bound p.term.signal (solution r.bound p)) list

pub record Step (r : Rules) (list : List Constraint) (p : Pick) : Type 0 where
  pub some : 0 < p.term.signal
  pub above : r.kept < p.term.signal
  pub by : IsWithin r.bound (solution r.bound p)
  pub gone : names p.term.signal (solution r.bound p) ≡ false
  pub other : (y : ℕ) → is_left list y ≡ false → names y (solution r.bound p) ≡ false
  pub at : (s : Assignment) → HoldAll s list → value_of (solution r.bound p) s ≡ s.at p.term.signal

pub step_of : (r : Rules) (list : List Constraint) (p : Pick) → All (IsGood r.bound) list
    → first_pivot r list ≡ Some p → Step r list p
step_of r list p g h =
    let s : Source r list p = source r list p g h in
    let u : Picked r r.bound s.from p.term = picked r r.bound s.from p.term s.good s.taken in
    let rises : RisesFrom 0 p.form = subst (RisesFrom 0) s.form s.good.rises.2 in
    let within : IsWithin r.bound p.form = subst (IsWithin r.bound) s.form s.good.within.2 in
    let taken : greatest r.kept p.form ≡ Some p.term =
    sym (ap (greatest r.kept) s.form) ∙ u.taken in
    record {
      some = omega (arith, u.above);
      above = u.above;
      by = linear_within r.bound _
          (solution_linear r.bound ((P - inverse_of p.term.coef) % P) p.term p.form u.below within);
      gone = solution_gone r.bound r.kept p.term p.form rises taken u.some u.small;
      other = λ y e.
          let all : names_in y s.from ≡ false = s.left y e in
          let here : names y p.form ≡ false = sym (ap (names y) s.form)
          ∙ (or_false (names y s.from.a || names y s.from.b) (names y s.from.c) all).1 in
          let apart : p.term.signal ≡ y → ⊥ = λ q. let named : names y p.form ≡ true =
          ap (λ (z : ℕ). names z p.form) (sym q) ∙ taken_named r.kept p.form p.term taken
          in cc in
          solution_unnamed r.bound y p.term p.form apart here;
      at = λ t a.
          let zero_at : value_of p.form t ≡ 0 = sym (ap (λ (ts : List Term). value_of ts t) s.form)
          ∙ linear_zero s.from t u.linear (s.hold t a) in
          solution_at r.bound p.term p.form t u.below within zero_at;
    }

one_step : (r : Rules) (list : List Constraint) (p : Pick) → All (IsGood r.bound) list
    → Step r list p → Keeps r.kept list (dropped r.level (next_list r list p))
one_step r list p g u = record {
  forth = λ s h.
      let same : (with_number x (value_of by s) s).at ≡ s.at =
      with_same x (value_of by s) s (u.at s h) in
      all_dropped r.level (Met s) (next_list r list p)
      (all_mapped (λ k. IsGood n k × Met s k) (Met s) (substitute n x by) list
      (λ k a. (substitute_holds n x by k s u.some a.0.within u.by).1
      (subst (λ (f : ℕ → ℕ). Holds f k) (sym same) a.1))
      (all_both (IsGood n) (Met s) list g h));
  back = λ s h. (
    with_number x (value_of by s) s,
    λ y e. with_apart x (value_of by s) s y (λ q. elim e [
      | inl l ↦ omega (arith, u.above)
      | inr d ↦ let none : is_left (dropped r.level (next_list r list p)) y ≡ false =
          ap (is_left (dropped r.level (next_list r list p))) q ∙ gone in cc
    ]),
    all_unmapped (IsGood n) (Met (with_number x (value_of by s) s)) (Met s) (substitute n x by) list
        (λ k a b. (substitute_holds n x by k s u.some a.within u.by).0 b) g
        (hold_back r.level s (next_list r list p) h),
  );
  left = λ y e. left_dropped r.level y (next_list r list p)
      (left_map (substitute n x by) y list
      (λ k d. substitute_unnamed n x y by k u.some (u.other y e) d) e);
}
  where
    n : ℕ
    n = r.bound

    x : ℕ
    x = p.term.signal

    by : List Term
    by = solution r.bound p

    gone : is_left (dropped r.level (next_list r list p)) x ≡ false
    gone = left_dropped r.level x (next_list r list p)
        (left_gone (substitute n x by) x list (λ k. substitute_gone n x by k u.some u.gone))

pub step_good : (r : Rules) (list : List Constraint) (p : Pick) → All (IsGood r.bound) list
    → Step r list p → All (IsGood r.bound) (dropped r.level (next_list r list p))
step_good r list p g u =
    all_dropped r.level (IsGood r.bound) (next_list r list p)
    (all_mapped (IsGood r.bound) (IsGood r.bound)
    (substitute r.bound p.term.signal (solution r.bound p)) list
    (λ k a. substitute_good r.bound p.term.signal (solution r.bound p) k u.some u.by a) g)

-- turn after turn
keeps_same : (main : ℕ) (list : List Constraint) → Keeps main list list
keeps_same main list =
    record { forth = λ s h. h; back = λ s h. (s, λ x e. refl, h); left = λ x e. e }

keeps_next : (main : ℕ) (a b c : List Constraint) → Keeps main a b → Keeps main b c → Keeps main a c
keeps_next main a b c p q = record {
  forth = λ s h. q.forth s (p.forth s h);
  back = λ s h.
      let t = q.back s h in
      let u = p.back t.0 t.2 in
      (u.0, λ x e. u.1 x (earlier x e) ∙ t.1 x e, u.2);
  left = λ x e. q.left x (p.left x e);
}
  where
    by_test : (x : ℕ) (v : Bool) → is_left b x ≡ v → is_left c x ≡ true → is_left b x ≡ true
    by_test x true e h = e
    by_test x false e h = let none : is_left c x ≡ false = q.left x e in cc

    earlier : (x : ℕ) → (x ≤ main) ⊎ (is_left c x ≡ true) → (x ≤ main) ⊎ (is_left b x ≡ true)
    earlier x (inl l) = inl l
    earlier x (inr h) = inr (by_test x (is_left b x) refl h)

pub limited_ok : (next : Simplified → Result Simplified ℕ) (s end : Simplified)
    → limited next s ≡ Ok end → next s ≡ Ok end
limited_ok next s end h = by_test (nat_le (sum_by terms_in s.list) 8388608) h
  where
    by_test : (b : Bool) → cond b (next s) (Err (sum_by terms_in s.list)) ≡ Ok end → next s ≡ Ok end
    by_test true e = e
    by_test false e = cc

turn_keeps : (r : Rules) (n : ℕ) (s end : Simplified) (o : Option Pick) → first_pivot r s.list ≡ o
    → All (IsGood r.bound) s.list → turn (turns r n) r s o ≡ Ok end
    → ((t : Simplified) → All (IsGood r.bound) t.list → turns r n t ≡ Ok end
    → Keeps r.kept t.list end.list) → Keeps r.kept s.list end.list
turn_keeps r n s end None e g h ih =
    let same : s ≡ end = cc in
    subst (λ (t : Simplified). Keeps r.kept s.list t.list) same (keeps_same r.kept s.list)
turn_keeps r n s end (Some p) e g h ih =
    let u : Step r s.list p = step_of r s.list p g e in
    keeps_next r.kept s.list (after r s p).list end.list (one_step r s.list p g u)
    (ih (after r s p) (step_good r s.list p g u) (limited_ok (turns r n) (after r s p) end h))

turns_keep : (r : Rules) (n : ℕ) (s end : Simplified) → All (IsGood r.bound) s.list
    → turns r n s ≡ Ok end → Keeps r.kept s.list end.list
turns_keep r zero s end g h =
    let same : s ≡ end = cc in
    subst (λ (t : Simplified). Keeps r.kept s.list t.list) same (keeps_same r.kept s.list)
turns_keep r (suc n) s end g h =
    turn_keeps r n s end (first_pivot r s.list) refl g h (λ t. turns_keep r n t end)

keeps_dropped : (l : Level) (main : ℕ) (list : List Constraint) → Keeps main list (dropped l list)
keeps_dropped l main list = record {
  forth = λ s h. all_dropped l (Met s) list h;
  back = λ s h. (s, λ x e. refl, hold_back l s list h);
  left = λ x e. left_dropped l x list e;
}

list_keeps : (r : Rules) (list : List Constraint) (end : Simplified) → All (IsGood r.bound) list
    → simplified r list ≡ Ok end → Keeps r.kept list end.list
list_keeps r list end g h =
    keeps_next r.kept list (dropped r.level list) end.list (keeps_dropped r.level r.kept list)
    (turns_keep r (length list) (record { list = dropped r.level list; solved = [] }) end
    (all_dropped r.level (IsGood r.bound) list g) (limited_ok (turns r (length list)) _ end h))

-- a list holds at two assignments that agree on its signals
value_total : (s : Assignment) (ts : List Term) → value_at s.at ts ≡ total s.at ts % P
unfolding total
value_total s ts = refl

total_agree : (g h : ℕ → ℕ) (ts : List Term) → ((x : ℕ) → names x ts ≡ true → g x ≡ h x)
    → total g ts ≡ total h ts
total_agree g h [] e = total-nil g ∙ sym (total-nil h)
total_agree g h (t ∷ ts) e =
    omega (
      arith,
      total-cons g t ts,
      total-cons h t ts,
      ap (λ (n : ℕ). t.coef * n)
          (e t.signal
          (first_true (names t.signal ts) (t.signal == t.signal) (eq-eqb t.signal t.signal refl))),
      total_agree g h ts (λ x p. e x (later_true (t.signal == x) (names x ts) p)),
    )
  where
    first_true : (b a : Bool) → a ≡ true → a || b ≡ true
    first_true b a p = ap (λ (v : Bool). v || b) p

    later_true : (a b : Bool) → b ≡ true → a || b ≡ true
    later_true true b p = refl
    later_true false b p = p

holds_agree : (s t : Assignment) (k : Constraint)
    → ((x : ℕ) → names_in x k ≡ true → t.at x ≡ s.at x) → Holds t.at k → Holds s.at k
holds_agree s t k e h =
    let a : value_at t.at k.a ≡ value_at s.at k.a =
    same k.a (λ x p. e x
    (left (names x k.a || names x k.b) (names x k.c) (left (names x k.a) (names x k.b) p))) in
    let b : value_at t.at k.b ≡ value_at s.at k.b =
    same k.b (λ x p. e x
    (left (names x k.a || names x k.b) (names x k.c) (right (names x k.a) (names x k.b) p))) in
    let c : value_at t.at k.c ≡ value_at s.at k.c =
    same k.c (λ x p. e x (right (names x k.a || names x k.b) (names x k.c) p)) in
    sym (ap (λ (n : ℕ). (n * value_at t.at k.b) % P) a
    ∙ ap (λ (n : ℕ). (value_at s.at k.a * n) % P) b) ∙ h ∙ c
  where
    left : (a b : Bool) → a ≡ true → a || b ≡ true
    left a b p = ap (λ (v : Bool). v || b) p

    right : (a b : Bool) → b ≡ true → a || b ≡ true
    right true b p = refl
    right false b p = p

    same : (ts : List Term) → ((x : ℕ) → names x ts ≡ true → t.at x ≡ s.at x)
        → value_at t.at ts ≡ value_at s.at ts
    same ts f = value_total t ts ∙ ap (λ (n : ℕ). n % P) (total_agree t.at s.at ts f)
        ∙ sym (value_total s ts)

all_agree : (s t : Assignment) (ks : List Constraint)
    → ((x : ℕ) → is_left ks x ≡ true → t.at x ≡ s.at x) → HoldAll t ks → HoldAll s ks
all_agree s t [] e h = All-nil (Met s)
all_agree s t (k ∷ ks) e h =
    All-cons (Met s) k ks
    (holds_agree s t k (λ x p. e x (first (names_in x k) (is_left ks x) p))
    (All-head (Met t) k ks h))
    (all_agree s t ks (λ x p. e x (later (names_in x k) (is_left ks x) p))
    (All-tail (Met t) k ks h))
  where
    first : (a b : Bool) → a ≡ true → a || b ≡ true
    first a b p = ap (λ (v : Bool). v || b) p

    later : (a b : Bool) → b ≡ true → a || b ≡ true
    later true b p = refl
    later false b p = p

left_is_kept : (l : Level) (main : ℕ) (ks : List Constraint) (x : ℕ) → is_left ks x ≡ true
    → is_kept l main ks x ≡ true
left_is_kept l main ks x h = later (keeps_all l || nat_le x main) (is_left ks x) h
  where
    later : (a b : Bool) → b ≡ true → a || b ≡ true
    later true b p = refl
    later false b p = p

kept_cases : (a b c : Bool) → a ≡ false → (a || b) || c ≡ true → (b ≡ true) ⊎ (c ≡ true)
kept_cases true b c e h = cc
kept_cases false true c e h = inl refl
kept_cases false false c e h = inr h

not_more : (m n : ℕ) → nat_le m n ≡ true → m ≤ n
not_more m n h = grind (arith, h)

-- O0 has no turns
pub none_first : (r : Rules) (ks : List Constraint) → r.level ≡ O0 → first_pivot r ks ≡ None
none_first r [] e = refl
none_first r (k ∷ ks) e =
    ap (λ (o : Option Term). or_later o k.c (first_pivot r ks)) none ∙ none_first r ks e
  where
    by_tests : (a b : Bool) (o : Option Term) → cond (a && b && false) o None ≡ None
    by_tests true true o = refl
    by_tests true false o = refl
    by_tests false b o = refl

    none : pivot r k ≡ None
    none =
        ap (λ (l : Level). cond (has_no_terms k.a && nat_le (length k.c) 1024 && fits l k.c)
        (greatest r.kept k.c) None) e
        ∙ by_tests (has_no_terms k.a) (nat_le (length k.c) 1024) (greatest r.kept k.c)

same_turns : (r : Rules) (n : ℕ) (s end : Simplified) → r.level ≡ O0 → turns r n s ≡ Ok end
    → s.list ≡ end.list
same_turns r zero s end e h = let same : s ≡ end = cc in ap (λ (t : Simplified). t.list) same
same_turns r (suc n) s end e h =
    let g : turn (turns r n) r s None ≡ Ok end =
    sym (ap (turn (turns r n) r s) (none_first r s.list e)) ∙ h in
    let same : s ≡ end = cc in
    ap (λ (t : Simplified). t.list) same

pub level_cases : (l : Level) → (l ≡ O0) ⊎ (keeps_all l ≡ false)
level_cases O0 = inl refl
level_cases O1 = inr refl
level_cases O2 = inr refl

pub law : (r : Rules) (list : List Constraint) (end : Simplified) → All (IsGood r.bound) list
    → simplified r list ≡ Ok end → KeepsSolutions r.level r.kept list end.list
law r list end g h s = (
  λ a. by_level (level_cases r.level) a,
  λ (t, e, a). all_agree s t end.list (λ x p. e x (left_is_kept r.level r.kept end.list x p))
      (k.forth t a),
)
  where
    k : Keeps r.kept list end.list
    k = list_keeps r list end g h

    by_level : (r.level ≡ O0) ⊎ (keeps_all r.level ≡ false) → HoldAll s end.list → (t : Assignment)
        × Agree r.level r.kept end.list s t × HoldAll t list
    by_level (inl e) a =
        let kept_list : list ≡ end.list = sym (ap (λ (l : Level). dropped l list) e)
        ∙ same_turns r (length list) (record { list = dropped r.level list; solved = [] }) end e
        (limited_ok (turns r (length list)) _ end h) in
        (s, λ x p. refl, subst (HoldAll s) (sym kept_list) a)
    by_level (inr e) a =
        let t = k.back s a in (
          t.0,
          λ x p. t.1 x
              (elim (kept_cases (keeps_all r.level) (nat_le x r.kept) (is_left end.list x) e p)
              [ inl q ↦ inl (not_more x r.kept q) | inr q ↦ inr q ]),
          t.2,
        )
