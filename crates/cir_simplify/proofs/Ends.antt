-- Where simplification ends.
use Rattle.std.proofs.Common.{◌≡◌, ℕ, zero, suc, ◌+◌, ◌-◌, ◌*◌, ◌%◌, ◌<◌, ◌≤◌, not, Bool, true}
use Rattle.std.proofs.Common.{false, cond, List, [], ◌∷◌, map, length, All, Option, Some, None, Ok}
use Rattle.std.proofs.Common.{inl, inr, arith, refl, ap, sym, subst, ◌∙◌, mod-eq_of_lt}
use Rattle.std.proofs.Math.Nat.{mod-add-mod, add-mod-mod, add-mul-mod_self_left}
use Rattle.std.proofs.lemmas.Nat.{mul-mod_first, mul-mod_second}
use Rattle.std.proofs.lemmas.List.Elements.{All-nil, All-head, All-tail}
use Rattle.std.specs.List.{filter}
use Rattle.gold_field.specs.declared.form.Term.{Term}
use Rattle.gold_field.specs.declared.form.Constraint.{Constraint}
use Rattle.gold_field.specs.declared.gold.TheConstants.{P}
use Rattle.gold_field.specs.Operators.{inverse_of}
use Rattle.cir_lc.specs.Number.{Assignment, Number, value_of, signal, added, scaled, negated}
use Rattle.cir_lc.specs.Coefficient.{one_at}
use Rattle.cir_lc.specs.Terms.{IsWithin}
use Rattle.cir_lc.specs.Normal.{constant_of}
use Rattle.cir_lc.specs.Sparse.{form_of, normal_of, IsNormalForm}
use Rattle.cir_lc.specs.Substitution.{substituted, substitute}
use Rattle.cir_lc.specs.Merge.{total}
use Rattle.cir_lc.proofs.Totals.{total-nil}
use Rattle.cir_lc.proofs.Values.{value-total}
use Rattle.cir_lc.proofs.Forms.{form_known}
use Rattle.cir_lc.proofs.Changes.{substituted_at}
use Rattle.cir_simplify.specs.declared.types.Level.{Level}
use Rattle.cir_simplify.specs.declared.types.Level.TheVariants.{O0, O1, O2}
use Rattle.cir_simplify.specs.declared.types.Rules.{Rules}
use Rattle.cir_simplify.specs.Shape.{is_empty, pivot}
use Rattle.cir_simplify.specs.Turn.{Pick, Simplified, first_pivot, or_later, solution, after}
use Rattle.cir_simplify.specs.Turn.{dropped, turn, turns, simplified}
use Rattle.cir_simplify.specs.Index.{IsGood, empty}
use Rattle.cir_simplify.proofs.Linear.{linear_value, linear_of, linear_negated, number_unnamed}
use Rattle.cir_simplify.proofs.Linear.{negated_more}
use Rattle.cir_simplify.proofs.Picks.{Picked, picked}
use Rattle.cir_simplify.proofs.Law.{Step, step_of, step_good, next_list, taken_coef}
use Rattle.cir_simplify.proofs.Law.{solution_inverse, solution_linear, limited_ok, none_first}
use Rattle.cir_simplify.proofs.Law.{all_dropped}

-- C with the solution in place of the signal is 0
vanishes : (c x k m : ℕ) → k ≤ P → (1 + m * k) % P ≡ 0
    → ((c + (((P - k) % P) * x) % P) % P + (k * ((x + (m * c) % P) % P)) % P) % P ≡ 0
vanishes c x k m l h =
    let j : ℕ = P - k in
    let whole : (j + k) * x ≡ P * x = ap (λ (n : ℕ). n * x) (split k l) in
    let all : c + j * x + k * (x + m * c) ≡ c * (1 + m * k) + P * x = omega arith in
    ap (λ (n : ℕ). ((c + n) % P + (k * ((x + (m * c) % P) % P)) % P) % P) (mul-mod_first j x P)
    ∙ ap (λ (n : ℕ). (n + (k * ((x + (m * c) % P) % P)) % P) % P) (add-mod-mod c (j * x) P)
    ∙ ap (λ (n : ℕ). ((c + j * x) % P + (k * n) % P) % P) (add-mod-mod x (m * c) P)
    ∙ ap (λ (n : ℕ). ((c + j * x) % P + n) % P) (mul-mod_second k (x + m * c) P)
    ∙ add-mod-mod ((c + j * x) % P) (k * (x + m * c)) P
    ∙ mod-add-mod (c + j * x) P (k * (x + m * c)) ∙ ap (λ (n : ℕ). n % P) all
    ∙ add-mul-mod_self_left (c * (1 + m * k)) P x ∙ sym (mul-mod_second c (1 + m * k) P)
    ∙ ap (λ (n : ℕ). (c * n) % P) h ∙ none c
  where
    split : (k : ℕ) → k ≤ P → P - k + k ≡ P
    split k l = omega arith

    none : (c : ℕ) → (c * 0) % P ≡ 0
    none c = omega arith

solved_number : (n m : ℕ) (t : Term) (c by : List Term) → 0 < t.signal → t.coef < P
    → total (one_at t.signal) c ≡ t.coef → (1 + m * t.coef) % P ≡ 0
    → value_of by ≡ added (signal t.signal) (scaled m (value_of c))
    → substituted t.signal (value_of by) (value_of c) ≡ value_of []
unfolding added scaled signal
solved_number n m t c by h l e z v = λ i s. at s i
  where
    at : (s : Assignment) → substituted t.signal (value_of by) (value_of c) s ≡ value_of [] s
    at s =
        sym (substituted_at t.signal t.coef c by s h
        (sym (ap (λ (n : ℕ). n % P) e ∙ mod-eq_of_lt {n = t.coef} {m = P} l)))
        ∙ ap (λ (n : ℕ). ((value_of c s + (((P - t.coef) % P) * s.at t.signal) % P) % P
        + (t.coef * n) % P) % P) (ap (λ (f : Number). f s) v)
        ∙ vanishes (value_of c s) (s.at t.signal) t.coef m (omega arith) z
        ∙ sym (value-total s [] ∙ ap (λ (n : ℕ). n % P) (total-nil s.at))

form_none : (n : ℕ) → form_of n (value_of []) ≡ []
form_none n =
    sym (form_known n [] _ tt (All-nil (λ (t : Term). (t.signal < n) × (t.coef < P))) refl)

-- a constraint without a product whose C becomes 0 becomes empty
becomes_empty : (n x : ℕ) (by : List Term) (k : Constraint) → k.a ≡ [] → k.b ≡ []
    → substituted x (value_of by) (value_of k.c) ≡ value_of [] → substitute n x by k ≡ empty
becomes_empty n x by k ea eb ec = parts ∙ (λ i. record { a = []; b = []; c = rest i })
  where
    nothing : (ts : List Term) → ts ≡ [] → form_of n (substituted x (value_of by) (value_of ts))
        ≡ []
    nothing ts e = ap (λ (us : List Term). form_of n (substituted x (value_of by) (value_of us))) e
        ∙ ap (form_of n) (number_unnamed x by [] refl) ∙ form_none n

    c : List Term
    c = form_of n (negated (value_of []))

    parts : substitute n x by k ≡ normal_of n (record { a = []; b = []; c = c })
    parts = λ i. normal_of n
        (record {
          a = nothing k.a ea i;
          b = nothing k.b eb i;
          c =
              ap (λ (f : Number). form_of n (negated f)) ec i;
        })

    value : value_of c ≡ negated (value_of [])
    value = linear_value n _
        (linear_negated n _
        (linear_of n [] (All-nil (λ (t : Term). (t.signal < n) × (t.coef < P)))))

    rest : form_of n (negated (added (value_of c) (scaled 0 (value_of [])))) ≡ []
    rest = ap (λ (f : Number). form_of n (negated (added f (scaled 0 (value_of []))))) value
        ∙ ap (form_of n) (negated_more [] []) ∙ form_none n

no_product : (k : Constraint) → IsNormalForm k → k.a ≡ [] → k.b ≡ []
no_product k (inl (a, b)) e = b
no_product k (inr (a, b)) e = let some : constant_of k.a ≡ Some 0 = ap constant_of e in cc

pub solved_empty : (r : Rules) (k : Constraint) (p : Pick) → IsGood r.bound k
    → pivot r k ≡ Some p.term → k.c ≡ p.form
    → substitute r.bound p.term.signal (solution r.bound p) k ≡ empty
solved_empty r k p g h e =
    let u : Picked r r.bound k p.term = picked r r.bound k p.term g h in
    let m : ℕ = (P - inverse_of p.term.coef) % P in
    let within : IsWithin r.bound p.form = subst (IsWithin r.bound) e g.within.2 in
    let coef : total (one_at p.term.signal) k.c ≡ p.term.coef =
    taken_coef r.kept 0 k.c p.term g.rises.2 u.taken in
    let value : value_of (solution r.bound p)
    ≡ added (signal p.term.signal) (scaled m (value_of k.c)) =
    linear_value r.bound _ (solution_linear r.bound m p.term p.form u.below within)
    ∙ ap (λ (ts : List Term). added (signal p.term.signal) (scaled m (value_of ts))) (sym e) in
    becomes_empty r.bound p.term.signal (solution r.bound p) k u.linear
    (no_product k g.normal u.linear)
    (solved_number r.bound m p.term k.c (solution r.bound p) (omega (arith, u.above)) u.small coef
    (solution_inverse p.term u.some u.small) value)

-- so each turn leaves fewer constraints
abbrev kept : List Constraint → List Constraint
kept list = filter (λ k. not (is_empty k)) list

kept_length : (k : Constraint) (ks : List Constraint) (b : Bool)
    → length (cond (not b) (k ∷ kept ks) (kept ks)) ≤ length (kept ks) + 1
kept_length k ks true = omega arith
kept_length k ks false = omega arith

kept_shorter : (f : Constraint → Constraint) (ks : List Constraint)
    → length (kept (map f ks)) ≤ length ks
kept_shorter f [] = omega arith
kept_shorter f (k ∷ ks) =
    omega (arith, kept_length (f k) (map f ks) (is_empty (f k)), kept_shorter f ks)

shorter_by : (r : Rules) (f : Constraint → Constraint) (k : Constraint) (ks : List Constraint)
    (p : Pick) (o : Option Term) → pivot r k ≡ o
    → (pivot r k ≡ Some p.term → k.c ≡ p.form → f k ≡ empty) → or_later o k.c (first_pivot r ks)
    ≡ Some p → (first_pivot r ks ≡ Some p → length (kept (map f ks)) + 1 ≤ length ks)
    → length (kept (map f (k ∷ ks))) + 1 ≤ length (k ∷ ks)
shorter_by r f k ks p (Some t) e h g ih =
    let term : t ≡ p.term = cc in
    let form : k.c ≡ p.form = cc in
    let gone : f k ≡ empty = h (e ∙ ap (λ (u : Term). Some u) term) form in
    omega (arith, kept_shorter f ks, ap (λ (z : Constraint). length (kept (z ∷ map f ks))) gone)
shorter_by r f k ks p None e h g ih =
    omega (arith, kept_length (f k) (map f ks) (is_empty (f k)), ih g)

shorter : (r : Rules) (f : Constraint → Constraint) (ks : List Constraint) (p : Pick)
    → ((k : Constraint) → IsGood r.bound k → pivot r k ≡ Some p.term → k.c ≡ p.form → f k ≡ empty)
    → All (IsGood r.bound) ks → first_pivot r ks ≡ Some p → length (kept (map f ks)) + 1 ≤ length ks
shorter r f [] p h g e = cc
shorter r f (k ∷ ks) p h g e =
    shorter_by r f k ks p (pivot r k) refl (h k (All-head (IsGood r.bound) k ks g)) e
    (shorter r f ks p h (All-tail (IsGood r.bound) k ks g))

dropped_length : (l : Level) (ks : List Constraint) → (l ≡ O0 → ⊥) → dropped l ks ≡ kept ks
dropped_length O0 ks h = absurd (h refl)
dropped_length O1 ks h = refl
dropped_length O2 ks h = refl

after_shorter : (r : Rules) (s : Simplified) (p : Pick) → All (IsGood r.bound) s.list
    → first_pivot r s.list ≡ Some p → length (after r s p).list + 1 ≤ length s.list
after_shorter r s p g h =
    let less : length (kept (next_list r s.list p)) + 1 ≤ length s.list =
    shorter r (substitute r.bound p.term.signal (solution r.bound p)) s.list p
    (λ k a b c. solved_empty r k p a b c) g h in
    omega (
      arith,
      ap (λ (v : List Constraint). length v)
          (dropped_length r.level (next_list r s.list p) (λ e. let none : first_pivot r s.list
          ≡ None = none_first r s.list e in cc)),
    )

turn_ends : (r : Rules) (n : ℕ) (s end : Simplified) (o : Option Pick) → first_pivot r s.list ≡ o
    → All (IsGood r.bound) s.list → length s.list ≤ suc n → turn (turns r n) r s o ≡ Ok end
    → ((t : Simplified) → All (IsGood r.bound) t.list → length t.list ≤ n → turns r n t ≡ Ok end
    → first_pivot r end.list ≡ None) → first_pivot r end.list ≡ None
turn_ends r n s end None e g l h ih =
    let same : s ≡ end = cc in ap (λ (t : Simplified). first_pivot r t.list) (sym same) ∙ e
turn_ends r n s end (Some p) e g l h ih =
    let u : Step r s.list p = step_of r s.list p g e in
    ih (after r s p) (step_good r s.list p g u) (omega (arith, after_shorter r s p g e))
    (limited_ok (turns r n) (after r s p) end h)

no_rows : (r : Rules) (ks : List Constraint) → length ks ≤ 0 → first_pivot r ks ≡ None
no_rows r [] l = refl
no_rows r (k ∷ ks) l = absurd (omega arith)

turns_end : (r : Rules) (n : ℕ) (s end : Simplified) → All (IsGood r.bound) s.list
    → length s.list ≤ n → turns r n s ≡ Ok end → first_pivot r end.list ≡ None
turns_end r zero s end g l h =
    let same : s ≡ end = cc in
    ap (λ (t : Simplified). first_pivot r t.list) (sym same) ∙ no_rows r s.list l
turns_end r (suc n) s end g l h =
    turn_ends r n s end (first_pivot r s.list) refl g l h (λ t. turns_end r n t end)

filter_shorter : (ks : List Constraint) → length (kept ks) ≤ length ks
filter_shorter [] = omega arith
filter_shorter (k ∷ ks) = omega (arith, kept_length k ks (is_empty k), filter_shorter ks)

dropped_shorter : (l : Level) (ks : List Constraint) → length (dropped l ks) ≤ length ks
dropped_shorter O0 ks = omega arith
dropped_shorter O1 ks = filter_shorter ks
dropped_shorter O2 ks = filter_shorter ks

pub ends : (r : Rules) (list : List Constraint) (end : Simplified) → All (IsGood r.bound) list
    → simplified r list ≡ Ok end → first_pivot r end.list ≡ None
ends r list end g h =
    turns_end r (length list) (record { list = dropped r.level list; solved = [] }) end
    (all_dropped r.level (IsGood r.bound) list g) (dropped_shorter r.level list)
    (limited_ok (turns r (length list)) _ end h)
