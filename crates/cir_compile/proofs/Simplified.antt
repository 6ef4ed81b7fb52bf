-- What stays true of a list in simplification.
use Rattle.std.proofs.Common.{◌≡◌, ℕ, zero, suc, ◌+◌, ◌<◌, ◌≤◌, ◌==◌, ◌||◌, not, nat_le, Bool, true}
use Rattle.std.proofs.Common.{false, cond, List, [], ◌∷◌, map, length, sum_by, All, Option, Some}
use Rattle.std.proofs.Common.{None, Result, Ok, Err, refl, subst, arith}
use Rattle.std.specs.List.{filter}
use Rattle.std.proofs.lemmas.Bool.{eq-eqb}
use Rattle.std.proofs.lemmas.List.{length-map}
use Rattle.std.proofs.lemmas.List.Sums.{sum_by-cons}
use Rattle.std.proofs.lemmas.List.Elements.{All-nil, All-cons, All-head, All-tail}
use Rattle.gold_field.specs.declared.form.Term.{Term}
use Rattle.gold_field.specs.declared.form.Constraint.{Constraint}
use Rattle.gold_field.specs.Form.{SignalsBelow, ConstraintBelow}
use Rattle.iden_files.specs.File.{term_count}
use Rattle.gold_field.specs.declared.gold.TheConstants.{P}
use Rattle.cir_lc.specs.Terms.{IsWithin}
use Rattle.cir_lc.specs.Substitution.{substitute}
use Rattle.cir_simplify.specs.declared.types.Rules.{Rules}
use Rattle.cir_simplify.specs.declared.types.Level.{Level}
use Rattle.cir_simplify.specs.declared.types.Level.TheVariants.{O0, O1, O2}
use Rattle.cir_simplify.specs.Index.{IsGood}
use Rattle.cir_simplify.specs.Shape.{names, names_in, is_empty, terms_in}
use Rattle.cir_simplify.specs.Turn.{Pick, Simplified, first_pivot, solution, after, dropped}
use Rattle.cir_simplify.specs.Turn.{limited, turn, turns, simplified}
use Rattle.cir_simplify.specs.Wires.{is_kept, is_left, keeps_all, wire_of, renamed, renamed_in}
use Rattle.cir_simplify.proofs.Law.{step_of, step_good, all_dropped}

-- good constraints, not more than m, within the limit of terms
pub record Fine (r : Rules) (m : ℕ) (list : List Constraint) : Type 0 where
  pub good : All (IsGood r.bound) list
  pub few : length list ≤ m
  pub terms : sum_by terms_in list ≤ 8388608

one_more : (b : Bool) (k : Constraint) (ks : List Constraint)
    → length (cond b (k ∷ ks) ks) ≤ length ks + 1
one_more true k ks = omega arith
one_more false k ks = omega arith

filtered_few : (ks : List Constraint) → length (filter (λ k. not (is_empty k)) ks) ≤ length ks
filtered_few [] = omega arith
filtered_few (k ∷ ks) = omega
    (arith, one_more (not (is_empty k)) k (filter (λ k. not (is_empty k)) ks), filtered_few ks)

dropped_few : (l : Level) (ks : List Constraint) → length (dropped l ks) ≤ length ks
dropped_few O0 ks = omega arith
dropped_few O1 ks = filtered_few ks
dropped_few O2 ks = filtered_few ks

within_limit : (next : Simplified → Result Simplified ℕ) (s end : Simplified)
    → limited next s ≡ Ok end
    → (next s ≡ Ok end) × (sum_by terms_in s.list ≤ 8388608)
within_limit next s end h = by_test (nat_le (sum_by terms_in s.list) 8388608) refl h
  where
    by_test : (b : Bool) → nat_le (sum_by terms_in s.list) 8388608 ≡ b
        → cond b (next s) (Err (sum_by terms_in s.list)) ≡ Ok end
        → (next s ≡ Ok end) × (sum_by terms_in s.list ≤ 8388608)
    by_test true e h = (h, grind (arith, e))
    by_test false e h = cc

after_few : (r : Rules) (s : Simplified) (p : Pick) → length (after r s p).list ≤ length s.list
after_few r s p =
    omega (
      arith,
      dropped_few r.level (map (substitute r.bound p.term.signal (solution r.bound p)) s.list),
      length-map s.list (substitute r.bound p.term.signal (solution r.bound p)),
    )

turn_fine : (r : Rules) (m n : ℕ) (s end : Simplified) (o : Option Pick) → first_pivot r s.list ≡ o
    → Fine r m s.list → turn (turns r n) r s o ≡ Ok end
    → ((t : Simplified) → Fine r m t.list → turns r n t ≡ Ok end → Fine r m end.list)
    → Fine r m end.list
turn_fine r m n s end None e g h ih =
    let same : s ≡ end = cc in
    subst (λ (t : Simplified). Fine r m t.list) same g
turn_fine r m n s end (Some p) e g h ih =
    let next : (turns r n (after r s p) ≡ Ok end)
    × (sum_by terms_in (after r s p).list ≤ 8388608) = within_limit (turns r n)
    (after r s p) end h in
    ih (after r s p) (record {
      good = step_good r s.list p g.good (step_of r s.list p g.good e);
      few = omega (arith, g.few, after_few r s p);
      terms = next.1;
    }) next.0

turns_fine : (r : Rules) (m n : ℕ) (s end : Simplified) → Fine r m s.list → turns r n s ≡ Ok end
    → Fine r m end.list
turns_fine r m zero s end g h =
    let same : s ≡ end = cc in
    subst (λ (t : Simplified). Fine r m t.list) same g
turns_fine r m (suc n) s end g h = turn_fine r m n s end (first_pivot r s.list) refl g h
    (λ t. turns_fine r m n t end)

pub stays_fine : (r : Rules) (list : List Constraint) (end : Simplified)
    → All (IsGood r.bound) list → simplified r list ≡ Ok end → Fine r (length list) end.list
stays_fine r list end g h =
    let first = within_limit (turns r (length list))
    (record { list = dropped r.level list; solved = [] }) end h in
    turns_fine r (length list) (length list)
    (record { list = dropped r.level list; solved = [] }) end (record {
      good = all_dropped r.level (IsGood r.bound) list g;
      few = dropped_few r.level list;
      terms = first.1;
    }) first.0

-- the renamed list has as many terms
pub same_terms : (f : ℕ → ℕ) (ks : List Constraint)
    → sum_by term_count (map (renamed_in f) ks) ≡ sum_by terms_in ks
same_terms f [] = refl
same_terms f (k ∷ ks) =
    omega (
      arith,
      sum_by-cons term_count (renamed_in f k) (map (renamed_in f) ks),
      sum_by-cons terms_in k ks,
      length-map k.a (renamed f),
      length-map k.b (renamed f),
      length-map k.c (renamed f),
      same_terms f ks,
    )

-- and names wires alone
pub or_left : (a b : Bool) → a ≡ true → a || b ≡ true
or_left true b e = refl
or_left false b e = cc

pub or_right : (a b : Bool) → b ≡ true → a || b ≡ true
or_right true b e = refl
or_right false b e = e

pub left_is_kept : (level : Level) (kept x : ℕ) (list : List Constraint) → is_left list x ≡ true
    → is_kept level kept list x ≡ true
left_is_kept level kept x list e = or_right (keeps_all level || nat_le x kept) (is_left list x) e

form_below : (keeps : ℕ → Bool) (m n : ℕ) (ts : List Term) → IsWithin n ts
    → ((x : ℕ) → x < n → keeps x ≡ true → wire_of keeps x < m)
    → ((x : ℕ) → names x ts ≡ true → keeps x ≡ true)
    → SignalsBelow m (map (renamed (wire_of keeps)) ts)
form_below keeps m n [] w p h = All-nil (λ (t : Term). t.signal < m)
form_below keeps m n (t ∷ ts) w p h =
    All-cons (λ (t : Term). t.signal < m) (renamed (wire_of keeps) t)
    (map (renamed (wire_of keeps)) ts)
    (p t.signal (All-head (λ (t : Term). (t.signal < n) × (t.coef < P)) t ts w).0
    (h t.signal
    (or_left (t.signal == t.signal) (names t.signal ts) (eq-eqb t.signal t.signal refl))))
    (form_below keeps m n ts (All-tail (λ (t : Term). (t.signal < n) × (t.coef < P)) t ts w) p
    (λ x e. h x (or_right (t.signal == x) (names x ts) e)))

constraint_below : (keeps : ℕ → Bool) (m n : ℕ) (k : Constraint) → IsGood n k
    → ((x : ℕ) → x < n → keeps x ≡ true → wire_of keeps x < m)
    → ((x : ℕ) → names_in x k ≡ true → keeps x ≡ true)
    → ConstraintBelow m (renamed_in (wire_of keeps) k)
constraint_below keeps m n k g p h = record {
  a = form_below keeps m n k.a g.within.0 p
      (λ x e. h x
      (or_left (names x k.a || names x k.b) (names x k.c) (or_left (names x k.a) (names x k.b) e)));
  b = form_below keeps m n k.b g.within.1 p
      (λ x e. h x
      (or_left (names x k.a || names x k.b) (names x k.c)
      (or_right (names x k.a) (names x k.b) e)));
  c = form_below keeps m n k.c g.within.2 p
      (λ x e. h x (or_right (names x k.a || names x k.b) (names x k.c) e));
}

pub list_below : (keeps : ℕ → Bool) (m n : ℕ) (ks : List Constraint) → All (IsGood n) ks
    → ((x : ℕ) → x < n → keeps x ≡ true → wire_of keeps x < m)
    → ((x : ℕ) → is_left ks x ≡ true → keeps x ≡ true)
    → All (ConstraintBelow m) (map (renamed_in (wire_of keeps)) ks)
list_below keeps m n [] g p h = All-nil (ConstraintBelow m)
list_below keeps m n (k ∷ ks) g p h =
    All-cons (ConstraintBelow m) (renamed_in (wire_of keeps) k)
    (map (renamed_in (wire_of keeps)) ks)
    (constraint_below keeps m n k (All-head (IsGood n) k ks g) p
    (λ x e. h x (or_left (names_in x k) (is_left ks x) e)))
    (list_below keeps m n ks (All-tail (IsGood n) k ks g) p
    (λ x e. h x (or_right (names_in x k) (is_left ks x) e)))
