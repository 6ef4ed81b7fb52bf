-- A list whose empty constraints keep their places shows the list without them.
use Rattle.std.proofs.Common.{◌≡◌, ℕ, ◌<◌, ◌≤◌, ◌&&◌, not, nat_le, Bool, true, false}
use Rattle.std.proofs.Common.{cond, List, [], ◌∷◌, ◌++◌, map, length, sum_by, Option}
use Rattle.std.proofs.Common.{Result, Err, arith, refl, ap, sym, ◌∙◌}
use Rattle.std.proofs.lemmas.List.Sums.{sum_by-cons}
use Rattle.std.specs.List.{filter}
use Rattle.gold_field.specs.declared.form.Term.{Term}
use Rattle.gold_field.specs.declared.form.Constraint.{Constraint}
use Rattle.cir_lc.specs.Substitution.{substitute}
use Rattle.cir_simplify.specs.declared.types.Level.{Level}
use Rattle.cir_simplify.specs.declared.types.Level.TheVariants.{O0, O1, O2}
use Rattle.cir_simplify.specs.declared.types.Rules.{Rules}
use Rattle.cir_simplify.specs.declared.types.Solved.{Solved}
use Rattle.cir_simplify.specs.Shape.{has_no_terms, is_empty, terms_in, pivot}
use Rattle.cir_simplify.specs.Turn.{Pick, Simplified, first_pivot, or_later, solution, dropped}
use Rattle.cir_simplify.specs.Turn.{after}
use Rattle.cir_simplify.specs.Turn.{turns, simplified}
use Rattle.cir_simplify.specs.Index.{empty, shown}
use Rattle.cir_simplify.proofs.Linear.{unnamed, empty_good}
use Rattle.cir_simplify.proofs.Starting.{pivot_empty}

abbrev kept : List Constraint → List Constraint
kept list = filter (λ k. not (is_empty k)) list

no_terms : (ts : List Term) → has_no_terms ts ≡ true → ts ≡ []
no_terms [] h = refl
no_terms (t ∷ ts) h = cc

and_true : (a b : Bool) → a && b ≡ true → (a ≡ true) × (b ≡ true)
and_true true b h = (refl, h)
and_true false b h = cc

pub is_empty_true : (k : Constraint) → is_empty k ≡ true → k ≡ empty
is_empty_true k h =
    let t : (has_no_terms k.a && has_no_terms k.b ≡ true) × (has_no_terms k.c ≡ true) =
    and_true (has_no_terms k.a && has_no_terms k.b) (has_no_terms k.c) h in
    let u : (has_no_terms k.a ≡ true) × (has_no_terms k.b ≡ true) =
    and_true (has_no_terms k.a) (has_no_terms k.b) t.0 in
    let a = no_terms k.a u.0 in
    let b = no_terms k.b u.1 in
    let c = no_terms k.c t.1 in
    λ i. record { a = a i; b = b i; c = c i }

first_one : (r : Rules) (k : Constraint) (ks : List Constraint) (b : Bool) → is_empty k ≡ b
    → first_pivot r (kept ks) ≡ first_pivot r ks
    → first_pivot r (cond (not b) (k ∷ kept ks) (kept ks))
    ≡ or_later (pivot r k) k.c (first_pivot r ks)
first_one r k ks true e ih = ih
    ∙ ap (λ (o : Option Term). or_later o k.c (first_pivot r ks))
    (sym (ap (pivot r) (is_empty_true k e) ∙ pivot_empty r))
first_one r k ks false e ih = ap (or_later (pivot r k) k.c) ih

first_kept : (r : Rules) (ks : List Constraint) → first_pivot r (kept ks) ≡ first_pivot r ks
first_kept r [] = refl
first_kept r (k ∷ ks) = first_one r k ks (is_empty k) refl (first_kept r ks)

map_one : (f : Constraint → Constraint) (k : Constraint) (ks : List Constraint) (b : Bool)
    → f empty ≡ empty → is_empty k ≡ b → kept (map f (kept ks)) ≡ kept (map f ks)
    → kept (map f (cond (not b) (k ∷ kept ks) (kept ks)))
    ≡ cond (not (is_empty (f k))) (f k ∷ kept (map f ks)) (kept (map f ks))
map_one f k ks true h e ih =
    let gone : is_empty (f k) ≡ true =
    ap (λ (z : Constraint). is_empty (f z)) (is_empty_true k e) ∙ ap is_empty h in
    ih ∙ ap (λ (b : Bool). cond (not b) (f k ∷ kept (map f ks)) (kept (map f ks))) (sym gone)
map_one f k ks false h e ih =
    ap (λ (v : List Constraint). cond (not (is_empty (f k))) (f k ∷ v) v) ih

map_kept : (f : Constraint → Constraint) → f empty ≡ empty → (ks : List Constraint)
    → kept (map f (kept ks)) ≡ kept (map f ks)
map_kept f h [] = refl
map_kept f h (k ∷ ks) = map_one f k ks (is_empty k) h refl (map_kept f h ks)

sum_one : (k : Constraint) (ks : List Constraint) (b : Bool) → is_empty k ≡ b
    → sum_by terms_in (kept ks) ≡ sum_by terms_in ks
    → sum_by terms_in (cond (not b) (k ∷ kept ks) (kept ks)) ≡ sum_by terms_in (k ∷ ks)
sum_one k ks true e ih =
    omega (arith, ih, sum_by-cons terms_in k ks, ap terms_in (is_empty_true k e))
sum_one k ks false e ih =
    omega (arith, ih, sum_by-cons terms_in k ks, sum_by-cons terms_in k (kept ks))

sum_kept : (ks : List Constraint) → sum_by terms_in (kept ks) ≡ sum_by terms_in ks
sum_kept [] = refl
sum_kept (k ∷ ks) = sum_one k ks (is_empty k) refl (sum_kept ks)

pub first_shown : (r : Rules) (l : Level) (ks : List Constraint)
    → first_pivot r (dropped l ks) ≡ first_pivot r ks
first_shown r O0 ks = refl
first_shown r O1 ks = first_kept r ks
first_shown r O2 ks = first_kept r ks

map_shown : (l : Level) (f : Constraint → Constraint) → f empty ≡ empty → (ks : List Constraint)
    → dropped l (map f (dropped l ks)) ≡ dropped l (map f ks)
map_shown O0 f h ks = refl
map_shown O1 f h ks = map_kept f h ks
map_shown O2 f h ks = map_kept f h ks

pub sum_shown : (l : Level) (ks : List Constraint)
    → sum_by terms_in (dropped l ks) ≡ sum_by terms_in ks
sum_shown O0 ks = refl
sum_shown O1 ks = sum_kept ks
sum_shown O2 ks = sum_kept ks

-- the list after a turn, with and without the places of empty constraints
pub after_shown : (r : Rules) (s : Simplified) (p : Pick)
    → after r (shown r s) p ≡ shown r (record {
      list = map (substitute r.bound p.term.signal (solution r.bound p)) s.list;
      solved = s.solved ++ (record { signal = p.term.signal; value = solution r.bound p } ∷ []);
    })
after_shown r s p =
    let by = solution r.bound p in let x : ℕ = p.term.signal in
    let list : dropped r.level (map (substitute r.bound x by) (dropped r.level s.list))
    ≡ dropped r.level (map (substitute r.bound x by) s.list) =
    map_shown r.level (substitute r.bound x by)
    (unnamed r.bound x by empty (empty_good r.bound) refl) s.list in
    ap (λ (v : List Constraint). record {
      list = v;
      solved = s.solved ++ (record { signal = x; value = by } ∷ []);
    }) list

pub few : (n m : ℕ) → n ≤ m → nat_le n m ≡ true
few n m h = grind (arith, h)

pub many : (n m : ℕ) → m < n → nat_le n m ≡ false
many n m h = grind (arith, h)

module _ (r : Rules) (list : List Constraint) where
  abbrev by_count : Bool → Result Simplified ℕ
  by_count b = cond b (turns r (length list) (shown r (record { list = list; solved = [] })))
      (Err (sum_by terms_in (dropped r.level list)))

  -- the list has too many terms at the start
  pub over_start : (rows : List Constraint) (count : ℕ) → rows ≡ list
      → count ≡ sum_by terms_in rows → 8388608 < count → simplified r list ≡ Err count
  over_start rows count e f l =
      let sum : sum_by terms_in (dropped r.level list) ≡ count =
      sum_shown r.level list ∙ sym (f ∙ ap (sum_by terms_in) e) in
      ap by_count (many (sum_by terms_in (dropped r.level list)) 8388608 (omega arith))
      ∙ ap (λ (n : ℕ). Err n) sum

  -- it hasn't
  pub fits_start : (rows : List Constraint) (es : List Solved) (count : ℕ) → rows ≡ list → es ≡ []
      → count ≡ sum_by terms_in rows → count ≤ 8388608
      → simplified r list ≡ turns r (length list) (shown r (record { list = rows; solved = es }))
  fits_start rows es count e d f l =
      let sum : sum_by terms_in (dropped r.level list) ≡ count =
      sum_shown r.level list ∙ sym (f ∙ ap (sum_by terms_in) e) in
      ap by_count (few (sum_by terms_in (dropped r.level list)) 8388608 (omega arith))
      ∙ sym (λ i. turns r (length list) (shown r (record { list = e i; solved = d i })))
