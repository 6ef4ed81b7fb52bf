-- A step has no more new cells than are counted for it.
use Rattle.std.proofs.Common.{◌≡◌, ℕ, zero, suc, ◌+◌, ◌*◌, ◌<◌, ◌≤◌, Bool, true, false, cond, not}
use Rattle.std.proofs.Common.{List, [], ◌∷◌, map, length, Option, Some, None, refl, sym, ap, subst}
use Rattle.std.proofs.Common.{◌∙◌, slice_get, slice_set, arith}
use Rattle.std.specs.Prelude.{nat_lt, filter, count_by, sum_by, unwrap_or}
use Rattle.std.proofs.lemmas.Bool.{ltb-true}
use Rattle.std.proofs.lemmas.List.Sums.{sum_by-cons, length-filter, count_by-le-length}
use Rattle.cir_meaning.specs.Places.{elements, left_of, is_inside, places_of, numbers_from}
use Rattle.cir_meaning.specs.Limits.{is_too_large}
use Rattle.cir_meaning.specs.Arrays.{Datum, single, item_at, is_known, put_items, forgotten}
use Rattle.cir_meaning.specs.Values.{Value, Known}
use Rattle.cir_meaning.specs.Frame.{State, variable_at}
use Rattle.cir_meaning.specs.Writing.{VariableAssignment, written_datum, write_variable}
use Rattle.cir_meaning.specs.Steps.{new_cells}
use Rattle.cir_meaning.proofs.Reaching.{and_true}
use Rattle.cir_meaning.proofs.Writing.{get_set}
use Rattle.cir_steps.specs.Making.{new_places, wanted_of, count_of}
use Rattle.cir_steps.proofs.Templates.{Apart, AreApart}
use Rattle.cir_steps.proofs.Putting.{put_aside, set_none}
use Rattle.cir_steps.proofs.InTurn.{range_count}
use Rattle.cir_steps.proofs.Sized.{IsSized, IsReach, reach_count, put_count, inner_small}
use Rattle.cir_steps.proofs.Rising.{AreSized, variable_sized}

-- the places of a part are different ones
above_apart : (n first count : ℕ) → n < first → Apart n (numbers_from first count)
above_apart n first zero h = tt
above_apart n first (suc count) h =
    ((λ (e : n ≡ first). absurd (omega arith)), above_apart n (first + 1) count (omega arith))

numbers_apart : (first count : ℕ) → AreApart (numbers_from first count)
numbers_apart first zero = tt
numbers_apart first (suc count) =
    (above_apart first (first + 1) count (omega arith), numbers_apart (first + 1) count)

moved_apart : (c n : ℕ) (xs : List ℕ) → Apart n xs → Apart (c + n) (map (λ k. c + k) xs)
moved_apart c n [] h = tt
moved_apart c n (x ∷ xs) h =
    ((λ e. let same : c + n ≡ c + x = e in h.0 (omega arith)), moved_apart c n xs h.1)

all_moved : (c : ℕ) (xs : List ℕ) → AreApart xs → AreApart (map (λ k. c + k) xs)
all_moved c [] h = tt
all_moved c (x ∷ xs) h = (moved_apart c x xs h.0, all_moved c xs h.1)

places_apart : (dims ns : List ℕ) → AreApart (places_of dims (map Some ns))
places_apart dims [] = numbers_apart 0 (elements dims)
places_apart [] (n ∷ ns) = tt
places_apart (d ∷ ds) (n ∷ ns) =
    all_moved (n * elements ds) (places_of ds (map Some ns)) (places_apart ds ns)

-- an array with a part that is too large
large_around : (dims ns left : List ℕ) → left_of dims (map Some ns) ≡ Some left
    → is_inside dims (map Some ns) ≡ true → is_too_large left ≡ true → is_too_large dims ≡ true
large_around dims [] left e i h =
    let same : dims ≡ left = cc in ap is_too_large same ∙ h
large_around [] (n ∷ ns) left e i h = cc
large_around (zero ∷ ds) (n ∷ ns) left e i h =
    let less : n < 0 = ltb-true n 0 (and_true (nat_lt n 0) _ i).0 in absurd (omega arith)
large_around (suc d ∷ ds) (n ∷ ns) left e i h =
    at (is_too_large (suc d ∷ ds)) refl
    (large_around ds ns left e (and_true (nat_lt n (suc d)) _ i).1 h)
  where
    at : (b : Bool) → is_too_large (suc d ∷ ds) ≡ b → is_too_large ds ≡ true → b ≡ true
    at true is inner = refl
    at false is inner =
        let no : true ≡ false = sym inner ∙ inner_small d ds is in cc

-- elements that aren't known
abbrev unknown : Value → Bool
unknown v = not (is_known v)

abbrev unknown_in : List Value → ℕ → Bool
unknown_in items k = unknown (item_at items k)

none_pass : (test : ℕ → Bool) → ((k : ℕ) → test k ≡ false) → (xs : List ℕ)
    → length (filter test xs) ≡ 0
none_pass test h [] = refl
none_pass test h (x ∷ xs) =
    ap (λ (b : Bool). length (cond b (x ∷ filter test xs) (filter test xs))) (h x)
    ∙ none_pass test h xs

empty_known : (items : List Value) → length items ≡ 0 → (k : ℕ) → unknown_in items k ≡ false
empty_known [] h k = refl
empty_known (v ∷ vs) h k = let some : suc (length vs) ≡ 0 = h in absurd (omega arith)

single_known : (k : ℕ) → unknown_in (Known 0 ∷ []) k ≡ false
single_known zero = refl
single_known (suc k) = refl

abbrev count : List Value → ℕ
count vs = count_by unknown vs

count_more : (v : Value) (vs : List Value) → count (v ∷ vs) ≡ cond (unknown v) 1 0 + count vs
count_more v vs = sum_by-cons (λ v. cond (unknown v) 1 0) v vs

put_at_first : (old : List Value) (p : ℕ) (v : Value)
    → unknown_in (slice_set old p v) p ≡ true → unknown v ≡ true
put_at_first old p v = at (slice_get old p) refl
  where
    at : (o : Option Value) → slice_get old p ≡ o → unknown_in (slice_set old p v) p ≡ true
        → unknown v ≡ true
    at (Some x) is h = sym (ap (λ o. unknown (unwrap_or o (Known 0))) (get_set old p x v is)) ∙ h
    at None is h =
        let no : false ≡ true =
        sym (ap (λ o. unknown (unwrap_or o (Known 0))) (set_none old p v is)) ∙ h in cc

put_few : (places : List ℕ) (vs old : List Value) → AreApart places → length places ≤ length vs
    → length (filter (unknown_in (put_items places vs old)) places) ≤ count vs
put_few [] vs old apart few = omega arith
put_few (p ∷ ps) [] old apart few =
    let some : suc (length ps) ≤ 0 = few in absurd (omega arith)
put_few (p ∷ ps) (v ∷ vs) old apart few =
    at (unknown_in items p) refl (unknown v) refl
    (put_few ps vs (slice_set old p v) apart.1
    (let less : suc (length ps) ≤ suc (length vs) = few in omega arith))
  where
    items : List Value
    items = put_items ps vs (slice_set old p v)

    first : unknown_in items p ≡ true → unknown v ≡ true
    first h =
        put_at_first old p v (sym (ap (λ o. unknown (unwrap_or o (Known 0)))
        (put_aside ps vs (slice_set old p v) p apart.0)) ∙ h)

    at : (b : Bool) → unknown_in items p ≡ b → (c : Bool) → unknown v ≡ c
        → length (filter (unknown_in items) ps) ≤ count vs
        → length (cond b (p ∷ filter (unknown_in items) ps) (filter (unknown_in items) ps))
        ≤ count (v ∷ vs)
    at true is true known rest =
        let more : count (v ∷ vs) ≡ 1 + count vs =
        count_more v vs ∙ ap (λ (b : Bool). cond b 1 0 + count vs) known in
        let longer : length (p ∷ filter (unknown_in items) ps)
        ≡ suc (length (filter (unknown_in items) ps)) = refl in
        omega arith
    at true is false known rest =
        let no : true ≡ false = sym (first is) ∙ known in cc
    at false is c known rest =
        let more : count (v ∷ vs) ≡ cond (unknown v) 1 0 + count vs = count_more v vs in
        omega arith

sized_few : (d : Datum) → IsSized d → length d.items ≤ elements d.dims
sized_few d h = at (is_too_large d.dims) h
  where
    at : (b : Bool) → length d.items ≡ cond b 0 (elements d.dims)
        → length d.items ≤ elements d.dims
    at true e = omega arith
    at false e = omega arith

-- an assignment
module _ (n : ℕ) (c : VariableAssignment)
    (is : IsReach (variable_at c.state.frame n).dims c.reach) (sized : IsSized c.value)
    (fits : c.reach.left ≡ c.value.dims) (all_sized : AreSized c.state) where
  abbrev old : Datum
  old = variable_at c.state.frame n

  abbrev after : List Value
  after = (variable_at (write_variable n c).frame n).items

  -- what is put, where it is known which part is written
  put_sure : c.reach.is_sure ≡ true
      → length (filter (unknown_in (put_items c.reach.places c.value.items old.items))
      c.reach.places) ≤ count c.value.items
  put_sure sure = at (is_too_large c.value.dims) refl (is sure)
    where
      at : (b : Bool) → is_too_large c.value.dims ≡ b
          → (ns : List ℕ) × (left_of old.dims (map Some ns) ≡ Some c.reach.left)
          × (is_inside old.dims (map Some ns) ≡ true)
          × (c.reach.places ≡ places_of old.dims (map Some ns))
          → length (filter (unknown_in (put_items c.reach.places c.value.items old.items))
          c.reach.places) ≤ count c.value.items
      at true large its =
          let whole : is_too_large old.dims ≡ true =
          large_around old.dims its.0 c.reach.left its.1 its.2 (ap is_too_large fits ∙ large) in
          let none : length old.items ≡ 0 =
          variable_sized c.state n all_sized
          ∙ ap (λ (b : Bool). cond b 0 (elements old.dims)) whole in
          let zero : length (filter (unknown_in (put_items c.reach.places c.value.items old.items))
          c.reach.places) ≡ 0 =
          none_pass _ (empty_known (put_items c.reach.places c.value.items old.items)
          (put_count c.reach.places c.value.items old.items ∙ none)) c.reach.places in
          omega arith
      at false small its =
          put_few c.reach.places c.value.items old.items
          (subst AreApart (sym its.3) (places_apart old.dims its.0))
          (let places : length c.reach.places ≡ elements c.reach.left =
          reach_count old.dims c.reach is sure in
          let same : elements c.reach.left ≡ elements c.value.dims = ap elements fits in
          let items : length c.value.items ≡ elements c.value.dims =
          sized ∙ ap (λ (b : Bool). cond b 0 (elements c.value.dims)) small in
          omega arith)

  pub new_few : length (new_places n c) ≤ new_cells n c
  new_few = at c.reach.is_sure refl
    where
      written : Bool → List Value
      written b = (cond b record {
        dims = old.dims;
        items = put_items c.reach.places c.value.items old.items;
      } (forgotten old)).items

      sure_few : c.reach.is_sure ≡ true → length (filter (unknown_in after) c.reach.places)
          ≤ count c.value.items
      sure_few sure = by (slice_get c.state.frame.variables n) refl
        where
          now : slice_get (slice_set c.state.frame.variables n
              (written_datum old c.reach c.value)) n ≡ None
              → length (filter (unknown_in after) c.reach.places) ≤ count c.value.items
          now out =
              let none : length (filter (unknown_in after) c.reach.places) ≡ 0 =
              none_pass (unknown_in after) (λ k.
              ap (λ o. unknown_in (unwrap_or o (single (Known 0))).items k) out
              ∙ single_known k) c.reach.places in
              omega arith

          by : (o : Option Datum) → slice_get c.state.frame.variables n ≡ o
              → length (filter (unknown_in after) c.reach.places) ≤ count c.value.items
          by None out = now (set_none c.state.frame.variables n _ out)
          by (Some d) there =
              let items : after ≡ put_items c.reach.places c.value.items old.items =
              ap (λ o. (unwrap_or o (single (Known 0))).items)
              (get_set c.state.frame.variables n d (written_datum old c.reach c.value) there)
              ∙ ap written sure in
              subst (λ xs. length (filter (unknown_in xs) c.reach.places) ≤ count c.value.items)
              (sym items) (put_sure sure)

      at : (b : Bool) → c.reach.is_sure ≡ b
          → length (filter (unknown_in after)
          (cond b c.reach.places (numbers_from 0 (length old.items))))
          ≤ cond b (count c.value.items) (elements old.dims)
      at true sure = sure_few sure
      at false unsure =
          let passed : length (filter (unknown_in after) (numbers_from 0 (length old.items)))
          ≡ count_by (unknown_in after) (numbers_from 0 (length old.items)) =
          length-filter (unknown_in after) (numbers_from 0 (length old.items)) in
          let most : count_by (unknown_in after) (numbers_from 0 (length old.items))
          ≤ length (numbers_from 0 (length old.items)) =
          count_by-le-length (unknown_in after) (numbers_from 0 (length old.items)) in
          let all : length (numbers_from 0 (length old.items)) ≡ length old.items =
          range_count 0 (length old.items) in
          let items : length old.items ≤ elements old.dims =
          sized_few old (variable_sized c.state n all_sized) in
          omega arith

-- what a statement may assign whose condition isn't known
pub wanted_few : (ns : List ℕ) (s : State) → AreSized s
    → count_of (wanted_of ns s) ≤ sum_by (λ n. elements (variable_at s.frame n).dims) ns
wanted_few [] s h = omega arith
wanted_few (n ∷ ns) s h =
    let first : length (variable_at s.frame n).items ≤ elements (variable_at s.frame n).dims =
    sized_few (variable_at s.frame n) (variable_sized s n h) in
    let rest : count_of (wanted_of ns s) ≤ sum_by (λ n. elements (variable_at s.frame n).dims) ns =
    wanted_few ns s h in
    let more : sum_by (λ n. elements (variable_at s.frame n).dims) (n ∷ ns)
    ≡ elements (variable_at s.frame n).dims
    + sum_by (λ n. elements (variable_at s.frame n).dims) ns =
    sum_by-cons (λ n. elements (variable_at s.frame n).dims) n ns in
    omega arith
