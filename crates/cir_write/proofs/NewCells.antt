-- New cells of the elements of a variable.
use Rattle.std.proofs.Common.{◌≡◌, ◌≢◌, ◌⊎◌, inl, inr, ℕ, zero, suc, ◌+◌, ◌==◌, ◌<◌, ◌≤◌, Bool}
use Rattle.std.proofs.Common.{true, false, cond, List, [], ◌∷◌, ◌++◌, map, length, Option, Some}
use Rattle.std.proofs.Common.{None, refl, sym, ap, ◌∙◌, slice_get, slice_set, arith}
use Rattle.std.specs.Prelude.{if◌then◌else◌, not, unwrap_or}
use Rattle.std.proofs.lemmas.Bool.{eq-eqb, ne_eqb}
use Rattle.cir_meaning.specs.Arrays.{Datum, Reach, forgotten, is_known, item_at, put_items}
use Rattle.cir_meaning.specs.Places.{numbers_from}
use Rattle.cir_meaning.specs.Values.{Value, Known, Linear, Quadratic, Opaque}
use Rattle.cir_meaning.specs.Writing.{written_datum}
use Rattle.cir_meaning.proofs.PartWrites.{get_other, same_or_not}
use Rattle.cir_meaning.proofs.Writing.{get_set}
use Rattle.cir_steps.specs.Step as S
use Rattle.cir_steps.specs.Step.{listed, put_sources, source_of, sources_of}
use Rattle.cir_steps.proofs.Putting.{apart_range, or_get, put_aside}
use Rattle.cir_steps.proofs.Templates.{Apart}
use Rattle.cir_make.specs.declared.cells.VariableCells.{VariableCells}
use Rattle.cir_write.specs.Assigned.{HasCells, is_new_at, is_new_in, put_at_places, put_one}
use Rattle.cir_make.specs.Cells.{source_by}
use Rattle.cir_make.specs.Shows.{AreSourced, source_in}

-- ---- lists of sources
pub listed_put : (n : ℕ) (l : List S.Source) (xs : List (List S.Source))
    → listed (put_sources n l xs) n ≡ l
listed_put zero l [] = refl
listed_put zero l (x ∷ xs) = refl
listed_put (suc n) l [] = listed_put n l []
listed_put (suc n) l (x ∷ xs) = listed_put n l xs

pub listed_other : (n m : ℕ) (l : List S.Source) (xs : List (List S.Source)) → m ≢ n
    → listed (put_sources n l xs) m ≡ listed xs m
listed_other zero zero l xs ne = absurd (ne refl)
listed_other zero (suc m) l [] ne = refl
listed_other zero (suc m) l (x ∷ xs) ne = refl
listed_other (suc n) zero l [] ne = refl
listed_other (suc n) zero l (x ∷ xs) ne = refl
listed_other (suc n) (suc m) l [] ne =
    listed_other n m l [] (λ e. ne (ap (λ (k : ℕ). suc k) e))
listed_other (suc n) (suc m) l (x ∷ xs) ne =
    listed_other n m l xs (λ e. ne (ap (λ (k : ℕ). suc k) e))

-- ---- elements at places, one after the other
-- only what the element had counts
pub put_same : (ps : List ℕ) (first : ℕ) (f g : ℕ → S.Source) (k : ℕ) → (Apart k ps → f k ≡ g k)
    → put_at_places ps first f k ≡ put_at_places ps first g k
put_same [] first f g k h = h tt
put_same (p ∷ ps) first f g k h =
    put_same ps (first + 1) (put_one p first f) (put_one p first g) k (λ apart. at apart
    (same_or_not p k))
  where
    at : Apart k ps → (p ≡ k) ⊎ (p ≢ k) → put_one p first f k ≡ put_one p first g k
    at apart (inl e) =
        ap (λ (b : Bool). cond b (S.Cell first) (f k)) (eq-eqb p k e)
        ∙ sym (ap (λ (b : Bool). cond b (S.Cell first) (g k)) (eq-eqb p k e))
    at apart (inr ne) =
        ap (λ (s : S.Source). cond (p == k) (S.Cell first) s)
        (h ((λ e. ne (sym e)), apart))

get_source : (xs : List S.Source) (k : ℕ) (s : S.Source) → slice_get xs k ≡ Some s
    → source_in xs k ≡ s
get_source xs k s h = or_get xs k (S.Constant 0) ∙ ap (λ (o : Option S.Source).
    unwrap_or o (S.Constant 0)) h

-- the list with cells put into it, where it has the element
pub put_is : (ps : List ℕ) (first : ℕ) (base : List S.Source) (k : ℕ) (s : S.Source)
    → slice_get base k ≡ Some s → source_in (put_items ps
    (map (λ c. S.Cell c) (numbers_from first (length ps))) base) k
    ≡ put_at_places ps first (source_in base) k
put_is [] first base k s there = refl
put_is (p ∷ ps) first base k s there =
    at (same_or_not p k) (put_is ps (first + 1) (slice_set base p (S.Cell first)) k)
  where
    next : List S.Source
    next = slice_set base p (S.Cell first)

    at : (p ≡ k) ⊎ (p ≢ k) → ((s : S.Source) → slice_get (slice_set base p (S.Cell first)) k
        ≡ Some s → source_in (put_items ps (map (λ c. S.Cell c) (numbers_from (first + 1)
        (length ps))) (slice_set base p (S.Cell first))) k ≡ put_at_places ps (first + 1)
        (source_in (slice_set base p (S.Cell first))) k) → source_in (put_items ps
        (map (λ c. S.Cell c) (numbers_from (first + 1) (length ps))) next) k
        ≡ put_at_places ps (first + 1) (put_one p first (source_in base)) k
    at (inl e) go =
        let put : slice_get next k ≡ Some (S.Cell first) =
        ap (slice_get next) (sym e)
        ∙ get_set base p s (S.Cell first) (ap (slice_get base) e ∙ there) in
        go (S.Cell first) put
        ∙ put_same ps (first + 1) (source_in next) (put_one p first (source_in base)) k
        (λ apart. get_source next k (S.Cell first) put
        ∙ sym (ap (λ (b : Bool). cond b (S.Cell first) (source_in base k)) (eq-eqb p k e)))
    at (inr ne) go =
        let kept : slice_get next k ≡ Some s = get_other base p k (S.Cell first) ne ∙ there in
        go s kept
        ∙ put_same ps (first + 1) (source_in next) (put_one p first (source_in base)) k
        (λ apart. get_source next k s kept
        ∙ sym (ap (λ (b : Bool). cond b (S.Cell first) (source_in base k)) (ne_eqb p k ne)
        ∙ get_source base k s there))

-- ---- what was settled
pub as_it_is : (v : Value) (s : S.Source) → is_known v ≡ false → source_of v s ≡ s
as_it_is (Known k) s u = cc
as_it_is (Linear f) s u = refl
as_it_is (Quadratic a b c) s u = refl
as_it_is Opaque s u = refl

pub item_is : (vs : List Value) (k : ℕ) (v : Value) → slice_get vs k ≡ Some v → item_at vs k ≡ v
item_is vs k v h = ap (λ (o : Option Value). unwrap_or o (Known 0)) h

pub settled_get : (vs : List Value) (xs : List S.Source) (k : ℕ) (v : Value)
    → slice_get vs k ≡ Some v → (s : S.Source) × (slice_get (sources_of vs xs) k ≡ Some s)
settled_get [] xs k v h = cc
settled_get (w ∷ vs) [] zero v h = (source_of w (S.Constant 0), refl)
settled_get (w ∷ vs) (x ∷ xs) zero v h = (source_of w x, refl)
settled_get (w ∷ vs) [] (suc k) v h = settled_get vs [] k v h
settled_get (w ∷ vs) (x ∷ xs) (suc k) v h = settled_get vs xs k v h

-- an element that isn't known behind it, and isn't new, wasn't known before
map_opaque : (vs : List Value) (k : ℕ) (u : Value) → slice_get (map (λ v. Opaque) vs) k ≡ Some u
    → k < length vs
map_opaque [] k u h = cc
map_opaque (v ∷ vs) zero u h = omega arith
map_opaque (v ∷ vs) (suc k) u h = let less : k < length vs = map_opaque vs k u h in omega arith

pub untouched : (old new : Datum) (r : Reach) (k : ℕ) (u : Value)
    → slice_get (written_datum old r new).items k ≡ Some u
    → Apart k (if r.is_sure then r.places else numbers_from 0 (length old.items))
    → slice_get old.items k ≡ Some u
untouched old new r k u there apart = at r.is_sure there apart
  where
    at : (b : Bool) → slice_get (cond b (record {
      dims = old.dims;
      items = put_items r.places new.items old.items;
    }) (forgotten old)).items k ≡ Some u
        → Apart k (cond b r.places (numbers_from 0 (length old.items)))
        → slice_get old.items k ≡ Some u
    at true h a = sym (put_aside r.places new.items old.items k a) ∙ h
    at false h a =
        let past : 0 + length old.items ≤ k = apart_range 0 (length old.items) k (omega arith) a in
        absurd (let less : k < length old.items = map_opaque old.items k u h in omega arith)

-- ---- what is put
abbrev pub putting : (old new : Option Value) → Option Value
putting None new = None
putting (Some v) None = Some v
putting (Some v) (Some w) = Some w

none_put : (o : Option Value) → putting o None ≡ o
none_put None = refl
none_put (Some v) = refl

set_at : (xs : List Value) (n : ℕ) (v : Value)
    → slice_get (slice_set xs n v) n ≡ putting (slice_get xs n) (Some v)
set_at [] n v = refl
set_at (x ∷ xs) zero v = refl
set_at (x ∷ xs) (suc n) v = set_at xs n v

apart_behind : (first count k : ℕ) → k < first → Apart k (numbers_from first count)
apart_behind first zero k h = tt
apart_behind first (suc count) k h =
    ((λ e. omega (arith, e, h)), apart_behind (first + 1) count k (omega arith))

-- ---- the variables behind an assignment
module _ (ds es : List Datum) (xs ys : List (List S.Source)) (vs ws : List VariableCells)
    (n first : ℕ) (places : List ℕ) where
  -- what is known of the variable that is written: its elements aren't known where they weren't, or
  -- are new
  abbrev pub Behind : Type 0
  Behind =
      (e : Datum) → slice_get es n ≡ Some e → (k : ℕ) (u : Value) → slice_get e.items k ≡ Some u
      → is_known u ≡ false → (Apart k places → (d : Datum) × (slice_get ds n ≡ Some d)
      × (slice_get d.items k ≡ Some u)) × (source_in (listed ys n) k
      ≡ put_at_places places first (source_in (listed xs n)) k)

  pub cells_sourced : ((m : ℕ) → m ≢ n → slice_get es m ≡ slice_get ds m)
      → ((m : ℕ) → m ≢ n → listed ys m ≡ listed xs m) → Behind
      → HasCells n places first vs ws → AreSourced ds xs vs → AreSourced es ys ws
  cells_sourced others lists behind cells h = record { each = each }
    where
      each : (m : ℕ) (e : Datum) (v : VariableCells) → slice_get es m ≡ Some e
          → slice_get ws m ≡ Some v → v.is_lost ≡ false → (k : ℕ) (u : Value)
          → slice_get e.items k ≡ Some u → is_known u ≡ false
          → source_in (listed ys m) k ≡ source_in (map source_by v.sources.items) k
      each m e v there at_v lost k u element unknown = at (same_or_not m n)
        where
          at : (m ≡ n) ⊎ (m ≢ n)
              → source_in (listed ys m) k ≡ source_in (map source_by v.sources.items) k
          at (inr ne) =
              ap (λ (l : List S.Source). source_in l k) (lists m ne)
              ∙ h.each m e v (sym (others m ne) ∙ there) (sym (cells.others m ne) ∙ at_v) lost k u
              element unknown
          at (inl same) =
              let its = cells.itself v (ap (slice_get ws) (sym same) ∙ at_v) lost in
              let b = behind e (ap (slice_get es) (sym same) ∙ there) k u element unknown in
              ap (λ (i : ℕ). source_in (listed ys i) k) same
              ∙ b.1
              ∙ put_same places first (source_in (listed xs n))
              (source_in (map source_by its.0.sources.items)) k
              (λ apart. let old = b.0 apart in
              h.each n old.0 its.0 old.1 its.1 its.2 k u old.2 unknown)
              ∙ sym (its.3 k)

-- ---- which elements are new
-- an item that is put in a row
pub put_row : (first count i : ℕ) (vs olds : List Value) → i < count
    → slice_get (put_items (numbers_from first count) vs olds) (first + i)
    ≡ putting (slice_get olds (first + i)) (slice_get vs i)
put_row first zero i vs olds h = absurd (omega arith)
put_row first (suc count) i [] olds h = sym (none_put (slice_get olds (first + i)))
put_row first (suc count) zero (v ∷ vs) olds h =
    put_aside (numbers_from (first + 1) count) vs (slice_set olds first v) (first + 0)
    (apart_behind (first + 1) count (first + 0) (omega arith))
    ∙ ap (λ (k : ℕ). slice_get (slice_set olds first v) k) (omega arith)
    ∙ set_at olds first v
    ∙ ap (λ (k : ℕ). putting (slice_get olds k) (Some v)) (omega arith)
put_row first (suc count) (suc i) (v ∷ vs) olds h =
    ap (λ (k : ℕ). slice_get (put_items (numbers_from (first + 1) count) vs
    (slice_set olds first v)) k) (omega arith)
    ∙ put_row (first + 1) count i vs (slice_set olds first v) (omega arith)
    ∙ ap (λ (o : Option Value). putting o (slice_get vs i))
    (get_other olds first (first + 1 + i) v (λ e. omega (arith, e)))
    ∙ ap (λ (k : ℕ). putting (slice_get olds k) (slice_get vs i)) (omega arith)

pub new_is : (first count i : ℕ) (vs olds : List Value) → i < count
    → is_new_in (put_items (numbers_from first count) vs olds) (first + i)
    ≡ is_new_at (slice_get olds (first + i)) (slice_get vs i)
new_is first count i vs olds h =
    ap (λ (o : Option Value). not (is_known (unwrap_or o (Known 0))))
    (put_row first count i vs olds h)
    ∙ at (slice_get olds (first + i)) (slice_get vs i)
  where
    at : (o n : Option Value) → not (is_known (unwrap_or (putting o n) (Known 0))) ≡ is_new_at o n
    at None n = refl
    at (Some v) None = refl
    at (Some v) (Some w) = refl
