-- What is kept behind an assignment to a variable.
use Rattle.std.proofs.Common.{◌≡◌, ◌≢◌, ◌⊎◌, inl, inr, ℕ, zero, suc, ◌+◌, ◌==◌, Bool, true, false}
use Rattle.std.proofs.Common.{cond, List, [], ◌∷◌, ◌++◌, map, length, Option, Some, None, refl, sym}
use Rattle.std.proofs.Common.{ap, subst, ◌∙◌, slice_get, slice_set, arith}
use Rattle.std.specs.Prelude.{◌&&◌, if◌then◌else◌, not, unwrap_or}
use Rattle.std.specs.List.{list_all}
use Rattle.std.specs.declared.vec.Vec.{Vec}
use Rattle.std.specs.declared.alloc.Global.{Global}
use Rattle.std.proofs.lemmas.Bool.{eqb-true}
use Rattle.cir_meaning.specs.Arrays.{Datum, Reach, forgotten, is_all_known, is_known, item_at}
use Rattle.cir_meaning.specs.Arrays.{put_items, single}
use Rattle.cir_meaning.specs.Costs.{Made as Key}
use Rattle.cir_meaning.specs.Frame.{Part, State, variable_at}
use Rattle.cir_meaning.specs.Limits.{is_too_large}
use Rattle.cir_meaning.specs.Places.{elements, numbers_from}
use Rattle.cir_meaning.specs.Values.{Value, Known, Opaque}
use Rattle.cir_meaning.specs.Writing.{VariableAssignment, is_unknown, write_variable, written_datum}
use Rattle.cir_meaning.proofs.PartWrites.{get_other, same_or_not}
use Rattle.cir_arrays.specs.declared.arrays.Datum.{Datum as CodeDatum}
use Rattle.cir_arrays.specs.declared.arrays.Datum.TheVariants as code
use Rattle.cir_arrays.specs.Shown.{datum_of}
use Rattle.cir_values.specs.Meant.{meant}
use Rattle.cir_values.specs.declared.value.Value.{Value as CodeValue}
use Rattle.cir_frame.specs.declared.frame.Frame.{Frame}
use Rattle.cir_frame.specs.Shown.{part_of}
use Rattle.cir_steps.specs.Emission.{Emission, known_in, with_state}
use Rattle.cir_steps.specs.Making.{new_places, settled_sources, with_cells, written_places}
use Rattle.cir_steps.specs.Step as S
use Rattle.cir_steps.specs.Step.{Step, listed, source_of, sources_of}
use Rattle.cir_steps.proofs.Putting.{apart_filter, set_none, source_at}
use Rattle.cir_steps.proofs.Templates.{Apart}
use Rattle.cir_make.specs.declared.cells.Cells.{Cells}
use Rattle.cir_make.specs.declared.cells.VariableCells.{VariableCells}
use Rattle.cir_make.specs.declared.whole.Made.{Made}
use Rattle.cir_write.specs.Assigned.{HasCells, put_at_places}
use Rattle.cir_make.specs.Cells.{source_by}
use Rattle.cir_make.specs.Shows.{AreSourced, AreWaiting, IsKept, keys_of, source_in}
use Rattle.cir_write.proofs.NewCells.{as_it_is, cells_sourced, item_is, listed_other, listed_put}
use Rattle.cir_write.proofs.NewCells.{put_is, put_same, settled_get, untouched}
use Rattle.cir_write.proofs.Sourcing.{set_is}

-- ---- known items
put_known : (ks : List ℕ) (vs olds : List Value) (k : ℕ) (u : Value)
    → list_all is_known vs ≡ true → slice_get (put_items ks vs olds) k ≡ Some u
    → is_known u ≡ false → slice_get olds k ≡ Some u
put_known [] vs olds k u all there unknown = there
put_known (i ∷ ks) [] olds k u all there unknown = there
put_known (i ∷ ks) (v ∷ vs) olds k u all there unknown =
    at (same_or_not i k) (is_known v) refl all
    (λ h. put_known ks vs (slice_set olds i v) k u h there unknown)
  where
    at : (i ≡ k) ⊎ (i ≢ k) → (b : Bool) → is_known v ≡ b → (b && list_all is_known vs) ≡ true
        → (list_all is_known vs ≡ true → slice_get (slice_set olds i v) k ≡ Some u)
        → slice_get olds k ≡ Some u
    at d false is h go = absurd (cc)
    at (inr ne) true is h go = sym (get_other olds i k v ne) ∙ go h
    at (inl same) true is h go =
        let put : slice_get (slice_set olds i v) k ≡ Some u = go h in
        let new : u ≡ v = set_is olds i v u (ap (slice_get (slice_set olds i v)) same ∙ put) in
        let no : true ≡ false = sym is ∙ ap is_known (sym new) ∙ unknown in absurd (cc)

-- no array without elements has items
pub no_items : (d : CodeDatum) → elements (datum_of d).dims ≡ 0 → (datum_of d).items ≡ []
no_items (code.Number v) h = absurd (omega (arith, h))
no_items (code.Array a) h = at (a.items.items) sized
  where
    sized : length a.items.items ≡ 0
    sized = a.sized ∙ by (is_too_large a.dims.items)
      where
        by : (b : Bool) → cond b 0 (elements a.dims.items) ≡ 0
        by true = refl
        by false = h

    at : (xs : List CodeValue) → length xs ≡ 0 → map meant xs ≡ []
    at [] e = refl
    at (x ∷ xs) e = absurd (omega (arith, e))

-- what is written and isn't known wasn't known before
known_written : (old new : Datum) (r : Reach) (k : ℕ) (u : Value)
    → (r.is_sure ≡ true → is_all_known new ≡ true) → (r.is_sure ≡ false → old.items ≡ [])
    → slice_get (written_datum old r new).items k ≡ Some u → is_known u ≡ false
    → slice_get old.items k ≡ Some u
known_written old new r k u sure unsure there unknown = at r.is_sure refl there
  where
    at : (b : Bool) → r.is_sure ≡ b → slice_get (cond b (record {
      dims = old.dims;
      items = put_items r.places new.items old.items;
    }) (forgotten old)).items k ≡ Some u → slice_get old.items k ≡ Some u
    at true is h = put_known r.places new.items old.items k u (sure is) h unknown
    at false is h =
        let empty : List Value = [] in
        let none : slice_get (map (λ v. Opaque) empty) k ≡ Some u =
        ap (λ (l : List Value). slice_get (map (λ v. Opaque) l) k) (sym (unsure is)) ∙ h in
        absurd (cc)

-- ---- variables that stay but for one
module _ (ds : List Datum) (n : ℕ) (e : Datum) where
  same_else : (m : ℕ) → m ≢ n → slice_get (slice_set ds n e) m ≡ slice_get ds m
  same_else m ne = get_other ds n m e (λ s. ne (sym s))

  old_there : (y : Datum) → slice_get (slice_set ds n e) n ≡ Some y
      → (d : Datum) × (slice_get ds n ≡ Some d)
  old_there y h = at (slice_get ds n) refl
    where
      at : (o : Option Datum) → slice_get ds n ≡ o → (d : Datum) × (slice_get ds n ≡ Some d)
      at (Some d) is = (d, is)
      at None is =
          let none : slice_get (slice_set ds n e) n ≡ None = set_none ds n e is in
          let no : Some y ≡ None = sym h ∙ none in absurd (cc)

at_place : (ds : List Datum) (n : ℕ) (d : Datum) → slice_get ds n ≡ Some d
    → unwrap_or (slice_get ds n) (single (Known 0)) ≡ d
at_place ds n d h = ap (λ (o : Option Datum). unwrap_or o (single (Known 0))) h

known_sourced : (ds : List Datum) (n : ℕ) (r : Reach) (new : Datum) (xs : List (List S.Source))
    (vs : List VariableCells)
    → (r.is_sure ≡ true → is_all_known new ≡ true)
    → (r.is_sure ≡ false → (unwrap_or (slice_get ds n) (single (Known 0))).items ≡ [])
    → AreSourced ds xs vs
    → AreSourced (slice_set ds n (written_datum (unwrap_or (slice_get ds n) (single (Known 0))) r
    new)) xs vs
known_sourced ds n r new xs vs sure unsure h = record { each = each }
  where
    old : Datum
    old = unwrap_or (slice_get ds n) (single (Known 0))

    e : Datum
    e = written_datum old r new

    each : (m : ℕ) (y : Datum) (v : VariableCells) → slice_get (slice_set ds n e) m ≡ Some y
        → slice_get vs m ≡ Some v → v.is_lost ≡ false → (k : ℕ) (u : Value)
        → slice_get y.items k ≡ Some u → is_known u ≡ false
        → source_in (listed xs m) k ≡ source_in (map source_by v.sources.items) k
    each m y v there at_v lost k u element unknown = at (same_or_not m n)
      where
        at : (m ≡ n) ⊎ (m ≢ n)
            → source_in (listed xs m) k ≡ source_in (map source_by v.sources.items) k
        at (inr ne) =
            h.each m y v (sym (same_else ds n e m ne) ∙ there) at_v lost k u element unknown
        at (inl same) =
            let put : slice_get (slice_set ds n e) n ≡ Some y =
            ap (slice_get (slice_set ds n e)) (sym same) ∙ there in
            let is : y ≡ e = set_is ds n e y put in
            let d = old_there ds n e y put in
            let before : slice_get old.items k ≡ Some u =
            known_written old new r k u sure unsure
            (ap (λ (z : Datum). slice_get z.items k) (sym is) ∙ element) unknown in
            h.each m d.0 v (ap (slice_get ds) same ∙ d.1) at_v lost k u
            (ap (λ (z : Datum). slice_get z.items k) (sym (at_place ds n d.0 d.1)) ∙ before) unknown

-- ---- new cells
module _ (a : VariableAssignment) (n : ℕ) (s : State) (x : Emission) (ds : List Datum)
    (at_a : a.state.frame.variables ≡ ds) (at_x : (known_in x).frame.variables ≡ ds)
    (at_s : s.frame.variables
    ≡ slice_set ds n (written_datum (unwrap_or (slice_get ds n) (single (Known 0))) a.reach
    a.value)) where
  abbrev old_one : Datum
  old_one = unwrap_or (slice_get ds n) (single (Known 0))

  abbrev new_one : Datum
  new_one = written_datum old_one a.reach a.value

  behind_at : (e : Datum) → slice_get (slice_set ds n new_one) n ≡ Some e → (k : ℕ) (u : Value)
      → slice_get e.items k ≡ Some u → is_known u ≡ false
      → (Apart k (new_places n a) → slice_get old_one.items k ≡ Some u)
      × (source_in (listed (with_cells n (new_places n a) s x).sources n) k
      ≡ put_at_places (new_places n a) x.next (source_in (listed x.sources n)) k)
  behind_at e there k u element unknown = (before, cells)
    where
      is : e ≡ new_one
      is = set_is ds n new_one e there

      now : slice_get new_one.items k ≡ Some u
      now = ap (λ (z : Datum). slice_get z.items k) (sym is) ∙ element

      written : variable_at (write_variable n a).frame n ≡ new_one
      written =
          ap (λ (vs : List Datum). unwrap_or (slice_get (slice_set vs n (written_datum
          (unwrap_or (slice_get vs n) (single (Known 0))) a.reach a.value)) n)
          (single (Known 0))) at_a
          ∙ ap (λ (o : Option Datum). unwrap_or o (single (Known 0))) there ∙ is

      tested : not (is_known (item_at (variable_at (write_variable n a).frame n).items k)) ≡ true
      tested =
          ap (λ (z : Datum). not (is_known (item_at z.items k))) written
          ∙ ap (λ (v : Value). not (is_known v)) (item_is new_one.items k u now)
          ∙ ap not unknown

      before : Apart k (new_places n a) → slice_get old_one.items k ≡ Some u
      before apart =
          untouched old_one a.value a.reach k u now
          (subst (λ (vs : List Datum). Apart k (if a.reach.is_sure then a.reach.places
          else numbers_from 0 (length (unwrap_or (slice_get vs n) (single (Known 0))).items))) at_a
          (apart_filter (λ i. not (is_known (item_at
          (variable_at (write_variable n a).frame n).items i))) k (written_places n a) tested
          apart))

      known_old : variable_at (known_in x).frame n ≡ old_one
      known_old =
          ap (λ (vs : List Datum). unwrap_or (slice_get vs n) (single (Known 0))) at_x

      known_new : variable_at s.frame n ≡ new_one
      known_new =
          ap (λ (vs : List Datum). unwrap_or (slice_get vs n) (single (Known 0))) at_s
          ∙ ap (λ (o : Option Datum). unwrap_or o (single (Known 0))) there ∙ is

      base : List S.Source
      base = settled_sources s x n

      settled : base ≡ sources_of new_one.items (sources_of old_one.items (listed x.sources n))
      settled =
          ap (λ (z : Datum). sources_of z.items
          (sources_of (variable_at (known_in x).frame n).items (listed x.sources n))) known_new
          ∙ ap (λ (z : Datum). sources_of new_one.items
          (sources_of z.items (listed x.sources n))) known_old

      stands : Apart k (new_places n a)
          → source_in base k ≡ source_in (listed x.sources n) k
      stands apart =
          ap (λ (l : List S.Source). source_in l k) settled
          ∙ source_at new_one.items (sources_of old_one.items (listed x.sources n)) k
          ∙ ap (λ (v : Value). source_of v
          (source_in (sources_of old_one.items (listed x.sources n)) k))
          (item_is new_one.items k u now)
          ∙ as_it_is u (source_in (sources_of old_one.items (listed x.sources n)) k) unknown
          ∙ source_at old_one.items (listed x.sources n) k
          ∙ ap (λ (v : Value). source_of v (source_in (listed x.sources n) k))
          (item_is old_one.items k u (before apart))
          ∙ as_it_is u (source_in (listed x.sources n) k) unknown

      cells : source_in (listed (with_cells n (new_places n a) s x).sources n) k
          ≡ put_at_places (new_places n a) x.next (source_in (listed x.sources n)) k
      cells =
          let got = settled_get new_one.items (sources_of old_one.items (listed x.sources n)) k u
          now
          in
          ap (λ (l : List S.Source). source_in l k) (listed_put n (put_items (new_places n a)
          (map (λ c. S.Cell c) (numbers_from x.next (length (new_places n a)))) base) x.sources)
          ∙ put_is (new_places n a) x.next base k got.0
          (ap (λ (l : List S.Source). slice_get l k) settled ∙ got.1)
          ∙ put_same (new_places n a) x.next (source_in base) (source_in (listed x.sources n)) k
          stands

pub kept_cells : (p : List Key) (f g : Frame) (c : Cells) (vs : Vec VariableCells Global)
    (made : Made) (next : ℕ) (x : Emission) (steps : List Step) (n : ℕ) (a : VariableAssignment)
    (s : State) → a.state.frame.variables ≡ map datum_of f.variables.items
    → (known_in x).frame.variables ≡ map datum_of f.variables.items
    → map datum_of g.variables.items ≡ slice_set (map datum_of f.variables.items) n
    (written_datum (unwrap_or (slice_get (map datum_of f.variables.items) n) (single (Known 0)))
    a.reach a.value)
    → map part_of g.parts.items ≡ map part_of f.parts.items
    → s.frame.variables ≡ map datum_of g.variables.items
    → HasCells n (new_places n a) made.next c.variables.items vs.items
    → next ≡ made.next + length (new_places n a) → IsKept p f c made x steps
    → IsKept p g record c { variables = vs } record made { next = next }
    (with_cells n (new_places n a) s x) steps
kept_cells p f g c vs made next x steps n a s at_a at_x variables parts at_s cells is h = record {
  next = ap (λ (i : ℕ). i + length (new_places n a)) h.next ∙ sym is;
  own = h.own;
  parts = h.parts;
  sources = subst (λ (es : List Datum). AreSourced es
      (with_cells n (new_places n a) s x).sources vs.items) (sym variables)
      (cells_sourced ds es x.sources (with_cells n (new_places n a) s x).sources
      c.variables.items vs.items n made.next (new_places n a) (same_else ds n new)
      (λ m ne. listed_other n m (put_items (new_places n a) (map (λ c. S.Cell c)
      (numbers_from x.next (length (new_places n a)))) (settled_sources s x n)) x.sources ne)
      behind cells h.sources);
  waiting = subst (λ (ps : List Part). AreWaiting (keys_of made) x.bodies ps c.parts.items)
      (sym parts) h.waiting;
  steps_made = h.steps_made;
  later = h.later;
  keys = h.keys;
}
  where
    ds : List Datum
    ds = map datum_of f.variables.items

    old : Datum
    old = unwrap_or (slice_get ds n) (single (Known 0))

    new : Datum
    new = written_datum old a.reach a.value

    es : List Datum
    es = slice_set ds n new

    behind : (e : Datum) → slice_get es n ≡ Some e → (k : ℕ) (u : Value)
        → slice_get e.items k ≡ Some u → is_known u ≡ false
        → (Apart k (new_places n a) → (d : Datum) × (slice_get ds n ≡ Some d)
        × (slice_get d.items k ≡ Some u))
        × (source_in (listed (with_cells n (new_places n a) s x).sources n) k
        ≡ put_at_places (new_places n a) made.next (source_in (listed x.sources n)) k)
    behind e there k u element unknown =
        let b = behind_at a n s x ds at_a at_x (at_s ∙ variables) e there k u element unknown in
        let d = old_there ds n new e there in (
          (λ apart. (
            d.0,
            d.1,
            ap (λ (z : Datum). slice_get z.items k)
                (sym (at_place ds n d.0 d.1)) ∙ b.0 apart,
          )),
          b.1 ∙ ap (λ (i : ℕ). put_at_places (new_places n a) i (source_in (listed x.sources n)) k)
              h.next,
        )

-- where all that is written is known
pub kept_known : (p : List Key) (f g : Frame) (c : Cells) (made : Made) (x : Emission)
    (steps : List Step) (n : ℕ) (a : VariableAssignment) (s : State)
    → a.state.frame.variables ≡ map datum_of f.variables.items
    → map datum_of g.variables.items ≡ slice_set (map datum_of f.variables.items) n
    (written_datum (unwrap_or (slice_get (map datum_of f.variables.items) n) (single (Known 0)))
    a.reach a.value)
    → map part_of g.parts.items ≡ map part_of f.parts.items → is_unknown n a ≡ false
    → IsKept p f c made x steps → IsKept p g c made (with_state s x) steps
kept_known p f g c made x steps n a s at_a variables parts known h = record {
  next = h.next;
  own = h.own;
  parts = h.parts;
  sources = subst (λ (es : List Datum). AreSourced es x.sources c.variables.items) (sym variables)
      (known_sourced ds n a.reach a.value x.sources c.variables.items sure unsure h.sources);
  waiting = subst (λ (ps : List Part). AreWaiting (keys_of made) x.bodies ps c.parts.items)
      (sym parts) h.waiting;
  steps_made = h.steps_made;
  later = h.later;
  keys = h.keys;
}
  where
    ds : List Datum
    ds = map datum_of f.variables.items

    all_so : (b : Bool) → not b ≡ false → b ≡ true
    all_so true e = refl
    all_so false e = absurd (cc)

    sure : a.reach.is_sure ≡ true → is_all_known a.value ≡ true
    sure is =
        all_so (is_all_known a.value) (sym (ap (λ (b : Bool). cond b (not (is_all_known a.value))
        (not (elements (variable_at a.state.frame n).dims == 0))) is) ∙ known)

    none : (vs : List CodeDatum) → elements (unwrap_or (slice_get (map datum_of vs) n)
        (single (Known 0))).dims ≡ 0 → (unwrap_or (slice_get (map datum_of vs) n)
        (single (Known 0))).items ≡ []
    none vs e = at vs n e
      where
        at : (vs : List CodeDatum) (i : ℕ) → elements (unwrap_or (slice_get (map datum_of vs) i)
            (single (Known 0))).dims ≡ 0 → (unwrap_or (slice_get (map datum_of vs) i)
            (single (Known 0))).items ≡ []
        at [] i e = absurd (omega (arith, e))
        at (v ∷ vs) zero e = no_items v e
        at (v ∷ vs) (suc i) e = at vs i e

    unsure : a.reach.is_sure ≡ false → (unwrap_or (slice_get ds n) (single (Known 0))).items ≡ []
    unsure is =
        let empty : (elements (variable_at a.state.frame n).dims == 0) ≡ true =
        all_so _ (sym (ap (λ (b : Bool). cond b (not (is_all_known a.value))
        (not (elements (variable_at a.state.frame n).dims == 0))) is) ∙ known) in
        none f.variables.items (ap (λ (vs : List Datum). elements
        (unwrap_or (slice_get vs n) (single (Known 0))).dims) (sym at_a)
        ∙ eqb-true (elements (variable_at a.state.frame n).dims) 0 empty)
