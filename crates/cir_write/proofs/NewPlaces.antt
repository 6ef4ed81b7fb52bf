-- Which of the elements that an assignment writes are new.
use Rattle.std.proofs.Common.{◌≡◌, ◌⊎◌, inl, inr, ℕ, zero, suc, ◌+◌, ◌<◌, Bool, true, false, cond}
use Rattle.std.proofs.Common.{List, [], ◌∷◌, ◌++◌, length, map, filter, Option, Some, None, refl}
use Rattle.std.proofs.Common.{sym, ap, ◌∙◌, slice_get, arith}
use Rattle.std.proofs.Common.{subst}
use Rattle.std.specs.Prelude.{not, unwrap_or}
use Rattle.std.proofs.lemmas.List.Elements.{filter-append}
use Rattle.cir_meaning.specs.Arrays.{Datum, forgotten, put_items, single}
use Rattle.cir_meaning.specs.Frame.{variable_at}
use Rattle.cir_meaning.specs.Limits.{is_too_large}
use Rattle.cir_meaning.specs.Places.{numbers_from}
use Rattle.cir_meaning.specs.Values.{Value, Known, Linear, Opaque, sum_of}
use Rattle.cir_meaning.specs.Writing.{VariableAssignment, write_variable, written_datum}
use Rattle.cir_meaning.proofs.Writing.{get_set}
use Rattle.cir_arrays.specs.Reached.{IsReach, is_sure}
use Rattle.cir_arrays.specs.Shown.{datum_of}
use Rattle.cir_arrays.specs.declared.arrays.Datum.{Datum as CodeDatum}
use Rattle.cir_arrays.specs.declared.arrays.Datum.TheVariants as code
use Rattle.cir_arrays.specs.declared.reach.Part.{Part}
use Rattle.cir_arrays.specs.declared.reach.Part.TheVariants as part
use Rattle.cir_arrays.specs.declared.reach.Reach.{Reach as CodeReach}
use Rattle.cir_arrays.proofs.PartsRead.{by_bool, nothing_made}
use Rattle.cir_arrays.proofs.Writes.{known_write}
use Rattle.cir_values.specs.Meant.{meant}
use Rattle.cir_values.specs.declared.value.Value.{Value as CodeValue}
use Rattle.cir_assign.specs.declared.growing.NewValue.{NewValue}
use Rattle.cir_assign.specs.declared.growing.NewValue.TheVariants as new
use Rattle.cir_assign.specs.Grows.{IsNew, IsWritten}
use Rattle.cir_assign.proofs.Added.{sum_is, sum_known, sum_stands}
use Rattle.cir_steps.specs.Making.{new_places, written_places}
use Rattle.cir_steps.proofs.Putting.{set_none}
use Rattle.cir_write.specs.Assigned.{is_new_in}
use Rattle.cir_write.proofs.Wires.{one_more}

-- ---- numbers that pass
-- one more is tried
pub filter_one : (test : ℕ → Bool) (first at : ℕ) (b : Bool) → test (first + at) ≡ b
    → filter test (numbers_from first (at + 1))
    ≡ filter test (numbers_from first at) ++ cond b ((first + at) ∷ []) []
filter_one test first at b is =
    ap (λ (l : List ℕ). filter test l) (one_more first at)
    ∙ filter-append test (numbers_from first at) ((first + at) ∷ [])
    ∙ ap (λ (c : Bool). filter test (numbers_from first at) ++ cond c ((first + at) ∷ []) []) is

filter_none : (test : ℕ → Bool) (xs : List ℕ) → ((k : ℕ) → test k ≡ false) → filter test xs ≡ []
filter_none test [] h = refl
filter_none test (x ∷ xs) h =
    ap (λ (b : Bool). cond b (x ∷ filter test xs) (filter test xs)) (h x) ∙ filter_none test xs h

filter_all : (test : ℕ → Bool) (first count : ℕ) → ((k : ℕ) → k < first + count → test k ≡ true)
    → filter test (numbers_from first count) ≡ numbers_from first count
filter_all test first zero h = refl
filter_all test first (suc count) h =
    let rest = numbers_from (first + 1) count in
    ap (λ (b : Bool). cond b (first ∷ filter test rest) (filter test rest))
    (h first (omega arith))
    ∙ ap (λ (l : List ℕ). first ∷ l)
    (filter_all test (first + 1) count (λ k less. h k (omega (arith, less))))

-- ---- the variable behind the assignment
known_zero : (k : ℕ) → is_new_in (Known 0 ∷ []) k ≡ false
known_zero zero = refl
known_zero (suc k) = refl

-- what isn't there has no new elements
pub new_none : (n : ℕ) (x : VariableAssignment) → slice_get x.state.frame.variables n ≡ None
    → new_places n x ≡ []
new_none n x h =
    let w = written_datum (variable_at x.state.frame n) x.reach x.value in
    ap (λ (o : Option Datum). filter (is_new_in (unwrap_or o (single (Known 0))).items)
    (written_places n x)) (set_none x.state.frame.variables n w h)
    ∙ filter_none (is_new_in (Known 0 ∷ [])) (written_places n x) known_zero

module _ (n : ℕ) (x : VariableAssignment) (d : Datum)
    (there : slice_get x.state.frame.variables n ≡ Some d) where
  at_first : variable_at x.state.frame n ≡ d
  at_first = ap (λ (o : Option Datum). unwrap_or o (single (Known 0))) there

  written : variable_at (write_variable n x).frame n ≡ written_datum d x.reach x.value
  written =
      let w = written_datum (variable_at x.state.frame n) x.reach x.value in
      ap (λ (o : Option Datum). unwrap_or o (single (Known 0)))
      (get_set x.state.frame.variables n d w there)
      ∙ ap (λ (z : Datum). written_datum z x.reach x.value) at_first

  -- those that it writes
  those : new_places n x
      ≡ filter (is_new_in (written_datum d x.reach x.value).items) (written_places n x)
  those = ap (λ (z : Datum). filter (is_new_in z.items) (written_places n x)) written

  opaque_at : (vs : List Value) (k : ℕ) → k < length vs
      → is_new_in (map (λ v. Opaque) vs) k ≡ true
  opaque_at [] k h = absurd (omega (arith, h))
  opaque_at (v ∷ vs) zero h = refl
  opaque_at (v ∷ vs) (suc k) h = opaque_at vs k (omega (arith, h))

  -- all, where it isn't known which are written
  pub new_all : x.reach.is_sure ≡ false → numbers_from 0 (length d.items) ≡ new_places n x
  new_all unsure_so = sym
      (those
      ∙ ap (λ (b : Bool). filter (is_new_in (cond b (record {
        dims = d.dims;
        items = put_items x.reach.places x.value.items d.items;
      }) (forgotten d)).items) (cond b x.reach.places
      (numbers_from 0 (length (variable_at x.state.frame n).items)))) unsure_so
      ∙ ap (λ (z : Datum). filter (is_new_in (map (λ v. Opaque) d.items))
      (numbers_from 0 (length z.items))) at_first
      ∙ filter_all (is_new_in (map (λ v. Opaque) d.items)) 0 (length d.items)
      (λ k less. opaque_at d.items k (omega (arith, less))))

  -- a sum with a linear number is new
  pub new_sum : (v : NewValue) (y : CodeValue) → v ≡ new.Added y → IsNew d v x.value
      → IsWritten v x.reach → numbers_from 0 (length d.items) ≡ new_places n x
  new_sum v y e h w =
      let s = sum_is v y d x.value e h in
      let at : (x.reach.is_sure ≡ true) × (x.reach.places ≡ 0 ∷ []) =
      subst (λ (u : NewValue). IsWritten u x.reach) e w in
      let z = sum_of (Linear s.0) (meant y) in
      ap (λ (o : Datum). numbers_from 0 (length o.items)) s.1
      ∙ sym (ap (λ (b : Bool). cond (not b) (0 ∷ []) []) (sum_known s.0 (meant y)))
      ∙ ap (λ (l : List ℕ). filter (is_new_in (z ∷ [])) l) (sym at.1)
      ∙ ap (λ (o : Datum). filter (is_new_in o.items) x.reach.places)
      (sym (sum_stands d x.value v x.reach y e h w ∙ s.2))
      ∙ ap (λ (b : Bool). filter (is_new_in (written_datum d x.reach x.value).items)
      (cond b x.reach.places (numbers_from 0 (length (variable_at x.state.frame n).items))))
      (sym at.0)
      ∙ sym those

-- ---- a part that is known
put_nowhere : (ks : List ℕ) (new : List Value) → put_items ks new [] ≡ []
put_nowhere [] new = refl
put_nowhere (k ∷ ks) [] = refl
put_nowhere (k ∷ ks) (v ∷ new) = put_nowhere ks new

-- an array that is too large has no items, also behind the assignment
none_put : (old : CodeDatum) (ks : List ℕ) (new : List Value) (k : ℕ)
    → is_too_large (datum_of old).dims ≡ true
    → is_new_in (put_items ks new (datum_of old).items) k ≡ false
none_put (code.Number v) ks new k h = absurd (cc)
none_put (code.Array a) ks new k h =
    ap (λ (l : List CodeValue). is_new_in (put_items ks new (map meant l)) k)
    (nothing_made a.dims.items a.items.items a.sized h)
    ∙ ap (λ (l : List Value). is_new_in l k) (put_nowhere ks new)

pub new_in_run : (n : ℕ) (x : VariableAssignment) (old : CodeDatum) (p : CodeReach)
    (indices : List (Option ℕ)) (first count : ℕ)
    → slice_get x.state.frame.variables n ≡ Some (datum_of old) → p.part ≡ part.Known first count
    → IsReach (datum_of old).dims indices p x.reach
    → filter (is_new_in (put_items (numbers_from first count) x.value.items (datum_of old).items))
    (numbers_from first count) ≡ new_places n x
new_in_run n x old p indices first count there known r =
    by_bool (is_too_large (datum_of old).dims) large small
    ∙ ap (λ (l : List Value). filter (is_new_in l) x.reach.places) is
    ∙ sym (ap (λ (b : Bool). filter (is_new_in (written_datum (datum_of old) x.reach x.value).items)
    (cond b x.reach.places (numbers_from 0 (length (variable_at x.state.frame n).items)))) sure)
    ∙ sym (those n x (datum_of old) there)
  where
    sure : x.reach.is_sure ≡ true
    sure = sym (rw known at r.sure)

    is : put_items (numbers_from first count) x.value.items (datum_of old).items
        ≡ (written_datum (datum_of old) x.reach x.value).items
    is =
        ap (λ (z : Datum). z.items) (known_write old x.value indices p first count x.reach known r)

    large : is_too_large (datum_of old).dims ≡ true
        → filter (is_new_in (put_items (numbers_from first count) x.value.items
        (datum_of old).items)) (numbers_from first count)
        ≡ filter (is_new_in (put_items (numbers_from first count) x.value.items
        (datum_of old).items)) x.reach.places
    large h =
        let none : (k : ℕ) → is_new_in (put_items (numbers_from first count) x.value.items
        (datum_of old).items) k ≡ false =
        λ k. none_put old (numbers_from first count) x.value.items k h in
        filter_none _ (numbers_from first count) none ∙ sym (filter_none _ x.reach.places none)

    small : is_too_large (datum_of old).dims ≡ false
        → filter (is_new_in (put_items (numbers_from first count) x.value.items
        (datum_of old).items)) (numbers_from first count)
        ≡ filter (is_new_in (put_items (numbers_from first count) x.value.items
        (datum_of old).items)) x.reach.places
    small h =
        ap (λ (l : List ℕ). filter (is_new_in (put_items (numbers_from first count) x.value.items
        (datum_of old).items)) l) (rw known at (r.places h))

pub unsure : (p : Part) → (p ≡ part.Unknown) ⊎ (p ≡ part.Outside) → is_sure p ≡ false
unsure p (inl e) = ap is_sure e
unsure p (inr e) = ap is_sure e
