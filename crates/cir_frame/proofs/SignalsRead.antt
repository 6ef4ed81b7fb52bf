-- What is read of the part of a signal that indices mean.
use Rattle.std.proofs.Common.{◌≡◌, ℕ, zero, suc, Option, Bool, true, false, List, [], ◌∷◌, ◌≤◌, ◌+◌}
use Rattle.std.proofs.Common.{◌<◌, ◌⊎◌, inl, inr, ◌&&◌, ◌||◌, Some, None, Bor, length, add_assoc}
use Rattle.std.proofs.Common.{ap, sym, ◌∙◌, refl, arith}
use Rattle.std.specs.Prelude.{◌^◌, ◌-◌, unwrap_or, option_map, option_copied, if◌then◌else◌, map}
use Rattle.std.specs.Prelude.{replicate}
use Rattle.cir_meaning.specs.Limits.{standing, is_too_large}
use Rattle.cir_meaning.specs.Places.{elements, is_inside, numbers_from}
use Rattle.cir_meaning.specs.Values.{Value, Known}
use Rattle.cir_meaning.specs.Arrays.{Datum, Reach, single, filled, item_at, read_part}
use Rattle.cir_meaning.specs.Reading.{is_readable}
use Rattle.cir_meaning.specs.Frame.{is_written, signal_item}
use Rattle.cir_arrays.specs.declared.arrays.Datum.{Datum as CodeDatum}
use Rattle.cir_frame.specs.declared.signal.SignalEntry.{SignalEntry}
use Rattle.cir_arrays.specs.declared.reach.Part.TheVariants as part
use Rattle.cir_arrays.specs.declared.reach.Reach.{Reach as CodeReach}
use Rattle.cir_arrays.specs.Reached.{IsReach}
use Rattle.cir_frame.specs.Read.{stored_of}
use Rattle.cir_arrays.specs.Shown.{datum_of}
use Rattle.cir_frame.specs.Shown.{signal_of}
use Rattle.std.specs.List.{list_all}
use Rattle.std.proofs.lemmas.Option.{slice_get_past}
use Rattle.cir_arrays.proofs.Lists.{stands, get_standing}
use Rattle.cir_arrays.proofs.PartsRead.{by_bool, nothing_made, few, same_items}

pub unwired : (e : SignalEntry) → is_too_large e.dims.items ≡ true → (k : ℕ)
    → signal_item (signal_of e) k ≡ Known 0
unwired e h k = rw (nothing_made e.dims.items e.written.items e.sized h) refl

pub few_marks : (e : SignalEntry) → length e.written.items ≤ 2 ^ 64 - 1
few_marks e = rw e.sized (few e.dims.items)

-- places that stand still
pub signal_standing : (e : SignalEntry) (n : ℕ)
    → signal_item (signal_of e) (standing n) ≡ signal_item (signal_of e) n
signal_standing e n = at (stands n)
  where
    at : (standing n ≡ n) ⊎ ((2 ^ 64 - 1 ≤ n) × (standing n ≡ 2 ^ 64 - 1))
        → signal_item (signal_of e) (standing n) ≡ signal_item (signal_of e) n
    at (inl same) = ap (signal_item (signal_of e)) same
    at (inr (far, same)) =
        let short = few_marks e in
        rw (
          slice_get_past e.written.items (standing n) (rw same short),
          slice_get_past e.written.items n (omega arith),
        ) refl

pub written_standing : (e : SignalEntry) (n : ℕ)
    → is_written (signal_of e) (standing n) ≡ is_written (signal_of e) n
written_standing e n = ap (λ o. unwrap_or o true) (get_standing e.written.items n (few_marks e))

-- a signal without marks needs no write
pub unmarked : (e : SignalEntry) → e.written.items ≡ [] → (ks : List ℕ)
    → true ≡ list_all (is_written (signal_of e)) ks
unmarked e h [] = refl
unmarked e h (k ∷ ks) = rw h (unmarked e h ks)

pub marks_more : (w : ℕ → Bool) (first k count : ℕ) → k < count
    → list_all w (numbers_from (first + k) (count - k))
    ≡ (w (first + k) && list_all w (numbers_from (first + (k + 1)) (count - (k + 1))))
marks_more w first k count h =
    let left : count - k ≡ suc (count - (k + 1)) = omega arith in
    rw (left, add_assoc first k 1) refl

-- a variable that isn't there
pub zero_read : (indices : List (Option ℕ)) (p : CodeReach) (first count : ℕ) (m : Reach)
    → p.part ≡ part.Known first count → IsReach [] indices p m
    → filled p.left.items (Known 0) ≡ read_part m (item_at (Known 0 ∷ []))
zero_read indices p first count m k r =
    let sure : m.is_sure ≡ true = sym (rw k at r.sure) in
    rw sure (ap (λ ds. filled ds (Known 0)) r.left ∙ ap made' items)
  where
    made' : List Value → Datum
    made' items = record { dims = m.left; items = items }

    zeros : (j : ℕ) → item_at (Known 0 ∷ []) j ≡ Known 0
    zeros zero = refl
    zeros (suc j) = refl

    many : length m.places ≡ elements m.left
    many = r.whole (sym (rw k at r.sure))

    items : (if is_too_large m.left then [] else replicate (elements m.left) (Known 0))
        ≡ (if is_too_large m.left then [] else map (item_at (Known 0 ∷ [])) m.places)
    items = ap (λ xs. if is_too_large m.left then [] else xs)
        (ap (λ n. replicate n (Known 0)) (sym many)
        ∙ sym (same_items (item_at (Known 0 ∷ [])) (Known 0) m.places zeros))

pub stored_is : (o : Option (Bor CodeDatum))
    → stored_of o ≡ unwrap_or (option_map datum_of (option_copied o)) (single (Known 0))
stored_is None = refl
stored_is (Some d) = refl

-- whether a part may be read
pub readable_outside : (may : Bool) (e : SignalEntry) (indices : List (Option ℕ)) (p : CodeReach)
    (m : Reach) → p.part ≡ part.Outside → IsReach e.dims.items indices p m
    → true ≡ is_readable may (signal_of e) indices m.places
readable_outside may e indices p m k r =
    let out : is_inside e.dims.items indices ≡ false = rw k at r.kind in
    let none : [] ≡ m.places = rw out at r.all in
    rw (out, ← none) (shown may)
  where
    shown : (b : Bool) → true ≡ ((b || true) && true)
    shown true = refl
    shown false = refl

pub readable_never : (may : Bool) (e : SignalEntry) (indices : List (Option ℕ)) (places : List ℕ)
    → is_inside e.dims.items indices ≡ true → may ≡ false
    → false ≡ is_readable may (signal_of e) indices places
readable_never may e indices places inside h = rw (inside, h) refl

pub readable_known : (may : Bool) (e : SignalEntry) (indices : List (Option ℕ)) (p : CodeReach)
    (first count : ℕ) (m : Reach) → p.part ≡ part.Known first count → may ≡ true
    → IsReach e.dims.items indices p m
    → list_all (is_written (signal_of e)) (numbers_from first count)
    ≡ is_readable may (signal_of e) indices m.places
readable_known may e indices p first count m k h r =
    rw h (by_bool (is_too_large e.dims.items) large small)
  where
    large : is_too_large e.dims.items ≡ true
        → list_all (is_written (signal_of e)) (numbers_from first count)
        ≡ list_all (is_written (signal_of e)) m.places
    large big =
        let none = nothing_made e.dims.items e.written.items e.sized big in
        sym (unmarked e none (numbers_from first count)) ∙ unmarked e none m.places

    small : is_too_large e.dims.items ≡ false
        → list_all (is_written (signal_of e)) (numbers_from first count)
        ≡ list_all (is_written (signal_of e)) m.places
    small fits = ap (list_all (is_written (signal_of e))) (rw k at (r.places fits))
