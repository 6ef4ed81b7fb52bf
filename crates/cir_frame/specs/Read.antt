-- What the code's sources stand for.
use Rattle.std.specs.Prelude.{◌≡◌, ℕ, Bool, is_some, List, Option, Some, None, Result, Ok, Err}
use Rattle.std.specs.Prelude.{slice_get}
use Rattle.std.proofs.Common.{Bor}
use Rattle.cir_arrays.specs.declared.arrays.Datum.{Datum as CodeDatum}
use Rattle.cir_frame.specs.declared.signal.SignalEntry.{SignalEntry}
use Rattle.cir_frame.specs.declared.reading.Source.{Source}
use Rattle.cir_frame.specs.declared.reading.Source.TheVariants as source
use Rattle.cir_frame.specs.declared.reading.Root.{Root as CodeRoot}
use Rattle.cir_frame.specs.declared.reading.Root.TheVariants as root
use Rattle.cir_arrays.specs.declared.stop.Fault.{Fault}
use Rattle.cir_arrays.specs.Stopped.{IsRefusal}
use Rattle.cir_arrays.specs.Shown.{datum_of}
use Rattle.cir_frame.specs.Shown.{signal_of, signals_of}
use Rattle.cir_ast.specs.declared.refusal.Kind.TheVariants.{UnknownIndex}
use Rattle.cir_meaning.specs.Tried.{Where, Tried, next, needed}
use Rattle.cir_meaning.specs.Places.{all_known}
use Rattle.cir_meaning.specs.Frame.{ComponentEntry}
use Rattle.cir_meaning.specs.Values.{Known}
use Rattle.cir_meaning.specs.Arrays.{Datum, Scalar, reach, single}
use Rattle.cir_meaning.specs.Reading.{Origin, Stored, Wired, Lost, Root, Named, Found, named_signal}
use Rattle.cir_meaning.specs.Reading.{part_in}

-- a variable that isn't there reads as 0
abbrev pub stored_of : Option (Bor CodeDatum) → Datum
stored_of None = single (Known 0)
stored_of (Some d) = datum_of d.now

abbrev pub origin_from : Source → Origin
origin_from (source.Stored d) = Stored (stored_of d)
origin_from (source.Wired may_read entry) = Wired may_read (signal_of entry.now)
origin_from source.Lost = Lost

abbrev pub root_of : CodeRoot → Root
root_of (root.Named m) = Named m
root_of (root.Found s) = Found (origin_from s)

-- the number of the signal that the meaning names
abbrev pub NamesSignal : Where → List ℕ → List (Option SignalEntry) → Result ℕ Fault → Type 0
NamesSignal w name signals (Ok n) =
    (e : SignalEntry) × (slice_get signals n ≡ Some (Some e)) ×
    (named_signal w name (signals_of signals) ≡ Ok (n, signal_of e))
NamesSignal w name signals (Err f) = IsRefusal f (named_signal w name (signals_of signals))

-- the part of a component that is found, which known indices mean
abbrev pub reached_part : Where → Bool → List (Option ℕ) → ComponentEntry → Tried (Option ℕ)
reached_part w shaded indices c =
    next (reach w shaded Scalar c.dims indices) (λ r. part_in w c r.places)

abbrev pub told_part : Where → Bool → List (Option ℕ) → ComponentEntry → Tried (Option ℕ)
told_part w shaded indices c =
    needed (is_some (all_known indices)) w UnknownIndex (reached_part w shaded indices c)
