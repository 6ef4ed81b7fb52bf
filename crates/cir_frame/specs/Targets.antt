-- What the code's targets stand for.
use Rattle.std.specs.Prelude.{◌≡◌, ℕ, List, not, Option, Some, Result, Ok, Err}
use Rattle.cir_arrays.specs.declared.reach.Part.{Part as CodePart}
use Rattle.cir_arrays.specs.declared.reach.Part.TheVariants as part
use Rattle.cir_arrays.specs.declared.stop.Fault.{Fault}
use Rattle.cir_frame.specs.declared.writing.Target.{Target as CodeTarget}
use Rattle.cir_arrays.specs.Stopped.{IsRefusal}
use Rattle.cir_arrays.specs.Reached.{IsReach}
use Rattle.cir_frame.specs.Shown.{frame_of}
use Rattle.cir_frame.specs.declared.frame.Frame.{Frame as CodeFrame}
use Rattle.cir_meaning.specs.Tried.{Where, Tried, next, needed, found}
use Rattle.cir_ast.specs.declared.refusal.Kind.TheVariants.{ReadBeforeWrite, SecondWrite}
use Rattle.cir_meaning.specs.Limits.{Counts}
use Rattle.cir_meaning.specs.Arrays.{Reach}
use Rattle.cir_meaning.specs.Frame.{SignalEntry, Part, Frame, World, State, is_written, put_at}
use Rattle.cir_meaning.specs.Frame.{entry_at}
use Rattle.cir_meaning.specs.Writing.{Target, signals_of, targeted, marked, input_of, write_element}

-- the first of the elements, and how many there are
abbrev pub run_of : CodePart → ℕ × ℕ
run_of (part.Known first count) = (first, count)
run_of part.Unknown = (0, 0)
run_of part.Outside = (0, 0)

-- the elements are the meaning's
abbrev pub target_by : CodeTarget → Reach → Target
target_by t m = record { part = t.part; number = t.number; reach = m }

pub record IsTarget (f : Frame) (indices : List (Option ℕ)) (t : CodeTarget) (x : Target)
    : Type 0 where
  pub same : x ≡ target_by t x.reach
  pub entry : SignalEntry
  pub there : entry_at (signals_of t.part f) t.number ≡ Some entry
  pub reach : IsReach entry.dims indices t.reach x.reach

abbrev pub Targets : Frame → List (Option ℕ) → Result CodeTarget Fault → Tried Target → Type 0
Targets f indices (Ok t) m = (x : Target) × (m ≡ Ok x) × IsTarget f indices t x
Targets f indices (Err fault) m = IsRefusal fault m

-- of a signal that is found
pub record IsTargeted (part : Option ℕ) (n : ℕ) (dims : List ℕ) (indices : List (Option ℕ))
    (t : CodeTarget) (x : Target) : Type 0 where
  pub same : x ≡ target_by t x.reach
  pub same_part : t.part ≡ part
  pub same_number : t.number ≡ n
  pub reach : IsReach dims indices t.reach x.reach

abbrev pub Targeted : Option ℕ → ℕ → List ℕ → List (Option ℕ) → Result CodeTarget Fault
    → Tried Target → Type 0
Targeted part n dims indices (Ok t) m =
    (x : Target) × (m ≡ Ok x) × IsTargeted part n dims indices t x
Targeted part n dims indices (Err fault) m = IsRefusal fault m

-- a declared signal of the body or of a part, as it is to be written
abbrev pub target_at : Where → Option ℕ → ℕ → List (Option ℕ) → Frame → Tried Target
target_at w part n indices f =
    next (found w ReadBeforeWrite (entry_at (signals_of part f) n))
    (λ e. targeted w part n e indices)

-- the input is found, and the meaning goes on with it
abbrev pub FindsInput : Where → ℕ → List (Option ℕ) → List ℕ → State
    → (Option ℕ → ℕ → SignalEntry → Tried (Target × State))
    → Result (Option ℕ × ℕ) Fault → Type 0
FindsInput w n indices name s go (Ok x) =
    (e : SignalEntry) × (entry_at (signals_of x.0 s.frame) x.1 ≡ Some e) ×
    (input_of w n indices name s go ≡ go x.0 x.1 e)
FindsInput w n indices name s go (Err f) = IsRefusal f (input_of w n indices name s go)

-- the number of the first element, and the state
abbrev pub written_by : CodeFrame → Counts → World → ℕ → ℕ × State
written_by f c w first = (first, record { frame = frame_of f c; world = w })

abbrev pub first_written : Where → Target → ℕ → State → Tried (ℕ × State)
first_written w t place s = next (write_element w t place s) (λ (e, after). Ok (e.first, after))

-- an element is written once: the number of the signal's first, and the signal
abbrev pub marked_once : Where → ℕ → SignalEntry → Tried (ℕ × SignalEntry)
marked_once w place e =
    needed (not (is_written e place)) w SecondWrite (Ok (e.first, marked e place))

-- and of a part
abbrev pub marked_inside : Where → (number place : ℕ) → Part → Tried (ℕ × Part)
marked_inside w number place p =
    next (found w ReadBeforeWrite (entry_at p.signals number)) (λ e. next (marked_once w place e)
    (λ (first, written). Ok (first, record p { signals = put_at number written p.signals })))
