-- What the run of a template's body keeps, and how its statements read: what the compile meaning
-- has here, and numbers beside it. A variable's element has its known value, or else a number; a
-- signal may have a number.
use Rattle.std.specs.Prelude.{zero, suc, ◌&&◌, ℕ, true, not, if◌then◌else◌, List, [], ◌∷◌, map}
use Rattle.std.specs.Prelude.{length, Option, Some, None, Result, Ok, Err, slice_get, slice_index}
use Rattle.std.specs.Prelude.{nat_eq, slice_set}
use Rattle.cir_meaning.specs.Tried.{Where, Refused, Tried}
use Rattle.cir_meaning.specs.Places.{is_inside, places_of, numbers_from}
use Rattle.cir_meaning.specs.Arrays.{Shaped, Datum, Whole, is_all_known, single}
use Rattle.cir_meaning.specs.Values.{Value, Known, Linear, Quadratic, Opaque}
use Rattle.cir_meaning.specs.Frame.{SignalEntry, Signals, Part, ComponentEntry, World, State}
use Rattle.cir_meaning.specs.Frame.{Context, is_inner, entry_at, uncounted}
use Rattle.cir_meaning.specs.Reading.{find_signal}
use Rattle.cir_meaning.specs.Evaluate.{value_in}
use Rattle.cir_meaning.specs.RunValues.{Ran, Numbers, Environment, Store, index_out, missing}

-- the compile meaning refuses, or a step stops, behind the log lines of earlier steps
pub data Failure : Type 0 where
  Rejected : Refused → Failure
  Stopped : (stop : ℕ) → Where → (log : List (List ℕ)) → Failure

abbrev pub RunTried : Type 0 → Type 0
RunTried A = Result A Failure

abbrev pub refusing : {A : Type 0} → Tried A → RunTried A
refusing (Ok a) = Ok a
refusing (Err e) = Err (Rejected e)

-- numbers of declared signals: by the number of the declaration and the place of the element
abbrev pub Wires : Type 0
Wires = ℕ → ℕ → Option ℕ

-- the signals of a body with their numbers
pub record Table : Type 0 where
  pub signals : Signals
  pub wires : Wires

-- a component: how it was created, and the numbers of its signals; before its body runs these are
-- its inputs, and behind it there are those of the components in it too
pub record RunPart : Type 0 where
  pub where_made : Where
  pub template : ℕ
  pub arguments : List Datum
  pub path : List ℕ
  pub before : World
  pub ports : Wires
  pub inside : List Table

-- `known` is what the compile meaning has here; a number of `numbers` counts where the element
-- isn't known
pub record Run : Type 0 where
  pub known : State
  pub numbers : Store
  pub own : Wires
  pub parts : List RunPart
  pub log : List (List ℕ)

-- an element that is known has its known number
abbrev pub settled : Value → ℕ → ℕ
settled (Known k) n = k
settled (Linear f) n = n
settled (Quadratic a b c) n = n
settled Opaque n = n

abbrev pub settled_items : List Value → List ℕ → List ℕ
settled_items [] ns = []
settled_items (v ∷ vs) [] = settled v 0 ∷ settled_items vs []
settled_items (v ∷ vs) (n ∷ ns) = settled v n ∷ settled_items vs ns

abbrev pub settled_store : List Datum → Store → Store
settled_store [] store = []
settled_store (d ∷ ds) [] =
    record { dims = d.dims; items = settled_items d.items [] } ∷ settled_store ds []
settled_store (d ∷ ds) (m ∷ ms) =
    record { dims = d.dims; items = settled_items d.items m.items } ∷ settled_store ds ms

abbrev pub store_of : State → Store → Store
store_of s numbers = settled_store s.frame.variables numbers

-- the numbers of a signal's elements
abbrev pub wires_of : Wires → ℕ → SignalEntry → Shaped (Option ℕ)
wires_of wires n e =
    record { dims = e.dims; items = map (wires n) (numbers_from 0 (length e.written)) }

abbrev pub entry_wires : Wires → ℕ → Option SignalEntry → Option (Shaped (Option ℕ))
entry_wires wires n None = None
entry_wires wires n (Some e) = Some (wires_of wires n e)

abbrev pub own_signal : State → Wires → ℕ → Option (Shaped (Option ℕ))
own_signal s wires n = entry_wires wires n (entry_at s.frame.signals n)

-- the input or output of this name of a part
abbrev pub found_port : Wires → Option (ℕ × SignalEntry) → Result (Shaped (Option ℕ)) ℕ
found_port wires None = Err missing
found_port wires (Some (n, e)) = Ok (wires_of wires n e)

abbrev pub port_of : List ℕ → Option Part → Option RunPart → Result (Shaped (Option ℕ)) ℕ
port_of name (Some p) (Some r) =
    found_port r.ports (find_signal (λ e. not (is_inner e.direction)) name 0 p.signals)
port_of name (Some p) None = Err missing
port_of name None r = Err missing

abbrev pub part_signal : State → List RunPart → List ℕ → Option ℕ → Result (Shaped (Option ℕ)) ℕ
part_signal s parts name None = Err missing
part_signal s parts name (Some j) = port_of name (slice_get s.frame.parts j) (slice_get parts j)

abbrev pub component_signal : State → List RunPart → Option ComponentEntry → List ℕ → List ℕ
    → Result (Shaped (Option ℕ)) ℕ
component_signal s parts None indices name = Err missing
component_signal s parts (Some c) indices name =
    if is_inside c.dims (map Some indices) then part_signal s parts name
    (entry_at c.parts (slice_index (places_of c.dims (map Some indices)) 0))
    else Err index_out

-- a call whose arguments are known where it stands has its value already
abbrev pub known_numbers : Datum → Option Numbers
known_numbers d =
    if is_all_known d then Some record { dims = d.dims; items = settled_items d.items [] } else None

abbrev pub known_value : Tried (Datum × State) → Option Numbers
known_value (Ok (d, s)) = known_numbers d
known_value (Err e) = None

-- what the statements of a template read. `s` tells which calls are known.
abbrev pub environment : Context → Where → (call : ℕ → List Numbers → ℕ → Ran Numbers) → State → Run
    → Environment
environment k w call s r = record {
  signal = own_signal s r.own;
  part = λ n indices name. component_signal s r.parts (entry_at s.frame.components n) indices name;
  known = λ e. known_value (value_in k w true Whole e (uncounted s));
  call = call;
}

-- a step begins with its units, and stops at its place
abbrev pub stepping : {A : Type 0} → Where → Run → Ran A → RunTried A
stepping w r (Ok (a, units)) = Ok a
stepping w r (Err stop) = Err (Stopped stop w r.log)

-- the numbers of a variable
abbrev pub put_numbers : ℕ → Numbers → Store → Store
put_numbers zero d [] = d ∷ []
put_numbers zero d (m ∷ ms) = d ∷ ms
put_numbers (suc n) d [] = single 0 ∷ put_numbers n d []
put_numbers (suc n) d (m ∷ ms) = m ∷ put_numbers n d ms

-- numbers at places of a signal
abbrev pub put_wire : (n place value : ℕ) → Wires → Wires
put_wire n place value wires m k = if nat_eq n m && nat_eq place k then Some value else wires m k

abbrev pub put_wires : ℕ → List ℕ → List ℕ → Wires → Wires
put_wires n [] values wires = wires
put_wires n (place ∷ places) [] wires = wires
put_wires n (place ∷ places) (value ∷ values) wires =
    put_wires n places values (put_wire n place value wires)

abbrev pub put_ports : ℕ → List ℕ → List ℕ → Option RunPart → List RunPart → ℕ → List RunPart
put_ports n places values None parts j = parts
put_ports n places values (Some p) parts j =
    slice_set parts j (record p { ports = put_wires n places values p.ports })

abbrev pub write_wires : Option ℕ → ℕ → List ℕ → List ℕ → Run → Run
write_wires None n places values r = record r { own = put_wires n places values r.own }
write_wires (Some j) n places values r =
    record r { parts = put_ports n places values (slice_get r.parts j) r.parts j }
