-- What the run of a template's body keeps is numbers of the field, where its values are known and
-- where they aren't.
use Rattle.std.proofs.Common.{◌≡◌, ℕ, zero, suc, ◌<◌, Bool, true, false, cond, List, [], ◌∷◌, map}
use Rattle.std.proofs.Common.{length, Option, Some, None, Ok, Err, subst, slice_get}
use Rattle.std.specs.Prelude.{nat_eq, ◌&&◌}
use Rattle.std.specs.List.{AllByRecursion}
use Rattle.gold_field.specs.declared.gold.TheConstants.{P}
use Rattle.cir_meaning.specs.Tried.{Where, Tried}
use Rattle.cir_meaning.specs.Places.{is_inside, numbers_from}
use Rattle.cir_meaning.specs.Arrays.{Datum, Whole, is_all_known}
use Rattle.cir_meaning.specs.Values.{Value, Known, Linear, Quadratic, Opaque, IsValue}
use Rattle.cir_meaning.specs.Frame.{SignalEntry, Part, ComponentEntry, State, Context, entry_at}
use Rattle.cir_meaning.specs.Frame.{uncounted}
use Rattle.cir_meaning.specs.Evaluate.{value_in}
use Rattle.cir_meaning.specs.RunValues.{Ran, Numbers, Store, index_out}
use Rattle.cir_meaning.specs.Run.{Failure, Wires, Table, RunPart, Run, settled, refusing}
use Rattle.cir_meaning.specs.Run.{settled_items, settled_store, store_of, wires_of, entry_wires}
use Rattle.cir_meaning.specs.Run.{own_signal, found_port, port_of, part_signal, component_signal}
use Rattle.cir_meaning.specs.Run.{known_numbers, known_value, environment, stepping, put_numbers}
use Rattle.cir_meaning.specs.Run.{put_wire, put_wires, put_ports, write_wires}
use Rattle.cir_meaning.proofs.Good.{OnGood, OnSome'}
use Rattle.cir_meaning.proofs.Rows.{all_map, all_set}
use Rattle.cir_meaning.proofs.DependingValues.{some_at}
use Rattle.cir_meaning.proofs.FineValues.{IsDatum, FineWorld, Fine, FineAnswer, FineContext}
use Rattle.cir_meaning.proofs.FineValues.{value_fine}
use Rattle.cir_meaning.proofs.SmallNumbers.{Small, SmallAll, SmallOption, SmallWires, Gives}
use Rattle.cir_meaning.proofs.SmallNumbers.{gives_ok, gives_stop, gives_if, zero_small}
use Rattle.cir_meaning.proofs.SmallNumbers.{SmallEnvironment}
use Rattle.cir_meaning.proofs.SmallSteps.{SmallCalls}

-- answers of a run
pub ran_ok : {A : Type 0} (Q : A → Type 0) (a : A) → Q a → OnGood {E = Failure} Q (Ok a)
unfolding OnGood
ran_ok Q a h = h

pub refusing_good : {A : Type 0} (Q : A → Type 0) (m : Tried A) → OnGood Q m
    → OnGood Q (refusing m)
unfolding OnGood
refusing_good Q (Ok a) h = h
refusing_good Q (Err e) h = tt

pub stepping_good : {A : Type 0} (Q : A → Type 0) (w : Where) (r : Run) (m : Ran A)
    → Gives (λ x. Q x.0) m → OnGood Q (stepping w r m)
unfolding OnGood Gives
stepping_good Q w r (Ok (a, u)) h = h
stepping_good Q w r (Err stop) h = tt

-- what is kept
abbrev pub AreSmall : Wires → Type 0
AreSmall wires = (n k : ℕ) → SmallOption (wires n k)

abbrev pub SmallTable : Table → Type 0
SmallTable t = AreSmall t.wires

pub record SmallPart (p : RunPart) : Type 0 where
  pub arguments : AllByRecursion IsDatum p.arguments
  pub before : FineWorld p.before
  pub ports : AreSmall p.ports
  pub inside : AllByRecursion SmallTable p.inside

pub record SmallRun (r : Run) : Type 0 where
  pub known : Fine r.known
  pub numbers : SmallAll r.numbers
  pub own : AreSmall r.own
  pub parts : AllByRecursion SmallPart r.parts

-- known values and numbers beside them
settled_small : (v : Value) (n : ℕ) → IsValue v → n < P → settled v n < P
settled_small (Known k) n v h = v
settled_small (Linear f) n v h = h
settled_small (Quadratic a b c) n v h = h
settled_small Opaque n v h = h

items_small : (vs : List Value) (ns : List ℕ) → AllByRecursion IsValue vs
    → AllByRecursion (λ n. n < P) ns → AllByRecursion (λ n. n < P) (settled_items vs ns)
items_small [] ns v h = tt
items_small (x ∷ xs) [] v h = (settled_small x 0 v.0 zero_small, items_small xs [] v.1 tt)
items_small (x ∷ xs) (n ∷ ns) v h = (settled_small x n v.0 h.0, items_small xs ns v.1 h.1)

settled_all : (ds : List Datum) (store : Store) → AllByRecursion IsDatum ds → SmallAll store
    → SmallAll (settled_store ds store)
settled_all [] store v h = tt
settled_all (d ∷ ds) [] v h = (items_small d.items [] v.0 tt, settled_all ds [] v.1 tt)
settled_all (d ∷ ds) (m ∷ ms) v h = (items_small d.items m.items v.0 h.0, settled_all ds ms v.1 h.1)

pub store_small : (s : State) (numbers : Store) → Fine s → SmallAll numbers
    → SmallAll (store_of s numbers)
store_small s numbers g h = settled_all s.frame.variables numbers g.0 h

pub put_small : (n : ℕ) (d : Numbers) (store : Store) → Small d → SmallAll store
    → SmallAll (put_numbers n d store)
put_small zero d [] g h = (g, tt)
put_small zero d (m ∷ ms) g h = (g, h.1)
put_small (suc n) d [] g h = ((zero_small, tt), put_small n d [] g tt)
put_small (suc n) d (m ∷ ms) g h = (h.0, put_small n d ms g h.1)

-- writes of signals
wire_put : (n place value : ℕ) (wires : Wires) → value < P → AreSmall wires
    → AreSmall (put_wire n place value wires)
wire_put n place value wires l h m k = at (nat_eq n m && nat_eq place k)
  where
    at : (b : Bool) → SmallOption (cond b (Some value) (wires m k))
    at true = l
    at false = h m k

wires_put : (n : ℕ) (places values : List ℕ) (wires : Wires) → AllByRecursion (λ n. n < P) values
    → AreSmall wires → AreSmall (put_wires n places values wires)
wires_put n [] values wires l h = h
wires_put n (place ∷ places) [] wires l h = h
wires_put n (place ∷ places) (value ∷ values) wires l h =
    wires_put n places values (put_wire n place value wires) l.1
    (wire_put n place value wires l.0 h)

ports_put : (n : ℕ) (places values : List ℕ) (o : Option RunPart) (parts : List RunPart) (j : ℕ)
    → AllByRecursion (λ n. n < P) values → OnSome' SmallPart o → AllByRecursion SmallPart parts
    → AllByRecursion SmallPart (put_ports n places values o parts j)
ports_put n places values None parts j l g h = h
ports_put n places values (Some p) parts j l g h =
    all_set SmallPart parts j (record p { ports = put_wires n places values p.ports }) h record {
      arguments = g.arguments;
      before = g.before;
      ports = wires_put n places values p.ports l g.ports;
      inside = g.inside;
    }

pub write_small : (part : Option ℕ) (n : ℕ) (places values : List ℕ) (r : Run)
    → AllByRecursion (λ n. n < P) values → SmallRun r
    → SmallRun (write_wires part n places values r)
write_small None n places values r l h = record {
  known = h.known;
  numbers = h.numbers;
  own = wires_put n places values r.own l h.own;
  parts = h.parts;
}
write_small (Some j) n places values r l h = record {
  known = h.known;
  numbers = h.numbers;
  own = h.own;
  parts = ports_put n places values (slice_get r.parts j) r.parts j l
      (some_at SmallPart r.parts j h.parts) h.parts;
}

-- what names mean
wired_all : (wires : Wires) (n : ℕ) (e : SignalEntry) → AreSmall wires
    → SmallWires (wires_of wires n e)
wired_all wires n e h =
    all_map SmallOption (wires n) (numbers_from 0 (length e.written)) (h n)

entry_small : (wires : Wires) (n : ℕ) (o : Option SignalEntry) → AreSmall wires
    → OnSome' SmallWires (entry_wires wires n o)
entry_small wires n None h = tt
entry_small wires n (Some e) h = wired_all wires n e h

port_small : (wires : Wires) (o : Option (ℕ × SignalEntry)) → AreSmall wires
    → Gives SmallWires (found_port wires o)
port_small wires None h = gives_stop SmallWires 0
port_small wires (Some (n, e)) h =
    gives_ok SmallWires (wires_of wires n e) (wired_all wires n e h)

ports_small : (name : List ℕ) (o : Option Part) (x : Option RunPart) → OnSome' SmallPart x
    → Gives SmallWires (port_of name o x)
ports_small name (Some p) (Some r) h = port_small r.ports _ h.ports
ports_small name (Some p) None h = gives_stop SmallWires 0
ports_small name None x h = gives_stop SmallWires 0

part_small : (s : State) (parts : List RunPart) (name : List ℕ) (o : Option ℕ)
    → AllByRecursion SmallPart parts → Gives SmallWires (part_signal s parts name o)
part_small s parts name None h = gives_stop SmallWires 0
part_small s parts name (Some j) h =
    ports_small name (slice_get s.frame.parts j) (slice_get parts j) (some_at SmallPart parts j h)

component_small : (s : State) (parts : List RunPart) (o : Option ComponentEntry)
    (indices name : List ℕ) → AllByRecursion SmallPart parts
    → Gives SmallWires (component_signal s parts o indices name)
component_small s parts None indices name h = gives_stop SmallWires 0
component_small s parts (Some c) indices name h =
    gives_if SmallWires (is_inside c.dims (map Some indices)) (part_signal s parts name _)
    (Err index_out) (part_small s parts name _ h) (gives_stop SmallWires index_out)

known_small : (x : Datum) → IsDatum x → OnSome' Small (known_numbers x)
known_small x h = at (is_all_known x)
  where
    at : (b : Bool)
        → OnSome' Small (cond b (Some record {
          dims = x.dims;
          items = settled_items x.items [];
        }) None)
    at true = items_small x.items [] h tt
    at false = tt

answer_small : (m : Tried (Datum × State)) → OnGood FineAnswer m → OnSome' Small (known_value m)
unfolding OnGood
answer_small (Ok (d, s)) h = known_small d h.0
answer_small (Err e) h = tt

some_is : {A : Type 0} (Q : A → Type 0) (o : Option A) (a : A) → OnSome' Q o → o ≡ Some a → Q a
some_is Q None a h e = cc
some_is Q (Some b) a h e = let same : b ≡ a = cc in subst Q same h

pub environment_small : (k : Context) → FineContext k → (w : Where)
    (call : ℕ → List Numbers → ℕ → Ran Numbers) → SmallCalls call → (s : State) (r : Run)
    → Fine s → SmallRun r → SmallEnvironment (environment k w call s r)
environment_small k fine w call calls s r g h = record {
  signal = λ n d. some_is SmallWires (own_signal s r.own n) d
      (entry_small r.own n (entry_at s.frame.signals n) h.own);
  part = λ n is name. component_small s r.parts (entry_at s.frame.components n) is name h.parts;
  known = λ e d. some_is Small (known_value (value_in k w true Whole e (uncounted s))) d
      (answer_small (value_in k w true Whole e (uncounted s))
      (value_fine k fine w true Whole e (uncounted s) g));
  call = calls;
}
