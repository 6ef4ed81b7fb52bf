-- Where a step is made, what stands in the frame is what its sources have.
use Rattle.std.proofs.Common.{◌≡◌, ℕ, zero, suc, ◌+◌, Bool, true, false, cond, List, [], ◌∷◌}
use Rattle.std.proofs.Common.{length, map, drop, Option, Some, None, Result, Ok, Err, refl, sym, ap}
use Rattle.std.proofs.Common.{◌∙◌, arith, ◌<◌}
use Rattle.std.specs.Prelude.{slice_get, slice_index, unwrap_or, is_some, not, ◌==◌}
use Rattle.std.specs.List.{list_any}
use Rattle.wit_lower.specs.Homes.{Homes, Name, Variable, Signal, Port, Home, find, offset, slots_of}
use Rattle.std.proofs.lemmas.Option.{slice_get-get_or}
use Rattle.cir_lc.specs.Number.{signal}
use Rattle.cir_meaning.specs.Tried.{Where}
use Rattle.cir_meaning.specs.Limits.{is_too_large}
use Rattle.cir_meaning.specs.Places.{is_inside, places_of, numbers_from}
use Rattle.cir_meaning.specs.Arrays.{Shaped, Datum, single, item_at}
use Rattle.cir_meaning.specs.Values.{Value, Known, Linear, Quadratic, Opaque}
use Rattle.cir_meaning.specs.Costs.{Cost}
use Rattle.cir_meaning.specs.Frame.{SignalEntry, Part, ComponentEntry, State, Context, entry_at}
use Rattle.cir_meaning.specs.Frame.{variable_at, signal_item, is_inner}
use Rattle.cir_meaning.specs.Reading.{find_signal, told_signal, named_signal}
use Rattle.cir_meaning.specs.RunValues.{index_out}
use Rattle.cir_meaning.specs.Run.{Wires, RunPart, wires_of, entry_wires, found_port}
use Rattle.cir_meaning.specs.Run.{port_of as part_port, part_signal, component_signal}
use Rattle.cir_steps.specs.Step.{Source, Constant, sources_of, variable_sources, Work, LogPart}
use Rattle.cir_steps.specs.Step.{Step}
use Rattle.cir_steps.specs.RunSteps.{shaped_map}
use Rattle.cir_steps.specs.Emission.{Emission, known_in, step_of}
use Rattle.wit_lower.specs.Sources.{Input, Constant as Given, Sources, scope_of, input_of}
use Rattle.cir_emit.specs.Lowered.{source_input, cell_input, sourced, HasArray, IsLoaded}
use Rattle.cir_emit.proofs.Lists.{Mapped, get_mapped, map_long, from_long}
use Rattle.cir_emit.proofs.Values.{reading}
use Rattle.cir_emit.proofs.Reached.{one_place}
use Rattle.cir_emit.specs.Sourced.{IsThere, AreSized}
use Rattle.cir_emit.proofs.Outside.{dims_same, sized_agree}
use Rattle.cir_emit.proofs.Standing.{IsWired, IsStanding, all_dropped}

-- a variable's sources stand beside its values
pub record Beside (d : Datum) (s : Shaped Source) : Type 0 where
  pub others : List Source
  pub dims : s.dims ≡ d.dims
  pub items : s.items ≡ sources_of d.items others

pub sources_beside : (ds : List Datum) (xs : List (List Source)) (n : ℕ)
    → Beside (unwrap_or (slice_get ds n) (single (Known 0))) (sourced (variable_sources ds xs) n)
sources_beside [] xs n = record { others = []; dims = refl; items = refl }
sources_beside (d ∷ ds) [] zero = record { others = []; dims = refl; items = refl }
sources_beside (d ∷ ds) (x ∷ xs) zero = record { others = x; dims = refl; items = refl }
sources_beside (d ∷ ds) [] (suc n) = sources_beside ds [] n
sources_beside (d ∷ ds) (x ∷ xs) (suc n) = sources_beside ds xs n

-- the source of a value that is known is a constant
constant_source : (vs : List Value) (xs : List Source) (k v : ℕ) (s : Source)
    → slice_get (sources_of vs xs) k ≡ Some s → item_at vs k ≡ Known v → s ≡ Constant v
constant_source [] xs k v s e i = cc
constant_source (Known m ∷ vs) [] zero v s e i =
    let a : Constant m ≡ s = cc in let b : m ≡ v = cc in sym a ∙ ap Constant b
constant_source (Known m ∷ vs) (x ∷ xs) zero v s e i =
    let a : Constant m ≡ s = cc in let b : m ≡ v = cc in sym a ∙ ap Constant b
constant_source (Linear f ∷ vs) xs zero v s e i = cc
constant_source (Quadratic p q r ∷ vs) xs zero v s e i = cc
constant_source (Opaque ∷ vs) xs zero v s e i = cc
constant_source (u ∷ vs) [] (suc k) v s e i = constant_source vs [] k v s e i
constant_source (u ∷ vs) (x ∷ xs) (suc k) v s e i = constant_source vs xs k v s e i

constant_input : (i : Input) (v : ℕ) → source_input (Constant v) ≡ Some i → i ≡ Given v
constant_input i v e = let same : Given v ≡ i = cc in sym same

-- the elements of a signal that has so many are linear
wired_as : (e : SignalEntry) (dims : List ℕ) (a : Shaped (Option Input)) (wires : Wires) (n : ℕ)
    → a ≡ shaped_map cell_input (wires_of wires n e) → a.dims ≡ dims
    → length a.items ≡ slots_of dims → IsWired e dims
wired_as e dims a wires n is same count = record {
  dims_are = ap (λ d. d.dims) (sym is) ∙ same;
  unknown = λ k v l i. never k v (slice_get-get_or e.written k false (omega (
    arith,
    l,
    count,
    ap (λ d. length d.items) is,
    map_long cell_input (map (wires n) (numbers_from 0 (length e.written))),
    map_long (wires n) (numbers_from 0 (length e.written)),
    from_long 0 (length e.written),
  ))) i;
}
  where
    never : (k v : ℕ) {b : Bool} → slice_get e.written k ≡ Some b → signal_item e k ≡ Known v → ⊥
    never k v there i =
        let linear : Linear (signal (e.first + k)) ≡ Known v =
        sym (ap (λ o. cond (is_some o) (Linear (signal (e.first + k))) (Known 0)) there) ∙ i in cc

pub some_is : {A : Type 0} (a b : A) → Some a ≡ Some b → a ≡ b
some_is a b e = cc

pub ok_is : (a b : Shaped (Option ℕ)) → ◌≡◌ {A = Result (Shaped (Option ℕ)) ℕ} (Ok a) (Ok b) → a ≡ b
ok_is a b e = cc

pub told_is : (w : Where) (inner : Bool) (o : Option (ℕ × SignalEntry)) (y : ℕ × SignalEntry)
    → told_signal w inner o ≡ Ok y → o ≡ Some y
told_is w inner None y e = cc
told_is w inner (Some x) y e = let same : x ≡ y = cc in ap Some same

-- the array of a part's signal
part_is : (w : Where) (name : List ℕ) (p : Part) (r : Option RunPart) (y : ℕ × SignalEntry)
    (d : Shaped (Option ℕ)) → named_signal w name p.signals ≡ Ok y
    → part_port name (Some p) r ≡ Ok d → (wires : Wires) × (d ≡ wires_of wires y.0 y.1)
part_is w name p None y d ey e = cc
part_is w name p (Some r) y d ey e =
    let found : find_signal (λ e. not (is_inner e.direction)) name 0 p.signals ≡ Some y =
    told_is w _ (find_signal (λ e. not (is_inner e.direction)) name 0 p.signals) y ey in
    (r.ports, sym (ok_is (wires_of r.ports y.0 y.1) d (sym (ap (found_port r.ports) found) ∙ e)))

-- the state in which a statement is executed or scanned, by the one in which its step is made, `s`:
-- the same signals and components; and what is known in it is known of the step's variables
pub record IsFrom (x : Emission) (s f : State) (changed : List ℕ) (homes : Homes) : Type 0 where
  pub signals : s.frame.signals ≡ f.frame.signals
  pub components : s.frame.components ≡ f.frame.components
  pub parts : s.frame.parts ≡ f.frame.parts
  pub dims : (n : ℕ) → (variable_at f.frame n).dims ≡ (variable_at (known_in x).frame n).dims
  pub known : (n : ℕ) (h : Home) (i v : ℕ) → find (Variable n) homes ≡ Some h
      → i < slots_of h.dims → item_at (variable_at f.frame n).items i ≡ Known v
      → (list_any (λ m. m == n) changed ≡ false)
      × (item_at (variable_at (known_in x).frame n).items i ≡ Known v)

pub from_itself : (x : Emission) (homes : Homes) → IsFrom x (known_in x) (known_in x) [] homes
from_itself x homes = record {
  signals = refl;
  components = refl;
  parts = refl;
  dims = λ n. refl;
  known = λ n h i v e l known. (refl, known);
}

module _ (k : Context) (w : Where) (cost : Cost) (work : Work) (targets : List ℕ)
    (line : Option (List LogPart)) (x : Emission) (sources : Sources) (s f : State)
    (changed : List ℕ) (from : IsFrom x s f changed (scope_of sources).homes) where
  abbrev step : Step
  step = step_of k w s cost work targets line x

  abbrev homes : Homes
  homes = (scope_of sources).homes

  module _ (arrays : (y : Name) (h : Home) → find y homes ≡ Some h → HasArray step sources y h)
      (components : AreSized step sources.components)
      (runs : (j : ℕ) (p : Part) → slice_get s.frame.parts j ≡ Some p
      → (r : RunPart) × (slice_get x.cells.parts j ≡ Some r))
      (small : (y : Name) (h : Home) → find y homes ≡ Some h → is_too_large h.dims ≡ false) where
    abbrev There : Name → Type 0
    There = IsThere step sources.components

    agree : (n : ℕ) (c : ComponentEntry) → entry_at f.frame.components n ≡ Some c
        → (indices : List ℕ) → is_inside (sources.components n) (map Some indices)
        ≡ is_inside c.dims (map Some indices)
    agree n c ec =
        sized_agree k w cost work targets line x s sources.components components n c
        (ap (λ xs. entry_at xs n) from.components ∙ ec)

    pub same : (n : ℕ) (c : ComponentEntry) (indices : List ℕ)
        → entry_at f.frame.components n ≡ Some c
        → is_inside c.dims (map Some indices) ≡ true → length indices ≡ length c.dims
        → sources.components n ≡ c.dims
    same n c indices ec inside full =
        sym (dims_same c.dims (sources.components n) (λ js. sym (agree n c ec js)) indices full
        inside)

    pub part_told : (n : ℕ) (c : ComponentEntry) (indices name : List ℕ) (j : ℕ) (p : Part)
        → entry_at f.frame.components n ≡ Some c
        → is_inside c.dims (map Some indices) ≡ true → length indices ≡ length c.dims
        → entry_at c.parts (offset c.dims indices) ≡ Some j → slice_get f.frame.parts j ≡ Some p
        → step.names.part n indices name ≡ part_port name (Some p) (slice_get x.cells.parts j)
    part_told n c indices name j p ec inside full ej ep =
        let none : drop (length indices) c.dims ≡ [] =
        ap (λ i. drop i c.dims) full ∙ all_dropped c.dims in
        ap (λ xs. component_signal s x.cells.parts (entry_at xs n) indices name)
        from.components ∙ ap (λ o. component_signal s x.cells.parts o indices name) ec ∙
        ap (λ b. cond b (part_signal s x.cells.parts name
        (entry_at c.parts (slice_index (places_of c.dims (map Some indices)) 0))) (Err index_out))
        inside ∙
        ap (λ ps. part_signal s x.cells.parts name (entry_at c.parts (slice_index ps 0)))
        (one_place c.dims indices full none) ∙ ap (part_signal s x.cells.parts name) ej ∙
        ap (λ xs. part_port name (slice_get xs j) (slice_get x.cells.parts j)) from.parts ∙
        ap (λ o. part_port name o (slice_get x.cells.parts j)) ep

    variable_dims : (n : ℕ) (h : Home) → find (Variable n) homes ≡ Some h
        → (variable_at f.frame n).dims ≡ h.dims
    variable_dims n h e =
        let a : HasArray step sources (Variable n) h = arrays (Variable n) h e in
        from.dims n ∙ sym (sources_beside (known_in x).frame.variables x.sources n).dims ∙
        ap (λ d. d.dims) (sym a.is) ∙ a.dims

    constant_loaded : (n : ℕ) (h : Home) (i v : ℕ) → find (Variable n) homes ≡ Some h
        → item_at (variable_at (known_in x).frame n).items i ≡ Known v
        → IsLoaded sources (reading (Variable n) i)
        → input_of (Variable n) sources.list i ≡ Some (Given v)
    constant_loaded n h i v e known l =
        let a : HasArray step sources (Variable n) h = arrays (Variable n) h e in
        let b : Beside (variable_at (known_in x).frame n) (sourced step.variables n) =
        sources_beside (known_in x).frame.variables x.sources n in
        let m : Mapped source_input (sourced step.variables n).items i (Some l.input) =
        get_mapped source_input (sourced step.variables n).items i (Some l.input)
        (ap (λ d. slice_get d.items i) (sym a.is) ∙ a.each i l.input l.there) in
        let constant : m.item ≡ Constant v =
        constant_source (variable_at (known_in x).frame n).items b.others i v m.item
        (ap (λ xs. slice_get xs i) (sym b.items) ∙ m.there) known in
        l.there ∙
        ap Some (constant_input l.input v (sym (ap source_input constant) ∙ m.is))

    signal_wired : (n : ℕ) (h : Home) (e : SignalEntry) → find (Signal n) homes ≡ Some h
        → entry_at f.frame.signals n ≡ Some e → IsWired e h.dims
    signal_wired n h e found es =
        let a : HasArray step sources (Signal n) h = arrays (Signal n) h found in
        let there : Some (wires_of x.cells.own n e) ≡ Some a.is.0 =
        sym (ap (λ xs. entry_wires x.cells.own n (entry_at xs n)) from.signals ∙
        ap (entry_wires x.cells.own n) es) ∙ a.is.1 in
        let same : wires_of x.cells.own n e ≡ a.is.0 = some_is _ _ there in
        wired_as e h.dims a.array x.cells.own n
        (a.is.2 ∙ ap (shaped_map cell_input) (sym same)) a.dims a.count

    port_wired : (n : ℕ) (c : ComponentEntry) (indices name : List ℕ) (h : Home) (j : ℕ)
        (p : Part) (y : ℕ × SignalEntry) → entry_at f.frame.components n ≡ Some c
        → is_inside c.dims (map Some indices) ≡ true → length indices ≡ length c.dims
        → entry_at c.parts (offset c.dims indices) ≡ Some j
        → slice_get f.frame.parts j ≡ Some p → named_signal w name p.signals ≡ Ok y
        → find (Port n (offset c.dims indices) name) homes ≡ Some h → IsWired y.1 h.dims
    port_wired n c indices name h j p y ec inside full ej ep ey found =
        let a : HasArray step sources (Port n (offset c.dims indices) name) h =
        arrays (Port n (offset c.dims indices) name) h found in
        let dims : sources.components n ≡ c.dims = same n c indices ec inside full in
        let s1 : (d : Shaped (Option ℕ)) × (step.names.part n indices name ≡ Ok d)
        × (a.array ≡ shaped_map cell_input d) =
        a.is indices (ap (λ ds. is_inside ds (map Some indices)) dims ∙ inside)
        (full ∙ ap length (sym dims)) (ap (λ ds. offset ds indices) dims) in
        let port : part_port name (Some p) (slice_get x.cells.parts j) ≡ Ok s1.0 =
        sym (part_told n c indices name j p ec inside full ej ep) ∙ s1.1 in
        let r = part_is w name p (slice_get x.cells.parts j) y s1.0 ey port in
        wired_as y.1 h.dims a.array r.0 y.0 (s1.2 ∙ ap (shaped_map cell_input) r.1) a.dims a.count

    signal_told : (n : ℕ) (e : SignalEntry) → entry_at f.frame.signals n ≡ Some e
        → There (Signal n)
    signal_told n e es = (
      wires_of x.cells.own n e,
      ap (λ xs. entry_wires x.cells.own n (entry_at xs n)) from.signals ∙
          ap (entry_wires x.cells.own n) es,
    )

    port_told : (n : ℕ) (c : ComponentEntry) (indices name : List ℕ) (j : ℕ) (p : Part)
        (y : ℕ × SignalEntry) → entry_at f.frame.components n ≡ Some c
        → is_inside c.dims (map Some indices) ≡ true → length indices ≡ length c.dims
        → entry_at c.parts (offset c.dims indices) ≡ Some j
        → slice_get f.frame.parts j ≡ Some p → named_signal w name p.signals ≡ Ok y
        → There (Port n (offset c.dims indices) name)
    port_told n c indices name j p y ec inside full ej ep ey =
        let r : (r : RunPart) × (slice_get x.cells.parts j ≡ Some r) =
        runs j p (ap (λ ps. slice_get ps j) from.parts ∙ ep) in
        let found : find_signal (λ e. not (is_inner e.direction)) name 0 p.signals ≡ Some y =
        told_is w _ (find_signal (λ e. not (is_inner e.direction)) name 0 p.signals) y ey in (
          indices,
          agree n c ec indices ∙ inside,
          full ∙ ap length (sym (same n c indices ec inside full)),
          ap (λ ds. offset ds indices) (same n c indices ec inside full),
          wires_of r.0.ports y.0 y.1,
          part_told n c indices name j p ec inside full ej ep ∙
              ap (part_port name (Some p)) r.1 ∙ ap (found_port r.0.ports) found,
        )

    pub step_stands : IsStanding There w f sources changed homes
    step_stands = record {
      small = small;
      variable = variable_dims;
      known = λ n h i v e l known.
          let p = from.known n h i v e l known in
          (p.0, e, λ loaded. constant_loaded n h i v e p.1 loaded);
      signal = signal_wired;
      component = agree;
      port = port_wired;
      signal_there = signal_told;
      port_there = port_told;
    }
