-- The cell that an element of a step has stands in the step's reads, where the element is counted
-- as read and the tables tell the cells of signals.
use Rattle.std.proofs.Common.{◌≡◌, ℕ, zero, suc, ◌+◌, ◌<◌, Bool, true, false, cond, List, [], ◌∷◌}
use Rattle.std.proofs.Common.{length, map, flat_map, Option, Some, None, Ok, refl, sym, ap, ap₂}
use Rattle.std.proofs.Common.{subst, ◌∙◌, arith}
use Rattle.std.specs.Prelude.{slice_get, slice_index_or, unwrap_or, not, ◌||◌}
use Rattle.std.specs.List.{AllByRecursion, list_any}
use Rattle.std.proofs.lemmas.Bool.{and_parts, eqb-true}
use Rattle.cir_meaning.specs.Tried.{Where}
use Rattle.cir_meaning.specs.Limits.{is_too_large}
use Rattle.cir_meaning.specs.Places.{is_inside, numbers_from}
use Rattle.cir_meaning.specs.Arrays.{Shaped, Datum, single, item_at, is_known}
use Rattle.cir_meaning.specs.Values.{Value, Known, Linear, Quadratic, Opaque}
use Rattle.cir_meaning.specs.Costs.{Cost, Cell as Read, Element, Wire}
use Rattle.cir_meaning.specs.Frame.{SignalEntry, Part, ComponentEntry, State, Context, entry_at}
use Rattle.cir_meaning.specs.Frame.{variable_at, is_inner}
use Rattle.cir_meaning.specs.Reading.{find_signal, named_signal}
use Rattle.cir_meaning.specs.Run.{Wires, RunPart, wires_of, entry_wires, found_port}
use Rattle.cir_meaning.specs.Run.{port_of as part_port}
use Rattle.cir_meaning.specs.RunBodies.{table_wire}
use Rattle.cir_meaning.specs.Steps.{same_cell}
use Rattle.cir_meaning.proofs.Holds.{found_entry}
use Rattle.cir_steps.specs.Step.{Source, Constant, Cell, sources_of, variable_sources, listed, Work}
use Rattle.cir_steps.specs.Step.{LogPart, Step}
use Rattle.cir_steps.specs.RunSteps.{shaped_map}
use Rattle.cir_steps.specs.Emission.{Emission, known_in, tables_in, cells_in, cells_of, each_once}
use Rattle.cir_steps.specs.Emission.{step_of}
use Rattle.cir_steps.proofs.ReadCells.{IsTabled}
use Rattle.wit_lower.specs.Homes.{Name, Variable, Signal, Port, Home, Homes, find, offset}
use Rattle.wit_lower.specs.Sources.{Input, Cell as CellInput, Sources, scope_of, input_of}
use Rattle.wit_lower.proofs.Listed.{In, in_front, in_back, in_one}
use Rattle.cir_emit.specs.Lowered.{source_input, cell_input, sourced, HasArray}
use Rattle.cir_emit.specs.Reads.{Reading}
use Rattle.cir_emit.specs.Sourced.{AreSized, IsThere}
use Rattle.cir_emit.proofs.Counted.{AreLed}
use Rattle.cir_emit.proofs.Emitted.{IsFrom, from_itself, some_is, ok_is, told_is, same, part_told}
use Rattle.cir_emit.proofs.Emitted.{step_stands}
use Rattle.cir_emit.proofs.Lists.{Mapped, get_mapped, all_weaker}
use Rattle.cir_emit.proofs.Standing.{IsStanding}
use Rattle.cir_emit.proofs.Values.{reading}

-- all of some cells are read
abbrev pub AreIn : (reads cells : List ℕ) → Type 0
AreIn reads cells = AllByRecursion (λ c. In c reads) cells

pub listed_in : (all cells : List ℕ) → ((c : ℕ) → In c cells → In c all) → AreIn all cells
listed_in all [] f = tt
listed_in all (c ∷ cells) f = (
  f c (in_front c (c ∷ []) cells (in_one c)),
  listed_in all cells (λ d i. f d (in_back d (c ∷ []) cells i)),
)

same_is : (c d : Read) → same_cell c d ≡ true → c ≡ d
same_is (Element n k) (Element m j) e =
    let parts = and_parts _ _ e in ap₂ Element (eqb-true n m parts.0) (eqb-true k j parts.1)
same_is (Element n k) (Wire j) e = cc
same_is (Wire k) (Element m j) e = cc
same_is (Wire k) (Wire j) e = ap Wire (eqb-true k j e)

same_told : (P : Read → Type 0) (c : Read) (cs : List Read) → list_any (same_cell c) cs ≡ true
    → AllByRecursion P cs → P c
same_told P c [] e h = cc
same_told P c (d ∷ cs) e h = at (same_cell c d) refl e (λ i. same_told P c cs i h.1)
  where
    at : (b : Bool) → same_cell c d ≡ b
        → (b || list_any (same_cell c) cs) ≡ true
        → (list_any (same_cell c) cs ≡ true → P c) → P c
    at true es i go = subst P (sym (same_is c d es)) h.0
    at false es i go = go i

-- what is read once is read
pub cells_counted : (x : Emission) (reads : List Read)
    → AllByRecursion (λ c. AreIn (flat_map (cells_of x) (each_once reads)) (cells_of x c)) reads
cells_counted x [] = tt
cells_counted x (c ∷ cs) = at (list_any (same_cell c) cs) refl (cells_counted x cs)
  where
    AreRead : List Read → Read → Type 0
    AreRead all d = AreIn (flat_map (cells_of x) all) (cells_of x d)

    at : (b : Bool) → list_any (same_cell c) cs ≡ b
        → AllByRecursion (AreRead (each_once cs)) cs
        → AllByRecursion (AreRead (cond b (each_once cs) (c ∷ each_once cs))) (c ∷ cs)
    at true e h = (same_told (AreRead (each_once cs)) c cs e h, h)
    at false e h = (
      listed_in _ (cells_of x c) (λ d i. in_front d (cells_of x c) _ i),
      all_weaker (AreRead (each_once cs)) (AreRead (c ∷ each_once cs)) cs (λ d i.
          all_weaker (λ n. In n (flat_map (cells_of x) (each_once cs))) _ (cells_of x d)
          (λ n j. in_back n (cells_of x c) (flat_map (cells_of x) (each_once cs)) j) i) h,
    )

-- an element of a variable that has a cell isn't known
source_cell : (vs : List Value) (xs : List Source) (k c : ℕ)
    → slice_get (sources_of vs xs) k ≡ Some (Cell c)
    → (is_known (item_at vs k) ≡ false) × (slice_index_or xs k (Constant 0) ≡ Cell c)
source_cell [] xs k c e = cc
source_cell (Known v ∷ vs) [] zero c e = cc
source_cell (Linear f ∷ vs) [] zero c e = cc
source_cell (Quadratic p q r ∷ vs) [] zero c e = cc
source_cell (Opaque ∷ vs) [] zero c e = cc
source_cell (Known v ∷ vs) (x ∷ xs) zero c e = cc
source_cell (Linear f ∷ vs) (x ∷ xs) zero c e = (refl, cc)
source_cell (Quadratic p q r ∷ vs) (x ∷ xs) zero c e = (refl, cc)
source_cell (Opaque ∷ vs) (x ∷ xs) zero c e = (refl, cc)
source_cell (v ∷ vs) [] (suc k) c e = source_cell vs [] k c e
source_cell (v ∷ vs) (x ∷ xs) (suc k) c e = source_cell vs xs k c e

sourced_cell : (ds : List Datum) (xs : List (List Source)) (n k c : ℕ)
    → slice_get (sourced (variable_sources ds xs) n).items k ≡ Some (Cell c)
    → (is_known (item_at (unwrap_or (slice_get ds n) (single (Known 0))).items k) ≡ false)
    × (slice_index_or (listed xs n) k (Constant 0) ≡ Cell c)
sourced_cell [] xs n zero c e = cc
sourced_cell [] xs n (suc k) c e = cc
sourced_cell (d ∷ ds) [] zero k c e = source_cell d.items [] k c e
sourced_cell (d ∷ ds) (x ∷ xs) zero k c e = source_cell d.items x k c e
sourced_cell (d ∷ ds) [] (suc n) k c e = sourced_cell ds [] n k c e
sourced_cell (d ∷ ds) (x ∷ xs) (suc n) k c e = sourced_cell ds xs n k c e

input_source : (s : Source) (c : ℕ) → source_input s ≡ Some (CellInput c) → s ≡ Cell c
input_source (Constant k) c e = cc
input_source (Cell d) c e = let is : d ≡ c = cc in ap Cell is

input_cell : (o : Option ℕ) (c : ℕ) → cell_input o ≡ Some (CellInput c) → o ≡ Some c
input_cell None c e = cc
input_cell (Some d) c e = let is : d ≡ c = cc in ap Some is

number_get : (a count k i : ℕ) → slice_get (numbers_from a count) k ≡ Some i
    → (i ≡ a + k) × (k < count)
number_get a zero k i e = cc
number_get a (suc count) zero i e = let is : a ≡ i = cc in (omega (arith, is), omega arith)
number_get a (suc count) (suc k) i e =
    let r : (i ≡ a + 1 + k) × (k < count) = number_get (a + 1) count k i e in
    (omega (arith, r.0), omega (arith, r.1))

-- the cell of an element of a signal
wired_cell : (wires : Wires) (n : ℕ) (e : SignalEntry) (a : Shaped (Option Input)) (p c : ℕ)
    → a ≡ shaped_map cell_input (wires_of wires n e)
    → slice_get a.items p ≡ Some (Some (CellInput c))
    → (p < length e.written) × (wires n p ≡ Some c)
wired_cell wires n e a p c is there =
    let m : Mapped cell_input (wires_of wires n e).items p (Some (CellInput c)) =
    get_mapped cell_input (wires_of wires n e).items p (Some (CellInput c))
    (ap (λ d. slice_get d.items p) (sym is) ∙ there) in
    let r : Mapped (wires n) (numbers_from 0 (length e.written)) p m.item =
    get_mapped (wires n) (numbers_from 0 (length e.written)) p m.item m.there in
    let i : (r.item ≡ 0 + p) × (p < length e.written) =
    number_get 0 (length e.written) p r.item r.there in
    let same : p ≡ r.item = omega (arith, i.0) in
    (i.1, ap (wires n) same ∙ r.is ∙ input_cell m.item c m.is)

port_is : (w : Where) (name : List ℕ) (p : Part) (r : RunPart) (y : ℕ × SignalEntry)
    (d : Shaped (Option ℕ)) → named_signal w name p.signals ≡ Ok y
    → part_port name (Some p) (Some r) ≡ Ok d
    → (d ≡ wires_of r.ports y.0 y.1) × (entry_at p.signals y.0 ≡ Some y.1)
port_is w name p r y d ey e =
    let found : find_signal (λ e. not (is_inner e.direction)) name 0 p.signals ≡ Some y =
    told_is w _ (find_signal (λ e. not (is_inner e.direction)) name 0 p.signals) y ey in
    let at : (i : ℕ) × (y.0 ≡ 0 + i) × (entry_at p.signals i ≡ Some y.1) =
    found_entry (λ e. not (is_inner e.direction)) name 0 p.signals y found in
    let number : at.0 ≡ y.0 = omega (arith, at.1) in (
      sym (ok_is (wires_of r.ports y.0 y.1) d (sym (ap (found_port r.ports) found) ∙ e)),
      subst (λ (i : ℕ). entry_at p.signals i ≡ Some y.1) number at.2,
    )

-- the cell that an element has, if it has one, is read
abbrev pub IsCellRead : Sources → (reads : List ℕ) → Reading → Type 0
IsCellRead sources reads r =
    (c : ℕ) → input_of r.name sources.list r.element ≡ Some (CellInput c) → In c reads

module _ (k : Context) (w : Where) (cost : Cost) (work : Work) (targets : List ℕ)
    (line : Option (List LogPart)) (x : Emission) (sources : Sources) (s f : State)
    (changed : List ℕ) (from : IsFrom x s f changed (scope_of sources).homes) where
  abbrev step : Step
  step = step_of k w s cost work targets line x

  abbrev homes : Homes
  homes = (scope_of sources).homes

  abbrev Gives : Name → (p c : ℕ) → Type 0
  Gives y p c = input_of y sources.list p ≡ Some (CellInput c)

  module _ (arrays : (y : Name) (h : Home) → find y homes ≡ Some h → HasArray step sources y h)
      (components : AreSized step sources.components)
      (runs : (j : ℕ) (p : Part) → slice_get s.frame.parts j ≡ Some p
      → (r : RunPart) × (slice_get x.cells.parts j ≡ Some r))
      (small : (y : Name) (h : Home) → find y homes ≡ Some h → is_too_large h.dims ≡ false)
      (signals_are : (known_in x).frame.signals ≡ f.frame.signals)
      (parts_are : (known_in x).frame.parts ≡ f.frame.parts) (tabled : IsTabled x) where
    stands : IsStanding (IsThere step sources.components) w f sources changed homes
    stands = step_stands k w cost work targets line x sources s f changed from arrays components
        runs small

    pub element_cell : (n : ℕ) (h : Home) (p c : ℕ) → find (Variable n) homes ≡ Some h
        → Gives (Variable n) p c
        → (is_known (item_at (variable_at (known_in x).frame n).items p) ≡ false)
        × (slice_index_or (listed x.sources n) p (Constant 0) ≡ Cell c)
    element_cell n h p c found given =
        let a : HasArray step sources (Variable n) h = arrays (Variable n) h found in
        let m : Mapped source_input (sourced step.variables n).items p (Some (CellInput c)) =
        get_mapped source_input (sourced step.variables n).items p (Some (CellInput c))
        (ap (λ d. slice_get d.items p) (sym a.is) ∙ a.each p (CellInput c) given) in
        sourced_cell (known_in x).frame.variables x.sources n p c
        (m.there ∙ ap Some (input_source m.item c m.is))

    signal_cell : (n : ℕ) (h : Home) (e : SignalEntry) (p c : ℕ) → find (Signal n) homes ≡ Some h
        → entry_at f.frame.signals n ≡ Some e → Gives (Signal n) p c
        → table_wire (tables_in x) (e.first + p) ≡ Some c
    signal_cell n h e p c found es given =
        let a : HasArray step sources (Signal n) h = arrays (Signal n) h found in
        let there : Some (wires_of x.cells.own n e) ≡ Some a.is.0 =
        sym (ap (λ xs. entry_wires x.cells.own n (entry_at xs n)) from.signals ∙
        ap (entry_wires x.cells.own n) es) ∙ a.is.1 in
        let is : wires_of x.cells.own n e ≡ a.is.0 = some_is _ _ there in
        let cell : (p < length e.written) × (x.cells.own n p ≡ Some c) =
        wired_cell x.cells.own n e a.array p c (a.is.2 ∙ ap (shaped_map cell_input) (sym is))
        (a.each p (CellInput c) given) in
        tabled.own n e p c (ap (λ xs. entry_at xs n) signals_are ∙ es) cell.0 cell.1

    port_cell : (n : ℕ) (z : ComponentEntry) (indices name : List ℕ) (h : Home) (j : ℕ) (p : Part)
        (y : ℕ × SignalEntry) (i c : ℕ) → entry_at f.frame.components n ≡ Some z
        → is_inside z.dims (map Some indices) ≡ true → length indices ≡ length z.dims
        → entry_at z.parts (offset z.dims indices) ≡ Some j
        → slice_get f.frame.parts j ≡ Some p → named_signal w name p.signals ≡ Ok y
        → find (Port n (offset z.dims indices) name) homes ≡ Some h
        → Gives (Port n (offset z.dims indices) name) i c
        → table_wire (tables_in x) (y.1.first + i) ≡ Some c
    port_cell n z indices name h j p y i c ec inside full ej ep ey found given =
        let a : HasArray step sources (Port n (offset z.dims indices) name) h =
        arrays (Port n (offset z.dims indices) name) h found in
        let dims : sources.components n ≡ z.dims =
        same k w cost work targets line x sources s f changed from arrays components runs small n z
        indices ec inside full in
        let s1 : (d : Shaped (Option ℕ)) × (step.names.part n indices name ≡ Ok d)
        × (a.array ≡ shaped_map cell_input d) =
        a.is indices (ap (λ ds. is_inside ds (map Some indices)) dims ∙ inside)
        (full ∙ ap length (sym dims)) (ap (λ ds. offset ds indices) dims) in
        let r : (r : RunPart) × (slice_get x.cells.parts j ≡ Some r) =
        runs j p (ap (λ ps. slice_get ps j) from.parts ∙ ep) in
        let port : part_port name (Some p) (Some r.0) ≡ Ok s1.0 =
        ap (part_port name (Some p)) (sym r.1) ∙
        sym (part_told k w cost work targets line x sources s f changed from arrays components runs
        small n z indices name j p ec inside full ej ep) ∙ s1.1 in
        let q : (s1.0 ≡ wires_of r.0.ports y.0 y.1) × (entry_at p.signals y.0 ≡ Some y.1) =
        port_is w name p r.0 y s1.0 ey port in
        let cell : (i < length y.1.written) × (r.0.ports y.0 i ≡ Some c) =
        wired_cell r.0.ports y.0 y.1 a.array i c (s1.2 ∙ ap (shaped_map cell_input) q.0)
        (a.each i (CellInput c) given) in
        tabled.port j p r.0 y.0 y.1 i c (ap (λ ps. slice_get ps j) parts_are ∙ ep) r.1 q.1 cell.0
        cell.1

    -- where what is counted of a signal tells that its cell is read, and what is counted of a
    -- variable is told
    pub cells_led : (reads : List ℕ) (C : Read → Type 0)
        → ((j : ℕ) → C (Wire j) → AreIn reads (cells_of x (Wire j)))
        → ((n : ℕ) (h : Home) (p : ℕ) → find (Variable n) homes ≡ Some h
        → (is_known (item_at (variable_at f.frame n).items p) ≡ false → C (Element n p))
        → IsCellRead sources reads (reading (Variable n) p))
        → AreLed w f homes C (IsCellRead sources reads)
    cells_led reads C wire element = record {
      variable = λ n h found. (stands.variable n h found, λ p told. element n h p found told);
      signal = λ n h e found es. (
        (stands.signal n h e found es).dims_are,
        (λ p told c given.
            at (e.first + p) c (signal_cell n h e p c found es given) (wire (e.first + p) told)),
      );
      port = λ n z indices name h j p y ec inside full ej ep ey found. (
        (stands.port n z indices name h j p y ec inside full ej ep ey found).dims_are,
        (λ i told c given.
            at (y.1.first + i) c
            (port_cell n z indices name h j p y i c ec inside full ej ep ey found given)
            (wire (y.1.first + i) told)),
      );
    }
      where
        at : (j c : ℕ) → table_wire (tables_in x) j ≡ Some c
            → AreIn reads (cells_of x (Wire j)) → In c reads
        at j c e h = subst (λ o. In (unwrap_or o 0) reads) e h.0

-- a step that is made in the state in which its expressions are evaluated
module _ (k : Context) (w : Where) (cost : Cost) (work : Work) (targets : List ℕ)
    (line : Option (List LogPart)) (x : Emission) (sources : Sources)
    (arrays : (y : Name) (h : Home) → find y (scope_of sources).homes ≡ Some h
    → HasArray (step_of k w (known_in x) cost work targets line x) sources y h)
    (components : AreSized (step_of k w (known_in x) cost work targets line x) sources.components)
    (runs : (j : ℕ) (p : Part) → slice_get (known_in x).frame.parts j ≡ Some p
    → (r : RunPart) × (slice_get x.cells.parts j ≡ Some r))
    (small : (y : Name) (h : Home) → find y (scope_of sources).homes ≡ Some h
    → is_too_large h.dims ≡ false) (tabled : IsTabled x) where
  abbrev reads : List ℕ
  reads = flat_map (cells_of x) (each_once cost.reads)

  abbrev pub IsRead : Read → Type 0
  IsRead c = AreIn reads (cells_of x c)

  pub all_read : AllByRecursion IsRead cost.reads
  all_read = cells_counted x cost.reads

  pub step_led : AreLed w (known_in x) (scope_of sources).homes IsRead (IsCellRead sources reads)
  step_led =
      cells_led k w cost work targets line x sources (known_in x) (known_in x) []
      (from_itself x (scope_of sources).homes) arrays components runs small refl refl tabled reads
      IsRead (λ j told. told) (λ n h p found told c given.
      let cell : (is_known (item_at (variable_at (known_in x).frame n).items p) ≡ false)
      × (slice_index_or (listed x.sources n) p (Constant 0) ≡ Cell c) =
      element_cell k w cost work targets line x sources (known_in x) (known_in x) []
      (from_itself x (scope_of sources).homes) arrays components runs small refl refl tabled n h p c
      found given in
      (subst (λ s. AreIn reads (cells_in s)) cell.1 (told cell.0)).0)
