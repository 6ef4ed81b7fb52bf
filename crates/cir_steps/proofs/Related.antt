-- A run and the cells that its steps have written: where the run has a number, the cell has it.
use Rattle.std.proofs.Common.{◌≡◌, inl, inr, ℕ, zero, suc, ◌+◌, ◌<◌, Bool, true, false, cond, List}
use Rattle.std.proofs.Common.{[], ◌∷◌, ◌++◌, map, length, Option, Some, None, Err, refl, sym, ap}
use Rattle.std.proofs.Common.{subst, ◌∙◌, slice_get, unwrap_or, arith}
use Rattle.std.specs.Prelude.{not, slice_index, slice_index_or}
use Rattle.cir_lc.specs.Number.{Assignment}
use Rattle.cir_meaning.specs.Tried.{Where}
use Rattle.cir_meaning.specs.Places.{numbers_from, is_inside, places_of}
use Rattle.cir_meaning.specs.Arrays.{Datum}
use Rattle.cir_meaning.specs.Values.{Value, Known, Linear, Quadratic, Opaque}
use Rattle.cir_meaning.specs.Frame.{SignalEntry, Signals, Part, ComponentEntry, State, Context}
use Rattle.cir_meaning.specs.Frame.{is_inner, entry_at, is_fed}
use Rattle.cir_meaning.specs.Reading.{find_signal}
use Rattle.cir_meaning.specs.RunValues.{Store, index_out, option_at}
use Rattle.cir_meaning.specs.Run.{Wires, Table, RunPart, Run, settled, settled_items, settled_store}
use Rattle.cir_meaning.specs.Run.{wires_of, entry_wires, found_port, port_of, part_signal}
use Rattle.cir_meaning.specs.Run.{component_signal, environment}
use Rattle.cir_meaning.specs.RunSimple.{Outcome, Runner}
use Rattle.cir_meaning.proofs.FineValues.{Fine}
use Rattle.cir_meaning.proofs.Settling.{Variable}
use Rattle.cir_steps.specs.Step.{Source, Constant, Cell, Step, source_of, sources_of}
use Rattle.cir_steps.specs.Step.{variable_sources, listed}
use Rattle.cir_steps.specs.RunSteps.{Cells, Calling, in_cell, from, shaped_map, signal_numbers}
use Rattle.cir_steps.specs.RunSteps.{part_numbers, environment_at, store_at, Progress, run_steps}
use Rattle.cir_steps.specs.Emission.{Emission}
use Rattle.cir_steps.specs.Running.{Wired, TablesWired}
use Rattle.cir_steps.proofs.Unless.{More, MoreOf, MoreFrom, Richer}
use Rattle.cir_steps.proofs.Alike.{Alike, Fresh, Grows}

-- signals
-- cells that are there stay
abbrev pub OwnGrows : Wires → Wires → Type 0
OwnGrows old new = (n k c : ℕ) → old n k ≡ Some c → new n k ≡ Some c

-- each element of a declared signal has a cell
abbrev pub HasCells : Signals → Wires → Type 0
HasCells signals own =
    (n : ℕ) (e : SignalEntry) (k : ℕ) → entry_at signals n ≡ Some e → k < length e.written
    → (c : ℕ) × (own n k ≡ Some c)

-- what may be read of a body's own signals
abbrev pub OwnRead : Cells → Signals → Wires → Wires → Type 0
OwnRead cells signals wires own =
    (n : ℕ) (e : SignalEntry) (k v : ℕ) → entry_at signals n ≡ Some e → k < length e.written
    → wires n k ≡ Some v → in_cell cells (own n k) ≡ Some v

pub own_read : (cells : Cells) (signals : Signals) (wires own final : Wires)
    → Wired cells wires final → HasCells signals own → OwnGrows own final
    → OwnRead cells signals wires own
own_read cells signals wires own final h made grows n e k v there less at =
    let its : (c : ℕ) × (own n k ≡ Some c) = made n e k there less in
    ap (in_cell cells) (its.1 ∙ sym (grows n k its.0 its.1)) ∙ h n k v at

in_cell_grows : (old new : Cells) → Grows old new → (o : Option ℕ) (v : ℕ)
    → in_cell old o ≡ Some v → in_cell new o ≡ Some v
in_cell_grows old new h None v e = cc
in_cell_grows old new h (Some c) v e = h c v e

pub wired_grows : (old new : Cells) (wires own : Wires) → Grows old new → Wired old wires own
    → Wired new wires own
wired_grows old new wires own h g n k v e = in_cell_grows old new h (own n k) v (g n k v e)

pub tables_grow : (old new : Cells) (ts us : List Table) → Grows old new → TablesWired old ts us
    → TablesWired new ts us
tables_grow old new [] [] h g = tt
tables_grow old new [] (u ∷ us) h g = absurd g
tables_grow old new (t ∷ ts) [] h g = absurd g
tables_grow old new (t ∷ ts) (u ∷ us) h g =
    (g.0, wired_grows old new t.wires u.wires h g.1, tables_grow old new ts us h g.2)

pub tables_more : (cells : Cells) (ts us vs ws : List Table) → TablesWired cells ts us
    → TablesWired cells vs ws → TablesWired cells (ts ++ vs) (us ++ ws)
tables_more cells [] [] vs ws h g = g
tables_more cells [] (u ∷ us) vs ws h g = absurd h
tables_more cells (t ∷ ts) [] vs ws h g = absurd h
tables_more cells (t ∷ ts) (u ∷ us) vs ws h g = (h.0, h.1, tables_more cells ts us vs ws h.2 g)

-- a source stands for a number
abbrev pub Gives : Cells → Source → ℕ → Type 0
Gives cells (Constant k) n = k ≡ n
Gives cells (Cell c) n = cells c ≡ Some n

abbrev pub items_at : Store → ℕ → List ℕ
items_at [] n = []
items_at (d ∷ ds) zero = d.items
items_at (d ∷ ds) (suc n) = items_at ds n

abbrev pub AllGive : Cells → List Source → List ℕ → Type 0
AllGive cells xs ns =
    (k : ℕ) → Gives cells (slice_index_or xs k (Constant 0)) (slice_index ns k)

abbrev pub Stored : Cells → Store → List (List Source) → Type 0
Stored cells numbers sources = (n : ℕ) → AllGive cells (listed sources n) (items_at numbers n)

pub gives_grows : (old new : Cells) → Grows old new → (x : Source) (n : ℕ) → Gives old x n
    → Gives new x n
gives_grows old new h (Constant k) n g = g
gives_grows old new h (Cell c) n g = h c n g

pub stored_grows : (old new : Cells) (numbers : Store) (sources : List (List Source))
    → Grows old new → Stored old numbers sources → Stored new numbers sources
stored_grows old new numbers sources h g n k = gives_grows old new h _ _ (g n k)

item_same : (cells : Cells) (v : Value) (x : Source) (n : ℕ) → Gives cells x n
    → from cells (source_of v x) ≡ settled v n
item_same cells v x n h = at v
  where
    is : (x : Source) → Gives cells x n → from cells x ≡ n
    is (Constant k) g = g
    is (Cell c) g = ap (λ o. unwrap_or o 0) g

    at : (v : Value) → from cells (source_of v x) ≡ settled v n
    at (Known k) = refl
    at (Linear f) = is x h
    at (Quadratic a b d) = is x h
    at Opaque = is x h

pub items_same : (cells : Cells) (vs : List Value) (xs : List Source) (ns : List ℕ)
    → AllGive cells xs ns → map (from cells) (sources_of vs xs) ≡ settled_items vs ns
items_same cells [] xs ns h = refl
items_same cells (v ∷ vs) [] [] h =
    ap (λ y. y ∷ map (from cells) (sources_of vs [])) (item_same cells v (Constant 0) 0 (h 0))
    ∙ ap (λ ys. settled v 0 ∷ ys) (items_same cells vs [] [] (λ k. h (suc k)))
items_same cells (v ∷ vs) [] (n ∷ ns) h =
    ap (λ y. y ∷ map (from cells) (sources_of vs [])) (item_same cells v (Constant 0) n (h 0))
    ∙ ap (λ ys. settled v n ∷ ys) (items_same cells vs [] ns (λ k. h (suc k)))
items_same cells (v ∷ vs) (x ∷ xs) [] h =
    ap (λ y. y ∷ map (from cells) (sources_of vs xs)) (item_same cells v x 0 (h 0))
    ∙ ap (λ ys. settled v 0 ∷ ys) (items_same cells vs xs [] (λ k. h (suc k)))
items_same cells (v ∷ vs) (x ∷ xs) (n ∷ ns) h =
    ap (λ y. y ∷ map (from cells) (sources_of vs xs)) (item_same cells v x n (h 0))
    ∙ ap (λ ys. settled v n ∷ ys) (items_same cells vs xs ns (λ k. h (suc k)))

pub stores_same : (cells : Cells) (ds : List Datum) (numbers : Store)
    (sources : List (List Source)) → Stored cells numbers sources
    → store_at cells (variable_sources ds sources) ≡ settled_store ds numbers
stores_same cells [] numbers sources h = refl
stores_same cells (d ∷ ds) [] [] h =
    ap (λ xs. record { dims = d.dims; items = xs } ∷ store_at cells (variable_sources ds []))
    (items_same cells d.items [] [] (h 0))
    ∙ ap (λ xs. record { dims = d.dims; items = settled_items d.items [] } ∷ xs)
    (stores_same cells ds [] [] (λ n. h (suc n)))
stores_same cells (d ∷ ds) (m ∷ ms) [] h =
    ap (λ xs. record { dims = d.dims; items = xs } ∷ store_at cells (variable_sources ds []))
    (items_same cells d.items [] m.items (h 0))
    ∙ ap (λ xs. record { dims = d.dims; items = settled_items d.items m.items } ∷ xs)
    (stores_same cells ds ms [] (λ n. h (suc n)))
stores_same cells (d ∷ ds) [] (y ∷ ys) h =
    ap (λ xs. record { dims = d.dims; items = xs } ∷ store_at cells (variable_sources ds ys))
    (items_same cells d.items y [] (h 0))
    ∙ ap (λ xs. record { dims = d.dims; items = settled_items d.items [] } ∷ xs)
    (stores_same cells ds [] ys (λ n. h (suc n)))
stores_same cells (d ∷ ds) (m ∷ ms) (y ∷ ys) h =
    ap (λ xs. record { dims = d.dims; items = xs } ∷ store_at cells (variable_sources ds ys))
    (items_same cells d.items y m.items (h 0))
    ∙ ap (λ xs. record { dims = d.dims; items = settled_items d.items m.items } ∷ xs)
    (stores_same cells ds ms ys (λ n. h (suc n)))

-- variables have their known numbers, and as many as elements; no assignment is looked at
abbrev pub Nowhere : Assignment → Type 0
Nowhere v = ⊥

abbrev pub Knows : List Datum → Store → Type 0
Knows ds numbers = (n : ℕ) → Variable Nowhere ds numbers n

module _ (call : Calling) (fuel : ℕ) (body : Runner) where
  -- a body that is to run, from numbers of its inputs on
  abbrev pub Ran : RunPart → Outcome → Progress → Type 0
  Ran x o p =
      Wired p.cells o.own x.ports × TablesWired p.cells o.inside x.inside × (p.log ≡ o.log)

  abbrev pub Runs : RunPart → List Step → Type 0
  Runs x steps =
      (given : Wires) (p : Progress) → p.cells 0 ≡ Some 1 → Wired p.cells given x.ports
      → Fresh steps p.cells
      → Alike (Ran x) (body x.where_made x.template x.arguments x.path x.before given p.log)
      (run_steps call fuel steps p)

  pub record PartRuns (cells : Cells) (done : Bool) (r x : RunPart) (steps : List Step) : Type 0
    where
      pub same : r ≡ record x { ports = r.ports; inside = r.inside }
      pub wired : Wired cells r.ports x.ports
      pub waits : done ≡ false → Runs x steps
      pub inside : done ≡ true → TablesWired cells r.inside x.inside

  pub record Found (cells : Cells) (done : Bool) (rs xs : List RunPart) (bs : List (List Step))
      (j : ℕ) : Type 0 where
    pub run : RunPart
    pub cast : RunPart
    pub steps : List Step
    pub run_there : slice_get rs j ≡ Some run
    pub cast_there : slice_get xs j ≡ Some cast
    pub steps_there : slice_get bs j ≡ Some steps
    pub runs : PartRuns cells done run cast steps

  -- `final` has the cells that all signals of the body will have
  pub record Related (ran : ℕ → Part → Bool) (final : Wires) (known : State)
      (numbers : Store) (wires : Wires)
      (rs : List RunPart) (lines : List (List ℕ)) (own : Wires) (sources : List (List Source))
      (xs : List RunPart) (bs : List (List Step)) (p : Progress) : Type 0 where
    pub zero : p.cells 0 ≡ Some 1
    pub wired : Wired p.cells wires final
    pub made : HasCells known.frame.signals own
    pub stored : Stored p.cells numbers sources
    pub told : Knows known.frame.variables numbers
    pub fine : Fine known
    pub parts : (j : ℕ) (part : Part) → slice_get known.frame.parts j ≡ Some part
        → Found p.cells (ran j part) rs xs bs j
    pub ports : (j : ℕ) (r : RunPart) → slice_get rs j ≡ Some r
        → (x : RunPart) × (slice_get xs j ≡ Some x) × Wired p.cells r.ports x.ports
    pub count : length known.frame.parts ≡ length rs
    pub casts : length rs ≡ length xs
    pub bodies : length xs ≡ length bs
    pub log : p.log ≡ lines

  -- besides what the compile meaning has; `ran` tells which components' bodies have run
  abbrev pub BesideAt : (ℕ → Part → Bool) → Wires → Run → Emission → Progress → Type 0
  BesideAt ran final r x p =
      Related ran final r.known r.numbers r.own r.parts r.log x.cells.own x.sources x.cells.parts
      x.bodies p

  abbrev pub Beside : Wires → Run → Emission → Progress → Type 0
  Beside final r x p = BesideAt (λ j part. is_fed part.signals) final r x p

-- what a step reads
items_more : (cells : Cells) (f g : ℕ → Option ℕ) (first count : ℕ)
    → ((j v : ℕ) → j < count → f (first + j) ≡ Some v → in_cell cells (g (first + j)) ≡ Some v)
    → (k v : ℕ) → option_at (map f (numbers_from first count)) k ≡ Some v
    → option_at (map (in_cell cells) (map g (numbers_from first count))) k ≡ Some v
items_more cells f g first zero h k v e = e
items_more cells f g first (suc count) h zero v e =
    let number : first + 0 ≡ first = omega arith in
    subst (λ (i : ℕ). f i ≡ Some v → in_cell cells (g i) ≡ Some v) number
    (h 0 v (omega arith)) e
items_more cells f g first (suc count) h (suc k) v e =
    items_more cells f g (first + 1) count (λ j w less.
    let number : first + suc j ≡ first + 1 + j = omega arith in
    subst (λ (i : ℕ). f i ≡ Some w → in_cell cells (g i) ≡ Some w) number
    (h (suc j) w (omega arith))) k v e

wires_more : (cells : Cells) (wires own : Wires) (n : ℕ) (e : SignalEntry)
    → ((k v : ℕ) → k < length e.written → wires n k ≡ Some v → in_cell cells (own n k) ≡ Some v)
    → More (wires_of wires n e) (shaped_map (in_cell cells) (wires_of own n e))
wires_more cells wires own n e h = (
  refl,
  items_more cells (wires n) (own n) 0 (length e.written) (λ j v less at.
      let number : 0 + j ≡ j = omega arith in
      subst (λ (i : ℕ). wires n i ≡ Some v → in_cell cells (own n i) ≡ Some v) (sym number)
      (h j v less) at),
)

entry_more : (cells : Cells) (wires own : Wires) (n : ℕ) (o : Option SignalEntry)
    → ((e : SignalEntry) (k v : ℕ) → o ≡ Some e → k < length e.written → wires n k ≡ Some v
    → in_cell cells (own n k) ≡ Some v)
    → MoreOf (entry_wires wires n o) (signal_numbers cells (entry_wires own n o))
entry_more cells wires own n None h = tt
entry_more cells wires own n (Some e) h = wires_more cells wires own n e (λ k v. h e k v refl)

found_more : (cells : Cells) (wires own : Wires) → Wired cells wires own
    → (o : Option (ℕ × SignalEntry))
    → MoreFrom (found_port wires o) (part_numbers cells (found_port own o))
found_more cells wires own h None = inl refl
found_more cells wires own h (Some (n, e)) =
    wires_more cells wires own n e (λ k v less. h n k v)

module _ (cells : Cells) (rs xs : List RunPart)
    (ports : (j : ℕ) (r : RunPart) → slice_get rs j ≡ Some r
    → (x : RunPart) × (slice_get xs j ≡ Some x) × Wired cells r.ports x.ports) where
  port_more : (name : List ℕ) (j : ℕ) (p : Option Part) (o : Option RunPart)
      → slice_get rs j ≡ o
      → MoreFrom (port_of name p o) (part_numbers cells (port_of name p (slice_get xs j)))
  port_more name j None o e = inl refl
  port_more name j (Some p) None e = inl refl
  port_more name j (Some p) (Some r) e =
      let there : (x : RunPart) × (slice_get xs j ≡ Some x) × Wired cells r.ports x.ports =
      ports j r e in
      subst (λ o. MoreFrom (port_of name (Some p) (Some r))
      (part_numbers cells (port_of name (Some p) o))) (sym there.1)
      (found_more cells r.ports there.0.ports there.2
      (find_signal (λ e. not (is_inner e.direction)) name 0 p.signals))

  part_more : (s : State) (name : List ℕ) (o : Option ℕ)
      → MoreFrom (part_signal s rs name o) (part_numbers cells (part_signal s xs name o))
  part_more s name None = inl refl
  part_more s name (Some j) =
      port_more name j (slice_get s.frame.parts j) (slice_get rs j) refl

  component_more : (s : State) (c : Option ComponentEntry) (indices name : List ℕ)
      → MoreFrom (component_signal s rs c indices name)
      (part_numbers cells (component_signal s xs c indices name))
  component_more s None indices name = inl refl
  component_more s (Some c) indices name = at (is_inside c.dims (map (λ i. Some i) indices))
    where
      place : Option ℕ
      place = entry_at c.parts
          (slice_index (places_of c.dims (map (λ i. Some i) indices)) 0)

      at : (b : Bool) → MoreFrom (cond b (part_signal s rs name place) (Err index_out))
          (part_numbers cells (cond b (part_signal s xs name place) (Err index_out)))
      at true = part_more s name place
      at false = inr refl

  pub richer : (k : Context) (w : Where) (call : Calling) (other : Calling) (s : State)
      (r x : Run) → r.parts ≡ rs → x.parts ≡ xs → OwnRead cells s.frame.signals r.own x.own
      → Richer (environment k w call s r) (environment_at call cells (environment k w other s x))
  richer k w call other s r x same_r same_x h = record {
    signal = λ n. entry_more cells r.own x.own n (entry_at s.frame.signals n) (λ e. h n e);
    part = λ n indices name.
        subst (λ a. MoreFrom (component_signal s a (entry_at s.frame.components n) indices name)
        (part_numbers cells (component_signal s x.parts (entry_at s.frame.components n) indices
        name))) (sym same_r)
        (subst (λ a. MoreFrom (component_signal s rs (entry_at s.frame.components n) indices name)
        (part_numbers cells (component_signal s a (entry_at s.frame.components n) indices name)))
        (sym same_x) (component_more s (entry_at s.frame.components n) indices name));
    known = λ e. refl;
    call = λ n ds u. refl;
  }
