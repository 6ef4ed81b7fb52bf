-- What holds of the cells of a body while its steps are made: which have their numbers behind the
-- steps so far.
use Rattle.std.proofs.Common.{◌≡◌, ◌⊎◌, inl, inr, ℕ, zero, suc, ◌+◌, ◌<◌, ◌≤◌, Bool, true, false}
use Rattle.std.proofs.Common.{cond, List, [], ◌∷◌, ◌++◌, length, Some, refl, sym, ap, subst, ◌∙◌}
use Rattle.std.proofs.Common.{arith, slice_get}
use Rattle.std.specs.Prelude.{⊤, ◌||◌, flat_map, slice_index_or, unwrap_or}
use Rattle.std.specs.List.{AllByRecursion, list_any}
use Rattle.cir_meaning.specs.Places.{elements}
use Rattle.cir_meaning.specs.Frame.{SignalEntry, Signals, Part, Sizes, is_input, is_fed, is_written}
use Rattle.cir_meaning.specs.Frame.{entry_at, size_in}
use Rattle.cir_meaning.specs.Costs.{Cell as Read, Element, Wire}
use Rattle.cir_meaning.specs.Steps.{same_cell}
use Rattle.cir_meaning.specs.Run.{Wires, Table, RunPart}
use Rattle.cir_meaning.specs.RunBodies.{or_else, port_tables, table_wire}
use Rattle.cir_meaning.proofs.Rows.{all_append}
use Rattle.cir_meaning.proofs.GroupSizes.{Less}
use Rattle.cir_meaning.proofs.Weights.{cover_entries, cover_tables, cover_join, under}
use Rattle.cir_meaning.proofs.TableWires.{wire_none, wire_only, entry_covers}
use Rattle.cir_meaning.proofs.NumberPlaces.{Roomy, InGroup, in_group, group_once}
use Rattle.cir_steps.specs.Step.{Step, Source, Constant, Cell, listed}
use Rattle.cir_steps.specs.Emission.{Emission, known_in, cells_in, cells_of, each_once, tables_in}
use Rattle.cir_steps.specs.Written.{times, targets_of}
use Rattle.cir_steps.proofs.Counting.{times_more}
use Rattle.cir_steps.proofs.FreshSteps.{here_once}

-- cells of a list
abbrev pub In : ℕ → List ℕ → Type 0
In c cs = 1 ≤ times c cs

pub in_left : (c : ℕ) (xs ys : List ℕ) → In c xs → In c (xs ++ ys)
in_left c xs ys h =
    let all : times c (xs ++ ys) ≡ times c xs + times c ys = times_more c xs ys in omega arith

pub in_right : (c : ℕ) (xs ys : List ℕ) → In c ys → In c (xs ++ ys)
in_right c xs ys h =
    let all : times c (xs ++ ys) ≡ times c xs + times c ys = times_more c xs ys in omega arith

pub in_either : (c : ℕ) (xs ys : List ℕ) → In c (xs ++ ys) → In c xs ⊎ In c ys
in_either c xs ys h = at (times c xs) refl
  where
    at : (n : ℕ) → times c xs ≡ n → In c xs ⊎ In c ys
    at zero e =
        let all : times c (xs ++ ys) ≡ times c xs + times c ys = times_more c xs ys in
        inr (omega arith)
    at (suc n) e = inl (omega arith)

pub in_first : (c : ℕ) (cs : List ℕ) → In c (c ∷ cs)
in_first c cs = let all : times c (c ∷ cs) ≡ 1 + times c cs = here_once c cs in omega arith

pub in_rest : (c d : ℕ) (cs : List ℕ) → In c cs → In c (d ∷ cs)
in_rest c d cs h = omega arith

-- each step reads what is given, or what is there already
abbrev pub Behind : (ℕ → Type 0) → List ℕ → List Step → Type 0
Behind G before [] = ⊤
Behind G before (s ∷ ss) =
    AllByRecursion (λ c. G c ⊎ In c before) s.reads × Behind G (before ++ s.targets) ss

all_weaker : {A : Type 0} (P Q : A → Type 0) (xs : List A) → ((a : A) → P a → Q a)
    → AllByRecursion P xs → AllByRecursion Q xs
all_weaker P Q [] f h = tt
all_weaker P Q (x ∷ xs) f h = (f x h.0, all_weaker P Q xs f h.1)

pub behind_weaker : (G H : ℕ → Type 0) (before other : List ℕ) (ss : List Step)
    → ((c : ℕ) → G c ⊎ In c before → H c ⊎ In c other) → Behind G before ss → Behind H other ss
behind_weaker G H before other [] f h = tt
behind_weaker G H before other (s ∷ ss) f h = (
  all_weaker (λ c. G c ⊎ In c before) (λ c. H c ⊎ In c other) s.reads f h.0,
  behind_weaker G H (before ++ s.targets) (other ++ s.targets) ss more h.1,
)
  where
    put : (c : ℕ) → H c ⊎ In c other → H c ⊎ In c (other ++ s.targets)
    put c (inl g) = inl g
    put c (inr i) = inr (in_left c other s.targets i)

    in_it : (c : ℕ) → In c before ⊎ In c s.targets → H c ⊎ In c (other ++ s.targets)
    in_it c (inl i) = put c (f c (inr i))
    in_it c (inr i) = inr (in_right c other s.targets i)

    more : (c : ℕ) → G c ⊎ In c (before ++ s.targets) → H c ⊎ In c (other ++ s.targets)
    more c (inl g) = put c (f c (inl g))
    more c (inr i) = in_it c (in_either c before s.targets i)

pub behind_more : (G : ℕ → Type 0) (before : List ℕ) (xs ys : List Step) → Behind G before xs
    → Behind G (before ++ targets_of xs) ys → Behind G before (xs ++ ys)
behind_more G before [] ys h g =
    behind_weaker G G (before ++ []) before ys at g
  where
    or_none : (c : ℕ) → In c before ⊎ In c [] → In c before
    or_none c (inl i) = i
    or_none c (inr i) = absurd (omega arith)

    at : (c : ℕ) → G c ⊎ In c (before ++ []) → G c ⊎ In c before
    at c (inl i) = inl i
    at c (inr i) = inr (or_none c (in_either c before [] i))
behind_more G before (x ∷ xs) ys h g = (
  h.0,
  behind_more G (before ++ x.targets) xs ys h.1
      (behind_weaker G G (before ++ (x.targets ++ targets_of xs))
      ((before ++ x.targets) ++ targets_of xs) ys at g),
)
  where
    in_two : (c : ℕ) → In c x.targets ⊎ In c (targets_of xs)
        → In c ((before ++ x.targets) ++ targets_of xs)
    in_two c (inl i) =
        in_left c (before ++ x.targets) (targets_of xs) (in_right c before x.targets i)
    in_two c (inr i) = in_right c (before ++ x.targets) (targets_of xs) i

    in_one : (c : ℕ) → In c before ⊎ In c (x.targets ++ targets_of xs)
        → In c ((before ++ x.targets) ++ targets_of xs)
    in_one c (inl i) =
        in_left c (before ++ x.targets) (targets_of xs) (in_left c before x.targets i)
    in_one c (inr i) = in_two c (in_either c x.targets (targets_of xs) i)

    at : (c : ℕ) → G c ⊎ In c (before ++ (x.targets ++ targets_of xs))
        → G c ⊎ In c ((before ++ x.targets) ++ targets_of xs)
    at c (inl i) = inl i
    at c (inr i) = inr (in_one c (in_either c before (x.targets ++ targets_of xs) i))

pub targets_more : (c : ℕ) (xs ys : List Step)
    → times c (targets_of (xs ++ ys)) ≡ times c (targets_of xs) + times c (targets_of ys)
targets_more c [] ys = omega arith
targets_more c (x ∷ xs) ys =
    let rest : times c (targets_of (xs ++ ys))
    ≡ times c (targets_of xs) + times c (targets_of ys) = targets_more c xs ys in
    let all : times c (x.targets ++ targets_of (xs ++ ys))
    ≡ times c x.targets + times c (targets_of (xs ++ ys)) =
    times_more c x.targets (targets_of (xs ++ ys)) in
    let two : times c (x.targets ++ targets_of xs)
    ≡ times c x.targets + times c (targets_of xs) = times_more c x.targets (targets_of xs) in
    omega arith

-- the cells of a body's inputs are given
abbrev pub Given : Signals → Wires → ℕ → Type 0
Given signals own c =
    (n : ℕ) × (e : SignalEntry) × (entry_at signals n ≡ Some e) × (is_input e.direction ≡ true)
    × (p : ℕ) × (p < length e.written) × (own n p ≡ Some c)

-- a component: the cells of its inputs that are written, and, once all are, of its other signals
pub record PartHolds (done : List ℕ) (p : Part) (r : RunPart) (steps : List Step) : Type 0 where
  pub exact : (n : ℕ) (e : SignalEntry) → entry_at p.signals n ≡ Some e
      → length e.written ≡ elements e.dims
  pub ports : (n : ℕ) (e : SignalEntry) → entry_at p.signals n ≡ Some e → (i : ℕ)
      → i < length e.written → (c : ℕ) × (r.ports n i ≡ Some c)
      × (is_input e.direction ≡ true → slice_get e.written i ≡ Some true → In c done)
      × (is_input e.direction ≡ false → is_fed p.signals ≡ true → In c done)
      × (is_input e.direction ≡ false → In c (targets_of steps))
  pub body : Behind (Given p.signals r.ports) [] steps

pub record Holding (size : ℕ) (first : Sizes) (done : List ℕ) (signals : Signals)
    (parts : List Part) (sizes : Sizes) (own : Wires) (runs : List RunPart)
    (sources : List (List Source)) (bodies : List (List Step)) : Type 0 where
  pub sourced : (n i c : ℕ) → slice_index_or (listed sources n) i (Constant 0) ≡ Cell c → In c done
  pub exact : (n : ℕ) (e : SignalEntry) → entry_at signals n ≡ Some e
      → length e.written ≡ elements e.dims
  pub owned : (n : ℕ) (e : SignalEntry) → entry_at signals n ≡ Some e → (i : ℕ)
      → i < length e.written → (c : ℕ) × (own n i ≡ Some c)
      × (slice_get e.written i ≡ Some true → is_input e.direction ≡ false → In c done)
  pub part : (j : ℕ) (p : Part) → slice_get parts j ≡ Some p
      → (r : RunPart) × (slice_get runs j ≡ Some r) × (steps : List Step)
      × (slice_get bodies j ≡ Some steps) × PartHolds done p r steps
  pub runs_count : length runs ≡ length parts
  pub bodies_count : length bodies ≡ length parts
  pub covered : (m : ℕ)
      → cover_entries m signals + (cover_tables m (port_tables parts runs) + under size first m)
      ≡ under size sizes m

abbrev pub Holds : (size : ℕ) → (first : Sizes) → (done : List ℕ) → Emission → Type 0
Holds size first done x =
    Holding size first done (known_in x).frame.signals (known_in x).frame.parts
    (known_in x).world.sizes x.cells.own x.cells.parts x.sources x.bodies

-- more cells that are written
pub part_more : (done other : List ℕ) (p : Part) (r : RunPart) (steps : List Step)
    → ((c : ℕ) → In c done → In c other) → PartHolds done p r steps → PartHolds other p r steps
part_more done other p r steps f h = record {
  exact = h.exact;
  ports = λ n e there i less. (
    (h.ports n e there i less).0,
    (h.ports n e there i less).1,
    (λ input mark. f _ ((h.ports n e there i less).2 input mark)),
    (λ input fed. f _ ((h.ports n e there i less).3 input fed)),
    (h.ports n e there i less).4,
  );
  body = h.body;
}

pub holding_more : (size : ℕ) (first : Sizes) (done other : List ℕ) (signals : Signals)
    (parts : List Part) (sizes : Sizes) (own : Wires) (runs : List RunPart)
    (sources : List (List Source)) (bodies : List (List Step))
    → ((c : ℕ) → In c done → In c other)
    → Holding size first done signals parts sizes own runs sources bodies
    → Holding size first other signals parts sizes own runs sources bodies
holding_more size first done other signals parts sizes own runs sources bodies f h = record {
  sourced = λ n i c e. f c (h.sourced n i c e);
  exact = h.exact;
  owned = λ n e there i less. (
    (h.owned n e there i less).0,
    (h.owned n e there i less).1,
    (λ mark input. f _ ((h.owned n e there i less).2 mark input)),
  );
  part = λ j p there.
      let its : (r : RunPart) × (slice_get runs j ≡ Some r) × (steps : List Step)
      × (slice_get bodies j ≡ Some steps) × PartHolds done p r steps = h.part j p there in
      (its.0, its.1, its.2, its.3, part_more done other p its.0 its.2 f its.4);
  runs_count = h.runs_count;
  bodies_count = h.bodies_count;
  covered = h.covered;
}

-- a number is one signal's at most
pub under_one : (size : ℕ) (sizes : Sizes) (m : ℕ) → Roomy size sizes → under size sizes m ≤ 1
under_one size sizes m room = at (in_group size sizes m)
  where
    at : (under size sizes m ≡ 0) ⊎ InGroup size sizes m → under size sizes m ≤ 1
    at (inl e) = omega arith
    at (inr (g, i, less, is)) =
        let all : under size sizes m ≡ 1 =
        ap (under size sizes) is ∙ group_once size sizes g i room less in omega arith

pub roomy_less : (size : ℕ) (a b : Sizes) → Less a b → Roomy size b → Roomy size a
roomy_less size a b h room g =
    let less : size_in g a ≤ size_in g b = h g in
    let most : size_in g b < size = room g in omega arith

-- the cell of a signal's element stands in the tables
tables_more : (m : ℕ) (us vs : List Table) → cover_tables m us ≡ 0
    → table_wire (us ++ vs) m ≡ table_wire vs m
tables_more m [] vs h = refl
tables_more m (u ∷ us) vs h =
    let own : cover_entries m u.signals ≡ 0 = omega arith in
    ap (λ o. or_else o (table_wire (us ++ vs) m)) (wire_none m 0 u.signals u.wires own)
    ∙ tables_more m us vs (omega arith)

own_wire : (xs : Signals) (wires : Wires) (ts : List Table) (n i c : ℕ) (e : SignalEntry)
    → entry_at xs n ≡ Some e → i < length e.written → wires n i ≡ Some c
    → cover_entries (e.first + i) xs + cover_tables (e.first + i) ts ≤ 1
    → table_wire (record { signals = xs; wires = wires } ∷ ts) (e.first + i) ≡ Some c
own_wire xs wires ts n i c e there less is one =
    let number : 0 + n ≡ n = omega arith in
    ap (λ o. or_else o (table_wire ts (e.first + i)))
    (wire_only (e.first + i) 0 xs wires n e i there less refl (omega arith)
    ∙ ap (λ (k : ℕ). wires k i) number ∙ is)

port_wire : (ps : List Part) (rs : List RunPart) (j : ℕ) (p : Part) (r : RunPart)
    (n i c : ℕ) (e : SignalEntry)
    → slice_get ps j ≡ Some p → slice_get rs j ≡ Some r → entry_at p.signals n ≡ Some e
    → i < length e.written → r.ports n i ≡ Some c
    → cover_tables (e.first + i) (port_tables ps rs) ≤ 1
    → (1 ≤ cover_tables (e.first + i) (port_tables ps rs))
    × (table_wire (port_tables ps rs) (e.first + i) ≡ Some c)
port_wire [] rs j p r n i c e hp hr there less is one = cc
port_wire (q ∷ ps) [] j p r n i c e hp hr there less is one = cc
port_wire (q ∷ ps) (s ∷ rs) zero p r n i c e hp hr there less is one =
    let same_p : q ≡ p = cc in
    let same_r : s ≡ r = cc in
    let in_q : entry_at q.signals n ≡ Some e =
    ap (λ (a : Part). entry_at a.signals n) same_p ∙ there in
    let its : s.ports n i ≡ Some c = ap (λ (a : RunPart). a.ports n i) same_r ∙ is in
    let some : 1 ≤ cover_entries (e.first + i) q.signals =
    entry_covers (e.first + i) q.signals n e i in_q less refl in (
      omega arith,
      own_wire q.signals s.ports (s.inside ++ port_tables ps rs) n i c e in_q less its one,
    )
port_wire (q ∷ ps) (s ∷ rs) (suc j) p r n i c e hp hr there less is one =
    let join : cover_tables (e.first + i) (s.inside ++ port_tables ps rs)
    ≡ cover_tables (e.first + i) s.inside + cover_tables (e.first + i) (port_tables ps rs) =
    cover_join (e.first + i) s.inside (port_tables ps rs) in
    let rest : (1 ≤ cover_tables (e.first + i) (port_tables ps rs))
    × (table_wire (port_tables ps rs) (e.first + i) ≡ Some c) =
    port_wire ps rs j p r n i c e hp hr there less is (omega arith) in
    let some : 1 ≤ cover_tables (e.first + i) (port_tables ps rs) = rest.0 in (
      omega arith,
      ap (λ o. or_else o (table_wire (s.inside ++ port_tables ps rs) (e.first + i)))
          (wire_none (e.first + i) 0 q.signals s.ports (omega arith))
          ∙ tables_more (e.first + i) s.inside (port_tables ps rs) (omega arith) ∙ rest.1,
    )

-- an element that is written
written_there : (bs : List Bool) (i : ℕ) (b : Bool) → i < length bs
    → unwrap_or (slice_get bs i) b ≡ true → slice_get bs i ≡ Some true
written_there [] i b less h = absurd (omega arith)
written_there (x ∷ bs) zero b less h = ap (λ y. Some y) h
written_there (x ∷ bs) (suc i) b less h = written_there bs i b (omega arith) h

-- the tables have the cells of own signals and of signals of components
pub record IsTabled (x : Emission) : Type 0 where
  pub own : (n : ℕ) (e : SignalEntry) (i c : ℕ) → entry_at (known_in x).frame.signals n ≡ Some e
      → i < length e.written → x.cells.own n i ≡ Some c
      → table_wire (tables_in x) (e.first + i) ≡ Some c
  pub port : (j : ℕ) (p : Part) (r : RunPart) (n : ℕ) (e : SignalEntry) (i c : ℕ)
      → slice_get (known_in x).frame.parts j ≡ Some p → slice_get x.cells.parts j ≡ Some r
      → entry_at p.signals n ≡ Some e → i < length e.written → r.ports n i ≡ Some c
      → table_wire (tables_in x) (e.first + i) ≡ Some c

module _ (size : ℕ) (first : Sizes) (done : List ℕ) (x : Emission)
    (holds : Holds size first done x) (room : Roomy size (known_in x).world.sizes) where
  abbrev pub GivenIn : ℕ → Type 0
  GivenIn = Given (known_in x).frame.signals x.cells.own

  -- a signal's number whose cell may be read
  abbrev pub Ready : ℕ → Type 0
  Ready j = (c : ℕ) × (table_wire (tables_in x) j ≡ Some c) × (GivenIn c ⊎ In c done)

  few : (m : ℕ) → cover_entries m (known_in x).frame.signals
      + cover_tables m (port_tables (known_in x).frame.parts x.cells.parts) ≤ 1
  few m =
      let all : cover_entries m (known_in x).frame.signals
      + (cover_tables m (port_tables (known_in x).frame.parts x.cells.parts)
      + under size first m) ≡ under size (known_in x).world.sizes m = holds.covered m in
      let one : under size (known_in x).world.sizes m ≤ 1 =
      under_one size (known_in x).world.sizes m room in
      omega arith

  port_tabled : (j : ℕ) (p : Part) (r : RunPart) (n : ℕ) (e : SignalEntry) (i c : ℕ)
      → slice_get (known_in x).frame.parts j ≡ Some p → slice_get x.cells.parts j ≡ Some r
      → entry_at p.signals n ≡ Some e → i < length e.written → r.ports n i ≡ Some c
      → table_wire (tables_in x) (e.first + i) ≡ Some c
  port_tabled j p r n e i c at_j run there inside is =
      let most : cover_entries (e.first + i) (known_in x).frame.signals
      + cover_tables (e.first + i) (port_tables (known_in x).frame.parts x.cells.parts) ≤ 1 =
      few (e.first + i) in
      let found : (1 ≤ cover_tables (e.first + i)
      (port_tables (known_in x).frame.parts x.cells.parts))
      × (table_wire (port_tables (known_in x).frame.parts x.cells.parts) (e.first + i) ≡ Some c) =
      port_wire (known_in x).frame.parts x.cells.parts j p r n i c e at_j run there inside is
      (omega arith) in
      let some : 1 ≤ cover_tables (e.first + i)
      (port_tables (known_in x).frame.parts x.cells.parts) = found.0 in
      ap (λ o. or_else o (table_wire (port_tables (known_in x).frame.parts x.cells.parts)
      (e.first + i)))
      (wire_none (e.first + i) 0 (known_in x).frame.signals x.cells.own (omega arith)) ∙ found.1

  pub are_tabled : IsTabled x
  are_tabled = record {
    own = λ n e i c there inside is.
        own_wire (known_in x).frame.signals x.cells.own
        (port_tables (known_in x).frame.parts x.cells.parts) n i c e there inside is
        (few (e.first + i));
    port = port_tabled;
  }

  pub own_ready : (n : ℕ) (e : SignalEntry) → entry_at (known_in x).frame.signals n ≡ Some e
      → (i : ℕ) → i < elements e.dims → is_written e i ≡ true → Ready (e.first + i)
  own_ready n e there i less mark =
      let exact : length e.written ≡ elements e.dims = holds.exact n e there in
      let inside : i < length e.written = omega arith in
      let its : (c : ℕ) × (x.cells.own n i ≡ Some c)
      × (slice_get e.written i ≡ Some true → is_input e.direction ≡ false → In c done) =
      holds.owned n e there i inside in (
        its.0,
        own_wire (known_in x).frame.signals x.cells.own
            (port_tables (known_in x).frame.parts x.cells.parts) n i its.0 e there inside its.1
            (few (e.first + i)),
        at its.0 its.1 (its.2 (written_there e.written i true inside mark)) inside
            (is_input e.direction) refl,
      )
    where
      at : (c : ℕ) → x.cells.own n i ≡ Some c → (is_input e.direction ≡ false → In c done)
          → i < length e.written → (b : Bool) → is_input e.direction ≡ b
          → GivenIn c ⊎ In c done
      at c own go inside true input = inl (n, e, there, input, i, inside, own)
      at c own go inside false input = inr (go input)

  pub port_ready : (j : ℕ) (p : Part) → slice_get (known_in x).frame.parts j ≡ Some p → (n : ℕ)
      (e : SignalEntry) → entry_at p.signals n ≡ Some e
      → (is_input e.direction || is_fed p.signals) ≡ true → (i : ℕ) → i < elements e.dims
      → is_written e i ≡ true → Ready (e.first + i)
  port_ready j p at_j n e there may i less mark =
      let its : (r : RunPart) × (slice_get x.cells.parts j ≡ Some r) × (steps : List Step)
      × (slice_get x.bodies j ≡ Some steps) × PartHolds done p r steps = holds.part j p at_j in
      let exact : length e.written ≡ elements e.dims = its.4.exact n e there in
      let inside : i < length e.written = omega arith in
      let port : (c : ℕ) × (its.0.ports n i ≡ Some c)
      × (is_input e.direction ≡ true → slice_get e.written i ≡ Some true → In c done)
      × (is_input e.direction ≡ false → is_fed p.signals ≡ true → In c done)
      × (is_input e.direction ≡ false → In c (targets_of its.2)) =
      its.4.ports n e there i inside in
      let most : cover_entries (e.first + i) (known_in x).frame.signals
      + cover_tables (e.first + i) (port_tables (known_in x).frame.parts x.cells.parts) ≤ 1 =
      few (e.first + i) in
      let found : (1 ≤ cover_tables (e.first + i)
      (port_tables (known_in x).frame.parts x.cells.parts))
      × (table_wire (port_tables (known_in x).frame.parts x.cells.parts) (e.first + i)
      ≡ Some port.0) =
      port_wire (known_in x).frame.parts x.cells.parts j p its.0 n i port.0 e at_j its.1 there
      inside port.1 (omega arith) in
      let some : 1 ≤ cover_tables (e.first + i)
      (port_tables (known_in x).frame.parts x.cells.parts) = found.0 in (
        port.0,
        ap (λ o. or_else o (table_wire (port_tables (known_in x).frame.parts x.cells.parts)
            (e.first + i)))
            (wire_none (e.first + i) 0 (known_in x).frame.signals x.cells.own (omega arith))
            ∙ found.1,
        inr (at port.0 (is_input e.direction) refl may
            (λ input. port.2 input (written_there e.written i true inside mark)) port.3),
      )
    where
      at : (c : ℕ) (b : Bool) → is_input e.direction ≡ b → (b || is_fed p.signals) ≡ true
          → (is_input e.direction ≡ true → In c done)
          → (is_input e.direction ≡ false → is_fed p.signals ≡ true → In c done) → In c done
      at c true input either g h = g input
      at c false input either g h = h input either

  -- the cells that a step reads
  abbrev pub Readable : Read → Type 0
  Readable (Element n i) = ⊤
  Readable (Wire j) = Ready j

  cells_ready : (read : Read) → Readable read
      → AllByRecursion (λ c. GivenIn c ⊎ In c done) (cells_of x read)
  cells_ready (Element n i) h =
      at (slice_index_or (listed x.sources n) i (Constant 0)) refl
    where
      at : (s : Source) → slice_index_or (listed x.sources n) i (Constant 0) ≡ s
          → AllByRecursion (λ c. GivenIn c ⊎ In c done) (cells_in s)
      at (Constant k) e = tt
      at (Cell c) e = (inr (holds.sourced n i c e), tt)
  cells_ready (Wire j) h = (
    subst (λ o. GivenIn (unwrap_or o 0) ⊎ In (unwrap_or o 0) done) (sym h.1) h.2,
    tt,
  )

  once_ready : (reads : List Read) → AllByRecursion Readable reads
      → AllByRecursion Readable (each_once reads)
  once_ready [] h = tt
  once_ready (read ∷ reads) h = at (list_any (same_cell read) reads) (once_ready reads h.1)
    where
      at : (b : Bool) → AllByRecursion Readable (each_once reads)
          → AllByRecursion Readable (cond b (each_once reads) (read ∷ each_once reads))
      at true g = g
      at false g = (h.0, g)

  all_ready : (reads : List Read) → AllByRecursion Readable reads
      → AllByRecursion (λ c. GivenIn c ⊎ In c done) (flat_map (cells_of x) reads)
  all_ready [] h = tt
  all_ready (read ∷ reads) h =
      all_append (λ c. GivenIn c ⊎ In c done) (cells_of x read) (flat_map (cells_of x) reads)
      (cells_ready read h.0) (all_ready reads h.1)

  pub step_reads : (reads : List Read) → AllByRecursion Readable reads
      → AllByRecursion (λ c. GivenIn c ⊎ In c done) (flat_map (cells_of x) (each_once reads))
  step_reads reads h = all_ready (each_once reads) (once_ready reads h)
