-- What holds of a run between its statements: its numbers, its components, and that each assignment
-- with these numbers makes the equations equal.
use Rattle.std.proofs.Common.{◌≡◌, ℕ, Bool, true, false, not, ◌&&◌, nat_eq, List, [], length}
use Rattle.std.proofs.Common.{Option, Some, None, is_some, slice_get, Ok, Err, refl, sym, subst}
use Rattle.std.proofs.Common.{◌-◌, ◌∷◌, ◌+◌}
use Rattle.std.specs.List.{AllByRecursion}
use Rattle.cir_ast.specs.declared.refusal.Kind.TheVariants.{TooDeep}
use Rattle.cir_lc.specs.Number.{Assignment}
use Rattle.cir_meaning.specs.Tried.{Tried, refused}
use Rattle.cir_meaning.specs.Limits.{Counts}
use Rattle.cir_meaning.specs.Arrays.{Datum}
use Rattle.cir_meaning.specs.Source.{IsEqualAt}
use Rattle.cir_meaning.specs.Frame.{SignalEntry, Signals, Part, World, State, Maker, variable_at}
use Rattle.cir_meaning.specs.Frame.{entry_at, is_input, is_fed, Sizes}
use Rattle.cir_meaning.specs.RunValues.{Store, stored}
use Rattle.cir_meaning.specs.Run.{Wires, Table, RunPart, Run, store_of}
use Rattle.cir_meaning.proofs.FineValues.{IsDatum, FineWorld, Fine}
use Rattle.cir_meaning.proofs.KnownValues.{KnownStore}
use Rattle.cir_meaning.proofs.Same.{Same}
use Rattle.cir_meaning.proofs.Marking.{KeepsWires}
use Rattle.cir_meaning.proofs.GroupSizes.{Less, Fits}
use Rattle.cir_meaning.proofs.Weights.{cover_entries, cover_tables, under, Bounded}
use Rattle.cir_meaning.proofs.Holds.{PartAgrees, Full, Extends, MarksSame, Holds}

-- where a body begins: its world, and the room of a group
pub record Start : Type 0 where
  pub world : World
  pub size : ℕ

-- the equations that came since hold where those before do
abbrev pub Adds : Assignment → World → World → Type 0
Adds v before after =
    AllByRecursion (IsEqualAt v) before.equations → AllByRecursion (IsEqualAt v) after.equations

-- a component's body, as it was executed when it was created
abbrev pub made_of : Option Maker → RunPart → Tried (Signals × World)
made_of None q = refused q.where_made TooDeep
made_of (Some make) q = make q.where_made q.template q.arguments q.path q.before

abbrev pub world_of : World → Tried (Signals × World) → World
world_of before (Ok x) = x.1
world_of before (Err e) = before

abbrev pub Pays : Assignment → Option Maker → RunPart → Type 0
Pays v make q = Adds v q.before (world_of q.before (made_of make q))

-- numbers of its signals have no part in that
pub made_ports : (make : Option Maker) (q : RunPart) (wires : Wires) (inside : List Table)
    → made_of make (record q { ports = wires; inside = inside }) ≡ made_of make q
made_ports None q wires inside = refl
made_ports (Some make) q wires inside = refl

pub pays_ports : (v : Assignment) (make : Option Maker) (q : RunPart) (wires : Wires)
    (inside : List Table) → Pays v make q
    → Pays v make (record q { ports = wires; inside = inside })
pays_ports v make q wires inside h =
    subst (λ m. Adds v q.before (world_of q.before m)) (sym (made_ports make q wires inside)) h

pub ports_pay : (v : Assignment) (make : Option Maker) (q : RunPart) (wires : Wires)
    (inside : List Table) → Pays v make (record q { ports = wires; inside = inside })
    → Pays v make q
ports_pay v make q wires inside h =
    subst (λ m. Adds v q.before (world_of q.before m)) (made_ports make q wires inside) h

-- how often a number is a signal's of a component, as it was executed
abbrev pub part_weight : Option Maker → (size m : ℕ) → RunPart → ℕ
part_weight make size m q =
    under size (world_of q.before (made_of make q)).sizes m - under size q.before.sizes m

abbrev pub parts_weight : Option Maker → (size m : ℕ) → List RunPart → ℕ
parts_weight make size m [] = 0
parts_weight make size m (q ∷ qs) = part_weight make size m q + parts_weight make size m qs

-- a component's numbers are those of its signals and of those in it
abbrev pub PartWeighs : ℕ → Option Maker → Signals → List Table → RunPart → Type 0
PartWeighs size make signals inside q =
    Bounded (world_of q.before (made_of make q)).sizes → (m : ℕ)
    → cover_entries m signals + (cover_tables m inside + under size q.before.sizes m)
    ≡ under size (world_of q.before (made_of make q)).sizes m

-- and so are those of a body, with its components
abbrev pub Numbered : Option Maker → Start → Sizes → Signals → List RunPart → Type 0
Numbered make start sizes signals parts =
    Fits sizes
    × AllByRecursion (λ q. Less (world_of q.before (made_of make q)).sizes sizes) parts
    × (Bounded sizes → (m : ℕ)
    → cover_entries m signals
    + (parts_weight make start.size m parts + under start.size start.world.sizes m)
    ≡ under start.size sizes m)

-- the same signals, whatever is written of them
abbrev pub SameEntry : SignalEntry → SignalEntry → Type 0
SameEntry d e =
    (d.direction ≡ e.direction) × (d.first ≡ e.first) × (length d.written ≡ length e.written)

abbrev pub SameShapes : Signals → Signals → Type 0
SameShapes xs ys =
    (n : ℕ) (e : SignalEntry) → entry_at xs n ≡ Some e
    → (d : SignalEntry) × (entry_at ys n ≡ Some d) × SameEntry e d

-- its arguments are known, as they were when it was created
abbrev pub Begins : RunPart → Type 0
Begins q = KnownStore q.arguments × AllByRecursion IsDatum q.arguments × FineWorld q.before
    × Fits q.before.sizes

-- a component whose body has run, or is to run yet
pub record PartStands (size : ℕ) (make : Option Maker) (done : Bool) (p : Part)
    (q : RunPart) : Type 0 where
  pub signals : Signals
  pub after : World
  pub made : made_of make q ≡ Ok (signals, after)
  pub begins : Begins q
  pub shapes : SameShapes signals p.signals
  pub shapes_back : SameShapes p.signals signals
  pub inputs : (n : ℕ) (e : SignalEntry) → entry_at p.signals n ≡ Some e
      → is_input e.direction ≡ true
      → (k : ℕ) (b : Bool) → slice_get e.written k ≡ Some b → is_some (q.ports n k) ≡ b
  pub others : done ≡ false → (n k x : ℕ) → q.ports n k ≡ Some x
      → (e : SignalEntry) × (entry_at p.signals n ≡ Some e) × (is_input e.direction ≡ true)
  pub empty : done ≡ false → q.inside ≡ []
  pub outputs : done ≡ true → (n : ℕ) (e : SignalEntry) → entry_at p.signals n ≡ Some e
      → (k : ℕ) (b : Bool) → slice_get e.written k ≡ Some b → is_some (q.ports n k) ≡ true
  pub full : done ≡ true → AllByRecursion Full q.inside
  pub paid : done ≡ true → (v : Assignment) → PartAgrees v p q → Pays v make q
  pub weighs : done ≡ true → PartWeighs size make p.signals q.inside q

-- one component may be late: its inputs are written, but its body hasn't run
abbrev pub is_late : Option ℕ → ℕ → Bool
is_late None j = false
is_late (Some i) j = nat_eq i j

abbrev pub is_done : Option ℕ → ℕ → Part → Bool
is_done late j p = not (is_late late j) && is_fed p.signals

-- what the bodies that are to run will add
abbrev pub Debts : Option Maker → Option ℕ → Run → Assignment → Type 0
Debts make late r v =
    (j : ℕ) (p : Part) (q : RunPart) → slice_get r.known.frame.parts j ≡ Some p
    → slice_get r.parts j ≡ Some q → is_done late j p ≡ false → Pays v make q

pub record Stands (make : Option Maker) (given : Wires) (start : Start) (late : Option ℕ) (r : Run)
    : Type 0 where
  pub variables : (n : ℕ)
      → Same (Extends r) (variable_at r.known.frame n) (stored (store_of r.known r.numbers) n)
  pub own : MarksSame r.known.frame.signals r.own
  pub blank : (n : ℕ) → entry_at r.known.frame.signals n ≡ None → (p : ℕ) → r.own n p ≡ given n p
  pub kept : KeepsWires given r.own
  pub parts : (j : ℕ) (p : Part) → slice_get r.known.frame.parts j ≡ Some p
      → (q : RunPart) × (slice_get r.parts j ≡ Some q)
      × PartStands start.size make (is_done late j p) p q
  pub count : length r.parts ≡ length r.known.frame.parts
  pub fine : Fine r.known
  pub equations : (v : Assignment) → Extends r v → Debts make late r v
      → Adds v start.world r.known.world
  pub numbered : Numbered make start r.known.world.sizes r.known.frame.signals r.parts

-- between statements no component is late
pub holds_of : (make : Option Maker) (given : Wires) (start : Start) (r : Run)
    → Stands make given start None r → Holds r
holds_of make given start r h = record {
  variables = h.variables;
  own = h.own;
  parts = λ j p e.
      let there : (q : RunPart) × (slice_get r.parts j ≡ Some q)
      × PartStands start.size make (is_fed p.signals) p q = h.parts j p e in
      (there.0, there.1, record { inputs = there.2.inputs; outputs = there.2.outputs });
}

-- a state in which other variables and counts stand
abbrev pub changed : State → List Datum → (added counts : Counts) → State
changed s vs a c = record {
  frame = record (s.frame) { variables = vs; added = a };
  world = record (s.world) { counts = c };
}

-- where variables alone are new
pub stands_changed : (make : Option Maker) (given : Wires) (start : Start) (late : Option ℕ)
    (r : Run) (vs : List Datum) (a c : Counts) (numbers : Store)
    → Stands make given start late r → Fine (changed r.known vs a c)
    → ((n : ℕ) → Same (Extends r) (variable_at (changed r.known vs a c).frame n)
    (stored (store_of (changed r.known vs a c) numbers) n))
    → Stands make given start late (record r { known = changed r.known vs a c; numbers = numbers })
stands_changed make given start late r vs a c numbers h fine variables = record {
  variables = variables;
  own = h.own;
  blank = h.blank;
  kept = h.kept;
  parts = h.parts;
  count = h.count;
  fine = fine;
  equations = h.equations;
  numbered = h.numbered;
}
