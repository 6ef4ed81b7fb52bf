-- What a body and the program show of the emission of the body's steps.
use Rattle.std.specs.Prelude.{◌≡◌, ℕ, false, List, [], ◌∷◌, ◌++◌, map, Some, ⊤, slice_get}
use Rattle.std.specs.Prelude.{slice_index_or}
use Rattle.cir_meaning.specs.Arrays.{Datum, is_known}
use Rattle.cir_meaning.specs.Source.{Equation}
use Rattle.cir_meaning.specs.Values.{Value}
use Rattle.cir_meaning.specs.Costs.{Made as Key}
use Rattle.cir_meaning.specs.Frame as M
use Rattle.cir_meaning.specs.Frame.{is_fed}
use Rattle.cir_meaning.specs.Run.{Wires, RunPart}
use Rattle.cir_rules.specs.Shown.{made_of}
use Rattle.cir_arrays.specs.Shown.{datum_of}
use Rattle.cir_frame.specs.Shown.{part_of, state_of}
use Rattle.cir_frame.specs.declared.frame.Frame.{Frame}
use Rattle.cir_assign.specs.Leads.{IsListed}
use Rattle.cir_steps.specs.Emission.{Emission, Emitted, known_in}
use Rattle.cir_steps.specs.Step as S
use Rattle.cir_steps.specs.Step.{Step, listed}
use Rattle.cir_make.specs.declared.cells.Cells.{Cells}
use Rattle.cir_make.specs.declared.cells.PartCells.{PartCells}
use Rattle.cir_make.specs.declared.cells.VariableCells.{VariableCells}
use Rattle.cir_make.specs.declared.whole.Inside.{Inside}
use Rattle.cir_make.specs.declared.whole.Made.{Made}
use Rattle.cir_make.specs.declared.whole.Whole.{Whole}
use Rattle.cir_make.specs.Cells.{AreMade, source_by, wires_by}
use Rattle.cir_make.specs.Housed.{AreHomes}

abbrev pub keys_of : Made → List Key
keys_of m = map made_of m.keys.calls.items

-- components have the same cells; the other fields are the definition's alone
abbrev pub SameWires : Wires → Wires → Type 0
SameWires a b = (n k : ℕ) → a n k ≡ b n k

abbrev pub HavePorts : List RunPart → List PartCells → Type 0
HavePorts [] [] = ⊤
HavePorts [] (c ∷ cs) = ⊥
HavePorts (r ∷ rs) [] = ⊥
HavePorts (r ∷ rs) (c ∷ cs) =
    SameWires r.ports (wires_by c.ports.items) × AreHomes r.inside c.inside.items
    × HavePorts rs cs

-- the steps of a component wait while an input isn't written; once they are freed nothing is said
abbrev pub AreWaiting : List Key → List (List Step) → List M.Part → List PartCells → Type 0
AreWaiting keys [] [] [] = ⊤
AreWaiting keys (b ∷ bs) (d ∷ ds) (c ∷ cs) =
    (is_fed d.signals ≡ false → AreMade keys b c.steps.items)
    × AreWaiting keys bs ds cs
AreWaiting keys _ _ _ = ⊥

-- Where an element isn't known, it has its number from where the emission has it from. Nothing is
-- said of a variable that is lost: one that was declared where a condition isn't known, so that
-- nothing can name it.
abbrev pub source_in : List S.Source → (place : ℕ) → S.Source
source_in xs k = slice_index_or xs k (S.Constant 0)

pub record AreSourced (ds : List Datum) (xs : List (List S.Source)) (vs : List VariableCells)
    : Type 0 where
  pub each : (n : ℕ) (d : Datum) (v : VariableCells)
      → slice_get ds n ≡ Some d → slice_get vs n ≡ Some v → v.is_lost ≡ false → (k : ℕ) (u : Value)
      → slice_get d.items k ≡ Some u
      → is_known u ≡ false
      → source_in (listed xs n) k ≡ source_in (map source_by v.sources.items) k

-- All that doesn't depend on the world. At first there were some keys, and more come behind them.
pub record IsKept (first : List Key) (frame : Frame) (c : Cells) (made : Made) (x : Emission)
    (steps : List Step) : Type 0 where
  pub next : x.next ≡ made.next
  pub own : SameWires x.cells.own (wires_by c.signals.items)
  pub parts : HavePorts x.cells.parts c.parts.items
  pub sources : AreSourced (map datum_of frame.variables.items) x.sources c.variables.items
  pub waiting : AreWaiting (keys_of made) x.bodies (map part_of frame.parts.items) c.parts.items
  pub steps_made : AreMade (keys_of made) steps c.steps.items
  pub later : List Key
  pub keys : keys_of made ≡ first ++ later

-- what has cells in the emission has them in the code
pub record HaveCells (x : Emission) (c : Cells) : Type 0 where
  pub own : SameWires x.cells.own (wires_by c.signals.items)
  pub parts : HavePorts x.cells.parts c.parts.items

-- a frame with the same variables and components
pub record SameBody (f g : Frame) : Type 0 where
  pub variables : map datum_of g.variables.items ≡ map datum_of f.variables.items
  pub parts : map part_of g.parts.items ≡ map part_of f.parts.items

abbrev pub equations_in : Emission → List Equation
equations_in x = (known_in x).world.equations

-- the body's state is the emission's, with its steps so far
pub record Shows (first : List Key) (i : Inside) (w : Whole) (d : Emitted) : Type 0 where
  pub state : known_in d.state ≡ state_of i.frame w.world (equations_in d.state)
  pub are_listed : IsListed (equations_in d.state) w.world
  pub kept : IsKept first i.frame i.cells w.made d.state d.steps
