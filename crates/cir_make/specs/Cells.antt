-- What the code's cells stand for.
use Rattle.std.specs.Prelude.{ℕ, ◌+◌, nat_lt, if◌then◌else◌, List, [], ◌∷◌, Option, Some}
use Rattle.std.specs.Prelude.{None, slice_get, ⊤}
use Rattle.std.specs.declared.vec.Vec.{Vec}
use Rattle.std.specs.declared.alloc.Global.{Global}
use Rattle.cir_meaning.specs.Costs.{Made as Key}
use Rattle.cir_meaning.specs.Run.{Wires}
use Rattle.cir_steps.specs.Step as S
use Rattle.cir_steps.specs.Step.{Step}
use Rattle.wit_circuit.specs.Coded.{IsCodeOfStep}
use Rattle.wit_circuit.specs.Whole.{IsStepOf}
use Rattle.wit_circuit.specs.declared.columns.MadeStep.{MadeStep}
use Rattle.cir_make.specs.declared.cells.Source.{Source}
use Rattle.cir_make.specs.declared.cells.Source.TheVariants as source
use Rattle.cir_make.specs.declared.cells.Run.{Run}

abbrev pub source_by : Source → S.Source
source_by (source.Constant k) = S.Constant k
source_by (source.Cell c) = S.Cell c

-- the cell of an element; where a signal has more than one row of cells, the first that has it
abbrev pub cell_in : List Run → (place : ℕ) → Option ℕ
cell_in [] k = None
cell_in (r ∷ rs) k = if nat_lt k r.count then Some (r.first + k) else cell_in rs k

abbrev pub cell_at : Option (Vec Run Global) → (place : ℕ) → Option ℕ
cell_at None k = None
cell_at (Some rows) k = cell_in rows.items k

abbrev pub wires_by : List (Vec Run Global) → Wires
wires_by rows n k = cell_at (slice_get rows n) k

-- with the place and the line of the step, and its code with the keys that there were
pub record IsMadeStep (keys : List Key) (s : Step) (m : MadeStep) : Type 0 where
  pub is : IsStepOf s m
  pub code : IsCodeOfStep keys s m.code

abbrev pub AreMade : (keys : List Key) → List Step → List MadeStep → Type 0
AreMade keys [] [] = ⊤
AreMade keys [] (m ∷ ms) = ⊥
AreMade keys (s ∷ ss) [] = ⊥
AreMade keys (s ∷ ss) (m ∷ ms) = IsMadeStep keys s m × AreMade keys ss ms
