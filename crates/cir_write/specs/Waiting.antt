-- The cells of what is written, and components whose steps wait for their inputs.
use Rattle.std.specs.Prelude.{◌≡◌, ℕ, Bool, false, List, [], ◌∷◌, ◌++◌, Option, Some, None, ⊤}
use Rattle.std.specs.Prelude.{slice_get, slice_set}
use Rattle.std.specs.declared.vec.Vec.{Vec}
use Rattle.std.specs.declared.alloc.Global.{Global}
use Rattle.cir_ast.specs.declared.program.Meant.{Meant}
use Rattle.cir_ast.specs.Tree.{Accessors, Assign, Expr}
use Rattle.cir_meaning.specs.Tried.{Where}
use Rattle.cir_meaning.specs.Costs.{Made as Key}
use Rattle.cir_meaning.specs.Frame.{Context, State, is_fed}
use Rattle.cir_meaning.specs.Writing.{SignalAssignment, signals_of}
use Rattle.cir_steps.specs.Emission.{Emission, known_in, with_state}
use Rattle.cir_steps.specs.Making.{freed_at, wiring}
use Rattle.cir_steps.specs.Step.{Step}
use Rattle.cir_make.specs.declared.cells.Cells.{Cells}
use Rattle.cir_make.specs.declared.cells.PartCells.{PartCells}
use Rattle.cir_make.specs.declared.cells.Run.{Run}
use Rattle.cir_make.specs.Cells.{AreMade}

abbrev pub rows_of : Option (Vec Run Global) → List Run
rows_of None = []
rows_of (Some rows) = rows.items

abbrev pub rows_in : List (Vec Run Global) → ℕ → List Run
rows_in signals n = rows_of (slice_get signals n)

abbrev pub part_rows : Option PartCells → ℕ → List Run
part_rows None n = []
part_rows (Some c) n = rows_in c.ports.items n

abbrev pub rows_at : Cells → (part : Option ℕ) → ℕ → List Run
rows_at c None n = rows_in c.signals.items n
rows_at c (Some j) n = part_rows (slice_get c.parts.items j) n

-- the steps of a write of signals; there are none where nothing is written
abbrev pub wired_at : Context → Where → Assign Meant → Accessors Meant → Expr Meant
    → SignalAssignment → State → List ℕ → Emission → List Step
wired_at k w written accessors e a s [] x = []
wired_at k w written accessors e a s (place ∷ places) x =
    (wiring k w written accessors e a x ∷ freed_at a.target.part
    (is_fed (signals_of a.target.part (known_in x).frame)) (with_state s x)) ++ []

abbrev pub wired_steps : Context → Where → Assign Meant → Accessors Meant → Expr Meant
    → SignalAssignment → State → Emission → List Step
wired_steps k w written accessors e a s x =
    wired_at k w written accessors e a s a.target.reach.places x

-- where the component wasn't fed, its steps were made
abbrev pub WasMade : List Key → Option ℕ → (was_fed : Bool) → Emission → Cells → Type 0
WasMade keys None was_fed x cells = ⊤
WasMade keys (Some j) was_fed x cells =
    was_fed ≡ false → (steps : List Step) (c : PartCells) → slice_get x.bodies j ≡ Some steps
    → slice_get cells.parts.items j ≡ Some c → AreMade keys steps c.steps.items

-- the steps of a component stand behind those of the body
pub record IsReleased (j : ℕ) (old new : Cells) : Type 0 where
  pub part : PartCells
  pub there : slice_get old.parts.items j ≡ Some part
  pub left : PartCells
  pub ports : left.ports ≡ part.ports
  pub inside : left.inside ≡ part.inside
  pub parts : new.parts.items ≡ slice_set old.parts.items j left
  pub steps : new.steps.items ≡ old.steps.items ++ part.steps.items
  pub variables : new.variables ≡ old.variables
  pub signals : new.signals ≡ old.signals
