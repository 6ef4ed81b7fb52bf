-- What an assignment to a variable leaves of an emission, and its step.
use Rattle.std.specs.Prelude.{◌≡◌, ◌≢◌, ℕ, ◌+◌, ◌==◌, Bool, false, not, if◌then◌else◌, List, []}
use Rattle.std.specs.Prelude.{◌∷◌, length, map, Option, None, Some, slice_get}
use Rattle.cir_ast.specs.declared.program.Meant.{Meant}
use Rattle.cir_ast.specs.Tree.{Accessors, Assign, Expr}
use Rattle.cir_meaning.specs.Tried.{Where}
use Rattle.cir_meaning.specs.Arrays.{is_known, item_at}
use Rattle.cir_meaning.specs.Frame.{Context, State}
use Rattle.cir_meaning.specs.Places.{numbers_from}
use Rattle.cir_meaning.specs.Steps.{variable_cost}
use Rattle.cir_meaning.specs.Values.{Value}
use Rattle.cir_meaning.specs.Writing.{VariableAssignment, is_unknown}
use Rattle.cir_steps.specs.Emission.{Emission, known_in, step_of, with_state}
use Rattle.cir_steps.specs.Making.{new_places, with_cells}
use Rattle.cir_steps.specs.Step as S
use Rattle.cir_steps.specs.Step.{Assigning, Step}
use Rattle.cir_make.specs.declared.cells.VariableCells.{VariableCells}
use Rattle.cir_make.specs.Cells.{source_by}
use Rattle.cir_make.specs.Shows.{source_in}

abbrev pub assigned_after : ℕ → VariableAssignment → State → Emission → Emission
assigned_after n a s x =
    if is_unknown n a then with_cells n (new_places n a) s x else with_state s x

abbrev pub assigned_step : Context → Where → (written : Assign Meant) → ℕ → Accessors Meant
    → Expr Meant → VariableAssignment → Emission → Step
assigned_step k w written n accessors e a x =
    step_of k w (known_in x) (variable_cost k w written n accessors e a (known_in x))
    (Assigning n accessors e (new_places n a)) (numbers_from x.next (length (new_places n a))) None
    x

abbrev pub assigned_steps : Context → Where → (written : Assign Meant) → ℕ → Accessors Meant
    → Expr Meant → VariableAssignment → Emission → List Step
assigned_steps k w written n accessors e a x =
    if is_unknown n a then assigned_step k w written n accessors e a x ∷ [] else []

-- whether an element isn't known
abbrev pub is_new_in : List Value → (place : ℕ) → Bool
is_new_in vs k = not (is_known (item_at vs k))

-- whether what stands at a place isn't known: a new item, where there is one
abbrev pub is_new_at : (old new : Option Value) → Bool
is_new_at None new = false
is_new_at (Some v) None = not (is_known v)
is_new_at (Some v) (Some w) = not (is_known w)

-- an element has a cell, and others what they had
abbrev pub put_one : (place cell : ℕ) → (ℕ → S.Source) → ℕ → S.Source
put_one p cell f k = if p == k then S.Cell cell else f k

-- elements at these places have these cells in turn, and others what they had
abbrev pub put_at_places : List ℕ → (first : ℕ) → (ℕ → S.Source) → ℕ → S.Source
put_at_places [] first f k = f k
put_at_places (p ∷ ps) first f k =
    put_at_places ps (first + 1) (put_one p first f) k

-- the variable has new cells, where it isn't lost, and the others have theirs
pub record HasCells (n : ℕ) (places : List ℕ) (first : ℕ) (old new : List VariableCells)
    : Type 0 where
  pub others : (m : ℕ) → m ≢ n → slice_get new m ≡ slice_get old m
  pub itself : (v : VariableCells) → slice_get new n ≡ Some v → v.is_lost ≡ false
      → (u : VariableCells) × (slice_get old n ≡ Some u) × (u.is_lost ≡ false) × ((k : ℕ)
      → source_in (map source_by v.sources.items) k
      ≡ put_at_places places first (source_in (map source_by u.sources.items)) k)
