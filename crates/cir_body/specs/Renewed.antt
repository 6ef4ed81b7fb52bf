-- What new cells of variables change, and what a loss does.
use Rattle.std.specs.Prelude.{◌≡◌, ◌≢◌, ℕ, ◌+◌, ◌==◌, false, List, [], ◌∷◌, map, Some, slice_get}
use Rattle.std.specs.List.{list_any}
use Rattle.cir_meaning.specs.Places.{numbers_from}
use Rattle.cir_steps.specs.Step as S
use Rattle.cir_make.specs.declared.cells.VariableCells.{VariableCells}
use Rattle.cir_make.specs.Cells.{source_by}

abbrev pub cells_from : (first count : ℕ) → List S.Source
cells_from first count = map (λ c. S.Cell c) (numbers_from first count)

-- a variable has new cells, and the others have theirs
pub record IsRenewed (e : S.Elements) (first : ℕ) (old new : List VariableCells) : Type 0 where
  pub others : (m : ℕ) → m ≢ e.variable → slice_get new m ≡ slice_get old m
  pub itself : (v : VariableCells) → slice_get new e.variable ≡ Some v
      → map source_by v.sources.items ≡ cells_from first e.count

-- one after the other
abbrev pub AreRenewed : List S.Elements → (first : ℕ) → (old new : List VariableCells) → Type 0
AreRenewed [] first old new = new ≡ old
AreRenewed (e ∷ es) first old new =
    (mid : List VariableCells) × IsRenewed e first old mid × AreRenewed es (first + e.count) mid new

-- these variables are lost, and the others have their cells
abbrev pub AreLost : List ℕ → (old new : List VariableCells) → Type 0
AreLost ns old new =
    (n : ℕ) (v : VariableCells) → slice_get new n ≡ Some v → v.is_lost ≡ false
    → (list_any (λ m. m == n) ns ≡ false) × (slice_get old n ≡ Some v)
