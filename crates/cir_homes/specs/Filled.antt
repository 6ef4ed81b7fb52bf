-- The cells of signals by their numbers, as they are filled in.
use Rattle.std.specs.Prelude.{◌≡◌, ℕ, ◌+◌, if◌then◌else◌, nat_eq, List, [], ◌∷◌, ◌++◌, length, map}
use Rattle.std.specs.Prelude.{Option, Some, None, slice_get}
use Rattle.cir_meaning.specs.Compile.{group_size}
use Rattle.cir_meaning.specs.Frame.{Group, Outputs, PublicInputs, PrivateInputs, Others, Sizes}
use Rattle.cir_meaning.specs.Frame.{before_group, size_in}
use Rattle.cir_meaning.specs.Places.{numbers_from}
use Rattle.cir_meaning.specs.RunBodies.{or_else}
use Rattle.cir_make.specs.declared.cells.Homes.{Homes}
use Rattle.cir_make.specs.Housed.{home_in}

abbrev pub group_homes : Sizes → List Homes → Group → List (Option ℕ)
group_homes sizes hs g =
    map (home_in hs) (numbers_from (1 + before_group group_size g) (size_in g sizes))

-- signal 0 has cell 0
abbrev pub homes_by : Sizes → List Homes → List (Option ℕ)
homes_by sizes hs =
    Some 0 ∷ (group_homes sizes hs Outputs ++ (group_homes sizes hs PublicInputs
    ++ (group_homes sizes hs PrivateInputs ++ group_homes sizes hs Others)))

-- the element of this place has its cell there, by its number, if it has none yet
pub record PutsOne (h : Homes) (k first : ℕ) (old new : List (Option ℕ)) : Type 0 where
  pub many : length new ≡ length old
  pub each : (p : ℕ) (o : Option ℕ) → slice_get old p ≡ Some o → slice_get new p
      ≡ Some (or_else o (if nat_eq (first + p) (h.number + k) then Some (h.cell + k) else None))

-- numbers from the first on that have no cell yet have that of the row, if it has them
pub record Puts (h : Homes) (first : ℕ) (old new : List (Option ℕ)) : Type 0 where
  pub many : length new ≡ length old
  pub each : (p : ℕ) (o : Option ℕ) → slice_get old p ≡ Some o
      → slice_get new p ≡ Some (or_else o (home_in (h ∷ []) (first + p)))

-- of the numbers from the first on, what the rows left have completes what there is
pub record IsLeft (hs left : List Homes) (first count : ℕ) (found : List (Option ℕ))
    : Type 0 where
  pub many : length found ≡ count
  pub each : (p : ℕ) (o : Option ℕ) → slice_get found p ≡ Some o
      → or_else o (home_in left (first + p)) ≡ home_in hs (first + p)
