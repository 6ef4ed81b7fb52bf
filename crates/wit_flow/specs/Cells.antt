-- What cells hold, and what they hold once some of them got a value
use Rattle.std.specs.Prelude.{◌≡◌, ℕ, ◌==◌, if◌then◌else◌, Bool, List, [], ◌∷◌, map, length, Option}
use Rattle.std.specs.Prelude.{Some, None, is_some, unwrap_or, slice_index_or}
use Rattle.std.specs.List.{list_all}

-- the value of each cell, if it has one
abbrev pub Cells : Type 0
Cells = ℕ → Option ℕ

abbrev pub no_values : Cells
no_values c = None

abbrev pub with_value : Cells → ℕ → ℕ → Cells
with_value cells c x = λ d. if d == c then Some x else cells d

-- the cells of a list get values, in order, as far as these go
abbrev pub with_values : Cells → List ℕ → List ℕ → Cells
with_values cells [] xs = cells
with_values cells (c ∷ cs) [] = cells
with_values cells (c ∷ cs) (x ∷ xs) = with_values (with_value cells c x) cs xs

-- the number in a cell, which is 0 for a cell that has no value
abbrev pub number_at : Cells → ℕ → ℕ
number_at cells c = unwrap_or (cells c) 0

abbrev pub numbers_at : Cells → List ℕ → List ℕ
numbers_at cells cs = map (number_at cells) cs

-- each cell of the list has a value
abbrev pub have_values : Cells → List ℕ → Bool
have_values cells cs = list_all (λ c. is_some (cells c)) cs

-- what a list of cells holds, by their numbers
abbrev pub held : List (Option ℕ) → Cells
held list c = slice_index_or list c None

-- the list has so many cells, and holds these values
abbrev pub Shows : ℕ → List (Option ℕ) → Cells → Type 0
Shows n list cells = (length list ≡ n) × ((c : ℕ) → held list c ≡ cells c)
