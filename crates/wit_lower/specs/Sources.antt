-- What a statement reads: shapes of what it names, and for each element that it may read a source,
-- which is a constant or a cell. The step reads each cell once.
use Rattle.std.specs.Prelude.{ℕ, suc, ◌+◌, ◌==◌, ◌&&◌, if◌then◌else◌, List, [], ◌∷◌, ◌++◌, map}
use Rattle.std.specs.Prelude.{Option, Some, None, Result, Ok, Err, unwrap_or}
use Rattle.std.specs.List.{list_any}
use Rattle.cir_ast.specs.declared.program.Meant.{Meant}
use Rattle.cir_ast.specs.Tree.{Expr}
use Rattle.wit_code.specs.declared.code.Op.{Op}
use Rattle.wit_code.specs.declared.code.Op.TheVariants as op
use Rattle.cir_meaning.specs.Places.{numbers_from, is_inside}
use Rattle.cir_meaning.specs.Arrays.{Shaped, single}
use Rattle.cir_meaning.specs.RunValues.{Ran, Numbers, Environment, Store, index_out, missing}
use Rattle.cir_meaning.specs.RunBodies.{or_else}
use Rattle.wit_lower.specs.Homes.{Name, Variable, Signal, Port, same_name, Home, Homes, Scope, find}
use Rattle.wit_lower.specs.Homes.{slots_of, offset}
use Rattle.wit_lower.specs.Pieces.{Code}

pub record Shape : Type 0 where
  pub name : Name
  pub dims : List ℕ

pub data Input : Type 0 where
  Constant : ℕ → Input
  Cell : (cell : ℕ) → Input

pub record Source : Type 0 where
  pub name : Name
  pub element : ℕ
  pub input : Input

-- `components` has the dimensions of arrays of components, and `called` the calls that have their
-- value already
pub record Sources : Type 0 where
  pub shapes : List Shape
  pub components : ℕ → List ℕ
  pub called : Expr Meant → Option Numbers
  pub list : List Source

-- the homes stand in a row, in the order of the shapes
abbrev pub homes_from : List Shape → Scope → Scope
homes_from [] s = s
homes_from (x ∷ xs) s = homes_from xs record {
  homes = record { name = x.name; home = record { base = s.top; dims = x.dims } } ∷ s.homes;
  top = s.top + slots_of x.dims;
}

abbrev pub scope_of : Sources → Scope
scope_of sources = homes_from sources.shapes record { homes = []; top = 0 }

-- the cells that are read, in the order of the list
abbrev pub with_cell : Input → List ℕ → List ℕ
with_cell (Constant v) cells = cells
with_cell (Cell c) cells = if list_any (λ d. d == c) cells then cells else cells ++ c ∷ []

abbrev pub cells_from : List ℕ → List Source → List ℕ
cells_from cells [] = cells
cells_from cells (x ∷ xs) = cells_from (with_cell x.input cells) xs

abbrev pub cells_read : List Source → List ℕ
cells_read xs = cells_from [] xs

abbrev pub place_of : (cell : ℕ) → List ℕ → ℕ
place_of c [] = 0
place_of c (d ∷ ds) = if d == c then 0 else suc (place_of c ds)

-- each source is loaded into the slot of its element
abbrev pub load_code : (reads : List ℕ) → Input → (s : ℕ) → Op
load_code reads (Constant v) s = op.Const s v
load_code reads (Cell c) s = op.Read s (place_of c reads)

abbrev pub source_code : (reads : List ℕ) → Option Home → Source → Code
source_code reads None x = []
source_code reads (Some h) x = load_code reads x.input (h.base + x.element) ∷ []

abbrev pub sources_code : (reads : List ℕ) → Homes → List Source → Code
sources_code reads homes [] = []
sources_code reads homes (x ∷ xs) =
    source_code reads (find x.name homes) x ++ sources_code reads homes xs

-- where an element's number comes from; the last source of it counts
abbrev pub input_of : Name → List Source → (element : ℕ) → Option Input
input_of name [] k = None
input_of name (x ∷ xs) k =
    or_else (input_of name xs k)
    (if same_name name x.name && (k == x.element) then Some x.input else None)

abbrev pub number_at : (cells : ℕ → ℕ) → Input → ℕ
number_at cells (Constant v) = v
number_at cells (Cell c) = cells c

abbrev pub number_from : (cells : ℕ → ℕ) → Option Input → Option ℕ
number_from cells None = None
number_from cells (Some input) = Some (number_at cells input)

abbrev pub element_of : (cells : ℕ → ℕ) → Name → List Source → (element : ℕ) → Option ℕ
element_of cells name list k = number_from cells (input_of name list k)

abbrev pub read_as : Sources → (cells : ℕ → ℕ) → Name → Home → Shaped (Option ℕ)
read_as sources cells name h = record {
  dims = h.dims;
  items = map (element_of cells name sources.list) (numbers_from 0 (slots_of h.dims));
}

abbrev pub read_at : Sources → (cells : ℕ → ℕ) → Name → Option Home → Option (Shaped (Option ℕ))
read_at sources cells name None = None
read_at sources cells name (Some h) = Some (read_as sources cells name h)

abbrev pub signal_at : Sources → (cells : ℕ → ℕ) → Name → Option (Shaped (Option ℕ))
signal_at sources cells name =
    read_at sources cells name (find name (scope_of sources).homes)

abbrev pub or_missing : {A : Type 0} → Option A → Result A ℕ
or_missing None = Err missing
or_missing (Some a) = Ok a

-- what a statement reads besides variables
abbrev pub environment_of : Sources → (cells : ℕ → ℕ) → (call : ℕ → List Numbers → ℕ → Ran Numbers)
    → Environment
environment_of sources cells call = record {
  signal = λ n. signal_at sources cells (Signal n);
  part = λ n indices name.
      if is_inside (sources.components n) (map Some indices) then
      or_missing (signal_at sources cells (Port n (offset (sources.components n) indices) name))
      else Err index_out;
  known = sources.called;
  call = call;
}

-- the variables: an element that has no source is 0, and so is a variable without a shape
abbrev pub all_numbers : Option (Shaped (Option ℕ)) → Numbers
all_numbers None = single 0
all_numbers (Some d) = record { dims = d.dims; items = map (λ o. unwrap_or o 0) d.items }

abbrev pub store_of : Sources → (cells : ℕ → ℕ) → (variables : ℕ) → Store
store_of sources cells variables =
    map (λ n. all_numbers (signal_at sources cells (Variable n))) (numbers_from 0 variables)
