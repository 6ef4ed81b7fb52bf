-- Where numbers stand in a frame: each variable and each signal that a statement names has a home,
-- as many slots in a row as it has elements.
use Rattle.std.specs.Prelude.{ℕ, ◌+◌, ◌*◌, ◌==◌, ◌&&◌, Bool, false, if◌then◌else◌, List, [], ◌∷◌}
use Rattle.std.specs.Prelude.{map, Option, Some, None, bytes_eq, slice_index, suc, zero}
use Rattle.cir_ast.specs.declared.program.Meant.{Meant}
use Rattle.cir_ast.specs.declared.program.Meant.TheVariants as meant
use Rattle.cir_ast.specs.Tree.{Expr}
use Rattle.cir_meaning.specs.Places.{elements, all_known, is_inside}
use Rattle.cir_meaning.specs.Limits.{is_too_large}
use Rattle.cir_meaning.specs.Costs.{Made}
use Rattle.cir_meaning.specs.RunValues.{Numbers}

-- a port is a signal of an element of a component
pub data Name : Type 0 where
  Variable : ℕ → Name
  Signal : ℕ → Name
  Port : (component element : ℕ) → (name : List ℕ) → Name

abbrev pub same_name : Name → Name → Bool
same_name (Variable n) (Variable m) = n == m
same_name (Signal n) (Signal m) = n == m
same_name (Port n j a) (Port m k b) = (n == m) && ((j == k) && bytes_eq a b)
same_name _ _ = false

pub record Home : Type 0 where
  pub base : ℕ
  pub dims : List ℕ

pub record Placed : Type 0 where
  pub name : Name
  pub home : Home

-- the newest first
abbrev pub Homes : Type 0
Homes = List Placed

abbrev pub find : Name → Homes → Option Home
find x [] = None
find x (p ∷ ps) = if same_name x p.name then Some p.home else find x ps

-- an array that is too large is never made, and takes no slot
abbrev pub slots_of : List ℕ → ℕ
slots_of dims = if is_too_large dims then 0 else elements dims

-- the homes of what can be named, and the first of the slots behind them, which are free
pub record Scope : Type 0 where
  pub homes : Homes
  pub top : ℕ

-- a new variable's home is the next slots
abbrev pub with_variable : ℕ → List ℕ → Scope → Scope
with_variable n dims s = record {
  homes = record { name = Variable n; home = record { base = s.top; dims = dims } } ∷ s.homes;
  top = s.top + slots_of dims;
}

-- what stays the same in the whole code: the procedures, by their function and the shapes of its
-- arguments; the numbers that dimensions and indices of components have; the calls that have their
-- value already, which aren't made; and the dimensions of arrays of components
pub record Ground : Type 0 where
  pub keys : List Made
  pub known : Expr Meant → Option ℕ
  pub called : Expr Meant → Option Numbers
  pub components : ℕ → List ℕ

-- the place of an element in its array: an index counts whole rows
abbrev pub offset : List ℕ → List ℕ → ℕ
offset dims [] = 0
offset [] (i ∷ is) = 0
offset (d ∷ ds) (i ∷ is) = i * elements ds + offset ds is

-- what stands in front of indices: a name; the home of a port that is found already; or nothing,
-- where a known index of a component is outside its dimension, so that the code stops before
pub data Front : Type 0 where
  Named : Meant → Front
  Found : Option Home → Front
  Lost : Front

abbrev pub home_of : Homes → Front → Option Home
home_of homes (Named (meant.Variable n)) = find (Variable n) homes
home_of homes (Named (meant.Signal direction n)) = find (Signal n) homes
home_of homes (Named _) = None
home_of homes (Found home) = home
home_of homes Lost = None

abbrev pub port_at : Homes → ℕ → List ℕ → List ℕ → Option (List ℕ) → Front
port_at homes n dims name None = Found None
port_at homes n dims name (Some indices) =
    if is_inside dims (map Some indices)
    then Found (find (Port n (offset dims indices) name) homes) else Lost

-- the signal of this name of the component that the indices mean, where all of them are known
abbrev pub port_of : Ground → Homes → Front → List (Option ℕ) → List ℕ → Front
port_of g homes (Named (meant.Component n)) indices name =
    port_at homes n (g.components n) name (all_known indices)
port_of g homes _ indices name = Found None

abbrev pub component_dims : Ground → Front → List ℕ
component_dims g (Named (meant.Component n)) = g.components n
component_dims g _ = []

-- as many numbers of a frame, from a slot on
abbrev pub row : List ℕ → ℕ → ℕ → List ℕ
row slots first zero = []
row slots first (suc n) = slice_index slots first ∷ row slots (first + 1) n
