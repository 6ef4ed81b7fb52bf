-- A step: a statement that runs, with where its numbers come from and where they go.
use Rattle.std.specs.Prelude.{ℕ, zero, suc, List, [], ◌∷◌, Option}
use Rattle.cir_ast.specs.declared.program.Spot.{Spot}
use Rattle.cir_ast.specs.declared.program.Meant.{Meant}
use Rattle.cir_ast.specs.Tree.{Expr, Accessors, LogArgument, Statement}
use Rattle.cir_meaning.specs.Tried.{Where}
use Rattle.cir_meaning.specs.Arrays.{Shaped, Datum}
use Rattle.cir_meaning.specs.Values.{Value, Known, Linear, Quadratic, Opaque}
use Rattle.cir_meaning.specs.RunValues.{Environment}

-- a number that is known, or one that stands in a cell
pub data Source : Type 0 where
  Constant : ℕ → Source
  Cell : ℕ → Source

-- where an element has its number from: what is known stands itself, and an element that never got
-- a number is 0
abbrev pub source_of : Value → Source → Source
source_of (Known k) x = Constant k
source_of (Linear f) x = x
source_of (Quadratic a b c) x = x
source_of Opaque x = x

abbrev pub sources_of : List Value → List Source → List Source
sources_of [] xs = []
sources_of (v ∷ vs) [] = source_of v (Constant 0) ∷ sources_of vs []
sources_of (v ∷ vs) (x ∷ xs) = source_of v x ∷ sources_of vs xs

abbrev pub variable_sources : List Datum → List (List Source) → List (Shaped Source)
variable_sources [] xs = []
variable_sources (d ∷ ds) [] =
    record { dims = d.dims; items = sources_of d.items [] } ∷ variable_sources ds []
variable_sources (d ∷ ds) (x ∷ xs) =
    record { dims = d.dims; items = sources_of d.items x } ∷ variable_sources ds xs

-- the sources of a variable
abbrev pub listed : List (List Source) → ℕ → List Source
listed [] n = []
listed (x ∷ xs) zero = x
listed (x ∷ xs) (suc n) = listed xs n

abbrev pub put_sources : ℕ → List Source → List (List Source) → List (List Source)
put_sources zero x [] = x ∷ []
put_sources zero x (y ∷ ys) = x ∷ ys
put_sources (suc n) x [] = [] ∷ put_sources n x []
put_sources (suc n) x (y ∷ ys) = y ∷ put_sources n x ys

-- so many elements of a variable
pub record Elements : Type 0 where
  pub variable : ℕ
  pub count : ℕ

-- what a step evaluates, and which numbers it gives. A value gives its items; an assignment gives
-- the elements at these places of its variable; what a condition that isn't known left gives the
-- elements of the variables that it may assign.
pub data Work : Type 0 where
  Valuing : Expr Meant → Work
  Assigning : (variable : ℕ) → Accessors Meant → Expr Meant → (places : List ℕ) → Work
  Comparing : Expr Meant → Expr Meant → Work
  Asserting : Expr Meant → Work
  Logging : List (LogArgument Meant) → Work
  Deciding : Statement Spot Meant → List Elements → Work

-- a part of a log line
pub data LogPart : Type 0 where
  Text : List ℕ → LogPart
  Logged : (cell : ℕ) → LogPart

-- `names` is what names mean besides variables, with cells in the place of numbers. The cells that
-- may be read stand in `reads`, each once.
pub record Step : Type 0 where
  pub place : Where
  pub work : Work
  pub variables : List (Shaped Source)
  pub names : Environment
  pub reads : List ℕ
  pub targets : List ℕ
  pub line : Option (List LogPart)
