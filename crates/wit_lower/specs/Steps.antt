-- What has to fit in a step so that it has code, and what is right of its code.
use Rattle.std.specs.Prelude.{◌≡◌, ℕ, ◌<◌, false, List, [], ◌∷◌, ◌++◌, length, map, Some}
use Rattle.gold_field.specs.declared.gold.TheConstants.{P}
use Rattle.wit_code.specs.declared.code.Proc.{Proc}
use Rattle.wit_code.specs.Table.{Outcome, Wrote, RunsTo}
use Rattle.wit_code.specs.Code.{IsWellFormed}
use Rattle.cir_ast.specs.declared.program.Meant.{Meant}
use Rattle.cir_ast.specs.Program.{Program}
use Rattle.cir_ast.specs.Tree.{Expr}
use Rattle.cir_meaning.specs.Limits.{is_too_large}
use Rattle.cir_meaning.specs.Costs.{Made}
use Rattle.wit_lower.specs.Homes.{Name, Variable, Signal, Port, Home, Homes, Scope, Ground, find}
use Rattle.wit_lower.specs.Homes.{slots_of}
use Rattle.wit_lower.specs.Fits.{Fits, TestFits, StatementFits}
use Rattle.wit_lower.specs.Values.{size_of}
use Rattle.wit_lower.specs.Procedures.{IsTable}
use Rattle.wit_lower.specs.Sources.{Shape, Input, Constant, Cell, Source, Sources, scope_of}
use Rattle.wit_lower.specs.Sources.{cells_read}
use Rattle.wit_lower.specs.Tasks.{Element, Task, Gives, Equal, Logs, Executes, IsOutcome, meant_by}
use Rattle.wit_lower.specs.Tasks.{step_ground}

-- an element of a variable that has a home
pub record TargetFits (homes : Homes) (t : Element) : Type 0 where
  pub home : Home
  pub found : find (Variable t.variable) homes ≡ Some home
  pub within : t.element < slots_of home.dims

abbrev pub TargetsFit : Homes → List Element → Type 0
TargetsFit homes [] = Unit {0}
TargetsFit homes (t ∷ ts) = TargetFits homes t × TargetsFit homes ts

abbrev pub AllTests : Ground → Homes → List (Expr Meant) → Type 0
AllTests g homes [] = Unit {0}
AllTests g homes (e ∷ es) = TestFits g homes e × AllTests g homes es

-- in a step nothing returns
abbrev pub TaskFits : (free : ℕ → Type 0) → Ground → Scope → Task → Type 0
TaskFits free g s (Gives e) = Fits g s.homes e
TaskFits free g s (Equal a b) = TestFits g s.homes a × TestFits g s.homes b
TaskFits free g s (Logs es) = AllTests g s.homes es
TaskFits free g s (Executes a targets) =
    StatementFits free ⊥ g s a × TargetsFit s.homes targets

-- no array is too large, and the variables' numbers are below a bound
abbrev pub IsBelow : (variables : ℕ) → Name → Type 0
IsBelow variables (Variable n) = n < variables
IsBelow variables (Signal n) = Unit {0}
IsBelow variables (Port n j name) = Unit {0}

abbrev pub ShapesFit : (variables : ℕ) → List Shape → Type 0
ShapesFit variables [] = Unit {0}
ShapesFit variables (x ∷ xs) =
    (is_too_large x.dims ≡ false) × IsBelow variables x.name × ShapesFit variables xs

-- each source is one of an element of an array that has a shape; constants are numbers of the field
abbrev pub IsInput : Input → Type 0
IsInput (Constant v) = v < P
IsInput (Cell c) = Unit {0}

pub record SourceFits (homes : Homes) (x : Source) : Type 0 where
  pub home : Home
  pub found : find x.name homes ≡ Some home
  pub within : x.element < slots_of home.dims
  pub number : IsInput x.input

abbrev pub SourcesFit : Homes → List Source → Type 0
SourcesFit homes [] = Unit {0}
SourcesFit homes (x ∷ xs) = SourceFits homes x × SourcesFit homes xs

pub record StepFits (keys : List Made) (sources : Sources) (variables : ℕ)
    (task : Task) : Type 0 where
  pub shapes : ShapesFit variables sources.shapes
  pub list : SourcesFit (scope_of sources).homes sources.list
  pub fits : TaskFits (λ n. n < variables) (step_ground keys sources task) (scope_of sources) task

-- how many numbers the code writes where it doesn't stop
abbrev pub count_of : Ground → Homes → Task → ℕ
count_of g homes (Gives e) = size_of g homes e
count_of g homes (Equal a b) = 0
count_of g homes (Logs es) = length es
count_of g homes (Executes a targets) = length targets

-- over every table that begins with these keys the code is well formed, writes as many numbers as
-- it should, and does what the task means, with as many units, whatever the cells hold
pub record IsRight (program : Program) (keys : List Made) (sources : Sources) (variables : ℕ)
    (task : Task) (code : Proc) : Type 0 where
  pub formed : (later : List Made) (procs : List Proc) → IsTable program (keys ++ later) procs
      → IsWellFormed procs (length (cells_read sources.list)) code
  pub counted : (later : List Made) (procs : List Proc) → IsTable program (keys ++ later) procs
      → (reads : List ℕ) (fuel : ℕ) (values : List ℕ) → RunsTo procs code reads fuel (Wrote values)
      → length values ≡ count_of (step_ground keys sources task) (scope_of sources).homes task
  pub runs : (later : List Made) (procs : List Proc) → IsTable program (keys ++ later) procs
      → (cells : ℕ → ℕ) (fuel : ℕ) (outcome : Outcome)
      → IsOutcome (meant_by program sources variables task cells fuel) outcome
      → RunsTo procs code (map cells (cells_read sources.list)) fuel outcome
