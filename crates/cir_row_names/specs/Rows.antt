-- Names of the signals that a program makes, and paths of the instances in which it makes them.
use Rattle.std.specs.Prelude.{◌≡◌, ◌≢◌, ℕ, ◌<◌, ◌≤◌, ◌++◌, List, length}
use Rattle.std.specs.Prelude.{Bool, true}
use Rattle.std.specs.List.{AllByRecursion}
use Rattle.cir_ast.specs.Program.{Program, Template}
use Rattle.cir_tree_names.specs.Named.{AreNamedStatements}
use Rattle.cir_meaning.specs.Places.{elements, brackets}
use Rattle.cir_meaning.specs.Frame.{Row}
use Rattle.cir_meaning.specs.Compile.{SignalName, Circuit}

-- ASCII without line feeds
abbrev pub IsLineByte : ℕ → Type 0
IsLineByte b = (b < 128) × (b ≢ 10)

abbrev pub IsLineText : List ℕ → Type 0
IsLineText bytes = AllByRecursion IsLineByte bytes

-- each name in the templates passes a test
abbrev pub IsNamedTemplate : (p : List ℕ → Bool) → Template → Type 0
IsNamedTemplate p t = AreNamedStatements p t.body

abbrev pub IsNamedProgram : (p : List ℕ → Bool) → Program → Type 0
IsNamedProgram p program = AllByRecursion (IsNamedTemplate p) program.templates

-- a row of a name that passes, in one of so many instances
pub record IsNamedRow (p : List ℕ → Bool) (instances : ℕ) (row : Row) : Type 0 where
  pub name : p row.name ≡ true
  pub instance : row.instance < instances

-- an element of an array, or a scalar: its base is a name that passes, followed by dimensions in
-- brackets, and its place is inside them
pub record IsNamedSignal (p : List ℕ → Bool) (instances : ℕ) (n : SignalName) : Type 0 where
  pub declared : List ℕ
  pub dims : List ℕ
  pub name : p declared ≡ true
  pub base : n.base ≡ declared ++ brackets dims
  pub inside : n.place < elements dims
  pub few : elements dims ≤ 1048575
  pub instance : n.instance < instances

pub record IsNamedCircuit (p : List ℕ → Bool) (c : Circuit) : Type 0 where
  pub signals : AllByRecursion (IsNamedSignal p (length c.instances)) c.names
  pub paths : AllByRecursion IsLineText c.instances
