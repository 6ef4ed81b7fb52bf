-- The lines of a circuit's signals.
use Rattle.std.specs.Prelude.{◌≡◌, ◌==◌, ℕ, ◌+◌, ◌-◌, ◌<◌, ◌≤◌, List}
use Rattle.std.specs.Prelude.{[], ◌∷◌, ◌++◌, length, All}
use Rattle.std.specs.Prelude.{codes, position, slice_get, slice_index, Option, Some}
use Rattle.std.specs.List.Sorted.{IsStrictlyIncreasing}
use Rattle.std.specs.Str.{IsUtf8}
use Rattle.text_lines.specs.Lines.{HasNo}
use Rattle.cir_values.specs.declared.signals.Signals.{Signals}
use Rattle.cir_values.specs.declared.signals.SignalName.{SignalName}
use Rattle.cir_values.specs.Names.{HasName, NamesSignal}
use Rattle.sym_file.specs.declared.line.SymLine.{SymLine}
use Rattle.sym_file.specs.Line.{symbols_text, IsNarrowLine}

-- text that can stand in a line
pub record IsInLine (bytes : List ℕ) : Type 0 where
  pub utf8 : IsUtf8 bytes
  pub one_line : HasNo 10 bytes

-- signal n has a name, and an instance among these; its base and the instance's path can stand in a
-- line
pub record CanBeNamed (signals : Signals) (instances : List (List ℕ)) (n : ℕ) : Type 0 where
  pub name : HasName signals n
  pub path : List ℕ
  pub instance : slice_get instances name.entry.instance ≡ Some path
  pub base_fits : IsInLine name.entry.base
  pub path_fits : IsInLine path

abbrev pub CanAllBeNamed : Signals → (instances : List (List ℕ)) → Type 0
CanAllBeNamed signals instances =
    (n : ℕ) → 0 < n → n ≤ length signals.names → CanBeNamed signals instances n

-- the signals that are kept, by their wires: signal 0 and others of the table, rising
pub record AreKept (signals : Signals) (kept : List ℕ) : Type 0 where
  pub one : slice_get kept 0 ≡ Some 0
  pub rise : IsStrictlyIncreasing kept
  pub within : All (λ s. s ≤ length signals.names) kept

-- a signal's wire is its place among those that are kept
abbrev pub wire_among : (kept : List ℕ) → (signal : ℕ) → Option ℕ
wire_among kept signal = position (λ s. s == signal) kept

-- the line of signal n, which has this wire: its name is its instance's path, a dot, and its name
-- there
pub record IsLineOf (signals : Signals) (instances : List (List ℕ)) (n : ℕ) (wire : Option ℕ)
    (line : SymLine) : Type 0 where
  pub entry : SignalName
  pub there : slice_get signals.names (n - 1) ≡ Some entry
  pub path : List ℕ
  pub instance_there : slice_get instances entry.instance ≡ Some path
  pub local : List ℕ
  pub named : NamesSignal signals n local
  pub label : line.label ≡ n
  pub wire_is : line.wire ≡ wire
  pub instance : line.instance ≡ entry.instance
  pub name : line.name ≡ path ++ (codes "." ++ local)

-- the lines of the signals from n on
abbrev pub AreLinesFrom : Signals → (instances : List (List ℕ)) → (kept : List ℕ)
    → (n : ℕ)
    → List SymLine → Type 0
AreLinesFrom signals instances kept n [] = Unit {0}
AreLinesFrom signals instances kept n (line ∷ lines) =
    IsLineOf signals instances n (wire_among kept n) line
    × AreLinesFrom signals instances kept (n + 1) lines

-- a line for each signal but signal 0, in the order of their numbers
pub record AreLinesOf (signals : Signals) (instances : List (List ℕ)) (kept : List ℕ)
    (lines : List SymLine) : Type 0 where
  pub many : length lines ≡ length signals.names
  pub are : AreLinesFrom signals instances kept 1 lines

-- the text of those lines
pub record IsTextOf (signals : Signals) (instances : List (List ℕ)) (kept : List ℕ)
    (text : List ℕ) : Type 0 where
  pub lines : List SymLine
  pub are : AreLinesOf signals instances kept lines
  pub text_is : text ≡ symbols_text lines

-- the lines of so many signals are written
pub record HasWritten (signals : Signals) (instances : List (List ℕ)) (kept : List ℕ)
    (count : ℕ) (text : List ℕ) : Type 0 where
  pub lines : List SymLine
  pub many : length lines ≡ count
  pub are : AreLinesFrom signals instances kept 1 lines
  pub narrow : All IsNarrowLine lines
  pub text_is : text ≡ symbols_text lines

-- those before this place are below n, and the others aren't
pub record IsSplit (kept : List ℕ) (place n : ℕ) : Type 0 where
  pub below : (k : ℕ) → k < place → slice_index kept k < n
  pub above : (k : ℕ) → place ≤ k → k < length kept → n ≤ slice_index kept k
