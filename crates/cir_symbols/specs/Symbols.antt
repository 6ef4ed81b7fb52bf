-- The lines that name a program's signals, at a level of simplification.
use Rattle.std.specs.Prelude.{◌≡◌, ℕ, List, length, Result, Ok, Err}
use Rattle.out_io.specs.Contents.{Contents}
use Rattle.iden_files.specs.File.{File}
use Rattle.cir_ast.specs.Program.{Program}
use Rattle.cir_names.specs.Loading.{IsLoaded}
use Rattle.cir_compile.specs.Compiled.{IsWritten, Task, Writes}
use Rattle.cir_compile.specs.declared.fault.CompileFault.{CompileFault}
use Rattle.cir_simplify.specs.declared.types.Level.{Level}
use Rattle.cir_values.specs.declared.signals.Signals.{Signals}
use Rattle.sym_file.specs.declared.line.SymLine.{SymLine}
use Rattle.sym_file.specs.Line.{symbols_of, symbols_text}
use Rattle.sym_file.specs.Table.{AreLinesOf, wire_among}
use Rattle.cir_symbols.specs.declared.symbols.Symbols.{Symbols}

-- The program is written as the file at the level. Line n is of signal n, and its wire is the
-- signal's place among the labels of the file's wires; it has none where it isn't among them.
pub record AreSymbolsOf (program : Program) (level : Level) (lines : List SymLine) : Type 0 where
  pub file : File
  pub written : IsWritten program level file
  pub are : AreLinesOf written.circuit.signals written.circuit.instances file.labels lines

-- the text of these lines, and their number; it is read as they are
pub record IsTextOfLines (s : Symbols) (lines : List SymLine) : Type 0 where
  pub count : s.count ≡ length lines
  pub text : s.text ≡ symbols_text lines
  pub read_back : symbols_of s.text ≡ Ok lines

-- the text of the lines of these signals, with the wires that have these labels
pub record IsTextOfSignals (signals : Signals) (instances : List (List ℕ)) (labels : List ℕ)
    (s : Symbols) : Type 0 where
  pub lines : List SymLine
  pub are : AreLinesOf signals instances labels lines
  pub text : IsTextOfLines s lines

-- the text of the lines of the program's signals
pub record IsTextOfSymbols (program : Program) (level : Level) (s : Symbols) : Type 0 where
  pub lines : List SymLine
  pub are : AreSymbolsOf program level lines
  pub text : IsTextOfLines s lines

-- what is answered for a program: the text of its lines, or why it isn't written
abbrev pub Names : Program → Level → Result Symbols CompileFault → Type 0
Names program level (Ok s) = IsTextOfSymbols program level s
Names program level (Err e) = Writes program level (Err e)

-- the source loads as a program that has these lines
pub record AreNamesOf (files : Contents) (task : Task) (lines : List SymLine) : Type 0 where
  pub program : Program
  pub loaded : IsLoaded files task.name task.library program
  pub are : AreSymbolsOf program task.level lines

-- the line's wire is the place of its label among these
abbrev pub HasWireOf : (labels : List ℕ) → SymLine → Type 0
HasWireOf labels line = line.wire ≡ wire_among labels line.label
