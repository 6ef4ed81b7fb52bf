-- The command `sym`: the lines that name a source's signals.
use Rattle.std.specs.Prelude.{◌≡◌, ℕ, List, length, Some, Result, Ok, Err}
use Rattle.std.specs.List.{AllByRecursion}
use Rattle.out_io.specs.Contents.{Contents}
use Rattle.iden_files.specs.File.{File}
use Rattle.cir_compile.specs.Compiled.{IsCompiled, NotCompiled}
use Rattle.cir_compile.specs.declared.fault.CompileFault.{CompileFault}
use Rattle.cir_symbols.specs.Symbols.{AreNamesOf, HasWireOf, IsTextOfLines}
use Rattle.cir_symbols.specs.declared.symbols.Symbols.{Symbols}
use Rattle.sym_file.specs.declared.line.SymLine.{SymLine}
use Rattle.sym_file.specs.Line.{symbols_of, symbols_text}
use Rattle.circom_words.specs.Words.{Options}
use Rattle.circom_lines.specs.declared.answer.Refusal.{Refusal}
use Rattle.out_io.specs.Held.{OfAll}
use Rattle.circom_files.specs.Reply.{Reply, symbols_written}
use Rattle.circom_files.specs.Steps.{StepsTo}
use Rattle.circom_files.specs.declared.stop.Stop.{Stop}
use Rattle.circom_gold.specs.Compile.{IsUncompiled, task_of}

-- the lines of the signals of the source under the name, or why it isn't compiled
abbrev pub NamesTo : Contents → List ℕ → Options → Result (List SymLine) Refusal → Type 0
NamesTo files source options (Ok lines) = AreNamesOf files (task_of source options) lines
NamesTo files source options (Err refusal) = IsUncompiled files source options refusal

-- the lines are written under the name
abbrev pub names_written : List ℕ → List SymLine → Reply
names_written out lines = symbols_written out (length lines) (symbols_text lines)

-- The bytes are the lines of the source's signals, which are read as they are: line n is of signal
-- n. Its wire is the one whose label is n in the file that the source is compiled to.
pub record AreNamesIn (files : Contents) (source : List ℕ) (options : Options) (bytes : List ℕ)
    : Type 0 where
  pub lines : List SymLine
  pub named : AreNamesOf files (task_of source options) lines
  pub text : bytes ≡ symbols_text lines
  pub read : symbols_of bytes ≡ Ok lines
  pub file : File
  pub compiled : IsCompiled files (task_of source options) file
  pub wires : AllByRecursion (HasWireOf file.labels) lines

-- the reply writes such bytes under the name
pub record WritesNames (files : Contents) (source : List ℕ) (options : Options) (out : List ℕ)
    (r : Reply) : Type 0 where
  pub bytes : List ℕ
  pub file : r.file ≡ Some (record { name = out; bytes = bytes })
  pub names : AreNamesIn files source options bytes

-- the text of the lines of the source's signals
pub record IsTextOfNames (files : Contents) (source : List ℕ) (options : Options) (s : Symbols)
    : Type 0 where
  pub lines : List SymLine
  pub named : AreNamesOf files (task_of source options) lines
  pub text : IsTextOfLines s lines

-- that text over all contents that there may be, or why the source doesn't compile
abbrev pub NamesBy : (Contents → Type 0) → List ℕ → Options → (failed : Type 0)
    → Result Symbols CompileFault → Type 0
NamesBy held source options failed (Ok s) =
    OfAll held (λ files. IsTextOfNames files source options s)
NamesBy held source options failed (Err e) =
    NotCompiled held (task_of source options) failed e

-- the same of a command's step
abbrev pub NamesIn : (Contents → Type 0) → List ℕ → Options → (failed : Type 0)
    → Result Symbols Stop → Type 0
NamesIn held source options failed (Ok s) =
    OfAll held (λ files. IsTextOfNames files source options s)
NamesIn held source options failed (Err stop) =
    StepsTo (λ (lines : List SymLine). lines) held
    (λ files found. NamesTo files source options found) failed (Err stop)
