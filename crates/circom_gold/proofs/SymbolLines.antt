-- What is written of a source's signals.
use Rattle.std.proofs.Common.{◌≡◌, ◌∙◌, ◌↔◌, ℕ, List, Result, Ok, Err, ap}
use Rattle.std.proofs.Common.{inr, refl, sym, arith}
use Rattle.out_io.specs.Contents.{Contents}
use Rattle.iden_files.specs.File.{File}
use Rattle.cir_ast.specs.Program.{bare_program}
use Rattle.cir_ast.specs.declared.program.Program.{Program as CodeProgram}
use Rattle.cir_compile.specs.Compiled.{IsCompiled}
use Rattle.cir_compile.specs.declared.fault.CompileFault.{CompileFault}
use Rattle.cir_compile.specs.declared.fault.CompileFault.TheVariants as fault
use Rattle.cir_names.specs.Loading.{IsLoaded}
use Rattle.cir_symbols.specs.Symbols.{AreNamesOf, Names}
use Rattle.cir_symbols.specs.declared.symbols.Symbols.{Symbols}
use Rattle.cir_symbols.proofs.One.{compiled_as, one_naming, wires_of_file}
use Rattle.sym_file.specs.declared.line.SymLine.{SymLine}
use Rattle.circom_words.specs.Words.{Options}
use Rattle.circom_lines.specs.declared.answer.Refusal.{Refusal}
use Rattle.out_io.specs.Held.{OfAll}
use Rattle.circom_files.specs.Reply.{Reply, Says, said, symbols_written}
use Rattle.circom_files.specs.declared.stop.Stop.{Stop}
use Rattle.circom_files.specs.declared.stop.Stop.TheVariants.{Refused, StoreFailed, OutOfMemory}
use Rattle.circom_gold.specs.Compile.{task_of}
use Rattle.circom_gold.specs.Symbols.{IsTextOfNames, NamesBy, NamesIn, NamesTo}
use Rattle.circom_gold.specs.Symbols.{WritesNames, names_written}
use Rattle.circom_gold.proofs.OneCompiled.{compiled_and_not, one_uncompiled}
use Rattle.circom_gold.proofs.Sourcing.{Compiling}

module _ (files : Contents) (source : List ℕ) (options : Options) where
  -- the file that a named source compiles to
  compiled : (lines : List SymLine) (n : AreNamesOf files (task_of source options) lines)
      → IsCompiled files (task_of source options) n.are.file
  compiled lines n = compiled_as files (task_of source options) n.program lines n.loaded n.are

  pub one_named : (x y : Result (List SymLine) Refusal) → NamesTo files source options x
      → NamesTo files source options y → x ≡ y
  one_named (Ok xs) (Ok ys) a b = ap Ok (one_naming files (task_of source options) xs ys a b)
  one_named (Ok xs) (Err r) a b =
      absurd (compiled_and_not files source options a.are.file r (compiled xs a) b)
  one_named (Err r) (Ok ys) a b =
      absurd (compiled_and_not files source options b.are.file r (compiled ys b) a)
  one_named (Err r) (Err s) a b =
      ap (λ (x : Refusal). Err x) (one_uncompiled files source options r s a b)

  -- a successful reply comes of a source that compiles
  module _ (out : List ℕ) where
    named_so : (found : Result (List SymLine) Refusal) → NamesTo files source options found
        → (said (names_written out) found).status ≡ 0
        → (f : File) × IsCompiled files (task_of source options) f
    named_so (Ok lines) is zero = (is.are.file, compiled lines is)
    named_so (Err r) is zero = absurd (omega (arith, zero))

    so_named : (found : Result (List SymLine) Refusal) (f : File)
        → NamesTo files source options found → IsCompiled files (task_of source options) f
        → (said (names_written out) found).status ≡ 0
    so_named (Ok lines) f is w = refl
    so_named (Err r) f is w = absurd (compiled_and_not files source options f r w is)

    pub status_of : (r : Reply)
        → Says (names_written out) (λ found. NamesTo files source options found) r
        → (r.status ≡ 0) ↔ ((f : File) × IsCompiled files (task_of source options) f)
    status_of r (found, is, e) = (
      λ zero. named_so found is (sym (ap (λ (x : Reply). x.status) e) ∙ zero),
      λ w. ap (λ (x : Reply). x.status) e ∙ so_named found w.0 is w.1,
    )

    -- the reply that writes the text of a source's lines
    pub written_as : (s : Symbols) (t : IsTextOfNames files source options s)
        → symbols_written out s.count s.text ≡ names_written out t.lines
    written_as s t = λ i. symbols_written out (t.text.count i) (t.text.text i)

    pub writes_names : (s : Symbols) (r : Reply) → IsTextOfNames files source options s
        → r ≡ symbols_written out s.count s.text → WritesNames files source options out r
    writes_names s r t e = record {
      bytes = s.text;
      file = ap (λ (x : Reply). x.file) e;
      names = record {
        lines = t.lines;
        named = t.named;
        text = t.text.text;
        read = t.text.read_back;
        file = t.named.are.file;
        compiled = compiled t.lines t.named;
        wires = wires_of_file files (task_of source options) t.named.are.file t.lines
            (compiled t.lines t.named) t.named;
      };
    }

module _ (held : Contents → Type 0) (source : List ℕ) (options : Options)
    (failed : Type 0) where
  -- a source that doesn't compile has no lines
  pub names_stopped : (stop : Stop) → Compiling held source options failed (Err stop)
      → NamesIn held source options failed (Err stop)
  names_stopped (Refused r) step = step
  names_stopped StoreFailed step = step
  names_stopped OutOfMemory step = tt

  -- the lines of a loaded program
  pub named : (program : CodeProgram) (result : Result Symbols CompileFault)
      → OfAll held (λ files. IsLoaded files source options.folder (bare_program program))
      → Names (bare_program program) options.level result
      → NamesBy held source options failed result
  named program (Ok s) loaded names = λ files may. record {
    lines = names.lines;
    named = record {
      program = bare_program program;
      loaded = loaded files may;
      are = names.are;
    };
    text = names.text;
  }
  named program (Err fault.Missing) loaded names = absurd names
  named program (Err fault.Fault) loaded names = absurd names
  named program (Err (fault.Refused r)) loaded names = λ files may.
      inr (bare_program program, loaded files may, names)
  named program (Err fault.OutOfMemory) loaded names = tt
