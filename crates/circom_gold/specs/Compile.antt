-- The command `compile`: the file of a source's constraints.
use Rattle.std.specs.Prelude.{◌≡◌, ◌↔◌, ◌⊎◌, ℕ, ◌<◌, List, slice_index, All}
use Rattle.std.specs.Prelude.{None}
use Rattle.std.specs.Prelude.{Result, Ok, Err}
use Rattle.out_io.specs.Contents.{Contents}
use Rattle.gold_field.specs.Form.{Holds}
use Rattle.iden_files.specs.File.{File}
use Rattle.iden_files.specs.ReadR1cs.{r1cs_of}
use Rattle.cir_ast.specs.Program.{Program}
use Rattle.cir_lc.specs.Number.{Assignment}
use Rattle.cir_meaning.specs.Compile.{Satisfies as SatisfiesSource}
use Rattle.cir_names.specs.Loading.{IsLoaded}
use Rattle.cir_compile.specs.Compiled.{Task, IsCompiled, IsRefused}
use Rattle.cir_compile.specs.Written.{AreValues}
use Rattle.circom_words.specs.Words.{Options}
use Rattle.cir_ast.specs.declared.refusal.Refusal.{Refusal as SourceRefusal}
use Rattle.circom_lines.specs.declared.answer.Refusal.{Refusal}
use Rattle.circom_lines.specs.declared.answer.Refusal.TheVariants.{NoSuchFile, BadSource}

-- the source is compiled with these options
abbrev pub task_of : List ℕ → Options → Task
task_of source options = record {
  name = source;
  library = options.folder;
  level = options.level;
}

-- the source loads from the second contents as it does from the first
abbrev pub LoadsAgain : (first second : Contents) → List ℕ → Options → Type 0
LoadsAgain first second source options =
    (p : Program) → IsLoaded first source options.folder p → IsLoaded second source options.folder p

-- there is no source under the name, or it is refused
abbrev pub IsUncompiled : Contents → List ℕ → Options → Refusal → Type 0
IsUncompiled files source options refusal =
    ((refusal ≡ NoSuchFile source) × (files source ≡ None))
    ⊎ ((r : SourceRefusal) × (refusal ≡ BadSource r) × IsRefused files (task_of source options) r)

-- what the source under the name, with all that it includes, compiles to: the file of its
-- constraints, or why there is none
abbrev pub CompilesTo : Contents → List ℕ → Options → Result File Refusal → Type 0
CompilesTo files source options (Ok f) = IsCompiled files (task_of source options) f
CompilesTo files source options (Err refusal) = IsUncompiled files source options refusal

-- The bytes are read as the file that the source under the name, with all that it includes,
-- compiles to. Values of its wires satisfy its constraints exactly when they extend to an
-- assignment that satisfies the source's program: the value of each wire is that of the signal that
-- its label names.
pub record AreConstraintsOf (files : Contents) (source : List ℕ) (options : Options)
    (bytes : List ℕ) : Type 0 where
  pub file : File
  pub read : r1cs_of bytes ≡ Ok file
  pub compiled : IsCompiled files (task_of source options) file
  pub exactly : (values : List ℕ) → AreValues file values
      → All (Holds (slice_index values)) file.constraints
      ↔ ((s : Assignment)
      × ((wire : ℕ) → wire < file.wires
      → s.at (slice_index file.labels wire) ≡ slice_index values wire)
      × SatisfiesSource compiled.program s)
