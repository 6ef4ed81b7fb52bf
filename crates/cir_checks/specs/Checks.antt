-- The first fault of a program whose names are resolved: no main component, or a second one; then a
-- name that is used wrongly, in the order of loading.
use Rattle.std.specs.Prelude.{ℕ, List, [], ◌∷◌, Option, Some, None}
use Rattle.cir_ast.specs.declared.refusal.Kind.TheVariants.{Main as NoMain}
use Rattle.cir_ast.specs.declared.program.Spot.{Spot}
use Rattle.cir_ast.specs.Program.{Main, Program}
use Rattle.cir_ast.specs.Spot.{start}
use Rattle.cir_resolve.specs.Definitions.{Definition, IsTemplate, IsFunction, IsMain}
use Rattle.cir_checks.specs.declared.stop.Found.{Found}
use Rattle.cir_checks.specs.Faults.{◌⨾◌, first_in, in_file}
use Rattle.cir_checks.specs.Heads.{Table, table_of, templates_among, functions_among}
use Rattle.cir_checks.specs.Statements.{template_fault, function_fault, main_fault}

abbrev pub mains_among : List Definition → List Main
mains_among [] = []
mains_among (IsMain m ∷ ds) = m ∷ mains_among ds
mains_among (_ ∷ ds) = mains_among ds

abbrev pub no_main : ℕ → Spot → Found
no_main file spot = record { file = file; fault = record { kind = NoMain; spot = spot } }

abbrev pub second_main : List Main → Option Found
second_main [] = None
second_main (m ∷ ms) = Some (no_main m.file m.spot)

-- one that is missing would stand at the start of the first file
abbrev pub mains_fault : List Main → Option Found
mains_fault [] = Some (no_main 0 start)
mains_fault (m ∷ ms) = second_main ms

abbrev pub use_fault : Table → Definition → Option Found
use_fault t (IsTemplate d) = in_file d.file (template_fault t d)
use_fault t (IsFunction d) = in_file d.file (function_fault t d)
use_fault t (IsMain m) = in_file m.file (main_fault t m)

abbrev pub table_among : List Definition → Table
table_among ds = table_of (templates_among ds) (functions_among ds)

abbrev pub first_fault : List Definition → Option Found
first_fault ds = mains_fault (mains_among ds) ⨾ first_in (use_fault (table_among ds)) ds

-- the program of these definitions, in the files of these names
abbrev pub program_with : List (List ℕ) → List Definition → Program
program_with files ds =
    record {
      files = files;
      templates = templates_among ds;
      functions = functions_among ds;
      mains = mains_among ds;
    }
