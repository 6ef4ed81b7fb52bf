-- The program of a list of source files.
use Rattle.std.specs.Prelude.{◌≡◌, ℕ, ◌+◌, List, [], ◌∷◌, ◌++◌, map, unwrap_or, slice_get, Option}
use Rattle.std.specs.Prelude.{Some, None, Result, Ok, Err}
use Rattle.cir_ast.specs.declared.program.Meant.{Meant}
use Rattle.cir_ast.specs.declared.program.Spot.{Spot}
use Rattle.cir_ast.specs.declared.refusal.Kind.TheVariants.{Duplicate}
use Rattle.cir_ast.specs.declared.refusal.Refusal.{Refusal}
use Rattle.cir_ast.specs.Tree.{File, bare_file}
use Rattle.cir_ast.specs.Plain.{plain_file}
use Rattle.cir_ast.specs.Program.{Program}
use Rattle.cir_ast.specs.Spot.{refusal_at}
use Rattle.cir_resolve.specs.declared.stop.Found.{Found as Place}
use Rattle.cir_resolve.specs.Definitions.{Definition, definitions_of, resolved}
use Rattle.cir_checks.specs.Checks.{first_fault, program_with}
use Rattle.cir_checks.specs.declared.stop.Found.{Found}
use Rattle.cir_sources.specs.declared.source.Source.{Source as CodeSource}
use Rattle.cir_sources.specs.Includes.{Source}

abbrev pub names_of : List Source → List (List ℕ)
names_of ss = map (λ s. s.name) ss

abbrev pub tree_of : CodeSource → File Spot Meant
tree_of s = bare_file s.file

-- those of all files in their order; the first one has the place n
abbrev pub definitions_from : ℕ → List (File Spot Meant) → List Definition
definitions_from n [] = []
definitions_from n (file ∷ files) = definitions_of n file ++ definitions_from (n + 1) files

-- these are the sources' trees, whatever their names carry before they are resolved
abbrev pub AreTrees : List Source → List (File Spot Meant) → Type 0
AreTrees sources trees = map plain_file trees ≡ map (λ s. s.tree) sources

-- a name that is declared or defined twice, or else the first that is used wrongly
abbrev pub name_fault : Result (List Definition) Place → Option Found
name_fault (Err place) =
    Some record { file = place.file; fault = record { kind = Duplicate; spot = place.spot } }
name_fault (Ok definitions) = first_fault definitions

-- a fault in the file of its place among these names
abbrev pub refusal_of : List (List ℕ) → Found → Refusal
refusal_of names found =
    refusal_at (unwrap_or (slice_get names found.file) []) found.fault.kind found.fault.spot

-- the program of these sources: their definitions with each name resolved, and nothing is wrong
-- with the names
pub record IsProgramOf (sources : List Source) (program : Program) : Type 0 where
  pub trees : List (File Spot Meant)
  pub are : AreTrees sources trees
  pub definitions : List Definition
  pub named : resolved (definitions_from 0 trees) ≡ Ok definitions
  pub faultless : first_fault definitions ≡ None
  pub is : program ≡ program_with (names_of sources) definitions

-- why these sources are of no program
pub record IsNameFault (sources : List Source) (r : Refusal) : Type 0 where
  pub trees : List (File Spot Meant)
  pub are : AreTrees sources trees
  pub found : Found
  pub fault : name_fault (resolved (definitions_from 0 trees)) ≡ Some found
  pub refusal : r ≡ refusal_of (names_of sources) found
