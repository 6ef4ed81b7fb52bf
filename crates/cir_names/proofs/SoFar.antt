-- The definitions of sources, and the sources that are left.
use Rattle.std.proofs.Common.{◌≡◌, ℕ, ◌+◌, ◌≤◌, List, ◌++◌, length}
use Rattle.std.specs.Prelude.{map}
use Rattle.cir_resolve.specs.Definitions.{Definition}
use Rattle.cir_sources.specs.declared.source.Source.{Source as CodeSource}
use Rattle.cir_sources.specs.Faults.{most_files}
use Rattle.cir_sources.specs.Includes.{seen}
use Rattle.cir_names.specs.Programs.{tree_of, definitions_from, names_of}

-- the names and the definitions so far, and those of the rest, are the whole
pub record IsGathered (sources : List CodeSource) (files : List (List ℕ))
    (definitions : List Definition) (rest : List CodeSource) : Type 0 where
  pub names_are : files ++ names_of (map seen rest) ≡ names_of (map seen sources)
  pub definitions_are : definitions ++ definitions_from (length files) (map tree_of rest)
      ≡ definitions_from 0 (map tree_of sources)
  pub few : length files + length (map seen rest) ≤ most_files
