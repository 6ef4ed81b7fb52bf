-- What is known of files once a program is loaded.
use Rattle.std.specs.Prelude.{◌≡◌, ℕ, true, false, List, Option, Result, Ok, Err, String}
use Rattle.std.specs.declared.alloc.Global.{Global}
use Rattle.std.specs.BTreeSet.{BTreeSet, contains_text}
use Rattle.out_io.specs.Contents.{Contents}
use Rattle.out_io.specs.Held.{OfAll}
use Rattle.cir_ast.specs.Program.{Program, bare_program}
use Rattle.cir_sources.specs.declared.fault.LoadFault.{LoadFault}
use Rattle.cir_sources.specs.Includes.{is_among}
use Rattle.cir_sources.specs.Steps.{AreMissing}
use Rattle.cir_names.specs.declared.loading.Known.{Known}
use Rattle.cir_names.specs.declared.loading.Known.TheVariants.{Source, Missing, Nothing}
use Rattle.cir_names.specs.declared.loading.Loaded.{Loaded}
use Rattle.cir_names.specs.Loading.{IsLoaded, NotLoaded}

-- the program is loaded, and these names have no file
pub record IsLoadedWithout (files : Contents) (name : List ℕ) (library : Option (List ℕ))
    (missing : BTreeSet (String Global)) (program : Program) : Type 0 where
  pub loaded : IsLoaded files name library program
  pub missing_are : AreMissing files missing

-- the program with the names that were asked for and have no file, or why there is none
abbrev pub LoadsAll : (held : Contents → Type 0) → List ℕ → Option (List ℕ)
    → (failed : Type 0) → Result Loaded LoadFault → Type 0
LoadsAll held name library failed (Ok l) =
    OfAll held (λ files. IsLoadedWithout files name library l.missing (bare_program l.program))
LoadsAll held name library failed (Err e) = NotLoaded held name library failed e

-- the name is a source's, or one that has no file, or neither
abbrev pub IsKnown : BTreeSet (String Global) → List (List ℕ) → List ℕ → Known → Type 0
IsKnown missing names name Source = is_among names name ≡ true
IsKnown missing names name Missing = contains_text missing name ≡ true
IsKnown missing names name Nothing =
    (contains_text missing name ≡ false) × (is_among names name ≡ false)
