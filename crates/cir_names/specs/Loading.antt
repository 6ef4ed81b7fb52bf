-- What loading a program answers.
use Rattle.std.specs.Prelude.{◌≡◌, ℕ, List, ⊤, ◌⊎◌, Option, None, Result, Ok, Err}
use Rattle.out_io.specs.Contents.{Contents}
use Rattle.out_io.specs.Held.{OfAll}
use Rattle.cir_ast.specs.declared.program.Program.{Program as CodeProgram}
use Rattle.cir_ast.specs.declared.refusal.Refusal.{Refusal}
use Rattle.cir_ast.specs.Program.{Program, bare_program}
use Rattle.cir_sources.specs.Includes.{Source}
use Rattle.cir_sources.specs.Loading.{AreAll, AreSources, IsFirstFault, IsIncludeFault}
use Rattle.cir_sources.specs.declared.fault.LoadFault.{LoadFault}
use Rattle.cir_sources.specs.declared.fault.LoadFault.TheVariants as fault
use Rattle.cir_names.specs.Programs.{IsProgramOf, IsNameFault}

-- the sources are all that the first one reaches, and the program is theirs
pub record IsLoaded (files : Contents) (name : List ℕ) (library : Option (List ℕ))
    (program : Program) : Type 0 where
  pub sources : List Source
  pub all : AreAll files name library sources
  pub theirs : IsProgramOf sources program

-- the program of some sources: this is known of it whatever the store holds
pub record IsOfSources (program : Program) : Type 0 where
  pub sources : List Source
  pub are : AreSources sources
  pub theirs : IsProgramOf sources program

-- something is wrong with the names in all sources
pub record IsNameRefusal (files : Contents) (name : List ℕ) (library : Option (List ℕ))
    (r : Refusal) : Type 0 where
  pub sources : List Source
  pub all : AreAll files name library sources
  pub fault : IsNameFault sources r

-- the first refusal: a source's, in the order of loading, or else that of a name
abbrev pub IsLoadFault : Contents → List ℕ → Option (List ℕ) → Refusal → Type 0
IsLoadFault files name library r =
    (IsFirstFault files name r ⊎ IsIncludeFault files name library r)
    ⊎ IsNameRefusal files name library r

-- Why the file of this name with all that it includes gives no program, over all contents that
-- there may be: there is no file of the name, or the first refusal. It fails only where the store
-- did; want of memory is free.
abbrev pub NotLoaded : (held : Contents → Type 0) → List ℕ → Option (List ℕ)
    → (failed : Type 0) → LoadFault → Type 0
NotLoaded held name library failed fault.Missing = OfAll held (λ files. files name ≡ None)
NotLoaded held name library failed (fault.Refused r) =
    OfAll held (λ files. IsLoadFault files name library r)
NotLoaded held name library failed fault.Fault = failed
NotLoaded held name library failed fault.OutOfMemory = ⊤

-- the program, or why there is none
abbrev pub Loads : (held : Contents → Type 0) → List ℕ → Option (List ℕ)
    → (failed : Type 0) → Result CodeProgram LoadFault → Type 0
Loads held name library failed (Ok program) =
    OfAll held (λ files. IsLoaded files name library (bare_program program))
Loads held name library failed (Err e) = NotLoaded held name library failed e

-- the program of these sources, or the first fault of a name
abbrev pub Checks : List Source → Result CodeProgram LoadFault → Type 0
Checks sources (Ok program) = IsProgramOf sources (bare_program program)
Checks sources (Err (fault.Refused r)) = IsNameFault sources r
Checks sources (Err fault.Missing) = ⊥
Checks sources (Err fault.Fault) = ⊥
Checks sources (Err fault.OutOfMemory) = ⊤
