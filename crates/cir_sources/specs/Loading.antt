-- What the loading of a program's sources answers.
use Rattle.std.specs.Prelude.{◌≡◌, ℕ, ◌+◌, ◌≤◌, List, [], ◌∷◌, length}
use Rattle.std.specs.Prelude.{⊤, ◌⊎◌, All, Option, None, Some, Result, Err}
pub use Rattle.std.specs.declared.alloc.Global.{Global}
use Rattle.out_io.specs.Faults.{one_more_fault}
use Rattle.out_io.specs.Held.{OfAll}
use Rattle.out_io.specs.declared.fault.IoFault.{IoFault}
use Rattle.out_io.specs.declared.fault.IoFault.TheVariants as io
pub use Rattle.cir_sources.specs.declared.source.Source.{Source as CodeSource}
pub use Rattle.cir_sources.specs.declared.fault.LoadFault.{LoadFault}
use Rattle.cir_sources.specs.declared.fault.LoadFault.TheVariants as fault
use Rattle.cir_sources.specs.Includes.{Contents, Site, Source, IsRead, IsSource, includes_of}
use Rattle.cir_sources.specs.Includes.{left_after}
use Rattle.cir_sources.specs.Faults.{Refusal, IsFault, IsStop, most_files}

-- these sources are reached from the first file of this name, in this order, no more than a program
-- may have, and these includes are left to follow
pub record AreReached (files : Contents) (name : List ℕ) (library : Option (List ℕ))
    (first : Source) (more : List Source) (left : List Site) : Type 0 where
  pub named : first.name ≡ name
  pub source : IsSource files first
  pub sources : All (IsSource files) more
  pub few : 1 + length more ≤ most_files
  pub sites : left_after files library (name ∷ []) (includes_of first) more ≡ Some left

-- all sources of the program
pub record AreAll (files : Contents) (name : List ℕ) (library : Option (List ℕ))
    (all : List Source) : Type 0 where
  pub first : Source
  pub more : List Source
  pub parts : all ≡ first ∷ more
  pub reached : AreReached files name library first more []

-- the first file has a fault
pub record IsFirstFault (files : Contents) (name : List ℕ) (r : Refusal) : Type 0 where
  pub bytes : List ℕ
  pub there : files name ≡ Some bytes
  pub fault : IsFault name bytes r

-- the first include whose file isn't loaded can't be followed
pub record IsIncludeFault (files : Contents) (name : List ℕ) (library : Option (List ℕ))
    (r : Refusal) : Type 0 where
  pub first : Source
  pub more : List Source
  pub site : Site
  pub rest : List Site
  pub reached : AreReached files name library first more (site ∷ rest)
  pub stop : IsStop files library (1 + length more) site r

-- what the files of a program give: its sources, nothing where its first file isn't there, or why
-- it is refused
pub data Answer : Type 0 where
  Sources : List Source → Answer
  NoFile : Answer
  Refused : Refusal → Answer

abbrev pub IsAnswer : Contents → List ℕ → Option (List ℕ) → Answer → Type 0
IsAnswer files name library (Sources all) = AreAll files name library all
IsAnswer files name library NoFile = files name ≡ None
IsAnswer files name library (Refused r) =
    IsFirstFault files name r ⊎ IsIncludeFault files name library r

-- the fault of a store's call
abbrev pub fault_of : IoFault → LoadFault
fault_of io.Failed = fault.Fault
fault_of io.OutOfMemory = fault.OutOfMemory

-- Why the sources of the file of this name aren't loaded: it is so of all contents that there may
-- be. The loading fails only where the store did; want of memory is free.
abbrev pub NotLoaded : (held : Contents → Type 0) → List ℕ → Option (List ℕ)
    → (failed : Type 0) → LoadFault → Type 0
NotLoaded held name library failed fault.Missing =
    OfAll held (λ files. IsAnswer files name library NoFile)
NotLoaded held name library failed (fault.Refused r) =
    OfAll held (λ files. IsAnswer files name library (Refused r))
NotLoaded held name library failed fault.Fault = failed
NotLoaded held name library failed fault.OutOfMemory = ⊤

-- the count of faults after the loading: one more where the store's fault ended it, and else as it
-- was
abbrev pub faults_by : {T : Type 0} → Result T LoadFault → ℕ → ℕ
faults_by (Err fault.Fault) faults = one_more_fault faults
faults_by _ faults = faults

-- the source is read from some bytes
abbrev pub IsDecoded : Source → Type 0
IsDecoded s = (bytes : List ℕ) × IsRead bytes s.tree

-- what is known of the sources whatever the store holds
pub record AreSources (all : List Source) : Type 0 where
  pub some : 1 ≤ length all
  pub few : length all ≤ most_files
  pub read : All IsDecoded all
