-- Which files the loading of a program asks for.
use Rattle.std.specs.Prelude.{◌≡◌, ◌≢◌, ℕ, List, ◌⊎◌, All, Option, None, Some}
use Rattle.out_io.specs.Contents.{Contents}
use Rattle.cir_sources.specs.Includes.{Source, beside, bytes_at, in_library, includes_of}
use Rattle.cir_sources.specs.Loading.{AreAll}
use Rattle.cir_sources.specs.declared.source.Site.{Site}

-- the include's file is looked for under the name: beside the including one, and where there is
-- none, in the folder of libraries
abbrev pub IsSoughtAs : Contents → Option (List ℕ) → List ℕ → Site → Type 0
IsSoughtAs files library name site =
    (beside site ≡ name)
    ⊎ ((bytes_at files (beside site) ≡ None) × (in_library library site ≡ Some name))

-- the source has another name, and none of its includes is looked for under this one
pub record HasNoPart (files : Contents) (library : Option (List ℕ)) (name : List ℕ) (s : Source)
    : Type 0 where
  pub other : s.name ≢ name
  pub includes : All (λ site. ¬ IsSoughtAs files library name site) (includes_of s)

-- the loading of the source asks for no file of this name
abbrev pub IsUnasked : Contents → (source : List ℕ) → Option (List ℕ) → (name : List ℕ) → Type 0
IsUnasked files source library name = (sources : List Source)
    → AreAll files source library sources → All (HasNoPart files library name) sources
