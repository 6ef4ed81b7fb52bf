-- What the search for all sources of a program answers.
use Rattle.std.specs.Prelude.{ℕ, List, map, Option, Result, Ok, Err}
use Rattle.out_io.specs.Held.{OfAll}
use Rattle.cir_sources.specs.declared.loading.Reached.{Reached}
use Rattle.cir_sources.specs.Includes.{Contents, seen}
use Rattle.cir_sources.specs.Loading.{LoadFault, AreAll, NotLoaded}
use Rattle.cir_sources.specs.Steps.{AreMissing}

-- all sources are reached, and these names have no file; or why they aren't
abbrev pub Reaches : (held : Contents → Type 0) → List ℕ → Option (List ℕ)
    → (failed : Type 0) → Result Reached LoadFault → Type 0
Reaches held name library failed (Ok r) = OfAll held
    (λ files. AreAll files name library (map seen r.sources.items) × AreMissing files r.missing)
Reaches held name library failed (Err e) = NotLoaded held name library failed e
