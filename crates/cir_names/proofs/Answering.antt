-- From code's sources to their program, or to its refusal.
use Rattle.std.proofs.Common.{◌≡◌, ◌∙◌, ℕ, List, [], ◌∷◌, Ok, Err, Option, Some}
use Rattle.std.proofs.Common.{None, String}
use Rattle.std.proofs.Common.{inl, inr, refl, ap, sym, subst}
use Rattle.std.specs.Prelude.{map}
use Rattle.std.specs.declared.alloc.Global.{Global}
use Rattle.std.specs.BTreeSet.{BTreeSet}
use Rattle.out_io.specs.Contents.{Contents}
use Rattle.out_io.specs.Held.{OfAll}
use Rattle.cir_ast.specs.Plain.{plain_file}
use Rattle.cir_ast.specs.Program.{Program}
use Rattle.cir_resolve.specs.Definitions.{Definition, resolved}
use Rattle.cir_checks.specs.Checked.{IsChecked}
use Rattle.cir_checks.specs.Checks.{first_fault, program_with}
use Rattle.cir_checks.specs.declared.stop.Found.{Found}
use Rattle.cir_sources.specs.declared.source.Source.{Source as CodeSource}
use Rattle.cir_sources.specs.declared.fault.LoadFault.{LoadFault}
use Rattle.cir_sources.specs.declared.fault.LoadFault.TheVariants as load
use Rattle.cir_sources.specs.Includes.{Source, seen}
use Rattle.cir_sources.specs.Steps.{AreMissing, Refuses}
use Rattle.cir_sources.specs.Loading.{AreAll, AreSources, NotLoaded as Unread}
use Rattle.cir_names.specs.Programs.{tree_of, definitions_from, names_of, AreTrees, name_fault}
use Rattle.cir_names.specs.Programs.{refusal_of, IsProgramOf}
use Rattle.cir_names.specs.Loading.{Checks, NotLoaded}
use Rattle.cir_names.specs.Resting.{IsLoadedWithout}
use Rattle.cir_checks.proofs.UsedPrograms.{is_used}
use Rattle.cir_names.proofs.Lows.{low_program}

are_trees : (sources : List CodeSource) → AreTrees (map seen sources) (map tree_of sources)
are_trees [] = refl
are_trees (s ∷ ss) = λ i. plain_file (tree_of s) ∷ are_trees ss i

-- what is known of the definitions of these sources
pub record AreTheirs (sources : List CodeSource) (files : List (List ℕ))
    (definitions : List Definition) : Type 0 where
  pub names : files ≡ names_of (map seen sources)
  pub all : definitions ≡ definitions_from 0 (map tree_of sources)

pub loads : (sources : List CodeSource) (files : List (List ℕ))
    (definitions named : List Definition) (p : Program) → AreTheirs sources files definitions
    → resolved definitions ≡ Ok named → first_fault named ≡ None
    → p ≡ program_with files named
    → AreSources (map seen sources) → IsProgramOf (map seen sources) p × IsChecked p
loads sources files definitions named p are e faultless is known =
    let same : resolved (definitions_from 0 (map tree_of sources)) ≡ Ok named =
    ap resolved (sym are.all) ∙ e in (
      record {
        trees = map tree_of sources;
        are = are_trees sources;
        definitions = named;
        named = same;
        faultless = faultless;
        is = is ∙ ap (λ names. program_with names named) are.names;
      },
      subst IsChecked (sym is) record {
        used = is_used files named faultless;
        low = low_program files sources named known.read same;
      },
    )

-- a refusal of a name
pub refused : (sources : List CodeSource) (files : List (List ℕ)) (definitions : List Definition)
    (found : Found) (e : LoadFault) → AreTheirs sources files definitions
    → name_fault (resolved definitions) ≡ Some found
    → Refuses (λ r. r ≡ refusal_of files found) e
    → Checks (map seen sources) (Err e)
refused sources files definitions found (load.Refused r) are fault is = record {
  trees = map tree_of sources;
  are = are_trees sources;
  found = found;
  fault = ap (λ ds. name_fault (resolved ds)) (sym are.all) ∙ fault;
  refusal = is ∙ ap (λ names. refusal_of names found) are.names;
}
refused sources files definitions found load.OutOfMemory are fault is = tt
refused sources files definitions found _ are fault is = absurd is

-- the sources are loaded, and they are of this program
pub well_named : {held : Contents → Type 0} {name : List ℕ} {library : Option (List ℕ)}
    (missing : BTreeSet (String Global)) (sources : List Source) (p : Program)
    → OfAll held (λ files. AreAll files name library sources × AreMissing files missing)
    → IsProgramOf sources p
    → OfAll held (λ files. IsLoadedWithout files name library missing p)
well_named missing sources p all theirs = λ files may.
    let are = all files may in record {
      loaded = record { sources = sources; all = are.0; theirs = theirs };
      missing_are = are.1;
    }

module _ (held : Contents → Type 0) (name : List ℕ) (library : Option (List ℕ))
    (failed : Type 0) where
  -- the sources aren't loaded
  pub unread : (e : LoadFault) → Unread held name library failed e
      → NotLoaded held name library failed e
  unread (load.Refused r) h = λ files may. inl (h files may)
  unread _ h = h

  -- they are of no program
  pub misnamed : (missing : BTreeSet (String Global)) (sources : List Source) (e : LoadFault)
      → OfAll held (λ files. AreAll files name library sources × AreMissing files missing)
      → Checks sources (Err e) → NotLoaded held name library failed e
  misnamed missing sources (load.Refused r) all fault = λ files may.
      inr record { sources = sources; all = (all files may).0; fault = fault }
  misnamed missing sources load.OutOfMemory all fault = tt
  misnamed missing sources _ all fault = absurd fault
