-- A program of sources is resolved, its functions may run, and its templates are counted.
use Rattle.std.proofs.Common.{ℕ, List, [], ◌∷◌, Option, sym, subst}
use Rattle.std.specs.Prelude.{map, All}
use Rattle.std.specs.List.{AllByRecursion}
use Rattle.std.proofs.lemmas.List.Elements.{All-head, All-tail}
use Rattle.out_io.specs.Contents.{Contents}
use Rattle.cir_ast.specs.Shape.{IsShaped}
use Rattle.cir_ast.specs.Program.{Program}
use Rattle.cir_checks.proofs.UsedPrograms.{is_used}
use Rattle.cir_sources.specs.Includes.{Source, IsSource}
use Rattle.cir_sources.specs.Loading.{IsDecoded}
use Rattle.cir_names.specs.Loading.{IsLoaded, IsOfSources}
use Rattle.cir_names.specs.Programs.{names_of, IsProgramOf}
use Rattle.cir_meaning.specs.Scoped.{IsResolved}
use Rattle.cir_scope.proofs.Definitions.{resolved_program}
use Rattle.cir_scope.specs.Counted.{AreCounted}
use Rattle.cir_scope.specs.Runnable.{AreRunnable}

abbrev pub IsWhole : Program → Type 0
IsWhole p = IsResolved p × AreRunnable p × AreCounted p

abbrev AreShaped : List Source → Type 0
AreShaped sources = AllByRecursion IsShaped (map (λ s. s.tree) sources)

shaped_sources : (P : Source → Type 0) → ((s : Source) → P s → IsShaped s.tree)
    → (sources : List Source) → All P sources → AreShaped sources
shaped_sources P shaped [] h = tt
shaped_sources P shaped (s ∷ ss) h =
    (shaped s (All-head P s ss h), shaped_sources P shaped ss (All-tail P s ss h))

program_of : (sources : List Source) (p : Program) → AreShaped sources → IsProgramOf sources p
    → IsWhole p
program_of sources p shaped is =
    subst IsWhole (sym is.is)
    (resolved_program (names_of sources) is.trees is.definitions
    (subst (AllByRecursion IsShaped) (sym is.are) shaped) is.named
    (is_used (names_of sources) is.definitions is.faultless))

pub of_sources : (p : Program) → IsOfSources p → IsWhole p
of_sources p o =
    program_of o.sources p
    (shaped_sources IsDecoded (λ s read. read.1.file.is_tree.shaped) o.sources o.are.read) o.theirs

pub loaded : (files : Contents) (name : List ℕ) (library : Option (List ℕ)) (p : Program)
    → IsLoaded files name library p → IsWhole p
loaded files name library p l =
    program_of l.sources p
    (subst AreShaped (sym l.all.parts) (
      l.all.reached.source.read.file.is_tree.shaped,
      shaped_sources (IsSource files) (λ s is. is.read.file.is_tree.shaped) l.all.more
          l.all.reached.sources,
    )) l.theirs
