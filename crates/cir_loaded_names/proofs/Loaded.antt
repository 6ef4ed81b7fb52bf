-- The names of a program of sources are identifiers.
use Rattle.std.proofs.Common.{◌≡◌, ℕ, List, [], ◌∷◌, Option, sym, subst}
use Rattle.std.specs.Prelude.{map, All}
use Rattle.std.specs.List.{AllByRecursion}
use Rattle.std.proofs.lemmas.List.Elements.{All-head, All-tail}
use Rattle.out_io.specs.Contents.{Contents}
use Rattle.cir_token.specs.declared.token.TokenKind.{TokenKind}
use Rattle.cir_ast.specs.declared.program.Spot.{Spot}
use Rattle.cir_ast.specs.Plain.{PlainFile}
use Rattle.cir_ast.specs.Program.{Program}
use Rattle.cir_lexer.specs.Spelling.{is_identifier}
use Rattle.cir_sources.specs.Includes.{Source, IsRead, IsSource}
use Rattle.cir_sources.specs.Loading.{IsDecoded}
use Rattle.cir_names.specs.Loading.{IsLoaded, IsOfSources}
use Rattle.cir_names.specs.Programs.{names_of, IsProgramOf}
use Rattle.cir_tree_names.specs.Named.{IsNamedToken, IsNamedItem}
use Rattle.cir_tree_names.proofs.Printed.{file}
use Rattle.cir_row_names.specs.Rows.{IsNamedProgram}
use Rattle.cir_loaded_names.proofs.Tokens.{reading_named}
use Rattle.cir_loaded_names.proofs.Definitions.{program_named}

abbrev AreNamedItems : PlainFile Spot → Type 0
AreNamedItems items = AllByRecursion (IsNamedItem is_identifier) items

read_named : (bytes : List ℕ) (items : PlainFile Spot) → IsRead bytes items
    → AreNamedItems items
read_named bytes items h =
    file is_identifier items
    (subst (λ (ts : List TokenKind). AllByRecursion (IsNamedToken is_identifier) ts)
    (sym h.file.is_tree.prints) (reading_named bytes h.tokens h.reading))

sources_named : (P : Source → Type 0) → ((s : Source) → P s → AreNamedItems s.tree)
    → (sources : List Source) → All P sources
    → AllByRecursion AreNamedItems (map (λ s. s.tree) sources)
sources_named P named [] h = tt
sources_named P named (s ∷ ss) h =
    (named s (All-head P s ss h), sources_named P named ss (All-tail P s ss h))

program_of : (sources : List Source) (p : Program)
    → AllByRecursion AreNamedItems (map (λ s. s.tree) sources) → IsProgramOf sources p
    → IsNamedProgram is_identifier p
program_of sources p named is =
    subst (IsNamedProgram is_identifier) (sym is.is)
    (program_named is_identifier (names_of sources) is.trees is.definitions
    (subst (AllByRecursion AreNamedItems) (sym is.are) named) is.named)

pub of_sources : (p : Program) → IsOfSources p → IsNamedProgram is_identifier p
of_sources p o =
    program_of o.sources p
    (sources_named IsDecoded (λ s read. read_named read.0 s.tree read.1) o.sources o.are.read)
    o.theirs

pub loaded : (files : Contents) (name : List ℕ) (library : Option (List ℕ)) (p : Program)
    → IsLoaded files name library p → IsNamedProgram is_identifier p
loaded files name library p l =
    let first = l.all.reached.source in
    program_of l.sources p
    (subst (λ (ss : List Source). AllByRecursion AreNamedItems (map (λ s. s.tree) ss))
    (sym l.all.parts) (
      read_named first.bytes l.all.first.tree first.read,
      sources_named (IsSource files) (λ s is. read_named is.bytes s.tree is.read) l.all.more
          l.all.reached.sources,
    )) l.theirs
