-- What is known of a file of a program that is loaded.
use Rattle.std.proofs.Common.{◌≡◌, ℕ, true, List, Option, Some, subst, sym}
use Rattle.std.specs.Prelude.{All}
use Rattle.std.specs.Str.{IsUtf8}
use Rattle.std.proofs.lemmas.List.Elements.{All-cons}
use Rattle.out_io.specs.Contents.{Contents}
use Rattle.cir_ast.specs.Program.{Program}
use Rattle.cir_sources.specs.Includes.{IsRead, IsSource, Source, is_among}
use Rattle.cir_sources.proofs.Steps.{among_read}
use Rattle.cir_names.specs.Loading.{IsLoaded}

-- it has bytes that are read as a source
pub file_read : (files : Contents) (name : List ℕ) (library : Option (List ℕ)) (p : Program)
    → IsLoaded files name library p → (other : List ℕ) → IsUtf8 other
    → is_among p.files other ≡ true
    → (s : Source) × (bytes : List ℕ) × (files other ≡ Some bytes) × IsRead bytes s.tree
file_read files name library p loaded other utf8 is =
    among_read files loaded.sources
    (subst (All (IsSource files)) (sym loaded.all.parts)
    (All-cons (IsSource files) loaded.all.first loaded.all.more loaded.all.reached.source
    loaded.all.reached.sources)) other utf8 (rw loaded.theirs.is at is)
