-- The files of a program: which file an include names, and which files are reached.
use Rattle.std.specs.Prelude.{◌≡◌, ◌≤◌, ℕ, ◌==◌, Bool, not, false, List, [], ◌∷◌, ◌++◌, length, map}
use Rattle.std.specs.Prelude.{if◌then◌else◌, Option, None, Some, Ok, is_some}
use Rattle.std.specs.List.{list_any}
use Rattle.std.specs.Str.{bytes_eq, is_utf8}
pub use Rattle.out_io.specs.Contents.{Contents}
use Rattle.cir_lexer.specs.Reading.{IsReading}
use Rattle.cir_ast.specs.declared.marked.Item.{Item as CodeItem}
use Rattle.cir_ast.specs.declared.program.Meant.{Meant}
use Rattle.cir_ast.specs.Tree.{Pragma, Include, bare_item}
pub use Rattle.cir_ast.specs.Plain.{PlainFile}
use Rattle.cir_ast.specs.Plain.{plain_item}
use Rattle.cir_expression.specs.Answers.{kinds}
use Rattle.cir_parse.specs.Contract.{IsTree}
use Rattle.cir_parse.specs.LeftOut.{first_left_out}
use Rattle.cir_parse.specs.Marking.{marked_file}
use Rattle.cir_parse.specs.Marks.{spot_before}
use Rattle.cir_sources.specs.declared.source.Source.{Source as CodeSource}
pub use Rattle.cir_sources.specs.declared.source.Site.{Site}
use Rattle.cir_sources.specs.Names.{folder_of, resolved, in_folder}
use Rattle.cir_sources.specs.Places.{Token, Spot, spots_of, most_bytes}

-- a source file, with its tree as plain data, in which each item and statement has its place
pub record Source : Type 0 where
  pub name : List ℕ
  pub tree : PlainFile Spot

abbrev pub seen_items : List (CodeItem Spot Meant) → PlainFile Spot
seen_items items = map plain_item (map bare_item items)

abbrev pub seen : CodeSource → Source
seen s = record { name = s.name; tree = seen_items s.file.items }

-- the place of the first pragma whose first number isn't 2
abbrev pub other_version : PlainFile Spot → Option Spot
other_version [] = None
other_version (Pragma spot major minor patch ∷ items) =
    if not (major == 2) then Some spot else other_version items
other_version (item ∷ items) = other_version items

-- the tree of tokens with these places, in which no form is left out
pub record IsFile (tokens : List Token) (spots : List Spot) (tree : PlainFile Spot) : Type 0 where
  pub whole : first_left_out 0 (kinds tokens) ≡ None
  pub is_tree : IsTree (kinds tokens) tree
  pub places : marked_file (spot_before spots) tree ≡ tree

-- the bytes are short enough, and their tokens are of this tree and of version 2
pub record IsRead (bytes : List ℕ) (tree : PlainFile Spot) : Type 0 where
  pub tokens : List Token
  pub short : length bytes ≤ most_bytes
  pub reading : IsReading bytes (Ok tokens)
  pub file : IsFile tokens (spots_of bytes tokens) tree
  pub version : other_version tree ≡ None

-- The bytes under a name, where it can be asked for. A name that isn't UTF-8 has none; the lexer
-- refuses a source with such a name in it anyway.
abbrev pub bytes_at : Contents → List ℕ → Option (List ℕ)
bytes_at files name = if is_utf8 name then files name else None

-- the source is read from the file of its name
pub record IsSource (files : Contents) (s : Source) : Type 0 where
  pub bytes : List ℕ
  pub there : bytes_at files s.name ≡ Some bytes
  pub read : IsRead bytes s.tree

-- the includes among these items of the file with this name
abbrev pub includes_in : List ℕ → PlainFile Spot → List Site
includes_in file [] = []
includes_in file (Include spot name ∷ items) =
    record { file = file; name = name; spot = spot } ∷ includes_in file items
includes_in file (item ∷ items) = includes_in file items

-- the includes of the source, in order
abbrev pub includes_of : Source → List Site
includes_of s = includes_in s.name s.tree

-- the name that an include has beside its file
abbrev pub beside : Site → List ℕ
beside site = resolved (folder_of site.file ++ site.name)

-- the name that it has in the folder of libraries
abbrev pub in_library : Option (List ℕ) → Site → Option (List ℕ)
in_library None site = None
in_library (Some folder) site = Some (resolved (in_folder folder site.name))

-- this name, where there is a file of it
abbrev pub if_held : Contents → Option (List ℕ) → Option (List ℕ)
if_held files None = None
if_held files (Some name) = if is_some (bytes_at files name) then Some name else None

-- the name of the included file: beside the including one, else in the folder of libraries
abbrev pub included_name : Contents → Option (List ℕ) → Site → Option (List ℕ)
included_name files library site = if is_some (bytes_at files (beside site)) then Some (beside site)
    else if_held files (in_library library site)

-- the name is among these
abbrev pub is_among : List (List ℕ) → List ℕ → Bool
is_among names name = list_any (λ n. bytes_eq n name) names

-- the name is there, and among these
abbrev pub is_loaded : List (List ℕ) → Option (List ℕ) → Bool
is_loaded loaded None = false
is_loaded loaded (Some name) = is_among loaded name

-- without the includes at the front whose file is loaded already
abbrev pub sites_to_follow : Contents → Option (List ℕ) → List (List ℕ) → List Site → List Site
sites_to_follow files library loaded [] = []
sites_to_follow files library loaded (site ∷ sites) =
    if is_loaded loaded (included_name files library site)
    then sites_to_follow files library loaded sites else site ∷ sites

-- what follows for the includes behind the first, where the first one names this file
abbrev pub follow : Contents → Option (List ℕ) → List ℕ → List Site
    → (List Site → Option (List Site)) → Option (List Site)
follow files library name [] go = None
follow files library name (site ∷ sites) go =
    if is_loaded (name ∷ []) (included_name files library site) then go sites else None

-- The includes that are left to follow, once these new sources are loaded one after the other: each
-- is the one that the first include names whose file isn't loaded yet, and its own includes come
-- before those that follow.
abbrev pub left_after : Contents → Option (List ℕ) → List (List ℕ) → List Site → List Source
    → Option (List Site)
left_after files library loaded sites [] = Some (sites_to_follow files library loaded sites)
left_after files library loaded sites (s ∷ ss) =
    follow files library s.name (sites_to_follow files library loaded sites)
    (λ rest. left_after files library (loaded ++ s.name ∷ []) (includes_of s ++ rest) ss)
