-- What the steps of the loading do.
use Rattle.std.specs.Prelude.{◌≡◌, ◌+◌, ◌-◌, ◌*◌, ◌^◌, ◌≤◌, ℕ}
use Rattle.std.specs.Prelude.{true, false, List, [], ◌∷◌}
use Rattle.std.specs.Prelude.{◌++◌, length, map, reverse, if◌then◌else◌, ⊤, All, Option}
use Rattle.std.specs.Prelude.{None, Some}
use Rattle.std.specs.Prelude.{Result, Ok, Err, Vec, String, string_bytes, vec_len}
use Rattle.std.specs.Borrow.{Bor}
use Rattle.std.specs.Str.{bytes_eq}
pub use Rattle.std.specs.BTreeSet.{BTreeSet, contains_text}
use Rattle.out_io.specs.Held.{OfAll}
use Rattle.cir_lexer.specs.Reading.{IsReading}
use Rattle.cir_ast.specs.declared.marked.File.{File as CodeFile}
use Rattle.cir_ast.specs.declared.program.Meant.{Meant}
pub use Rattle.cir_sources.specs.declared.search.Target.{Target}
use Rattle.cir_sources.specs.declared.search.Target.TheVariants.{Loaded, Absent, Found}
pub use Rattle.cir_sources.specs.declared.loading.Loading.{Loading}
use Rattle.cir_sources.specs.declared.fault.LoadFault.TheVariants as fault
use Rattle.cir_sources.specs.Places.{Token, Spot, most_bytes}
use Rattle.cir_sources.specs.Includes.{Contents, Site, Source, seen_items, seen, IsFile, IsRead}
use Rattle.cir_sources.specs.Includes.{IsSource, includes_of, other_version, bytes_at, is_among}
use Rattle.cir_sources.specs.Includes.{included_name, left_after}
use Rattle.cir_sources.specs.Faults.{Refusal, IsUnfit, IsFault, most_files}
use Rattle.cir_sources.specs.Loading.{Global, CodeSource, LoadFault, IsDecoded, NotLoaded}

-- the segments that are kept, the last one first
abbrev pub last_first : List (Bor (List ℕ)) → List (List ℕ)
last_first kept = reverse (map (λ s. s.now) kept)

-- the fault is such a refusal; for its texts memory may lack
abbrev pub Refuses : (Refusal → Type 0) → LoadFault → Type 0
Refuses P (fault.Refused r) = P r
Refuses P fault.OutOfMemory = ⊤
Refuses P _ = ⊥

-- the tokens of a file's bytes
abbrev pub Lexes : List ℕ → List ℕ → Result (Vec Token Global) LoadFault → Type 0
Lexes name bytes (Ok tokens) = (length bytes ≤ most_bytes) × IsReading bytes (Ok tokens.items)
Lexes name bytes (Err e) = Refuses (IsFault name bytes) e

-- the file of tokens with these places
abbrev pub ParsesFile : List ℕ → List Token → List Spot
    → Result (CodeFile Spot Meant) LoadFault
    → Type 0
ParsesFile name tokens spots (Ok file) =
    IsFile tokens spots (seen_items file.items) × (other_version (seen_items file.items) ≡ None)
ParsesFile name tokens spots (Err e) = Refuses (IsUnfit name tokens spots) e

-- the source of a file's bytes
abbrev pub Decodes : List ℕ → List ℕ → Result CodeSource LoadFault → Type 0
Decodes name bytes (Ok s) = (s.name ≡ name) × IsRead bytes (seen s).tree
Decodes name bytes (Err e) = Refuses (IsFault name bytes) e

-- none of these names has a file
abbrev pub AreMissing : Contents → BTreeSet (String Global) → Type 0
AreMissing files missing =
    (q : List ℕ) → contains_text missing q ≡ true → bytes_at files q ≡ None

-- the file that was found, if one was, is there with its bytes
abbrev pub IsThere : Contents → Target → Type 0
IsThere files (Found name bytes) = bytes_at files (string_bytes name) ≡ Some bytes.items
IsThere files _ = ⊤

-- these sources are read from the files, these names have none, and what was found is there
abbrev pub Fits : List Source → BTreeSet (String Global) → Target → Contents → Type 0
Fits all missing target files = record {
  sources : All (IsSource files) all;
  missing : AreMissing files missing;
  there : IsThere files target;
}

-- What a search adds to what is known of the files: names that have no file, and perhaps a file
-- that it found.
pub record Learns (before after : Contents → Type 0) (old new : BTreeSet (String Global))
    (target : Target) : Type 0 where
  pub more : (files : Contents) → AreMissing files new → AreMissing files old
  pub knows : (all : List Source) → OfAll before (Fits all old Loaded)
      → OfAll after (Fits all new target)

-- what is known of the file of this name: it is loaded, there is none, or it was read
abbrev pub Looks : Contents → BTreeSet (String Global) → List ℕ → Target → Type 0
Looks files names name Loaded = contains_text names name ≡ true
Looks files names name Absent = bytes_at files name ≡ None
Looks files names name (Found found bytes) =
    (string_bytes found ≡ name) × (contains_text names name ≡ false)

-- the file that the include names: it is one of these names, there is none, or it is another one,
-- if that is there
abbrev pub Targets : Contents → BTreeSet (String Global) → Option (List ℕ) → Site → Target
    → Type 0
Targets files names library site Loaded =
    (name : List ℕ) × (included_name files library site ≡ Some name)
    × (contains_text names name ≡ true)
Targets files names library site Absent = included_name files library site ≡ None
Targets files names library site (Found name bytes) =
    (contains_text names (string_bytes name) ≡ false)
    × ((some : List ℕ) → bytes_at files (string_bytes name) ≡ Some some
    → included_name files library site ≡ Some (string_bytes name))

-- each of these names has a file
abbrev pub AreHeld : Contents → BTreeSet (String Global) → Type 0
AreHeld files names =
    (q : List ℕ) → contains_text names q ≡ true
    → (bytes : List ℕ) × (bytes_at files q ≡ Some bytes)

-- what the search for an include's file answers, of all files that are as it has learned
abbrev pub FindsTarget : BTreeSet (String Global) → BTreeSet (String Global) → Option (List ℕ)
    → Site → Target → Type 0
FindsTarget names missing library site target = (files : Contents) → AreHeld files names
    → AreMissing files missing → Targets files names library site target

-- the names of these sources
abbrev pub names_of : List Source → List (List ℕ)
names_of all = map (λ s. s.name) all

abbrev pub all_of : Loading → List Source
all_of l = map seen l.sources.items

-- the includes that are left to follow
abbrev pub left_of : Loading → List Site
left_of l = reverse l.pending.items

-- one more source, whose includes are followed first
pub record Adds (old : Loading) (s : Source) (new : Loading) : Type 0 where
  pub sources : all_of new ≡ all_of old ++ s ∷ []
  pub left : left_of new ≡ includes_of s ++ left_of old
  pub names : (q : List ℕ)
      → contains_text new.names q ≡
      (if bytes_eq s.name q then true else contains_text old.names q)
  pub missing : new.missing ≡ old.missing

-- how far it still can go: a file more is worth more than all includes that are left
abbrev pub to_go : Loading → ℕ
to_go l = (most_files - length l.sources.items) * 2 ^ 64 + vec_len l.pending

-- these sources are loaded from the first file of this name on, no more than a program may have
pub record IsBegun (name : List ℕ) (names : BTreeSet (String Global)) (all : List Source) : Type 0
  where
    pub first : Source
    pub more : List Source
    pub parts : all ≡ first ∷ more
    pub named : first.name ≡ name
    pub few : length all ≤ most_files
    pub read : All IsDecoded all
    pub names_are : (q : List ℕ) → contains_text names q ≡ is_among (names_of all) q

-- How far the loading has come: in all files that are as is known, whatever sources follow, what is
-- loaded and the includes that are left lead to the same as the first file.
pub record IsLoading (held : Contents → Type 0) (name : List ℕ) (library : Option (List ℕ))
    (names missing : BTreeSet (String Global)) (all : List Source) (left : List Site) : Type 0 where
  pub begun : IsBegun name names all
  pub knows : OfAll held (Fits all missing Loaded)
  pub leads : (files : Contents) → All (IsSource files) all → AreMissing files missing
      → (new : List Source)
      → left_after files library (name ∷ []) (includes_of begun.first) (begun.more ++ new)
      ≡ left_after files library (names_of all) left new

-- the loading went on, or why it ends
abbrev pub GoesOn : (Contents → Type 0) → List ℕ → Option (List ℕ) → Loading → Type 0
    → Result Unit LoadFault → Type 0
GoesOn held name library new failed (Ok u) =
    IsLoading held name library new.names new.missing (all_of new) (left_of new)
GoesOn held name library new failed (Err e) = NotLoaded held name library failed e

-- what following an include answers, where the loading has come to it
abbrev pub Follows : (before after : Contents → Type 0) → Option (List ℕ) → Loading → Site
    → Loading → Type 0 → Result Unit LoadFault → Type 0
Follows before after library old site new failed result = (name : List ℕ)
    → IsLoading before name library old.names old.missing (all_of old) (site ∷ left_of old)
    → GoesOn after name library new failed result
