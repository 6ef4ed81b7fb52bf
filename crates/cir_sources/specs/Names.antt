-- The names of files: folders, and the segments between the slashes.
use Rattle.std.specs.Prelude.{ℕ, ◌==◌, Bool, true, false, List, [], ◌∷◌, ◌++◌, reverse}
use Rattle.std.specs.Prelude.{if◌then◌else◌, not, codes, ◌-◌, length, slice_get}
use Rattle.std.specs.Option.{option_map_or}
use Rattle.std.specs.List.{list_any, slice_split, join_with_byte}
use Rattle.std.specs.Str.{bytes_eq}

-- `/`
abbrev pub is_slash : ℕ → Bool
is_slash c = c == 47

-- everything up to and with the last slash, nothing where there is none
abbrev pub folder_of : List ℕ → List ℕ
folder_of [] = []
folder_of (c ∷ cs) = if list_any is_slash (c ∷ cs) then c ∷ folder_of cs else []

-- the last of the segments that are kept is one that `..` removes: there is one, and it isn't `..`
-- itself
abbrev pub has_folder : List (List ℕ) → Bool
has_folder [] = false
has_folder (last ∷ before) = if bytes_eq last (codes "..") then false else true

abbrev pub without_last : List (List ℕ) → List (List ℕ)
without_last [] = []
without_last (last ∷ before) = before

-- The segments that are kept, the last one first, and one more: `.` goes, and `..` removes the last
-- one, or stays where it can't.
abbrev pub keep : List (List ℕ) → List ℕ → List (List ℕ)
keep kept segment =
    if bytes_eq segment (codes ".") then kept else
    if bytes_eq segment (codes "..")
    then (if has_folder kept then without_last kept else segment ∷ kept) else segment ∷ kept

abbrev pub is_empty : List ℕ → Bool
is_empty [] = true
is_empty (c ∷ cs) = false

-- the same of a folder's segment: an empty one means nothing
abbrev pub keep_folder : List (List ℕ) → List ℕ → List (List ℕ)
keep_folder kept segment = if is_empty segment then kept else keep kept segment

-- the same of a name's segments, of which the last one names the file
abbrev pub keep_all : List (List ℕ) → List (List ℕ) → List (List ℕ)
keep_all kept [] = kept
keep_all kept (file ∷ []) = keep kept file
keep_all kept (folder ∷ (next ∷ segments)) = keep_all (keep_folder kept folder) (next ∷ segments)

-- what stands before the first segment: a slash where the name begins at the root
abbrev pub root_of : List ℕ → List ℕ
root_of [] = []
root_of (c ∷ cs) = if is_slash c then 47 ∷ [] else []

-- the name with its segments `.` and `..` carried out, and without empty segments of folders
abbrev pub resolved : List ℕ → List ℕ
resolved name =
    root_of name ++ join_with_byte 47 (reverse (keep_all [] (slice_split is_slash name)))

-- whether a slash has to stand between the folder and a name: not behind another one, and not at
-- the start
abbrev pub wants_slash : List ℕ → Bool
wants_slash folder =
    option_map_or (λ c. not (is_slash c)) (slice_get folder (length folder - 1)) false

-- a name in a folder
abbrev pub in_folder : List ℕ → List ℕ → List ℕ
in_folder folder name = if wants_slash folder then folder ++ 47 ∷ name else folder ++ name
