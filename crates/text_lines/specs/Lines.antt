-- The lines of a text.
use Rattle.std.specs.Prelude.{◌≢◌, ◌==◌, ℕ, List, [], ◌∷◌, ◌++◌, length, All, nat_lt}
use Rattle.std.specs.Prelude.{Option, Some, None, if◌then◌else◌}
use Rattle.std.specs.List.{slice_split, position_or_len, before_first, after_first, flat_map}

-- what stands before the first such byte, and what stands behind it
abbrev pub split_once : (byte : ℕ) → List ℕ → Option (List ℕ × List ℕ)
split_once byte bytes =
    if nat_lt (position_or_len (λ b. b == byte) bytes) (length bytes)
    then Some (before_first (λ b. b == byte) bytes, after_first (λ b. b == byte) bytes) else None

-- an empty last piece is no line
abbrev pub without_empty_last : List (List ℕ) → List (List ℕ)
without_empty_last [] = []
without_empty_last (x ∷ []) = if length x == 0 then [] else x ∷ []
without_empty_last (x ∷ y ∷ more) = x ∷ without_empty_last (y ∷ more)

-- the pieces between line feeds
abbrev pub lines_of : List ℕ → List (List ℕ)
lines_of text = without_empty_last (slice_split (λ b. b == 10) text)

-- the text of lines: a line feed stands behind each
abbrev pub text_of : List (List ℕ) → List ℕ
text_of lines = flat_map (λ line. line ++ 10 ∷ []) lines

-- no such byte stands in the list
abbrev pub HasNo : (byte : ℕ) → List ℕ → Type 0
HasNo byte bytes = All (λ b. b ≢ byte) bytes
