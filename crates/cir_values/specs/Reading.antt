-- How the parts of a base are read: its declared name to the first `[`, and the numbers in
-- brackets.
use Rattle.std.specs.Prelude.{ℕ, ◌+◌, ◌-◌, ◌*◌, ◌%◌, ◌^◌, if◌then◌else◌, ◌==◌, List, [], ◌∷◌, ◌++◌}

abbrev pub bracket_at : List ℕ → ℕ
bracket_at [] = 0
bracket_at (b ∷ bs) = if b == 91 then 0 else bracket_at bs + 1

-- the numbers found, where the digits since the last `[` say `number` so far
abbrev pub read_from : List ℕ → ℕ → List ℕ → List ℕ
read_from [] number found = found
read_from (b ∷ bs) number found =
    if b == 91 then read_from bs 0 found
    else (if b == 93 then read_from bs number (found ++ number ∷ [])
    else read_from bs ((number * 10 % 2 ^ 64 + (b - 48)) % 2 ^ 64) found)
