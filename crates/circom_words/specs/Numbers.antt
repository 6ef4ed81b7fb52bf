-- A number among the words: one or more decimal digits, whose number is in a range. Zeros may lead.
use Rattle.std.specs.Prelude.{ℕ, ◌+◌, ◌*◌, ◌&&◌, List, [], ◌∷◌, Option, Some, None, if◌then◌else◌}
use Rattle.std.specs.Prelude.{nat_lt, nat_le}
use Rattle.std.specs.Char.{digit_value}

-- the number that digits spell behind those of the number `before`
abbrev pub digits_from : ℕ → List ℕ → Option ℕ
digits_from before [] = Some before
digits_from before (c ∷ cs) =
    if nat_lt (digit_value c) 10 then digits_from (before * 10 + digit_value c) cs else None

abbrev pub digits_of : List ℕ → Option ℕ
digits_of [] = None
digits_of (c ∷ cs) = digits_from 0 (c ∷ cs)

abbrev pub within : (low high : ℕ) → Option ℕ → Option ℕ
within low high None = None
within low high (Some n) = if nat_le low n && nat_le n high then Some n else None

abbrev pub number_in : (low high : ℕ) → List ℕ → Option ℕ
number_in low high text = within low high (digits_of text)
