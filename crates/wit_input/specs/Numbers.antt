-- The number that a value stands for, modulo the order of the field.
use Rattle.std.specs.Prelude.{◌==◌, ℕ, suc, ◌+◌, ◌-◌, ◌*◌, ◌%◌, ◌^◌, ℤ, pos, negsuc, List, [], ◌∷◌}
use Rattle.std.specs.Prelude.{drop, Option, Some, None, option_map, if◌then◌else◌, nat_lt, nat_eq}
use Rattle.std.specs.Prelude.{codes}
use Rattle.std.specs.Char.{digit_value}
use Rattle.std.specs.List.{starts_with}
use Rattle.serde_json.specs.Data.{Data, null, boolean, number, string, array, object}
use Rattle.serde_json.specs.Find.{as_integer}

abbrev pub reduced : ℕ → ℕ
reduced n = n % 18446744069414584321

-- the number that with n gives 0
abbrev pub negated : ℕ → ℕ
negated n = (18446744069414584321 - reduced n) % 18446744069414584321

abbrev pub residue : ℤ → ℕ
residue (pos n) = reduced n
residue (negsuc n) = negated (suc n)

-- The number that digits of this base spell behind those of the number `before`. There is none
-- where a byte is no such digit.
abbrev pub digits_from : ℕ → ℕ → List ℕ → Option ℕ
digits_from base before [] = Some before
digits_from base before (c ∷ cs) =
    if nat_lt (digit_value c) base then digits_from base (before * base + digit_value c) cs
    else None

-- one or more digits of this base
abbrev pub digits_of : ℕ → List ℕ → Option ℕ
digits_of base [] = None
digits_of base (c ∷ cs) = digits_from base 0 (c ∷ cs)

-- the number, where it is below 2^128
abbrev pub limited : Option ℕ → Option ℕ
limited None = None
limited (Some n) = if nat_lt n (2 ^ 128) then Some n else None

-- decimal digits, or `0x` and hexadecimal digits
abbrev pub whole_of : List ℕ → Option ℕ
whole_of text =
    if starts_with nat_eq text (codes "0x") then limited (digits_of 16 (drop 2 text))
    else limited (digits_of 10 text)

-- the same, perhaps with `-` before them
abbrev pub text_number : List ℕ → Option ℕ
text_number [] = None
text_number (c ∷ cs) =
    if c == 45 then option_map negated (whole_of cs) else option_map reduced (whole_of (c ∷ cs))

-- a whole number of JSON, from -2^63 to 2^64 - 1, or a string of digits
abbrev pub number_of : Data → Option ℕ
number_of (number n) = option_map residue (as_integer n)
number_of (string text) = text_number text
number_of null = None
number_of (boolean b) = None
number_of (array ds) = None
number_of (object ms) = None
