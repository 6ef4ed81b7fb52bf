-- Numbers in decimal digits.
use Rattle.std.specs.Prelude.{◌==◌, ℕ, List, length, Bool, ◌&&◌, nat_lt, slice_index}
use Rattle.std.specs.Prelude.{Option, Some, None, if◌then◌else◌}
use Rattle.std.specs.Str.{all_ascii_digits}
use Rattle.std.specs.Str.Parse.{digits_value}

-- one or more decimal digits
abbrev pub is_numeral : List ℕ → Bool
is_numeral digits = nat_lt 0 (length digits) && all_ascii_digits digits

-- the number that decimal digits spell, where it is below the bound
abbrev pub number_below : (bound : ℕ) → List ℕ → Option ℕ
number_below bound digits =
    if is_numeral digits && nat_lt (digits_value 10 digits) bound then Some (digits_value 10 digits)
    else None

abbrev pub has_leading_zero : List ℕ → Bool
has_leading_zero digits = nat_lt 1 (length digits) && (slice_index digits 0 == 48)

-- the same without zeros before it
abbrev pub plain_below : (bound : ℕ) → List ℕ → Option ℕ
plain_below bound digits = if has_leading_zero digits then None else number_below bound digits
