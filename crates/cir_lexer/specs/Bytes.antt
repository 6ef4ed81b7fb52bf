-- The kinds of bytes that the lexical rules speak of.
use Rattle.std.specs.Prelude.{ℕ, Bool, ◌==◌, ◌||◌, ◌&&◌, ◌-◌, nat_le, if◌then◌else◌}

-- a space, a tab, a carriage return, a line feed
unfoldable pub is_blank : ℕ → Bool
is_blank c = c == 32 || c == 9 || c == 13 || c == 10

unfoldable pub is_letter : ℕ → Bool
is_letter c = (nat_le 97 c && nat_le c 122) || (nat_le 65 c && nat_le c 90)

-- $ and _
unfoldable pub is_mark : ℕ → Bool
is_mark c = c == 36 || c == 95

unfoldable pub is_digit : ℕ → Bool
is_digit c = nat_le 48 c && nat_le c 57

abbrev pub is_name_byte : ℕ → Bool
is_name_byte c = is_letter c || is_mark c || is_digit c

unfoldable pub is_hexadecimal : ℕ → Bool
is_hexadecimal c = is_digit c || (nat_le 97 c && nat_le c 102) || (nat_le 65 c && nat_le c 70)

-- what a decimal or hexadecimal digit counts
unfoldable pub digit_value : ℕ → ℕ
digit_value c = if is_digit c then c - 48 else (if nat_le 97 c then c - 87 else c - 55)
