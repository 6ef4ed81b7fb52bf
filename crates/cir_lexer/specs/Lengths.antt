-- How far what stands at the front of a text reaches.
use Rattle.std.specs.Prelude.{◌≡◌, ◌≤◌, ◌<◌, ◌++◌, length, drop, ℕ, ◌==◌, Bool, false, not, ◌&&◌}
use Rattle.std.specs.Prelude.{if◌then◌else◌, List, ◌∷◌, Option, None, Some}
use Rattle.std.specs.List.{prefix_len, find}
use Rattle.cir_token.specs.Spelling.{symbol_bytes}
use Rattle.cir_token.specs.declared.token.Symbol.{Symbol}
use Rattle.cir_lexer.specs.Bytes.{is_mark, is_letter, is_name_byte, is_hexadecimal}
use Rattle.cir_lexer.specs.Reading.{Closes}

abbrev pub is_lettered : Option ℕ → Bool
is_lettered None = false
is_lettered (Some c) = is_letter c

-- the bytes of the identifier at the front, 0 where the first byte behind the marks is no letter
abbrev pub identifier_len : List ℕ → ℕ
identifier_len text =
    if is_lettered (find (λ c. not (is_mark c)) text) then prefix_len is_name_byte text else 0

abbrev pub is_quotable : ℕ → Bool
is_quotable c = not (c == 34) && not (c == 10)

abbrev pub is_in_line : ℕ → Bool
is_in_line c = not (c == 10)

-- the text begins with these two bytes
abbrev pub begins_pair : ℕ → ℕ → List ℕ → Bool
begins_pair a b (c ∷ d ∷ _) = c == a && d == b
begins_pair a b _ = false

-- the text begins with 0x and a hexadecimal digit
abbrev pub begins_hexadecimal : List ℕ → Bool
begins_hexadecimal (c ∷ d ∷ e ∷ _) = c == 48 && (d == 120 && is_hexadecimal e)
begins_hexadecimal _ = false

-- the first `*/` begins at n
pub record IsFirstClose (text : List ℕ) (n : ℕ) : Type 0 where
  pub here : Closes (drop n text)
  pub first : (k : ℕ) → k < n → ¬ Closes (drop k text)
  pub within : n ≤ length text

-- the text begins with this symbol, and with none that is longer
pub record IsLongestSymbol (text : List ℕ) (symbol : Symbol) : Type 0 where
  pub begins : text ≡ symbol_bytes symbol ++ drop (length (symbol_bytes symbol)) text
  pub longest : (other : Symbol) (rest : List ℕ) → text ≡ symbol_bytes other ++ rest
      → length (symbol_bytes other) ≤ length (symbol_bytes symbol)
