-- How each token is spelled.
use Rattle.std.specs.Prelude.{◌≡◌, ◌≢◌, ℕ, ◌+◌, ◌*◌, Bool, true, false, ◌&&◌, if◌then◌else◌, List}
use Rattle.std.specs.Prelude.{[], ◌∷◌, ◌++◌, ◌⊎◌, All, fold, codes}
use Rattle.std.specs.List.{list_all}
use Rattle.std.specs.Str.{IsUtf8}
use Rattle.cir_token.specs.Spelling.{reserved_bytes, symbol_bytes}
use Rattle.cir_lexer.specs.Bytes.{is_letter, is_digit, is_mark, is_name_byte, is_hexadecimal}
use Rattle.cir_lexer.specs.Bytes.{digit_value}
use Rattle.cir_token.specs.declared.token.TokenKind.{TokenKind}
use Rattle.cir_token.specs.declared.token.TokenKind.TheVariants.{Reserved as Word, Name, Underscore}
use Rattle.cir_token.specs.declared.token.TokenKind.TheVariants.{Number, Str, Symbol as Sign}
use Rattle.cir_token.specs.declared.token.Reserved.{Reserved}

-- marks, a letter, then letters, marks and digits
abbrev pub is_identifier : List ℕ → Bool
is_identifier [] = false
is_identifier (c ∷ cs) =
    if is_mark c then is_identifier cs else (is_letter c && list_all is_name_byte cs)

-- the number that digits mean in a base
abbrev pub number_in : ℕ → List ℕ → ℕ
number_in base digits = fold (λ n c. n * base + digit_value c) 0 digits

-- one digit or more
pub record IsDecimal (bytes : List ℕ) (value : ℕ) : Type 0 where
  pub some : bytes ≢ []
  pub digits : list_all is_digit bytes ≡ true
  pub counts : value ≡ number_in 10 bytes

-- 0x, and one hexadecimal digit or more
pub record IsHexadecimal (bytes : List ℕ) (value : ℕ) : Type 0 where
  pub digits : List ℕ
  pub spelled : bytes ≡ 48 ∷ 120 ∷ digits
  pub some : digits ≢ []
  pub each : list_all is_hexadecimal digits ≡ true
  pub counts : value ≡ number_in 16 digits

-- no character is a quote or a line feed
abbrev pub IsQuotable : List ℕ → Type 0
IsQuotable = All (λ c. (c ≢ 34) × (c ≢ 10))

abbrev pub quoted : List ℕ → List ℕ
quoted body = 34 ∷ (body ++ 34 ∷ [])

-- the bytes spell this token
abbrev pub IsSpelling : List ℕ → TokenKind → Type 0
IsSpelling bytes (Word word) = bytes ≡ reserved_bytes word
IsSpelling bytes (Name name) =
    (bytes ≡ name) × (is_identifier name ≡ true) × ((word : Reserved) → name ≢ reserved_bytes word)
IsSpelling bytes Underscore = bytes ≡ codes "_"
IsSpelling bytes (Number value) = IsDecimal bytes value ⊎ IsHexadecimal bytes value
IsSpelling bytes (Str body) = (bytes ≡ quoted body) × IsQuotable body × IsUtf8 body
IsSpelling bytes (Sign symbol) = bytes ≡ symbol_bytes symbol
