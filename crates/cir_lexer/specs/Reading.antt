-- A source is gaps and tokens in turn. A token is the longest spelling at its place.
use Rattle.std.specs.Prelude.{◌≡◌, ◌≢◌, ℕ, ◌+◌, ◌^◌, ◌<◌, ◌≤◌, false, true, List, [], ◌∷◌, ◌++◌}
use Rattle.std.specs.Prelude.{◌⊎◌, ⊤, All, length, drop, Vec, Result, Ok, Err}
use Rattle.std.specs.declared.alloc.Global.{Global}
use Rattle.std.specs.Str.{IsUtf8}
use Rattle.std.specs.Str.Lossy.{utf8_valid_len}
use Rattle.cir_lexer.specs.Bytes.{is_blank}
use Rattle.cir_lexer.specs.Spelling.{IsSpelling, IsQuotable}
use Rattle.cir_token.specs.declared.token.Token.{Token}
use Rattle.cir_token.specs.declared.token.TokenKind.{TokenKind}
use Rattle.cir_token.specs.declared.token.TokenKind.TheVariants.{Number}
use Rattle.cir_token.specs.declared.token.LexCause.{LexCause}
use Rattle.cir_token.specs.declared.token.LexCause.TheVariants.{BadChar, OpenComment, OpenString}
use Rattle.cir_token.specs.declared.token.LexCause.TheVariants.{NumberTooWide}
use Rattle.cir_lexer.specs.declared.fault.LexFault.{LexFault}
use Rattle.cir_lexer.specs.declared.fault.LexFault.TheVariants.{At, OutOfMemory}

-- what follows a line
abbrev pub IsLineEnd : List ℕ → Type 0
IsLineEnd after = (after ≡ []) ⊎ ((rest : List ℕ) × (after ≡ 10 ∷ rest))

-- `//` and the rest of the line
pub record IsLineComment (text body after : List ℕ) : Type 0 where
  pub begins : text ≡ 47 ∷ 47 ∷ (body ++ after)
  pub line : All (λ c. c ≢ 10) body
  pub end : IsLineEnd after

-- the bytes begin with `*/`
abbrev pub Closes : List ℕ → Type 0
Closes bytes = (rest : List ℕ) × (bytes ≡ 42 ∷ 47 ∷ rest)

-- `/*`, a body, and the first `*/` behind it
pub record IsBlockComment (text body after : List ℕ) : Type 0 where
  pub begins : text ≡ 47 ∷ 42 ∷ (body ++ 42 ∷ 47 ∷ after)
  pub first : (n : ℕ) → n < length body → ¬ Closes (drop n (body ++ 42 ∷ 47 ∷ after))

-- a string's quote, its body, and the quote that ends it
pub record IsQuotation (text body after : List ℕ) : Type 0 where
  pub begins : text ≡ 34 ∷ (body ++ 34 ∷ after)
  pub quotable : IsQuotable body

-- the text begins with a gap, and this follows it
pub data IsGap (text after : List ℕ) : Type 0 where
  Blank : (c : ℕ) → is_blank c ≡ true → text ≡ c ∷ after → IsGap text after
  Line : (body : List ℕ) → IsLineComment text body after → IsUtf8 body → IsGap text after
  Block : (body : List ℕ) → IsBlockComment text body after → IsUtf8 body → IsGap text after

-- no spelling at the front of the text has more bytes
abbrev pub NoLonger : List ℕ → ℕ → Type 0
NoLonger text n = (front after : List ℕ) (kind : TokenKind) → text ≡ front ++ after
    → IsSpelling front kind → length front ≤ n

-- the text begins with a comment, whether it is ended or not
abbrev pub BeginsComment : List ℕ → Type 0
BeginsComment text =
    ((rest : List ℕ) × (text ≡ 47 ∷ 47 ∷ rest)) ⊎ ((rest : List ℕ) × (text ≡ 47 ∷ 42 ∷ rest))

-- the text begins with these bytes, the longest spelling there, and this follows them
pub record IsLongest (text bytes : List ℕ) (kind : TokenKind) (after : List ℕ) : Type 0 where
  pub begins : text ≡ bytes ++ after
  pub spelled : IsSpelling bytes kind
  pub longest : NoLonger text (length bytes)
  pub no_gap : ¬ BeginsComment text

-- a number that a token holds
abbrev pub IsNarrow : TokenKind → Type 0
IsNarrow (Number value) = value < 2 ^ 128
IsNarrow _ = ⊤

-- the text begins with what would be a gap or a string, but for the character at n
pub data IsBadInside (text : List ℕ) (n : ℕ) : Type 0 where
  InLine : (body after : List ℕ) → IsLineComment text body after → ¬ IsUtf8 body
      → n ≡ 2 + utf8_valid_len body → IsBadInside text n
  InBlock : (body after : List ℕ) → IsBlockComment text body after → ¬ IsUtf8 body
      → n ≡ 2 + utf8_valid_len body → IsBadInside text n
  InString : (body after : List ℕ) → IsQuotation text body after → ¬ IsUtf8 body
      → n ≡ 1 + utf8_valid_len body → IsBadInside text n

-- the first byte begins no token and no gap
pub record IsStray (text : List ℕ) : Type 0 where
  pub first : ℕ
  pub rest : List ℕ
  pub begins : text ≡ first ∷ rest
  pub no_blank : is_blank first ≡ false
  pub no_quote : first ≢ 34
  pub no_token : NoLonger text 0

-- neither a gap nor a token stands at the front of the text, for this cause, which shows at n
abbrev pub IsFault : List ℕ → LexCause → ℕ → Type 0
IsFault text BadChar n = (IsStray text × (n ≡ 0)) ⊎ IsBadInside text n
IsFault text OpenComment n =
    (body : List ℕ) × (text ≡ 47 ∷ 42 ∷ body) × ((k : ℕ) → ¬ Closes (drop k body)) × (n ≡ 0)
IsFault text OpenString n = (body after : List ℕ) × (text ≡ 34 ∷ (body ++ after)) × IsQuotable body
    × IsLineEnd after × (n ≡ 0)
IsFault text NumberTooWide n = (bytes after : List ℕ) × (value : ℕ)
    × IsLongest text bytes (Number value) after × (2 ^ 128 ≤ value) × (n ≡ 0)

pub data Piece : Type 0 where
  Gap : ℕ → Piece
  Spelled : ℕ → TokenKind → Piece

-- the text begins with this piece of so many bytes, and the rest follows it
abbrev pub Begins : List ℕ → Piece → List ℕ → Type 0
Begins text (Gap n) after = IsGap text after × (length text ≡ n + length after)
Begins text (Spelled n kind) after =
    (bytes : List ℕ) × IsLongest text bytes kind after × IsNarrow kind × (n ≡ length bytes)

-- the text is these pieces in turn, and then the rest
abbrev pub IsCut : List ℕ → List Piece → List ℕ → Type 0
IsCut text [] rest = text ≡ rest
IsCut text (piece ∷ pieces) rest =
    (after : List ℕ) × Begins text piece after × IsCut after pieces rest

-- the tokens of pieces that begin at this offset
abbrev pub tokens_of : ℕ → List Piece → List Token
tokens_of at [] = []
tokens_of at (Gap n ∷ pieces) = tokens_of (at + n) pieces
tokens_of at (Spelled n kind ∷ pieces) =
    record { kind = kind; offset = at; len = n } ∷ tokens_of (at + n) pieces

-- these are the tokens of the bytes, or this is their first fault
abbrev pub IsReading : List ℕ → Result (List Token) LexFault → Type 0
IsReading bytes (Ok tokens) =
    (pieces : List Piece) × IsCut bytes pieces [] × (tokens ≡ tokens_of 0 pieces)
IsReading bytes (Err (At cause offset)) =
    (pieces : List Piece) × (rest : List ℕ) × (n : ℕ) × IsCut bytes pieces rest
    × IsFault rest cause n × (offset + length rest ≡ length bytes + n)
IsReading bytes (Err OutOfMemory) = ⊥

-- what `lex` answers: the reading of the bytes, unless memory runs out
abbrev pub Reads : List ℕ → Result (Vec Token Global) LexFault → Type 0
Reads bytes (Ok tokens) = IsReading bytes (Ok tokens.items)
Reads bytes (Err (At cause offset)) = IsReading bytes (Err (At cause offset))
Reads bytes (Err OutOfMemory) = ⊤
