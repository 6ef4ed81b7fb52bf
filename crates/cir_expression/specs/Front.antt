-- What stands at the front of tokens.
use Rattle.std.specs.Prelude.{ℕ, Bool, true, false, if◌then◌else◌, List, [], ◌∷◌, Option, Some}
use Rattle.std.specs.Prelude.{None}
use denote.Enum.Bare.{sameb}
use Rattle.cir_token.specs.declared.token.TokenKind.{TokenKind}
use Rattle.cir_token.specs.declared.token.TokenKind.TheVariants as token
use Rattle.cir_token.specs.declared.token.Reserved.{Reserved}
use Rattle.cir_token.specs.contracts.token.Reserved.{the_type as reserved_type}
use Rattle.cir_token.specs.declared.token.Symbol.{Symbol}
use Rattle.cir_token.specs.contracts.token.Symbol.{the_type as symbol_type}

abbrev pub Tokens : Type 0
Tokens = List TokenKind

abbrev pub tail : Tokens → Tokens
tail [] = []
tail (t ∷ ts) = ts

abbrev pub begins : Symbol → Tokens → Bool
begins s (token.Symbol t ∷ ts) = sameb symbol_type t s
begins s _ = false

abbrev pub begins_word : Reserved → Tokens → Bool
begins_word w (token.Reserved t ∷ ts) = sameb reserved_type t w
begins_word w _ = false

abbrev pub begins_underscore : Tokens → Bool
begins_underscore (token.Underscore ∷ ts) = true
begins_underscore _ = false

-- what stands behind this symbol or word
abbrev pub behind : Symbol → Tokens → Option Tokens
behind s ts = if begins s ts then Some (tail ts) else None

abbrev pub behind_word : Reserved → Tokens → Option Tokens
behind_word w ts = if begins_word w ts then Some (tail ts) else None

abbrev pub name_at : Tokens → Option (List ℕ × Tokens)
name_at (token.Name name ∷ ts) = Some (name, ts)
name_at _ = None

abbrev pub words_at : Tokens → Option (List ℕ × Tokens)
words_at (token.Str words ∷ ts) = Some (words, ts)
words_at _ = None

abbrev pub number_at : Tokens → Option (ℕ × Tokens)
number_at (token.Number n ∷ ts) = Some (n, ts)
number_at _ = None

-- what the symbol at the front means
abbrev pub symbol_at : {A : Type 0} → (Symbol → Option A) → Tokens → Option A
symbol_at meaning (token.Symbol s ∷ ts) = meaning s
symbol_at meaning _ = None
