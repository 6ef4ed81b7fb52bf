-- What one step of the lexer does at the front of a text.
use Rattle.std.specs.Prelude.{◌≡◌, ℕ, ◌+◌, ◌<◌, ◌≤◌, ◌^◌, Option, List, ◌++◌, ⊤, length, drop}
use Rattle.std.specs.Prelude.{Result, Ok, Err}
use Rattle.std.specs.Option.{SomeIff}
use Rattle.cir_lexer.specs.Class.{first_class}
use Rattle.cir_lexer.specs.Reading.{Piece, IsCut, IsFault, IsLongest, tokens_of}
use Rattle.cir_token.specs.declared.token.TokenKind.TheVariants.{Number}
use Rattle.cir_token.specs.declared.token.Token.{Token}
use Rattle.cir_lexer.specs.declared.class.Class.{Class}
use Rattle.cir_lexer.specs.declared.fault.LexFault.{LexFault}
use Rattle.cir_lexer.specs.declared.fault.LexFault.TheVariants.{At, OutOfMemory}

-- a text at this offset begins with a byte of this class
pub record IsAt (text : List ℕ) (offset : ℕ) (kind : Class) : Type 0 where
  pub some : 0 < length text
  pub fits : offset + length text ≤ 2 ^ 24
  pub class : first_class text ≡ kind

-- the text at this offset begins with pieces of n bytes, and their tokens were added
pub record Takes (text : List ℕ) (at : ℕ) (old new : List Token) (n : ℕ) : Type 0 where
  pub pieces : List Piece
  pub within : n ≤ length text
  pub cut : IsCut text pieces (drop n text)
  pub added : new ≡ old ++ tokens_of at pieces

abbrev pub Steps : List ℕ → ℕ → List Token → List Token → Result ℕ LexFault → Type 0
Steps text at old new (Ok n) = (0 < n) × Takes text at old new n
Steps text at old new (Err (At cause offset)) = (n : ℕ) × IsFault text cause n × (offset ≡ at + n)
Steps text at old new (Err OutOfMemory) = ⊤

-- the number at the front of the text has so many bytes, and this value where it is narrow
pub record IsNumeralAt (text : List ℕ) (len : ℕ) (value : Option ℕ) : Type 0 where
  pub bytes : List ℕ
  pub after : List ℕ
  pub number : ℕ
  pub token : IsLongest text bytes (Number number) after
  pub size : len ≡ length bytes
  pub narrow : SomeIff value (number < 2 ^ 128) number
