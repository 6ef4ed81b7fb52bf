-- What the first byte of a token or a gap can be.
use Rattle.std.specs.Prelude.{ℕ, ◌==◌, ◌||◌, if◌then◌else◌, List, get_or, filter}
use Rattle.cir_token.specs.Spelling.{reserved_bytes, symbol_bytes, all_reserved, all_symbols}
use Rattle.cir_token.specs.declared.token.Reserved.{Reserved}
use Rattle.cir_token.specs.declared.token.Symbol.{Symbol}
use Rattle.cir_lexer.specs.Bytes.{is_blank, is_letter, is_digit, is_mark}
use Rattle.cir_lexer.specs.declared.class.Class.{Class}
use Rattle.cir_lexer.specs.declared.class.Class.TheVariants.{Blank, Word, Digit, Quote, Other}

abbrev pub class_of : ℕ → Class
class_of c =
    if is_blank c then Blank else
    (if is_letter c || is_mark c then Word else
    (if is_digit c then Digit else (if c == 34 then Quote else Other)))

abbrev pub first_class : List ℕ → Class
first_class text = class_of (get_or text 0 0)

-- the reserved words that begin with this byte
abbrev pub words_from : ℕ → List Reserved
words_from c = filter (λ word. get_or (reserved_bytes word) 0 0 == c) all_reserved

-- the symbols that begin with this byte, the longest first
abbrev pub symbols_from : ℕ → List Symbol
symbols_from c = filter (λ symbol. get_or (symbol_bytes symbol) 0 0 == c) all_symbols
