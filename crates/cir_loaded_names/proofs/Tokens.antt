-- The names among the tokens of a text are identifiers.
use Rattle.std.proofs.Common.{◌≡◌, ℕ, ◌+◌, List, [], ◌∷◌, map, Ok, sym, ap, subst}
use Rattle.std.specs.List.{AllByRecursion}
use Rattle.cir_token.specs.declared.token.Token.{Token}
use Rattle.cir_token.specs.declared.token.TokenKind.{TokenKind}
use Rattle.cir_token.specs.declared.token.TokenKind.TheVariants as token
use Rattle.cir_lexer.specs.Spelling.{is_identifier, IsSpelling}
use Rattle.cir_lexer.specs.Reading.{Piece, Gap, Spelled, IsCut, IsReading, tokens_of}
use Rattle.cir_expression.specs.Answers.{kinds}
use Rattle.cir_tree_names.specs.Named.{IsNamedToken}

spelled : (kind : TokenKind) (bytes : List ℕ) → IsSpelling bytes kind
    → IsNamedToken is_identifier kind
spelled (token.Name name) bytes h = h.1
spelled (token.Reserved word) bytes h = tt
spelled token.Underscore bytes h = tt
spelled (token.Number value) bytes h = tt
spelled (token.Str text) bytes h = tt
spelled (token.Symbol symbol) bytes h = tt

pieces_named : (text : List ℕ) (pieces : List Piece) (rest : List ℕ) (at : ℕ)
    → IsCut text pieces rest
    → AllByRecursion (IsNamedToken is_identifier) (kinds (tokens_of at pieces))
pieces_named text [] rest at h = tt
pieces_named text (Gap n ∷ pieces) rest at h = pieces_named h.0 pieces rest (at + n) h.2
pieces_named text (Spelled n kind ∷ pieces) rest at h =
    (spelled kind h.1.0 h.1.1.spelled, pieces_named h.0 pieces rest (at + n) h.2)

pub reading_named : (bytes : List ℕ) (tokens : List Token) → IsReading bytes (Ok tokens)
    → AllByRecursion (IsNamedToken is_identifier) (kinds tokens)
reading_named bytes tokens h =
    subst (λ (ts : List Token). AllByRecursion (IsNamedToken is_identifier) (kinds ts)) (sym h.2)
    (pieces_named bytes h.0 [] 0 h.1)
