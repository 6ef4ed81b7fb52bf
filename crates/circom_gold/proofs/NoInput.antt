-- A source file is no input: it is no JSON object.
use Rattle.std.proofs.Common.{◌≡◌, ◌+◌, ◌++◌, ◌⊎◌, inl, inr, ℕ, true, List}
use Rattle.std.proofs.Common.{[], ◌∷◌, Err, refl}
use Rattle.std.proofs.Common.{subst, sym, ap, arith}
use Rattle.std.specs.Prelude.{⊤}
use Rattle.std.proofs.lemmas.Bool.Decides.{nat_tests}
use Rattle.json.specs.Lex.{class, tokens}
use Rattle.cir_token.specs.declared.token.Token.{Token}
use Rattle.cir_token.specs.declared.token.TokenKind.{TokenKind}
use Rattle.cir_token.specs.declared.token.TokenKind.TheVariants.{Reserved as Word, Name, Underscore}
use Rattle.cir_token.specs.declared.token.TokenKind.TheVariants.{Number, Str, Symbol as Sign}
use Rattle.cir_token.specs.declared.token.Reserved.TheVariants as word
use Rattle.cir_lexer.specs.Bytes.{is_blank}
use Rattle.cir_lexer.specs.Spelling.{IsSpelling}
use Rattle.cir_lexer.specs.Reading.{Blank, Block, IsCut, IsGap, Line, Piece, Gap, Spelled}
use Rattle.cir_lexer.specs.Reading.{tokens_of}
use Rattle.cir_ast.specs.declared.program.Spot.{Spot}
use Rattle.cir_ast.specs.Plain.{PlainFile}
use Rattle.cir_ast.specs.Print.{file_tokens}
use Rattle.cir_ast.specs.Tree.{Pragma, Include, Template, Function, Main}
use Rattle.cir_expression.specs.Answers.{kinds}
use Rattle.cir_sources.specs.Includes.{IsRead}
use Rattle.cir_values.specs.declared.signals.InputShape.{InputShape}
use Rattle.wit_input.specs.Input.{input_of}
use Rattle.wit_input.specs.declared.fault.InputFault.TheVariants.{NotJson}
use Rattle.wit_input.proofs.NoObject.{BeginsNone, begins_blank, begins_nothing, begins_word}
use Rattle.wit_input.proofs.NoObject.{no_input}

-- the words with which items begin
abbrev IsFirst : TokenKind → Type 0
IsFirst (Word word.Pragma) = ⊤
IsFirst (Word word.Include) = ⊤
IsFirst (Word word.Template) = ⊤
IsFirst (Word word.Function) = ⊤
IsFirst (Word word.Component) = ⊤
IsFirst _ = ⊥

abbrev BeginsItem : List TokenKind → Type 0
BeginsItem [] = ⊤
BeginsItem (kind ∷ kinds) = IsFirst kind

item_first : {S : Type 0} (file : PlainFile S) → BeginsItem (file_tokens file)
item_first [] = tt
item_first (Pragma spot major minor patch ∷ items) = tt
item_first (Include spot name ∷ items) = tt
item_first (Template spot parallel name parameters ss ∷ items) = tt
item_first (Function spot name parameters ss ∷ items) = tt
item_first (Main spot names template meant arguments ∷ items) = tt

-- an item's word is no operator's byte, no space and no quote
pub word_first : (kind : TokenKind) (bytes after : List ℕ) → IsFirst kind
    → IsSpelling bytes kind → BeginsNone (tokens (bytes ++ after))
word_first (Word word.Pragma) bytes after h is =
    subst (λ (b : List ℕ). BeginsNone (tokens (b ++ after))) (sym is) (begins_word 112 _ refl)
word_first (Word word.Include) bytes after h is =
    subst (λ (b : List ℕ). BeginsNone (tokens (b ++ after))) (sym is) (begins_word 105 _ refl)
word_first (Word word.Template) bytes after h is =
    subst (λ (b : List ℕ). BeginsNone (tokens (b ++ after))) (sym is) (begins_word 116 _ refl)
word_first (Word word.Function) bytes after h is =
    subst (λ (b : List ℕ). BeginsNone (tokens (b ++ after))) (sym is) (begins_word 102 _ refl)
word_first (Word word.Component) bytes after h is =
    subst (λ (b : List ℕ). BeginsNone (tokens (b ++ after))) (sym is) (begins_word 99 _ refl)
word_first (Word word.Parallel) bytes after h is = absurd h
word_first (Word word.Main) bytes after h is = absurd h
word_first (Word word.Public) bytes after h is = absurd h
word_first (Word word.Signal) bytes after h is = absurd h
word_first (Word word.Input) bytes after h is = absurd h
word_first (Word word.Output) bytes after h is = absurd h
word_first (Word word.Var) bytes after h is = absurd h
word_first (Word word.If) bytes after h is = absurd h
word_first (Word word.Else) bytes after h is = absurd h
word_first (Word word.For) bytes after h is = absurd h
word_first (Word word.While) bytes after h is = absurd h
word_first (Word word.Return) bytes after h is = absurd h
word_first (Word word.Assert) bytes after h is = absurd h
word_first (Word word.Log) bytes after h is = absurd h
word_first (Word word.Bus) bytes after h is = absurd h
word_first (Name n) bytes after h is = absurd h
word_first Underscore bytes after h is = absurd h
word_first (Number n) bytes after h is = absurd h
word_first (Str t) bytes after h is = absurd h
word_first (Sign c) bytes after h is = absurd h

blank_is : (c : ℕ) → is_blank c ≡ true
    → (c ≡ 32) ⊎ ((c ≡ 9) ⊎ ((c ≡ 13) ⊎ (c ≡ 10)))
unfolding is_blank
blank_is c e = grind (arith, nat_tests, e)

blank_first : (c : ℕ) (after : List ℕ) → is_blank c ≡ true → BeginsNone (tokens after)
    → BeginsNone (tokens (c ∷ after))
blank_first c after e h = begins_blank c after (elim (blank_is c e) [
  | inl a ↦ ap class a
  | inr b ↦ elim b [
    | inl a ↦ ap class a
    | inr d ↦ elim d [
      | inl a ↦ ap class a
      | inr a ↦ ap class a
    ]
  ]
]) h

gap_first : (text after : List ℕ) → IsGap text after → BeginsNone (tokens after)
    → BeginsNone (tokens text)
gap_first text after (Blank c blank is) h =
    subst (λ (t : List ℕ). BeginsNone (tokens t)) (sym is) (blank_first c after blank h)
gap_first text after (Line body comment utf8) h =
    subst (λ (t : List ℕ). BeginsNone (tokens t)) (sym comment.begins) (begins_word 47 _ refl)
gap_first text after (Block body comment utf8) h =
    subst (λ (t : List ℕ). BeginsNone (tokens t)) (sym comment.begins) (begins_word 47 _ refl)

cut_first : (at : ℕ) (text : List ℕ) (pieces : List Piece) → IsCut text pieces []
    → BeginsItem (kinds (tokens_of at pieces)) → BeginsNone (tokens text)
cut_first at text [] cut h =
    subst (λ (t : List ℕ). BeginsNone (tokens t)) (sym cut) begins_nothing
cut_first at text (Gap n ∷ pieces) cut h =
    gap_first text cut.0 cut.1.0 (cut_first (at + n) cut.0 pieces cut.2 h)
cut_first at text (Spelled n kind ∷ pieces) cut h =
    subst (λ (t : List ℕ). BeginsNone (tokens t)) (sym cut.1.1.begins)
    (word_first kind cut.1.0 cut.0 h cut.1.1.spelled)

pub source_no_input : (bytes : List ℕ) (tree : PlainFile Spot)
    (inputs : List InputShape) → IsRead bytes tree → input_of bytes inputs ≡ Err NotJson
source_no_input bytes tree inputs read =
    no_input bytes inputs
    (cut_first 0 bytes read.reading.0 read.reading.1
    (subst (λ (ts : List Token). BeginsItem (kinds ts)) read.reading.2
    (subst BeginsItem read.file.is_tree.prints (item_first tree))))
