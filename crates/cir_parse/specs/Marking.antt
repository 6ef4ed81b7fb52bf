-- The marks that reading gives: each item and each statement, and both in the head of a `for`, get
-- the mark of the tokens from them on.
use Rattle.std.specs.Prelude.{[], ◌∷◌, ◌++◌}
use Rattle.cir_token.specs.declared.token.TokenKind.TheVariants as token
use Rattle.cir_token.specs.declared.token.Reserved.TheVariants as word
use Rattle.cir_token.specs.declared.token.Symbol.TheVariants as symbol
use Rattle.cir_ast.specs.Tree.{Block, If, IfElse, While, For, Return, Assert, Log, Ended, empty}
use Rattle.cir_ast.specs.Tree.{then_more, Pragma, Include, Template, Function, Main}
use Rattle.cir_ast.specs.Plain.{PlainExpr as Expr, PlainFirst as First, PlainAssign as Assign}
use Rattle.cir_ast.specs.Plain.{PlainStatement as Statement, PlainStatements as Statements}
use Rattle.cir_ast.specs.Plain.{PlainItem as Item, PlainFile as File}
use Rattle.cir_ast.specs.Print.{tokens_of, first_tokens, assign_tokens, statement_tokens}
use Rattle.cir_ast.specs.Print.{statements_tokens, item_tokens, file_tokens}
use Rattle.cir_expression.specs.Front.{Tokens}

-- from the last assignment in the head of a `for` on
abbrev pub step_on : Assign → Tokens → Tokens
step_on a body = assign_tokens a ++ token.Symbol symbol.CloseParenthesis ∷ body

-- from what the head of a `for` begins with on
abbrev pub first_on : First → Expr → Assign → Tokens → Tokens
first_on f c a body =
    first_tokens f ++ token.Symbol symbol.Semicolon
    ∷ (tokens_of c ++ token.Symbol symbol.Semicolon ∷ step_on a body)

-- the same statement before these tokens, with its marks
abbrev mutual
  pub marked : {R S : Type 0} → (Tokens → S) → Statement R → Tokens → Statement S
  marked mark (Block r ss) rest =
      Block (mark (statement_tokens (Block r ss) ++ rest))
      (all_marked mark ss (token.Symbol symbol.CloseBrace ∷ rest))
  marked mark (If r c s) rest =
      If (mark (statement_tokens (If r c s) ++ rest)) c (marked mark s rest)
  marked mark (IfElse r c s t) rest =
      IfElse (mark (statement_tokens (IfElse r c s t) ++ rest)) c
      (marked mark s (token.Reserved word.Else ∷ (statement_tokens t ++ rest))) (marked mark t rest)
  marked mark (While r c s) rest =
      While (mark (statement_tokens (While r c s) ++ rest)) c (marked mark s rest)
  marked mark (For r q f c p a s) rest =
      For (mark (statement_tokens (For r q f c p a s) ++ rest))
      (mark (first_on f c a (statement_tokens s ++ rest))) f c
      (mark (step_on a (statement_tokens s ++ rest))) a (marked mark s rest)
  marked mark (Return r e) rest = Return (mark (statement_tokens (Return r e) ++ rest)) e
  marked mark (Assert r e) rest = Assert (mark (statement_tokens (Assert r e) ++ rest)) e
  marked mark (Log r arguments) rest =
      Log (mark (statement_tokens (Log r arguments) ++ rest)) arguments
  marked mark (Ended r s) rest = Ended (mark (statement_tokens (Ended r s) ++ rest)) s

  pub all_marked : {R S : Type 0} → (Tokens → S) → Statements R → Tokens → Statements S
  all_marked mark empty rest = empty
  all_marked mark (then_more s ss) rest =
      then_more (marked mark s (statements_tokens ss ++ rest)) (all_marked mark ss rest)

abbrev pub marked_item : {R S : Type 0} → (Tokens → S) → Item R → Tokens → Item S
marked_item mark (Pragma r major minor patch) rest =
    Pragma (mark (item_tokens {N = Unit {0}} (Pragma r major minor patch) ++ rest)) major minor
    patch
marked_item mark (Include r name) rest =
    Include (mark (item_tokens {N = Unit {0}} (Include r name) ++ rest)) name
marked_item mark (Template r parallel name parameters ss) rest =
    Template (mark (item_tokens (Template r parallel name parameters ss) ++ rest)) parallel name
    parameters
    (all_marked mark ss (token.Symbol symbol.CloseBrace ∷ rest))
marked_item mark (Function r name parameters ss) rest =
    Function (mark (item_tokens (Function r name parameters ss) ++ rest)) name parameters
    (all_marked mark ss (token.Symbol symbol.CloseBrace ∷ rest))
marked_item mark (Main r names template meant arguments) rest =
    Main (mark (item_tokens (Main r names template meant arguments) ++ rest)) names template meant
    arguments

-- items before these tokens
abbrev pub marked_items : {R S : Type 0} → (Tokens → S) → File R → Tokens → File S
marked_items mark [] rest = []
marked_items mark (i ∷ is) rest =
    marked_item mark i (file_tokens is ++ rest) ∷ marked_items mark is rest

abbrev pub marked_file : {R S : Type 0} → (Tokens → S) → File R → File S
marked_file mark file = marked_items mark file []
