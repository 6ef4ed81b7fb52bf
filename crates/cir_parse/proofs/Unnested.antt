-- Statements are read from the tokens that they print.
use Rattle.std.proofs.Common.{◌≡◌, ℕ, zero, suc, ◌≤◌, ◌<◌, List, [], ◌∷◌, ◌++◌, length, Some, None}
use Rattle.std.proofs.Common.{Bool, true, false, refl, ap, ◌∙◌, arith, append_assoc, append-nil}
use Rattle.std.proofs.Common.{length-append}
use Rattle.cir_token.specs.declared.token.TokenKind.TheVariants as token
use Rattle.cir_token.specs.declared.token.Reserved.TheVariants as word
use Rattle.cir_token.specs.declared.token.Symbol.{Symbol}
use Rattle.cir_token.specs.declared.token.Symbol.TheVariants as symbol
use Rattle.cir_ast.specs.Tree as tree
use Rattle.cir_ast.specs.Plain.{PlainExpr as Expr, PlainAssign as Assign, PlainFirst as First}
use Rattle.cir_ast.specs.Plain.{PlainLogArgument as LogArgument, PlainSimple as Simple}
use Rattle.cir_ast.specs.Plain.{PlainStatement as Statement, PlainStatements as Statements}
use Rattle.cir_ast.specs.Print as print
use Rattle.cir_ast.specs.Shape as shape
use Rattle.cir_ast.specs.Height as height
use Rattle.cir_expression.specs.Front.{Tokens, begins, begins_word, words_at}
use Rattle.cir_expression.specs.Reading.{starts}
use Rattle.cir_expression.proofs.Front.{not_start, expression_starts}
use Rattle.cir_expression.proofs.Undo.{expression_undo}
use Rattle.cir_expression.proofs.Combinators.{Undoes, any_number_undo, each_of}
use Rattle.cir_simple_statement.proofs.Undone.{variables_undo, assign_undo, simple_undo}
use Rattle.cir_parse.specs.Marking.{step_on, first_on, marked, all_marked}
use Rattle.cir_parse.specs.Reading.{argument, first, condition, head, simply, plain, statements_by}
use Rattle.cir_parse.specs.Reading.{if_by, statement}

-- an expression is no string
no_words : (e : Expr) (rest : Tokens) → words_at (print.tokens_of e ++ rest) ≡ None
no_words e rest = from (print.tokens_of e ++ rest) (expression_starts e rest)
  where
    from : (ts : Tokens) → starts ts ≡ true → words_at ts ≡ None
    from (token.Str words ∷ ts) h = absurd (cc h)
    from _ h = refl

height_some : (e : Expr) → 1 ≤ height.height_of e
height_some (tree.Number n) = omega arith
height_some _ = omega arith

argument_undo : (a : LogArgument) (room : ℕ) → shape.FitsArgument a
    → height.argument_height a ≤ room → Undoes print.argument_tokens (argument room) a
unfolding argument
argument_undo (tree.Words w) zero fits low rest ends = absurd (omega arith)
argument_undo (tree.Words w) (suc n) fits low rest ends = refl
argument_undo (tree.LogValue e) zero fits low rest ends = absurd (omega (arith, height_some e))
argument_undo (tree.LogValue e) (suc n) fits low rest ends =
    rw (no_words e rest, expression_undo e (suc n) rest fits low ends.goes) refl

argument_opens : (a : LogArgument) (after : Tokens)
    → begins symbol.CloseParenthesis (print.argument_tokens a ++ after) ≡ false
argument_opens (tree.Words w) after = refl
argument_opens (tree.LogValue e) after =
    not_start symbol.CloseParenthesis (print.tokens_of e ++ after) (expression_starts e after) refl

first_undo : (f : First) (room : ℕ) (rest : Tokens) → shape.IsShapedFirst f
    → height.first_height f ≤ room
    → first room (print.first_tokens f ++ token.Symbol symbol.Semicolon ∷ rest)
    ≡ Some (f, token.Symbol symbol.Semicolon ∷ rest)
unfolding first
first_undo (tree.FirstVars vs) room rest shaped low =
    rw (variables_undo vs room rest shaped.0 shaped.1 low) refl
first_undo (tree.FirstAssign a) room rest shaped low =
    let ended : Tokens = token.Symbol symbol.Semicolon ∷ rest in
    rw (no_var a ended, assign_undo a room ended shaped low refl) refl
  where
    no_var : (a : Assign) (after : Tokens)
        → begins_word word.Var (print.assign_tokens a ++ after) ≡ false
    no_var (tree.Set name _ accessors e) after = refl
    no_var _ after = refl

condition_undo : (e : Expr) (room : ℕ) (rest : Tokens) → shape.Fits 1 e → height.height_of e ≤ room
    → condition room
    (token.Symbol symbol.OpenParenthesis
    ∷ (print.tokens_of e ++ token.Symbol symbol.CloseParenthesis ∷ rest)) ≡ Some (e, rest)
unfolding condition
condition_undo e room rest fits low =
    rw (expression_undo e room (token.Symbol symbol.CloseParenthesis ∷ rest) fits low refl) refl

head_undo : {S : Type 0} (mark : Tokens → S) (f : First) (c : Expr) (a : Assign) (room : ℕ)
    (rest : Tokens)
    → shape.IsShapedFirst f → height.first_height f ≤ room → shape.Fits 1 c
    → height.height_of c ≤ room → shape.IsShapedAssign a → height.assign_height a ≤ room
    → head mark room (token.Symbol symbol.OpenParenthesis ∷ first_on f c a rest)
    ≡ Some (((mark (first_on f c a rest), f), c, (mark (step_on a rest), a)), rest)
unfolding head
head_undo mark f c a room rest sf lf sc lc sa la =
    let behind : Tokens = token.Symbol symbol.Semicolon ∷ step_on a rest in
    rw (
      first_undo f room (print.tokens_of c ++ behind) sf lf,
      expression_undo c room behind sc lc refl,
      assign_undo a room (token.Symbol symbol.CloseParenthesis ∷ rest) sa la refl,
    ) refl

-- begins as a simple statement does
abbrev starts_simple : Tokens → Bool
starts_simple (token.Reserved word.Var ∷ ts) = true
starts_simple (token.Reserved word.Signal ∷ ts) = true
starts_simple (token.Reserved word.Component ∷ ts) = true
starts_simple (token.Underscore ∷ ts) = true
starts_simple ts = starts ts

by_expression : (e : Expr) (after : Tokens) → starts_simple (print.tokens_of e ++ after) ≡ true
by_expression e after = from (print.tokens_of e ++ after) (expression_starts e after)
  where
    from : (ts : Tokens) → starts ts ≡ true → starts_simple ts ≡ true
    from (token.Reserved word.Var ∷ ts) h = refl
    from _ h = first_of (cc, cc h)

by_sides : (e : Expr) (s : Symbol) (right after : Tokens)
    → starts_simple ((print.tokens_of e ++ token.Symbol s ∷ right) ++ after) ≡ true
by_sides e s right after =
    rw append_assoc (by_expression e (token.Symbol s ∷ (right ++ after)))

simple_starts : (s : Simple) (after : Tokens)
    → starts_simple (print.simple_tokens s ++ after) ≡ true
simple_starts (tree.Assigned (tree.Set name _ accessors e)) after = refl
simple_starts (tree.Constrain a b) after = by_sides a _ _ after
simple_starts (tree.Right e a name _ accessors) after = by_sides e _ _ after
simple_starts (tree.TargetLeft tree.Discard a s) after = refl
simple_starts (tree.TargetRight (tree.One e) a t) after = by_sides e _ _ after
simple_starts (tree.Alone parallel name _ arguments inputs) after =
    by_expression (tree.Anonymous parallel name tt arguments inputs) after
simple_starts _ after = refl

-- what begins so is read as a simple statement
simply_read : {S : Type 0} (mark : Tokens → S) (room : ℕ) (ts : Tokens) → starts_simple ts ≡ true
    → statement mark (suc room) ts ≡ simply (mark ts) room ts
unfolding statement plain
simply_read mark room (token.Symbol symbol.OpenBrace ∷ ts) h = absurd (cc h)
simply_read mark room (token.Reserved word.If ∷ ts) h = absurd (cc h)
simply_read mark room _ h = first_of (cc, cc h)

-- a statement begins neither with `else` nor with `}`
abbrev Begins : Tokens → Type 0
Begins ts = (begins_word word.Else ts ≡ false) × (begins symbol.CloseBrace ts ≡ false)

statement_begins : {R : Type 0} (s : Statement R) (rest : Tokens)
    → Begins (print.statement_tokens s ++ rest)
statement_begins (tree.Ended r s) rest =
    rw append_assoc (from _ (simple_starts s (token.Symbol symbol.Semicolon ∷ rest)))
  where
    from : (ts : Tokens) → starts_simple ts ≡ true → Begins ts
    from (token.Reserved word.Else ∷ ts) h = absurd (cc h)
    from (token.Symbol symbol.CloseBrace ∷ ts) h = absurd (cc h)
    from _ h = (refl, refl)
statement_begins _ rest = (refl, refl)

statement_some : {R : Type 0} (s : Statement R) → 1 ≤ length (print.statement_tokens s)
statement_some (tree.Ended r s) =
    omega (arith, length-append (print.simple_tokens s) (token.Symbol symbol.Semicolon ∷ []))
statement_some _ = omega arith

statement_high : {R : Type 0} (s : Statement R) → 1 ≤ height.statement_height s
statement_high (tree.Block r ss) = omega arith
statement_high _ = omega arith

-- the statements of a tree's list
abbrev pub statement_list : {S : Type 0} → Statements S → List (Statement S)
statement_list tree.empty = []
statement_list (tree.then_more s ss) = s ∷ statement_list ss

pub statements_same : {S : Type 0} (ss : Statements S)
    → tree.as_statements (statement_list ss) ≡ ss
statements_same tree.empty = refl
statements_same (tree.then_more s ss) = ap (tree.then_more s) (statements_same ss)

-- so many may be read, and more
pub enough : {R : Type 0} (ss : Statements R) (rest : Tokens)
    → length (statement_list ss)
    < length (print.statements_tokens ss ++ token.Symbol symbol.CloseBrace ∷ rest)
enough tree.empty rest = omega arith
enough (tree.then_more s ss) rest =
    let after : Tokens = print.statements_tokens ss ++ token.Symbol symbol.CloseBrace ∷ rest in
    rw append_assoc (omega (
      arith,
      enough ss rest,
      statement_some s,
      length-append (print.statement_tokens s) after,
    ))

-- behind a statement of a block there is no `else`
rest_alone : {R : Type 0} (ss : Statements R) (rest : Tokens)
    → begins_word word.Else (print.statements_tokens ss ++ token.Symbol symbol.CloseBrace ∷ rest)
    ≡ false
rest_alone tree.empty rest = refl
rest_alone (tree.then_more s ss) rest = rw append_assoc (statement_begins s _).0

mutual
  unfolding statement plain if_by

  pub statement_undo : {R S : Type 0} (mark : Tokens → S) (s : Statement R) (room : ℕ)
      (rest : Tokens) → shape.IsShapedStatement s → height.statement_height s ≤ room
      → (shape.ends_open s ≡ true → begins_word word.Else rest ≡ false)
      → statement mark room (print.statement_tokens s ++ rest) ≡ Some (marked mark s rest, rest)
  statement_undo mark s zero rest shaped low alone =
      absurd (omega (arith, statement_high s))
  statement_undo mark (tree.Block r ss) (suc room) rest shaped low alone =
      simp append_assoc (rw (
        statements_undo mark ss room _ [] rest shaped (omega arith) (enough ss rest),
        statements_same (all_marked mark ss (token.Symbol symbol.CloseBrace ∷ rest)),
      ) refl)
  statement_undo mark (tree.If r c s) (suc room) rest shaped low alone =
      simp append_assoc (rw (
        condition_undo c room (print.statement_tokens s ++ rest) shaped.0 (omega arith),
        statement_undo mark s room rest shaped.1 (omega arith) (λ e. alone refl),
        alone refl,
      ) refl)
  statement_undo mark (tree.IfElse r c s t) (suc room) rest shaped low alone =
      let other : Tokens = token.Reserved word.Else ∷ (print.statement_tokens t ++ rest) in
      let shut : shape.ends_open s ≡ false = shaped.1 in
      simp append_assoc (rw (
        condition_undo c room (print.statement_tokens s ++ other) shaped.0 (omega arith),
        statement_undo mark s room other shaped.2 (omega arith) (λ e. absurd (cc (e, shut))),
        statement_undo mark t room rest shaped.3 (omega arith) alone,
      ) refl)
  statement_undo mark (tree.While r c s) (suc room) rest shaped low alone =
      simp append_assoc (rw (
        condition_undo c room (print.statement_tokens s ++ rest) shaped.0 (omega arith),
        statement_undo mark s room rest shaped.1 (omega arith) alone,
      ) refl)
  statement_undo mark (tree.For r q f c p a s) (suc room) rest shaped low alone =
      simp append_assoc (rw (
        head_undo mark f c a room (print.statement_tokens s ++ rest) shaped.0 (omega arith) shaped.1
            (omega arith) shaped.2 (omega arith),
        statement_undo mark s room rest shaped.3 (omega arith) alone,
      ) refl)
  statement_undo mark (tree.Return r e) (suc room) rest shaped low alone =
      simp append_assoc
      (rw (expression_undo e room (token.Symbol symbol.Semicolon ∷ rest) shaped (omega arith) refl)
      refl)
  statement_undo mark (tree.Assert r e) (suc room) rest shaped low alone =
      simp append_assoc
      (rw (condition_undo e room (token.Symbol symbol.Semicolon ∷ rest) shaped (omega arith)) refl)
  statement_undo mark (tree.Log r xs) (suc room) rest shaped low alone =
      simp append_assoc
      (rw (any_number_undo print.argument_tokens (argument room) xs
      (token.Symbol symbol.Semicolon ∷ rest)
      (each_of shape.FitsArgument (Undoes print.argument_tokens (argument room))
      height.argument_height room (λ a f l. argument_undo a room f l) xs shaped (omega arith))
      argument_opens) refl)
  statement_undo mark (tree.Ended r s) (suc room) rest shaped low alone =
      simp append_assoc
      (simply_read mark room (print.simple_tokens s ++ token.Symbol symbol.Semicolon ∷ rest)
      (simple_starts s (token.Symbol symbol.Semicolon ∷ rest))
      ∙ rw (simple_undo s room rest shaped (omega arith)) refl)

  pub statements_undo : {R S : Type 0} (mark : Tokens → S) (ss : Statements R) (room n : ℕ)
      (before : List (Statement S)) (rest : Tokens) → shape.AreShapedStatements ss
      → height.statements_height ss ≤ room → length (statement_list ss) < n
      → statements_by n (statement mark room) before
      (print.statements_tokens ss ++ token.Symbol symbol.CloseBrace ∷ rest)
      ≡ Some (
        before ++ statement_list (all_marked mark ss (token.Symbol symbol.CloseBrace ∷ rest)),
        rest,
      )
  statements_undo mark ss room zero before rest shaped low h = absurd (omega arith)
  statements_undo mark tree.empty room (suc n) before rest shaped low h = rw append-nil refl
  statements_undo mark (tree.then_more s ss) room (suc n) before rest shaped low h =
      let after : Tokens = print.statements_tokens ss ++ token.Symbol symbol.CloseBrace ∷ rest in
      simp append_assoc (rw (
        (statement_begins s after).1,
        statement_undo mark s room after shaped.0 (omega arith) (λ e. rest_alone ss rest),
      ) (statements_undo mark ss room n (before ++ marked mark s after ∷ []) rest shaped.1
      (omega arith) (omega arith) ∙ rw append_assoc refl))
