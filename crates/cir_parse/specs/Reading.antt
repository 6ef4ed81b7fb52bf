-- How statements and items are read, as functions of their tokens.
--
-- The number `room` is the height that an expression or a statement inside may have; of a statement
-- it is the height that it may have itself, and of an item that of the statements in its block. A
-- mark is what a statement or an item carries as its place, by the tokens from it on.
use Rattle.std.specs.Prelude.{ℕ, zero, suc, ◌+◌, if◌then◌else◌, List, [], ◌∷◌, ◌++◌, length, Option}
use Rattle.std.specs.Prelude.{Some, None, Bool, true, false, codes}
use Rattle.std.specs.Str.{bytes_eq}
use Rattle.cir_token.specs.declared.token.Reserved.TheVariants as word
use Rattle.cir_token.specs.declared.token.Symbol.TheVariants as symbol
use Rattle.cir_ast.specs.Tree.{as_exprs, FirstVars, FirstAssign, Words, LogValue, Block, If, IfElse}
use Rattle.cir_ast.specs.Tree.{While, For, Return, Assert, Log, Ended, as_statements, Pragma}
use Rattle.cir_ast.specs.Tree.{Include, Template, Function, Main}
use Rattle.cir_ast.specs.Plain.{PlainExpr as Expr, PlainAssign as Assign, PlainFirst as First}
use Rattle.cir_ast.specs.Plain.{PlainLogArgument as LogArgument, PlainStatement as Statement}
use Rattle.cir_ast.specs.Plain.{PlainStatements as Statements, PlainItem as Item}
use Rattle.cir_expression.specs.Front.{Tokens, tail, begins, begins_word, behind, behind_word}
use Rattle.cir_expression.specs.Front.{name_at, words_at, number_at}
use Rattle.cir_expression.specs.Combinators.{next, otherwise, after, closed, made, enclosed}
use Rattle.cir_expression.specs.Combinators.{separated, any_number}
use Rattle.cir_expression.specs.Reading.{expression, arguments}
use Rattle.cir_simple_statement.specs.Reading.{variable, assign, simple}

-- a string is a node
unfoldable pub argument : ℕ → Tokens → Option (LogArgument × Tokens)
argument zero ts = None
argument (suc n) ts =
    otherwise (words_at ts) (made LogValue (expression (suc n) ts))
    (λ words. Some (Words words.0, words.1))

unfoldable pub first : ℕ → Tokens → Option (First × Tokens)
first room ts =
    if begins_word word.Var ts then made FirstVars (separated (variable room) (tail ts))
    else made FirstAssign (assign room ts)

unfoldable pub condition : ℕ → Tokens → Option (Expr × Tokens)
condition room ts = enclosed (expression room) ts

-- what is read, with its mark
abbrev pub marked_by : {S A : Type 0} → (Tokens → S) → (Tokens → Option (A × Tokens)) → Tokens
    → Option ((S × A) × Tokens)
marked_by mark read ts = made (λ x. (mark ts, x)) (read ts)

-- in the parentheses of a `for`
unfoldable pub head : {S : Type 0} → (Tokens → S) → ℕ → Tokens
    → Option (((S × First) × Expr × (S × Assign)) × Tokens)
head mark room ts =
    next (closed symbol.Semicolon (after symbol.OpenParenthesis (marked_by mark (first room)) ts))
    (λ f.
    next (closed symbol.Semicolon (expression room f.1)) (λ c.
    next (closed symbol.CloseParenthesis (marked_by mark (assign room) c.1))
    (λ a. Some ((f.0, c.0, a.0), a.1))))

-- what stands behind `return`, `assert` and `log`
abbrev pub returned : {S : Type 0} → S → ℕ → Tokens → Option (Statement S × Tokens)
returned spot room ts = made (Return spot) (closed symbol.Semicolon (expression room ts))

abbrev pub asserted : {S : Type 0} → S → ℕ → Tokens → Option (Statement S × Tokens)
asserted spot room ts = made (Assert spot) (closed symbol.Semicolon (condition room ts))

abbrev pub logged : {S : Type 0} → S → ℕ → Tokens → Option (Statement S × Tokens)
logged spot room ts =
    made (Log spot) (closed symbol.Semicolon (enclosed (any_number (argument room)) ts))

-- a simple statement and its `;`
abbrev pub simply : {S : Type 0} → S → ℕ → Tokens → Option (Statement S × Tokens)
simply spot room ts = made (Ended spot) (closed symbol.Semicolon (simple room ts))

-- a statement without one inside
unfoldable pub plain : {S : Type 0} → S → ℕ → Tokens → Option (Statement S × Tokens)
plain spot room ts =
    if begins_word word.Return ts then returned spot room (tail ts) else
    (if begins_word word.Assert ts then asserted spot room (tail ts) else
    (if begins_word word.Log ts then logged spot room (tail ts) else simply spot room ts))

-- so many statements at most and `}`, behind those that were read before
abbrev pub statements_by : {A : Type 0} → ℕ → (Tokens → Option (A × Tokens)) → List A → Tokens
    → Option (List A × Tokens)
statements_by zero read before ts = None
statements_by (suc n) read before ts =
    if begins symbol.CloseBrace ts
    then Some (before, tail ts)
    else next (read ts) (λ s. statements_by n read (before ++ s.0 ∷ []) s.1)

-- statements and `}`
abbrev pub rest_by : {A : Type 0} → (Tokens → Option (A × Tokens)) → Tokens
    → Option (List A × Tokens)
rest_by read ts = statements_by (length ts) read [] ts

-- what stands behind a condition and the chosen statement; an `else` belongs to the innermost `if`
abbrev pub else_by : {S : Type 0} → S → (Tokens → Option (Statement S × Tokens)) → Expr
    → Statement S → Tokens → Option (Statement S × Tokens)
else_by spot read condition chosen ts =
    if begins_word word.Else ts then made (IfElse spot condition chosen) (read (tail ts))
    else Some (If spot condition chosen, ts)

-- what stands behind `if`
unfoldable pub if_by : {S : Type 0} → S → ℕ → (Tokens → Option (Statement S × Tokens)) → Tokens
    → Option (Statement S × Tokens)
if_by spot room read ts =
    next (condition room ts) (λ c. next (read c.1) (λ s. else_by spot read c.0 s.0 s.1))

abbrev pub while_by : {S : Type 0} → S → ℕ → (Tokens → Option (Statement S × Tokens)) → Tokens
    → Option (Statement S × Tokens)
while_by spot room read ts = next (condition room ts) (λ c. made (While spot c.0) (read c.1))

abbrev pub for_by : {S : Type 0} → (Tokens → S) → S → ℕ → (Tokens → Option (Statement S × Tokens))
    → Tokens → Option (Statement S × Tokens)
for_by mark spot room read ts =
    next (head mark room ts) (λ h. made (For spot h.0.0.0 h.0.0.1 h.0.1 h.0.2.0 h.0.2.1) (read h.1))

-- a statement, where those inside are read so; its mark is that of the tokens from it on
abbrev pub statement_by : {S : Type 0} → (Tokens → S) → ℕ → (Tokens → Option (Statement S × Tokens))
    → Tokens → Option (Statement S × Tokens)
statement_by mark room read ts =
    if begins symbol.OpenBrace ts
    then made (λ ss. Block (mark ts) (as_statements ss)) (rest_by read (tail ts)) else
    (if begins_word word.If ts then if_by (mark ts) room read (tail ts) else
    (if begins_word word.While ts then while_by (mark ts) room read (tail ts) else
    (if begins_word word.For ts then for_by mark (mark ts) room read (tail ts)
    else plain (mark ts) room ts)))

unfoldable pub statement : {S : Type 0} → (Tokens → S) → ℕ → Tokens → Option (Statement S × Tokens)
statement mark zero ts = None
statement mark (suc room) ts = statement_by mark room (statement mark room) ts

-- a block of a definition
abbrev pub block : {S : Type 0} → (Tokens → S) → ℕ → Tokens → Option (List (Statement S) × Tokens)
block mark room ts = after symbol.OpenBrace (rest_by (statement mark room)) ts

unfoldable pub parameters : Tokens → Option (List (List ℕ) × Tokens)
parameters ts = enclosed (any_number name_at) ts

-- the word `circom`
abbrev pub language_at : Tokens → Option Tokens
language_at ts =
    next (name_at ts) (λ name. if bytes_eq name.0 (codes "circom") then Some name.1 else None)

-- what stands behind `pragma`
unfoldable pub pragma : {S : Type 0} → S → Tokens → Option (Item S × Tokens)
pragma spot ts =
    next (language_at ts) (λ a.
    next (closed symbol.Dot (number_at a)) (λ major.
    next (closed symbol.Dot (number_at major.1)) (λ minor.
    made (Pragma spot major.0 minor.0) (closed symbol.Semicolon (number_at minor.1)))))

-- what stands behind `function`, and behind the words of a template: a name, parameters and a block
unfoldable pub definition : {S : Type 0} → (Tokens → S) → ℕ → Tokens
    → Option ((List ℕ × List (List ℕ) × Statements S) × Tokens)
definition mark room ts =
    next (name_at ts)
    (λ name. next (parameters name.1)
    (λ ps. made (λ ss. (name.0, ps.0, as_statements ss)) (block mark room ps.1)))

-- what stands behind the words of a template
abbrev pub template : {S : Type 0} → (Tokens → S) → S → ℕ → Bool → Tokens → Option (Item S × Tokens)
template mark spot room parallel ts =
    made (λ d. Template spot parallel d.0 d.1 d.2) (definition mark room ts)

-- the public inputs, or none where they aren't written
unfoldable pub public_names : Tokens → Option (List (List ℕ) × Tokens)
public_names ts =
    if begins symbol.OpenBrace ts
    then next (behind_word word.Public (tail ts)) (λ a.
    closed symbol.CloseBrace
    (closed symbol.CloseBracket (after symbol.OpenBracket (separated name_at) a)))
    else Some ([], ts)

-- what stands behind `component`
unfoldable pub main : {S : Type 0} → S → ℕ → Tokens → Option (Item S × Tokens)
main spot room ts =
    next (behind_word word.Main ts) (λ a. next (public_names a) (λ names.
    next (after symbol.Equal name_at names.1) (λ name.
    next (behind symbol.OpenParenthesis name.1) (λ b.
    made (λ es. Main spot names.0 name.0 tt (as_exprs es))
    (closed symbol.Semicolon (arguments room b))))))

-- an item; its mark is that of the tokens from it on
unfoldable pub item : {S : Type 0} → (Tokens → S) → ℕ → Tokens → Option (Item S × Tokens)
item mark room ts =
    if begins_word word.Pragma ts then pragma (mark ts) (tail ts) else
    (if begins_word word.Include ts
    then made (Include (mark ts)) (closed symbol.Semicolon (words_at (tail ts))) else
    (if begins_word word.Template ts then
    (if begins_word word.Parallel (tail ts)
    then template mark (mark ts) room true (tail (tail ts))
    else template mark (mark ts) room false (tail ts)) else
    (if begins_word word.Function ts
    then made (λ d. Function (mark ts) d.0 d.1 d.2) (definition mark room (tail ts)) else
    next (behind_word word.Component ts) (λ rest. main (mark ts) (room + 1) rest))))
