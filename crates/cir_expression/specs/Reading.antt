-- How an expression is read, as a function of its tokens.
--
-- A reading takes the tokens that are left, and answers the tree at their front with the tokens
-- behind it. Where a number comes first, it is the height that the tree may have.
use Rattle.std.specs.Prelude.{ℕ, zero, suc, ◌+◌, nat_le, Bool, true, false, if◌then◌else◌, List, []}
use Rattle.std.specs.Prelude.{◌∷◌, length, Option, Some, None}
use Rattle.cir_token.specs.declared.token.TokenKind.TheVariants as token
use Rattle.cir_token.specs.declared.token.Reserved.TheVariants.{Parallel}
use Rattle.cir_token.specs.declared.token.Symbol.{Symbol}
use Rattle.cir_token.specs.declared.token.Symbol.TheVariants as symbol
use Rattle.cir_ast.specs.declared.operators.Unary.{Unary as UnaryOp}
use Rattle.cir_ast.specs.declared.operators.Unary.TheVariants as unary
use Rattle.cir_ast.specs.declared.operators.Binary.{Binary as BinaryOp}
use Rattle.cir_ast.specs.declared.operators.Binary.TheVariants as binary
use Rattle.cir_ast.specs.declared.operators.Arrow.{Arrow}
use Rattle.cir_ast.specs.declared.operators.Arrow.TheVariants as arrows
use Rattle.cir_ast.specs.Tree.{Number, Place, Call, Anonymous, Parentheses, Array, Unary, Binary}
use Rattle.cir_ast.specs.Tree.{Choice, done, index, member, Listed, Named, unnamed, named, as_exprs}
use Rattle.cir_ast.specs.Plain.{PlainExpr as Expr, PlainAccessors as Accessors}
use Rattle.cir_ast.specs.Plain.{PlainInputs as Inputs, PlainNamedInputs as NamedInputs}
use Rattle.cir_ast.specs.Shape.{level_of}
use Rattle.cir_ast.specs.Height.{height_of}
use Rattle.cir_expression.specs.Front.{Tokens, tail, begins, begins_underscore, begins_word, behind}
use Rattle.cir_expression.specs.Front.{name_at, symbol_at}
use Rattle.cir_expression.specs.Combinators.{next, otherwise, listed_to}

-- an expression at the front, and the tokens behind it
abbrev pub Found : Type 0
Found = Option (Expr × Tokens)

abbrev pub unary_of : Symbol → Option UnaryOp
unary_of symbol.Minus = Some unary.Negate
unary_of symbol.Bang = Some unary.Not
unary_of symbol.Tilde = Some unary.Complement
unary_of _ = None

abbrev pub binary_of : Symbol → Option BinaryOp
binary_of symbol.StarStar = Some binary.Pow
binary_of symbol.Star = Some binary.Mul
binary_of symbol.Slash = Some binary.Div
binary_of symbol.Backslash = Some binary.Quotient
binary_of symbol.Percent = Some binary.Remainder
binary_of symbol.Plus = Some binary.Add
binary_of symbol.Minus = Some binary.Sub
binary_of symbol.ShiftLeft = Some binary.ShiftLeft
binary_of symbol.ShiftRight = Some binary.ShiftRight
binary_of symbol.Ampersand = Some binary.BitAnd
binary_of symbol.Caret = Some binary.BitXor
binary_of symbol.Bar = Some binary.BitOr
binary_of symbol.EqualEqual = Some binary.Equal
binary_of symbol.BangEqual = Some binary.NotEqual
binary_of symbol.Less = Some binary.Less
binary_of symbol.LessEqual = Some binary.LessEqual
binary_of symbol.Greater = Some binary.Greater
binary_of symbol.GreaterEqual = Some binary.GreaterEqual
binary_of symbol.AmpersandAmpersand = Some binary.And
binary_of symbol.BarBar = Some binary.Or
binary_of _ = None

abbrev pub unary_at : Tokens → Option UnaryOp
unary_at = symbol_at unary_of

abbrev pub binary_at : Tokens → Option BinaryOp
binary_at = symbol_at binary_of

-- the operator of this level or a tighter one at the front
abbrev pub continues : ℕ → Tokens → Option BinaryOp
continues level ts =
    next (binary_at ts) (λ op. if nat_le level (level_of op) then Some op else None)

abbrev pub within : ℕ → Expr → Option Expr
within room e = if nat_le (height_of e) room then Some e else None

-- no expression or more, and `)`
abbrev pub arguments_by : (Tokens → Found) → Tokens → Option (List Expr × Tokens)
arguments_by read ts =
    if begins symbol.CloseParenthesis ts
    then Some ([], tail ts)
    else listed_to symbol.CloseParenthesis (length ts) read [] ts

-- one expression or more, and `]`
abbrev pub elements_by : (Tokens → Found) → Tokens → Option (List Expr × Tokens)
elements_by read ts = listed_to symbol.CloseBracket (length ts) read [] ts

-- so many indices and members at most; what was read before stands in front of them
abbrev pub accessors_by : ℕ → (Tokens → Found) → (Accessors → Accessors) → Tokens
    → Option (Accessors × Tokens)
accessors_by zero read before ts = None
accessors_by (suc n) read before ts =
    if begins symbol.OpenBracket ts
    then next (read (tail ts))
    (λ e. next (behind symbol.CloseBracket e.1)
    (λ rest. accessors_by n read (λ a. before (index e.0 a)) rest))
    else (if begins symbol.Dot ts
    then next (name_at (tail ts))
    (λ name. accessors_by n read (λ a. before (member name.0 a)) name.1)
    else Some (before done, ts))

-- what is read behind a name
abbrev pub place_by : (Tokens → Found) → List ℕ → Tokens → Option ((List ℕ × Accessors) × Tokens)
place_by read name ts =
    next (accessors_by (suc (length ts)) read (λ a. a) ts)
    (λ found. Some ((name, found.0), found.1))

-- the arrow behind an input's name
abbrev pub arrow_of : Symbol → Option Arrow
arrow_of symbol.AssignLeft = Some arrows.Assign
arrow_of symbol.ConstrainLeft = Some arrows.Constrain
arrow_of _ = None

abbrev pub arrow_at : Tokens → Option Arrow
arrow_at = symbol_at arrow_of

-- an input's name and its arrow
abbrev pub input_at : Tokens → Option ((List ℕ × Arrow) × Tokens)
input_at ts =
    next (name_at ts)
    (λ name. next (arrow_at name.1) (λ arrow. Some ((name.0, arrow), tail name.1)))

-- a named input: its name, its arrow and its value
abbrev pub Input : Type 0
Input = (List ℕ × Arrow) × Expr

abbrev pub named_input : (Tokens → Found) → Tokens → Option (Input × Tokens)
named_input read ts =
    next (input_at ts) (λ i. next (read i.1) (λ e. Some ((i.0, e.0), e.1)))

abbrev pub as_inputs : List Input → NamedInputs
as_inputs [] = unnamed
as_inputs (i ∷ is) = named i.0.0 i.0.1 i.1 (as_inputs is)

-- one named input or more, and `)`
abbrev pub named_inputs_by : (Tokens → Found) → Tokens → Option (List Input × Tokens)
named_inputs_by read ts = listed_to symbol.CloseParenthesis (length ts) (named_input read) [] ts

-- the inputs of an anonymous component, and `)`; a name with an arrow is followed by named inputs
-- alone
abbrev pub inputs_by : (Tokens → Found) → Tokens → Option (Inputs × Tokens)
inputs_by read ts =
    otherwise (input_at ts)
    (next (arguments_by read ts) (λ found. Some (Listed (as_exprs found.0), found.1)))
    (λ i. next (named_inputs_by read ts) (λ found. Some (Named (as_inputs found.0), found.1)))

-- what is read behind a call's arguments: a `(` makes it an anonymous component
abbrev pub called_by : (Tokens → Found) → Bool → List ℕ → List Expr → Tokens → Found
called_by read parallel name arguments ts =
    if begins symbol.OpenParenthesis ts
    then next (inputs_by read (tail ts))
    (λ given. Some (Anonymous parallel name tt (as_exprs arguments) given.0, given.1))
    else Some (Call parallel name tt (as_exprs arguments), ts)

abbrev pub call_by : (Tokens → Found) → Bool → List ℕ → Tokens → Found
call_by read parallel name ts =
    next (behind symbol.OpenParenthesis ts)
    (λ inner. next (arguments_by read inner)
    (λ found. called_by read parallel name found.0 found.1))

-- a call, an anonymous component or a place
abbrev pub named_by : (Tokens → Found) → List ℕ → Tokens → Found
named_by read name ts =
    if begins symbol.OpenParenthesis ts
    then call_by read false name ts
    else next (place_by read name ts) (λ found. Some (Place found.0.0 tt found.0.1, found.1))

-- an operand that begins with a symbol: in parentheses, an array, or behind an operator. The first
-- reading takes a level.
abbrev pub grouped_by : (ℕ → Tokens → Found) → Tokens → Found
grouped_by read ts =
    if begins symbol.OpenParenthesis ts
    then next (read 1 (tail ts))
    (λ inner. next (behind symbol.CloseParenthesis inner.1)
    (λ rest. Some (Parentheses inner.0, rest)))
    else (if begins symbol.OpenBracket ts
    then next (elements_by (read 1) (tail ts)) (λ found. Some (Array (as_exprs found.0), found.1))
    else next (unary_at ts)
    (λ op. next (read 12 (tail ts)) (λ inner. Some (Unary op inner.0, inner.1))))

abbrev pub operand_by : (ℕ → Tokens → Found) → Tokens → Found
operand_by read (token.Number n ∷ ts) = Some (Number n, ts)
operand_by read (token.Name name ∷ ts) = named_by (read 1) name ts
operand_by read ts =
    if begins_word Parallel ts
    then next (name_at (tail ts)) (λ name. call_by (read 1) true name.0 name.1)
    else grouped_by read ts

-- the operators of this level and tighter ones behind a left operand, so many at most, with their
-- right operands
abbrev pub chain : ℕ → (ℕ → Tokens → Found) → ℕ → ℕ → Expr → Tokens → Found
chain zero read room level left ts = otherwise (continues level ts) (Some (left, ts)) (λ op. None)
chain (suc turns) read room level left ts =
    otherwise (continues level ts) (Some (left, ts)) (λ op.
    next (read (level_of op + 1) (tail ts)) (λ right.
    next (within room (Binary op left right.0)) (λ e. chain turns read room level e right.1)))

-- `?` and what follows it, where the level is that of `?:`
abbrev pub choice : (ℕ → Tokens → Found) → ℕ → ℕ → Expr → Tokens → Found
choice read room level condition ts =
    if nat_le level 1
    then (if begins symbol.Question ts
    then next (read 1 (tail ts))
    (λ chosen. next (behind symbol.Colon chosen.1) (λ rest. next (read 1 rest) (λ other.
    next (within room (Choice condition chosen.0 other.0)) (λ e. Some (e, other.1)))))
    else Some (condition, ts))
    else Some (condition, ts)

-- an expression whose operators outside parentheses are of this level or tighter
unfoldable pub climb : ℕ → ℕ → Tokens → Found
climb zero level ts = None
climb (suc room) level ts =
    next (operand_by (climb room) ts) (λ left.
    next (chain (suc room) (climb room) (suc room) level left.0 left.1) (λ whole.
    choice (climb room) (suc room) level whole.0 whole.1))

unfoldable pub expression : ℕ → Tokens → Found
expression room ts = climb room 1 ts

-- an expression whose first operand was read: the operators behind it, and what they stand between
unfoldable pub continued : ℕ → Expr → Tokens → Found
continued zero left ts = None
continued (suc room) left ts =
    next (chain (suc room) (climb room) (suc room) 1 left ts)
    (λ whole. choice (climb room) (suc room) 1 whole.0 whole.1)

-- an expression, or None for `_`
abbrev pub element : ℕ → Tokens → Option (Option Expr × Tokens)
element room ts =
    if begins_underscore ts then Some (None, tail ts)
    else next (expression room ts) (λ e. Some (Some e.0, e.1))

-- so many elements at most, behind those that were read before, and `)`
abbrev pub elements_to : ℕ → ℕ → List (Option Expr) → Tokens → Option (List (Option Expr) × Tokens)
elements_to n room before ts = listed_to symbol.CloseParenthesis n (element room) before ts

-- what begins with `(`: an expression, or a tuple of two elements or more
pub data Grouped : Type 0 where
  Whole : Expr → Grouped
  Tuple : List (Option Expr) → Grouped

-- one expression in parentheses is the first operand of an expression
abbrev pub whole : ℕ → Option Expr → Tokens → Found
whole room None ts = None
whole room (Some e) ts = next (within room (Parentheses e)) (λ p. continued room p ts)

-- what stands behind `(`
unfoldable pub group : ℕ → Tokens → Option (Grouped × Tokens)
group room ts =
    next (element room ts) (λ x.
    if begins symbol.Comma x.1
    then next (elements_to (length (tail x.1)) room (x.0 ∷ []) (tail x.1))
    (λ xs. Some (Tuple xs.0, xs.1))
    else next (behind symbol.CloseParenthesis x.1)
    (λ rest. next (whole room x.0 rest) (λ e. Some (Whole e.0, e.1))))

-- what is written: a name, and its indices and members, in which an expression is lower than the
-- place
unfoldable pub place : ℕ → Tokens → Option ((List ℕ × Accessors) × Tokens)
place zero ts = None
place (suc room) ts = next (name_at ts) (λ name. place_by (expression room) name.0 name.1)

-- no expression or more, and `)`
unfoldable pub arguments : ℕ → Tokens → Option (List Expr × Tokens)
arguments room ts = arguments_by (expression room) ts

-- an expression goes on with this token, where it could end before it
abbrev pub goes_on : Tokens → Bool
goes_on (token.Symbol symbol.OpenParenthesis ∷ ts) = true
goes_on (token.Symbol symbol.OpenBracket ∷ ts) = true
goes_on (token.Symbol symbol.Dot ∷ ts) = true
goes_on (token.Symbol symbol.Question ∷ ts) = true
goes_on (token.Symbol s ∷ ts) = otherwise (binary_of s) false (λ op. true)
goes_on _ = false

-- an expression begins with a token of this kind
abbrev pub starts : Tokens → Bool
starts (token.Number n ∷ ts) = true
starts (token.Name name ∷ ts) = true
starts (token.Reserved w ∷ ts) = begins_word Parallel (token.Reserved w ∷ ts)
starts (token.Symbol symbol.OpenParenthesis ∷ ts) = true
starts (token.Symbol symbol.OpenBracket ∷ ts) = true
starts (token.Symbol s ∷ ts) = otherwise (unary_of s) false (λ op. true)
starts _ = false
