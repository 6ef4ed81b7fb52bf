-- The tokens that a tree prints.
use Rattle.std.specs.Prelude.{ℕ, Bool, true, false, List, [], ◌∷◌, ◌++◌, Option, Some, None, codes}
use Rattle.std.specs.List.{flat_map}
use Rattle.cir_token.specs.declared.token.TokenKind.{TokenKind}
use Rattle.cir_token.specs.declared.token.TokenKind.TheVariants as token
use Rattle.cir_token.specs.declared.token.Reserved.TheVariants as word
use Rattle.cir_token.specs.declared.token.Symbol.{Symbol}
use Rattle.cir_token.specs.declared.token.Symbol.TheVariants as symbol
use Rattle.cir_ast.specs.declared.operators.Unary.{Unary as UnaryOp}
use Rattle.cir_ast.specs.declared.operators.Unary.TheVariants as unary
use Rattle.cir_ast.specs.declared.operators.Binary.{Binary as BinaryOp}
use Rattle.cir_ast.specs.declared.operators.Binary.TheVariants as binary
use Rattle.cir_ast.specs.declared.operators.Compound.{Compound as CompoundOp}
use Rattle.cir_ast.specs.declared.operators.Compound.TheVariants as compound
use Rattle.cir_ast.specs.declared.operators.Arrow.{Arrow}
use Rattle.cir_ast.specs.declared.operators.Arrow.TheVariants as arrow
use Rattle.cir_ast.specs.declared.operators.Direction.{Direction}
use Rattle.cir_ast.specs.declared.operators.Direction.TheVariants as direction
use Rattle.cir_ast.specs.Tree as tree

abbrev pub unary_symbol : UnaryOp → Symbol
unary_symbol unary.Negate = symbol.Minus
unary_symbol unary.Not = symbol.Bang
unary_symbol unary.Complement = symbol.Tilde

abbrev pub binary_symbol : BinaryOp → Symbol
binary_symbol binary.Pow = symbol.StarStar
binary_symbol binary.Mul = symbol.Star
binary_symbol binary.Div = symbol.Slash
binary_symbol binary.Quotient = symbol.Backslash
binary_symbol binary.Remainder = symbol.Percent
binary_symbol binary.Add = symbol.Plus
binary_symbol binary.Sub = symbol.Minus
binary_symbol binary.ShiftLeft = symbol.ShiftLeft
binary_symbol binary.ShiftRight = symbol.ShiftRight
binary_symbol binary.BitAnd = symbol.Ampersand
binary_symbol binary.BitXor = symbol.Caret
binary_symbol binary.BitOr = symbol.Bar
binary_symbol binary.Equal = symbol.EqualEqual
binary_symbol binary.NotEqual = symbol.BangEqual
binary_symbol binary.Less = symbol.Less
binary_symbol binary.LessEqual = symbol.LessEqual
binary_symbol binary.Greater = symbol.Greater
binary_symbol binary.GreaterEqual = symbol.GreaterEqual
binary_symbol binary.And = symbol.AmpersandAmpersand
binary_symbol binary.Or = symbol.BarBar

abbrev pub compound_symbol : CompoundOp → Symbol
compound_symbol compound.Pow = symbol.StarStarEqual
compound_symbol compound.ShiftLeft = symbol.ShiftLeftEqual
compound_symbol compound.ShiftRight = symbol.ShiftRightEqual
compound_symbol compound.Add = symbol.PlusEqual
compound_symbol compound.Sub = symbol.MinusEqual
compound_symbol compound.Mul = symbol.StarEqual
compound_symbol compound.Div = symbol.SlashEqual
compound_symbol compound.Quotient = symbol.BackslashEqual
compound_symbol compound.Remainder = symbol.PercentEqual
compound_symbol compound.And = symbol.AmpersandEqual
compound_symbol compound.Or = symbol.BarEqual
compound_symbol compound.Xor = symbol.CaretEqual

-- the word `parallel`, where it is written
abbrev pub parallel_tokens : Bool → List TokenKind
parallel_tokens true = token.Reserved word.Parallel ∷ []
parallel_tokens false = []

abbrev pub left_symbol : Arrow → Symbol
left_symbol arrow.Assign = symbol.AssignLeft
left_symbol arrow.Constrain = symbol.ConstrainLeft

abbrev pub right_symbol : Arrow → Symbol
right_symbol arrow.Assign = symbol.AssignRight
right_symbol arrow.Constrain = symbol.ConstrainRight

-- in parentheses
abbrev pub enclosed : List TokenKind → List TokenKind
enclosed tokens =
    token.Symbol symbol.OpenParenthesis ∷ (tokens ++ token.Symbol symbol.CloseParenthesis ∷ [])

abbrev mutual
  pub tokens_of : {N : Type 0} → tree.Expr N → List TokenKind
  tokens_of (tree.Number n) = token.Number n ∷ []
  tokens_of (tree.Place name meant accessors) = token.Name name ∷ accessor_tokens accessors
  tokens_of (tree.Call parallel name meant arguments) =
      parallel_tokens parallel ++ token.Name name ∷ enclosed (listed arguments)
  tokens_of (tree.Anonymous parallel name meant arguments inputs) =
      parallel_tokens parallel ++ token.Name name ∷ token.Symbol symbol.OpenParenthesis
      ∷ (listed arguments ++ token.Symbol symbol.CloseParenthesis ∷ enclosed (input_tokens inputs))
  tokens_of (tree.Parentheses e) = enclosed (tokens_of e)
  tokens_of (tree.Array elements) =
      token.Symbol symbol.OpenBracket ∷ (listed elements ++ token.Symbol symbol.CloseBracket ∷ [])
  tokens_of (tree.Unary op a) = token.Symbol (unary_symbol op) ∷ tokens_of a
  tokens_of (tree.Binary op a b) = tokens_of a ++ token.Symbol (binary_symbol op) ∷ tokens_of b
  tokens_of (tree.Choice c a b) =
      tokens_of c ++ token.Symbol symbol.Question
      ∷ (tokens_of a ++ token.Symbol symbol.Colon ∷ tokens_of b)

  -- with commas between them
  pub listed : {N : Type 0} → tree.Exprs N → List TokenKind
  listed tree.none = []
  listed (tree.more e es) = tokens_of e ++ listed_further es

  -- each behind a comma
  pub listed_further : {N : Type 0} → tree.Exprs N → List TokenKind
  listed_further tree.none = []
  listed_further (tree.more e es) = token.Symbol symbol.Comma ∷ (tokens_of e ++ listed_further es)

  pub accessor_tokens : {N : Type 0} → tree.Accessors N → List TokenKind
  accessor_tokens tree.done = []
  accessor_tokens (tree.index e rest) =
      token.Symbol symbol.OpenBracket
      ∷ (tokens_of e ++ token.Symbol symbol.CloseBracket ∷ accessor_tokens rest)
  accessor_tokens (tree.member name rest) =
      token.Symbol symbol.Dot ∷ token.Name name ∷ accessor_tokens rest

  pub input_tokens : {N : Type 0} → tree.Inputs N → List TokenKind
  input_tokens (tree.Listed es) = listed es
  input_tokens (tree.Named is) = named_tokens is

  -- with commas between them
  pub named_tokens : {N : Type 0} → tree.NamedInputs N → List TokenKind
  named_tokens tree.unnamed = []
  named_tokens (tree.named name arrow e is) =
      token.Name name ∷ token.Symbol (left_symbol arrow) ∷ (tokens_of e ++ named_further is)

  -- each behind a comma
  pub named_further : {N : Type 0} → tree.NamedInputs N → List TokenKind
  named_further tree.unnamed = []
  named_further (tree.named name arrow e is) =
      token.Symbol symbol.Comma ∷ token.Name name ∷ token.Symbol (left_symbol arrow)
      ∷ (tokens_of e ++ named_further is)

-- each in brackets
abbrev pub dimension_tokens : {N : Type 0} → tree.Exprs N → List TokenKind
dimension_tokens tree.none = []
dimension_tokens (tree.more e es) =
    token.Symbol symbol.OpenBracket
    ∷ (tokens_of e ++ token.Symbol symbol.CloseBracket ∷ dimension_tokens es)

-- each behind a comma
abbrev pub further_tokens : {A : Type 0} → (A → List TokenKind) → List A → List TokenKind
further_tokens print [] = []
further_tokens print (x ∷ xs) = token.Symbol symbol.Comma ∷ (print x ++ further_tokens print xs)

-- with commas between them
abbrev pub list_tokens : {A : Type 0} → (A → List TokenKind) → List A → List TokenKind
list_tokens print [] = []
list_tokens print (x ∷ xs) = print x ++ further_tokens print xs

-- and a semicolon
abbrev pub ended : List TokenKind → List TokenKind
ended tokens = tokens ++ token.Symbol symbol.Semicolon ∷ []

abbrev pub name_tokens : List ℕ → List TokenKind
name_tokens name = token.Name name ∷ []

abbrev pub value_tokens : {N : Type 0} → Option (tree.Expr N) → List TokenKind
value_tokens None = []
value_tokens (Some e) = token.Symbol symbol.Equal ∷ tokens_of e

abbrev pub variable_tokens : {N : Type 0} → tree.Variable N → List TokenKind
variable_tokens v = token.Name v.name ∷ (dimension_tokens v.dimensions ++ value_tokens v.value)

abbrev pub signal_value_tokens : {N : Type 0} → tree.SignalValue N → List TokenKind
signal_value_tokens tree.Nothing = []
signal_value_tokens (tree.Given arrow e) = token.Symbol (left_symbol arrow) ∷ tokens_of e

abbrev pub signal_tokens : {N : Type 0} → tree.Signal N → List TokenKind
signal_tokens s = token.Name s.name ∷ (dimension_tokens s.dimensions ++ signal_value_tokens s.value)

abbrev pub component_tokens : {N : Type 0} → tree.Component N → List TokenKind
component_tokens c = token.Name c.name ∷ dimension_tokens c.dimensions

-- the word behind `signal`
abbrev pub direction_tokens : Direction → List TokenKind
direction_tokens direction.Inner = []
direction_tokens direction.Input = token.Reserved word.Input ∷ []
direction_tokens direction.Output = token.Reserved word.Output ∷ []

abbrev pub vars_tokens : {N : Type 0} → List (tree.Variable N) → List TokenKind
vars_tokens variables = token.Reserved word.Var ∷ list_tokens variable_tokens variables

abbrev pub place_tokens : {N : Type 0} → List ℕ → tree.Accessors N → List TokenKind
place_tokens name accessors = token.Name name ∷ accessor_tokens accessors

-- a place, a symbol and an expression
abbrev pub written_tokens : {N : Type 0} → List ℕ → tree.Accessors N → Symbol → tree.Expr N
    → List TokenKind
written_tokens name accessors s e = place_tokens name accessors ++ token.Symbol s ∷ tokens_of e

abbrev pub assign_tokens : {N : Type 0} → tree.Assign N → List TokenKind
assign_tokens (tree.Set name meant accessors e) = written_tokens name accessors symbol.Equal e
assign_tokens (tree.Compound name meant accessors op e) =
    written_tokens name accessors (compound_symbol op) e
assign_tokens (tree.Left name meant accessors arrow e) =
    written_tokens name accessors (left_symbol arrow) e
assign_tokens (tree.Increment name meant accessors) =
    place_tokens name accessors ++ token.Symbol symbol.PlusPlus ∷ []
assign_tokens (tree.Decrement name meant accessors) =
    place_tokens name accessors ++ token.Symbol symbol.MinusMinus ∷ []

abbrev pub first_tokens : {N : Type 0} → tree.First N → List TokenKind
first_tokens (tree.FirstVars variables) = vars_tokens variables
first_tokens (tree.FirstAssign a) = assign_tokens a

abbrev pub argument_tokens : {N : Type 0} → tree.LogArgument N → List TokenKind
argument_tokens (tree.Words w) = token.Str w ∷ []
argument_tokens (tree.LogValue e) = tokens_of e

abbrev pub slot_tokens : {N : Type 0} → tree.Slot N → List TokenKind
slot_tokens (tree.SlotPlace name meant accessors) = place_tokens name accessors
slot_tokens tree.SlotDiscard = token.Underscore ∷ []

abbrev pub target_tokens : {N : Type 0} → tree.Target N → List TokenKind
target_tokens tree.Discard = token.Underscore ∷ []
target_tokens (tree.Slots slots) = enclosed (list_tokens slot_tokens slots)

abbrev pub source_tokens : {N : Type 0} → tree.Source N → List TokenKind
source_tokens (tree.One e) = tokens_of e
source_tokens (tree.Values es) = enclosed (list_tokens tokens_of es)

abbrev pub simple_tokens : {N : Type 0} → tree.Simple N → List TokenKind
simple_tokens (tree.Vars variables) = vars_tokens variables
simple_tokens (tree.Signals direction signals) =
    token.Reserved word.Signal ∷ (direction_tokens direction ++ list_tokens signal_tokens signals)
simple_tokens (tree.Declared components) =
    token.Reserved word.Component ∷ list_tokens component_tokens components
simple_tokens (tree.Created name meant e) =
    token.Reserved word.Component ∷ token.Name name ∷ token.Symbol symbol.Equal ∷ tokens_of e
simple_tokens (tree.Assigned a) = assign_tokens a
simple_tokens (tree.Constrain a b) = tokens_of a ++ token.Symbol symbol.Constrain ∷ tokens_of b
simple_tokens (tree.Right e arrow name meant accessors) =
    tokens_of e ++ token.Symbol (right_symbol arrow) ∷ place_tokens name accessors
simple_tokens (tree.TargetLeft target arrow source) =
    target_tokens target ++ token.Symbol (left_symbol arrow) ∷ source_tokens source
simple_tokens (tree.TargetRight source arrow target) =
    source_tokens source ++ token.Symbol (right_symbol arrow) ∷ target_tokens target
simple_tokens (tree.Alone parallel name meant arguments inputs) =
    tokens_of (tree.Anonymous parallel name meant arguments inputs)

-- in the parentheses of a `for`
abbrev pub for_tokens : {N : Type 0} → tree.First N → tree.Expr N → tree.Assign N → List TokenKind
for_tokens first condition step =
    ended (first_tokens first) ++ (ended (tokens_of condition) ++ assign_tokens step)

abbrev mutual
  pub statement_tokens : {S N : Type 0} → tree.Statement S N → List TokenKind
  statement_tokens (tree.Block spot ss) =
      token.Symbol symbol.OpenBrace ∷ (statements_tokens ss ++ token.Symbol symbol.CloseBrace ∷ [])
  statement_tokens (tree.If spot c s) =
      token.Reserved word.If ∷ (enclosed (tokens_of c) ++ statement_tokens s)
  statement_tokens (tree.IfElse spot c s t) =
      token.Reserved word.If
      ∷ (enclosed (tokens_of c)
      ++ (statement_tokens s ++ token.Reserved word.Else ∷ statement_tokens t))
  statement_tokens (tree.While spot c s) =
      token.Reserved word.While ∷ (enclosed (tokens_of c) ++ statement_tokens s)
  statement_tokens (tree.For spot first_spot f c step_spot a s) =
      token.Reserved word.For ∷ (enclosed (for_tokens f c a) ++ statement_tokens s)
  statement_tokens (tree.Return spot e) = token.Reserved word.Return ∷ ended (tokens_of e)
  statement_tokens (tree.Assert spot e) =
      token.Reserved word.Assert ∷ ended (enclosed (tokens_of e))
  statement_tokens (tree.Log spot arguments) =
      token.Reserved word.Log ∷ ended (enclosed (list_tokens argument_tokens arguments))
  statement_tokens (tree.Ended spot s) = ended (simple_tokens s)

  pub statements_tokens : {S N : Type 0} → tree.Statements S N → List TokenKind
  statements_tokens tree.empty = []
  statements_tokens (tree.then_more s ss) = statement_tokens s ++ statements_tokens ss

-- in braces
abbrev pub block_tokens : {S N : Type 0} → tree.Statements S N → List TokenKind
block_tokens ss =
    token.Symbol symbol.OpenBrace ∷ (statements_tokens ss ++ token.Symbol symbol.CloseBrace ∷ [])

-- `{public [names]}`, or nothing where there are none
abbrev pub public_tokens : List (List ℕ) → List TokenKind
public_tokens [] = []
public_tokens (name ∷ names) =
    token.Symbol symbol.OpenBrace ∷ token.Reserved word.Public ∷ token.Symbol symbol.OpenBracket ∷
    (list_tokens name_tokens (name ∷ names) ++ token.Symbol symbol.CloseBracket
    ∷ token.Symbol symbol.CloseBrace ∷ [])

abbrev pub item_tokens : {S N : Type 0} → tree.Item S N → List TokenKind
item_tokens (tree.Pragma spot major minor patch) =
    token.Reserved word.Pragma ∷ token.Name (codes "circom") ∷ token.Number major
    ∷ token.Symbol symbol.Dot ∷
    token.Number minor ∷ token.Symbol symbol.Dot ∷ token.Number patch
    ∷ token.Symbol symbol.Semicolon ∷ []
item_tokens (tree.Include spot name) =
    token.Reserved word.Include ∷ token.Str name ∷ token.Symbol symbol.Semicolon ∷ []
item_tokens (tree.Template spot parallel name parameters ss) =
    token.Reserved word.Template
    ∷ (parallel_tokens parallel
    ++ token.Name name ∷ (enclosed (list_tokens name_tokens parameters) ++ block_tokens ss))
item_tokens (tree.Function spot name parameters ss) =
    token.Reserved word.Function ∷ token.Name name
    ∷ (enclosed (list_tokens name_tokens parameters) ++ block_tokens ss)
item_tokens (tree.Main spot names template meant arguments) =
    token.Reserved word.Component ∷ token.Reserved word.Main
    ∷ (public_tokens names ++ token.Symbol symbol.Equal ∷ token.Name template
    ∷ ended (enclosed (listed arguments)))

abbrev pub file_tokens : {S N : Type 0} → tree.File S N → List TokenKind
file_tokens file = flat_map item_tokens file
