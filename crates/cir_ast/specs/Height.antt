-- How high a tree is: the nodes on its longest way down, below the file. An item, a block, a
-- statement and an expression is a node, a written place included; a string of a `log` is one. A
-- list adds nothing by its length, and the head of a declaration or of a `for`, a target, a slot
-- and a named input add no node of their own.
use Rattle.std.specs.Prelude.{ℕ, ◌+◌, max, List, [], ◌∷◌, Option, Some, None}
use Rattle.cir_ast.specs.Tree as tree

abbrev mutual
  pub height_of : {N : Type 0} → tree.Expr N → ℕ
  height_of (tree.Number n) = 1
  height_of (tree.Place name meant accessors) = accessors_height accessors + 1
  height_of (tree.Call parallel name meant arguments) = exprs_height arguments + 1
  height_of (tree.Anonymous parallel name meant arguments inputs) =
      max (exprs_height arguments) (inputs_height inputs) + 1
  height_of (tree.Parentheses e) = height_of e + 1
  height_of (tree.Array elements) = exprs_height elements + 1
  height_of (tree.Unary op a) = height_of a + 1
  height_of (tree.Binary op a b) = max (height_of a) (height_of b) + 1
  height_of (tree.Choice c a b) = max (height_of c) (max (height_of a) (height_of b)) + 1

  pub exprs_height : {N : Type 0} → tree.Exprs N → ℕ
  exprs_height tree.none = 0
  exprs_height (tree.more e es) = max (height_of e) (exprs_height es)

  pub accessors_height : {N : Type 0} → tree.Accessors N → ℕ
  accessors_height tree.done = 0
  accessors_height (tree.index e rest) = max (height_of e) (accessors_height rest)
  accessors_height (tree.member name rest) = accessors_height rest

  pub inputs_height : {N : Type 0} → tree.Inputs N → ℕ
  inputs_height (tree.Listed es) = exprs_height es
  inputs_height (tree.Named is) = named_height is

  pub named_height : {N : Type 0} → tree.NamedInputs N → ℕ
  named_height tree.unnamed = 0
  named_height (tree.named name arrow e is) = max (height_of e) (named_height is)

-- the greatest height of a list
abbrev pub highest : {A : Type 0} → (A → ℕ) → List A → ℕ
highest height [] = 0
highest height (x ∷ xs) = max (height x) (highest height xs)

abbrev pub value_height : {N : Type 0} → Option (tree.Expr N) → ℕ
value_height None = 0
value_height (Some e) = height_of e

abbrev pub variable_height : {N : Type 0} → tree.Variable N → ℕ
variable_height v = max (exprs_height v.dimensions) (value_height v.value)

abbrev pub signal_value_height : {N : Type 0} → tree.SignalValue N → ℕ
signal_value_height tree.Nothing = 0
signal_value_height (tree.Given arrow e) = height_of e

abbrev pub signal_height : {N : Type 0} → tree.Signal N → ℕ
signal_height s = max (exprs_height s.dimensions) (signal_value_height s.value)

abbrev pub component_height : {N : Type 0} → tree.Component N → ℕ
component_height c = exprs_height c.dimensions

-- a place
abbrev pub place_height : {N : Type 0} → tree.Accessors N → ℕ
place_height accessors = accessors_height accessors + 1

abbrev pub assign_height : {N : Type 0} → tree.Assign N → ℕ
assign_height (tree.Set name meant accessors e) = max (place_height accessors) (height_of e)
assign_height (tree.Compound name meant accessors op e) = max (place_height accessors) (height_of e)
assign_height (tree.Left name meant accessors arrow e) = max (place_height accessors) (height_of e)
assign_height (tree.Increment name meant accessors) = place_height accessors
assign_height (tree.Decrement name meant accessors) = place_height accessors

abbrev pub first_height : {N : Type 0} → tree.First N → ℕ
first_height (tree.FirstVars variables) = highest variable_height variables
first_height (tree.FirstAssign a) = assign_height a

abbrev pub argument_height : {N : Type 0} → tree.LogArgument N → ℕ
argument_height (tree.Words w) = 1
argument_height (tree.LogValue e) = height_of e

abbrev pub slot_height : {N : Type 0} → tree.Slot N → ℕ
slot_height (tree.SlotPlace name meant accessors) = place_height accessors
slot_height tree.SlotDiscard = 0

abbrev pub target_height : {N : Type 0} → tree.Target N → ℕ
target_height tree.Discard = 0
target_height (tree.Slots slots) = highest slot_height slots

abbrev pub source_height : {N : Type 0} → tree.Source N → ℕ
source_height (tree.One e) = height_of e
source_height (tree.Values es) = highest height_of es

abbrev pub simple_height : {N : Type 0} → tree.Simple N → ℕ
simple_height (tree.Vars variables) = highest variable_height variables
simple_height (tree.Signals direction signals) = highest signal_height signals
simple_height (tree.Declared components) = highest component_height components
simple_height (tree.Created name meant e) = height_of e
simple_height (tree.Assigned a) = assign_height a
simple_height (tree.Constrain a b) = max (height_of a) (height_of b)
simple_height (tree.Right e arrow name meant accessors) = max (height_of e) (place_height accessors)
simple_height (tree.TargetLeft target arrow source) =
    max (target_height target) (source_height source)
simple_height (tree.TargetRight source arrow target) =
    max (source_height source) (target_height target)
simple_height (tree.Alone parallel name meant arguments inputs) =
    height_of (tree.Anonymous parallel name meant arguments inputs)

abbrev mutual
  pub statement_height : {S N : Type 0} → tree.Statement S N → ℕ
  statement_height (tree.Block spot ss) = statements_height ss + 1
  statement_height (tree.If spot c s) = max (height_of c) (statement_height s) + 1
  statement_height (tree.IfElse spot c s t) =
      max (height_of c) (max (statement_height s) (statement_height t)) + 1
  statement_height (tree.While spot c s) = max (height_of c) (statement_height s) + 1
  statement_height (tree.For spot first_spot f c step_spot a s) =
      max (first_height f) (max (height_of c) (max (assign_height a) (statement_height s))) + 1
  statement_height (tree.Return spot e) = height_of e + 1
  statement_height (tree.Assert spot e) = height_of e + 1
  statement_height (tree.Log spot arguments) = highest argument_height arguments + 1
  statement_height (tree.Ended spot s) = simple_height s + 1

  pub statements_height : {S N : Type 0} → tree.Statements S N → ℕ
  statements_height tree.empty = 0
  statements_height (tree.then_more s ss) = max (statement_height s) (statements_height ss)

-- the block of a definition
abbrev pub block_height : {S N : Type 0} → tree.Statements S N → ℕ
block_height ss = statements_height ss + 1

-- a definition and its block are two nodes
abbrev pub item_height : {S N : Type 0} → tree.Item S N → ℕ
item_height (tree.Pragma spot major minor patch) = 1
item_height (tree.Include spot name) = 1
item_height (tree.Template spot parallel name parameters ss) = block_height ss + 1
item_height (tree.Function spot name parameters ss) = block_height ss + 1
item_height (tree.Main spot names template meant arguments) = exprs_height arguments + 1

abbrev pub height : {S N : Type 0} → tree.File S N → ℕ
height file = highest item_height file
