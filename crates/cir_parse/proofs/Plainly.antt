-- A tree whose names carry nothing is as it is without their meanings.
use Rattle.std.proofs.Common.{◌≡◌, refl, List, [], ◌∷◌, map, Option, Some, None}
use Rattle.cir_ast.specs.Tree as tree
use Rattle.cir_ast.specs.Plain as plain

mutual
  expr_same : (e : plain.PlainExpr) → plain.plain e ≡ e
  expr_same (tree.Number n) = refl
  expr_same (tree.Place name _ a) = rw (accessors_same a)
  expr_same (tree.Call parallel name _ es) = rw (exprs_same es)
  expr_same (tree.Anonymous parallel name _ es given) = rw (exprs_same es, inputs_same given)
  expr_same (tree.Parentheses e) = rw (expr_same e)
  expr_same (tree.Array es) = rw (exprs_same es)
  expr_same (tree.Unary op a) = rw (expr_same a)
  expr_same (tree.Binary op a b) = rw (expr_same a, expr_same b)
  expr_same (tree.Choice c a b) = rw (expr_same c, expr_same a, expr_same b)

  exprs_same : (es : plain.PlainExprs) → plain.plain_exprs es ≡ es
  exprs_same tree.none = refl
  exprs_same (tree.more e es) = rw (expr_same e, exprs_same es)

  accessors_same : (a : plain.PlainAccessors) → plain.plain_accessors a ≡ a
  accessors_same tree.done = refl
  accessors_same (tree.index e a) = rw (expr_same e, accessors_same a)
  accessors_same (tree.member name a) = rw (accessors_same a)

  inputs_same : (given : plain.PlainInputs) → plain.plain_inputs given ≡ given
  inputs_same (tree.Listed es) = rw (exprs_same es)
  inputs_same (tree.Named is) = rw (named_same is)

  named_same : (is : plain.PlainNamedInputs) → plain.plain_named is ≡ is
  named_same tree.unnamed = refl
  named_same (tree.named name arrow e is) = rw (expr_same e, named_same is)

map_same : {A : Type 0} (f : A → A) → ((x : A) → f x ≡ x) → (xs : List A) → map f xs ≡ xs
map_same f h [] = refl
map_same f h (x ∷ xs) = rw (h x, map_same f h xs)

value_same : (v : Option plain.PlainExpr) → plain.plain_value v ≡ v
value_same None = refl
value_same (Some e) = rw (expr_same e)

variable_same : (v : plain.PlainVariable) → plain.plain_variable v ≡ v
variable_same v = rw (exprs_same v.dimensions, value_same v.value)

signal_value_same : (v : plain.PlainSignalValue) → plain.plain_signal_value v ≡ v
signal_value_same tree.Nothing = refl
signal_value_same (tree.Given arrow e) = rw (expr_same e)

signal_same : (s : plain.PlainSignal) → plain.plain_signal s ≡ s
signal_same s = rw (exprs_same s.dimensions, signal_value_same s.value)

component_same : (c : plain.PlainComponent) → plain.plain_component c ≡ c
component_same c = rw (exprs_same c.dimensions)

assign_same : (a : plain.PlainAssign) → plain.plain_assign a ≡ a
assign_same (tree.Set name _ a e) = rw (accessors_same a, expr_same e)
assign_same (tree.Compound name _ a op e) = rw (accessors_same a, expr_same e)
assign_same (tree.Left name _ a arrow e) = rw (accessors_same a, expr_same e)
assign_same (tree.Increment name _ a) = rw (accessors_same a)
assign_same (tree.Decrement name _ a) = rw (accessors_same a)

first_same : (f : plain.PlainFirst) → plain.plain_first f ≡ f
first_same (tree.FirstVars vs) = rw (map_same plain.plain_variable variable_same vs)
first_same (tree.FirstAssign a) = rw (assign_same a)

argument_same : (a : plain.PlainLogArgument) → plain.plain_argument a ≡ a
argument_same (tree.Words w) = refl
argument_same (tree.LogValue e) = rw (expr_same e)

slot_same : (s : plain.PlainSlot) → plain.plain_slot s ≡ s
slot_same (tree.SlotPlace name _ a) = rw (accessors_same a)
slot_same tree.SlotDiscard = refl

target_same : (t : plain.PlainTarget) → plain.plain_target t ≡ t
target_same tree.Discard = refl
target_same (tree.Slots ss) = rw (map_same plain.plain_slot slot_same ss)

source_same : (s : plain.PlainSource) → plain.plain_source s ≡ s
source_same (tree.One e) = rw (expr_same e)
source_same (tree.Values es) = rw (map_same plain.plain expr_same es)

simple_same : (s : plain.PlainSimple) → plain.plain_simple s ≡ s
simple_same (tree.Vars vs) = rw (map_same plain.plain_variable variable_same vs)
simple_same (tree.Signals d ss) = rw (map_same plain.plain_signal signal_same ss)
simple_same (tree.Declared cs) = rw (map_same plain.plain_component component_same cs)
simple_same (tree.Created name _ e) = rw (expr_same e)
simple_same (tree.Assigned a) = rw (assign_same a)
simple_same (tree.Constrain a b) = rw (expr_same a, expr_same b)
simple_same (tree.Right e arrow name _ a) = rw (expr_same e, accessors_same a)
simple_same (tree.TargetLeft t arrow s) = rw (target_same t, source_same s)
simple_same (tree.TargetRight s arrow t) = rw (source_same s, target_same t)
simple_same (tree.Alone parallel name _ es given) = rw (exprs_same es, inputs_same given)

mutual
  statement_same : {S : Type 0} (s : plain.PlainStatement S) → plain.plain_statement s ≡ s
  statement_same (tree.Block spot ss) = rw (all_same ss)
  statement_same (tree.If spot c s) = rw (expr_same c, statement_same s)
  statement_same (tree.IfElse spot c s t) =
      rw (expr_same c, statement_same s, statement_same t)
  statement_same (tree.While spot c s) = rw (expr_same c, statement_same s)
  statement_same (tree.For spot at f c after a s) =
      rw (first_same f, expr_same c, assign_same a, statement_same s)
  statement_same (tree.Return spot e) = rw (expr_same e)
  statement_same (tree.Assert spot e) = rw (expr_same e)
  statement_same (tree.Log spot xs) = rw (map_same plain.plain_argument argument_same xs)
  statement_same (tree.Ended spot s) = rw (simple_same s)

  all_same : {S : Type 0} (ss : plain.PlainStatements S) → plain.plain_statements ss ≡ ss
  all_same tree.empty = refl
  all_same (tree.then_more s ss) = rw (statement_same s, all_same ss)

item_same : {S : Type 0} (i : plain.PlainItem S) → plain.plain_item i ≡ i
item_same (tree.Template spot parallel name ps ss) = rw (all_same ss)
item_same (tree.Function spot name ps ss) = rw (all_same ss)
item_same (tree.Main spot names name _ es) = rw (exprs_same es)
item_same _ = refl

-- a file whose names carry nothing
pub file_same : {S : Type 0} (f : plain.PlainFile S) → plain.plain_file f ≡ f
file_same f = map_same plain.plain_item item_same f
