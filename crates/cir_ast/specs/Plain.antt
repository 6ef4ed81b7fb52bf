-- Trees whose names carry no meaning.
use Rattle.std.specs.Prelude.{map, Option, Some, None}
use Rattle.cir_ast.specs.Tree as tree

abbrev pub PlainExpr : Type 0
PlainExpr = tree.Expr (Unit {0})

abbrev pub PlainExprs : Type 0
PlainExprs = tree.Exprs (Unit {0})

abbrev pub PlainAccessors : Type 0
PlainAccessors = tree.Accessors (Unit {0})

abbrev pub PlainInputs : Type 0
PlainInputs = tree.Inputs (Unit {0})

abbrev pub PlainNamedInputs : Type 0
PlainNamedInputs = tree.NamedInputs (Unit {0})

abbrev pub PlainVariable : Type 0
PlainVariable = tree.Variable (Unit {0})

abbrev pub PlainSignalValue : Type 0
PlainSignalValue = tree.SignalValue (Unit {0})

abbrev pub PlainSignal : Type 0
PlainSignal = tree.Signal (Unit {0})

abbrev pub PlainComponent : Type 0
PlainComponent = tree.Component (Unit {0})

abbrev pub PlainAssign : Type 0
PlainAssign = tree.Assign (Unit {0})

abbrev pub PlainFirst : Type 0
PlainFirst = tree.First (Unit {0})

abbrev pub PlainLogArgument : Type 0
PlainLogArgument = tree.LogArgument (Unit {0})

abbrev pub PlainSlot : Type 0
PlainSlot = tree.Slot (Unit {0})

abbrev pub PlainTarget : Type 0
PlainTarget = tree.Target (Unit {0})

abbrev pub PlainSource : Type 0
PlainSource = tree.Source (Unit {0})

abbrev pub PlainSimple : Type 0
PlainSimple = tree.Simple (Unit {0})

abbrev pub PlainStatement : Type 0 → Type 0
PlainStatement S = tree.Statement S (Unit {0})

abbrev pub PlainStatements : Type 0 → Type 0
PlainStatements S = tree.Statements S (Unit {0})

abbrev pub PlainItem : Type 0 → Type 0
PlainItem S = tree.Item S (Unit {0})

abbrev pub PlainFile : Type 0 → Type 0
PlainFile S = tree.File S (Unit {0})

abbrev mutual
  pub plain : {N : Type 0} → tree.Expr N → PlainExpr
  plain (tree.Number n) = tree.Number n
  plain (tree.Place name meant accessors) = tree.Place name tt (plain_accessors accessors)
  plain (tree.Call parallel name meant arguments) =
      tree.Call parallel name tt (plain_exprs arguments)
  plain (tree.Anonymous parallel name meant arguments inputs) =
      tree.Anonymous parallel name tt (plain_exprs arguments) (plain_inputs inputs)
  plain (tree.Parentheses e) = tree.Parentheses (plain e)
  plain (tree.Array elements) = tree.Array (plain_exprs elements)
  plain (tree.Unary op a) = tree.Unary op (plain a)
  plain (tree.Binary op a b) = tree.Binary op (plain a) (plain b)
  plain (tree.Choice c a b) = tree.Choice (plain c) (plain a) (plain b)

  pub plain_exprs : {N : Type 0} → tree.Exprs N → PlainExprs
  plain_exprs tree.none = tree.none
  plain_exprs (tree.more e es) = tree.more (plain e) (plain_exprs es)

  pub plain_accessors : {N : Type 0} → tree.Accessors N → PlainAccessors
  plain_accessors tree.done = tree.done
  plain_accessors (tree.index e rest) = tree.index (plain e) (plain_accessors rest)
  plain_accessors (tree.member name rest) = tree.member name (plain_accessors rest)

  pub plain_inputs : {N : Type 0} → tree.Inputs N → PlainInputs
  plain_inputs (tree.Listed es) = tree.Listed (plain_exprs es)
  plain_inputs (tree.Named is) = tree.Named (plain_named is)

  pub plain_named : {N : Type 0} → tree.NamedInputs N → PlainNamedInputs
  plain_named tree.unnamed = tree.unnamed
  plain_named (tree.named name arrow e rest) = tree.named name arrow (plain e) (plain_named rest)

abbrev pub plain_value : {N : Type 0} → Option (tree.Expr N) → Option PlainExpr
plain_value None = None
plain_value (Some e) = Some (plain e)

abbrev pub plain_variable : {N : Type 0} → tree.Variable N → PlainVariable
plain_variable v =
    record {
      name = v.name;
      meant = tt;
      dimensions = plain_exprs v.dimensions;
      value = plain_value v.value;
    }

abbrev pub plain_signal_value : {N : Type 0} → tree.SignalValue N → PlainSignalValue
plain_signal_value tree.Nothing = tree.Nothing
plain_signal_value (tree.Given arrow e) = tree.Given arrow (plain e)

abbrev pub plain_signal : {N : Type 0} → tree.Signal N → PlainSignal
plain_signal s =
    record {
      name = s.name;
      meant = tt;
      dimensions = plain_exprs s.dimensions;
      value = plain_signal_value s.value;
    }

abbrev pub plain_component : {N : Type 0} → tree.Component N → PlainComponent
plain_component c = record { name = c.name; meant = tt; dimensions = plain_exprs c.dimensions }

abbrev pub plain_assign : {N : Type 0} → tree.Assign N → PlainAssign
plain_assign (tree.Set name meant accessors e) =
    tree.Set name tt (plain_accessors accessors) (plain e)
plain_assign (tree.Compound name meant accessors op e) =
    tree.Compound name tt (plain_accessors accessors) op (plain e)
plain_assign (tree.Left name meant accessors arrow e) =
    tree.Left name tt (plain_accessors accessors) arrow (plain e)
plain_assign (tree.Increment name meant accessors) =
    tree.Increment name tt (plain_accessors accessors)
plain_assign (tree.Decrement name meant accessors) =
    tree.Decrement name tt (plain_accessors accessors)

abbrev pub plain_first : {N : Type 0} → tree.First N → PlainFirst
plain_first (tree.FirstVars variables) = tree.FirstVars (map plain_variable variables)
plain_first (tree.FirstAssign a) = tree.FirstAssign (plain_assign a)

abbrev pub plain_argument : {N : Type 0} → tree.LogArgument N → PlainLogArgument
plain_argument (tree.Words w) = tree.Words w
plain_argument (tree.LogValue e) = tree.LogValue (plain e)

abbrev pub plain_slot : {N : Type 0} → tree.Slot N → PlainSlot
plain_slot (tree.SlotPlace name meant accessors) =
    tree.SlotPlace name tt (plain_accessors accessors)
plain_slot tree.SlotDiscard = tree.SlotDiscard

abbrev pub plain_target : {N : Type 0} → tree.Target N → PlainTarget
plain_target tree.Discard = tree.Discard
plain_target (tree.Slots slots) = tree.Slots (map plain_slot slots)

abbrev pub plain_source : {N : Type 0} → tree.Source N → PlainSource
plain_source (tree.One e) = tree.One (plain e)
plain_source (tree.Values es) = tree.Values (map plain es)

abbrev pub plain_simple : {N : Type 0} → tree.Simple N → PlainSimple
plain_simple (tree.Vars variables) = tree.Vars (map plain_variable variables)
plain_simple (tree.Signals direction signals) = tree.Signals direction (map plain_signal signals)
plain_simple (tree.Declared components) = tree.Declared (map plain_component components)
plain_simple (tree.Created name meant e) = tree.Created name tt (plain e)
plain_simple (tree.Assigned a) = tree.Assigned (plain_assign a)
plain_simple (tree.Constrain a b) = tree.Constrain (plain a) (plain b)
plain_simple (tree.Right e arrow name meant accessors) =
    tree.Right (plain e) arrow name tt (plain_accessors accessors)
plain_simple (tree.TargetLeft target arrow source) =
    tree.TargetLeft (plain_target target) arrow (plain_source source)
plain_simple (tree.TargetRight source arrow target) =
    tree.TargetRight (plain_source source) arrow (plain_target target)
plain_simple (tree.Alone parallel name meant arguments inputs) =
    tree.Alone parallel name tt (plain_exprs arguments) (plain_inputs inputs)

abbrev mutual
  pub plain_statement : {S N : Type 0} → tree.Statement S N → PlainStatement S
  plain_statement (tree.Block spot ss) = tree.Block spot (plain_statements ss)
  plain_statement (tree.If spot c s) = tree.If spot (plain c) (plain_statement s)
  plain_statement (tree.IfElse spot c s t) =
      tree.IfElse spot (plain c) (plain_statement s) (plain_statement t)
  plain_statement (tree.While spot c s) = tree.While spot (plain c) (plain_statement s)
  plain_statement (tree.For spot first_spot f c step_spot a s) =
      tree.For spot first_spot (plain_first f) (plain c) step_spot (plain_assign a)
      (plain_statement s)
  plain_statement (tree.Return spot e) = tree.Return spot (plain e)
  plain_statement (tree.Assert spot e) = tree.Assert spot (plain e)
  plain_statement (tree.Log spot arguments) = tree.Log spot (map plain_argument arguments)
  plain_statement (tree.Ended spot s) = tree.Ended spot (plain_simple s)

  pub plain_statements : {S N : Type 0} → tree.Statements S N → PlainStatements S
  plain_statements tree.empty = tree.empty
  plain_statements (tree.then_more s ss) = tree.then_more (plain_statement s) (plain_statements ss)

abbrev pub plain_item : {S N : Type 0} → tree.Item S N → PlainItem S
plain_item (tree.Pragma spot major minor patch) = tree.Pragma spot major minor patch
plain_item (tree.Include spot name) = tree.Include spot name
plain_item (tree.Template spot parallel name parameters ss) =
    tree.Template spot parallel name parameters (plain_statements ss)
plain_item (tree.Function spot name parameters ss) =
    tree.Function spot name parameters (plain_statements ss)
plain_item (tree.Main spot names template meant arguments) =
    tree.Main spot names template tt (plain_exprs arguments)

abbrev pub plain_file : {S N : Type 0} → tree.File S N → PlainFile S
plain_file file = map plain_item file
