-- Each name of a definition gets its meaning, and each declaration the next number of its kind, in
-- the order of the text. What a name carried before doesn't matter.
--
-- A block opens a scope, and so does a branch of an `if` or the body of a `while`. A `for` is a
-- block of its head and, in it, of its body, which its step ends: where the body declares without
-- braces, the step sees that.
use Rattle.std.specs.Prelude.{map, Option, Some, None, Ok}
use Rattle.cir_ast.specs.declared.operators.Direction.{Direction}
use Rattle.cir_ast.specs.declared.program.Spot.{Spot}
use Rattle.cir_ast.specs.declared.program.Meant.{Meant}
use Rattle.cir_ast.specs.declared.program.Meant.TheVariants as meant
use Rattle.cir_ast.specs.Tree.{Expr, Number, Place, Call, Anonymous, Parentheses, Array, Unary}
use Rattle.cir_ast.specs.Tree.{Binary, Choice, Exprs, none, more, Accessors, done, index, member}
use Rattle.cir_ast.specs.Tree.{Inputs, Listed, Named, NamedInputs, unnamed, named, Variable}
use Rattle.cir_ast.specs.Tree.{SignalValue, Nothing, Given, Signal, Component, Assign, Set}
use Rattle.cir_ast.specs.Tree.{Compound, Left, Increment, Decrement, First, FirstVars, FirstAssign}
use Rattle.cir_ast.specs.Tree.{LogArgument, Words, LogValue, Slot, SlotPlace, SlotDiscard, Target}
use Rattle.cir_ast.specs.Tree.{Discard, Slots, Source, One, Values, Simple, Vars, Signals, Declared}
use Rattle.cir_ast.specs.Tree.{Created, Assigned, Constrain, Right, TargetLeft, TargetRight, Alone}
use Rattle.cir_ast.specs.Tree.{Statement, Block, If, IfElse, While, For, Return, Assert, Log, Ended}
use Rattle.cir_ast.specs.Tree.{Statements, empty, then_more}
use Rattle.cir_resolve.specs.Steps.{behind, made, in_turn}
use Rattle.cir_resolve.specs.Scope.{State, read_at, called_at, Naming, within, declared}

abbrev mutual
  pub named_expr : {N : Type 0} → State → Expr N → Expr Meant
  named_expr st (Number n) = Number n
  named_expr st (Place name m accessors) =
      Place name (read_at st name) (named_accessors st accessors)
  named_expr st (Call parallel name m arguments) =
      Call parallel name (called_at st name) (named_exprs st arguments)
  named_expr st (Anonymous parallel name m arguments inputs) =
      Anonymous parallel name (called_at st name) (named_exprs st arguments)
      (named_inputs st inputs)
  named_expr st (Parentheses e) = Parentheses (named_expr st e)
  named_expr st (Array elements) = Array (named_exprs st elements)
  named_expr st (Unary op a) = Unary op (named_expr st a)
  named_expr st (Binary op a b) = Binary op (named_expr st a) (named_expr st b)
  named_expr st (Choice c a b) = Choice (named_expr st c) (named_expr st a) (named_expr st b)

  pub named_exprs : {N : Type 0} → State → Exprs N → Exprs Meant
  named_exprs st none = none
  named_exprs st (more e es) = more (named_expr st e) (named_exprs st es)

  pub named_accessors : {N : Type 0} → State → Accessors N → Accessors Meant
  named_accessors st done = done
  named_accessors st (index e rest) = index (named_expr st e) (named_accessors st rest)
  named_accessors st (member name rest) = member name (named_accessors st rest)

  pub named_inputs : {N : Type 0} → State → Inputs N → Inputs Meant
  named_inputs st (Listed es) = Listed (named_exprs st es)
  named_inputs st (Named is) = Named (named_each st is)

  -- the name of an input is its template's
  pub named_each : {N : Type 0} → State → NamedInputs N → NamedInputs Meant
  named_each st unnamed = unnamed
  named_each st (named name arrow e rest) = named name arrow (named_expr st e) (named_each st rest)

abbrev pub named_value : {N : Type 0} → State → Option (Expr N) → Option (Expr Meant)
named_value st None = None
named_value st (Some e) = Some (named_expr st e)

abbrev pub named_signal_value : {N : Type 0} → State → SignalValue N → SignalValue Meant
named_signal_value st Nothing = Nothing
named_signal_value st (Given arrow e) = Given arrow (named_expr st e)

-- a declared name is in scope in its own value, and not in its dimensions
abbrev pub named_variable : {N : Type 0} → Spot → State → Variable N → Naming (Variable Meant)
named_variable spot st v =
    behind (declared spot st v.name (meant.Variable st.variables)) (λ m after.
    Ok (
      record {
        name = v.name;
        meant = m;
        dimensions = named_exprs st v.dimensions;
        value = named_value after v.value;
      },
      after,
    ))

abbrev pub named_signal : {N : Type 0} → Spot → Direction → State → Signal N → Naming (Signal Meant)
named_signal spot direction st s =
    behind (declared spot st s.name (meant.Signal direction st.signals)) (λ m after.
    Ok (
      record {
        name = s.name;
        meant = m;
        dimensions = named_exprs st s.dimensions;
        value = named_signal_value after s.value;
      },
      after,
    ))

abbrev pub named_component : {N : Type 0} → Spot → State → Component N → Naming (Component Meant)
named_component spot st c =
    behind (declared spot st c.name (meant.Component st.components)) (λ m after.
    Ok (record { name = c.name; meant = m; dimensions = named_exprs st c.dimensions }, after))

abbrev pub named_assign : {N : Type 0} → State → Assign N → Assign Meant
named_assign st (Set name m accessors e) =
    Set name (read_at st name) (named_accessors st accessors) (named_expr st e)
named_assign st (Compound name m accessors op e) =
    Compound name (read_at st name) (named_accessors st accessors) op (named_expr st e)
named_assign st (Left name m accessors arrow e) =
    Left name (read_at st name) (named_accessors st accessors) arrow (named_expr st e)
named_assign st (Increment name m accessors) =
    Increment name (read_at st name) (named_accessors st accessors)
named_assign st (Decrement name m accessors) =
    Decrement name (read_at st name) (named_accessors st accessors)

abbrev pub named_first : {N : Type 0} → Spot → State → First N → Naming (First Meant)
named_first spot st (FirstVars variables) =
    made FirstVars (in_turn (named_variable spot) st variables)
named_first spot st (FirstAssign a) = Ok (FirstAssign (named_assign st a), st)

abbrev pub named_argument : {N : Type 0} → State → LogArgument N → LogArgument Meant
named_argument st (Words w) = Words w
named_argument st (LogValue e) = LogValue (named_expr st e)

abbrev pub named_slot : {N : Type 0} → State → Slot N → Slot Meant
named_slot st (SlotPlace name m accessors) =
    SlotPlace name (read_at st name) (named_accessors st accessors)
named_slot st SlotDiscard = SlotDiscard

abbrev pub named_target : {N : Type 0} → State → Target N → Target Meant
named_target st Discard = Discard
named_target st (Slots slots) = Slots (map (named_slot st) slots)

abbrev pub named_source : {N : Type 0} → State → Source N → Source Meant
named_source st (One e) = One (named_expr st e)
named_source st (Values es) = Values (map (named_expr st) es)

abbrev pub named_simple : {N : Type 0} → Spot → State → Simple N → Naming (Simple Meant)
named_simple spot st (Vars variables) = made Vars (in_turn (named_variable spot) st variables)
named_simple spot st (Signals direction signals) =
    made (Signals direction) (in_turn (named_signal spot direction) st signals)
named_simple spot st (Declared components) =
    made Declared (in_turn (named_component spot) st components)
named_simple spot st (Created name m e) =
    behind (declared spot st name (meant.Component st.components))
    (λ m' after. Ok (Created name m' (named_expr after e), after))
named_simple spot st (Assigned a) = Ok (Assigned (named_assign st a), st)
named_simple spot st (Constrain a b) = Ok (Constrain (named_expr st a) (named_expr st b), st)
named_simple spot st (Right e arrow name m accessors) =
    Ok (Right (named_expr st e) arrow name (read_at st name) (named_accessors st accessors), st)
named_simple spot st (TargetLeft target arrow source) =
    Ok (TargetLeft (named_target st target) arrow (named_source st source), st)
named_simple spot st (TargetRight source arrow target) =
    Ok (TargetRight (named_source st source) arrow (named_target st target), st)
named_simple spot st (Alone parallel name m arguments inputs) =
    Ok (
      Alone parallel name (called_at st name) (named_exprs st arguments) (named_inputs st inputs),
      st,
    )

abbrev mutual
  pub named_statement : {N : Type 0} → State → Statement Spot N → Naming (Statement Spot Meant)
  named_statement st (Block spot ss) =
      made (Block spot) (within st (λ inner. named_statements inner ss))
  named_statement st (If spot c s) =
      made (If spot (named_expr st c)) (within st (λ inner. named_statement inner s))
  named_statement st (IfElse spot c s t) =
      behind (within st (λ inner. named_statement inner s)) (λ s' after.
      made (IfElse spot (named_expr st c) s') (within after (λ inner. named_statement inner t)))
  named_statement st (While spot c s) =
      made (While spot (named_expr st c)) (within st (λ inner. named_statement inner s))
  named_statement st (For spot first_spot f c step_spot a s) =
      within st (λ head. behind (named_first first_spot head f) (λ f' after.
      within after (λ body. behind (named_statement body s) (λ s' end.
      Ok (For spot first_spot f' (named_expr after c) step_spot (named_assign end a) s', end)))))
  named_statement st (Return spot e) = Ok (Return spot (named_expr st e), st)
  named_statement st (Assert spot e) = Ok (Assert spot (named_expr st e), st)
  named_statement st (Log spot arguments) = Ok (Log spot (map (named_argument st) arguments), st)
  named_statement st (Ended spot s) = made (Ended spot) (named_simple spot st s)

  pub named_statements : {N : Type 0} → State → Statements Spot N → Naming (Statements Spot Meant)
  named_statements st empty = Ok (empty, st)
  named_statements st (then_more s ss) =
      behind (named_statement st s) (λ s' after. made (then_more s') (named_statements after ss))
