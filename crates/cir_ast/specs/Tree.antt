-- A file's tree as plain data: without the pointers that a program's own tree has, so that two
-- trees of one shape are equal. S is what an item or a statement carries as its place, and N what a
-- name carries as its meaning.
use Rattle.std.specs.Prelude.{ℕ, List, [], ◌∷◌, map, Bool, Option, Some, None}
use Rattle.cir_ast.specs.declared.operators.Unary.{Unary as UnaryOp}
use Rattle.cir_ast.specs.declared.operators.Binary.{Binary as BinaryOp}
use Rattle.cir_ast.specs.declared.operators.Compound.{Compound as CompoundOp}
use Rattle.cir_ast.specs.declared.operators.Arrow.{Arrow}
use Rattle.cir_ast.specs.declared.operators.Direction.{Direction}
use Rattle.cir_ast.specs.declared.marked as code
use Rattle.cir_ast.specs.declared.marked.Expr.{Row_of-Expr, end_of-Expr, more_of-Expr}
use Rattle.cir_ast.specs.declared.marked.Expr.TheVariants as expr
use Rattle.cir_ast.specs.declared.marked.Accessor.TheVariants as accessor
use Rattle.cir_ast.specs.declared.marked.Place.{Row_of-Accessor, end_of-Accessor, more_of-Accessor}
use Rattle.cir_ast.specs.declared.marked.Inputs.{Row_of-NamedInput, end_of-NamedInput}
use Rattle.cir_ast.specs.declared.marked.Inputs.{more_of-NamedInput}
use Rattle.cir_ast.specs.declared.marked.Inputs.TheVariants as inputs
use Rattle.cir_ast.specs.declared.marked.SignalValue.TheVariants as value
use Rattle.cir_ast.specs.declared.marked.Components.TheVariants as components
use Rattle.cir_ast.specs.declared.marked.Assign.TheVariants as assign
use Rattle.cir_ast.specs.declared.marked.Target.TheVariants as target
use Rattle.cir_ast.specs.declared.marked.Slot.TheVariants as slot
use Rattle.cir_ast.specs.declared.marked.Source.TheVariants as source
use Rattle.cir_ast.specs.declared.marked.FirstForm.TheVariants as first
use Rattle.cir_ast.specs.declared.marked.LogArgument.TheVariants as argument
use Rattle.cir_ast.specs.declared.marked.Simple.TheVariants as simple
use Rattle.cir_ast.specs.declared.marked.Block.{Block', Row_of-Statement, end_of-Statement}
use Rattle.cir_ast.specs.declared.marked.Block.{more_of-Statement}
use Rattle.cir_ast.specs.declared.marked.StatementForm.TheVariants as statement
use Rattle.cir_ast.specs.declared.marked.Definition.TheVariants as definition
use Rattle.cir_ast.specs.declared.marked.ItemForm.TheVariants as item

mutual
  pub data Expr (N : Type 0) : Type 0 where
    Number : ℕ → Expr N
    Place : (name : List ℕ) → (meant : N) → (accessors : Accessors N) → Expr N
    Call : (parallel : Bool) → (name : List ℕ) → (meant : N) → (arguments : Exprs N) → Expr N
    Anonymous : (parallel : Bool) → (name : List ℕ) → (meant : N) → (arguments : Exprs N)
        → (inputs : Inputs N) → Expr N
    Parentheses : Expr N → Expr N
    Array : (elements : Exprs N) → Expr N
    Unary : UnaryOp → Expr N → Expr N
    Binary : BinaryOp → Expr N → Expr N → Expr N
    Choice : (condition chosen other : Expr N) → Expr N

  -- a list of expressions
  pub data Exprs (N : Type 0) : Type 0 where
    none : Exprs N
    more : Expr N → Exprs N → Exprs N

  -- the indices and members behind a name
  pub data Accessors (N : Type 0) : Type 0 where
    done : Accessors N
    index : Expr N → Accessors N → Accessors N
    member : List ℕ → Accessors N → Accessors N

  -- what an anonymous component is given
  pub data Inputs (N : Type 0) : Type 0 where
    Listed : Exprs N → Inputs N
    Named : NamedInputs N → Inputs N

  -- a list of names, each with its arrow and value
  pub data NamedInputs (N : Type 0) : Type 0 where
    unnamed : NamedInputs N
    named : (name : List ℕ) → Arrow → Expr N → NamedInputs N → NamedInputs N

pub record Variable (N : Type 0) : Type 0 where
  pub name : List ℕ
  pub meant : N
  pub dimensions : Exprs N
  pub value : Option (Expr N)

pub data SignalValue (N : Type 0) : Type 0 where
  Nothing : SignalValue N
  Given : Arrow → Expr N → SignalValue N

pub record Signal (N : Type 0) : Type 0 where
  pub name : List ℕ
  pub meant : N
  pub dimensions : Exprs N
  pub value : SignalValue N

pub record Component (N : Type 0) : Type 0 where
  pub name : List ℕ
  pub meant : N
  pub dimensions : Exprs N

-- a place is an expression too, `Place`
pub data Assign (N : Type 0) : Type 0 where
  Set : (name : List ℕ) → (meant : N) → Accessors N → Expr N → Assign N
  Compound : (name : List ℕ) → (meant : N) → Accessors N → CompoundOp → Expr N → Assign N
  Left : (name : List ℕ) → (meant : N) → Accessors N → Arrow → Expr N → Assign N
  Increment : (name : List ℕ) → (meant : N) → Accessors N → Assign N
  Decrement : (name : List ℕ) → (meant : N) → Accessors N → Assign N

pub data First (N : Type 0) : Type 0 where
  FirstVars : List (Variable N) → First N
  FirstAssign : Assign N → First N

pub data LogArgument (N : Type 0) : Type 0 where
  Words : List ℕ → LogArgument N
  LogValue : Expr N → LogArgument N

pub data Slot (N : Type 0) : Type 0 where
  SlotPlace : (name : List ℕ) → (meant : N) → Accessors N → Slot N
  SlotDiscard : Slot N

-- `_`, or a tuple of slots
pub data Target (N : Type 0) : Type 0 where
  Discard : Target N
  Slots : List (Slot N) → Target N

-- one value, or a tuple of values
pub data Source (N : Type 0) : Type 0 where
  One : Expr N → Source N
  Values : List (Expr N) → Source N

pub data Simple (N : Type 0) : Type 0 where
  Vars : List (Variable N) → Simple N
  Signals : Direction → List (Signal N) → Simple N
  Declared : List (Component N) → Simple N
  Created : (name : List ℕ) → (meant : N) → Expr N → Simple N
  Assigned : Assign N → Simple N
  Constrain : Expr N → Expr N → Simple N
  Right : Expr N → Arrow → (name : List ℕ) → (meant : N) → Accessors N → Simple N
  TargetLeft : Target N → Arrow → Source N → Simple N
  TargetRight : Source N → Arrow → Target N → Simple N
  Alone : (parallel : Bool) → (name : List ℕ) → (meant : N) → (arguments : Exprs N)
      → (inputs : Inputs N) → Simple N

-- each statement has its place, and so have the two in the head of a `for`
mutual
  pub data Statement (S N : Type 0) : Type 0 where
    Block : S → Statements S N → Statement S N
    If : S → Expr N → Statement S N → Statement S N
    IfElse : S → Expr N → Statement S N → Statement S N → Statement S N
    While : S → Expr N → Statement S N → Statement S N
    For : S → S → First N → Expr N → S → Assign N → Statement S N → Statement S N
    Return : S → Expr N → Statement S N
    Assert : S → Expr N → Statement S N
    Log : S → List (LogArgument N) → Statement S N
    Ended : S → Simple N → Statement S N

  -- a list of statements
  pub data Statements (S N : Type 0) : Type 0 where
    empty : Statements S N
    then_more : Statement S N → Statements S N → Statements S N

pub data Item (S N : Type 0) : Type 0 where
  Pragma : S → (major minor patch : ℕ) → Item S N
  Include : S → (name : List ℕ) → Item S N
  Template : S → (parallel : Bool) → (name : List ℕ) → (parameters : List (List ℕ)) → Statements S N
      → Item S N
  Function : S → (name : List ℕ) → (parameters : List (List ℕ)) → Statements S N → Item S N
  Main : S → (public_names : List (List ℕ)) → (template : List ℕ) → (meant : N)
      → (arguments : Exprs N) → Item S N

abbrev pub File : (S N : Type 0) → Type 0
File S N = List (Item S N)

-- what the program's own trees stand for
abbrev mutual
  pub bare : {N : Type 0} → code.Expr.Expr N → Expr N
  bare (expr.Number n) = Number n
  bare (expr.Place' name meant _ row) = Place name meant (bare_accessors row)
  bare (expr.Call' parallel name meant _ row) = Call parallel name meant (bare_row row)
  bare (expr.Anonymous' _ parallel name meant _ row given) =
      Anonymous parallel name meant (bare_row row) (bare_inputs given)
  bare (expr.Parentheses' _ e) = Parentheses (bare e)
  bare (expr.Array' _ row) = Array (bare_row row)
  bare (expr.Unary' op _ a) = Unary op (bare a)
  bare (expr.Binary' op _ a _ b) = Binary op (bare a) (bare b)
  bare (expr.Choice' _ c _ a _ b) = Choice (bare c) (bare a) (bare b)

  pub bare_row : {N : Type 0} {n : _} → Row_of-Expr N n → Exprs N
  bare_row end_of-Expr = none
  bare_row (more_of-Expr e rest) = more (bare e) (bare_row rest)

  pub bare_accessors : {N : Type 0} {n : _} → Row_of-Accessor N n → Accessors N
  bare_accessors end_of-Accessor = done
  bare_accessors (more_of-Accessor (accessor.Index e) rest) = index (bare e) (bare_accessors rest)
  bare_accessors (more_of-Accessor (accessor.Member name) rest) = member name (bare_accessors rest)

  pub bare_inputs : {N : Type 0} → code.Inputs.Inputs N → Inputs N
  bare_inputs (inputs.Listed' _ row) = Listed (bare_row row)
  bare_inputs (inputs.Named' _ row) = Named (bare_named row)

  pub bare_named : {N : Type 0} {n : _} → Row_of-NamedInput N n → NamedInputs N
  bare_named end_of-NamedInput = unnamed
  bare_named (more_of-NamedInput name arrow e rest) = named name arrow (bare e) (bare_named rest)

-- lists as the tree has them
abbrev pub as_accessors : {N : Type 0} → List (code.Accessor.Accessor N) → Accessors N
as_accessors [] = done
as_accessors (accessor.Index e ∷ rest) = index (bare e) (as_accessors rest)
as_accessors (accessor.Member name ∷ rest) = member name (as_accessors rest)

abbrev pub as_named : {N : Type 0} → List (code.NamedInput.NamedInput N) → NamedInputs N
as_named [] = unnamed
as_named (i ∷ rest) = named i.name i.arrow (bare i.value) (as_named rest)

abbrev pub as_exprs : {N : Type 0} → List (Expr N) → Exprs N
as_exprs [] = none
as_exprs (e ∷ es) = more e (as_exprs es)

abbrev pub bare_exprs : {N : Type 0} → List (code.Expr.Expr N) → Exprs N
bare_exprs es = as_exprs (map bare es)

-- a place, as an expression
abbrev pub bare_place : {N : Type 0} → code.Place.Place N → Expr N
bare_place p = bare (expr.Place p)

-- the indices and members of an expression that is a place
abbrev pub accessors_of : {N : Type 0} → Expr N → Accessors N
accessors_of (Place name meant accessors) = accessors
accessors_of _ = done

abbrev pub place_accessors : {N : Type 0} → code.Place.Place N → Accessors N
place_accessors p = accessors_of (bare_place p)

-- an anonymous component, as an expression
abbrev pub bare_anonymous : {N : Type 0} → code.Anonymous.Anonymous N → Expr N
bare_anonymous a =
    Anonymous a.parallel a.name a.meant (bare_exprs a.arguments) (bare_inputs a.inputs)

abbrev pub bare_value : {N : Type 0} → Option (code.Expr.Expr N) → Option (Expr N)
bare_value None = None
bare_value (Some e) = Some (bare e)

abbrev pub bare_variable : {N : Type 0} → code.DeclaredVariable.DeclaredVariable N → Variable N
bare_variable v =
    record {
      name = v.name;
      meant = v.meant;
      dimensions = bare_exprs v.dimensions;
      value = bare_value v.value;
    }

abbrev pub bare_signal_value : {N : Type 0} → code.SignalValue.SignalValue N → SignalValue N
bare_signal_value value.Nothing = Nothing
bare_signal_value (value.Given arrow e) = Given arrow (bare e)

abbrev pub bare_signal : {N : Type 0} → code.DeclaredSignal.DeclaredSignal N → Signal N
bare_signal s =
    record {
      name = s.name;
      meant = s.meant;
      dimensions = bare_exprs s.dimensions;
      value = bare_signal_value s.value;
    }

abbrev pub bare_component : {N : Type 0} → code.DeclaredComponent.DeclaredComponent N → Component N
bare_component c = record { name = c.name; meant = c.meant; dimensions = bare_exprs c.dimensions }

abbrev pub bare_assign : {N : Type 0} → code.Assign.Assign N → Assign N
bare_assign (assign.Set p e) = Set p.name p.meant (place_accessors p) (bare e)
bare_assign (assign.Compound p op e) = Compound p.name p.meant (place_accessors p) op (bare e)
bare_assign (assign.Left p arrow e) = Left p.name p.meant (place_accessors p) arrow (bare e)
bare_assign (assign.Increment p) = Increment p.name p.meant (place_accessors p)
bare_assign (assign.Decrement p) = Decrement p.name p.meant (place_accessors p)

abbrev pub bare_first : {N : Type 0} → code.FirstForm.FirstForm N → First N
bare_first (first.Vars v) = FirstVars (map bare_variable v.variables)
bare_first (first.Assign a) = FirstAssign (bare_assign a)

abbrev pub bare_argument : {N : Type 0} → code.LogArgument.LogArgument N → LogArgument N
bare_argument (argument.Words w) = Words w
bare_argument (argument.Value e) = LogValue (bare e)

abbrev pub bare_slot : {N : Type 0} → code.Slot.Slot N → Slot N
bare_slot (slot.Place p) = SlotPlace p.name p.meant (place_accessors p)
bare_slot slot.Discard = SlotDiscard

abbrev pub bare_target : {N : Type 0} → code.Target.Target N → Target N
bare_target target.Discard = Discard
bare_target (target.Tuple slots) = Slots (map bare_slot slots)

abbrev pub bare_source : {N : Type 0} → code.Source.Source N → Source N
bare_source (source.One e) = One (bare e)
bare_source (source.Tuple es) = Values (map bare es)

abbrev pub bare_alone : {N : Type 0} → code.Anonymous.Anonymous N → Simple N
bare_alone a =
    Alone a.parallel a.name a.meant (bare_exprs a.arguments) (bare_inputs a.inputs)

abbrev pub bare_simple : {N : Type 0} → code.Simple.Simple N → Simple N
bare_simple (simple.Vars v) = Vars (map bare_variable v.variables)
bare_simple (simple.Signals s) = Signals s.direction (map bare_signal s.signals)
bare_simple (simple.Components (components.Declared cs)) = Declared (map bare_component cs)
bare_simple (simple.Components (components.Created name meant e)) = Created name meant (bare e)
bare_simple (simple.Assign a) = Assigned (bare_assign a)
bare_simple (simple.Constrain a b) = Constrain (bare a) (bare b)
bare_simple (simple.Right e arrow p) = Right (bare e) arrow p.name p.meant (place_accessors p)
bare_simple (simple.TargetLeft t arrow s) = TargetLeft (bare_target t) arrow (bare_source s)
bare_simple (simple.TargetRight s arrow t) = TargetRight (bare_source s) arrow (bare_target t)
bare_simple (simple.Anonymous a) = bare_alone a.value

abbrev mutual
  pub bare_form : {S N : Type 0} → S → code.StatementForm.StatementForm S N → Statement S N
  bare_form spot (statement.Block b) = Block spot (bare_block b)
  bare_form spot (statement.If' c _ at s) = If spot (bare c) (bare_form at s)
  bare_form spot (statement.IfElse' c _ at s _ after t) =
      IfElse spot (bare c) (bare_form at s) (bare_form after t)
  bare_form spot (statement.While' c _ at s) = While spot (bare c) (bare_form at s)
  bare_form spot (statement.For' f c a _ at s) =
      For spot f.value.spot (bare_first f.value.form) (bare c) a.value.spot
      (bare_assign a.value.assign) (bare_form at s)
  bare_form spot (statement.Return e) = Return spot (bare e)
  bare_form spot (statement.Assert e) = Assert spot (bare e)
  bare_form spot (statement.Log arguments) = Log spot (map bare_argument arguments)
  bare_form spot (statement.Simple s) = Ended spot (bare_simple s)

  pub bare_block : {S N : Type 0} → code.Block.Block S N → Statements S N
  bare_block (Block' _ row) = bare_statement_row row

  pub bare_statement_row : {S N : Type 0} {n : _} → Row_of-Statement S N n → Statements S N
  bare_statement_row end_of-Statement = empty
  bare_statement_row (more_of-Statement spot form rest) =
      then_more (bare_form spot form) (bare_statement_row rest)

abbrev pub bare_statement : {S N : Type 0} → code.Statement.Statement S N → Statement S N
bare_statement s = bare_form s.spot s.form

-- a list as the tree has it
abbrev pub as_statements : {S N : Type 0} → List (Statement S N) → Statements S N
as_statements [] = empty
as_statements (s ∷ ss) = then_more s (as_statements ss)

abbrev pub bare_item_form : {S N : Type 0} → S → code.ItemForm.ItemForm S N → Item S N
bare_item_form spot (item.Pragma p) = Pragma spot p.major p.minor p.patch
bare_item_form spot (item.Include i) = Include spot i.name
bare_item_form spot (item.Definition (definition.Template t)) =
    Template spot t.parallel t.name t.parameters (bare_block t.body)
bare_item_form spot (item.Definition (definition.Function f)) =
    Function spot f.name f.parameters (bare_block f.body)
bare_item_form spot (item.Main m) = Main spot m.public m.template m.meant (bare_exprs m.arguments)

abbrev pub bare_item : {S N : Type 0} → code.Item.Item S N → Item S N
bare_item i = bare_item_form i.spot i.form

abbrev pub bare_file : {S N : Type 0} → code.File.File S N → File S N
bare_file f = map bare_item f.items
