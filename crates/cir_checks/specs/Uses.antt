-- How names may be used in expressions and places: the first fault, in the order of the tokens. At
-- a called name an unknown name comes first, then a wrong number, then a wrong kind, then a
-- component that may not stand there.
use Rattle.std.specs.Prelude.{ℕ, ◌+◌, ◌==◌, ◌||◌, not, Bool, true, false, Option, Some, None}
use Rattle.cir_ast.specs.declared.operators.Binary.{Binary as BinaryOp}
use Rattle.cir_ast.specs.declared.operators.Binary.TheVariants as op
use Rattle.cir_ast.specs.declared.operators.Direction.TheVariants as direction
use Rattle.cir_ast.specs.declared.program.Meant.{Meant}
use Rattle.cir_ast.specs.declared.program.Meant.TheVariants as meant
use Rattle.cir_ast.specs.declared.refusal.Kind.{Kind}
use Rattle.cir_ast.specs.declared.refusal.Kind.TheVariants as kind
use Rattle.cir_ast.specs.declared.refusal.Form.TheVariants.{AnonymousPlace}
use Rattle.cir_ast.specs.Tree.{Expr, Number, Place, Call, Anonymous, Parentheses, Array, Unary}
use Rattle.cir_ast.specs.Tree.{Binary, Choice, Exprs, none, more, Accessors, done, index, member}
use Rattle.cir_ast.specs.Tree.{Inputs, Listed, Named, NamedInputs, unnamed, named}
use Rattle.cir_checks.specs.declared.calls.Access.{Access}
use Rattle.cir_checks.specs.declared.calls.Access.TheVariants.{Read, Write, Drive}
use Rattle.cir_checks.specs.declared.positions.Room.{Room}
use Rattle.cir_checks.specs.declared.positions.Room.TheVariants.{Allowed, Misplaced, Barred}
use Rattle.cir_checks.specs.Faults.{◌⨾◌, unless, Names, no_names, and_name}
use Rattle.cir_checks.specs.Heads.{Table, Callee, TemplateOf, FunctionOf, OnlyDeclared, Unknown}
use Rattle.cir_checks.specs.Heads.{callee}

-- in an index, a dimension or an argument, right of `&&` and `||`, and in the branches of `?:`
abbrev pub inward : Room → Room
inward Barred = Barred
inward _ = Misplaced

abbrev pub room_fault : Room → Option Kind
room_fault Allowed = None
room_fault Misplaced = Some (kind.NotInProfile AnonymousPlace)
room_fault Barred = Some kind.WrongKind

-- right of an operator
abbrev pub on_the_right : BinaryOp → Room → Room
on_the_right op.And room = inward room
on_the_right op.Or room = inward room
on_the_right _ room = room

abbrev pub members : {N : Type 0} → Accessors N → ℕ
members done = 0
members (index e rest) = members rest
members (member name rest) = 1 + members rest

abbrev pub count : {N : Type 0} → Exprs N → ℕ
count none = 0
count (more e es) = 1 + count es

abbrev pub named_count : {N : Type 0} → NamedInputs N → ℕ
named_count unnamed = 0
named_count (named name arrow e rest) = 1 + named_count rest

abbrev pub inputs_count : {N : Type 0} → Inputs N → ℕ
inputs_count (Listed es) = count es
inputs_count (Named is) = named_count is

-- A variable, a signal, or a signal of a component may be read; so many members stand behind the
-- name. `=` and its kin write a variable. Arrows drive a template's own output or inner signal, or
-- a signal of a component.
abbrev pub name_fault : Meant → Access → ℕ → Option Kind
name_fault meant.Other access dots = Some kind.UnknownName
name_fault (meant.Variable n) Read dots = unless (dots == 0) kind.WrongKind
name_fault (meant.Variable n) Write dots = unless (dots == 0) kind.WrongKind
name_fault (meant.Signal d n) Read dots = unless (dots == 0) kind.WrongKind
name_fault (meant.Signal direction.Inner n) Drive dots = unless (dots == 0) kind.WrongKind
name_fault (meant.Signal direction.Output n) Drive dots = unless (dots == 0) kind.WrongKind
name_fault (meant.Component n) Read dots = unless (dots == 1) kind.WrongKind
name_fault (meant.Component n) Drive dots = unless (dots == 1) kind.WrongKind
name_fault _ access dots = Some kind.WrongKind

-- A function may be called for its value, and a template for a component, with as many arguments as
-- it has parameters.
abbrev pub call_fault : Callee → (component : Bool) → ℕ → Option Kind
call_fault Unknown component arguments = Some kind.UnknownName
call_fault OnlyDeclared component arguments = Some kind.WrongKind
call_fault (FunctionOf parameters) component arguments =
    unless (arguments == parameters) kind.Arity ⨾ unless (not component) kind.WrongKind
call_fault (TemplateOf h) component arguments =
    unless (arguments == h.parameters) kind.Arity ⨾ unless component kind.WrongKind

-- An anonymous component, with so many inputs. Alone, and as the whole value of a tuple or of `_`,
-- it may have any number of outputs; elsewhere it stands for its one output.
abbrev pub anonymous_fault : Callee → Room → (whole : Bool) → (inputs : ℕ) → Option Kind
anonymous_fault (TemplateOf h) room whole inputs =
    unless (inputs == h.inputs) kind.Arity ⨾ unless (whole || (h.outputs == 1)) kind.WrongKind
    ⨾ room_fault room
anonymous_fault _ room whole inputs = None

-- the inputs of what is called
abbrev pub inputs_in : Callee → Names
inputs_in (TemplateOf h) = h.is_input
inputs_in _ = no_names

abbrev mutual
  pub value_fault : Table → Room → Expr Meant → Option Kind
  value_fault t room (Number n) = None
  value_fault t room (Place name m accessors) =
      name_fault m Read (members accessors) ⨾ accessors_fault t room accessors
  value_fault t room (Call parallel name m arguments) =
      call_fault (callee t m) false (count arguments) ⨾ values_fault t (inward room) arguments
  value_fault t room (Anonymous parallel name m arguments inputs) =
      call_fault (callee t m) true (count arguments)
      ⨾ anonymous_fault (callee t m) room false (inputs_count inputs)
      ⨾ values_fault t (inward room) arguments ⨾ inputs_fault t (callee t m) room inputs
  value_fault t room (Parentheses e) = value_fault t room e
  value_fault t room (Array elements) = values_fault t room elements
  value_fault t room (Unary op a) = value_fault t room a
  value_fault t room (Binary op a b) =
      value_fault t room a ⨾ value_fault t (on_the_right op room) b
  value_fault t room (Choice c a b) =
      value_fault t room c ⨾ value_fault t (inward room) a ⨾ value_fault t (inward room) b

  pub values_fault : Table → Room → Exprs Meant → Option Kind
  values_fault t room none = None
  values_fault t room (more e es) = value_fault t room e ⨾ values_fault t room es

  -- the indices behind a name
  pub accessors_fault : Table → Room → Accessors Meant → Option Kind
  accessors_fault t room done = None
  accessors_fault t room (index e rest) =
      value_fault t (inward room) e ⨾ accessors_fault t room rest
  accessors_fault t room (member name rest) = accessors_fault t room rest

  pub inputs_fault : Table → Callee → Room → Inputs Meant → Option Kind
  inputs_fault t c room (Listed es) = values_fault t room es
  inputs_fault t c room (Named is) = named_fault t (inputs_in c) no_names room is

  -- each name is an input, and none comes twice
  pub named_fault : Table → (inputs earlier : Names) → Room → NamedInputs Meant → Option Kind
  named_fault t inputs earlier room unnamed = None
  named_fault t inputs earlier room (named name arrow e rest) =
      unless (inputs name) kind.UnknownName ⨾ unless (not (earlier name)) kind.Arity
      ⨾ value_fault t room e ⨾ named_fault t inputs (and_name earlier name) room rest

-- a place that is used so
abbrev pub place_fault : Table → Room → Access → Meant → Accessors Meant → Option Kind
place_fault t room access m accessors =
    name_fault m access (members accessors) ⨾ accessors_fault t room accessors

-- a call with these arguments
abbrev pub called_fault : Table → Room → (component : Bool) → Meant → Exprs Meant → Option Kind
called_fault t room component m arguments =
    call_fault (callee t m) component (count arguments) ⨾ values_fault t (inward room) arguments

-- an anonymous component, which may be the whole of a value
abbrev pub nameless_fault : Table → Room → (whole : Bool) → Meant → Exprs Meant → Inputs Meant
    → Option Kind
nameless_fault t room whole m arguments inputs =
    call_fault (callee t m) true (count arguments)
    ⨾ anonymous_fault (callee t m) room whole (inputs_count inputs)
    ⨾ values_fault t (inward room) arguments ⨾ inputs_fault t (callee t m) room inputs

-- a value of which an anonymous component may be the whole, with any number of outputs
abbrev pub whole_fault : Table → Room → Expr Meant → Option Kind
whole_fault t room (Anonymous parallel name m arguments inputs) =
    nameless_fault t room true m arguments inputs
whole_fault t room (Parentheses e) = whole_fault t room e
whole_fault t room e = value_fault t room e

-- an expression that creates a component: a call of a template
abbrev pub component_fault : Table → Room → Expr Meant → Option Kind
component_fault t room (Call parallel name m arguments) = called_fault t room true m arguments
component_fault t room (Anonymous parallel name m arguments inputs) =
    nameless_fault t room false m arguments inputs
component_fault t room (Parentheses e) = component_fault t room e
component_fault t room _ = Some kind.WrongKind

abbrev pub is_call : Expr Meant → Bool
is_call (Call parallel name m arguments) = true
is_call (Anonymous parallel name m arguments inputs) = true
is_call (Parentheses e) = is_call e
is_call _ = false
