-- The first fault of a statement and of a definition, in the order of the tokens. A statement that
-- may not stand where it stands has its own fault before those of its parts.
use Rattle.std.specs.Prelude.{ℕ, ◌==◌, ◌&&◌, not, List, [], ◌∷◌, length, Bool, true, false}
use Rattle.std.specs.Prelude.{Option, Some, None}
use Rattle.cir_ast.specs.declared.operators.Direction.{Direction}
use Rattle.cir_ast.specs.declared.operators.Direction.TheVariants as direction
use Rattle.cir_ast.specs.declared.program.Spot.{Spot}
use Rattle.cir_ast.specs.declared.program.Meant.{Meant}
use Rattle.cir_ast.specs.declared.program.Meant.TheVariants as meant
use Rattle.cir_ast.specs.declared.refusal.Kind.{Kind}
use Rattle.cir_ast.specs.declared.refusal.Kind.TheVariants as kind
use Rattle.cir_ast.specs.declared.refusal.Form.TheVariants.{NoReturn, DeclarationPlace, LogPlace}
use Rattle.cir_ast.specs.Tree as tree
use Rattle.cir_ast.specs.Tree.{Expr, Accessors, Assign, First, LogArgument, Slot, SlotPlace}
use Rattle.cir_ast.specs.Tree.{SlotDiscard}
use Rattle.cir_ast.specs.Tree.{Target, Discard, Slots, Source, One, Values, Simple, Statement}
use Rattle.cir_ast.specs.Tree.{Statements, empty, then_more}
use Rattle.cir_ast.specs.Program.{Template, Function, Main}
use Rattle.cir_checks.specs.declared.calls.Access.TheVariants.{Write, Drive}
use Rattle.cir_checks.specs.declared.positions.Room.{Room}
use Rattle.cir_checks.specs.declared.positions.Room.TheVariants.{Allowed, Misplaced, Barred}
use Rattle.cir_checks.specs.declared.positions.Position.{Position}
use Rattle.cir_checks.specs.declared.positions.Position.TheVariants as position
use Rattle.cir_checks.specs.declared.stop.Fault.{Fault}
use Rattle.cir_checks.specs.Faults.{◌⨾◌, first_in, unless, at}
use Rattle.cir_checks.specs.Heads.{Table, Callee, TemplateOf, Unknown, callee}
use Rattle.cir_checks.specs.Uses.{value_fault, values_fault, place_fault, called_fault, whole_fault}
use Rattle.cir_checks.specs.Uses.{nameless_fault, component_fault, accessors_fault, is_call}
use Rattle.cir_checks.specs.Uses.{members}

-- one block further in
abbrev pub inside : Position → Position
inside position.Outermost = position.Inner
inside p = p

abbrev pub in_loop : Position → Position
in_loop position.InFunction = position.InFunction
in_loop _ = position.Looped

-- in the value of a signal, and in a side of `===`
abbrev pub value_room : Position → Room
value_room position.InFunction = Barred
value_room _ = Allowed

-- elsewhere
abbrev pub other_room : Position → Room
other_room position.InFunction = Barred
other_room _ = Misplaced

abbrev pub in_function : Position → Bool
in_function position.InFunction = true
in_function _ = false

-- signals, components, `===`, tuples, `_` and anonymous components alone stand in templates only
abbrev pub only_in_template : Position → Option Kind
only_in_template p = unless (not (in_function p)) kind.WrongKind

-- no declaration of signals or components in a loop, nor of inputs and outputs in an inner block
abbrev pub declaration_fault : Position → Option Kind
declaration_fault position.InFunction = Some kind.WrongKind
declaration_fault position.Looped = Some (kind.NotInProfile DeclarationPlace)
declaration_fault _ = None

abbrev pub signal_place_fault : Position → Direction → Option Kind
signal_place_fault position.Inner direction.Input = Some (kind.NotInProfile DeclarationPlace)
signal_place_fault position.Inner direction.Output = Some (kind.NotInProfile DeclarationPlace)
signal_place_fault p _ = declaration_fault p

abbrev pub optional_fault : Table → Room → Option (Expr Meant) → Option Kind
optional_fault t room None = None
optional_fault t room (Some e) = value_fault t room e

abbrev pub variable_fault : Table → Position → tree.Variable Meant → Option Kind
variable_fault t p v =
    values_fault t (other_room p) v.dimensions ⨾ optional_fault t (other_room p) v.value

-- an input has no value of its own
abbrev pub signal_value_fault : Table → Position → Direction → tree.SignalValue Meant → Option Kind
signal_value_fault t p d tree.Nothing = None
signal_value_fault t p direction.Input (tree.Given arrow e) =
    Some (kind.NotInProfile DeclarationPlace)
signal_value_fault t p _ (tree.Given arrow e) = value_fault t (value_room p) e

abbrev pub signal_fault : Table → Position → Direction → tree.Signal Meant → Option Kind
signal_fault t p d s =
    values_fault t (other_room p) s.dimensions ⨾ signal_value_fault t p d s.value

abbrev pub component_declaration_fault : Table → Position → tree.Component Meant → Option Kind
component_declaration_fault t p c = values_fault t (other_room p) c.dimensions

-- `=` creates a component by a call, and gives a variable its value
abbrev pub given_fault : Table → Room → Meant → Accessors Meant → Expr Meant → Option Kind
given_fault t room (meant.Component n) accessors e =
    unless (is_call e && (members accessors == 0)) kind.WrongKind
    ⨾ accessors_fault t room accessors ⨾ component_fault t room e
given_fault t room m accessors e =
    place_fault t room Write m accessors ⨾ value_fault t room e

abbrev pub assign_fault : Table → Position → Assign Meant → Option Kind
assign_fault t p (tree.Set name m accessors e) = given_fault t (other_room p) m accessors e
assign_fault t p (tree.Compound name m accessors op e) =
    place_fault t (other_room p) Write m accessors ⨾ value_fault t (other_room p) e
assign_fault t p (tree.Left name m accessors arrow e) =
    place_fault t (other_room p) Drive m accessors ⨾ value_fault t (value_room p) e
assign_fault t p (tree.Increment name m accessors) = place_fault t (other_room p) Write m accessors
assign_fault t p (tree.Decrement name m accessors) = place_fault t (other_room p) Write m accessors

abbrev pub argument_fault : Table → Position → LogArgument Meant → Option Kind
argument_fault t p (tree.Words w) = None
argument_fault t p (tree.LogValue e) = value_fault t (other_room p) e

-- One value for so many slots: an anonymous component gives its outputs, and anything else one
-- value. Where its template is unknown, that comes in place of the wrong number; where the name is
-- no template's, that is said later.
abbrev pub outputs_fault : Callee → ℕ → Option Kind
outputs_fault Unknown slots = Some kind.UnknownName
outputs_fault (TemplateOf h) slots = unless (h.outputs == slots) kind.Arity
outputs_fault _ slots = None

abbrev pub one_fault : Table → ℕ → Expr Meant → Option Kind
one_fault t slots (tree.Anonymous parallel name m arguments inputs) =
    outputs_fault (callee t m) slots
one_fault t slots (tree.Parentheses e) = one_fault t slots e
one_fault t slots _ = unless (slots == 1) kind.Arity

-- a tuple takes as many values as it has slots, and `_` takes no tuple
abbrev pub tuple_fault : Table → Target Meant → Source Meant → Option Kind
tuple_fault t Discard (One e) = None
tuple_fault t Discard (Values es) = Some kind.Arity
tuple_fault t (Slots slots) (One e) = one_fault t (length slots) e
tuple_fault t (Slots slots) (Values es) = unless (length es == length slots) kind.Arity

abbrev pub slot_fault : Table → Position → Slot Meant → Option Kind
slot_fault t p (SlotPlace name m accessors) = place_fault t (other_room p) Drive m accessors
slot_fault t p SlotDiscard = None

abbrev pub slots_of : Target Meant → List (Slot Meant)
slots_of Discard = []
slots_of (Slots slots) = slots

-- a value is given to its slot; what goes to `_` may have any number of outputs
abbrev pub slot_value_fault : Table → Position → Option (Slot Meant) → Expr Meant → Option Kind
slot_value_fault t p (Some SlotDiscard) e = whole_fault t (value_room p) e
slot_value_fault t p _ e = value_fault t (value_room p) e

abbrev pub first_slot : List (Slot Meant) → Option (Slot Meant)
first_slot [] = None
first_slot (slot ∷ slots) = Some slot

abbrev pub other_slots : List (Slot Meant) → List (Slot Meant)
other_slots [] = []
other_slots (slot ∷ slots) = slots

abbrev pub slot_values_fault : Table → Position → List (Slot Meant) → List (Expr Meant)
    → Option Kind
slot_values_fault t p slots [] = None
slot_values_fault t p slots (e ∷ es) =
    slot_value_fault t p (first_slot slots) e ⨾ slot_values_fault t p (other_slots slots) es

abbrev pub source_fault : Table → Position → Target Meant → Source Meant → Option Kind
source_fault t p target (One e) = whole_fault t (value_room p) e
source_fault t p target (Values es) = slot_values_fault t p (slots_of target) es

abbrev pub simple_fault : Table → Position → Simple Meant → Option Kind
simple_fault t p (tree.Vars variables) = first_in (variable_fault t p) variables
simple_fault t p (tree.Signals d signals) =
    signal_place_fault p d ⨾ first_in (signal_fault t p d) signals
simple_fault t p (tree.Declared components) =
    declaration_fault p ⨾ first_in (component_declaration_fault t p) components
simple_fault t p (tree.Created name m e) =
    declaration_fault p ⨾ component_fault t (other_room p) e
simple_fault t p (tree.Assigned a) = assign_fault t p a
simple_fault t p (tree.Constrain a b) =
    only_in_template p ⨾ value_fault t (value_room p) a ⨾ value_fault t (value_room p) b
simple_fault t p (tree.Right e arrow name m accessors) =
    value_fault t (value_room p) e ⨾ place_fault t (other_room p) Drive m accessors
simple_fault t p (tree.TargetLeft target arrow source) =
    only_in_template p ⨾ tuple_fault t target source
    ⨾ first_in (slot_fault t p) (slots_of target) ⨾ source_fault t p target source
simple_fault t p (tree.TargetRight source arrow target) =
    only_in_template p ⨾ tuple_fault t target source ⨾ source_fault t p target source
    ⨾ first_in (slot_fault t p) (slots_of target)
simple_fault t p (tree.Alone parallel name m arguments inputs) =
    only_in_template p ⨾ nameless_fault t (value_room p) true m arguments inputs

abbrev pub head_fault : Table → Position → First Meant → Option Kind
head_fault t p (tree.FirstVars variables) = first_in (variable_fault t p) variables
head_fault t p (tree.FirstAssign a) = assign_fault t p a

abbrev mutual
  pub statement_fault : Table → Position → Statement Spot Meant → Option Fault
  statement_fault t p (tree.Block spot ss) = statements_fault t (inside p) ss
  statement_fault t p (tree.If spot c s) =
      at spot (value_fault t (other_room p) c) ⨾ statement_fault t (inside p) s
  statement_fault t p (tree.IfElse spot c s u) =
      at spot (value_fault t (other_room p) c) ⨾ statement_fault t (inside p) s
      ⨾ statement_fault t (inside p) u
  statement_fault t p (tree.While spot c s) =
      at spot (value_fault t (other_room p) c) ⨾ statement_fault t (in_loop p) s
  statement_fault t p (tree.For spot first_spot f c step_spot a s) =
      at first_spot (head_fault t p f) ⨾ at spot (value_fault t (other_room p) c)
      ⨾ at step_spot (assign_fault t p a) ⨾ statement_fault t (in_loop p) s
  statement_fault t p (tree.Return spot e) =
      at spot (unless (in_function p) kind.WrongKind ⨾ value_fault t (other_room p) e)
  statement_fault t p (tree.Assert spot e) = at spot (value_fault t (other_room p) e)
  statement_fault t p (tree.Log spot arguments) =
      at spot (unless (not (in_function p)) (kind.NotInProfile LogPlace)
      ⨾ first_in (argument_fault t p) arguments)
  statement_fault t p (tree.Ended spot s) = at spot (simple_fault t p s)

  pub statements_fault : Table → Position → Statements Spot Meant → Option Fault
  statements_fault t p empty = None
  statements_fault t p (then_more s ss) = statement_fault t p s ⨾ statements_fault t p ss

-- a body returns where its last statement does: a `return`, a block that returns, or an `if` whose
-- two branches return
abbrev mutual
  pub returns : Statement Spot Meant → Bool
  returns (tree.Block spot ss) = last_returns false ss
  returns (tree.IfElse spot c s u) = returns s && returns u
  returns (tree.Return spot e) = true
  returns _ = false

  -- the last of these, or what is said before them where there is none
  pub last_returns : Bool → Statements Spot Meant → Bool
  last_returns before empty = before
  last_returns before (then_more s ss) = last_returns (returns s) ss

abbrev pub template_fault : Table → Template → Option Fault
template_fault t d = statements_fault t position.Outermost d.body

-- a function's body returns; its faults come behind that
abbrev pub function_fault : Table → Function → Option Fault
function_fault t d =
    at d.spot (unless (last_returns false d.body) (kind.NotInProfile NoReturn))
    ⨾ statements_fault t position.InFunction d.body

-- the public names are inputs, where the template is known; they come before its arguments
abbrev pub publics_fault : Callee → List (List ℕ) → Option Kind
publics_fault (TemplateOf h) names =
    first_in (λ name. unless (h.is_input name) kind.UnknownName) names
publics_fault _ names = None

abbrev pub main_fault : Table → Main → Option Fault
main_fault t m =
    at m.spot (publics_fault (callee t m.meant) m.public_names
    ⨾ called_fault t Barred true m.meant m.arguments)
