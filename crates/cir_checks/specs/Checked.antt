-- A program whose names are used as they may be, without an order of faults: each name means
-- something of the kind that it is used as, each call has as many arguments as what it calls has
-- parameters, each form stands where it may, each function returns, and there is one main
-- component.
use Rattle.std.specs.Prelude.{◌≡◌, ℕ, ◌+◌, ◌≤◌, ◌⊎◌, List, [], ◌∷◌, length, Bool, true, false}
use Rattle.std.specs.Prelude.{Option, Some, None, IsTrue, IsFalse, slice_get, ⊤}
use Rattle.cir_ast.specs.declared.operators.Direction.{Direction}
use Rattle.cir_ast.specs.declared.operators.Direction.TheVariants as direction
use Rattle.cir_ast.specs.declared.program.Spot.{Spot}
use Rattle.cir_ast.specs.declared.program.Meant.{Meant}
use Rattle.cir_ast.specs.declared.program.Meant.TheVariants as meant
use Rattle.cir_ast.specs.Tree as tree
use Rattle.cir_ast.specs.Tree.{Expr, Exprs, Accessors, Inputs, Assign, Slot, Target, Source, Simple}
use Rattle.cir_ast.specs.Tree.{Statement, Statements}
use Rattle.cir_ast.specs.Height.{exprs_height, block_height}
use Rattle.cir_ast.specs.Program.{Template, Function, Main, Program}
use Rattle.cir_checks.specs.declared.positions.Room.{Room}
use Rattle.cir_checks.specs.declared.positions.Room.TheVariants.{Allowed, Barred}
use Rattle.cir_checks.specs.declared.positions.Position.{Position}
use Rattle.cir_checks.specs.declared.positions.Position.TheVariants.{InFunction, Outermost, Inner}
use Rattle.cir_checks.specs.Faults.{Names, no_names, and_name}
use Rattle.cir_checks.specs.Heads.{Head, Table, table_of}
use Rattle.cir_checks.specs.Uses.{inward, on_the_right, members, count, inputs_count}
use Rattle.cir_checks.specs.Statements.{inside, in_loop, value_room, other_room}
use Rattle.cir_checks.specs.Statements.{first_slot, other_slots, slots_of, last_returns}

-- each one of a list
abbrev pub Each : {A : Type 0} → (A → Type 0) → List A → Type 0
Each P [] = ⊤
Each P (x ∷ xs) = P x × Each P xs

abbrev pub IsRead : Meant → ℕ → Type 0
IsRead (meant.Variable n) dots = dots ≡ 0
IsRead (meant.Signal direction n) dots = dots ≡ 0
IsRead (meant.Component n) dots = dots ≡ 1
IsRead _ dots = ⊥

abbrev pub IsCall : Table → Meant → (arguments : ℕ) → Type 0
IsCall t (meant.Function n) arguments = slice_get t.functions n ≡ Some arguments
IsCall t _ arguments = ⊥

-- the template that a name means
pub record IsTemplateOf (t : Table) (m : Meant) (h : Head) : Type 0 where
  pub number : ℕ
  pub means : m ≡ meant.Template number
  pub is : slice_get t.templates number ≡ Some h

-- a component is created with as many arguments as its template has parameters
pub record IsCreated (t : Table) (m : Meant) (arguments : ℕ) : Type 0 where
  pub head : Head
  pub template : IsTemplateOf t m head
  pub fits : arguments ≡ head.parameters

-- and one without a name with as many inputs, too
pub record IsAnonymous (t : Table) (m : Meant) (whole : Bool) (arguments inputs : ℕ)
    (head : Head) : Type 0 where
  pub template : IsTemplateOf t m head
  pub fits : arguments ≡ head.parameters
  pub given : inputs ≡ head.inputs
  pub outputs : IsTrue whole ⊎ (head.outputs ≡ 1)

abbrev mutual
  pub IsValue : Table → Room → Expr Meant → Type 0
  IsValue t room (tree.Number n) = ⊤
  IsValue t room (tree.Place name m accessors) =
      IsRead m (members accessors) × AreIndices t room accessors
  IsValue t room (tree.Call parallel name m arguments) =
      IsCall t m (count arguments) × AreValues t (inward room) arguments
  IsValue t room (tree.Anonymous parallel name m arguments inputs) =
      (room ≡ Allowed) × AreValues t (inward room) arguments
      × ((h : Head) × IsAnonymous t m false (count arguments) (inputs_count inputs) h
      × AreInputs t h room inputs)
  IsValue t room (tree.Parentheses e) = IsValue t room e
  IsValue t room (tree.Array elements) = AreValues t room elements
  IsValue t room (tree.Unary op a) = IsValue t room a
  IsValue t room (tree.Binary op a b) = IsValue t room a × IsValue t (on_the_right op room) b
  IsValue t room (tree.Choice c a b) =
      IsValue t room c × IsValue t (inward room) a × IsValue t (inward room) b

  pub AreValues : Table → Room → Exprs Meant → Type 0
  AreValues t room tree.none = ⊤
  AreValues t room (tree.more e es) = IsValue t room e × AreValues t room es

  pub AreIndices : Table → Room → Accessors Meant → Type 0
  AreIndices t room tree.done = ⊤
  AreIndices t room (tree.index e rest) = IsValue t (inward room) e × AreIndices t room rest
  AreIndices t room (tree.member name rest) = AreIndices t room rest

  pub AreInputs : Table → Head → Room → Inputs Meant → Type 0
  AreInputs t h room (tree.Listed es) = AreValues t room es
  AreInputs t h room (tree.Named is) = AreNamed t h.is_input no_names room is

  pub AreNamed : Table → (inputs earlier : Names) → Room → tree.NamedInputs Meant → Type 0
  AreNamed t inputs earlier room tree.unnamed = ⊤
  AreNamed t inputs earlier room (tree.named name arrow e rest) =
      IsTrue (inputs name) × IsFalse (earlier name) × IsValue t room e
      × AreNamed t inputs (and_name earlier name) room rest

abbrev pub IsNameless : Table → Room → (whole : Bool) → Meant → Exprs Meant → Inputs Meant → Type 0
IsNameless t room whole m arguments inputs =
    (room ≡ Allowed) × AreValues t (inward room) arguments
    × ((h : Head) × IsAnonymous t m whole (count arguments) (inputs_count inputs) h
    × AreInputs t h room inputs)

-- a value of which an anonymous component may be the whole
abbrev pub IsWhole : Table → Room → Expr Meant → Type 0
IsWhole t room (tree.Anonymous parallel name m arguments inputs) =
    IsNameless t room true m arguments inputs
IsWhole t room (tree.Parentheses e) = IsWhole t room e
IsWhole t room e = IsValue t room e

-- an expression that creates a component
abbrev pub Creates : Table → Room → Expr Meant → Type 0
Creates t room (tree.Call parallel name m arguments) =
    IsCreated t m (count arguments) × AreValues t (inward room) arguments
Creates t room (tree.Parentheses e) = Creates t room e
Creates t room _ = ⊥

abbrev pub IsWritten : Meant → ℕ → Type 0
IsWritten (meant.Variable n) dots = dots ≡ 0
IsWritten _ dots = ⊥

-- by an arrow
abbrev pub IsDriven : Meant → ℕ → Type 0
IsDriven (meant.Signal direction.Inner n) dots = dots ≡ 0
IsDriven (meant.Signal direction.Output n) dots = dots ≡ 0
IsDriven (meant.Component n) dots = dots ≡ 1
IsDriven _ dots = ⊥

abbrev pub IsDrivenPlace : Table → Position → Meant → Accessors Meant → Type 0
IsDrivenPlace t p m accessors =
    IsDriven m (members accessors) × AreIndices t (other_room p) accessors

abbrev pub IsWrittenPlace : Table → Position → Meant → Accessors Meant → Type 0
IsWrittenPlace t p m accessors =
    IsWritten m (members accessors) × AreIndices t (other_room p) accessors

-- `=` gives a variable its value, and creates a component
abbrev pub IsGiven : Table → Position → Meant → Accessors Meant → Expr Meant → Type 0
IsGiven t p (meant.Component n) accessors e =
    (members accessors ≡ 0) × AreIndices t (other_room p) accessors × Creates t (other_room p) e
IsGiven t p m accessors e = IsWrittenPlace t p m accessors × IsValue t (other_room p) e

abbrev pub IsAssign : Table → Position → Assign Meant → Type 0
IsAssign t p (tree.Set name m accessors e) = IsGiven t p m accessors e
IsAssign t p (tree.Compound name m accessors op e) =
    IsWrittenPlace t p m accessors × IsValue t (other_room p) e
IsAssign t p (tree.Left name m accessors arrow e) =
    IsDrivenPlace t p m accessors × IsValue t (value_room p) e
IsAssign t p (tree.Increment name m accessors) = IsWrittenPlace t p m accessors
IsAssign t p (tree.Decrement name m accessors) = IsWrittenPlace t p m accessors

abbrev pub IsOptional : Table → Room → Option (Expr Meant) → Type 0
IsOptional t room None = ⊤
IsOptional t room (Some e) = IsValue t room e

abbrev pub IsVariable : Table → Position → tree.Variable Meant → Type 0
IsVariable t p v = AreValues t (other_room p) v.dimensions × IsOptional t (other_room p) v.value

-- an input has no value of its own
abbrev pub IsSignalValue : Table → Position → Direction → tree.SignalValue Meant → Type 0
IsSignalValue t p d tree.Nothing = ⊤
IsSignalValue t p direction.Input (tree.Given arrow e) = ⊥
IsSignalValue t p _ (tree.Given arrow e) = IsValue t (value_room p) e

abbrev pub IsSignal : Table → Position → Direction → tree.Signal Meant → Type 0
IsSignal t p d s = AreValues t (other_room p) s.dimensions × IsSignalValue t p d s.value

abbrev pub InTemplate : Position → Type 0
InTemplate InFunction = ⊥
InTemplate _ = ⊤

-- components and inner signals are declared in a template and in no loop; inputs and outputs in its
-- outermost block
abbrev pub MayDeclare : Position → Type 0
MayDeclare Outermost = ⊤
MayDeclare Inner = ⊤
MayDeclare _ = ⊥

abbrev pub MayDeclareSignal : Position → Direction → Type 0
MayDeclareSignal p direction.Inner = MayDeclare p
MayDeclareSignal p _ = p ≡ Outermost

abbrev pub IsArgument : Table → Position → tree.LogArgument Meant → Type 0
IsArgument t p (tree.Words w) = ⊤
IsArgument t p (tree.LogValue e) = IsValue t (other_room p) e

-- one value for so many slots
abbrev pub Fills : Table → ℕ → Expr Meant → Type 0
Fills t slots (tree.Anonymous parallel name m arguments inputs) =
    (h : Head) × IsTemplateOf t m h × (h.outputs ≡ slots)
Fills t slots (tree.Parentheses e) = Fills t slots e
Fills t slots _ = slots ≡ 1

abbrev pub Matches : Table → Target Meant → Source Meant → Type 0
Matches t tree.Discard (tree.One e) = ⊤
Matches t tree.Discard (tree.Values es) = ⊥
Matches t (tree.Slots slots) (tree.One e) = Fills t (length slots) e
Matches t (tree.Slots slots) (tree.Values es) = length es ≡ length slots

abbrev pub IsSlot : Table → Position → Slot Meant → Type 0
IsSlot t p (tree.SlotPlace name m accessors) = IsDrivenPlace t p m accessors
IsSlot t p tree.SlotDiscard = ⊤

abbrev pub IsTarget : Table → Position → Target Meant → Type 0
IsTarget t p tree.Discard = ⊤
IsTarget t p (tree.Slots slots) = Each (IsSlot t p) slots

-- what goes to `_` may have any number of outputs
abbrev pub IsSlotValue : Table → Position → Option (Slot Meant) → Expr Meant → Type 0
IsSlotValue t p (Some tree.SlotDiscard) e = IsWhole t (value_room p) e
IsSlotValue t p _ e = IsValue t (value_room p) e

abbrev pub AreSlotValues : Table → Position → List (Slot Meant) → List (Expr Meant) → Type 0
AreSlotValues t p slots [] = ⊤
AreSlotValues t p slots (e ∷ es) =
    IsSlotValue t p (first_slot slots) e × AreSlotValues t p (other_slots slots) es

abbrev pub IsSource : Table → Position → Target Meant → Source Meant → Type 0
IsSource t p target (tree.One e) = IsWhole t (value_room p) e
IsSource t p target (tree.Values es) = AreSlotValues t p (slots_of target) es

abbrev pub IsSimple : Table → Position → Simple Meant → Type 0
IsSimple t p (tree.Vars variables) = Each (IsVariable t p) variables
IsSimple t p (tree.Signals d signals) = MayDeclareSignal p d × Each (IsSignal t p d) signals
IsSimple t p (tree.Declared components) =
    MayDeclare p × Each (λ c. AreValues t (other_room p) c.dimensions) components
IsSimple t p (tree.Created name m e) = MayDeclare p × Creates t (other_room p) e
IsSimple t p (tree.Assigned a) = IsAssign t p a
IsSimple t p (tree.Constrain a b) =
    InTemplate p × IsValue t (value_room p) a × IsValue t (value_room p) b
IsSimple t p (tree.Right e arrow name m accessors) =
    IsValue t (value_room p) e × IsDrivenPlace t p m accessors
IsSimple t p (tree.TargetLeft target arrow source) =
    InTemplate p × Matches t target source × IsTarget t p target × IsSource t p target source
IsSimple t p (tree.TargetRight source arrow target) =
    InTemplate p × Matches t target source × IsTarget t p target × IsSource t p target source
IsSimple t p (tree.Alone parallel name m arguments inputs) =
    InTemplate p × IsNameless t (value_room p) true m arguments inputs

abbrev pub IsHead : Table → Position → tree.First Meant → Type 0
IsHead t p (tree.FirstVars variables) = Each (IsVariable t p) variables
IsHead t p (tree.FirstAssign a) = IsAssign t p a

abbrev mutual
  pub IsStatement : Table → Position → Statement Spot Meant → Type 0
  IsStatement t p (tree.Block spot ss) = AreStatements t (inside p) ss
  IsStatement t p (tree.If spot c s) = IsValue t (other_room p) c × IsStatement t (inside p) s
  IsStatement t p (tree.IfElse spot c s u) =
      IsValue t (other_room p) c × IsStatement t (inside p) s × IsStatement t (inside p) u
  IsStatement t p (tree.While spot c s) = IsValue t (other_room p) c × IsStatement t (in_loop p) s
  IsStatement t p (tree.For spot first_spot f c step_spot a s) =
      IsHead t p f × IsValue t (other_room p) c × IsAssign t p a × IsStatement t (in_loop p) s
  IsStatement t p (tree.Return spot e) = (p ≡ InFunction) × IsValue t (other_room p) e
  IsStatement t p (tree.Assert spot e) = IsValue t (other_room p) e
  IsStatement t p (tree.Log spot arguments) = InTemplate p × Each (IsArgument t p) arguments
  IsStatement t p (tree.Ended spot s) = IsSimple t p s

  pub AreStatements : Table → Position → Statements Spot Meant → Type 0
  AreStatements t p tree.empty = ⊤
  AreStatements t p (tree.then_more s ss) = IsStatement t p s × AreStatements t p ss

abbrev pub IsTemplate : Table → Template → Type 0
IsTemplate t d = AreStatements t Outermost d.body

abbrev pub IsFunction : Table → Function → Type 0
IsFunction t d = IsTrue (last_returns false d.body) × AreStatements t InFunction d.body

-- a main component's public names are inputs of its template
pub record IsMain (t : Table) (m : Main) : Type 0 where
  pub created : IsCreated t m.meant (count m.arguments)
  pub publics : Each (λ name. IsTrue (created.head.is_input name)) m.public_names
  pub given : AreValues t Barred m.arguments

-- what the checks of names tell of a program
pub record IsUsed (p : Program) : Type 0 where
  pub main : Main
  pub one : p.mains ≡ main ∷ []
  pub is : IsMain (table_of p.templates p.functions) main
  pub templates : Each (IsTemplate (table_of p.templates p.functions)) p.templates
  pub functions : Each (IsFunction (table_of p.templates p.functions)) p.functions

-- no definition and no main component is higher than 256 nodes
pub record IsLow (p : Program) : Type 0 where
  pub templates : Each (λ d. block_height d.body + 1 ≤ 256) p.templates
  pub functions : Each (λ d. block_height d.body + 1 ≤ 256) p.functions
  pub mains : Each (λ m. exprs_height m.arguments + 1 ≤ 256) p.mains

pub record IsChecked (p : Program) : Type 0 where
  pub used : IsUsed p
  pub low : IsLow p
