-- Which trees are shaped as the grammar wants.
use Rattle.std.specs.Prelude.{◌≡◌, ◌≢◌, ℕ, ◌+◌, ◌≤◌, Bool, true, false, List, [], ◌∷◌, length}
use Rattle.std.specs.Prelude.{Option, Some, None}
use Rattle.cir_ast.specs.declared.operators.Binary.{Binary as BinaryOp}
use Rattle.cir_ast.specs.declared.operators.Binary.TheVariants as binary
use Rattle.cir_ast.specs.Tree as tree

-- how tightly an operator binds; 1 is the level of `?:`, the loosest, and 12 that of the unary
-- operators
abbrev pub level_of : BinaryOp → ℕ
level_of binary.Pow = 11
level_of binary.Mul = 10
level_of binary.Div = 10
level_of binary.Quotient = 10
level_of binary.Remainder = 10
level_of binary.Add = 9
level_of binary.Sub = 9
level_of binary.ShiftLeft = 8
level_of binary.ShiftRight = 8
level_of binary.BitAnd = 7
level_of binary.BitXor = 6
level_of binary.BitOr = 5
level_of binary.And = 3
level_of binary.Or = 2
level_of _ = 4  -- a comparison

-- May stand where operators of this level and tighter ones may. Binary operators group to the left,
-- and `?:` to the right.
abbrev mutual
  pub Fits : {N : Type 0} → ℕ → tree.Expr N → Type 0
  Fits level (tree.Number n) = Unit {0}
  Fits level (tree.Place name meant accessors) = AreFitAccessors accessors
  Fits level (tree.Call parallel name meant arguments) = AllFit arguments
  Fits level (tree.Anonymous parallel name meant arguments inputs) =
      AllFit arguments × AreFitInputs inputs
  Fits level (tree.Parentheses e) = Fits 1 e
  Fits level (tree.Array elements) = (elements ≢ tree.none) × AllFit elements
  Fits level (tree.Unary op a) = Fits 12 a
  Fits level (tree.Binary op a b) =
      (level ≤ level_of op) × Fits (level_of op) a × Fits (level_of op + 1) b
  Fits level (tree.Choice c a b) = (level ≤ 1) × Fits 2 c × Fits 1 a × Fits 1 b

  pub AllFit : {N : Type 0} → tree.Exprs N → Type 0
  AllFit tree.none = Unit {0}
  AllFit (tree.more e es) = Fits 1 e × AllFit es

  pub AreFitAccessors : {N : Type 0} → tree.Accessors N → Type 0
  AreFitAccessors tree.done = Unit {0}
  AreFitAccessors (tree.index e rest) = Fits 1 e × AreFitAccessors rest
  AreFitAccessors (tree.member name rest) = AreFitAccessors rest

  -- a list of names has one at least
  pub AreFitInputs : {N : Type 0} → tree.Inputs N → Type 0
  AreFitInputs (tree.Listed es) = AllFit es
  AreFitInputs (tree.Named is) = (is ≢ tree.unnamed) × AllNamedFit is

  pub AllNamedFit : {N : Type 0} → tree.NamedInputs N → Type 0
  AllNamedFit tree.unnamed = Unit {0}
  AllNamedFit (tree.named name arrow e is) = Fits 1 e × AllNamedFit is

-- holds of each
abbrev pub Each : {A : Type 0} → (A → Type 0) → List A → Type 0
Each P [] = Unit {0}
Each P (x ∷ xs) = P x × Each P xs

abbrev pub FitsValue : {N : Type 0} → Option (tree.Expr N) → Type 0
FitsValue None = Unit {0}
FitsValue (Some e) = Fits 1 e

abbrev pub IsShapedVariable : {N : Type 0} → tree.Variable N → Type 0
IsShapedVariable v = AllFit v.dimensions × FitsValue v.value

abbrev pub FitsSignalValue : {N : Type 0} → tree.SignalValue N → Type 0
FitsSignalValue tree.Nothing = Unit {0}
FitsSignalValue (tree.Given arrow e) = Fits 1 e

abbrev pub IsShapedSignal : {N : Type 0} → tree.Signal N → Type 0
IsShapedSignal s = AllFit s.dimensions × FitsSignalValue s.value

abbrev pub IsShapedComponent : {N : Type 0} → tree.Component N → Type 0
IsShapedComponent c = AllFit c.dimensions

-- a declaration declares one at least
abbrev pub AreShapedVariables : {N : Type 0} → List (tree.Variable N) → Type 0
AreShapedVariables variables = (variables ≢ []) × Each IsShapedVariable variables

abbrev pub IsShapedAssign : {N : Type 0} → tree.Assign N → Type 0
IsShapedAssign (tree.Set name meant accessors e) = AreFitAccessors accessors × Fits 1 e
IsShapedAssign (tree.Compound name meant accessors op e) = AreFitAccessors accessors × Fits 1 e
IsShapedAssign (tree.Left name meant accessors arrow e) = AreFitAccessors accessors × Fits 1 e
IsShapedAssign (tree.Increment name meant accessors) = AreFitAccessors accessors
IsShapedAssign (tree.Decrement name meant accessors) = AreFitAccessors accessors

abbrev pub IsShapedFirst : {N : Type 0} → tree.First N → Type 0
IsShapedFirst (tree.FirstVars variables) = AreShapedVariables variables
IsShapedFirst (tree.FirstAssign a) = IsShapedAssign a

abbrev pub FitsArgument : {N : Type 0} → tree.LogArgument N → Type 0
FitsArgument (tree.Words w) = Unit {0}
FitsArgument (tree.LogValue e) = Fits 1 e

abbrev pub IsShapedSlot : {N : Type 0} → tree.Slot N → Type 0
IsShapedSlot (tree.SlotPlace name meant accessors) = AreFitAccessors accessors
IsShapedSlot tree.SlotDiscard = Unit {0}

-- a tuple has two slots or values at least
abbrev pub IsShapedTarget : {N : Type 0} → tree.Target N → Type 0
IsShapedTarget tree.Discard = Unit {0}
IsShapedTarget (tree.Slots slots) = (2 ≤ length slots) × Each IsShapedSlot slots

abbrev pub IsShapedSource : {N : Type 0} → tree.Source N → Type 0
IsShapedSource (tree.One e) = Fits 1 e
IsShapedSource (tree.Values es) = (2 ≤ length es) × Each (Fits 1) es

abbrev pub IsShapedSimple : {N : Type 0} → tree.Simple N → Type 0
IsShapedSimple (tree.Vars variables) = AreShapedVariables variables
IsShapedSimple (tree.Signals direction signals) = (signals ≢ []) × Each IsShapedSignal signals
IsShapedSimple (tree.Declared components) = (components ≢ []) × Each IsShapedComponent components
IsShapedSimple (tree.Created name meant e) = Fits 1 e
IsShapedSimple (tree.Assigned a) = IsShapedAssign a
IsShapedSimple (tree.Constrain a b) = Fits 1 a × Fits 1 b
IsShapedSimple (tree.Right e arrow name meant accessors) = Fits 1 e × AreFitAccessors accessors
IsShapedSimple (tree.TargetLeft target arrow source) = IsShapedTarget target × IsShapedSource source
IsShapedSimple (tree.TargetRight source arrow target) =
    IsShapedSource source × IsShapedTarget target
IsShapedSimple (tree.Alone parallel name meant arguments inputs) =
    Fits 1 (tree.Anonymous parallel name meant arguments inputs)

-- ends in an `if` without `else`, so that an `else` behind it would belong to that
abbrev pub ends_open : {S N : Type 0} → tree.Statement S N → Bool
ends_open (tree.If spot c s) = true
ends_open (tree.IfElse spot c s t) = ends_open t
ends_open (tree.While spot c s) = ends_open s
ends_open (tree.For spot first_spot f c step_spot a s) = ends_open s
ends_open _ = false

-- each operand's level fits, and no `else` could belong to an inner `if`
abbrev mutual
  pub IsShapedStatement : {S N : Type 0} → tree.Statement S N → Type 0
  IsShapedStatement (tree.Block spot ss) = AreShapedStatements ss
  IsShapedStatement (tree.If spot c s) = Fits 1 c × IsShapedStatement s
  IsShapedStatement (tree.IfElse spot c s t) =
      Fits 1 c × (ends_open s ≡ false) × IsShapedStatement s × IsShapedStatement t
  IsShapedStatement (tree.While spot c s) = Fits 1 c × IsShapedStatement s
  IsShapedStatement (tree.For spot first_spot f c step_spot a s) =
      IsShapedFirst f × Fits 1 c × IsShapedAssign a × IsShapedStatement s
  IsShapedStatement (tree.Return spot e) = Fits 1 e
  IsShapedStatement (tree.Assert spot e) = Fits 1 e
  IsShapedStatement (tree.Log spot arguments) = Each FitsArgument arguments
  IsShapedStatement (tree.Ended spot s) = IsShapedSimple s

  pub AreShapedStatements : {S N : Type 0} → tree.Statements S N → Type 0
  AreShapedStatements tree.empty = Unit {0}
  AreShapedStatements (tree.then_more s ss) = IsShapedStatement s × AreShapedStatements ss

abbrev pub IsShapedItem : {S N : Type 0} → tree.Item S N → Type 0
IsShapedItem (tree.Pragma spot major minor patch) = Unit {0}
IsShapedItem (tree.Include spot name) = Unit {0}
IsShapedItem (tree.Template spot parallel name parameters ss) = AreShapedStatements ss
IsShapedItem (tree.Function spot name parameters ss) = AreShapedStatements ss
IsShapedItem (tree.Main spot names template meant arguments) = AllFit arguments

abbrev pub IsShaped : {S N : Type 0} → tree.File S N → Type 0
IsShaped file = Each IsShapedItem file
