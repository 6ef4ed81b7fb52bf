-- Trees in which each name passes a test.
use Rattle.std.specs.Prelude.{◌≡◌, ℕ, Bool, true, List, Option, Some, None, ⊤}
use Rattle.std.specs.List.{AllByRecursion}
use Rattle.cir_token.specs.declared.token.TokenKind.{TokenKind}
use Rattle.cir_token.specs.declared.token.TokenKind.TheVariants as token
use Rattle.cir_ast.specs.Tree.{Expr, Number, Place, Call, Anonymous, Parentheses, Array, Unary}
use Rattle.cir_ast.specs.Tree.{Binary, Choice, Exprs, none, more, Accessors, done, index, member}
use Rattle.cir_ast.specs.Tree.{Inputs, Listed, Named, NamedInputs, unnamed, named, Variable}
use Rattle.cir_ast.specs.Tree.{SignalValue, Nothing, Given, Signal, Component, Assign, Set}
use Rattle.cir_ast.specs.Tree.{Compound, Left, Increment, Decrement, First, FirstVars, FirstAssign}
use Rattle.cir_ast.specs.Tree.{LogArgument, Words, LogValue, Slot, SlotPlace, SlotDiscard, Target}
use Rattle.cir_ast.specs.Tree.{Discard, Slots, Source, One, Values, Simple, Vars, Signals, Declared}
use Rattle.cir_ast.specs.Tree.{Created, Assigned, Constrain, Right, TargetLeft, TargetRight, Alone}
use Rattle.cir_ast.specs.Tree.{Statement, Block, If, IfElse, While, For, Return, Assert, Log, Ended}
use Rattle.cir_ast.specs.Tree.{Statements, empty, then_more, Item, Pragma, Include, Template}
use Rattle.cir_ast.specs.Tree.{Function, Main}

-- a token that is no name is passed over
abbrev pub IsNamedToken : (p : List ℕ → Bool) → TokenKind → Type 0
IsNamedToken p (token.Name name) = p name ≡ true
IsNamedToken p _ = ⊤

module _ (p : List ℕ → Bool) where
  abbrev pub Passes : List ℕ → Type 0
  Passes name = p name ≡ true

  abbrev mutual
    pub IsNamed : {N : Type 0} → Expr N → Type 0
    IsNamed (Number n) = ⊤
    IsNamed (Place name m accessors) = Passes name × AreAccessors accessors
    IsNamed (Call parallel name m arguments) = Passes name × AreNamed arguments
    IsNamed (Anonymous parallel name m arguments inputs) =
        Passes name × AreNamed arguments × AreInputs inputs
    IsNamed (Parentheses e) = IsNamed e
    IsNamed (Array es) = AreNamed es
    IsNamed (Unary op a) = IsNamed a
    IsNamed (Binary op a b) = IsNamed a × IsNamed b
    IsNamed (Choice c a b) = IsNamed c × IsNamed a × IsNamed b

    pub AreNamed : {N : Type 0} → Exprs N → Type 0
    AreNamed none = ⊤
    AreNamed (more e es) = IsNamed e × AreNamed es

    pub AreAccessors : {N : Type 0} → Accessors N → Type 0
    AreAccessors done = ⊤
    AreAccessors (index e rest) = IsNamed e × AreAccessors rest
    AreAccessors (member name rest) = Passes name × AreAccessors rest

    pub AreInputs : {N : Type 0} → Inputs N → Type 0
    AreInputs (Listed es) = AreNamed es
    AreInputs (Named is) = AreGiven is

    pub AreGiven : {N : Type 0} → NamedInputs N → Type 0
    AreGiven unnamed = ⊤
    AreGiven (named name arrow e is) = Passes name × IsNamed e × AreGiven is

  abbrev pub IsNamedOption : {N : Type 0} → Option (Expr N) → Type 0
  IsNamedOption None = ⊤
  IsNamedOption (Some e) = IsNamed e

  abbrev pub IsNamedVariable : {N : Type 0} → Variable N → Type 0
  IsNamedVariable v = Passes v.name × AreNamed v.dimensions × IsNamedOption v.value

  abbrev pub IsNamedValue : {N : Type 0} → SignalValue N → Type 0
  IsNamedValue Nothing = ⊤
  IsNamedValue (Given arrow e) = IsNamed e

  abbrev pub IsNamedSignal : {N : Type 0} → Signal N → Type 0
  IsNamedSignal s = Passes s.name × AreNamed s.dimensions × IsNamedValue s.value

  abbrev pub IsNamedComponent : {N : Type 0} → Component N → Type 0
  IsNamedComponent c = Passes c.name × AreNamed c.dimensions

  abbrev pub IsNamedAssign : {N : Type 0} → Assign N → Type 0
  IsNamedAssign (Set name m accessors e) = Passes name × AreAccessors accessors × IsNamed e
  IsNamedAssign (Compound name m accessors op e) =
      Passes name × AreAccessors accessors × IsNamed e
  IsNamedAssign (Left name m accessors arrow e) = Passes name × AreAccessors accessors × IsNamed e
  IsNamedAssign (Increment name m accessors) = Passes name × AreAccessors accessors
  IsNamedAssign (Decrement name m accessors) = Passes name × AreAccessors accessors

  abbrev pub IsNamedFirst : {N : Type 0} → First N → Type 0
  IsNamedFirst (FirstVars vs) = AllByRecursion IsNamedVariable vs
  IsNamedFirst (FirstAssign a) = IsNamedAssign a

  abbrev pub IsNamedArgument : {N : Type 0} → LogArgument N → Type 0
  IsNamedArgument (Words text) = ⊤
  IsNamedArgument (LogValue e) = IsNamed e

  abbrev pub IsNamedSlot : {N : Type 0} → Slot N → Type 0
  IsNamedSlot (SlotPlace name m accessors) = Passes name × AreAccessors accessors
  IsNamedSlot SlotDiscard = ⊤

  abbrev pub IsNamedTarget : {N : Type 0} → Target N → Type 0
  IsNamedTarget Discard = ⊤
  IsNamedTarget (Slots xs) = AllByRecursion IsNamedSlot xs

  abbrev pub IsNamedSource : {N : Type 0} → Source N → Type 0
  IsNamedSource (One e) = IsNamed e
  IsNamedSource (Values es) = AllByRecursion IsNamed es

  abbrev pub IsNamedSimple : {N : Type 0} → Simple N → Type 0
  IsNamedSimple (Vars vs) = AllByRecursion IsNamedVariable vs
  IsNamedSimple (Signals direction xs) = AllByRecursion IsNamedSignal xs
  IsNamedSimple (Declared cs) = AllByRecursion IsNamedComponent cs
  IsNamedSimple (Created name m e) = Passes name × IsNamed e
  IsNamedSimple (Assigned a) = IsNamedAssign a
  IsNamedSimple (Constrain a b) = IsNamed a × IsNamed b
  IsNamedSimple (Right e arrow name m accessors) =
      IsNamed e × Passes name × AreAccessors accessors
  IsNamedSimple (TargetLeft target arrow source) = IsNamedTarget target × IsNamedSource source
  IsNamedSimple (TargetRight source arrow target) = IsNamedSource source × IsNamedTarget target
  IsNamedSimple (Alone parallel name m arguments inputs) =
      Passes name × AreNamed arguments × AreInputs inputs

  abbrev mutual
    pub IsNamedStatement : {S N : Type 0} → Statement S N → Type 0
    IsNamedStatement (Block spot ss) = AreNamedStatements ss
    IsNamedStatement (If spot c a) = IsNamed c × IsNamedStatement a
    IsNamedStatement (IfElse spot c a b) =
        IsNamed c × IsNamedStatement a × IsNamedStatement b
    IsNamedStatement (While spot c a) = IsNamed c × IsNamedStatement a
    IsNamedStatement (For spot first_spot f c step_spot a body) =
        IsNamedFirst f × IsNamed c × IsNamedAssign a × IsNamedStatement body
    IsNamedStatement (Return spot e) = IsNamed e
    IsNamedStatement (Assert spot e) = IsNamed e
    IsNamedStatement (Log spot arguments) = AllByRecursion IsNamedArgument arguments
    IsNamedStatement (Ended spot x) = IsNamedSimple x

    pub AreNamedStatements : {S N : Type 0} → Statements S N → Type 0
    AreNamedStatements empty = ⊤
    AreNamedStatements (then_more a rest) = IsNamedStatement a × AreNamedStatements rest

  abbrev pub IsNamedItem : {S N : Type 0} → Item S N → Type 0
  IsNamedItem (Pragma spot major minor patch) = ⊤
  IsNamedItem (Include spot name) = ⊤
  IsNamedItem (Template spot parallel name parameters ss) =
      Passes name × AllByRecursion Passes parameters × AreNamedStatements ss
  IsNamedItem (Function spot name parameters ss) =
      Passes name × AllByRecursion Passes parameters × AreNamedStatements ss
  IsNamedItem (Main spot names template m arguments) =
      AllByRecursion Passes names × Passes template × AreNamed arguments
