-- What loading tells of the body of a template: each variable that is named is in scope, each call
-- means a function, and declarations have their numbers in the order of the text.
use Rattle.std.specs.Prelude.{◌≡◌, ℕ, ◌+◌, ◌==◌, ◌||◌, nat_lt, Bool, true, List, [], ◌∷◌, Option}
use Rattle.std.specs.Prelude.{Some, None, length, ⊤}
use Rattle.std.specs.List.{AllByRecursion}
use Rattle.cir_ast.specs.declared.operators.Direction.{Direction}
use Rattle.cir_ast.specs.declared.program.Spot.{Spot}
use Rattle.cir_ast.specs.declared.program.Meant.{Meant}
use Rattle.cir_ast.specs.declared.program.Meant.TheVariants as meant
use Rattle.cir_ast.specs.Program.{Program, Template}
use Rattle.cir_ast.specs.Tree.{Expr, Number, Place, Call, Anonymous, Parentheses, Array, Unary}
use Rattle.cir_ast.specs.Tree.{Binary, Choice, Exprs, none, more, Accessors, done, index, member}
use Rattle.cir_ast.specs.Tree.{Inputs, Listed, Named, NamedInputs, unnamed, named, Variable}
use Rattle.cir_ast.specs.Tree.{SignalValue, Nothing, Given, Signal, Assign, Set, Compound, Left}
use Rattle.cir_ast.specs.Tree.{Increment, Decrement, First, FirstVars, FirstAssign, LogArgument}
use Rattle.cir_ast.specs.Tree.{Words, LogValue, Source, One, Values, Simple, Vars, Signals}
use Rattle.cir_ast.specs.Tree.{Declared, Created, Assigned, Constrain, Right, TargetLeft}
use Rattle.cir_ast.specs.Tree.{TargetRight, Alone, Statement, Block, If, IfElse, While, For, Return}
use Rattle.cir_ast.specs.Tree.{Assert, Log, Ended, Statements, empty, then_more}
use Rattle.cir_meaning.specs.SignalFree.{IsFunction, AreFunctionsFree}

-- how many functions the program has; which variables are in scope, by number; and how many
-- variables and signals the text declares so far
pub record Scope : Type 0 where
  pub functions : ℕ
  pub seen : ℕ → Bool
  pub variables : ℕ
  pub signals : ℕ

abbrev pub IsSeen : Scope → Meant → Type 0
IsSeen s (meant.Variable n) = s.seen n ≡ true
IsSeen s _ = ⊤

-- an anonymous component is given values; its template's arguments are no values of the run
abbrev mutual
  pub AreCallsMeant : Scope → Expr Meant → Type 0
  AreCallsMeant s (Number n) = ⊤
  AreCallsMeant s (Place name m accessors) = IsSeen s m × AreIndicesMeant s accessors
  AreCallsMeant s (Call parallel name m arguments) =
      IsFunction s.functions m × AreAllMeant s arguments
  AreCallsMeant s (Anonymous parallel name m arguments inputs) = AreInputsMeant s inputs
  AreCallsMeant s (Parentheses e) = AreCallsMeant s e
  AreCallsMeant s (Array elements) = AreAllMeant s elements
  AreCallsMeant s (Unary op a) = AreCallsMeant s a
  AreCallsMeant s (Binary op a b) = AreCallsMeant s a × AreCallsMeant s b
  AreCallsMeant s (Choice c a b) = AreCallsMeant s c × AreCallsMeant s a × AreCallsMeant s b

  pub AreAllMeant : Scope → Exprs Meant → Type 0
  AreAllMeant s none = ⊤
  AreAllMeant s (more e es) = AreCallsMeant s e × AreAllMeant s es

  pub AreIndicesMeant : Scope → Accessors Meant → Type 0
  AreIndicesMeant s done = ⊤
  AreIndicesMeant s (index e rest) = AreCallsMeant s e × AreIndicesMeant s rest
  AreIndicesMeant s (member name rest) = AreIndicesMeant s rest

  pub AreInputsMeant : Scope → Inputs Meant → Type 0
  AreInputsMeant s (Listed es) = AreAllMeant s es
  AreInputsMeant s (Named is) = AreNamedMeant s is

  pub AreNamedMeant : Scope → NamedInputs Meant → Type 0
  AreNamedMeant s unnamed = ⊤
  AreNamedMeant s (named name arrow e rest) = AreCallsMeant s e × AreNamedMeant s rest

-- what is evaluated when a statement runs; what creates a component isn't
abbrev pub IsSetMeant : Scope → Meant → Accessors Meant → Expr Meant → Type 0
IsSetMeant s (meant.Component n) accessors e = ⊤
IsSetMeant s m accessors e = IsSeen s m × AreIndicesMeant s accessors × AreCallsMeant s e

abbrev pub IsAssignMeant : Scope → Assign Meant → Type 0
IsAssignMeant s (Set name m accessors e) = IsSetMeant s m accessors e
IsAssignMeant s (Compound name m accessors op e) =
    IsSeen s m × AreIndicesMeant s accessors × AreCallsMeant s e
IsAssignMeant s (Left name m accessors arrow e) = AreCallsMeant s e
IsAssignMeant s (Increment name m accessors) = IsSeen s m × AreIndicesMeant s accessors
IsAssignMeant s (Decrement name m accessors) = IsSeen s m × AreIndicesMeant s accessors

-- a variable that is declared is in scope in its own value, and not in its dimensions
abbrev pub with_variable : Scope → Scope
with_variable s =
    record s { seen = λ n. (n == s.variables) || s.seen n; variables = s.variables + 1 }

abbrev pub IsOptionMeant : Scope → Option (Expr Meant) → Type 0
IsOptionMeant s None = ⊤
IsOptionMeant s (Some e) = AreCallsMeant s e

abbrev pub IsVariableScoped : Scope → Variable Meant → Type 0
IsVariableScoped s v =
    (v.meant ≡ meant.Variable s.variables) × AreAllMeant s v.dimensions
    × IsOptionMeant (with_variable s) v.value

abbrev pub AreVariablesScoped : Scope → List (Variable Meant) → Type 0
AreVariablesScoped s [] = ⊤
AreVariablesScoped s (v ∷ vs) = IsVariableScoped s v × AreVariablesScoped (with_variable s) vs

abbrev pub with_variables : Scope → List (Variable Meant) → Scope
with_variables s [] = s
with_variables s (v ∷ vs) = with_variables (with_variable s) vs

-- a signal that is declared
abbrev pub with_signal : Scope → Scope
with_signal s = record s { signals = s.signals + 1 }

abbrev pub IsSignalValueMeant : Scope → SignalValue Meant → Type 0
IsSignalValueMeant s Nothing = ⊤
IsSignalValueMeant s (Given arrow e) = AreCallsMeant s e

abbrev pub AreSignalsScoped : Direction → Scope → List (Signal Meant) → Type 0
AreSignalsScoped d s [] = ⊤
AreSignalsScoped d s (x ∷ xs) =
    (x.meant ≡ meant.Signal d s.signals) × IsSignalValueMeant s x.value
    × AreSignalsScoped d (with_signal s) xs

abbrev pub with_signals : Scope → List (Signal Meant) → Scope
with_signals s [] = s
with_signals s (x ∷ xs) = with_signals (with_signal s) xs

abbrev pub IsSourceMeant : Scope → Source Meant → Type 0
IsSourceMeant s (One e) = AreCallsMeant s e
IsSourceMeant s (Values es) = AllByRecursion (AreCallsMeant s) es

abbrev pub IsSimpleScoped : Scope → Simple Meant → Type 0
IsSimpleScoped s (Vars vs) = AreVariablesScoped s vs
IsSimpleScoped s (Signals d xs) = AreSignalsScoped d s xs
IsSimpleScoped s (Declared cs) = ⊤
IsSimpleScoped s (Created name m e) = ⊤
IsSimpleScoped s (Assigned a) = IsAssignMeant s a
IsSimpleScoped s (Constrain a b) = AreCallsMeant s a × AreCallsMeant s b
IsSimpleScoped s (Right e arrow name m accessors) = AreCallsMeant s e
IsSimpleScoped s (TargetLeft target arrow source) = IsSourceMeant s source
IsSimpleScoped s (TargetRight source arrow target) = IsSourceMeant s source
IsSimpleScoped s (Alone parallel name m arguments inputs) = AreInputsMeant s inputs

abbrev pub behind_simple : Scope → Simple Meant → Scope
behind_simple s (Vars vs) = with_variables s vs
behind_simple s (Signals d xs) = with_signals s xs
behind_simple s _ = s

abbrev pub IsFirstScoped : Scope → First Meant → Type 0
IsFirstScoped s (FirstVars vs) = AreVariablesScoped s vs
IsFirstScoped s (FirstAssign a) = IsAssignMeant s a

abbrev pub behind_first : Scope → First Meant → Scope
behind_first s (FirstVars vs) = with_variables s vs
behind_first s (FirstAssign a) = s

abbrev pub IsArgumentMeant : Scope → LogArgument Meant → Type 0
IsArgumentMeant s (Words text) = ⊤
IsArgumentMeant s (LogValue e) = AreCallsMeant s e

-- behind a block that closes
abbrev pub closed : Scope → Scope → Scope
closed around s = record s { seen = around.seen }

abbrev mutual
  pub behind : Scope → Statement Spot Meant → Scope
  behind s (Block spot ss) = closed s (behind_all s ss)
  behind s (If spot c a) = closed s (behind s a)
  behind s (IfElse spot c a b) = closed s (behind (closed s (behind s a)) b)
  behind s (While spot c a) = closed s (behind s a)
  behind s (For spot first_spot f c step_spot a body) = closed s (behind (behind_first s f) body)
  behind s (Return spot e) = s
  behind s (Assert spot e) = s
  behind s (Log spot arguments) = s
  behind s (Ended spot x) = behind_simple s x

  pub behind_all : Scope → Statements Spot Meant → Scope
  behind_all s empty = s
  behind_all s (then_more a rest) = behind_all (behind s a) rest

-- a loop declares no signal, and a template doesn't return
abbrev mutual
  pub IsScoped : Scope → Statement Spot Meant → Type 0
  IsScoped s (Block spot ss) = AreScoped s ss
  IsScoped s (If spot c a) = AreCallsMeant s c × IsScoped s a
  IsScoped s (IfElse spot c a b) =
      AreCallsMeant s c × IsScoped s a × IsScoped (closed s (behind s a)) b
  IsScoped s (While spot c a) =
      AreCallsMeant s c × IsScoped s a × ((behind s a).signals ≡ s.signals)
  IsScoped s (For spot first_spot f c step_spot a body) =
      IsFirstScoped s f × AreCallsMeant (behind_first s f) c × IsScoped (behind_first s f) body
      × IsAssignMeant (behind (behind_first s f) body) a
      × ((behind (behind_first s f) body).signals ≡ s.signals)
  IsScoped s (Return spot e) = ⊥
  IsScoped s (Assert spot e) = AreCallsMeant s e
  IsScoped s (Log spot arguments) = AllByRecursion (IsArgumentMeant s) arguments
  IsScoped s (Ended spot x) = IsSimpleScoped s x

  pub AreScoped : Scope → Statements Spot Meant → Type 0
  AreScoped s empty = ⊤
  AreScoped s (then_more a rest) = IsScoped s a × AreScoped (behind s a) rest

-- a body begins with its parameters
abbrev pub IsTemplateScoped : (functions : ℕ) → Template → Type 0
IsTemplateScoped functions t =
    AreScoped record {
      functions = functions;
      seen = λ n. nat_lt n (length t.parameters);
      variables = length t.parameters;
      signals = 0;
    } t.body

-- a program whose names mean what is in scope
pub record IsResolved (p : Program) : Type 0 where
  pub functions : AreFunctionsFree p
  pub templates : AllByRecursion (IsTemplateScoped (length p.functions)) p.templates
