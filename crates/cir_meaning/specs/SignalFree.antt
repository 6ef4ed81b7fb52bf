-- What loading tells of the body of a function: it has variables and calls of functions alone, and
-- each array literal in it has an element.
use Rattle.std.specs.Prelude.{ℕ, ◌<◌, Option, Some, None, length, ⊤}
use Rattle.std.specs.List.{AllByRecursion}
use Rattle.cir_ast.specs.declared.program.Spot.{Spot}
use Rattle.cir_ast.specs.declared.program.Meant.{Meant}
use Rattle.cir_ast.specs.declared.program.Meant.TheVariants as meant
use Rattle.cir_ast.specs.Program.{Program}
use Rattle.cir_ast.specs.Tree.{Expr, Number, Place, Call, Anonymous, Parentheses, Array, Unary}
use Rattle.cir_ast.specs.Tree.{Binary, Choice, Exprs, none, more, Accessors, done, index, member}
use Rattle.cir_ast.specs.Tree.{Variable, Assign, Set, Compound, Left, Increment, Decrement, First}
use Rattle.cir_ast.specs.Tree.{FirstVars, FirstAssign, Simple, Vars, Assigned, Statement, Block, If}
use Rattle.cir_ast.specs.Tree.{IfElse, While, For, Return, Assert, Log, Ended, Statements, empty}
use Rattle.cir_ast.specs.Tree.{then_more}

abbrev pub IsVariable : Meant → Type 0
IsVariable (meant.Variable n) = ⊤
IsVariable _ = ⊥

-- one of so many functions
abbrev pub IsFunction : ℕ → Meant → Type 0
IsFunction functions (meant.Function f) = f < functions
IsFunction functions _ = ⊥

abbrev mutual
  pub IsFreeExpr : ℕ → Expr Meant → Type 0
  IsFreeExpr functions (Number n) = ⊤
  IsFreeExpr functions (Place name m accessors) = IsVariable m × AreFreeIndices functions accessors
  IsFreeExpr functions (Call parallel name m arguments) =
      IsFunction functions m × AreFree functions arguments
  IsFreeExpr functions (Anonymous parallel name m arguments inputs) = ⊥
  IsFreeExpr functions (Parentheses e) = IsFreeExpr functions e
  IsFreeExpr functions (Array none) = ⊥
  IsFreeExpr functions (Array (more e es)) = IsFreeExpr functions e × AreFree functions es
  IsFreeExpr functions (Unary op a) = IsFreeExpr functions a
  IsFreeExpr functions (Binary op a b) = IsFreeExpr functions a × IsFreeExpr functions b
  IsFreeExpr functions (Choice c a b) =
      IsFreeExpr functions c × IsFreeExpr functions a × IsFreeExpr functions b

  pub AreFree : ℕ → Exprs Meant → Type 0
  AreFree functions none = ⊤
  AreFree functions (more e es) = IsFreeExpr functions e × AreFree functions es

  pub AreFreeIndices : ℕ → Accessors Meant → Type 0
  AreFreeIndices functions done = ⊤
  AreFreeIndices functions (index e rest) =
      IsFreeExpr functions e × AreFreeIndices functions rest
  AreFreeIndices functions (member name rest) = ⊥

abbrev pub IsFreeAssign : ℕ → Assign Meant → Type 0
IsFreeAssign functions (Set name m accessors e) =
    IsVariable m × AreFreeIndices functions accessors × IsFreeExpr functions e
IsFreeAssign functions (Compound name m accessors op e) =
    IsVariable m × AreFreeIndices functions accessors × IsFreeExpr functions e
IsFreeAssign functions (Left name m accessors arrow e) = ⊥
IsFreeAssign functions (Increment name m accessors) =
    IsVariable m × AreFreeIndices functions accessors
IsFreeAssign functions (Decrement name m accessors) =
    IsVariable m × AreFreeIndices functions accessors

abbrev pub IsFreeOption : ℕ → Option (Expr Meant) → Type 0
IsFreeOption functions None = ⊤
IsFreeOption functions (Some e) = IsFreeExpr functions e

abbrev pub IsFreeVariable : ℕ → Variable Meant → Type 0
IsFreeVariable functions v =
    IsVariable v.meant × AreFree functions v.dimensions × IsFreeOption functions v.value

abbrev pub IsFreeFirst : ℕ → First Meant → Type 0
IsFreeFirst functions (FirstVars vs) = AllByRecursion (IsFreeVariable functions) vs
IsFreeFirst functions (FirstAssign a) = IsFreeAssign functions a

abbrev pub IsFreeSimple : ℕ → Simple Meant → Type 0
IsFreeSimple functions (Vars vs) = AllByRecursion (IsFreeVariable functions) vs
IsFreeSimple functions (Assigned a) = IsFreeAssign functions a
IsFreeSimple functions _ = ⊥

abbrev mutual
  pub IsFree : ℕ → Statement Spot Meant → Type 0
  IsFree functions (Block spot ss) = AreFreeStatements functions ss
  IsFree functions (If spot c a) = IsFreeExpr functions c × IsFree functions a
  IsFree functions (IfElse spot c a b) =
      IsFreeExpr functions c × IsFree functions a × IsFree functions b
  IsFree functions (While spot c a) = IsFreeExpr functions c × IsFree functions a
  IsFree functions (For spot first_spot f c step_spot a body) =
      IsFreeFirst functions f × IsFreeExpr functions c × IsFreeAssign functions a
      × IsFree functions body
  IsFree functions (Return spot e) = IsFreeExpr functions e
  IsFree functions (Assert spot e) = IsFreeExpr functions e
  IsFree functions (Log spot arguments) = ⊥
  IsFree functions (Ended spot x) = IsFreeSimple functions x

  pub AreFreeStatements : ℕ → Statements Spot Meant → Type 0
  AreFreeStatements functions empty = ⊤
  AreFreeStatements functions (then_more a rest) =
      IsFree functions a × AreFreeStatements functions rest

-- of each function
abbrev pub AreFunctionsFree : Program → Type 0
AreFunctionsFree p =
    AllByRecursion (λ f. AreFreeStatements (length p.functions) f.body) p.functions
