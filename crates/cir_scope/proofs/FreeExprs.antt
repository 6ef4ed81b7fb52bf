-- Expressions of a function that are used as they may be have variables and calls of functions
-- alone.
use Rattle.std.proofs.Common.{◌≡◌, ℕ, ◌+◌, Option, Some, None, length, refl, subst, arith}
use Rattle.cir_ast.specs.declared.operators.Binary.{Binary as BinaryOp}
use Rattle.cir_ast.specs.declared.operators.Binary.TheVariants as op
use Rattle.cir_ast.specs.declared.program.Meant.{Meant}
use Rattle.cir_ast.specs.declared.program.Meant.TheVariants as meant
use Rattle.cir_ast.specs.Tree.{Expr, Number, Place, Call, Anonymous, Parentheses, Array, Unary}
use Rattle.cir_ast.specs.Tree.{Binary, Choice, Exprs, none, more, Accessors, done, index, member}
use Rattle.cir_ast.specs.Tree.{Assign, Set, Compound, Left, Increment, Decrement}
use Rattle.cir_ast.specs.Shape.{level_of, Fits, AllFit, AreFitAccessors, FitsValue, IsShapedAssign}
use Rattle.cir_resolve.specs.Scope.{State, read_at, called_at}
use Rattle.cir_resolve.specs.Naming.{named_expr, named_exprs, named_accessors, named_value}
use Rattle.cir_resolve.specs.Naming.{named_assign}
use Rattle.cir_checks.specs.declared.positions.Room.TheVariants.{Allowed, Barred}
use Rattle.cir_checks.specs.declared.positions.Position.TheVariants.{InFunction}
use Rattle.cir_checks.specs.Heads.{Table}
use Rattle.cir_checks.specs.Uses.{on_the_right, members, count}
use Rattle.cir_checks.specs.Checked.{IsValue, AreValues, AreIndices, IsGiven, IsAssign, IsOptional}
use Rattle.cir_meaning.specs.SignalFree.{IsVariable, IsFreeExpr, AreFree, AreFreeIndices}
use Rattle.cir_meaning.specs.SignalFree.{IsFreeAssign, IsFreeOption}
use Rattle.cir_scope.proofs.Agreement.{is_function}
use Rattle.cir_scope.proofs.FreeNames.{IsFreeName, IsFreeState, free_read, read_variable}
use Rattle.cir_scope.proofs.FreeNames.{written_variable, not_driven}

barred_right : (o : BinaryOp) → on_the_right o Barred ≡ Barred
barred_right op.And = refl
barred_right op.Or = refl
barred_right _ = refl

not_allowed : Barred ≡ Allowed → ⊥
not_allowed e = cc

module _ (t : Table) (functions : ℕ) (all : functions ≡ length t.functions) (st : State)
    (s : IsFreeState st) where
  mutual
    pub free_expr : {N : Type 0} (level : ℕ) (e : Expr N) → Fits level e
        → IsValue t Barred (named_expr st e) → IsFreeExpr functions (named_expr st e)
    free_expr level (Number n) f h = tt
    free_expr level (Place name m accessors) f h =
        let v = read_variable (read_at st name) (members (named_accessors st accessors))
        (free_read st s name) h.0 in
        (v.0, free_accessors accessors f v.1 h.1)
    free_expr level (Call parallel name m arguments) f h = (
      is_function t functions (called_at st name) (count (named_exprs st arguments)) all h.0,
      free_exprs arguments f h.1,
    )
    free_expr level (Anonymous parallel name m arguments inputs) f h = not_allowed h.0
    free_expr level (Parentheses e) f h = free_expr 1 e f h
    free_expr level (Array none) f h = f.0 refl
    free_expr level (Array (more e es)) f h =
        (free_expr 1 e f.1.0 h.0, free_exprs es f.1.1 h.1)
    free_expr level (Unary o e) f h = free_expr 12 e f h
    free_expr level (Binary o a b) f h = (
      free_expr (level_of o) a f.1 h.0,
      free_expr (level_of o + 1) b f.2
          (subst (λ r. IsValue t r (named_expr st b)) (barred_right o) h.1),
    )
    free_expr level (Choice c a b) f h =
        (free_expr 2 c f.1 h.0, free_expr 1 a f.2 h.1, free_expr 1 b f.3 h.2)

    pub free_exprs : {N : Type 0} (es : Exprs N) → AllFit es
        → AreValues t Barred (named_exprs st es) → AreFree functions (named_exprs st es)
    free_exprs none f h = tt
    free_exprs (more e es) f h = (free_expr 1 e f.0 h.0, free_exprs es f.1 h.1)

    free_accessors : {N : Type 0} (accessors : Accessors N) → AreFitAccessors accessors
        → members (named_accessors st accessors) ≡ 0
        → AreIndices t Barred (named_accessors st accessors)
        → AreFreeIndices functions (named_accessors st accessors)
    free_accessors done f z h = tt
    free_accessors (index e rest) f z h =
        (free_expr 1 e f.0 h.0, free_accessors rest f.1 z h.1)
    free_accessors (member name rest) f z h = omega (arith, z)

  pub free_option : {N : Type 0} (v : Option (Expr N)) → FitsValue v
      → IsOptional t Barred (named_value st v) → IsFreeOption functions (named_value st v)
  free_option None f h = tt
  free_option (Some e) f h = free_expr 1 e f h

  free_set : {N : Type 0} (m : Meant) (accessors : Accessors N) (e : Expr N)
      → IsFreeName (Some m) → AreFitAccessors accessors → Fits 1 e
      → IsGiven t InFunction m (named_accessors st accessors) (named_expr st e)
      → IsVariable m × AreFreeIndices functions (named_accessors st accessors)
      × IsFreeExpr functions (named_expr st e)
  free_set (meant.Variable n) accessors e k f g h =
      (tt, free_accessors accessors f h.0.0 h.0.1, free_expr 1 e g h.1)
  free_set (meant.Component n) accessors e k f g h = absurd k
  free_set (meant.Signal d n) accessors e k f g h = absurd k
  free_set meant.Other accessors e k f g h = absurd h.0.0
  free_set (meant.Template n) accessors e k f g h = absurd h.0.0
  free_set (meant.Function n) accessors e k f g h = absurd h.0.0

  pub free_assign : {N : Type 0} (x : Assign N) → IsShapedAssign x
      → IsAssign t InFunction (named_assign st x) → IsFreeAssign functions (named_assign st x)
  free_assign (Set name m accessors e) f h =
      free_set (read_at st name) accessors e (free_read st s name) f.0 f.1 h
  free_assign (Compound name m accessors o e) f h =
      let v = written_variable (read_at st name) (members (named_accessors st accessors)) h.0.0 in
      (v.0, free_accessors accessors f.0 v.1 h.0.1, free_expr 1 e f.1 h.1)
  free_assign (Left name m accessors arrow e) f h =
      not_driven (read_at st name) (members (named_accessors st accessors))
      (free_read st s name) h.0.0
  free_assign (Increment name m accessors) f h =
      let v = written_variable (read_at st name) (members (named_accessors st accessors)) h.0 in
      (v.0, free_accessors accessors f v.1 h.1)
  free_assign (Decrement name m accessors) f h =
      let v = written_variable (read_at st name) (members (named_accessors st accessors)) h.0 in
      (v.0, free_accessors accessors f v.1 h.1)
