-- A statement whose condition isn't known is only scanned: its expressions are shaded, a variable
-- that it assigns or declares is opaque, and all refusals stand at it.
use Rattle.std.specs.Prelude.{ℕ, true, List, [], ◌∷◌, Option, Some, None, Ok}
use Rattle.cir_ast.specs.declared.program.Spot.{Spot}
use Rattle.cir_ast.specs.declared.program.Meant.{Meant}
use Rattle.cir_ast.specs.declared.program.Meant.TheVariants as meant
use Rattle.cir_ast.specs.declared.refusal.Kind.TheVariants.{WrongKind, ShapeDiffers}
use Rattle.cir_ast.specs.Tree.{Expr, Accessors, done, Variable, Assign, Set, First, FirstVars}
use Rattle.cir_ast.specs.Tree.{FirstAssign, Simple, Vars, Assigned, Statement, Block, If, IfElse}
use Rattle.cir_ast.specs.Tree.{While, For, Return, Assert, Log, Ended, Statements, empty, then_more}
use Rattle.cir_meaning.specs.Tried.{Where, Tried, next, refused, needed}
use Rattle.cir_meaning.specs.Limits.{with_array}
use Rattle.cir_meaning.specs.Arrays.{Scalar, Whole, reach, filled, forgotten, same_dims}
use Rattle.cir_meaning.specs.Values.{Opaque}
use Rattle.cir_meaning.specs.Frame.{State, Context, at, variable_at, adding, settle}
use Rattle.cir_meaning.specs.Evaluate.{scalar, value_in, dims_in, indices_in}
use Rattle.cir_meaning.specs.Writing.{plain, put_variable}
use Rattle.cir_meaning.specs.Simple.{each}
use Rattle.cir_meaning.specs.Unknown.{Fault, outer_assigned}
use Rattle.cir_meaning.specs.Steps.{stepped, undecided_cost, undecided_cells}

abbrev pub forget_one : ℕ → State → State
forget_one n s = put_variable n (forgotten (variable_at s.frame n)) s

abbrev pub forget : List ℕ → State → State
forget [] s = s
forget (n ∷ ns) s = forget ns (forget_one n s)

abbrev pub scan_test : Context → Where → Expr Meant → State → Tried State
scan_test k w e s = scalar (value_in k w true Scalar e s) (λ x s1. Ok s1)

-- the shapes of an assignment must fit
abbrev pub scan_set : Context → Where → Meant → Accessors Meant → Expr Meant → State → Tried State
scan_set k w (meant.Variable n) accessors e s =
    next (value_in k w true Whole e s) (λ (d, s1). indices_in k w true [] accessors s1
    (λ indices rest s2.
    next (reach w true Whole (variable_at s2.frame n).dims indices)
    (λ r. needed (same_dims r.left d.dims) w ShapeDiffers (Ok s2))))
scan_set k w _ accessors e s = refused w WrongKind

abbrev pub scan_plain : Context → Where → Assign Meant → State → Tried State
scan_plain k w (Set name m accessors e) s = scan_set k w m accessors e s
scan_plain k w _ s = refused w WrongKind

abbrev pub scan_assign : Context → Where → Assign Meant → State → Tried State
scan_assign k w a s = scan_plain k w (plain a) s

abbrev pub scan_value : Context → Where → Meant → Option (Expr Meant) → State → Tried State
scan_value k w m None s = Ok s
scan_value k w m (Some e) s = scan_set k w m done e s

abbrev pub scan_declared : ℕ → List ℕ → State → State
scan_declared n dims s = adding (with_array dims) (put_variable n (filled dims Opaque) s)

abbrev pub scan_meant : Where → Meant → (ℕ → Tried State) → Tried State
scan_meant w (meant.Variable n) go = go n
scan_meant w _ go = refused w WrongKind

abbrev pub scan_variable : Context → Where → Variable Meant → State → Tried State
scan_variable k w v s =
    scan_meant w v.meant (λ n. next (dims_in k w true v.dimensions s) (λ (dims, s1).
    scan_value k w v.meant v.value (scan_declared n dims s1)))

abbrev pub scan_first : Context → Where → First Meant → State → Tried State
scan_first k w (FirstVars vs) s = each (scan_variable k w) vs s
scan_first k w (FirstAssign a) s = scan_assign k w a s

abbrev pub scan_simple : Context → Where → Simple Meant → State → Tried State
scan_simple k w (Vars vs) s = each (scan_variable k w) vs s
scan_simple k w (Assigned a) s = scan_assign k w a s
scan_simple k w _ s = refused w WrongKind

-- in the order of execution; all branches are scanned
abbrev mutual
  pub scan : Context → Where → Statement Spot Meant → State → Tried State
  scan k w (Block spot ss) s = scan_all k w ss s
  scan k w (If spot c a) s = next (scan_test k w c s) (scan k w a)
  scan k w (IfElse spot c a b) s =
      next (scan_test k w c s) (λ s1. next (scan k w a s1) (scan k w b))
  scan k w (While spot c a) s = next (scan_test k w c s) (scan k w a)
  scan k w (For spot first_spot f c step_spot a body) s =
      next (scan_first k w f s) (λ s1. next (scan_test k w c s1)
      (λ s2. next (scan k w body s2) (scan_assign k w a)))
  scan k w (Return spot e) s = refused w WrongKind
  scan k w (Assert spot e) s = scan_test k w e s
  scan k w (Log spot arguments) s = refused w WrongKind
  scan k w (Ended spot x) s = scan_simple k w x s

  pub scan_all : Context → Where → Statements Spot Meant → State → Tried State
  scan_all k w empty s = Ok s
  scan_all k w (then_more a as') s = next (scan k w a s) (scan_all k w as')

-- first the statements in it are tested, at their own places
abbrev pub allowed : Context → Option Fault → Tried State → Tried State
allowed k None go = go
allowed k (Some f) go = refused (at k f.spot) f.kind

-- afterwards each outer variable that it may assign is opaque
abbrev pub undecided : Context → Spot → Option Fault → Statement Spot Meant → State → Tried State
undecided k spot fault a s =
    allowed k fault (next (scan k (at k spot) a (forget (outer_assigned a) s)) (λ s1.
    next (stepped k (at k spot) (undecided_cost k (at k spot) a s s1) (undecided_cells a s) s1)
    (settle (at k spot))))
