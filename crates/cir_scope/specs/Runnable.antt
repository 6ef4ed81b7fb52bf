-- What loading tells of the functions that may be called when a program runs: each variable that is
-- named is in scope, and declarations have their numbers in the order of the text.
use Rattle.std.specs.Prelude.{◌≡◌, ℕ, nat_lt, length}
use Rattle.std.specs.List.{AllByRecursion}
use Rattle.cir_ast.specs.declared.program.Spot.{Spot}
use Rattle.cir_ast.specs.declared.program.Meant.{Meant}
use Rattle.cir_ast.specs.Program.{Program, Function}
use Rattle.cir_ast.specs.Tree.{Statement, Block, If, IfElse, While, For, Return, Assert, Log, Ended}
use Rattle.cir_ast.specs.Tree.{Statements, empty, then_more}
use Rattle.cir_meaning.specs.SignalFree.{AreFunctionsFree}
use Rattle.cir_meaning.specs.Scoped.{Scope, AreCallsMeant, IsAssignMeant, IsSimpleScoped}
use Rattle.cir_meaning.specs.Scoped.{IsFirstScoped, behind_first, closed, behind, behind_all}
use Rattle.cir_meaning.specs.Scoped.{IsArgumentMeant}

abbrev mutual
  pub MayRun : Scope → Statement Spot Meant → Type 0
  MayRun s (Block spot ss) = AllMayRun s ss
  MayRun s (If spot c a) = AreCallsMeant s c × MayRun s a
  MayRun s (IfElse spot c a b) =
      AreCallsMeant s c × MayRun s a × MayRun (closed s (behind s a)) b
  MayRun s (While spot c a) = AreCallsMeant s c × MayRun s a
  MayRun s (For spot first_spot f c step_spot a body) =
      IsFirstScoped s f × AreCallsMeant (behind_first s f) c × MayRun (behind_first s f) body
      × IsAssignMeant (behind (behind_first s f) body) a
  MayRun s (Return spot e) = AreCallsMeant s e
  MayRun s (Assert spot e) = AreCallsMeant s e
  MayRun s (Log spot arguments) = AllByRecursion (IsArgumentMeant s) arguments
  MayRun s (Ended spot x) = IsSimpleScoped s x

  pub AllMayRun : Scope → Statements Spot Meant → Type 0
  AllMayRun s empty = Unit {0}
  AllMayRun s (then_more a rest) = MayRun s a × AllMayRun (behind s a) rest

-- a body begins with its parameters
abbrev pub body_scope : (functions parameters : ℕ) → Scope
body_scope functions parameters =
    record {
      functions = functions;
      seen = λ n. nat_lt n parameters;
      variables = parameters;
      signals = 0;
    }

pub record IsRunnable (functions : ℕ) (f : Function) : Type 0 where
  pub scoped : AllMayRun (body_scope functions (length f.parameters)) f.body
  pub counted : (behind_all (body_scope functions (length f.parameters)) f.body).variables
      ≡ f.variables

pub record AreRunnable (p : Program) : Type 0 where
  pub free : AreFunctionsFree p
  pub runnable : AllByRecursion (IsRunnable (length p.functions)) p.functions
