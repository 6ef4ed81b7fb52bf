-- A statement that may stand in a loop declares no signal.
use Rattle.std.proofs.Common.{◌≡◌, ◌∙◌, List, [], ◌∷◌, refl}
use Rattle.cir_ast.specs.declared.operators.Direction.TheVariants as direction
use Rattle.cir_ast.specs.declared.program.Meant.{Meant}
use Rattle.cir_ast.specs.declared.program.Spot.{Spot}
use Rattle.cir_ast.specs.Tree.{Variable, First, FirstVars, FirstAssign, Simple, Vars, Signals}
use Rattle.cir_ast.specs.Tree.{Declared, Created, Assigned, Constrain, Right, TargetLeft}
use Rattle.cir_ast.specs.Tree.{TargetRight, Alone, Statement, Block, If, IfElse, While, For, Return}
use Rattle.cir_ast.specs.Tree.{Assert, Log, Ended, Statements, empty, then_more}
use Rattle.cir_checks.specs.declared.positions.Position.TheVariants.{Looped}
use Rattle.cir_checks.specs.Heads.{Table}
use Rattle.cir_checks.specs.Checked.{IsSimple, IsStatement, AreStatements}
use Rattle.cir_meaning.specs.Scoped.{Scope, with_variable, with_variables, behind_simple}
use Rattle.cir_meaning.specs.Scoped.{behind_first, closed, behind, behind_all}

variables_still : (s : Scope) (vs : List (Variable Meant))
    → (with_variables s vs).signals ≡ s.signals
variables_still s [] = refl
variables_still s (v ∷ vs) = variables_still (with_variable s) vs

pub first_still : (s : Scope) (f : First Meant) → (behind_first s f).signals ≡ s.signals
first_still s (FirstVars vs) = variables_still s vs
first_still s (FirstAssign a) = refl

simple_still : (t : Table) (s : Scope) (x : Simple Meant) → IsSimple t Looped x
    → (behind_simple s x).signals ≡ s.signals
simple_still t s (Vars vs) h = variables_still s vs
simple_still t s (Signals direction.Inner xs) h = absurd h.0
simple_still t s (Signals direction.Input xs) h = let e = h.0 in cc
simple_still t s (Signals direction.Output xs) h = let e = h.0 in cc
simple_still t s (Declared cs) h = refl
simple_still t s (Created name m e) h = refl
simple_still t s (Assigned a) h = refl
simple_still t s (Constrain a b) h = refl
simple_still t s (Right e arrow name m accessors) h = refl
simple_still t s (TargetLeft target arrow source) h = refl
simple_still t s (TargetRight source arrow target) h = refl
simple_still t s (Alone parallel name m arguments inputs) h = refl

mutual
  pub still : (t : Table) (s : Scope) (x : Statement Spot Meant) → IsStatement t Looped x
      → (behind s x).signals ≡ s.signals
  still t s (Block spot ss) h = all_still t s ss h
  still t s (If spot c x) h = still t s x h.1
  still t s (IfElse spot c x y) h =
      still t (closed s (behind s x)) y h.2 ∙ still t s x h.1
  still t s (While spot c x) h = still t s x h.1
  still t s (For spot first_spot f c step_spot a x) h =
      still t (behind_first s f) x h.3 ∙ first_still s f
  still t s (Return spot e) h = refl
  still t s (Assert spot e) h = refl
  still t s (Log spot arguments) h = refl
  still t s (Ended spot x) h = simple_still t s x h

  all_still : (t : Table) (s : Scope) (ss : Statements Spot Meant) → AreStatements t Looped ss
      → (behind_all s ss).signals ≡ s.signals
  all_still t s empty h = refl
  all_still t s (then_more x ss) h = all_still t (behind s x) ss h.1 ∙ still t s x h.0
