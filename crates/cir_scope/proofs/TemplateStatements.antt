-- In a template no statement returns, and no loop declares a signal.
use Rattle.std.proofs.Common.{◌≡◌, ◌∙◌, refl, sym, subst}
use Rattle.cir_ast.specs.declared.program.Spot.{Spot}
use Rattle.cir_ast.specs.declared.program.Meant.{Meant}
use Rattle.cir_ast.specs.Tree.{Statement, Block, If, IfElse, While, For, Return, Assert, Log, Ended}
use Rattle.cir_ast.specs.Tree.{Statements, empty, then_more}
use Rattle.cir_checks.specs.declared.positions.Position.{Position}
use Rattle.cir_checks.specs.declared.positions.Position.TheVariants.{InFunction, Outermost, Inner}
use Rattle.cir_checks.specs.declared.positions.Position.TheVariants.{Looped}
use Rattle.cir_checks.specs.Heads.{Table}
use Rattle.cir_checks.specs.Statements.{inside, in_loop}
use Rattle.cir_checks.specs.Checked.{InTemplate, IsStatement, AreStatements}
use Rattle.cir_meaning.specs.Scoped.{Scope, behind_first, closed, behind, IsScoped, AreScoped}
use Rattle.cir_scope.specs.Runnable.{MayRun, AllMayRun}
use Rattle.cir_scope.proofs.Unlooped.{first_still, still}

inside_template : (p : Position) → InTemplate p → InTemplate (inside p)
inside_template InFunction i = i
inside_template Outermost i = tt
inside_template Inner i = tt
inside_template Looped i = tt

looped : (p : Position) → InTemplate p → in_loop p ≡ Looped
looped InFunction i = absurd i
looped Outermost i = refl
looped Inner i = refl
looped Looped i = refl

no_function : (p : Position) → InTemplate p → p ≡ InFunction → ⊥
no_function InFunction i e = i
no_function Outermost i e = cc
no_function Inner i e = cc
no_function Looped i e = cc

still_in_loop : (t : Table) (p : Position) (s : Scope) (x : Statement Spot Meant) → InTemplate p
    → IsStatement t (in_loop p) x → (behind s x).signals ≡ s.signals
still_in_loop t p s x i h = still t s x (subst (λ q. IsStatement t q x) (looped p i) h)

in_loop_template : (p : Position) → InTemplate p → InTemplate (in_loop p)
in_loop_template p i = subst InTemplate (sym (looped p i)) tt

mutual
  is_scoped : (t : Table) (p : Position) (s : Scope) (x : Statement Spot Meant) → InTemplate p
      → IsStatement t p x → MayRun s x → IsScoped s x
  is_scoped t p s (Block spot ss) i h m = are_scoped t (inside p) s ss (inside_template p i) h m
  is_scoped t p s (If spot c x) i h m =
      (m.0, is_scoped t (inside p) s x (inside_template p i) h.1 m.1)
  is_scoped t p s (IfElse spot c x y) i h m = (
    m.0,
    is_scoped t (inside p) s x (inside_template p i) h.1 m.1,
    is_scoped t (inside p) (closed s (behind s x)) y (inside_template p i) h.2 m.2,
  )
  is_scoped t p s (While spot c x) i h m = (
    m.0,
    is_scoped t (in_loop p) s x (in_loop_template p i) h.1 m.1,
    still_in_loop t p s x i h.1,
  )
  is_scoped t p s (For spot first_spot f c step_spot a x) i h m = (
    m.0,
    m.1,
    is_scoped t (in_loop p) (behind_first s f) x (in_loop_template p i) h.3 m.2,
    m.3,
    still_in_loop t p (behind_first s f) x i h.3 ∙ first_still s f,
  )
  is_scoped t p s (Return spot e) i h m = no_function p i h.0
  is_scoped t p s (Assert spot e) i h m = m
  is_scoped t p s (Log spot arguments) i h m = m
  is_scoped t p s (Ended spot x) i h m = m

  pub are_scoped : (t : Table) (p : Position) (s : Scope) (xs : Statements Spot Meant)
      → InTemplate p → AreStatements t p xs → AllMayRun s xs → AreScoped s xs
  are_scoped t p s empty i h m = tt
  are_scoped t p s (then_more x xs) i h m =
      (is_scoped t p s x i h.0 m.0, are_scoped t p (behind s x) xs i h.1 m.1)
