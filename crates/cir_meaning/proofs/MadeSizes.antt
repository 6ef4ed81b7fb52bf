-- The groups of signals grow while a template is made into a component.
use Rattle.std.proofs.Common.{◌≡◌, ℕ, List, Option, Some, None, Ok, refl, subst, slice_get}
use Rattle.cir_ast.specs.declared.operators.Direction.{Direction}
use Rattle.cir_ast.specs.declared.refusal.Kind.TheVariants.{WrongKind}
use Rattle.cir_ast.specs.Program.{Program, Template}
use Rattle.cir_meaning.specs.Scoped.{IsResolved, behind_all}
use Rattle.cir_meaning.specs.Tried.{next, found}
use Rattle.cir_meaning.specs.Frame.{Group, State, Maker}
use Rattle.cir_meaning.specs.Statement.{exec_all}
use Rattle.cir_meaning.specs.Bodies.{template_context, template_state, ended_flow, exec_template}
use Rattle.cir_meaning.specs.Bodies.{call_at, most_open}
use Rattle.cir_meaning.specs.RunSimple.{Runner}
use Rattle.cir_meaning.proofs.Good.{OnSome'}
use Rattle.cir_meaning.proofs.FineValues.{FineMake}
use Rattle.cir_meaning.proofs.Starting.{BodiesRun}
use Rattle.cir_meaning.proofs.TemplateBodies.{context, template_scope, template_kept}
use Rattle.cir_meaning.proofs.GroupSizes.{Less, Fits, less_itself, IsGrowing}
use Rattle.cir_meaning.proofs.GrowingSizes.{From, from_closed}

pub template_grows : (p : Program) (resolved : IsResolved p) (size fuel : ℕ) (make : Option Maker)
    (makes : OnSome' FineMake make) (growing : OnSome' IsGrowing make)
    (group : Direction → List ℕ → Group) (body : Runner) (bodies : BodiesRun size make body)
    → IsGrowing (exec_template p size (call_at p size most_open) make group)
template_grows p resolved size fuel make makes growing group body bodies w n ds path world signals
    after made fits =
    at (slice_get p.templates n) refl
  where
    at : (o : Option Template) → slice_get p.templates n ≡ o
        → Fits after.sizes × Less world.sizes after.sizes
    at None e =
        let no : next (found w WrongKind (slice_get p.templates n)) (λ t.
        next (exec_all (template_context p size (call_at p size most_open) make group t path world)
        t.body (template_state t ds path world))
        (ended_flow (template_context p size (call_at p size most_open) make group t path world)))
        ≡ Ok (signals, after) = made in cc
    at (Some t) e =
        let last : (u : State) × From world.sizes u × (u.frame.signals ≡ signals)
        × (u.world ≡ after) =
        template_kept p resolved size fuel make makes growing group body bodies n t e path world w
        ds
        signals
        after made (From world.sizes)
        (from_closed world.sizes
        (context p resolved size fuel make makes growing group body bodies n t e path world) growing
        (behind_all (template_scope p resolved size fuel make makes growing group body bodies n t e
        path
        world) t.body).signals) (fits, less_itself world.sizes) in
        subst (λ u. Fits u.sizes × Less world.sizes u.sizes) last.3 last.1
