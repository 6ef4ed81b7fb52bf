-- The table of all signals has the signals of each template that is made into a component.
use Rattle.std.proofs.Common.{◌≡◌, ℕ, zero, suc, List, Option, Some, None, Ok, refl, sym, ap, subst}
use Rattle.std.proofs.Common.{slice_get}
use Rattle.std.specs.Prelude.{◌^◌, ◌-◌, min}
use Rattle.cir_ast.specs.declared.operators.Direction.{Direction}
use Rattle.cir_ast.specs.declared.refusal.Kind.TheVariants.{WrongKind}
use Rattle.cir_ast.specs.Program.{Program, Template}
use Rattle.cir_meaning.specs.Scoped.{IsResolved, behind_all}
use Rattle.cir_meaning.specs.Tried.{Where, next, found}
use Rattle.cir_meaning.specs.Arrays.{Datum}
use Rattle.cir_meaning.specs.Frame.{Group, Row, Sizes, Signals, World, State, Context, Maker}
use Rattle.cir_meaning.specs.Frame.{size_in}
use Rattle.cir_meaning.specs.Statement.{exec_all}
use Rattle.cir_meaning.specs.Bodies.{template_context, template_state, ended_flow, exec_template}
use Rattle.cir_meaning.specs.Bodies.{call_at, make_at, most_open, numbered_others}
use Rattle.cir_meaning.specs.RunSimple.{Runner}
use Rattle.cir_meaning.specs.RunBodies.{body_at}
use Rattle.cir_meaning.specs.Declaring.{Creation}
use Rattle.cir_meaning.proofs.Good.{OnSome'}
use Rattle.cir_meaning.proofs.Creating.{Created}
use Rattle.cir_meaning.proofs.FineValues.{FineMake}
use Rattle.cir_meaning.proofs.FineBodies.{makes_fine}
use Rattle.cir_meaning.proofs.Keeping.{Closed}
use Rattle.cir_meaning.proofs.Starting.{BodiesRun}
use Rattle.cir_meaning.proofs.TemplateBodies.{context, template_scope, template_kept}
use Rattle.cir_meaning.proofs.GroupSizes.{IsGrowing}
use Rattle.cir_meaning.proofs.GrowingSizes.{constrained_kept}
use Rattle.cir_meaning.proofs.DepthRuns.{makes_grow, bodies_run}
use Rattle.cir_meaning.proofs.RowCounts.{row_count, Counted, row_more}

abbrev CountedIn : State → Type 0
CountedIn s = Counted s.world

-- what a template's body adds
abbrev pub IsCounting : Maker → Type 0
IsCounting make =
    (w : Where) (t : ℕ) (ds : List Datum) (path : List ℕ) (world : World) (signals : Signals)
    (after : World) → make w t ds path world ≡ Ok (signals, after) → Counted world → Counted after

pub same_counted : (f s : World) → s.rows ≡ f.rows → s.sizes ≡ f.sizes → Counted f → Counted s
same_counted f s e g h =
    subst (λ (rows : List Row). (x : Group) → size_in x s.sizes
    ≡ min (row_count x rows) (2 ^ 64 - 1)) (sym e)
    (subst (λ (sizes : Sizes). (x : Group) → size_in x sizes
    ≡ min (row_count x f.rows) (2 ^ 64 - 1)) (sym g) h)

counted_made : (k : Context) (makes : OnSome' IsCounting k.make) (w : Where) (c : Creation)
    (place : ℕ) (s : State) → Created k w c place s → CountedIn c.state → CountedIn s
counted_made k makes w c place s made h =
    subst CountedIn (sym made.state)
    ((subst (λ o. OnSome' IsCounting o) made.is_make makes) w c.template c.arguments _
    c.state.world made.signals made.world made.made h)

counted_closed : (k : Context) (makes : OnSome' IsCounting k.make) (n : ℕ)
    → Closed k n CountedIn
counted_closed k makes n = record {
  like = λ f s l h. same_counted f.world s.world (ap (λ (v : World). v.rows) l.4)
      (ap (λ (v : World). v.sizes) l.4) h;
  added = λ s t i h. subst CountedIn (sym i.1) h;
  variable = λ i d s h. h;
  array = λ dims s h. h;
  component = λ i c s h. h;
  written = λ part number place e s there h. h;
  equation = constrained_kept CountedIn (λ x y s t c h. subst CountedIn (sym c.adds.1) h) k;
  signal = λ spot direction i name dims s apart h. row_more s.world record {
    group = k.group direction name;
    instance = k.instance;
    name = name;
    dims = dims;
  } h;
  created = counted_made k makes;
}

pub template_counts : (p : Program) (resolved : IsResolved p) (size fuel : ℕ)
    (make : Option Maker) (makes : OnSome' FineMake make) (growing : OnSome' IsGrowing make)
    (counting : OnSome' IsCounting make) (group : Direction → List ℕ → Group) (body : Runner)
    (bodies : BodiesRun size make body)
    → IsCounting (exec_template p size (call_at p size most_open) make group)
template_counts p resolved size fuel make makes growing counting group body bodies w n ds path
    world signals after made counted =
    at (slice_get p.templates n) refl
  where
    at : (o : Option Template) → slice_get p.templates n ≡ o → Counted after
    at None e =
        let no : next (found w WrongKind (slice_get p.templates n)) (λ t.
        next (exec_all (template_context p size (call_at p size most_open) make group t path world)
        t.body (template_state t ds path world))
        (ended_flow (template_context p size (call_at p size most_open) make group t path world)))
        ≡ Ok (signals, after) = made in cc
    at (Some t) e =
        let last : (u : State) × CountedIn u × (u.frame.signals ≡ signals)
        × (u.world ≡ after) =
        template_kept p resolved size fuel make makes growing group body bodies n t e path world w
        ds signals after made CountedIn
        (counted_closed
        (context p resolved size fuel make makes growing group body bodies n t e path world)
        counting
        (behind_all (template_scope p resolved size fuel make makes growing group body bodies n t e
        path world) t.body).signals) counted in
        subst Counted last.3 last.1

pub makes_count : (p : Program) (resolved : IsResolved p) (size fuel room : ℕ)
    → OnSome' IsCounting (make_at p size room)
makes_count p resolved size fuel zero = tt
makes_count p resolved size fuel (suc room) =
    template_counts p resolved size fuel (make_at p size room) (makes_fine p size room)
    (makes_grow p resolved size fuel room) (makes_count p resolved size fuel room)
    numbered_others (body_at p size fuel room) (bodies_run p resolved size fuel room)
