-- What is made into a component adds no inputs of main.
use Rattle.std.proofs.Common.{◌≡◌, ℕ, zero, suc, List, Option, Some, None, Ok, refl, sym, ap, subst}
use Rattle.std.proofs.Common.{◌∙◌, slice_get}
use Rattle.cir_ast.specs.declared.refusal.Kind.TheVariants.{WrongKind}
use Rattle.cir_ast.specs.Program.{Program, Template}
use Rattle.cir_meaning.specs.Scoped.{IsResolved, behind_all}
use Rattle.cir_meaning.specs.Tried.{Where, next, found}
use Rattle.cir_meaning.specs.Places.{elements}
use Rattle.cir_meaning.specs.Arrays.{Datum}
use Rattle.cir_meaning.specs.Frame.{Sizes, Signals, World, State, Context, Maker, more_in}
use Rattle.cir_meaning.specs.Statement.{exec_all}
use Rattle.cir_meaning.specs.Bodies.{template_context, template_state, ended_flow, call_at, make_at}
use Rattle.cir_meaning.specs.Bodies.{exec_template, most_open, numbered_others}
use Rattle.cir_meaning.specs.RunBodies.{body_at}
use Rattle.cir_meaning.specs.Declaring.{Creation}
use Rattle.cir_meaning.proofs.Good.{OnSome'}
use Rattle.cir_meaning.proofs.Creating.{Created}
use Rattle.cir_meaning.proofs.FineBodies.{makes_fine}
use Rattle.cir_meaning.proofs.Keeping.{Closed}
use Rattle.cir_meaning.proofs.TemplateBodies.{context, template_scope, template_kept}
use Rattle.cir_meaning.proofs.GrowingSizes.{constrained_kept}
use Rattle.cir_meaning.proofs.DepthRuns.{makes_grow, bodies_run}

-- the same sizes of main's inputs
abbrev pub SameInputs : Sizes → Sizes → Type 0
SameInputs a b =
    (b.public_inputs ≡ a.public_inputs) × (b.private_inputs ≡ a.private_inputs)

abbrev pub IsInner : Maker → Type 0
IsInner make =
    (w : Where) (t : ℕ) (ds : List Datum) (path : List ℕ) (world : World) (signals : Signals)
    (after : World) → make w t ds path world ≡ Ok (signals, after)
    → SameInputs world.sizes after.sizes

module _ (sizes : Sizes) (k : Context) (others : k.group ≡ numbered_others)
    (makes : OnSome' IsInner k.make) where
  abbrev SameIn : State → Type 0
  SameIn s = SameInputs sizes s.world.sizes

  same_made : (w : Where) (c : Creation) (place : ℕ) (s : State) → Created k w c place s
      → SameIn c.state → SameIn s
  same_made w c place s made h =
      let inner : SameInputs c.state.world.sizes made.world.sizes =
      (subst (λ o. OnSome' IsInner o) made.is_make makes) w c.template c.arguments _ c.state.world
      made.signals made.world made.made in
      subst SameIn (sym made.state) (inner.0 ∙ h.0, inner.1 ∙ h.1)

  same_closed : (n : ℕ) → Closed k n SameIn
  same_closed n = record {
    like = λ f s l h. subst (SameInputs sizes) (sym (ap (λ (v : World). v.sizes) l.4)) h;
    added = λ s t i h. subst SameIn (sym i.1) h;
    variable = λ i d s h. h;
    array = λ dims s h. h;
    component = λ i c s h. h;
    written = λ part number place e s there h. h;
    equation = constrained_kept SameIn (λ x y s t c h. subst SameIn (sym c.adds.1) h) k;
    signal = λ spot direction i name dims s apart h.
        subst (λ g. SameInputs sizes (more_in (g direction name) (elements dims) s.world.sizes))
        (sym others) h;
    created = same_made;
  }

inner_next : (p : Program) (resolved : IsResolved p) (size room : ℕ)
    → OnSome' IsInner (make_at p size room)
    → IsInner (exec_template p size (call_at p size most_open) (make_at p size room)
    numbered_others)
inner_next p resolved size room inner w n ds path world signals after made =
    at (slice_get p.templates n) refl
  where
    at : (o : Option Template) → slice_get p.templates n ≡ o
        → SameInputs world.sizes after.sizes
    at None e =
        let no : next (found w WrongKind (slice_get p.templates n)) (λ t.
        next (exec_all (template_context p size (call_at p size most_open) (make_at p size room)
        numbered_others t path world) t.body (template_state t ds path world))
        (ended_flow (template_context p size (call_at p size most_open) (make_at p size room)
        numbered_others t path world))) ≡ Ok (signals, after) = made in cc
    at (Some t) e =
        let k : Context =
        context p resolved size 0 (make_at p size room) (makes_fine p size room)
        (makes_grow p resolved size 0 room) numbered_others (body_at p size 0 room)
        (bodies_run p resolved size 0 room) n t e path world in
        let last : (u : State) × SameInputs world.sizes u.world.sizes
        × (u.frame.signals ≡ signals) × (u.world ≡ after) =
        template_kept p resolved size 0 (make_at p size room) (makes_fine p size room)
        (makes_grow p resolved size 0 room) numbered_others (body_at p size 0 room)
        (bodies_run p resolved size 0 room) n t e path world w ds signals after made
        (λ s. SameInputs world.sizes s.world.sizes)
        (same_closed world.sizes k refl inner
        (behind_all (template_scope p resolved size 0 (make_at p size room)
        (makes_fine p size room) (makes_grow p resolved size 0 room) numbered_others
        (body_at p size 0 room) (bodies_run p resolved size 0 room) n t e path world)
        t.body).signals) (refl, refl) in
        subst (λ (u : World). SameInputs world.sizes u.sizes) last.3 last.1

pub makes_inner : (p : Program) (resolved : IsResolved p) (size room : ℕ)
    → OnSome' IsInner (make_at p size room)
makes_inner p resolved size zero = tt
makes_inner p resolved size (suc room) =
    inner_next p resolved size room (makes_inner p resolved size room)
