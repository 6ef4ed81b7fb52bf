use Rattle.std.proofs.Common.{◌≡◌, ◌∙◌, Bool, true, false, Some, None, ap, sym, refl}
use Rattle.std.specs.Prelude.{if◌then◌else◌}
use Rattle.cir_meaning.specs.Declaring.{path_of}
use Rattle.cir_arrays.specs.Counted.{counts_of}
use Rattle.cir_frame.specs.Shown.{component_of, signals_of, state_of}
use Rattle.cir_arrays.proofs.Exits.{exits}
use Rattle.cir_evaluate.proofs.Steps.{refusal}
use Rattle.cir_evaluate.specs.Within.{at_spot}
use Rattle.cir_create.specs.Makes.{context_in}
use Rattle.cir_create.proofs.Opened.{is_made, made_at, made_goes, mixed, part_found, part_put}
use Rattle.cir_create.proofs.Opened.{second_write, template_found, too_deep}
use Rattle.cir_assign.proofs.Stepping.{leads_refused}
use Rattle.cir_create.proofs.creating.create_at.Goals as goal

pub returns-in_default-component : goal.returns-in_default-component
returns-in_default-component g c = λ m x qs is.
    absurd (cc (c.in_default-component.ensures (counts_of c.args.world.now.added), is.entry))

pub returns-then-is_some : goal.returns-then-is_some
returns-then-is_some g c = λ m x qs is.
    let k = context_in c.args.body.now m in
    let w = at_spot c.args.body.now.context.now c.args.spot in
    let s = state_of c.args.frame.now c.args.world.now qs in
    let e = component_of c.in-Some-component.entry.now in
    let there = c.in-Some-component.ensures (counts_of c.args.world.now.added) in
    let sized = c.in-Some-component.entry.now.sized in
    let none = part_found s c.args.c x e c.in-Some.place is there sized c.in-Some.is
    c.part.result true c.part.ensures (sym c.is_some.ensures ∙ c.if-is_some.true) in
    refusal _ _ _ (second_write k w x is.place.meant is.place.one none)
    (rw c.here-here.ensures at c.refused-then-is_some.ensures)

pub returns-then-not-body : goal.returns-then-not-body
returns-then-not-body g c = λ m x qs is.
    let k = context_in c.args.body.now m in
    let w = at_spot c.args.body.now.context.now c.args.spot in
    let s = state_of c.args.frame.now c.args.world.now qs in
    let e = component_of c.in-Some-component.entry.now in
    let there = c.in-Some-component.ensures (counts_of c.args.world.now.added) in
    let sized = c.in-Some-component.entry.now.sized in
    let none = part_found s c.args.c x e c.in-Some.place is there sized c.in-Some.is
    c.part.result false c.part.ensures (sym c.is_some.ensures ∙ c.if-is_some.false) in
    let closed : k.make ≡ None =
    m.room ∙ ap (λ (b : Bool). if b then Some m.maker else None) c.if-not-body.true in
    refusal _ _ _ (too_deep k w x is.place.meant is.place.one none closed)
    (rw c.here-here.ensures at c.refused-then-not-body.ensures)

pub returns-then-not-may_be : goal.returns-then-not-may_be
returns-then-not-may_be g c = λ m x qs is.
    let k = context_in c.args.body.now m in
    let w = at_spot c.args.body.now.context.now c.args.spot in
    let s = state_of c.args.frame.now c.args.world.now qs in
    let e = component_of c.in-Some-component.entry.now in
    let there = c.in-Some-component.ensures (counts_of c.args.world.now.added) in
    let sized = c.in-Some-component.entry.now.sized in
    let none = part_found s c.args.c x e c.in-Some.place is there sized c.in-Some.is
    c.part.result false c.part.ensures (sym c.is_some.ensures ∙ c.if-is_some.false) in
    let room : k.make ≡ Some m.maker =
    m.room ∙ ap (λ (b : Bool). if b then Some m.maker else None) c.if-not-body.false in
    let fits = template_found s c.args.c x e c.in-Some.place is there sized c.in-Some.is
    c.may_be.result (c.may_be.ensures (counts_of c.args.world.now.added)) in
    refusal _ _ _ (mixed k w x is.place.meant m.maker is.place.one none room
    (fits ∙ c.if-not-may_be.true)) (rw c.here-here.ensures at c.refused-then-not-may_be.ensures)

pub returns-in_err-signals : goal.returns-in_err-signals
returns-in_err-signals g c = λ m x qs is.
    let k = context_in c.args.body.now m in
    let w = at_spot c.args.body.now.context.now c.args.spot in
    let s = state_of c.args.frame.now c.args.world.now qs in
    let e = component_of c.in-Some-component.entry.now in
    let there = c.in-Some-component.ensures (counts_of c.args.world.now.added) in
    let sized = c.in-Some-component.entry.now.sized in
    let none = part_found s c.args.c x e c.in-Some.place is there sized c.in-Some.is
    c.part.result false c.part.ensures (sym c.is_some.ensures ∙ c.if-is_some.false) in
    let room : k.make ≡ Some m.maker =
    m.room ∙ ap (λ (b : Bool). if b then Some m.maker else None) c.if-not-body.false in
    let fits = template_found s c.args.c x e c.in-Some.place is there sized c.in-Some.is
    c.may_be.result (c.may_be.ensures (counts_of c.args.world.now.added)) in
    let spelled = rw (c.as_slice.ensures, c.as_slice-2.ensures.value) at c.in_ok-path.ensures in
    let maker = made_at s c.args.c x e c.in-Some.place is there sized c.in-Some.is k w m.maker
    c.as_slice-3.result.now (c.as_slice-3.ensures ∙ spelled) in
    leads_refused qs c.args.world.now c.args.frame.now c.make.new.arg6
    c.from_residual-in_err-signals.result _ _ c.from_residual-in_err-signals.ensures.1
    (refusal _ _ _ (is_made k w x is.place.meant m.maker is.place.one none room
    (fits ∙ c.if-not-may_be.false))
    (exits _ (m.maker w x.template x.arguments (path_of k x.entry x.indices) x.state.world) _
    (refusal _ _ _ maker (m.creates _ _ _ _ _ _ _ qs c.in_err-signals.ensures))))

pub returns : goal.returns
returns g c = λ m x qs is.
    let k = context_in c.args.body.now m in
    let w = at_spot c.args.body.now.context.now c.args.spot in
    let s = state_of c.args.frame.now c.args.world.now qs in
    let e = component_of c.in-Some-component.entry.now in
    let there = c.in-Some-component.ensures (counts_of c.args.world.now.added) in
    let sized = c.in-Some-component.entry.now.sized in
    let none = part_found s c.args.c x e c.in-Some.place is there sized c.in-Some.is
    c.part.result false c.part.ensures (sym c.is_some.ensures ∙ c.if-is_some.false) in
    let room : k.make ≡ Some m.maker =
    m.room ∙ ap (λ (b : Bool). if b then Some m.maker else None) c.if-not-body.false in
    let fits = template_found s c.args.c x e c.in-Some.place is there sized c.in-Some.is
    c.may_be.result (c.may_be.ensures (counts_of c.args.world.now.added)) in
    let spelled = rw (c.as_slice.ensures, c.as_slice-2.ensures.value) at c.in_ok-path.ensures in
    let maker = made_at s c.args.c x e c.in-Some.place is there sized c.in-Some.is k w m.maker
    c.as_slice-3.result.now (c.as_slice-3.ensures ∙ spelled) in
    let created = m.creates _ _ _ _ _ _ _ qs c.in_ok-signals.ensures in (
      created.0,
      made_goes k w x is.place.meant c.in-Some.place m.maker c.args.frame.now
          c.add_part.new.frame c.args.world.now c.make.new.arg6 qs created.0
          (signals_of c.in_ok-signals.signals.items) _
          (is_made k w x is.place.meant m.maker is.place.one none room
          (fits ∙ c.if-not-may_be.false)) is.state (maker ∙ created.1)
          (c.opened-part.ensures ∙ rw is.template refl)
          (part_put s c.args.c x e c.in-Some.place is there sized c.in-Some.is)
          (m.added _ _ _ _ _ _ _ c.in_ok-signals.ensures)
          (rw is.component (c.in_ok-add_part.ensures (counts_of c.args.world.now.added) x.entry
          is.entry)),
      created.2,
    )
