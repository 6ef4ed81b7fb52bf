use Rattle.std.proofs.Common.{◌≡◌, ◌∙◌, Bool, true, false, Some, None, ap, sym, refl, ◌++◌, ℕ}
use Rattle.std.proofs.Common.{length, map, subst}
use Rattle.std.specs.Prelude.{if◌then◌else◌}
use Rattle.cir_arrays.specs.Counted.{counts_of}
use Rattle.cir_frame.specs.Shown.{component_of, signals_of, state_of}
use Rattle.cir_evaluate.proofs.Steps.{refusal}
use Rattle.cir_evaluate.specs.Within.{at_spot}
use Rattle.cir_make.specs.Means.{emitting_in}
use Rattle.cir_create.proofs.Opened.{is_made, made_goes, mixed, part_found, part_put, second_write}
use Rattle.cir_create.proofs.Opened.{template_found, too_deep}
use Rattle.cir_meaning.specs.Frame.{Frame}
use Rattle.cir_arrays.specs.Shown.{datum_of}
use Rattle.cir_steps.specs.Making.{freed_at, with_cast}
use Rattle.cir_make.specs.Shows.{IsKept, keys_of}
use Rattle.cir_write.proofs.Casts.{as_many, kept_cast, was_cast}
use Rattle.cir_write.proofs.Creations.{arguments_at, cast_refuses, create_stops, emits_cast}
use Rattle.cir_write.proofs.Creations.{made_both}
use Rattle.cir_make.proofs.Going.{emits_refused}
use Rattle.cir_write.proofs.creating.create_at.Goals as goal

pub returns-in_default-component : goal.returns-in_default-component
returns-in_default-component g c = λ m x qs z steps is listed kept.
    absurd (cc (c.in_default-component.ensures (counts_of c.args.whole.now.world.added), is.entry))

pub returns-then-is_some : goal.returns-then-is_some
returns-then-is_some g c = λ m x qs z steps is listed kept.
    let k = (emitting_in c.args.body.now m).context in
    let w = at_spot c.args.body.now.context.now c.args.spot in
    let s = state_of c.args.inside.now.frame c.args.whole.now.world qs in
    let e = component_of c.in-Some-component.entry.now in
    let there = c.in-Some-component.ensures (counts_of c.args.whole.now.world.added) in
    let sized = c.in-Some-component.entry.now.sized in
    let none = part_found s c.args.c x e c.in-Some.place is there sized c.in-Some.is
    c.part.result true c.part.ensures (sym c.is_some.ensures ∙ c.if-is_some.true) in
    create_stops _ steps k w x _ (refusal _ _ _ (second_write k w x is.place.meant is.place.one
    none)
    (rw c.here-here.ensures at c.refused-then-is_some.ensures))

pub returns-then-not-body : goal.returns-then-not-body
returns-then-not-body g c = λ m x qs z steps is listed kept.
    let k = (emitting_in c.args.body.now m).context in
    let w = at_spot c.args.body.now.context.now c.args.spot in
    let s = state_of c.args.inside.now.frame c.args.whole.now.world qs in
    let e = component_of c.in-Some-component.entry.now in
    let there = c.in-Some-component.ensures (counts_of c.args.whole.now.world.added) in
    let sized = c.in-Some-component.entry.now.sized in
    let none = part_found s c.args.c x e c.in-Some.place is there sized c.in-Some.is
    c.part.result false c.part.ensures (sym c.is_some.ensures ∙ c.if-is_some.false) in
    let closed : k.make ≡ None =
    m.room ∙ ap (λ (b : Bool). if b then Some m.maker else None) c.if-not-body.true in
    create_stops _ steps k w x _ (refusal _ _ _ (too_deep k w x is.place.meant is.place.one none
    closed)
    (rw c.here-here.ensures at c.refused-then-not-body.ensures))

pub returns-then-not-may_be : goal.returns-then-not-may_be
returns-then-not-may_be g c = λ m x qs z steps is listed kept.
    let k = (emitting_in c.args.body.now m).context in
    let w = at_spot c.args.body.now.context.now c.args.spot in
    let s = state_of c.args.inside.now.frame c.args.whole.now.world qs in
    let e = component_of c.in-Some-component.entry.now in
    let there = c.in-Some-component.ensures (counts_of c.args.whole.now.world.added) in
    let sized = c.in-Some-component.entry.now.sized in
    let none = part_found s c.args.c x e c.in-Some.place is there sized c.in-Some.is
    c.part.result false c.part.ensures (sym c.is_some.ensures ∙ c.if-is_some.false) in
    let room : k.make ≡ Some m.maker =
    m.room ∙ ap (λ (b : Bool). if b then Some m.maker else None) c.if-not-body.false in
    let fits = template_found s c.args.c x e c.in-Some.place is there sized c.in-Some.is
    c.may_be.result (c.may_be.ensures (counts_of c.args.whole.now.world.added)) in
    create_stops _ steps k w x _ (refusal _ _ _ (mixed k w x is.place.meant m.maker is.place.one
    none room
    (fits ∙ c.if-not-may_be.true)) (rw c.here-here.ensures at c.refused-then-not-may_be.ensures))

pub returns-in_err-cast : goal.returns-in_err-cast
returns-in_err-cast g c = λ m x qs z steps is listed kept.
    let q = emitting_in c.args.body.now m in
    let k = q.context in
    let w = at_spot c.args.body.now.context.now c.args.spot in
    let f = c.args.inside.now.frame in
    let w0 = c.args.whole.now.world in
    let s = state_of f w0 qs in
    let e = component_of c.in-Some-component.entry.now in
    let there = c.in-Some-component.ensures (counts_of w0.added) in
    let sized = c.in-Some-component.entry.now.sized in
    let none = part_found s c.args.c x e c.in-Some.place is there sized c.in-Some.is
    c.part.result false c.part.ensures (sym c.is_some.ensures ∙ c.if-is_some.false) in
    let room : k.make ≡ Some m.maker =
    m.room ∙ ap (λ (b : Bool). if b then Some m.maker else None) c.if-not-body.false in
    let fits = template_found s c.args.c x e c.in-Some.place is there sized c.in-Some.is
    c.may_be.result (c.may_be.ensures (counts_of w0.added)) in
    let spelled = rw (c.as_slice-name.ensures, c.as_slice.ensures.value) at c.in_ok-path.ensures in
    let path = c.as_slice-2.result.now in
    let full = c.as_slice-2.ensures ∙ spelled in
    let making_it = is_made k w x is.place.meant m.maker is.place.one none room
    (fits ∙ c.if-not-may_be.false) in
    let made = arguments_at s c.args.c x e k path (λ t ds p world. m.maker w t ds p world) is there
    full in
    let cast = arguments_at s c.args.c x e k path (λ t ds p world. m.cast w t ds p world z.next) is
    there full
    ∙ ap (λ (i : ℕ). m.cast w c.args.c.template (map datum_of c.args.c.arguments.items) path s.world
    i) kept.next in
    let refuses = m.casts _ _ _ _ _ _ _ qs c.in_err-cast.ensures listed in
    emits_refused m.first _ _ c.from_residual-in_err-cast.result _ _
    c.from_residual-in_err-cast.ensures.1
    (cast_refuses q w x z steps is.place.meant m.maker _ making_it is.place.one
    (rw (sym made, sym cast) at refuses))

pub returns : goal.returns
returns g c = λ m x qs z steps is listed kept.
    let q = emitting_in c.args.body.now m in
    let k = q.context in
    let w = at_spot c.args.body.now.context.now c.args.spot in
    let f = c.args.inside.now.frame in
    let w0 = c.args.whole.now.world in
    let s = state_of f w0 qs in
    let e = component_of c.in-Some-component.entry.now in
    let there = c.in-Some-component.ensures (counts_of w0.added) in
    let sized = c.in-Some-component.entry.now.sized in
    let none = part_found s c.args.c x e c.in-Some.place is there sized c.in-Some.is
    c.part.result false c.part.ensures (sym c.is_some.ensures ∙ c.if-is_some.false) in
    let room : k.make ≡ Some m.maker =
    m.room ∙ ap (λ (b : Bool). if b then Some m.maker else None) c.if-not-body.false in
    let fits = template_found s c.args.c x e c.in-Some.place is there sized c.in-Some.is
    c.may_be.result (c.may_be.ensures (counts_of w0.added)) in
    let spelled = rw (c.as_slice-name.ensures, c.as_slice.ensures.value) at c.in_ok-path.ensures in
    let path = c.as_slice-2.result.now in
    let full = c.as_slice-2.ensures ∙ spelled in
    let making_it = is_made k w x is.place.meant m.maker is.place.one none room
    (fits ∙ c.if-not-may_be.false) in
    let h = c.add_part.new.frame in
    let w1 = c.make.new.arg6 in
    let casts = m.casts _ _ _ _ _ _ _ qs c.in_ok-cast.ensures listed in
    let es = casts.0 in
    let o = casts.1 in
    let both = made_both _ _ _ o casts.2 in
    let made = arguments_at s c.args.c x e k path (λ t ds p world. m.maker w t ds p world) is there
    full ∙ both.0 in
    let cast = arguments_at s c.args.c x e k path (λ t ds p world. m.cast w t ds p world z.next) is
    there full
    ∙ ap (λ (i : ℕ). m.cast w c.args.c.template (map datum_of c.args.c.arguments.items) path s.world
    i) kept.next ∙ both.1 in
    let added = m.added _ _ _ _ _ _ _ c.in_ok-cast.ensures in
    let frame = c.in_ok-add_part.ensures (counts_of w0.added) x.entry is.entry in
    let u = state_of h w1.world es in
    let went = made_goes k w x is.place.meant c.in-Some.place m.maker f h w0 w1.world qs es
    (signals_of c.in_ok-cast.cast.signals.items) _ making_it is.state made
    (c.opened-part.ensures ∙ rw is.template refl)
    (part_put s c.args.c x e c.in-Some.place is there sized c.in-Some.is) added
    (rw is.component frame) in
    let y = with_cast k w x o u z in
    let cells = c.args.inside.now.cells in
    let many = as_many _ _ _ _ kept.waiting in
    let here = kept_cast m.first f h cells c.push.new.self c.args.whole.now w1 c.in_ok-cast.cast o
    k w x u z steps _ (ap (λ (z : Frame). z.variables) frame) (ap (λ (z : Frame). z.parts) frame)
    c.in_ok-push.ensures.items casts.4 kept in
    let free = c.in_ok-free.ensures m.first w1.made y steps refl
    (was_cast (keys_of w1.made) cells c.push.new.self c.in_ok-cast.cast o k w x u z c.in_ok-j.j
    c.in_ok-push.ensures.items (c.in_ok-j.ensures.ok ∙ ap length c.as_slice-3.ensures.value) many
    casts.4.steps) here in (
      record {
        state = y;
        steps = steps ++ freed_at (Some (length z.bodies)) false y;
      },
      emits_cast q w x z steps u is.place.meant o went is.place.one cast,
      record {
        state = refl;
        are_listed = casts.3;
        kept = subst (λ (n : ℕ). IsKept m.first h c.free.new.cells w1.made y
            (steps ++ freed_at (Some n) false y))
            (c.in_ok-j.ensures.ok ∙ ap length c.as_slice-3.ensures.value ∙ sym many) free;
      },
    )
