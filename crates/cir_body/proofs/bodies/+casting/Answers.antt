use Rattle.std.proofs.Common.{◌≡◌, ℕ, ◌-◌, ◌^◌, List, map, Some, Ok, Err, refl, sym, ap, subst, ◌∙◌}
use Rattle.std.proofs.Common.{slice_get}
use Rattle.std.specs.Prelude.{option_map}
use Rattle.std.proofs.lemmas.List.{length-map}
use Rattle.std.proofs.lemmas.Option.{slice_get-map}
use Rattle.gold_field.specs.declared.form.Constraint.{Constraint}
use Rattle.cir_ast.specs.Program.{Program, bare_template, bare_program}
use Rattle.cir_meaning.specs.Tried.{Tried}
use Rattle.cir_meaning.specs.Arrays.{Datum}
use Rattle.cir_meaning.specs.Frame as F
use Rattle.cir_meaning.specs.Frame.{World}
use Rattle.cir_meaning.specs.Bodies.{call_at, make_at, most_open, numbered_others}
use Rattle.cir_meaning.specs.Compile.{group_size}
use Rattle.cir_meaning.specs.Scoped.{IsResolved}
use Rattle.cir_meaning.specs.Source.{IsSource}
use Rattle.cir_arrays.specs.Stopped.{where_of}
use Rattle.cir_arrays.specs.Shown.{datum_of}
use Rattle.cir_frame.specs.Shown.{group_by, world_of}
use Rattle.cir_evaluate.specs.Within.{context_of}
use Rattle.cir_inst.specs.declared.bodies.Opening.{Opening}
use Rattle.cir_inst.proofs.Openings.{all_open}
use Rattle.cir_steps.specs.Making as S
use Rattle.cir_steps.specs.Statements.{cast_at}
use Rattle.cir_steps.proofs.Resolved.{templates}
use Rattle.cir_body.specs.Bodies.{template_cast}
use Rattle.cir_make.specs.Means.{Casts}
use Rattle.cir_body.proofs.Casting.{cast_found, casts_refused, template_casts}
use Rattle.cir_body.proofs.bodies.+casting.Goals as goal

pub cast_component-returns-clause-casts : goal.cast_component-returns-clause-casts
cast_component-returns-clause-casts t c = λ qs resolved listed.
    let p : Program = bare_program c.args.opening.program.now in
    let there : slice_get p.templates c.args.t ≡ Some (bare_template c.in-Some.template.now) =
    slice_get-map bare_template c.args.opening.program.now.templates c.args.t
    ∙ ap (option_map bare_template) (sym c.in-Some.ensures.value) in
    let ds : List Datum = map datum_of c.args.arguments.items in
    let old = c.args.whole.now in
    let w : World = world_of old.world qs in
    let new = c.cast_template.new.whole in
    let r = c.cast_template.result in
    subst (λ (m : Tried ((F.Signals × World) × S.Cast)). Casts qs old new r m)
    (sym (cast_found p c.args.opening.room c.args.t (where_of c.args.site)
    (bare_template c.in-Some.template.now) ds c.args.path.now w old.made.next
    c.if-opening-eq0.false there))
    (subst (λ (o : Opening). IsResolved (bare_program o.program.now)
    → slice_get (bare_program o.program.now).templates c.args.t
    ≡ Some (bare_template c.in-Some.template.now)
    → Casts qs old new r (template_cast (bare_program o.program.now)
    (call_at (bare_program o.program.now) group_size most_open)
    (make_at (bare_program o.program.now) group_size o.room) numbered_others
    (cast_at (bare_program o.program.now) group_size o.room)
    (bare_template c.in-Some.template.now) ds c.args.path.now w old.made.next))
    c.inside-inside.ensures
    (λ a b. c.cast_template.ensures.casts qs c.args.t a b listed) resolved there)

pub cast_template-returns-in_err-cast-clause-casts :
    goal.cast_template-returns-in_err-cast-clause-casts
cast_template-returns-in_err-cast-clause-casts t c = λ qs n resolved there listed.
    let p : Program = bare_program c.args.opening.program.now in
    let plain = templates p resolved in
    let old = c.args.whole.now in
    let start = c.new_instance.new.world in
    let new = c.cast_body.new.whole in
    casts_refused qs old new _ c.in_err-cast.field-0.0 _ c.from_residual-in_err-cast.ensures.1
    (template_casts _ _ _ p c.args.opening.room 256 _ c.in_ok-instance.instance
    (group_by c.args.grouping.now) (bare_template c.args.template.now)
    (map datum_of c.args.arguments.items) c.args.path.now qs old.made new.made old.world start
    new.world new.world (Err c.in_err-cast.field-0.0) plain (plain n _ there).0
    (λ m s is first follows. c.in_err-cast.ensures m qs s is first
    (subst (λ (ks : List Constraint). IsSource (2 ^ 32) qs ks)
    (sym c.new_instance.ensures.constraints) listed) follows)
    (λ call make. ap (λ x. context_of x call make) c.context_in-context.ensures)
    c.in_ok-instance.ensures.number refl all_open
    (λ spot f ds old new r h. record {
      gives = rw (c.context_in-context.ensures, c.inside-functions.ensures) at h.2.0;
      added = h.2.1.0;
      keeps = h.2.1.1;
    })
    (λ spot t ds path old new r qs h here. h.2.0 qs resolved here)
    (λ spot t ds path old new r h. h.2.1)
    (ap (λ (n : ℕ). c.args.template.now.variables - n)
    (sym (length-map c.args.arguments.items datum_of))) (c.in_ok-instance.ensures.world qs) refl
    (λ es. refl))

pub cast_template-returns-clause-casts : goal.cast_template-returns-clause-casts
cast_template-returns-clause-casts t c = λ qs n resolved there listed.
    let p : Program = bare_program c.args.opening.program.now in
    let plain = templates p resolved in
    let old = c.args.whole.now in
    let start = c.new_instance.new.world in
    let new = c.cast_body.new.whole in
    template_casts _ _ _ p c.args.opening.room 256 _ c.in_ok-instance.instance
    (group_by c.args.grouping.now) (bare_template c.args.template.now)
    (map datum_of c.args.arguments.items) c.args.path.now qs old.made new.made old.world start
    new.world (record (new.world) { added = old.world.added }) (Ok c.in_ok-cast.cast) plain
    (plain n _ there).0
    (λ m s is first follows. c.in_ok-cast.ensures m qs s is first
    (subst (λ (ks : List Constraint). IsSource (2 ^ 32) qs ks)
    (sym c.new_instance.ensures.constraints) listed) follows)
    (λ call make. ap (λ x. context_of x call make) c.context_in-context.ensures)
    c.in_ok-instance.ensures.number refl all_open
    (λ spot f ds old new r h. record {
      gives = rw (c.context_in-context.ensures, c.inside-functions.ensures) at h.2.0;
      added = h.2.1.0;
      keeps = h.2.1.1;
    })
    (λ spot t ds path old new r qs h here. h.2.0 qs resolved here)
    (λ spot t ds path old new r h. h.2.1)
    (ap (λ (n : ℕ). c.args.template.now.variables - n)
    (sym (length-map c.args.arguments.items datum_of))) (c.in_ok-instance.ensures.world qs) refl
    (λ es. refl)
