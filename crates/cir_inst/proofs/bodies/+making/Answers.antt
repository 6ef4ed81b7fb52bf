use Rattle.std.proofs.Common.{◌≡◌, ℕ, ◌-◌, List, map, Some, Ok, Err, refl, sym, ap, subst, ◌∙◌}
use Rattle.std.proofs.Common.{slice_get}
use Rattle.std.specs.Prelude.{option_map}
use Rattle.std.proofs.lemmas.List.{length-map}
use Rattle.std.proofs.lemmas.Option.{slice_get-map}
use Rattle.cir_ast.specs.Program.{Program, bare_template, bare_program}
use Rattle.cir_meaning.specs.Tried.{Tried}
use Rattle.cir_meaning.specs.Arrays.{Datum}
use Rattle.cir_meaning.specs.Frame as F
use Rattle.cir_meaning.specs.Frame.{World}
use Rattle.cir_meaning.specs.Bodies.{call_at, make_at, most_open, numbered_others}
use Rattle.cir_meaning.specs.Compile.{group_size}
use Rattle.cir_arrays.specs.Stopped.{where_of}
use Rattle.cir_arrays.specs.Shown.{datum_of}
use Rattle.cir_frame.specs.Shown.{group_by, world_of}
use Rattle.cir_evaluate.specs.Within.{context_of}
use Rattle.cir_create.specs.Makes.{Creates}
use Rattle.cir_inst.specs.declared.bodies.Opening.{Opening}
use Rattle.cir_inst.specs.Opened.{template_made}
use Rattle.cir_inst.proofs.Openings.{all_open, made_found, template_ran, exit_creates}
use Rattle.cir_inst.proofs.bodies.+making.Goals as goal

pub make_component-returns-clause-creates : goal.make_component-returns-clause-creates
make_component-returns-clause-creates t c = λ qs.
    let p : Program = bare_program c.args.opening.program.now in
    let there : slice_get p.templates c.args.t ≡ Some (bare_template c.in-Some.template.now) =
    slice_get-map bare_template c.args.opening.program.now.templates c.args.t
    ∙ ap (option_map bare_template) (sym c.in-Some.ensures.value) in
    let ds : List Datum = map datum_of c.args.arguments.items in
    let w : World = world_of c.args.world.now qs in
    subst (λ (m : Tried (F.Signals × World)). Creates qs c.args.world.now c.run_template.new.world
    c.run_template.result m)
    (sym (made_found p c.args.opening.room c.args.t (where_of c.args.site)
    (bare_template c.in-Some.template.now) ds c.args.path.now w c.if-opening-eq0.false there))
    (subst (λ (o : Opening). Creates qs c.args.world.now c.run_template.new.world
    c.run_template.result (template_made (bare_program o.program.now)
    (call_at (bare_program o.program.now) group_size most_open)
    (make_at (bare_program o.program.now) group_size o.room) numbered_others
    (bare_template c.in-Some.template.now) ds c.args.path.now w)) c.inside-inside.ensures
    (c.run_template.ensures.creates qs))

pub run_template-returns-in_err-signals-clause-creates :
    goal.run_template-returns-in_err-signals-clause-creates
run_template-returns-in_err-signals-clause-creates t c = λ qs.
    exit_creates qs c.args.world.now c.run_body.new.world _ c.in_err-signals.field-0.0 _
    c.from_residual-in_err-signals.ensures.1
    (template_ran _ _ _ (bare_program c.args.opening.program.now) c.args.opening.room 256 _
    c.in_ok-instance.instance (group_by c.args.grouping.now) (bare_template c.args.template.now)
    (map datum_of c.args.arguments.items)
    c.args.path.now qs c.args.world.now c.new_instance.new.world c.run_body.new.world
    c.run_body.new.world (Err c.in_err-signals.field-0.0)
    c.in_err-signals.ensures
    (λ call make. ap (λ x. context_of x call make) c.context_in-context.ensures)
    c.in_ok-instance.ensures.number refl all_open
    (λ spot f ds old new r h. record {
      gives = rw (c.context_in-context.ensures, c.inside-functions.ensures) at h.2.0;
      added = h.2.1.0;
      keeps = h.2.1.1;
    })
    (λ spot t ds path old new r qs h. h.2.0 qs) (λ spot t ds path old new r h. h.2.1)
    (ap (λ (n : ℕ). c.args.template.now.variables - n)
    (sym (length-map c.args.arguments.items datum_of))) (c.in_ok-instance.ensures.world qs)
    c.new_instance.ensures.constraints refl (λ es. refl))

pub run_template-returns-clause-creates : goal.run_template-returns-clause-creates
run_template-returns-clause-creates t c = λ qs.
    template_ran _ _ _ (bare_program c.args.opening.program.now) c.args.opening.room 256 _
    c.in_ok-instance.instance (group_by c.args.grouping.now) (bare_template c.args.template.now)
    (map datum_of c.args.arguments.items)
    c.args.path.now qs c.args.world.now c.new_instance.new.world c.run_body.new.world
    (record (c.run_body.new.world) { added = c.args.world.now.added }) (Ok c.in_ok-signals.signals)
    c.in_ok-signals.ensures
    (λ call make. ap (λ x. context_of x call make) c.context_in-context.ensures)
    c.in_ok-instance.ensures.number refl all_open
    (λ spot f ds old new r h. record {
      gives = rw (c.context_in-context.ensures, c.inside-functions.ensures) at h.2.0;
      added = h.2.1.0;
      keeps = h.2.1.1;
    })
    (λ spot t ds path old new r qs h. h.2.0 qs) (λ spot t ds path old new r h. h.2.1)
    (ap (λ (n : ℕ). c.args.template.now.variables - n)
    (sym (length-map c.args.arguments.items datum_of))) (c.in_ok-instance.ensures.world qs)
    c.new_instance.ensures.constraints refl (λ es. refl)
