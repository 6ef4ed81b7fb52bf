use Rattle.std.proofs.Common.{◌≡◌, ℕ, ◌-◌, List, map, Some, None, Ok, refl, sym, ap, subst, ◌∙◌}
use Rattle.std.proofs.Common.{slice_get}
use Rattle.std.specs.Prelude.{option_map}
use Rattle.std.proofs.lemmas.List.{length-map}
use Rattle.std.proofs.lemmas.Option.{slice_get-map}
use Rattle.cir_ast.specs.Program.{Program, Function, bare_function, bare_program}
use Rattle.cir_meaning.specs.Tried.{Tried}
use Rattle.cir_meaning.specs.Arrays.{Datum}
use Rattle.cir_meaning.specs.Frame.{World}
use Rattle.cir_meaning.specs.Bodies.{call_at}
use Rattle.cir_meaning.specs.Compile.{group_size}
use Rattle.cir_arrays.specs.Counted.{counts_of}
use Rattle.cir_arrays.specs.Stopped.{IsRefusal, where_of}
use Rattle.cir_arrays.specs.Shown.{datum_of}
use Rattle.cir_frame.specs.Shown.{world_of}
use Rattle.cir_arrays.proofs.Exits.{exit_gives}
use Rattle.cir_evaluate.specs.Within.{context_of}
use Rattle.cir_inst.specs.declared.bodies.Opening.{Opening}
use Rattle.cir_inst.specs.Opened.{function_answer}
use Rattle.cir_inst.proofs.Openings.{call_found, function_ran}
use Rattle.cir_inst.proofs.bodies.+calling.Goals as goal

pub call_function-returns-in_err-answer-clause-gives :
    goal.call_function-returns-in_err-answer-clause-gives
call_function-returns-in_err-answer-clause-gives t c = λ qs.
    let p : Program = bare_program c.args.opening.program.now in
    let f : Function = bare_function c.in-Some.function.now in
    let ds : List Datum = map datum_of c.args.arguments.items in
    let w : World = world_of c.args.world.now qs in
    let there : slice_get p.functions c.args.f ≡ Some f =
    slice_get-map bare_function c.args.opening.program.now.functions c.args.f
    ∙ ap (option_map bare_function) (sym c.in-Some.ensures.value) in
    let stops = subst (λ (o : Opening). IsRefusal c.in_err-answer.field-0.0
    (function_answer (bare_program o.program.now) (call_at (bare_program o.program.now)
    group_size o.room) (where_of c.args.site) f ds w)) c.inside-inside.ensures
    (c.in_err-answer.ensures qs) in
    exit_gives _ _ _ _ c.from_residual.ensures.1
    (subst (λ (m : Tried (Datum × World)). IsRefusal c.in_err-answer.field-0.0 m)
    (sym (call_found p c.args.opening.room c.args.f (where_of c.args.site) f ds w
    c.if-opening-eq0.false there)) stops)

pub call_function-returns-clause-gives : goal.call_function-returns-clause-gives
call_function-returns-clause-gives t c = λ qs.
    let p : Program = bare_program c.args.opening.program.now in
    let f : Function = bare_function c.in-Some.function.now in
    let ds : List Datum = map datum_of c.args.arguments.items in
    let w : World = world_of c.args.world.now qs in
    let there : slice_get p.functions c.args.f ≡ Some f =
    slice_get-map bare_function c.args.opening.program.now.functions c.args.f
    ∙ ap (option_map bare_function) (sym c.in-Some.ensures.value) in
    call_found p c.args.opening.room c.args.f (where_of c.args.site) f ds w
    c.if-opening-eq0.false there
    ∙ subst (λ (o : Opening). function_answer (bare_program o.program.now)
    (call_at (bare_program o.program.now) group_size o.room) (where_of c.args.site) f ds w
    ≡ Ok (datum_of c.in_ok-answer.answer, record w { counts = counts_of c.in_ok-answer.counts }))
    c.inside-inside.ensures (c.in_ok-answer.ensures qs)

pub run_function-returns : goal.run_function-returns
run_function-returns t c = λ qs.
    function_ran _ _ _ (bare_program c.args.opening.program.now) c.args.opening.room _
    (where_of c.args.site) (bare_function c.args.function.now) (map datum_of c.args.arguments.items)
    (world_of c.args.world.now qs) c.answered.result (λ m. c.answered.ensures m qs)
    (λ call. ap (λ x. context_of x call None) c.context_in-context.ensures) refl
    (λ spot f ds old new r h. record {
      gives = rw c.context_in-context.ensures at h.2.0;
      added = h.2.1.0;
      keeps = h.2.1.1;
    })
    (λ spot t ds path old new r h. h.2)
    (ap (λ (n : ℕ). c.args.function.now.variables - n)
    (sym (length-map c.args.arguments.items datum_of)))
