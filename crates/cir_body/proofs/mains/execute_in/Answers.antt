use Rattle.std.proofs.Common.{◌≡◌, [], map, refl, sym, subst}
use Rattle.cir_ast.specs.declared.program.Meant.{Meant}
use Rattle.cir_ast.specs.Program.{Program, Main, bare_main, bare_program}
use Rattle.cir_meaning.specs.Frame.{Context, State, at}
use Rattle.cir_meaning.specs.Compile.{exec_main, group_size, main_state}
use Rattle.cir_arrays.specs.Stopped.{IsRefusal}
use Rattle.cir_arrays.specs.Shown.{datum_of}
use Rattle.cir_frame.specs.Shown.{state_of, world_of}
use Rattle.cir_evaluate.specs.Within.{context_of}
use Rattle.cir_inst.proofs.Mains.{arguments_stop, limit_stop, main_begun, opening_stop}
use Rattle.cir_steps.proofs.Resolved.{templates}
use Rattle.cir_body.proofs.MainCasts.{begins_listed, executed, exit_executes, main_creates}
use Rattle.cir_body.proofs.MainCasts.{main_stops}
use Rattle.cir_body.proofs.mains.execute_in.Goals as goal

pub returns-in_err-arguments : goal.returns-in_err-arguments
returns-in_err-arguments g c = λ m is.
    let p : Program = bare_program c.args.context.now.program.now in
    let main : Main = bare_main c.args.main.now in
    let k : Context = context_of c.args.context.now m.call m.make in
    let s : State = state_of c.in_ok-frame.frame c.new-world.result [] in
    let first : s ≡ main_state =
    main_begun c.in_ok-frame.frame c.new-world.result c.in_ok-frame.ensures
    c.new-world.ensures.added c.new-world.ensures.world in
    let given = rw (c.as_slice.ensures, c.here-here.ensures) at c.in_err-arguments.ensures in
    exit_executes p main _ _ c.from_residual-in_err-arguments.ensures.1
    (subst (λ (x : Meant). IsRefusal c.in_err-arguments.field-0.0 (exec_main p group_size main x))
    (sym c.in-Template.is) (arguments_stop p main k c.in-Template.t is s first
    c.in_err-arguments.field-0.0 (given.value m [] refl)))

pub returns-in_err-cast : goal.returns-in_err-cast
returns-in_err-cast g c = λ m is.
    let p : Program = bare_program c.args.context.now.program.now in
    let main : Main = bare_main c.args.main.now in
    let k : Context = context_of c.args.context.now m.call m.make in
    let s : State = state_of c.in_ok-frame.frame c.new-world.result [] in
    let first : s ≡ main_state =
    main_begun c.in_ok-frame.frame c.new-world.result c.in_ok-frame.ensures
    c.new-world.ensures.added c.new-world.ensures.world in
    let given = rw (c.as_slice.ensures, c.here-here.ensures) at c.in_ok-arguments.ensures in
    let w1 = c.arguments_in.new.world in
    let ds = map datum_of c.in_ok-arguments.arguments.items in
    let f = c.in_err-cast.field-0.0 in
    exit_executes p main _ _ c.from_residual-in_err-cast.ensures.1
    (subst (λ (x : Meant). IsRefusal f (exec_main p group_size main x)) (sym c.in-Template.is)
    (opening_stop p main k c.in-Template.t is s first ds
    (state_of c.in_ok-frame.frame w1 []) (given.value m [] refl) f
    (main_stops p (templates p c.requires.resolved) main.public_names (at k main.spot)
    c.in-Template.t ds (world_of w1 []) 1 f
    (c.in_err-cast.ensures.casts [] c.requires.resolved
    (begins_listed c.new-world.result w1 c.new-world.ensures.constraints (given.keeps m))))))

pub returns-in_err-settle : goal.returns-in_err-settle
returns-in_err-settle g c = λ m is.
    let p : Program = bare_program c.args.context.now.program.now in
    let main : Main = bare_main c.args.main.now in
    let k : Context = context_of c.args.context.now m.call m.make in
    let s : State = state_of c.in_ok-frame.frame c.new-world.result [] in
    let first : s ≡ main_state =
    main_begun c.in_ok-frame.frame c.new-world.result c.in_ok-frame.ensures
    c.new-world.ensures.added c.new-world.ensures.world in
    let given = rw (c.as_slice.ensures, c.here-here.ensures) at c.in_ok-arguments.ensures in
    let w1 = c.arguments_in.new.world in
    let ds = map datum_of c.in_ok-arguments.arguments.items in
    exit_executes p main _ _ c.from_residual-in_err-settle.ensures.1
    (subst (λ (x : Meant). IsRefusal c.in_err-settle.field-0.0 (exec_main p group_size main x))
    (sym c.in-Template.is) (limit_stop p main k c.in-Template.t c.requires.free is
    c.in_ok-frame.frame c.new-world.result w1 c.cast_main.new.whole.world first ds
    (given.value m [] refl) c.in_ok-cast.ensures.added c.in_ok-cast.cast.signals
    c.in_err-settle.field-0.0
    (main_creates p (templates p c.requires.resolved) main.public_names (at k main.spot)
    c.in-Template.t ds _ c.cast_main.new.whole c.in_ok-cast.cast
    (c.in_ok-cast.ensures.casts [] c.requires.resolved
    (begins_listed c.new-world.result w1 c.new-world.ensures.constraints (given.keeps m))))
    (λ es. c.in_err-settle.ensures.value c.in_ok-frame.frame es)))

pub returns : goal.returns
returns g c = λ m is.
    let p : Program = bare_program c.args.context.now.program.now in
    let main : Main = bare_main c.args.main.now in
    let k : Context = context_of c.args.context.now m.call m.make in
    let s : State = state_of c.in_ok-frame.frame c.new-world.result [] in
    let first : s ≡ main_state =
    main_begun c.in_ok-frame.frame c.new-world.result c.in_ok-frame.ensures
    c.new-world.ensures.added c.new-world.ensures.world in
    let given = rw (c.as_slice.ensures, c.here-here.ensures) at c.in_ok-arguments.ensures in
    let w1 = c.arguments_in.new.world in
    let ds = map datum_of c.in_ok-arguments.arguments.items in
    executed p (templates p c.requires.resolved) main k c.in-Template.t c.requires.free is
    c.in_ok-frame.frame c.new-world.result _ c.cast_main.new.whole first ds
    (given.value m [] refl) c.in_ok-cast.ensures.added refl c.in_ok-cast.cast
    c.settle.new.world
    (c.in_ok-cast.ensures.casts [] c.requires.resolved
    (begins_listed c.new-world.result w1 c.new-world.ensures.constraints (given.keeps m)))
    (λ es. c.in_ok-settle.ensures.value c.in_ok-frame.frame es) c.new-world.ensures.constraints
    (given.keeps m) c.in_ok-settle.ensures.keeps c.in-Template.is
