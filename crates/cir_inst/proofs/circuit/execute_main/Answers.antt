use Rattle.std.proofs.Common.{◌≡◌, [], map, Ok, refl, sym, subst}
use Rattle.cir_ast.specs.declared.program.Meant.{Meant}
use Rattle.cir_ast.specs.Program.{Program, Main, bare_main, bare_program}
use Rattle.cir_meaning.specs.Frame.{Context, State}
use Rattle.cir_meaning.specs.Compile.{exec_main, group_size, main_state}
use Rattle.cir_arrays.specs.Stopped.{IsRefusal}
use Rattle.cir_arrays.specs.Shown.{datum_of}
use Rattle.cir_frame.specs.Shown.{state_of}
use Rattle.cir_evaluate.specs.Within.{context_of}
use Rattle.cir_inst.specs.Made.{Makes}
use Rattle.cir_inst.proofs.Mains.{exit_makes, main_begun, arguments_stop, opening_stop, limit_stop}
use Rattle.cir_inst.proofs.Mains.{world_made}
use Rattle.cir_inst.proofs.circuit.execute_main.Goals as goal

pub returns-in_err-arguments : goal.returns-in_err-arguments
returns-in_err-arguments g c = λ m is.
    let p : Program = bare_program c.args.context.now.program.now in
    let main : Main = bare_main c.args.main.now in
    let k : Context = context_of c.args.context.now m.call m.make in
    let s : State = state_of c.in_ok-frame.frame c.new-world.result [] in
    let first : s ≡ main_state =
    main_begun c.in_ok-frame.frame c.new-world.result c.in_ok-frame.ensures
    c.new-world.ensures.added c.new-world.ensures.world in
    let given = rw (c.as_slice.ensures, c.here-here.ensures) at c.in_err-arguments.ensures in
    exit_makes _ _ _ c.from_residual-in_err-arguments.ensures.1
    (subst (λ (x : Meant). IsRefusal c.in_err-arguments.field-0.0 (exec_main p group_size main x))
    (sym c.in-Template.is) (arguments_stop p main k c.in-Template.t is s first
    c.in_err-arguments.field-0.0 (given.value m [] refl)))

pub returns-in_err-_signals : goal.returns-in_err-_signals
returns-in_err-_signals g c = λ m is.
    let p : Program = bare_program c.args.context.now.program.now in
    let main : Main = bare_main c.args.main.now in
    let k : Context = context_of c.args.context.now m.call m.make in
    let s : State = state_of c.in_ok-frame.frame c.new-world.result [] in
    let first : s ≡ main_state =
    main_begun c.in_ok-frame.frame c.new-world.result c.in_ok-frame.ensures
    c.new-world.ensures.added c.new-world.ensures.world in
    let given = rw (c.as_slice.ensures, c.here-here.ensures) at c.in_ok-arguments.ensures in
    exit_makes _ _ _ c.from_residual-in_err-_signals.ensures.1
    (subst (λ (x : Meant). IsRefusal c.in_err-_signals.field-0.0 (exec_main p group_size main x))
    (sym c.in-Template.is) (opening_stop p main k c.in-Template.t is s first
    (map datum_of c.in_ok-arguments.arguments.items)
    (state_of c.in_ok-frame.frame c.arguments_in.new.world []) (given.value m [] refl)
    c.in_err-_signals.field-0.0 (c.in_err-_signals.ensures.creates [])))

pub returns-in_err-settle : goal.returns-in_err-settle
returns-in_err-settle g c = λ m is.
    let p : Program = bare_program c.args.context.now.program.now in
    let main : Main = bare_main c.args.main.now in
    let k : Context = context_of c.args.context.now m.call m.make in
    let s : State = state_of c.in_ok-frame.frame c.new-world.result [] in
    let first : s ≡ main_state =
    main_begun c.in_ok-frame.frame c.new-world.result c.in_ok-frame.ensures
    c.new-world.ensures.added c.new-world.ensures.world in
    let given = rw (c.as_slice.ensures, c.here-here.ensures) at c.in_ok-arguments.ensures in
    exit_makes _ _ _ c.from_residual-in_err-settle.ensures.1
    (subst (λ (x : Meant). IsRefusal c.in_err-settle.field-0.0 (exec_main p group_size main x))
    (sym c.in-Template.is) (limit_stop p main k c.in-Template.t c.requires.free is
    c.in_ok-frame.frame c.new-world.result c.arguments_in.new.world c.open_main.new.world first
    (map datum_of c.in_ok-arguments.arguments.items) (given.value m [] refl)
    c.in_ok-_signals.ensures.added c.in_ok-_signals._signals c.in_err-settle.field-0.0
    (c.in_ok-_signals.ensures.creates [])
    (λ es. c.in_err-settle.ensures.value c.in_ok-frame.frame es)))

pub returns : goal.returns
returns g c = λ m is.
    let p : Program = bare_program c.args.context.now.program.now in
    let main : Main = bare_main c.args.main.now in
    let k : Context = context_of c.args.context.now m.call m.make in
    let s : State = state_of c.in_ok-frame.frame c.new-world.result [] in
    let first : s ≡ main_state =
    main_begun c.in_ok-frame.frame c.new-world.result c.in_ok-frame.ensures
    c.new-world.ensures.added c.new-world.ensures.world in
    let given = rw (c.as_slice.ensures, c.here-here.ensures) at c.in_ok-arguments.ensures in
    subst (λ (x : Meant). Makes (Ok c.settle.new.world) (exec_main p group_size main x))
    (sym c.in-Template.is) (world_made p main k c.in-Template.t c.requires.free is
    c.in_ok-frame.frame c.new-world.result c.arguments_in.new.world c.open_main.new.world first
    (map datum_of c.in_ok-arguments.arguments.items) (given.value m [] refl)
    c.in_ok-_signals.ensures.added c.settle.new.world c.in_ok-_signals._signals
    (c.in_ok-_signals.ensures.creates [])
    (λ es. c.in_ok-settle.ensures.value c.in_ok-frame.frame es) c.new-world.ensures.constraints
    (given.keeps m) c.in_ok-settle.ensures.keeps)
