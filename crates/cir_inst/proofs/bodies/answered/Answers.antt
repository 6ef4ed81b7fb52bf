use Rattle.std.proofs.Common.{◌-◌, [], length, map, Ok, Err, sym, ap, ◌∙◌, arith}
use Rattle.cir_meaning.specs.Arrays.{Datum}
use Rattle.cir_arrays.specs.Counted.{counts_of}
use Rattle.cir_arrays.specs.Shown.{datum_of}
use Rattle.cir_frame.specs.Shown.{world_of}
use Rattle.cir_arrays.proofs.Exits.{exit_gives}
use Rattle.cir_create.specs.Makes.{context_in}
use Rattle.cir_inst.proofs.Openings.{body_answers}
use Rattle.cir_inst.proofs.bodies.answered.Goals as goal

pub returns-in_err-execute_all : goal.returns-in_err-execute_all
returns-in_err-execute_all g c = λ m qs.
    let ran = body_answers (context_in c.args.body.now m) c.args.function.now.body _
    c.in_ok-frame.frame c.execute_all.new.frame c.emptied-inside.result c.execute_all.new.world
    (map datum_of c.args.arguments.items) c.more_than.result
    (c.args.function.now.variables - length c.args.arguments.items) (world_of c.args.world.now qs)
    (Err c.in_err-execute_all.field-0.0) (c.in_err-execute_all.ensures m [])
    c.as_slice-statements.ensures c.in_ok-frame.ensures
    (omega (arith, c.more_than.ensures, c.len.ensures))
    c.emptied-inside.ensures.added (c.emptied-inside.ensures.world qs) in
    exit_gives _ _ _ _ c.from_residual-in_err-execute_all.ensures.1 ran

pub returns-in-Going : goal.returns-in-Going
returns-in-Going g c = λ m qs.
    let ran = body_answers (context_in c.args.body.now m) c.args.function.now.body _
    c.in_ok-frame.frame c.execute_all.new.frame c.emptied-inside.result c.execute_all.new.world
    (map datum_of c.args.arguments.items) c.more_than.result
    (c.args.function.now.variables - length c.args.arguments.items) (world_of c.args.world.now qs)
    (Ok c.in_ok-execute_all.field-0) (c.in_ok-execute_all.ensures m [])
    c.as_slice-statements.ensures c.in_ok-frame.ensures
    (omega (arith, c.more_than.ensures, c.len.ensures))
    c.emptied-inside.ensures.added (c.emptied-inside.ensures.world qs) in
    rw c.in-Going.is at ran
    ∙ ap (λ (d : Datum). Ok (
      d,
      record (world_of c.args.world.now qs) {
        counts = counts_of c.execute_all.new.world.counts;
      },
    )) (sym c.zero.ensures)

pub returns : goal.returns
returns g c = λ m qs.
    let ran = body_answers (context_in c.args.body.now m) c.args.function.now.body _
    c.in_ok-frame.frame c.execute_all.new.frame c.emptied-inside.result c.execute_all.new.world
    (map datum_of c.args.arguments.items) c.more_than.result
    (c.args.function.now.variables - length c.args.arguments.items) (world_of c.args.world.now qs)
    (Ok c.in_ok-execute_all.field-0) (c.in_ok-execute_all.ensures m [])
    c.as_slice-statements.ensures c.in_ok-frame.ensures
    (omega (arith, c.more_than.ensures, c.len.ensures))
    c.emptied-inside.ensures.added (c.emptied-inside.ensures.world qs) in
    rw c.in-Returned.is at ran
