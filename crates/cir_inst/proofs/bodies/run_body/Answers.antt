use Rattle.std.proofs.Common.{◌-◌, List, length, map, Ok, refl, subst, arith}
use Rattle.cir_ast.specs.Program.{Template, bare_template}
use Rattle.cir_meaning.specs.Arrays.{Datum}
use Rattle.cir_meaning.specs.Tried.{Tried, next}
use Rattle.cir_meaning.specs.Statement as X
use Rattle.cir_meaning.specs.Bodies.{ended_flow}
use Rattle.cir_arrays.specs.Stopped.{IsRefusal}
use Rattle.cir_arrays.specs.Shown.{datum_of}
use Rattle.cir_frame.specs.Shown.{state_of}
use Rattle.cir_arrays.proofs.Exits.{exits}
use Rattle.cir_create.specs.Makes.{Creates, context_in}
use Rattle.cir_inst.proofs.Openings.{body_begins, body_going, body_returned, exit_creates}
use Rattle.cir_inst.proofs.bodies.run_body.Goals as goal

pub returns-in_err-execute_all : goal.returns-in_err-execute_all
returns-in_err-execute_all g c = λ m qs.
    let k = context_in c.args.body.now m in
    let t : Template = bare_template c.args.template.now in
    let ds : List Datum = map datum_of c.args.arguments.items in
    let same = body_begins k c.args.template.now.body _ c.in_ok-frame.frame c.args.world.now qs ds
    c.more_than.result (t.variables - length c.args.arguments.items) t.signals t.components _
    c.as_slice-statements.ensures c.in_ok-frame.ensures
    (omega (arith, c.more_than.ensures, c.len.ensures)) c.requires.added refl in
    exit_creates qs c.args.world.now c.execute_all.new.world _ c.in_err-execute_all.field-0.0 _
    c.from_residual-in_err-execute_all.ensures.1
    (subst (λ (x : Tried X.Flow). IsRefusal c.in_err-execute_all.field-0.0
    (next x (ended_flow k))) same
    (exits c.in_err-execute_all.field-0.0 _ _ (c.in_err-execute_all.ensures m qs)))

pub returns-in-Going : goal.returns-in-Going
returns-in-Going g c = λ m qs.
    let k = context_in c.args.body.now m in
    let t : Template = bare_template c.args.template.now in
    let ds : List Datum = map datum_of c.args.arguments.items in
    let same = body_begins k c.args.template.now.body _ c.in_ok-frame.frame c.args.world.now qs ds
    c.more_than.result (t.variables - length c.args.arguments.items) t.signals t.components _
    c.as_slice-statements.ensures c.in_ok-frame.ensures
    (omega (arith, c.more_than.ensures, c.len.ensures)) c.requires.added refl in
    subst (λ (x : Tried X.Flow). Creates qs c.args.world.now c.execute_all.new.world
    c.ended.result (next x (ended_flow k))) same
    (body_going k qs c.args.world.now c.execute_all.new.world c.execute_all.new.frame _ _
    (rw c.in-Going.is at (c.in_ok-execute_all.ensures m qs))
    (λ es. c.ended.ensures m.means.call m.means.make
    (state_of c.execute_all.new.frame c.execute_all.new.world es) refl refl))

pub returns-in-Returned : goal.returns-in-Returned
returns-in-Returned g c = λ m qs.
    let k = context_in c.args.body.now m in
    let t : Template = bare_template c.args.template.now in
    let ds : List Datum = map datum_of c.args.arguments.items in
    let same = body_begins k c.args.template.now.body _ c.in_ok-frame.frame c.args.world.now qs ds
    c.more_than.result (t.variables - length c.args.arguments.items) t.signals t.components _
    c.as_slice-statements.ensures c.in_ok-frame.ensures
    (omega (arith, c.more_than.ensures, c.len.ensures)) c.requires.added refl in
    subst (λ (x : Tried X.Flow). Creates qs c.args.world.now c.execute_all.new.world
    (Ok c.new.result) (next x (ended_flow k))) same
    (body_returned k qs c.args.world.now c.execute_all.new.world c.execute_all.new.frame
    c.new.result _ c.in-Returned.field-0 (rw c.in-Returned.is at (c.in_ok-execute_all.ensures m qs))
    c.new.ensures.items)
