use Rattle.std.proofs.Common.{ap, sym, ◌∙◌}
use Rattle.cir_ast.specs.Program.{bare_program}
use Rattle.cir_lift.specs.Made.{body_at}
use Rattle.cir_lift.proofs.Declared.{body_list, body_is, body_none}
use Rattle.cir_lift.proofs.made.body_of.Goals as goal

pub returns-in-Some : goal.returns-in-Some
returns-in-Some c =
    ap body_list c.as_slice.ensures
    ∙ body_is c.args.program.now c.in-Template.t c.in-Some.template.now
    (sym c.in-Some.ensures.value)
    ∙ ap (body_at (bare_program c.args.program.now)) (sym c.in-Template.is)

pub returns-in-None : goal.returns-in-None
returns-in-None c =
    body_none c.args.program.now c.in-Template.t (sym c.in-None.ensures.value)
    ∙ ap (body_at (bare_program c.args.program.now)) (sym c.in-Template.is)
