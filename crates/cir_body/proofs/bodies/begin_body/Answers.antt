use Rattle.std.proofs.Common.{◌∙◌, ◌-◌, length, map, ap, refl, sym, arith}
use Rattle.cir_ast.specs.Program.{Template, bare_template}
use Rattle.cir_arrays.specs.Shown.{datum_of}
use Rattle.cir_frame.specs.Shown.{world_of}
use Rattle.cir_inst.proofs.Openings.{begun_is}
use Rattle.cir_body.proofs.Casting.{shows_begun}
use Rattle.cir_body.proofs.bodies.begin_body.Goals as goal

pub returns : goal.returns
returns c = λ first w qs s is keys added listed.
    let t : Template = bare_template c.args.template.now in
    let ds = c.args.arguments.items in
    shows_begun first c.in_ok-frame.frame w qs s _ refl
    (is ∙ sym (begun_is c.in_ok-frame.frame w.world qs (map datum_of ds) c.more_than.result
    (t.variables - length ds) t.signals t.components (world_of w.world qs)
    c.in_ok-frame.ensures (omega (arith, c.more_than.ensures, c.len.ensures)) added refl))
    keys listed (ap (λ z. z.frame.parts) is) c.in_ok-variables.ensures.none c.new.ensures.items
    c.new-2.ensures.items c.new-3.ensures.items
