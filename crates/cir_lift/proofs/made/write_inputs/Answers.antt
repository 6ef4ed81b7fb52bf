use Rattle.std.proofs.Common.{◌∙◌, ◌++◌, ap, arith}
use Rattle.std.specs.Prelude.{map}
use Rattle.std.proofs.lemmas.List.{nil_from_length}
use Rattle.cir_ast.specs.Tree.{bare_simple}
use Rattle.cir_ast.specs.Program.{bare_program}
use Rattle.cir_lift.proofs.Writes.{listed_first, listed_last, named_first}
use Rattle.cir_lift.proofs.made.write_inputs.Goals as goal

pub loop-e-init : goal.loop-e-init
loop-e-init c =
    ap (λ w. map bare_simple c.args.before.now.items ++ w)
    (listed_first (bare_program c.args.program.now) c.args.own.index c.args.own.number c.args.meant
    c.args.inputs c.in-Listed.es c.into_iter-e-iterator.result.rest.items
    c.into_iter-names.result.rest.items c.in-Listed.is
    (c.into_iter-e-iterator.ensures.into_iter_gives.0 ∙ c.into_vec-e-items.ensures)
    (c.into_iter-names.ensures.rest ∙ c.in_ok-names-in-Listed.ensures))

pub returns-in-None : goal.returns-in-None
returns-in-None c =
    listed_last c.args.own.index c.args.own.number c.loop-e.names.rest.items
    c.loop-e.e-iterator.rest.items _ _
    (nil_from_length _
    (omega (arith, c.in-None.ensures.steps.0, c.loop-e.e-iterator.rest.ok)))
    c.loop-e.invariant

pub loop-i-init : goal.loop-i-init
loop-i-init c =
    ap (λ w. map bare_simple c.args.before.now.items ++ w)
    (named_first (bare_program c.args.program.now) c.args.own.index c.args.own.number c.args.meant
    c.args.inputs c.in-Named.is' c.into_iter-i-iterator.result.rest.items c.in-Named.is
    (c.into_iter-i-iterator.ensures.into_iter_gives.0 ∙ c.into_vec-i-items.ensures))
