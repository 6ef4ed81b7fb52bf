use Rattle.std.proofs.Common.{ap, refl, rules}
use Rattle.cir_ast.specs.Tree.{bare}
use Rattle.cir_ast.specs.Program.{bare_program}
use Rattle.cir_meaning.specs.Anonymous.{lift}
use Rattle.cir_lift.proofs.Steps.{lifts_at}
use Rattle.cir_lift.proofs.Arms.{anonymous_at, array_lifted, listed_lifted, named_lifted}
use Rattle.cir_lift.proofs.Turns.{exprs_turn, exprs_end, named_turn, named_end}
use Rattle.cir_lift.proofs.values.Lifter.+lifting.Goals as goal

pub expr-returns-in_ok-elements-in-Array : goal.expr-returns-in_ok-elements-in-Array
expr-returns-in_ok-elements-in-Array t c =
    array_lifted c.args.self.now c.exprs.new.self _ _ _ _ c.in-Array.is c.as_slice.ensures
    c.in_ok-elements-in-Array.ensures

pub expr-returns-in_ok-outputs-in-Anonymous : goal.expr-returns-in_ok-outputs-in-Anonymous
expr-returns-in_ok-outputs-in-Anonymous t c =
    let s = c.args.self.now in
    lifts_at bare s c.outputs.new.self c.only.result
    (ap (λ e. lift (bare_program s.program.now) s.first e s.next)
    (anonymous_at _ _ c.args.e.now c.in-Anonymous.is c.deref.ensures))
    (search rules)

pub exprs-loop-e-preserved : goal.exprs-loop-e-preserved
exprs-loop-e-preserved t c =
    exprs_turn c.args.self.now c.loop-e.self c.expr.new.self c.loop-e.lifted.items
    c.push.new.self.items c.args.es.now c.loop-e.e-index c.e-item.result c.in_ok-e.e
    c.loop-e-test.true c.e-item.is c.loop-e.invariant c.in_ok-e.ensures
    c.in_ok-push.ensures.items

pub exprs-returns : goal.exprs-returns
exprs-returns t c =
    exprs_end c.args.self.now c.loop-e.self c.loop-e.lifted.items c.of.result c.args.es.now
    c.loop-e.e-index c.loop-e-test.false c.of.ensures c.loop-e.invariant

pub inputs-returns-in_ok-es-in-Listed : goal.inputs-returns-in_ok-es-in-Listed
inputs-returns-in_ok-es-in-Listed t c =
    listed_lifted c.args.self.now c.exprs.new.self _ _ _ _ c.in-Listed.is c.as_slice.ensures
    c.in_ok-es-in-Listed.ensures

pub inputs-returns-in_ok-is-in-Named : goal.inputs-returns-in_ok-is-in-Named
inputs-returns-in_ok-is-in-Named t c =
    named_lifted c.args.self.now c.named.new.self _ _ _ _ c.in-Named.is c.as_slice-in-Named.ensures
    c.in_ok-is-in-Named.ensures

pub named-loop-i-preserved : goal.named-loop-i-preserved
named-loop-i-preserved t c =
    named_turn c.args.self.now c.loop-i.self c.expr.new.self c.loop-i.lifted.items
    c.push.new.self.items c.args.inputs.now c.loop-i.i-index c.i-item.result
    (record {
      name = c.in_ok-name.name;
      arrow = c.i-item.result.arrow;
      value = c.in_ok-value.value;
    })
    c.loop-i-test.true c.i-item.is c.loop-i.invariant c.in_ok-value.ensures c.in_ok-name.ensures
    refl c.in_ok-push.ensures.items

pub named-returns : goal.named-returns
named-returns t c =
    named_end c.args.self.now c.loop-i.self c.loop-i.lifted.items c.of.result c.args.inputs.now
    c.loop-i.i-index c.loop-i-test.false c.of.ensures c.loop-i.invariant
