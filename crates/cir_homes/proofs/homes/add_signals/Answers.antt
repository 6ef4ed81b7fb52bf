use Rattle.std.proofs.Common.{◌∙◌, ◌++◌, ap, arith}
use Rattle.cir_homes.specs.Homed.{declared_homes}
use Rattle.cir_homes.proofs.Housed.{signals_end, signals_next}
use Rattle.cir_homes.proofs.homes.add_signals.Goals as goal

pub loop-n-preserved : goal.loop-n-preserved
loop-n-preserved c =
    signals_next c.loop-n.homes.items c.add_declared.new.homes.items c.args.signals.now
    c.args.ports.now c.loop-n.n c.index-signals-n.result c.index-ports-n.result
    (omega (arith, c.loop-n-test.true, c.min-n-end.ensures)) c.index-signals-n.is
    c.index-ports-n.is
    (c.in_ok-add_declared.ensures
    ∙ ap (λ rows. c.loop-n.homes.items ++ declared_homes c.index-signals-n.result rows)
    c.as_slice.ensures.value)
    ∙ c.loop-n.invariant

pub returns : goal.returns
returns c =
    signals_end c.loop-n.homes.items c.args.signals.now c.args.ports.now c.loop-n.n
    (omega (arith, c.loop-n-test.false, c.min-n-end.ensures))
    ∙ c.loop-n.invariant
