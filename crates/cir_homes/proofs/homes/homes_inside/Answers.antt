use Rattle.std.proofs.Common.{◌∙◌, ◌++◌, ap, arith, sym}
use Rattle.cir_homes.specs.Homed.{signal_homes}
use Rattle.cir_homes.proofs.Housed.{parts_end, parts_next}
use Rattle.cir_homes.proofs.homes.homes_inside.Goals as goal

pub loop-j-preserved : goal.loop-j-preserved
loop-j-preserved c =
    parts_next c.loop-j.homes.items c.add_signals.new.homes.items
    c.extend_from_slice.new.self.items c.args.parts.now c.args.cells.now c.loop-j.j
    c.index-parts-j.result c.index-cells-j.result
    (omega (arith, c.loop-j-test.true, c.min-j-end.ensures)) c.index-parts-j.is
    c.index-cells-j.is
    (c.in_ok-add_signals.ensures
    ∙ ap (λ ss. c.loop-j.homes.items ++ signal_homes ss c.as_slice.result.now)
    (c.as_slice-signals.ensures.value ∙ ap (λ p. p.signals.items) (sym c.index-parts-j.is))
    ∙ ap (λ ps. c.loop-j.homes.items ++ signal_homes c.index-parts-j.result.signals.items ps)
    c.as_slice.ensures.value)
    (c.in_ok-extend_from_slice.ensures.items
    ∙ ap (λ hs. c.add_signals.new.homes.items ++ hs) c.as_slice-in-loop-j.ensures.value)
    ∙ c.loop-j.invariant

pub returns : goal.returns
returns c =
    parts_end c.loop-j.homes.items c.args.parts.now c.args.cells.now c.loop-j.j
    (omega (arith, c.loop-j-test.false, c.min-j-end.ensures))
    ∙ c.loop-j.invariant
