use Rattle.circom_named.proofs.Wired.{all_first, more_first, none_first}
use Rattle.circom_named.proofs.naming.first_lines.Goals as goal

pub loop-place-init : goal.loop-place-init
loop-place-init c =
    none_first c.args.lines.now c.args.wires c.in_ok-first.first.items
    c.in_ok-first.ensures

pub loop-place-preserved : goal.loop-place-preserved
loop-place-preserved c =
    more_first c.args.lines.now c.loop-place.place c.args.wires c.index-lines-place.result
    c.loop-place.first.items c.note.new.first.items c.loop-place-test.true
    c.loop-place.invariant c.note.ensures.count c.note.ensures.noted

pub returns-clause-first : goal.returns-clause-first
returns-clause-first c =
    all_first c.args.lines.now c.loop-place.place c.args.wires c.loop-place.first.items
    c.loop-place.invariant c.loop-place-test.false
