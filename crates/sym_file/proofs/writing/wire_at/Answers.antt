use Rattle.std.proofs.Common.{sym, arith}
use Rattle.sym_file.proofs.Table.{wire_found, wire_missing, split_behind, split_same}
use Rattle.sym_file.proofs.writing.wire_at.Goals as goal

pub returns-then-wires-next-clause-wire : goal.returns-then-wires-next-clause-wire
returns-then-wires-next-clause-wire c =
    sym (wire_found c.args.wires.now c.args.next c.args.signal c.if-next-wires.true
    c.if-wires-next.true c.requires.split)

pub returns-then-wires-next-clause-behind : goal.returns-then-wires-next-clause-behind
returns-then-wires-next-clause-behind c =
    split_behind c.args.wires.now c.args.next c.args.signal c.requires.rise c.if-next-wires.true
    c.if-wires-next.true c.requires.split

pub returns-else-wires-next-clause-wire : goal.returns-else-wires-next-clause-wire
returns-else-wires-next-clause-wire c =
    sym (wire_missing c.args.wires.now c.args.next c.args.signal c.requires.rise c.requires.split
    (λ l. c.if-wires-next.false))

pub returns-else-wires-next-clause-behind : goal.returns-else-wires-next-clause-behind
returns-else-wires-next-clause-behind c =
    split_same c.args.wires.now c.args.next c.args.signal c.requires.rise c.requires.split
    (λ l. c.if-wires-next.false)

pub returns-else-next-wires-clause-wire : goal.returns-else-next-wires-clause-wire
returns-else-next-wires-clause-wire c =
    sym (wire_missing c.args.wires.now c.args.next c.args.signal c.requires.rise c.requires.split
    (λ l. absurd (omega (arith, l, c.if-next-wires.false))))

pub returns-else-next-wires-clause-behind : goal.returns-else-next-wires-clause-behind
returns-else-next-wires-clause-behind c =
    split_same c.args.wires.now c.args.next c.args.signal c.requires.rise c.requires.split
    (λ l. absurd (omega (arith, l, c.if-next-wires.false)))
