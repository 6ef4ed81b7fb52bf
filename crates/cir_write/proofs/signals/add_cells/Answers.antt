use Rattle.std.proofs.Common.{◌<◌, arith, length, refl}
use Rattle.std.proofs.lemmas.Option.{slice_get_read}
use Rattle.cir_write.proofs.Wires.{wires_put}
use Rattle.cir_write.proofs.signals.add_cells.Goals as goal

pub returns-then-n-len-clause-wires : goal.returns-then-n-len-clause-wires
returns-then-n-len-clause-wires c = λ own same.
    let rows = c.lengthen.new.signals.items in
    let h : c.args.n < length rows = omega (arith, c.if-n-len.true, c.len.ensures) in
    wires_put rows c.push.new.self c.index_mut.result.now c.args.n c.args.first c.args.count
    (slice_get_read rows (length rows) c.args.n c.index_mut.result.now refl h
    c.index_mut.ensures.value) c.in_ok-push.ensures.items own (c.in_ok-lengthen.ensures own same)
