use Rattle.cir_homes.proofs.Filled.{row_goes, row_begins}
use Rattle.cir_homes.proofs.filling.put.Goals as goal

pub loop-k-init : goal.loop-k-init
loop-k-init c = row_begins c.args.row.now c.args.first c.args.found.now

pub loop-k-preserved : goal.loop-k-preserved
loop-k-preserved c =
    row_goes c.args.row.now c.loop-k.k c.args.first c.args.found.now c.loop-k.found
    c.put_one.new.found c.loop-k.invariant c.in_ok-put_one.ensures
