use Rattle.std.proofs.Common.{arith}
use Rattle.cir_meaning.specs.Compile.{group_size}
use Rattle.cir_frame.specs.Shown.{sizes_of}
use Rattle.cir_inst.proofs.Numbering.{final_behind}
use Rattle.cir_inst.proofs.table.final_number.Goals as goal

pub returns : goal.returns
unfolding group_size
returns c =
    let parts = final_behind 1048576 (sizes_of c.args.sizes.now) c.args.signal
    c.if-signal-eq0.false in
    omega (arith, parts, c.before_group.ensures.count)
