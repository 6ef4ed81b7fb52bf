use Rattle.cir_inst.proofs.Compiling.{first_main}
use Rattle.cir_inst.proofs.circuit.main_of.Goals as goal

pub returns : goal.returns
returns c =
    first_main c.args.program.now c.as_slice.result.now c.main-item.result c.as_slice.ensures
    c.in-len1-up.len_at_least c.main-item.is
