use Rattle.std.proofs.Common.{sym}
use Rattle.cir_meaning.proofs.PartWrites.{get_other}
use Rattle.cir_write.proofs.variables.find.Goals as goal

pub returns-then-n-len : goal.returns-then-n-len
returns-then-n-len c = λ m ne.
    get_other c.args.variables.now.items c.args.n m _ (λ e. ne (sym e))
