use Rattle.std.proofs.Common.{arith, ap, List}
use Rattle.cir_meaning.specs.Arrays.{Datum}
use Rattle.cir_frame.specs.Shown.{frame_of}
use Rattle.cir_assign.proofs.LongerSums.{none_at, set_again}
use Rattle.cir_assign.proofs.growing.taken.Goals as goal

pub returns-then-n-len-clause-rest : goal.returns-then-n-len-clause-rest
returns-then-n-len-clause-rest c = λ k d.
    ap (λ (vs : List Datum). record (frame_of c.args.frame.now k) { variables = vs })
    (set_again c.args.frame.now.variables.items c.args.n c.replace-old.new.dest d)

pub returns-clause-number : goal.returns-clause-number
returns-clause-number c = λ k.
    none_at c.args.frame.now.variables.items c.args.n
    (omega (arith, c.if-n-len.false, c.len.ensures))
