use Rattle.std.proofs.Common.{◌≡◌, ◌+◌, ◌^◌, ◌<◌, sym, arith}
use Rattle.std.proofs.lemmas.Nat.{pow_pos}
use Rattle.gold_ntt.specs.Reversal.{reversed}
use Rattle.gold_ntt.proofs.ReversalLaws.{reversed-zero, reversed_below}
use Rattle.gold_ntt.proofs.Reversing.{none_moved, one_stays, one_moves}
use Rattle.gold_ntt.proofs.transform.reverse.Goals as goal
use Rattle.gold_ntt.proofs.transform.reverse.Goals.{then-i-j, else-i-j}

pub loop-i-init : goal.loop-i-init
loop-i-init c = record {
  exchanged = none_moved c.args.a.now c.args.log;
  next = sym (reversed-zero c.args.log);
  below = pow_pos c.args.log;
}

pub loop-i-preserved : goal.loop-i-preserved
loop-i-preserved c =
    let is : c.next_reversed-j.result ≡ reversed c.args.log (c.loop-i.i + 1) =
    c.next_reversed-j.ensures c.loop-i.i c.loop-i.invariant.next in
    let low : reversed c.args.log (c.loop-i.i + 1) < 2 ^ c.args.log =
    reversed_below c.args.log (c.loop-i.i + 1) in
    record {
      exchanged = elim c.if-i-j.branch [
        | then-i-j w ↦
            rw w.a-is
            (one_moves c.args.a.now c.loop-i.a c.args.log c.loop-i.i c.loop-i.j w.index-a-j.result
            w.index-a-i.result
            (omega arith) (omega arith) c.loop-i.invariant.next w.if-i-j.true w.index-a-j.is
            w.index-a-i.is
            c.loop-i.invariant.exchanged)
        | else-i-j w ↦
            rw w.a-is
            (one_stays c.args.a.now c.loop-i.a c.args.log c.loop-i.i (omega arith)
            (omega arith) c.loop-i.invariant.exchanged)
      ];
      next = is;
      below = omega arith;
    }
