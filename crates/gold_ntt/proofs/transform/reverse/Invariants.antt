use Rattle.std.proofs.Common.{◌≡◌, ◌^◌, ◌<◌}
use Rattle.gold_ntt.specs.Reversal.{reversed}
use Rattle.gold_ntt.proofs.Reversing.{IsReversed}
use Rattle.gold_ntt.proofs.transform.reverse.Given as goal

abbrev pub invariant-loop-i : goal.invariant-loop-i
invariant-loop-i l = record {
  exchanged : IsReversed l.fn.a l.a l.log l.i;
  next : l.j ≡ reversed l.log l.i;
  below : l.j < 2 ^ l.log;
}
