use Rattle.std.proofs.Common.{◌≡◌, ◌+◌, ◌^◌, length}
use Rattle.gold_ntt.proofs.Twiddles.{AreBelow, AreInLevel}
use Rattle.gold_ntt.proofs.coset.twiddles.Given as goal

abbrev pub invariant-loop-depth : goal.invariant-loop-depth
invariant-loop-depth l = record {
  count : length l.all.items ≡ 2 ^ l.depth;
  below : AreBelow l.log l.depth l.all.items;
}

abbrev pub invariant-loop-block : goal.invariant-loop-block
invariant-loop-block l = record {
  count : length l.all.items ≡ 2 ^ l.depth + l.block;
  below : AreBelow l.log l.depth l.all.items;
  level : AreInLevel l.log l.depth l.block l.all.items;
}
