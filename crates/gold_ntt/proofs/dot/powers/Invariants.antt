use Rattle.std.proofs.Common.{◌≡◌, ℕ, ◌%◌, ◌^◌, ◌<◌, length, get_or}
use Rattle.gold_field.specs.declared.gold.TheConstants.{P}
use Rattle.gold_ntt.proofs.dot.powers.Given as goal

abbrev pub invariant-loop-k : goal.invariant-loop-k
invariant-loop-k l = record {
  count : length l.all.items ≡ l.k;
  each : (i : ℕ) → i < l.k → get_or l.all.items i 0 ≡ l.x ^ i % P;
  power : l.power ≡ l.x ^ l.k % P;
}
