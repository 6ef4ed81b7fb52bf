use Rattle.std.proofs.Common.{◌≡◌, ◌-◌, ◌*◌, ◌%◌, ◌^◌, ◌<◌}
use Rattle.gold_field.specs.declared.gold.TheConstants.{P}
use Rattle.gold_field.proofs.gold.Gold.pow.Given as goal

abbrev pub invariant-loop-i : goal.invariant-loop-i
invariant-loop-i l = record {
  low : l.rest < 2 ^ (64 - l.i);
  below : l.power < P;
  power : (l.power * l.square ^ l.rest) % P ≡ (l.fn.self ^ l.fn.e) % P;
}
