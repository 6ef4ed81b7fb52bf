use Rattle.std.proofs.Common.{◌<◌, ℕ}
use Rattle.std.specs.Int.{w64, to_le_bytes}
use Rattle.gold_field.specs.declared.gold.TheConstants.{P}
use Rattle.iden_files.proofs.Append.{wrote_more, holds_more}
use Rattle.iden_files.proofs.write.put_values.Goals as goal

pub loop-v-preserved : goal.loop-v-preserved
loop-v-preserved c =
    let inv = c.loop-v.invariant in
    record {
      bytes = wrote_more (to_le_bytes w64) c.args.values.now c.loop-v.v-index c.v-item.result
          c.args.out.now.items c.loop-v.out.items c.put_u64.new.out.items c.loop-v-test.true
          c.v-item.is inv.bytes (rw c.get.ensures.value at c.in_ok-put_u64.ensures);
      below = holds_more (λ (v : ℕ). v < P) c.args.values.now c.loop-v.v-index c.v-item.result
          c.loop-v-test.true c.v-item.is inv.below (rw c.get.ensures.value at c.get.ensures.below);
    }
