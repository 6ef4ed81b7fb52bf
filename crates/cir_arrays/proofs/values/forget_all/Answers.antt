use Rattle.std.proofs.Common.{arith}
use Rattle.std.proofs.lemmas.List.Edits.{map_over_more}
use Rattle.cir_values.specs.declared.value.Value.TheVariants.{Opaque}
use Rattle.cir_arrays.proofs.Writes.{forgot}
use Rattle.cir_arrays.proofs.values.forget_all.Goals as goal

pub loop-v-preserved : goal.loop-v-preserved
loop-v-preserved c =
    map_over_more (λ v. Opaque) c.args.values.now c.loop-v.values c.loop-v.v-index c.v-item.result
    (omega arith) c.loop-v.invariant c.v-item.is

pub returns : goal.returns
returns c =
    forgot c.args.values.now c.loop-v.values c.loop-v.v-index (omega arith) c.loop-v.invariant
