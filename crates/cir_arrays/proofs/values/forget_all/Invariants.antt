use Rattle.std.proofs.Common.{◌≡◌, ◌++◌, take, drop}
use Rattle.std.specs.Prelude.{map}
use Rattle.cir_values.specs.declared.value.Value.TheVariants.{Opaque}
use Rattle.cir_arrays.proofs.values.forget_all.Given as goal

abbrev pub invariant-loop-v : goal.invariant-loop-v
invariant-loop-v l =
    l.values
    ≡ map (λ v. Opaque) (take l.v-index l.initial.values) ++ drop l.v-index l.initial.values
