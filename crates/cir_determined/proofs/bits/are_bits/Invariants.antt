use Rattle.std.proofs.Common.{◌≡◌, ℕ, ◌*◌, ◌^◌, ◌%◌, ◌<◌}
use Rattle.gold_field.specs.declared.gold.TheConstants.{P}
use Rattle.cir_determined.specs.Bits.{ArePowersBy}
use Rattle.cir_determined.proofs.bits.are_bits.Given as goal

abbrev pub invariant-loop-exponent : goal.invariant-loop-exponent
invariant-loop-exponent l =
    (l.factor ≡ (l.initial.factor * 2 ^ l.exponent) % P)
    × ((j : ℕ) → j < l.exponent → ArePowersBy ((l.initial.factor * 2 ^ j) % P) l.coefs → ⊥)
