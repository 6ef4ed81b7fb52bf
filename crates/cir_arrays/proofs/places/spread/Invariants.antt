use Rattle.std.proofs.Common.{◌≡◌, ℕ, take}
use Rattle.std.specs.Prelude.{flat_map}
use Rattle.cir_meaning.specs.Places.{numbers_from}
use Rattle.cir_arrays.proofs.places.spread.Given as goal

abbrev pub invariant-loop-first : goal.invariant-loop-first
invariant-loop-first l =
    l.places.items ≡ flat_map (λ (f : ℕ). numbers_from f l.count) (take l.first-index l.firsts)
