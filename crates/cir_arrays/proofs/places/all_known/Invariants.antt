use Rattle.std.proofs.Common.{◌≡◌, drop, ◌++◌, ℕ, List}
use Rattle.std.specs.Prelude.{option_map}
use Rattle.cir_meaning.specs.Places.{all_known}
use Rattle.cir_arrays.proofs.places.all_known.Given as goal

abbrev pub invariant-loop-i : goal.invariant-loop-i
invariant-loop-i l =
    all_known l.indices
    ≡ option_map (λ (ks : List ℕ). l.known.items ++ ks) (all_known (drop l.i-index l.indices))
