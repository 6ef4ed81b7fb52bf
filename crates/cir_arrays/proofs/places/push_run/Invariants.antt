use Rattle.std.proofs.Common.{◌≡◌, ℕ, ◌+◌, ◌*◌, ◌++◌}
use Rattle.std.specs.Prelude.{map}
use Rattle.cir_meaning.specs.Places.{numbers_from}
use Rattle.cir_arrays.proofs.places.push_run.Given as goal

abbrev pub invariant-loop-i : goal.invariant-loop-i
invariant-loop-i l =
    l.places.items ≡ l.initial.places.items ++ map (λ (i : ℕ). l.first + i * l.step)
    (numbers_from 0 l.i)
