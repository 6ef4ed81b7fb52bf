use Rattle.std.proofs.Common.{◌≡◌, ◌*◌, take}
use Rattle.std.specs.Prelude.{filter, nat_lt}
use Rattle.cir_meaning.specs.Compile.{group_size}
use Rattle.cir_assign.proofs.terms.numbered_part.Given as goal

abbrev pub invariant-loop-t : goal.invariant-loop-t
invariant-loop-t l =
    l.terms.items ≡ filter (λ t. nat_lt t.signal (4 * group_size)) (take l.t-index l.t-items)
