use Rattle.std.proofs.Common.{◌≡◌, drop}
use Rattle.std.specs.Prelude.{nat_le}
use Rattle.std.specs.List.{list_all}
use Rattle.cir_rules.proofs.ranks.are_small.Given as goal

abbrev pub invariant-loop-rank : goal.invariant-loop-rank
invariant-loop-rank l =
    list_all (λ r. nat_le r 300) (drop l.rank-index l.ranks)
    ≡ list_all (λ r. nat_le r 300) l.ranks
