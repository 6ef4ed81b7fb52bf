use Rattle.std.proofs.Common.{◌≡◌, drop}
use Rattle.std.specs.Prelude.{map, not, ◌==◌}
use Rattle.std.specs.List.{list_any}
use Rattle.cir_ast.specs.Tree.{bare}
use Rattle.cir_meaning.specs.Reached.{rank_of}
use Rattle.cir_rules.specs.Ranked.{ranks_in}
use Rattle.cir_rules.proofs.ranks.returns_array.Given as goal

abbrev pub invariant-loop-e : goal.invariant-loop-e
invariant-loop-e l =
    list_any (λ e. not (rank_of (ranks_in l.ranks l.texts) e == 0))
    (map (λ e. bare e.now) (drop l.e-index l.e-items))
    ≡ list_any (λ e. not (rank_of (ranks_in l.ranks l.texts) e == 0))
    (map (λ e. bare e.now) l.texts.returned.items)
