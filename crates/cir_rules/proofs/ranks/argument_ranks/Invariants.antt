use Rattle.std.proofs.Common.{◌≡◌, ◌++◌, drop}
use Rattle.std.specs.Prelude.{false, map}
use Rattle.std.specs.List.{list_any}
use Rattle.cir_ast.specs.Tree.{bare}
use Rattle.cir_meaning.specs.Evaluate.{is_literal}
use Rattle.cir_meaning.specs.Limits.{standing}
use Rattle.cir_meaning.specs.Reached.{rank_of}
use Rattle.cir_rules.specs.Ranked.{ranks_in}
use Rattle.cir_rules.proofs.ranks.argument_ranks.Given as goal

abbrev pub invariant-loop-e : goal.invariant-loop-e
invariant-loop-e l =
    let rank = rank_of (ranks_in l.ranks l.texts) in
    record {
      whole : list_any is_literal (map bare l.arguments) ≡ false → l.found.items
          ++ map rank (map bare (drop l.e-index l.arguments)) ≡ map rank (map bare l.arguments);
      plain : list_any is_literal (map bare l.arguments) ≡ false
          → list_any is_literal (map bare (drop l.e-index l.arguments)) ≡ false;
      at_most : l.found.items
          ++ map (λ e. standing (rank e)) (map bare (drop l.e-index l.arguments))
          ≡ map (λ e. standing (rank e)) (map bare l.arguments);
    }
