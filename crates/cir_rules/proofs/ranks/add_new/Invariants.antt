use Rattle.std.proofs.Common.{◌≡◌, drop}
use Rattle.std.specs.Prelude.{map}
use Rattle.std.specs.List.{list_any}
use Rattle.cir_meaning.specs.Reached.{same_call}
use Rattle.cir_rules.specs.Ranked.{ranked_of}
use Rattle.cir_rules.proofs.ranks.add_new.Given as goal

abbrev pub invariant-loop-other : goal.invariant-loop-other
invariant-loop-other l =
    list_any (same_call (ranked_of l.call)) (map ranked_of (drop l.other-index l.other-items))
    ≡ list_any (same_call (ranked_of l.call)) (map ranked_of l.fn.known.items)
