use Rattle.std.proofs.Common.{◌≡◌, [], drop}
use Rattle.std.specs.Prelude.{map}
use Rattle.cir_meaning.specs.Reached.{same_call, new_ones}
use Rattle.cir_rules.specs.Shown.{made_of}
use Rattle.cir_rules.specs.Queue.{with_new}
use Rattle.cir_rules.specs.Ranked.{ranked_of, ranked_made}
use Rattle.cir_rules.proofs.ranks.ranked.Given as goal

abbrev pub invariant-loop-call : goal.invariant-loop-call
invariant-loop-call l =
    with_new same_call (map ranked_of l.known.items)
    (map ranked_made (map made_of (drop l.call-index l.made)))
    ≡ new_ones same_call [] (map ranked_made (map made_of l.made))
