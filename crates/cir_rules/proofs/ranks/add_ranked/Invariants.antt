use Rattle.std.proofs.Common.{◌≡◌, drop}
use Rattle.std.specs.Prelude.{map}
use Rattle.cir_meaning.specs.Reached.{same_call}
use Rattle.cir_texts.specs.Shown.{called_of}
use Rattle.cir_rules.specs.Queue.{with_new}
use Rattle.cir_rules.specs.Ranked.{ranked_of, ranks_in, followed}
use Rattle.cir_rules.proofs.ranks.add_ranked.Given as goal

abbrev pub invariant-loop-inner : goal.invariant-loop-inner
invariant-loop-inner l =
    with_new same_call (map ranked_of l.known.items)
    (followed (ranks_in l.ranks l.texts) (map called_of (drop l.inner-index l.calls)))
    ≡ with_new same_call (map ranked_of l.fn.known.items)
    (followed (ranks_in l.ranks l.texts) (map called_of l.calls))
