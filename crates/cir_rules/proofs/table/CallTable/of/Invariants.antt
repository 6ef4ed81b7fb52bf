use Rattle.std.proofs.Common.{◌≡◌, [], drop}
use Rattle.std.specs.Prelude.{map}
use Rattle.cir_meaning.specs.Functions.{same_made}
use Rattle.cir_meaning.specs.Reached.{new_ones}
use Rattle.cir_rules.specs.Shown.{made_of}
use Rattle.cir_rules.specs.Queue.{with_new}
use Rattle.cir_rules.proofs.table.CallTable.of.Given as goal

abbrev pub invariant-loop-call : goal.invariant-loop-call
invariant-loop-call l =
    with_new same_made (map made_of l.table.calls.items) (map made_of (drop l.call-index l.made))
    ≡ new_ones same_made [] (map made_of l.made)
