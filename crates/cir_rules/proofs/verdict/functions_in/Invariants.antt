use Rattle.std.proofs.Common.{◌≡◌, [], drop}
use Rattle.std.specs.Prelude.{map, ◌==◌}
use Rattle.cir_meaning.specs.Reached.{new_ones}
use Rattle.cir_rules.specs.Shown.{made_of}
use Rattle.cir_rules.specs.Queue.{with_new}
use Rattle.cir_rules.proofs.verdict.functions_in.Given as goal

abbrev pub invariant-loop-call : goal.invariant-loop-call
invariant-loop-call l =
    with_new ◌==◌ l.known.items (map (λ m. m.function) (map made_of (drop l.call-index l.made)))
    ≡ new_ones ◌==◌ [] (map (λ m. m.function) (map made_of l.made))
