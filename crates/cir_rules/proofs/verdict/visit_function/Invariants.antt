use Rattle.std.proofs.Common.{◌≡◌, drop}
use Rattle.std.specs.Prelude.{map, ◌==◌}
use Rattle.cir_texts.specs.Shown.{called_of}
use Rattle.cir_rules.specs.Queue.{with_new}
use Rattle.cir_rules.proofs.verdict.visit_function.Given as goal

abbrev pub invariant-loop-call : goal.invariant-loop-call
invariant-loop-call l =
    with_new ◌==◌ l.known.items
    (map (λ c. c.function) (map called_of (drop l.call-index l.call-items)))
    ≡ with_new ◌==◌ l.fn.known.items (map (λ c. c.function) (map called_of l.call-items))
