use Rattle.std.proofs.Common.{◌≡◌, drop}
use Rattle.std.specs.Prelude.{◌==◌}
use Rattle.std.specs.List.{list_any}
use Rattle.cir_rules.proofs.verdict.add_function.Given as goal

abbrev pub invariant-loop-other : goal.invariant-loop-other
invariant-loop-other l =
    list_any (λ n. l.function == n) (drop l.other-index l.other-items)
    ≡ list_any (λ n. l.function == n) l.fn.known.items
