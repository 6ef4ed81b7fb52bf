use Rattle.std.specs.Prelude.{map}
use Rattle.cir_rules.specs.Shown.{made_of}
use Rattle.wit_procs.specs.Table.{Grows}
use Rattle.cir_has.proofs.keys.add_keys.Given as goal

-- keys only grow
abbrev pub invariant-loop : goal.invariant-loop
invariant-loop g l =
    Grows (map made_of l.initial.keys.calls.items) (map made_of l.keys.calls.items)
