use Rattle.std.proofs.Common.{◌≡◌, max, drop, map}
use Rattle.cir_rules.specs.Shown.{made_of}
use Rattle.wit_lower.specs.Pieces as L
use Rattle.wit_lower.specs.Procedures.{params_at}
use Rattle.wit_statements.proofs.slots.most_named.Given as goal

abbrev pub invariant-loop-op : goal.invariant-loop-op
invariant-loop-op l =
    max l.most (L.most_named (params_at (map made_of l.keys)) (drop l.op-index l.code))
    ≡ L.most_named (params_at (map made_of l.keys)) l.code
