use Rattle.std.proofs.Common.{◌-◌, map}
use Rattle.std.specs.Prelude.{◌^◌}
use Rattle.cir_ast.specs.Program.{bare_program}
use Rattle.cir_rules.specs.Shown.{made_of}
use Rattle.wit_procs.proofs.KeyLists.{Visited}
use Rattle.wit_procs.proofs.keys.add_reached.Given as goal

abbrev pub invariant-visits : goal.invariant-visits
invariant-visits l =
    Visited (bare_program l.program) l.from l.at (map made_of l.initial.keys.calls.items)
    (map made_of l.keys.calls.items)

abbrev pub decreases-visits : goal.decreases-visits
decreases-visits l = 2 ^ 64 - l.at
