use Rattle.std.proofs.Common.{map}
use Rattle.cir_ast.specs.Program.{bare_program}
use Rattle.cir_rules.specs.Shown.{made_of}
use Rattle.wit_procs.proofs.Adding.{AddedTo}
use Rattle.wit_procs.proofs.procs.add_procedures.Given as goal

abbrev pub invariant-loop-at : goal.invariant-loop-at
invariant-loop-at l =
    AddedTo (bare_program l.program) (map made_of l.keys.calls.items) l.initial.procs.items
    l.procs.items l.at
