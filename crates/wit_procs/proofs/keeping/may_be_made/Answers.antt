use Rattle.std.proofs.Common.{map}
use Rattle.cir_ast.specs.Program.{bare_program}
use Rattle.cir_rules.specs.Shown.{made_of}
use Rattle.wit_procs.proofs.MadeKeys.{fine_made}
use Rattle.wit_procs.proofs.keeping.may_be_made.Goals as goal

pub returns-in-Fine : goal.returns-in-Fine
returns-in-Fine c =
    fine_made (bare_program c.args.program.now) (map made_of c.args.keys.now)
    (rw c.in-Fine.is at c.in_ok-judge.ensures).0 c.are_keys_plain.result c.are_keys_plain.ensures
