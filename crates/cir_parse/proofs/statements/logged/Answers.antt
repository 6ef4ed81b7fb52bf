use Rattle.std.proofs.Common.{refl}
use Rattle.cir_ast.specs.Tree.{bare_argument}
use Rattle.cir_ast.specs.Plain.{plain_argument}
use Rattle.cir_simple_statement.proofs.Seen.{seen_map}
use Rattle.cir_parse.proofs.statements.logged.Goals as goal

pub returns : goal.returns
returns g c =
    rw (
      c.in_ok-arguments.ensures,
      c.in_ok-behind.ensures,
      c.in_ok-stated.ensures.0,
      c.in_ok-stated.ensures.1,
      seen_map plain_argument bare_argument c.tight.result c.in_ok-arguments.arguments.items
          c.tight.ensures,
    ) refl
