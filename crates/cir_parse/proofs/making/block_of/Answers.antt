use Rattle.std.proofs.Common.{ap, ◌∙◌}
use Rattle.cir_ast.specs.Tree.{Block}
use Rattle.cir_ast.specs.Plain.{plain_statement}
use Rattle.cir_parse.specs.Answers.{seen_statement}
use Rattle.cir_parse.proofs.Seen.{seen_statements}
use Rattle.cir_parse.proofs.making.block_of.Goals as goal

pub returns : goal.returns
returns g c =
    ap seen_statement c.in_ok-boxed.ensures ∙ ap plain_statement c.block-block.ensures
    ∙ ap (Block c.args.spot)
    (seen_statements c.tight.result c.args.statements.items c.tight.ensures)
