use Rattle.cir_ast.proofs.Rows.{statements_are}
use Rattle.cir_ast.proofs.marked.Block.of.Goals as goal

pub returns : goal.returns
returns g c = statements_are _ _ c.args.statements
