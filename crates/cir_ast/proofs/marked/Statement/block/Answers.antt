use Rattle.std.proofs.Common.{ap}
use Rattle.cir_ast.specs.Tree.{Block}
use Rattle.cir_ast.proofs.Rows.{statements_are}
use Rattle.cir_ast.proofs.marked.Statement.block.Goals as goal

pub returns : goal.returns
returns g c = ap (Block c.args.spot) (statements_are _ _ c.args.statements)
