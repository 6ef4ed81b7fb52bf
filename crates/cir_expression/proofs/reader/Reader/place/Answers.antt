use Rattle.std.proofs.Common.{ap, arith}
use Rattle.cir_ast.specs.Plain.{plain}
use Rattle.cir_expression.specs.Answers.{kinds}
use Rattle.cir_expression.proofs.reader.Reader.place.Goals as goal
use Rattle.cir_expression.proofs.Steps.{exits_reads, stops_next, place_is, placed}

pub returns-in_err-path : goal.returns-in_err-path
returns-in_err-path g c =
    exits_reads _ _ _ _ _ c.from_residual-in_err-path.ensures.1
    (rw (place_is c.args.room (kinds c.args.self.now.rest.now) _ _ (omega arith)
    c.in_ok-name.ensures) (stops_next _ _ _ c.in_err-path.ensures.read))

pub returns : goal.returns
returns g c =
    placed c.args.room (kinds c.args.self.now.rest.now) _ _ c.in_ok-name.name _ c.of.result
    (omega arith) c.in_ok-name.ensures c.in_ok-path.ensures.read.0
    (rw c.tight.ensures at (ap plain c.of.ensures))
