use Rattle.cir_ast.proofs.Rows.{exprs_are}
use Rattle.cir_checks.proofs.table.Table.+created.Goals as goal

pub returns-in-Call : goal.returns-in-Call
returns-in-Call t c = rw (c.in-Call.is, exprs_are, ← c.as_slice.ensures) c.called.ensures
