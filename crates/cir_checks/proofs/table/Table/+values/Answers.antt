use Rattle.cir_ast.proofs.Rows.{exprs_are}
use Rattle.cir_checks.proofs.table.Table.+values.Goals as goal

pub value-returns-in-Call : goal.value-returns-in-Call
value-returns-in-Call t c = rw (c.in-Call.is, exprs_are, ← c.as_slice.ensures) c.called.ensures
