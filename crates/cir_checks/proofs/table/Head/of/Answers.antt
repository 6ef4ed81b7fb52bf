use Rattle.std.proofs.Common.{sym}
use Rattle.cir_ast.specs.Program.{bare_template}
use Rattle.cir_ast.proofs.Rows.{block_is}
use Rattle.cir_checks.proofs.Tables.{head_is}
use Rattle.cir_checks.proofs.table.Head.of.Goals as goal

pub loop-statement-init : goal.loop-statement-init
loop-statement-init c =
    rw (
      c.len.ensures,
      c.new.ensures,
      c.as_slice-statement-items.ensures,
      ← (block_is _ _ c.args.template.now.body),
    ) (sym (head_is (bare_template c.args.template.now)))
