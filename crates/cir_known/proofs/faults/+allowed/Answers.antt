use Rattle.std.proofs.Common.{ap, sym, ◌∙◌}
use Rattle.std.specs.Prelude.{map}
use Rattle.cir_ast.specs.Tree.{bare_statement, as_statements}
use Rattle.cir_ast.proofs.Rows.{block_is}
use Rattle.cir_meaning.specs.Unknown.{fault_in}
use Rattle.cir_known.proofs.faults.+allowed.Goals as goal

pub allowed_unknown-loop-statement-init : goal.allowed_unknown-loop-statement-init
allowed_unknown-loop-statement-init t c =
    ap (λ ss. fault_in (as_statements (map bare_statement ss))) c.as_slice-statement-items.ensures
    ∙ ap fault_in (sym (block_is _ _ c.args.block.now))
