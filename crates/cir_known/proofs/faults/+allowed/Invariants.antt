use Rattle.std.proofs.Common.{◌≡◌, drop}
use Rattle.std.specs.Prelude.{map}
use Rattle.cir_ast.specs.Tree.{bare_statement, bare_block, as_statements}
use Rattle.cir_meaning.specs.Unknown.{fault_in}
use Rattle.cir_known.proofs.faults.+allowed.Given as goal

-- the first fault of what is left is the first of all
abbrev pub invariant-allowed_unknown-loop-statement : goal.invariant-allowed_unknown-loop-statement
invariant-allowed_unknown-loop-statement l =
    fault_in (as_statements (map bare_statement (drop l.statement-index l.statement-items)))
    ≡ fault_in (bare_block l.block)
