use Rattle.std.proofs.Common.{◌≡◌, ◌++◌, drop}
use Rattle.std.specs.Prelude.{map}
use Rattle.cir_ast.specs.Tree.{bare, as_accessors, as_named, bare_inputs, Named}
use Rattle.cir_lift.proofs.copies.+copying.Given as goal

-- the copies, and what is left to copy behind them, stand for the whole
abbrev pub invariant-exprs-loop-e : goal.invariant-exprs-loop-e
invariant-exprs-loop-e l =
    map bare l.copies.items ++ map bare (drop l.e-index l.es) ≡ map bare l.es

abbrev pub invariant-accessors-loop-a : goal.invariant-accessors-loop-a
invariant-accessors-loop-a l =
    as_accessors (l.copies.items ++ drop l.a-index l.list) ≡ as_accessors l.list

abbrev pub invariant-inputs-loop-i : goal.invariant-inputs-loop-i
invariant-inputs-loop-i l =
    Named (as_named (l.copies.items ++ drop l.i-index l.i-items)) ≡ bare_inputs l.given
