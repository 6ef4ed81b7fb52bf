use Rattle.std.proofs.Common.{arith}
use Rattle.cir_resolve.proofs.InTurn.{changed_all}
use Rattle.cir_resolve.proofs.Named.{exprs_named, accessors_named, inputs_named}
use Rattle.cir_resolve.proofs.scope.Scopes.+naming.Goals as goal

pub name_all-returns-clause-each : goal.name_all-returns-clause-each
name_all-returns-clause-each t c =
    rw (c.of.ensures, ← c.take_out-all.ensures)
    (changed_all _ _ _ _ _ c.loop-i.invariant (omega arith))

pub name_all-returns-clause-named : goal.name_all-returns-clause-named
name_all-returns-clause-named t c =
    rw (c.of.ensures, ← c.take_out-all.ensures)
    (exprs_named _ _ _ (changed_all _ _ _ _ _ c.loop-i.invariant (omega arith)))

pub name_accessors-returns : goal.name_accessors-returns
name_accessors-returns t c =
    rw (c.of.ensures, ← c.take_out-all.ensures)
    (accessors_named _ _ _ (changed_all _ _ _ _ _ c.loop-i.invariant (omega arith)))

pub name_each-returns : goal.name_each-returns
name_each-returns t c =
    rw (c.of.ensures, ← c.take_out-all.ensures)
    (inputs_named _ _ _ (changed_all _ _ _ _ _ c.loop-i.invariant (omega arith)))
