use Rattle.std.proofs.Common.{◌-◌, length}
use Rattle.cir_simplify.specs.Index.{IsReady, IsNoneBefore}
use Rattle.cir_simplify.proofs.turn.first_behind.Given as goal

abbrev pub invariant-loop-ready : goal.invariant-loop-ready
invariant-loop-ready l = record {
  ready : IsReady l.rules l.rows.items l.ready;
  before : IsNoneBefore l.rules l.rows.items l.ready.next;
}

abbrev pub decreases-loop-ready : goal.decreases-loop-ready
decreases-loop-ready l = length l.rows.items - l.ready.next
