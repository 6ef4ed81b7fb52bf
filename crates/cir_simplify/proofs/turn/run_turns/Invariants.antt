use Rattle.std.proofs.Common.{◌≡◌, ◌-◌}
use Rattle.cir_simplify.specs.Turn.{turns}
use Rattle.cir_simplify.specs.Index.{IsIndexed, shown}
use Rattle.cir_simplify.proofs.turn.run_turns.Given as goal

abbrev pub invariant-loop-k : goal.invariant-loop-k
invariant-loop-k l = record {
  indexed : IsIndexed l.rules l.s.rows.items l.s.holders.items l.s.ready l.s.terms;
  rest : turns l.rules (l.turns - l.k)
      (shown l.rules (record { list = l.s.rows.items; solved = l.solved }))
      ≡ turns l.rules l.turns
      (shown l.rules (record { list = l.initial.s.rows.items; solved = l.initial.solved }));
}
