use Rattle.std.proofs.Common.{◌≡◌, ℕ, ◌<◌, length, get_or}
use Rattle.flow_engine.proofs.boards.pairs.Given as goal

abbrev pub invariant-loop-i : goal.invariant-loop-i
invariant-loop-i l = record {
  each : length l.pairs.items ≡ l.i;
  at : (j : ℕ) → j < l.i → get_or l.pairs.items j (0, 0)
      ≡ (get_or l.cells j 0, get_or l.values j 0);
}
