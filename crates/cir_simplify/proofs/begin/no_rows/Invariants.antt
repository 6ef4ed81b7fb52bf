use Rattle.std.proofs.Common.{◌≡◌, ℕ, length}
use Rattle.cir_simplify.specs.Index.{row, empty}
use Rattle.cir_simplify.proofs.begin.no_rows.Given as goal

abbrev pub invariant-loop-k : goal.invariant-loop-k
invariant-loop-k l = record {
  len : length l.rows.items ≡ l.k;
  empty : (i : ℕ) → row l.rows.items i ≡ empty;
}
