use Rattle.std.proofs.Common.{◌≡◌, ◌<◌, ℕ, length}
use Rattle.cir_simplify.specs.Index.{row, IsIndexed}
use Rattle.cir_simplify.proofs.begin.begin.Given as goal

abbrev pub invariant-loop-i : goal.invariant-loop-i
invariant-loop-i l = record {
  indexed : IsIndexed l.rules l.s.rows.items l.s.holders.items l.s.ready l.s.terms;
  same : length l.s.rows.items ≡ length l.list;
  copied : (j : ℕ) → j < l.i → row l.s.rows.items j ≡ row l.list j;
}
