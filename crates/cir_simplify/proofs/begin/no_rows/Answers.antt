use Rattle.cir_simplify.proofs.Starting.{row_more, length_more}
use Rattle.cir_simplify.proofs.begin.no_rows.Goals as goal

pub loop-k-preserved : goal.loop-k-preserved
loop-k-preserved c = record {
  len = length_more _ _ _ _ c.in_ok-push.ensures.items c.loop-k.invariant.len;
  empty = row_more _ _ _ c.in_ok-push.ensures.items c.nothing.ensures c.loop-k.invariant.empty;
}
