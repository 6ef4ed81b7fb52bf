use Rattle.std.proofs.Common.{ap, sym, ◌%◌, ◌∙◌, ℕ, inl, inr}
use Rattle.gold_field.specs.declared.gold.TheConstants.{P}
use Rattle.cir_lc.specs.Coefficient.{one_at}
use Rattle.cir_lc.proofs.Totals.{total-nil}
use Rattle.cir_lc.proofs.Changes.{coef_more}
use Rattle.cir_lc.proofs.change.coef.Goals as goal
use Rattle.cir_lc.proofs.change.coef.Goals.{then-t-signal, else-t-signal}

pub loop-t-init : goal.loop-t-init
loop-t-init c = ap (λ (n : ℕ). n % P) (sym (total-nil (one_at c.args.signal)))

pub loop-t-preserved : goal.loop-t-preserved
loop-t-preserved c =
    coef_more _ _ _ c.loop-t.sum _ c.t-item.result c.loop-t-test.true c.t-item.is c.loop-t.invariant
    (elim c.if-t-signal.branch [
      | then-t-signal w ↦
          inl (w.if-t-signal.true, w.sum-is ∙ w.add-sum.ensures)
      | else-t-signal w ↦
          inr (w.if-t-signal.false, w.sum-is)
    ])
