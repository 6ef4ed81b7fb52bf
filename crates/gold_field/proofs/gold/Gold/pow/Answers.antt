use Rattle.std.proofs.Common.{sym, ◌∙◌, arith}
use Rattle.std.proofs.lemmas.Nat.{and_mask}
use Rattle.gold_field.specs.declared.gold.TheConstants.{P}
use Rattle.gold_field.proofs.PrimeLaws.{even_turn, odd_turn, halved}
use Rattle.gold_field.proofs.gold.Gold.pow.Goals as goal
use Rattle.gold_field.proofs.gold.Gold.pow.Goals.{then-rest-eq1, else-rest-eq1}

pub loop-i-preserved : goal.loop-i-preserved
loop-i-preserved c = record {
  low = halved c.loop-i.i c.loop-i.rest (omega arith) c.loop-i.invariant.low;
  below = elim c.if-rest-eq1.branch [
    | then-rest-eq1 w ↦ omega (arith, w.mul-power.ensures)
    | else-rest-eq1 w ↦ omega arith
  ];
  power = elim c.if-rest-eq1.branch [
    | then-rest-eq1 w ↦
        rw (w.power-is, w.mul-power.ensures, c.mul-square.ensures)
        (odd_turn P c.loop-i.power c.loop-i.square c.loop-i.rest (sym (and_mask c.loop-i.rest 1)
        ∙ w.if-rest-eq1.true) ∙ c.loop-i.invariant.power)
    | else-rest-eq1 w ↦
        rw (w.power-is, c.mul-square.ensures)
        (even_turn P c.loop-i.power c.loop-i.square c.loop-i.rest
        (omega (arith, and_mask c.loop-i.rest 1, w.if-rest-eq1.false))
        ∙ c.loop-i.invariant.power)
  ];
}
