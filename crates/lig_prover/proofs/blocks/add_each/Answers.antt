use Rattle.std.proofs.Common.{◌≡◌, ◌+◌, ◌%◌, get_or, ap, ◌∙◌, arith, below_more}
use Rattle.std.proofs.lemmas.List.{get_or-set_other, get_or-set_same}
use Rattle.std.proofs.lemmas.Grind.{get_or_default_zero}
use Rattle.gold_field.specs.declared.gold.TheConstants.{P}
use Rattle.gold_ntt.proofs.Values.{plus_same}
use Rattle.lig_prover.proofs.blocks.add_each.Goals as goal

pub loop-i-preserved : goal.loop-i-preserved
loop-i-preserved g c =
    let sums = c.loop-i.sums in
    let i = c.loop-i.i in
    let new = c.add.result in
    let x = c.index-sums-i.result in
    let y = c.f.result in
    let old = get_or c.args.sums.now i 0 in
    let before : x ≡ old =
    c.index-sums-i.is ∙ get_or_default_zero sums i x (omega arith)
    ∙ c.loop-i.invariant.left i (omega arith) in
    record {
      done = λ h is. below_more _ _
          (λ k low. get_or-set_other sums i k new 0 (λ e. omega arith)
          ∙ c.loop-i.invariant.done h is k low)
          (get_or-set_same sums i new 0 (omega arith) ∙ c.add.ensures
          ∙ plus_same P x old y (h (c.args.first + i)) (ap (λ z. z % P) before)
          (is (c.args.first + i) y c.f.ensures));
      left = λ k low. get_or-set_other sums i k new 0 (λ e. omega arith)
          ∙ c.loop-i.invariant.left k (omega arith);
    }
