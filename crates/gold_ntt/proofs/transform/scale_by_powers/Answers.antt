use Rattle.std.proofs.Common.{◌≡◌, ◌<◌, ◌*◌, ◌%◌, ◌^◌, ℕ, List, length, get_or, set, ◌∙◌, ap, arith}
use Rattle.std.proofs.Common.{below_more}
use Rattle.std.proofs.lemmas.List.{get_or-set_other, get_or-set_same}
use Rattle.std.proofs.lemmas.Grind.{get_or_default_zero}
use Rattle.std.proofs.lemmas.Nat.{mul-mod_second}
use Rattle.gold_field.specs.declared.gold.TheConstants.{P}
use Rattle.gold_ntt.proofs.Merging.{next_power}
use Rattle.gold_ntt.proofs.transform.scale_by_powers.Goals as goal

at_place : (old new : List ℕ) (i x f p r : ℕ) → i < length new → get_or new i 0 ≡ get_or old i 0
    → p ≡ f ^ i % P → r ≡ (get_or new i x * p) % P
    → get_or (set new i r) i 0 ≡ get_or old i 0 * f ^ i % P
at_place old new i x f p r low same power is =
    let first : get_or new i x ≡ get_or old i 0 = get_or_default_zero new i x low ∙ same in
    get_or-set_same new i r 0 low ∙ is ∙ ap (λ (y : ℕ). (y * p) % P) first
    ∙ ap (λ (y : ℕ). (get_or old i 0 * y) % P) power
    ∙ mul-mod_second (get_or old i 0) (f ^ i) P

pub loop-x-preserved : goal.loop-x-preserved
loop-x-preserved c = record {
  done =
      below_more _ _
      (λ k h. get_or-set_other c.loop-x.a c.loop-x.x-index k c.mul.result 0 (λ e. omega arith)
      ∙ c.loop-x.invariant.done k h)
      (at_place c.args.a.now c.loop-x.a c.loop-x.x-index c.x-item.result c.args.factor
      c.loop-x.power c.mul.result (omega arith)
      (c.loop-x.invariant.left c.loop-x.x-index (omega arith)) c.loop-x.invariant.power
      c.mul.ensures);
  left = λ k h. get_or-set_other c.loop-x.a c.loop-x.x-index k c.mul.result 0 (λ e. omega arith)
      ∙ c.loop-x.invariant.left k (omega arith);
  power =
      next_power P c.args.factor c.loop-x.x-index c.loop-x.power c.mul-power.result
      c.loop-x.invariant.power c.mul-power.ensures;
}
