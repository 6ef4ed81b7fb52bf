use Rattle.std.proofs.Common.{◌≡◌, ℕ, suc, ◌+◌, ◌-◌, ◌*◌, ◌%◌, ◌^◌, List, sym, ap}
use Rattle.std.proofs.Common.{◌∙◌, subst, arith}
use Rattle.std.proofs.Math.Nat.{two-pow-succ}
use Rattle.std.proofs.lemmas.Nat.{one_shl}
use Rattle.gold_field.specs.declared.gold.TheConstants.{P}
use Rattle.gold_ntt.specs.Reversal.{reversed}
use Rattle.gold_ntt.proofs.Twiddles.{AreBelow, AreInLevel, still_below, one_more, one_level}
use Rattle.gold_ntt.proofs.coset.twiddles.Goals as goal

pub loop-block-preserved : goal.loop-block-preserved
loop-block-preserved c =
    let e = c.args.log in
    let d = c.loop-depth.depth in
    let all = c.loop-block.all.items in
    let x = c.twiddle.result in
    let long = c.loop-block.invariant.count in
    let pushed = c.in_ok-push-2.ensures.items in
    let is = c.twiddle.ensures
    ∙ ap (λ (y : ℕ). (7 * y ^ reversed d c.loop-block.block) ^ (2 ^ (e - d - 1)) % P)
    c.root-root.ensures.value in
    let Below : List ℕ → Type 0 = λ y. AreBelow e d y in
    let Level : List ℕ → Type 0 = λ y. AreInLevel e d (c.loop-block.block + 1) y in
    record {
      count = omega (arith, c.in_ok-push-2.ensures.len);
      below = subst Below (sym pushed)
          (still_below e d x all (omega arith) c.loop-block.invariant.below);
      level = subst Level (sym pushed)
          (one_more e d c.loop-block.block x all (omega arith) long is
          c.loop-block.invariant.level);
    }

pub loop-depth-preserved : goal.loop-depth-preserved
loop-depth-preserved c =
    let e = c.args.log in
    let d = c.loop-depth.depth in
    let all = c.loop-block.all.items in
    let size : 1 * 2 ^ d % 2 ^ 64 ≡ 2 ^ d = one_shl d 64 (omega arith) in
    let done = c.loop-block.auto.block-end in
    let full : c.loop-block.block ≡ 2 ^ d = omega (arith, size) in
    let next : d + 1 ≡ suc d = omega arith in
    let double : 2 ^ (d + 1) ≡ 2 ^ d + 2 ^ d =
    ap (λ (y : ℕ). 2 ^ y) next ∙ two-pow-succ d in
    let Level : ℕ → Type 0 = λ y. AreInLevel e d y all in
    record {
      count = omega (arith, c.loop-block.invariant.count);
      below = one_level e d all c.loop-block.invariant.below
          (subst Level full c.loop-block.invariant.level);
    }
