use Rattle.std.proofs.Common.{◌≡◌, ◌≢◌, ℕ, ◌-◌, ◌%◌, ◌^◌, ◌<◌, sym, ◌∙◌, ap, subst, arith}
use Rattle.gold_field.specs.declared.gold.TheConstants.{P}
use Rattle.gold_field.specs.Powers.{squared}
use Rattle.gold_ntt.specs.Transform.{root_of}
use Rattle.gold_ntt.proofs.RootLaws.{root_one, root_order, root_power}
use Rattle.gold_ntt.proofs.Transforms.{root_halves}
use Rattle.gold_ntt.proofs.roots.root.Goals as goal

pub returns : goal.returns
returns c =
    let none : 32 - c.loop-i.i ≡ 0 = omega arith in
    let is : c.loop-i.root ≡ root_of c.args.e =
    sym (ap (λ (y : ℕ). squared P y c.loop-i.root) none) ∙ c.loop-i.invariant in
    let e : ℕ = c.args.e in
    let O : ℕ → Type 0 = λ r. (k : ℕ) → 0 < k → k < 2 ^ e → r ^ k % P ≢ 1 in
    record {
      value = is;
      base = λ b seven. is ∙ root_power e b seven;
      one = ap (λ (y : ℕ). y ^ (2 ^ e) % P) is ∙ root_one e (omega arith);
      half = λ pos. ap (λ (y : ℕ). y ^ (2 ^ (e - 1)) % P) is ∙ root_halves e (omega arith) pos;
      order = subst O (sym is) (root_order e (omega arith));
    }
