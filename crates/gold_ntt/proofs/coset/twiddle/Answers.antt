use Rattle.std.proofs.Common.{◌≡◌, ◌*◌, ◌%◌, ◌^◌, ℕ, ◌∙◌, ap, arith}
use Rattle.std.proofs.lemmas.Nat.{one_shl, mul-mod_second, pow-mod}
use Rattle.gold_field.specs.declared.gold.TheConstants.{P}
use Rattle.gold_ntt.specs.Reversal.{reversed}
use Rattle.gold_ntt.proofs.coset.twiddle.Goals as goal

-- the power of a product that was reduced
of_parts : (root n m power product result : ℕ) → power ≡ root ^ n % P → product ≡ 7 * power % P
    → result ≡ product ^ m % P → result ≡ (7 * root ^ n) ^ m % P
of_parts root n m power product result first second third =
    third
    ∙ ap (λ (y : ℕ). y ^ m % P) (second ∙ ap (λ (y : ℕ). 7 * y % P) first
    ∙ mul-mod_second 7 (root ^ n) P)
    ∙ pow-mod (7 * root ^ n) m P

pub returns : goal.returns
returns c =
    let shifted : 1 * 2 ^ c.args.log % 2 ^ 64 ≡ 2 ^ c.args.log =
    one_shl c.args.log 64 (omega arith) in
    of_parts c.args.root (reversed c.args.depth c.args.block) (2 ^ c.args.log)
    c.pow-power.result c.mul.result c.pow.result
    (c.pow-power.ensures ∙ ap (λ (y : ℕ). c.args.root ^ y % P) c.reversed.ensures.value)
    (c.mul.ensures ∙ ap (λ (y : ℕ). y * c.pow-power.result % P) c.from_wide.ensures)
    (c.pow.ensures ∙ ap (λ (y : ℕ). c.mul.result ^ y % P) shifted)
