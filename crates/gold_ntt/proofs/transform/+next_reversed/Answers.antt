use Rattle.std.proofs.Common.{◌≡◌, ℕ, suc, ◌+◌, ◌-◌, ◌*◌, ◌%◌, ◌^◌, ◌≤◌, sym, ◌∙◌, ap, arith}
use Rattle.std.proofs.lemmas.Nat.{one_shl}
use Rattle.gold_ntt.specs.Reversal.{reversed}
use Rattle.gold_ntt.proofs.ReversalLaws.{next_high}
use Rattle.gold_ntt.proofs.transform.+next_reversed.Goals as goal

next_high_at : (k b j r : ℕ) → 1 ≤ k → j ≡ reversed k b → 2 ^ (k - 1) ≤ j
    → ((c : ℕ) → j - 2 ^ (k - 1) ≡ reversed (k - 1) c → r ≡ reversed (k - 1) (c + 1))
    → r ≡ reversed k (b + 1)
next_high_at k b j r pos is high next =
    let up : suc (k - 1) ≡ k = omega arith in
    next_high (k - 1) b j r (is ∙ ap (λ (y : ℕ). reversed y b) (sym up)) high next
    ∙ ap (λ (y : ℕ). reversed y (b + 1)) up

pub returns-else-j-bit : goal.returns-else-j-bit
returns-else-j-bit t c = λ b is.
    let bit : (1 * 2 ^ (c.args.k - 1)) % 2 ^ 64 ≡ 2 ^ (c.args.k - 1) =
    one_shl (c.args.k - 1) 64 (omega arith) in
    next_high_at c.args.k b c.args.j c.next_reversed.result (omega arith) is (omega arith)
    (λ d low. c.next_reversed.ensures d (ap (λ (y : ℕ). c.args.j - y) bit ∙ low))
