-- Sums of the field, term by term.
use Rattle.std.proofs.Common.{◌≡◌, ℕ, suc, ◌+◌, ◌%◌, ◌≤◌, refl, sym, ap, ◌∙◌, arith}
use Rattle.std.proofs.Math.Nat.{mod-mod}
use Rattle.gold_field.specs.declared.gold.TheConstants.{P}
use Rattle.gold_field.proofs.FieldLaws.{sum_of_rests}
use Rattle.gold_ntt.specs.Polynomial.{sum_to}
use Rattle.gold_ntt.proofs.Sums.{sum_to-zero, sum_to-suc}
use Rattle.gold_ntt.proofs.Values.{plus_same}

-- before the first term
pub nothing_added : (f : ℕ → ℕ) → 0 ≡ sum_to 0 f % P
nothing_added f = ap (λ x. x % P) (sym (sum_to-zero f))

-- one more term
pub one_added : (k sum term next : ℕ) (f : ℕ → ℕ) → sum ≡ sum_to k f % P → term ≡ f k % P
    → next ≡ (sum + term) % P → next ≡ sum_to (k + 1) f % P
one_added k sum term next f so_far is adds =
    let more : k + 1 ≡ suc k = omega arith in
    adds ∙ ap (λ x. (x + term) % P) so_far ∙ ap (λ x. (sum_to k f % P + x) % P) is
    ∙ sum_of_rests P (sum_to k f) (f k)
    ∙ ap (λ x. x % P) (sym (sum_to-suc k f)) ∙ ap (λ n. sum_to n f % P) (sym more)

-- the sum with what it is added to
pub all_added : (first start sum k count result : ℕ) (f : ℕ → ℕ) → result ≡ (first + sum) % P
    → first ≡ start → sum ≡ sum_to k f % P → k ≤ count → count ≤ k
    → result ≡ (start + sum_to count f) % P
all_added first start sum k count result f adds same is low high =
    let whole = sum_to count f in
    let end : k ≡ count = omega arith in
    adds ∙ ap (λ x. (x + sum) % P) same ∙ ap (λ x. (start + x) % P) (is
    ∙ ap (λ n. sum_to n f % P) end) ∙ plus_same P start start (whole % P) whole refl
    (mod-mod whole P)
