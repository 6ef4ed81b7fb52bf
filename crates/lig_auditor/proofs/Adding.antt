-- Sums of products of values that were read.
use Rattle.std.proofs.Common.{◌≡◌, ℕ, zero, suc, ◌+◌, ◌*◌, ◌%◌, ◌<◌, List, length, get_or, sym, ap}
use Rattle.std.proofs.Common.{◌∙◌, arith}
use Rattle.std.proofs.Math.Nat.{add-mod-mod}
use Rattle.std.proofs.lemmas.Nat.{mul-mod_second}
use Rattle.std.proofs.lemmas.Grind.{get_or_default_zero}
use Rattle.gold_field.specs.declared.gold.TheConstants.{P}
use Rattle.gold_field.proofs.FieldLaws.{product_of_rests}
use Rattle.gold_ntt.specs.Polynomial.{sum_to}
use Rattle.lig_proof.proofs.Adding.{one_added}

-- a value that was read
pub read : (xs ys : List ℕ) (i r : ℕ) → xs ≡ ys → i < length ys → r ≡ get_or xs i r
    → r ≡ get_or ys i 0
read xs ys i r same within is =
    is ∙ ap (λ zs. get_or zs i r) same ∙ get_or_default_zero ys i r within

-- a place in the part of repetition t
pub in_part : (t n k : ℕ) → t < 2 → k < n → t * n + k < 2 * n
in_part zero n k low within = omega arith
in_part (suc zero) n k low within = omega arith
in_part (suc (suc t)) n k low within = absurd (omega arith)

-- the next term, a product
pub next_product : (f : ℕ → ℕ) (k s a b t r : ℕ) → s ≡ sum_to k f % P → t ≡ (a * b) % P
    → f k ≡ a * b → r ≡ (s + t) % P
    → r ≡ sum_to (k + 1) f % P
next_product f k s a b t r so_far product is sum =
    one_added k s t r f so_far (product ∙ ap (λ (y : ℕ). y % P) (sym is)) sum

-- the same where a factor is reduced
pub next_reduced : (f : ℕ → ℕ) (k s a b v t r : ℕ) → s ≡ sum_to k f % P → v ≡ b % P
    → t ≡ (a * v) % P → f k ≡ a * b → r ≡ (s + t) % P
    → r ≡ sum_to (k + 1) f % P
next_reduced f k s a b v t r so_far factor product is sum =
    next_product f k s a b t r so_far (product ∙ ap (λ (y : ℕ). (a * y) % P) factor
    ∙ mul-mod_second a b P) is sum

-- a sum on top of another number
pub on_top : (m x s r : ℕ) → s ≡ x % P → r ≡ (m + s) % P → r ≡ (m + x) % P
on_top m x s r is sum = sum ∙ ap (λ (y : ℕ). (m + y) % P) is ∙ add-mod-mod m x P

-- n times a sum of three
pub scaled : (n a b c o s w r : ℕ) → o ≡ (b + c) % P → s ≡ (a + o) % P → w ≡ n % P → r ≡ (w * s) % P
    → r ≡ (n * (a + (b + c))) % P
scaled n a b c o s w r others sum factor product =
    let whole : s ≡ (a + (b + c)) % P = on_top a (b + c) o s others sum in
    product ∙ ap (λ (y : ℕ). (y * s) % P) factor ∙ ap (λ (y : ℕ). (n % P * y) % P) whole
    ∙ product_of_rests P n (a + (b + c))
