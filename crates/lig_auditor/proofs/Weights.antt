-- Values of the polynomial of a row, from the row's values: the sums of products are the same
-- before a transform and behind it.
use Rattle.std.proofs.Common.{◌≡◌, ℕ, ◌*◌, ◌%◌, ◌^◌, ◌<◌, List, length, get_or, sym, ap, ◌∙◌, arith}
use Rattle.std.proofs.Common.{mul_comm}
use Rattle.std.proofs.lemmas.Nat.{mul-mod_first, mul-mod_second}
use Rattle.gold_field.specs.declared.gold.TheConstants.{P}
use Rattle.gold_field.proofs.PowerSteps.{pow_pow}
use Rattle.gold_ntt.specs.Polynomial.{sum_to, poly, eval_at}
use Rattle.gold_ntt.specs.Transform.{root_of, IsTransform}
use Rattle.gold_ntt.proofs.Interpolation.{value_at_root}
use Rattle.gold_ntt.proofs.Sums.{sum_same, sum_mod, sum-scale, sum-swap}
use Rattle.lig_layout.specs.declared.params.Params.{Params}
use Rattle.lig_layout.specs.Sizes.{IsParams}
use Rattle.lig_proof.specs.Encoding.{Interpolates}
use Rattle.lig_proof.specs.Points.{width_log}
use Rattle.lig_proof.proofs.Interpolants.{width_is}

-- the values of c at the powers of w, each times a number
expanded : (n w : ℕ) (v c row : ℕ → ℕ) → ((i : ℕ) → i < n → row i ≡ poly n c (w ^ i) % P)
    → sum_to n (λ i. row i * v i) % P
    ≡ sum_to n (λ i. sum_to n (λ j. v i * (c j * (w ^ i) ^ j))) % P
expanded n w v c row is =
    sum_mod P n (λ i. row i * v i) (λ i. sum_to n (λ j. v i * (c j * (w ^ i) ^ j))) (λ i low.
    let value = poly n c (w ^ i) in
    ap (λ (y : ℕ). y * v i % P) (is i low) ∙ mul-mod_first value (v i) P
    ∙ ap (λ (y : ℕ). y % P) (mul_comm value (v i)
    ∙ sym (sum-scale n (v i) (λ j. c j * (w ^ i) ^ j))))

-- a list times the transform of another, and the other way round
pub turned : (e : ℕ) (a b at_a at_b : List ℕ) → length a ≡ 2 ^ e → length b ≡ 2 ^ e
    → IsTransform e a at_a → IsTransform e b at_b
    → sum_to (2 ^ e) (λ i. get_or at_a i 0 * get_or b i 0) % P
    ≡ sum_to (2 ^ e) (λ i. get_or a i 0 * get_or at_b i 0) % P
turned e a b at_a at_b long_a long_b first second =
    let n = 2 ^ e in
    let w = root_of e in
    let x = λ (i : ℕ). get_or a i 0 in
    let y = λ (i : ℕ). get_or b i 0 in
    let term = λ (i j : ℕ). y i * (x j * (w ^ i) ^ j) in
    let back = λ (j i : ℕ). x j * (y i * (w ^ j) ^ i) in
    let same = λ (i j : ℕ). order (y i) (x j) ((w ^ i) ^ j) ((w ^ j) ^ i)
    (pow_pow w i j ∙ ap (λ (z : ℕ). w ^ z) (mul_comm i j) ∙ sym (pow_pow w j i)) in
    expanded n w y x (λ i. get_or at_a i 0)
    (λ i low. value_at_root e a at_a i long_a first low)
    ∙ ap (λ (z : ℕ). z % P) (sum-swap n n (λ j i. term i j)
    ∙ sum_same n (λ j. sum_to n (λ i. term i j)) (λ j. sum_to n (λ i. back j i))
    (λ j low. sum_same n (λ i. term i j) (λ i. back j i) (λ i l. same i j)))
    ∙ sym (expanded n w x y (λ i. get_or at_b i 0)
    (λ i low. value_at_root e b at_b i long_b second low))
    ∙ ap (λ (z : ℕ). z % P) (sum_same n (λ i. get_or at_b i 0 * x i) (λ i. x i * get_or at_b i 0)
    (λ i low. mul_comm (get_or at_b i 0) (x i)))
  where
    order : (v c p q : ℕ) → p ≡ q → v * (c * p) ≡ c * (v * q)
    order v c p q is =
        let moved : v * (c * p) ≡ c * (v * p) = omega arith in
        moved ∙ ap (λ (z : ℕ). c * (v * z)) is

-- what the inverse transform of the powers of x is for
pub weighed : (p : Params) (x : ℕ) (row polynomial weights powers : List ℕ) → IsParams p
    → length weights ≡ p.l → IsTransform (width_log p) weights powers
    → ((i : ℕ) → i < p.l → get_or powers i 0 ≡ x ^ i % P) → Interpolates p row polynomial
    → sum_to p.l (λ i. get_or row i 0 * get_or weights i 0) % P ≡ eval_at polynomial x
weighed p x row polynomial weights powers h long transform are row_is =
    let e = width_log p in
    let power = (width_is p h).power in
    let count = row_is.degree.count in
    ap (λ n. sum_to n (λ i. get_or row i 0 * get_or weights i 0) % P) power
    ∙ turned e polynomial weights row powers (count ∙ power) (long ∙ power) row_is.values transform
    ∙ ap (λ n. sum_to n (λ i. get_or polynomial i 0 * get_or powers i 0) % P)
    (sym power ∙ sym count)
    ∙ sum_mod P (length polynomial) (λ i. get_or polynomial i 0 * get_or powers i 0)
    (λ i. get_or polynomial i 0 * x ^ i) (λ i low.
    ap (λ (y : ℕ). get_or polynomial i 0 * y % P) (are i (omega arith))
    ∙ mul-mod_second (get_or polynomial i 0) (x ^ i) P)
