-- The six polynomials of a proof: in each of two repetitions one for each test.
use Rattle.std.specs.Prelude.{ℕ, ◌+◌, ◌-◌, ◌*◌, ◌%◌, List, ◌++◌, map, take, drop, slice_index}
use Rattle.std.specs.List.{range_with_len}
use Rattle.gold_field.specs.declared.gold.TheConstants.{P}
use Rattle.gold_ntt.specs.Polynomial.{sum_to, product_at}
use Rattle.lig_layout.specs.declared.params.Params.{Params}
use Rattle.lig_proof.specs.declared.challenge.Challenges.{Challenges}
use Rattle.lig_proof.specs.Columns.{Encoded}

-- by the repetition
pub record Polynomials : Type 0 where
  pub proximity : ℕ → List ℕ
  pub linear : ℕ → List ℕ
  pub product : ℕ → List ℕ

-- as they stand in a proof
abbrev pub in_order : Polynomials → List ℕ
in_order s =
    s.proximity 0 ++ (s.linear 0 ++ (s.product 0
    ++ (s.proximity 1 ++ (s.linear 1 ++ s.product 1))))

-- those of which a proof has the coefficients, 9 * l in each repetition
abbrev pub polynomials_of : Params → List ℕ → Polynomials
polynomials_of p values = record {
  proximity = λ t. take (2 * p.l) (drop (t * (9 * p.l)) values);
  linear = λ t. take (3 * p.l) (drop (t * (9 * p.l) + 2 * p.l) values);
  product = λ t. take (4 * p.l) (drop (t * (9 * p.l) + 5 * p.l) values);
}

-- the challenges of repetition t: for row k, for equation e, for row k of products
abbrev pub alpha : Params → Challenges → ℕ → ℕ → ℕ
alpha p c t k = slice_index c.alpha (t * p.rows + k)

abbrev pub r_numbers : ℕ → Challenges → ℕ → List ℕ
r_numbers equations c t = take equations (drop (t * equations) c.r)

abbrev pub rho : Params → Challenges → ℕ → ℕ → ℕ
rho p c t k = slice_index c.rho (t * p.constraint_rows + k)

-- n coefficients
abbrev pub coefficients : ℕ → (ℕ → ℕ) → List ℕ
coefficients n f = map (λ i. f i % P) (range_with_len 0 n)

-- u + the sum of alpha k * row k
abbrev pub proximity_test : Params → Challenges → Encoded → ℕ → List ℕ
proximity_test p c e t = coefficients (2 * p.l) (λ i.
    slice_index (e.proximity t) i + sum_to p.rows (λ k. alpha p c t k * slice_index (e.row k) i))

-- m + the sum of R k * row k, where R k is the polynomial of row k of the combined system
abbrev pub linear_test : Params → Encoded → (ℕ → List ℕ) → ℕ → List ℕ
linear_test p e system t = coefficients (3 * p.l) (λ i.
    slice_index (e.linear t) i + sum_to p.rows (λ k. product_at (system k) (e.row k) i))

-- n + the sum of rho k * (x k * y k - z k)
abbrev pub product_test : Params → Challenges → Encoded → ℕ → List ℕ
product_test p c e t =
    let x = λ (k : ℕ). e.row (p.wire_rows + k) in
    let y = λ (k : ℕ). e.row (p.wire_rows + p.constraint_rows + k) in
    let z = λ (k : ℕ). e.row (p.wire_rows + 2 * p.constraint_rows + k) in
    let excess = λ (i k : ℕ). product_at (x k) (y k) i + (P - slice_index (z k) i) in
    coefficients (4 * p.l) (λ i.
    slice_index (e.product t) i + sum_to p.constraint_rows (λ k. rho p c t k * excess i k))

-- the polynomials that a prover sends: system t k is that of row k of the system, combined by r
abbrev pub sent_polynomials : Params → Challenges → Encoded → (ℕ → ℕ → List ℕ) → Polynomials
sent_polynomials p c e system = record {
  proximity = proximity_test p c e;
  linear = λ t. linear_test p e (system t) t;
  product = product_test p c e;
}
