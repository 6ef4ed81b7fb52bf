-- The values of the polynomials that a prover sends: at each point they are those of the rows and
-- of the masks, combined.
use Rattle.std.specs.Prelude.{◌≡◌, ℕ, ◌+◌, ◌-◌, ◌*◌, ◌%◌, ◌<◌, List}
use Rattle.gold_field.specs.declared.gold.TheConstants.{P}
use Rattle.gold_ntt.specs.Polynomial.{sum_to, eval_at}
use Rattle.lig_layout.specs.declared.params.Params.{Params}
use Rattle.lig_layout.specs.declared.matrix.Vectors.{Vectors}
use Rattle.lig_layout.specs.Sizes.{IsParams}
use Rattle.lig_proof.specs.declared.challenge.Challenges.{Challenges}
use Rattle.lig_proof.specs.ProofBytes.{AreValues}
use Rattle.lig_proof.specs.Columns.{Encoded}
use Rattle.lig_proof.specs.Sent.{alpha, rho, proximity_test, linear_test, product_test}
use Rattle.lig_proof.specs.Proving.{IsEncoded}

-- how many coefficients the polynomials have
pub record HasDegrees (p : Params) (e : Encoded) : Type 0 where
  pub row : (k : ℕ) → k < p.rows → AreValues (2 * p.l) (e.row k)
  pub proximity : (t : ℕ) → t < 2 → AreValues (2 * p.l) (e.proximity t)
  pub linear : (t : ℕ) → t < 2 → AreValues (3 * p.l) (e.linear t)
  pub product : (t : ℕ) → t < 2 → AreValues (4 * p.l) (e.product t)

-- an encoded matrix has these
abbrev pub EncodedHasDegrees : Type 0
EncodedHasDegrees = (p : Params) (v : Vectors) (seed : List ℕ) (e : Encoded) → IsParams p
    → IsEncoded p v seed e → HasDegrees p e

-- the test that the rows are codewords, at x
abbrev pub proximity_test_at : Params → Challenges → Encoded → ℕ → ℕ → ℕ
proximity_test_at p c e t x =
    (eval_at (e.proximity t) x + sum_to p.rows (λ k. alpha p c t k * eval_at (e.row k) x)) % P

-- the test of the linear system
abbrev pub linear_test_at : Params → Encoded → (ℕ → List ℕ) → ℕ → ℕ → ℕ
linear_test_at p e system t x =
    (eval_at (e.linear t) x
    + sum_to p.rows (λ k. eval_at (system k) x * eval_at (e.row k) x)) % P

-- the test of the products
abbrev pub product_test_at : Params → Challenges → Encoded → ℕ → ℕ → ℕ
product_test_at p c e t x =
    let x_at = λ (k : ℕ). eval_at (e.row (p.wire_rows + k)) x in
    let y_at = λ (k : ℕ). eval_at (e.row (p.wire_rows + p.constraint_rows + k)) x in
    let z_at = λ (k : ℕ). eval_at (e.row (p.wire_rows + 2 * p.constraint_rows + k)) x in
    (eval_at (e.product t) x + sum_to p.constraint_rows (λ k.
    rho p c t k * (x_at k * y_at k + (P - z_at k)))) % P

abbrev pub ProximityTestHasValues : Type 0
ProximityTestHasValues = (p : Params) (c : Challenges) (e : Encoded) (t x : ℕ) → t < 2
    → HasDegrees p e → eval_at (proximity_test p c e t) x ≡ proximity_test_at p c e t x

abbrev pub LinearTestHasValues : Type 0
LinearTestHasValues = (p : Params) (e : Encoded) (system : ℕ → List ℕ) (t x : ℕ) → t < 2
    → ((k : ℕ) → k < p.rows → AreValues p.l (system k))
    → HasDegrees p e → eval_at (linear_test p e system t) x ≡ linear_test_at p e system t x

abbrev pub ProductTestHasValues : Type 0
ProductTestHasValues = (p : Params) (c : Challenges) (e : Encoded) (t x : ℕ) → t < 2 → IsParams p
    → HasDegrees p e → eval_at (product_test p c e t) x ≡ product_test_at p c e t x
