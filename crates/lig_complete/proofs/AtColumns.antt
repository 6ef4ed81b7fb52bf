-- What a column of a matrix says, and what is audited where columns of a matrix are opened.
use Rattle.std.proofs.Common.{◌≡◌, ℕ, ◌+◌, ◌-◌, ◌*◌, ◌%◌, ◌<◌, List, map, ap, ◌∙◌, arith}
use Rattle.gold_field.specs.declared.gold.TheConstants.{P}
use Rattle.gold_ntt.specs.Polynomial.{sum_to, eval_at}
use Rattle.gold_ntt.proofs.Sums.{sum_same}
use Rattle.lig_layout.specs.declared.params.Params.{Params}
use Rattle.lig_layout.specs.Sizes.{IsParams}
use Rattle.lig_proof.specs.declared.challenge.Challenges.{Challenges}
use Rattle.lig_proof.specs.Points.{code_point}
use Rattle.lig_proof.specs.Columns.{Encoded, column_at, row_value}
use Rattle.lig_proof.specs.Sent.{Polynomials, in_order, polynomials_of, alpha, rho}
use Rattle.lig_proof.specs.Sent.{sent_polynomials}
use Rattle.lig_proof.specs.Audit.{Audit, excess, proximity_value, system_value, product_value}
use Rattle.lig_proof.specs.Values.{proximity_test_at, linear_test_at, product_test_at}
use Rattle.lig_proof.proofs.Interpolants.{made_values}
use Rattle.lig_complete.specs.Offers.{AreSent}
use Rattle.lig_complete.proofs.Columns.{row_is, proximity_is, linear_is, product_is}

-- what an auditor tests, where these are sent and these columns are opened
abbrev pub audit : Params → Challenges → Encoded → Polynomials → (ℕ → ℕ → List ℕ) → List ℕ
    → List ℕ → Audit
audit p c e sent system rights opened = record {
  params = p;
  challenges = c;
  right_sides = rights;
  system = system;
  sent = polynomials_of p (in_order sent);
  opened = opened;
  columns = map (column_at p e) opened;
}

pub are_sent : (p : Params) (c : Challenges) (e : Encoded) (system : ℕ → ℕ → List ℕ)
    → AreSent p (sent_polynomials p c e system)
are_sent p c e system = record {
  proximity = λ t low. made_values (2 * p.l) _;
  linear = λ t low. made_values (3 * p.l) _;
  product = λ t low. made_values (4 * p.l) _;
}

-- the values that a column gives are those of the matrix
module _ (p : Params) (c : Challenges) (e : Encoded) (i t : ℕ) (low : t < 2) where
  abbrev x : ℕ
  x = code_point p i

  abbrev column : List ℕ
  column = column_at p e i

  pub proximity_says : proximity_value p c t column ≡ proximity_test_at p c e t x
  proximity_says =
      ap (λ (y : ℕ). (y + sum_to p.rows (λ k. alpha p c t k * row_value column k)) % P)
      (proximity_is p e i t low)
      ∙ ap (λ (y : ℕ). (eval_at (e.proximity t) x + y) % P)
      (sum_same p.rows (λ k. alpha p c t k * row_value column k)
      (λ k. alpha p c t k * eval_at (e.row k) x)
      (λ k l. ap (λ (y : ℕ). alpha p c t k * y) (row_is p e i k l)))

  pub linear_says : (rows : ℕ → List ℕ)
      → system_value p rows t x column ≡ linear_test_at p e rows t x
  linear_says rows =
      ap (λ (y : ℕ). (y + sum_to p.rows (λ k. eval_at (rows k) x * row_value column k)) % P)
      (linear_is p e i t low)
      ∙ ap (λ (y : ℕ). (eval_at (e.linear t) x + y) % P)
      (sum_same p.rows (λ k. eval_at (rows k) x * row_value column k)
      (λ k. eval_at (rows k) x * eval_at (e.row k) x)
      (λ k l. ap (λ (y : ℕ). eval_at (rows k) x * y) (row_is p e i k l)))

  pub product_says : IsParams p → product_value p c t column ≡ product_test_at p c e t x
  product_says h =
      let rows = h.rows in
      let a = λ (k : ℕ). p.wire_rows + k in
      let b = λ (k : ℕ). p.wire_rows + p.constraint_rows + k in
      let z = λ (k : ℕ). p.wire_rows + 2 * p.constraint_rows + k in
      ap (λ (y : ℕ). (y + sum_to p.constraint_rows (λ k. rho p c t k * excess p column k)) % P)
      (product_is p e i t low)
      ∙ ap (λ (y : ℕ). (eval_at (e.product t) x + y) % P)
      (sum_same p.constraint_rows (λ k. rho p c t k * excess p column k)
      (λ k. rho p c t k
      * (eval_at (e.row (a k)) x * eval_at (e.row (b k)) x + (P - eval_at (e.row (z k)) x)))
      (λ k l.
      ap (λ (y : ℕ). rho p c t k * (y * row_value column (b k) + (P - row_value column (z k))))
      (row_is p e i (a k) (omega arith))
      ∙ ap (λ (y : ℕ). rho p c t k * (eval_at (e.row (a k)) x * y + (P - row_value column (z k))))
      (row_is p e i (b k) (omega arith))
      ∙ ap (λ (y : ℕ). rho p c t k * (eval_at (e.row (a k)) x * eval_at (e.row (b k)) x + (P - y)))
      (row_is p e i (z k) (omega arith))))
