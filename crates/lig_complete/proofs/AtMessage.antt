-- The values of what is sent at the message points.
use Rattle.std.proofs.Common.{◌≡◌, ℕ, ◌+◌, ◌-◌, ◌*◌, ◌%◌, ◌<◌, List, get_or, ap, ◌∙◌, arith}
use Rattle.std.proofs.Math.Nat.{mod-mod}
use Rattle.gold_field.specs.declared.gold.TheConstants.{P}
use Rattle.gold_field.proofs.Euclid.{plus_zero}
use Rattle.gold_ntt.specs.Polynomial.{sum_to, eval_at}
use Rattle.gold_ntt.proofs.Sums.{sum_same, sum_mod, sum-add}
use Rattle.lig_layout.specs.declared.params.Params.{Params}
use Rattle.lig_layout.specs.Sizes.{IsParams}
use Rattle.lig_proof.specs.declared.challenge.Challenges.{Challenges}
use Rattle.lig_proof.specs.ProofBytes.{AreValues}
use Rattle.lig_proof.specs.Points.{message_point}
use Rattle.lig_proof.specs.Columns.{Encoded}
use Rattle.lig_proof.specs.Sent.{rho, linear_test, product_test}
use Rattle.lig_proof.specs.Values.{HasDegrees}
use Rattle.lig_proof.proofs.TestValues.{linear_test_has_values, product_test_has_values}
use Rattle.lig_complete.proofs.Folding.{sum_grid}

-- the values at the message points: of the rows those of the matrix, of the system those of the
-- combined one; the masks don't count
pub record AreMessages (p : Params) (e : Encoded) (system : ℕ → ℕ → List ℕ) (values : List ℕ)
    (combination : ℕ → List ℕ) : Type 0 where
  pub row : (k j : ℕ) → k < p.rows → j < p.l → eval_at (e.row k) (message_point p j)
      ≡ get_or values (k * p.l + j) 0
  pub combined : (t k j : ℕ) → t < 2 → k < p.rows → j < p.l
      → eval_at (system t k) (message_point p j) ≡ get_or (combination t) (k * p.l + j) 0
  pub linear : (t : ℕ) → t < 2 → sum_to p.l (λ j. eval_at (e.linear t) (message_point p j)) % P ≡ 0
  pub product : (t j : ℕ) → t < 2 → eval_at (e.product t) (message_point p j) ≡ 0

module _ (p : Params) (c : Challenges) (e : Encoded) (system : ℕ → ℕ → List ℕ)
    (values : List ℕ) (combination : ℕ → List ℕ) (h : IsParams p) (degrees : HasDegrees p e)
    (systems : (t k : ℕ) → t < 2 → k < p.rows → AreValues p.l (system t k))
    (are : AreMessages p e system values combination) where
  -- what is sent for the system sums to the combined system times the values of the matrix
  pub linear_sums : (t : ℕ) → t < 2
      → sum_to p.l (λ j. eval_at (linear_test p e (system t) t) (message_point p j)) % P
      ≡ sum_to (p.rows * p.l) (λ i. get_or (combination t) i 0 * get_or values i 0) % P
  linear_sums t low =
      let l = p.l in
      let point = message_point p in
      let mask = λ (j : ℕ). eval_at (e.linear t) (point j) in
      let rows =
      λ (j : ℕ). sum_to p.rows
      (λ k. eval_at (system t k) (point j) * eval_at (e.row k) (point j)) in
      let both = λ (i : ℕ). get_or (combination t) i 0 * get_or values i 0 in
      sum_mod P l (λ j. eval_at (linear_test p e (system t) t) (point j)) (λ j. mask j + rows j)
      (λ j inside. ap (λ (y : ℕ). y % P)
      (linear_test_has_values p e (system t) t (point j) low (λ k m. systems t k low m) degrees)
      ∙ mod-mod (mask j + rows j) P)
      ∙ ap (λ (y : ℕ). y % P) (sum-add l mask rows)
      ∙ plus_zero (sum_to l mask) (sum_to l rows) P (are.linear t low)
      ∙ ap (λ (y : ℕ). y % P)
      (sum_same l rows (λ j. sum_to p.rows (λ k. both (k * l + j)))
      (λ j inside. sum_same p.rows
      (λ k. eval_at (system t k) (point j) * eval_at (e.row k) (point j))
      (λ k. both (k * l + j))
      (λ k m.
      ap (λ (y : ℕ). y * eval_at (e.row k) (point j)) (are.combined t k j low m inside)
      ∙ ap (λ (y : ℕ). get_or (combination t) (k * l + j) 0 * y) (are.row k j m inside)))
      ∙ sum_grid p.rows l both)

  -- what is sent for the products has the combined products of the matrix
  pub products_at : (t j : ℕ) → t < 2 → j < p.l
      → (let x = λ (k : ℕ). get_or values ((p.wire_rows + k) * p.l + j) 0 in
      let y = λ (k : ℕ). get_or values ((p.wire_rows + p.constraint_rows + k) * p.l + j) 0 in
      let z = λ (k : ℕ). get_or values ((p.wire_rows + 2 * p.constraint_rows + k) * p.l + j) 0 in
      eval_at (product_test p c e t) (message_point p j)
      ≡ sum_to p.constraint_rows (λ k. rho p c t k * (x k * y k + (P - z k))) % P)
  products_at t j low inside =
      let l = p.l in
      let point = message_point p j in
      let rows = h.rows in
      let a = λ (k : ℕ). p.wire_rows + k in
      let b = λ (k : ℕ). p.wire_rows + p.constraint_rows + k in
      let d = λ (k : ℕ). p.wire_rows + 2 * p.constraint_rows + k in
      let at = λ (k : ℕ). eval_at (e.row k) point in
      let is = λ (k : ℕ). get_or values (k * l + j) 0 in
      let term = λ (k : ℕ). rho p c t k * (at (a k) * at (b k) + (P - at (d k))) in
      let alone : 0 + sum_to p.constraint_rows term ≡ sum_to p.constraint_rows term = omega arith in
      product_test_has_values p c e t point low h degrees
      ∙ ap (λ (y : ℕ). (y + sum_to p.constraint_rows term) % P) (are.product t j low)
      ∙ ap (λ (y : ℕ). y % P)
      (alone ∙ sum_same p.constraint_rows term
      (λ k. rho p c t k * (is (a k) * is (b k) + (P - is (d k))))
      (λ k m.
      ap (λ (y : ℕ). rho p c t k * (y * at (b k) + (P - at (d k))))
      (are.row (a k) j (omega arith) inside)
      ∙ ap (λ (y : ℕ). rho p c t k * (is (a k) * y + (P - at (d k))))
      (are.row (b k) j (omega arith) inside)
      ∙ ap (λ (y : ℕ). rho p c t k * (is (a k) * is (b k) + (P - y)))
      (are.row (d k) j (omega arith) inside)))
