-- The tests of an auditor, by name and in their order. A value of a polynomial is the plain sum of
-- its coefficients times the powers of the point.
use Rattle.std.specs.Prelude.{◌≡◌, ℕ, ◌+◌, ◌-◌, ◌*◌, ◌%◌, ◌<◌, List, length, slice_index}
use Rattle.std.specs.Prelude.{slice_index_or, []}
use Rattle.gold_field.specs.declared.gold.TheConstants.{P}
use Rattle.gold_ntt.specs.Polynomial.{sum_to, eval_at}
use Rattle.lig_layout.specs.declared.params.Params.{Params}
use Rattle.lig_proof.specs.declared.challenge.Challenges.{Challenges}
use Rattle.lig_proof.specs.declared.verdict.Verdict.{Verdict}
use Rattle.lig_proof.specs.declared.verdict.Verdict.TheVariants as verdicts
use Rattle.lig_proof.specs.Points.{message_point, code_point}
use Rattle.lig_proof.specs.Columns.{row_value, proximity_mask_value, linear_mask_value}
use Rattle.lig_proof.specs.Columns.{product_mask_value}
use Rattle.lig_proof.specs.Sent.{Polynomials, alpha, r_numbers, rho}

-- what an auditor tests: the right sides of the system, the polynomials of its rows combined by r
-- (by the repetition and the row), what a proof sent, and the columns that it opened, with their
-- indices
pub record Audit : Type 0 where
  pub params : Params
  pub challenges : Challenges
  pub right_sides : List ℕ
  pub system : ℕ → ℕ → List ℕ
  pub sent : Polynomials
  pub opened : List ℕ
  pub columns : List (List ℕ)

-- at each opened column, in each repetition
abbrev pub AtColumns : Audit → (ℕ → ℕ → List ℕ → Type 0) → Type 0
AtColumns a Holds = (t q : ℕ) → t < 2 → q < length a.columns
    → Holds t (code_point a.params (slice_index a.opened q)) (slice_index_or a.columns q [])

-- what a column says of the polynomial that tests proximity: its mask, and its rows combined by
-- alpha
abbrev pub proximity_value : Params → Challenges → ℕ → List ℕ → ℕ
proximity_value p c t column =
    (proximity_mask_value p column t
    + sum_to p.rows (λ k. alpha p c t k * row_value column k)) % P

-- the rows are codewords: what was sent for them has the values of the columns
abbrev pub Proximity : Audit → Type 0
Proximity a = AtColumns a (λ t x column.
    eval_at (a.sent.proximity t) x ≡ proximity_value a.params a.challenges t column)

-- the linear system: the values at the message points sum to the right sides, combined by r
abbrev pub LinearSum : Audit → Type 0
LinearSum a = (t : ℕ) → t < 2
    → (let equations = length a.right_sides in
    let r = r_numbers equations a.challenges t in
    sum_to a.params.l (λ j. eval_at (a.sent.linear t) (message_point a.params j)) % P
    ≡ sum_to equations (λ e. slice_index r e * slice_index a.right_sides e) % P)

-- what a column at x says of the polynomial for the linear system: its mask, and its rows combined
-- by the values at x of the system's rows
abbrev pub system_value : Params → (ℕ → List ℕ) → ℕ → ℕ → List ℕ → ℕ
system_value p rows t x column =
    (linear_mask_value p column t
    + sum_to p.rows (λ k. eval_at (rows k) x * row_value column k)) % P

-- and what was sent for it has the values of the columns
abbrev pub LinearColumn : Audit → Type 0
LinearColumn a = AtColumns a (λ t x column.
    eval_at (a.sent.linear t) x ≡ system_value a.params (a.system t) t x column)

-- the products: the values at the message points are 0
abbrev pub QuadZero : Audit → Type 0
QuadZero a = (t j : ℕ) → t < 2 → j < a.params.l
    → eval_at (a.sent.product t) (message_point a.params j) ≡ 0

-- x * y - z in row k of the products
abbrev pub excess : Params → List ℕ → ℕ → ℕ
excess p column k =
    let x = row_value column (p.wire_rows + k) in
    let y = row_value column (p.wire_rows + p.constraint_rows + k) in
    let z = row_value column (p.wire_rows + 2 * p.constraint_rows + k) in
    x * y + (P - z)

-- what a column says of the polynomial for the products: its mask, and these combined by rho
abbrev pub product_value : Params → Challenges → ℕ → List ℕ → ℕ
product_value p c t column =
    (product_mask_value p column t
    + sum_to p.constraint_rows (λ k. rho p c t k * excess p column k)) % P

-- and what was sent for them has the values of the columns
abbrev pub QuadColumn : Audit → Type 0
QuadColumn a = AtColumns a (λ t x column.
    eval_at (a.sent.product t) x ≡ product_value a.params a.challenges t column)

-- the verdict on what leads to the root: the first of these tests that fails
abbrev pub IsTested : Audit → Verdict → Type 0
IsTested a verdicts.Accepted =
    Proximity a × LinearSum a × LinearColumn a × QuadZero a × QuadColumn a
IsTested a verdicts.Proximity = ¬ Proximity a
IsTested a verdicts.LinearSum = Proximity a × (¬ LinearSum a)
IsTested a verdicts.LinearColumn = Proximity a × LinearSum a × (¬ LinearColumn a)
IsTested a verdicts.QuadZero = Proximity a × LinearSum a × LinearColumn a × (¬ QuadZero a)
IsTested a verdicts.QuadColumn =
    Proximity a × LinearSum a × LinearColumn a × QuadZero a × (¬ QuadColumn a)
IsTested a _ = ⊥
