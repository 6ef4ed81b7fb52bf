-- Rows as polynomials, plain and under a mask. A polynomial is the list of its coefficients, lowest
-- first.
use Rattle.std.specs.Prelude.{◌≡◌, ℕ, ◌+◌, ◌-◌, ◌*◌, ◌%◌, ◌<◌, List, map, slice_index}
use Rattle.std.specs.List.{range_with_len}
use Rattle.gold_field.specs.declared.gold.TheConstants.{P}
use Rattle.gold_ntt.specs.Polynomial.{shifted_at}
use Rattle.gold_ntt.specs.Transform.{IsTransform}
use Rattle.lig_layout.specs.declared.params.Params.{Params}
use Rattle.lig_layout.specs.Layout.{row_at}
use Rattle.lig_layout.specs.Sizes.{IsParams}
use Rattle.lig_proof.specs.ProofBytes.{AreValues}
use Rattle.lig_proof.specs.Points.{width_log}

-- the polynomial of degree below the width that has the row's values at the message points
pub record Interpolates (p : Params) (row polynomial : List ℕ) : Type 0 where
  pub degree : AreValues p.l polynomial
  pub values : IsTransform (width_log p) polynomial row

-- n coefficients of base + (X ^ l - 1) * mask
abbrev pub masked : ℕ → ℕ → List ℕ → List ℕ → List ℕ
masked l n base mask =
    let above = λ (i : ℕ). shifted_at l mask i + (P - slice_index mask i) in
    map (λ i. (slice_index base i + above i) % P) (range_with_len 0 n)

-- the polynomial of a row under a mask: the one through its values, and X ^ l - 1, which is 0 at
-- the message points, times the mask
pub record IsMaskedRow (p : Params) (row mask masked_row : List ℕ) : Type 0 where
  pub polynomial : List ℕ
  pub interpolates : Interpolates p row polynomial
  pub sum : masked_row ≡ masked p.l (2 * p.l) polynomial mask

-- a polynomial for each row of a matrix whose rows stand one after another
abbrev pub InterpolateRows : Params → List ℕ → (ℕ → List ℕ) → Type 0
InterpolateRows p values polynomials =
    (k : ℕ) → k < p.rows → Interpolates p (row_at p values k) (polynomials k)

-- each row of numbers of the field has such a polynomial
abbrev pub RowsHavePolynomials : Type 0
RowsHavePolynomials = (p : Params) (row : List ℕ) → IsParams p → AreValues p.l row
    → (polynomial : List ℕ) × Interpolates p row polynomial

-- and only one
abbrev pub PolynomialsAreOne : Type 0
PolynomialsAreOne = (p : Params) (row a b : List ℕ) → IsParams p
    → Interpolates p row a → Interpolates p row b → a ≡ b

-- and one under a mask
abbrev pub MaskedRowsAreOne : Type 0
MaskedRowsAreOne = (p : Params) (row mask a b : List ℕ) → IsParams p
    → IsMaskedRow p row mask a → IsMaskedRow p row mask b → a ≡ b
