-- The encoded matrix: the polynomials of the rows, the masks of the tests, and its columns.
use Rattle.std.specs.Prelude.{ℕ, ◌+◌, ◌*◌, List, [], ◌∷◌, ◌++◌, map, slice_index}
use Rattle.std.specs.List.{range_with_len}
use Rattle.gold_ntt.specs.Polynomial.{eval_at}
use Rattle.lig_layout.specs.declared.params.Params.{Params}
use Rattle.lig_merkle.specs.Merkle.{leaf_hash, root_at}
use Rattle.lig_proof.specs.Points.{code_point}

-- polynomials by the row, and those of each test by the repetition
pub record Encoded : Type 0 where
  pub row : ℕ → List ℕ
  pub proximity : ℕ → List ℕ
  pub linear : ℕ → List ℕ
  pub product : ℕ → List ℕ

-- the polynomials of which a column has the values, in its order
abbrev pub polynomials : Params → Encoded → List (List ℕ)
polynomials p e =
    map e.row (range_with_len 0 p.rows)
    ++ (e.proximity 0 ∷ e.proximity 1 ∷ e.linear 0 ∷ e.linear 1 ∷ e.product 0 ∷ e.product 1 ∷ [])

abbrev pub column_at : Params → Encoded → ℕ → List ℕ
column_at p e i = map (λ polynomial. eval_at polynomial (code_point p i)) (polynomials p e)

abbrev pub leaves : Params → Encoded → List (List ℕ)
leaves p e = map (λ i. leaf_hash (column_at p e i)) (range_with_len 0 (8 * p.l))

-- what the prover commits to
abbrev pub commitment : Params → Encoded → List ℕ
commitment p e = root_at p.depth (leaves p e)

-- what a column says, by the row, and of each test by the repetition
abbrev pub row_value : List ℕ → ℕ → ℕ
row_value column k = slice_index column k

abbrev pub proximity_mask_value : Params → List ℕ → ℕ → ℕ
proximity_mask_value p column t = slice_index column (p.rows + t)

abbrev pub linear_mask_value : Params → List ℕ → ℕ → ℕ
linear_mask_value p column t = slice_index column (p.rows + 2 + t)

abbrev pub product_mask_value : Params → List ℕ → ℕ → ℕ
product_mask_value p column t = slice_index column (p.rows + 4 + t)
