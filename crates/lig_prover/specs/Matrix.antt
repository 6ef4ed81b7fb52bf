-- The encoded matrix in two lists: its polynomials in the order of a column, and their codewords.
use Rattle.std.specs.Prelude.{◌≡◌, ◌≤◌, ℕ, ◌+◌, ◌-◌, ◌*◌, ◌%◌, List, [], ◌∷◌, length, map}
use Rattle.std.specs.Prelude.{slice_index, slice_index_or}
use Rattle.std.specs.List.{range_with_len}
use Rattle.gold_field.specs.declared.gold.TheConstants.{P}
use Rattle.gold_ntt.specs.Polynomial.{sum_to}
use Rattle.iden_files.specs.File.{File}
use Rattle.lig_layout.specs.declared.params.Params.{Params}
use Rattle.lig_layout.specs.declared.matrix.Vectors.{Vectors}
use Rattle.lig_layout.specs.System.{combined, left_sides, equation_count}
use Rattle.lig_proof.specs.declared.challenge.Challenges.{Challenges}
use Rattle.lig_proof.specs.Columns.{Encoded}
use Rattle.lig_proof.specs.Encoding.{InterpolateRows}
use Rattle.lig_proof.specs.Masks.{proximity_mask, linear_mask, product_mask}
use Rattle.lig_proof.specs.Sent.{alpha, rho, r_numbers, linear_test}
use Rattle.lig_proof.specs.Values.{HasDegrees}
use Rattle.lig_prover.specs.Transform.{values_at}

-- the values of the vectors fit in the rows that they have
pub record FitRows (p : Params) (v : Vectors) : Type 0 where
  pub w : length v.w ≤ p.wire_rows * p.l
  pub x : length v.x ≤ p.constraint_rows * p.l
  pub y : length v.y ≤ p.constraint_rows * p.l
  pub z : length v.z ≤ p.constraint_rows * p.l

-- value i of row k
abbrev pub entry_of : List (List ℕ) → ℕ → ℕ → ℕ
entry_of rows k i = slice_index (slice_index_or rows k []) i

-- the masks of the tests, in the order of a column
abbrev pub test_masks : Params → List ℕ → List (List ℕ)
test_masks p seed =
    proximity_mask p seed 0 ∷ proximity_mask p seed 1 ∷ linear_mask p seed 0 ∷ linear_mask p seed 1
    ∷ product_mask p seed 0 ∷ product_mask p seed 1 ∷ []

-- the matrix that has these polynomials
abbrev pub encoded_by : Params → List (List ℕ) → Encoded
encoded_by p polynomials = record {
  row = λ k. slice_index_or polynomials k [];
  proximity = λ t. slice_index_or polynomials (p.rows + t) [];
  linear = λ t. slice_index_or polynomials (p.rows + 2 + t) [];
  product = λ t. slice_index_or polynomials (p.rows + 4 + t) [];
}

-- column i of the matrix that has these codewords
abbrev pub column_in : List (List ℕ) → ℕ → List ℕ
column_in codewords i = map (λ codeword. slice_index codeword i) codewords

-- the codewords of these polynomials
pub record AreCodewords (p : Params) (polynomials codewords : List (List ℕ)) : Type 0 where
  pub count : length polynomials ≡ p.rows + 6
  pub degrees : HasDegrees p (encoded_by p polynomials)
  pub each : codewords ≡ map (values_at p.depth) polynomials

-- block b of a list that has what f gives at each place, in blocks of so many places
abbrev pub IsBlock : (ℕ → ℕ) → ℕ → ℕ → List ℕ → Type 0
IsBlock f size b values = values ≡ map f (range_with_len (b * size) size)

-- coefficient i of the test that the rows are codewords
abbrev pub proximity_value : Params → Challenges → List (List ℕ) → ℕ → ℕ → ℕ
proximity_value p c polynomials t i =
    (entry_of polynomials (p.rows + t) i
    + sum_to p.rows (λ k. alpha p c t k * entry_of polynomials k i)) % P

-- the test of the linear system at code point i, where the system's rows have the values at place j
abbrev pub linear_value : Params → List (List ℕ) → List (List ℕ) → ℕ → ℕ → ℕ → ℕ
linear_value p codewords factors t i j =
    (entry_of codewords (p.rows + 2 + t) i
    + sum_to p.rows (λ k. entry_of factors k j * entry_of codewords k i)) % P

-- the test of the products at code point i
abbrev pub product_value : Params → Challenges → List (List ℕ) → ℕ → ℕ → ℕ
product_value p c codewords t i =
    let x = λ (k : ℕ). entry_of codewords (p.wire_rows + k) i in
    let y = λ (k : ℕ). entry_of codewords (p.wire_rows + p.constraint_rows + k) i in
    let z = λ (k : ℕ). entry_of codewords (p.wire_rows + 2 * p.constraint_rows + k) i in
    (entry_of codewords (p.rows + 4 + t) i
    + sum_to p.constraint_rows (λ k. rho p c t k * (x k * y k + (P - z k)))) % P

-- the test of the linear system, with the polynomials of the system's rows
abbrev pub IsLinearTest : Params → File → Challenges → List (List ℕ) → ℕ → List ℕ → Type 0
IsLinearTest p f c polynomials t values =
    let numbers = r_numbers (equation_count f) c t in
    (system : ℕ → List ℕ)
    × InterpolateRows p (combined (p.rows * p.l) numbers (left_sides p f)) system
    × (values ≡ linear_test p (encoded_by p polynomials) system t)
