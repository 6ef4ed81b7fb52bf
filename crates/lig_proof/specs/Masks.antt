-- The random numbers of a proof, drawn from its seed: the masks of the rows, and then of each test
-- in turn the masks for its two repetitions, 0 and 1.
use Rattle.std.specs.Prelude.{ℕ, ◌+◌, ◌-◌, ◌*◌, ◌%◌, List, [], ◌∷◌, slice_index}
use Rattle.gold_field.specs.declared.gold.TheConstants.{P}
use Rattle.lig_layout.specs.declared.params.Params.{Params}
use Rattle.lig_proof.specs.Transcript.{numbers}
use Rattle.lig_proof.specs.Encoding.{masked}

-- n of the numbers that the seed gives, from number k on
abbrev pub mask_numbers : List ℕ → ℕ → ℕ → List ℕ
mask_numbers seed k n = numbers seed (2 * k) n

-- of row k: as many as the width
abbrev pub row_mask : Params → List ℕ → ℕ → List ℕ
row_mask p seed k = mask_numbers seed (k * p.l) p.l

-- of the test that the rows are codewords: any polynomial of 2 * l coefficients
abbrev pub proximity_mask : Params → List ℕ → ℕ → List ℕ
proximity_mask p seed t = mask_numbers seed (p.rows * p.l + t * (2 * p.l)) (2 * p.l)

-- of the test of the linear system: any one of 3 * l coefficients whose values at the message
-- points sum to 0, as the coefficients of X ^ 0, X ^ l and X ^ (2 * l) then do. All but the first
-- are drawn.
abbrev pub linear_mask : Params → List ℕ → ℕ → List ℕ
linear_mask p seed t =
    let free = 3 * p.l - 1 in
    let others = mask_numbers seed ((p.rows + 4) * p.l + t * free) free in
    let first = slice_index others (p.l - 1) in
    let second = slice_index others (2 * p.l - 1) in
    ((P - first) + (P - second)) % P ∷ others

-- of the test of the products: any one of 4 * l coefficients that is 0 at the message points
abbrev pub product_mask : Params → List ℕ → ℕ → List ℕ
product_mask p seed t =
    let before = (p.rows + 4) * p.l + 2 * (3 * p.l - 1) in
    masked p.l (4 * p.l) [] (mask_numbers seed (before + t * (3 * p.l)) (3 * p.l))
