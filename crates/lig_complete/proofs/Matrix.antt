-- The places of values in the matrix.
use Rattle.std.proofs.Common.{◌≡◌, ℕ, suc, ◌+◌, ◌-◌, ◌*◌, ◌<◌, ◌≤◌, List, ◌++◌, length, get_or}
use Rattle.std.proofs.Common.{drop, replicate, sym, ap, ◌∙◌, arith, ⊎_elim}
use Rattle.std.proofs.Math.Nat.{mul-le-mul_left}
use Rattle.std.proofs.Math.Seq.{get_or-append_right}
use Rattle.std.proofs.lemmas.Bool.{cases_lt}
use Rattle.std.proofs.lemmas.List.{length-append, length-replicate, get_or_append_left}
use Rattle.std.proofs.lemmas.List.{get_or-append-add, get_or-replicate, get_or_past, get_or-take}
use Rattle.std.proofs.lemmas.List.{get_or-drop}
use Rattle.lig_layout.specs.declared.params.Params.{Params}
use Rattle.lig_layout.specs.declared.matrix.Vectors.{Vectors}
use Rattle.lig_layout.specs.Layout.{padded, message, row_at}
use Rattle.lig_layout.proofs.Solving.{length-padded}
use Rattle.lig_complete.proofs.Sizes.{Fits}

pub zeros_at : (n k : ℕ) → get_or (replicate {A = ℕ} n 0) k 0 ≡ 0
zeros_at n k = ⊎_elim
    (λ low. get_or-replicate n k 0 0 low)
    (λ high. get_or_past (replicate {A = ℕ} n 0) k 0 (omega (arith, length-replicate {A = ℕ} n 0)))
    (cases_lt k n)

padded_at : (n : ℕ) (xs : List ℕ) (k : ℕ) → get_or (padded n xs) k 0 ≡ get_or xs k 0
padded_at n xs k =
    let zeros = replicate {A = ℕ} (n - length xs) 0 in
    ⊎_elim
    (λ low. get_or_append_left xs zeros 0 k low)
    (λ high. get_or-append_right xs zeros k 0 high ∙ zeros_at (n - length xs) (k - length xs)
    ∙ sym (get_or_past xs k 0 high))
    (cases_lt k (length xs))

-- within padded values, with more behind
within : (n : ℕ) (xs ys : List ℕ) (k : ℕ) → length xs ≤ n → k < n
    → get_or (padded n xs ++ ys) k 0 ≡ get_or xs k 0
within n xs ys k fits low =
    get_or_append_left (padded n xs) ys 0 k (omega (arith, length-padded n xs fits))
    ∙ padded_at n xs k

-- behind them
behind : (n : ℕ) (xs ys : List ℕ) (k : ℕ) → length xs ≤ n → get_or (padded n xs ++ ys) (n + k) 0
    ≡ get_or ys k 0
behind n xs ys k fits =
    ap (λ (a : ℕ). get_or (padded n xs ++ ys) (a + k) 0) (sym (length-padded n xs fits))
    ∙ get_or-append-add (padded n xs) ys k 0

-- row k of m rows ends within m * l
pub grid_below : (m l k j : ℕ) → k < m → j < l → k * l + j < m * l
grid_below m l k j low inside = let more : l * suc k ≤ l * m = mul-le-mul_left l low in omega arith

-- a place in a row
pub row_place : (p : Params) (values : List ℕ) (k j : ℕ) → j < p.l
    → get_or (row_at p values k) j 0 ≡ get_or values (k * p.l + j) 0
row_place p values k j inside =
    get_or-take p.l (drop (k * p.l) values) j 0 inside ∙ get_or-drop (k * p.l) values j 0

module _ (p : Params) (v : Vectors) (fits : Fits p v) where
  pub length-message : length (message p v) ≡ p.rows * p.l
  length-message =
      let wires = p.wire_rows * p.l in
      let side = p.constraint_rows * p.l in
      let rows : p.rows * p.l ≡ wires + (side + (side + side)) =
      ap (λ (n : ℕ). n * p.l) fits.rows ∙ omega arith in
      let x = padded side v.x in
      let y = padded side v.y in
      let z = padded side v.z in
      omega (
        arith,
        length-append (padded wires v.w) (x ++ (y ++ z)),
        length-append x (y ++ z),
        length-append y z,
        length-padded wires v.w fits.w,
        length-padded side v.x fits.x,
        length-padded side v.y fits.y,
        length-padded side v.z fits.z,
      )

  module _ (k j : ℕ) (low : k < p.constraint_rows) (inside : j < p.l) where
    pub x_at : get_or (message p v) ((p.wire_rows + k) * p.l + j) 0 ≡ get_or v.x (k * p.l + j) 0
    x_at =
        let wires = p.wire_rows * p.l in
        let side = p.constraint_rows * p.l in
        let rest = padded side v.y ++ padded side v.z in
        let i = k * p.l + j in
        let place : (p.wire_rows + k) * p.l + j ≡ wires + i = omega arith in
        ap (λ (a : ℕ). get_or (message p v) a 0) place
        ∙ behind wires v.w (padded side v.x ++ rest) i fits.w
        ∙ within side v.x rest i fits.x (grid_below p.constraint_rows p.l k j low inside)

    pub y_at : get_or (message p v) ((p.wire_rows + p.constraint_rows + k) * p.l + j) 0
        ≡ get_or v.y (k * p.l + j) 0
    y_at =
        let wires = p.wire_rows * p.l in
        let side = p.constraint_rows * p.l in
        let rest = padded side v.y ++ padded side v.z in
        let i = k * p.l + j in
        let place : (p.wire_rows + p.constraint_rows + k) * p.l + j ≡ wires + (side + i) =
        omega arith in
        ap (λ (a : ℕ). get_or (message p v) a 0) place
        ∙ behind wires v.w (padded side v.x ++ rest) (side + i) fits.w
        ∙ behind side v.x rest i fits.x
        ∙ within side v.y (padded side v.z) i fits.y
        (grid_below p.constraint_rows p.l k j low inside)

    pub z_at : get_or (message p v) ((p.wire_rows + 2 * p.constraint_rows + k) * p.l + j) 0
        ≡ get_or v.z (k * p.l + j) 0
    z_at =
        let wires = p.wire_rows * p.l in
        let side = p.constraint_rows * p.l in
        let rest = padded side v.y ++ padded side v.z in
        let i = k * p.l + j in
        let place : (p.wire_rows + 2 * p.constraint_rows + k) * p.l + j
        ≡ wires + (side + (side + i)) = omega arith in
        ap (λ (a : ℕ). get_or (message p v) a 0) place
        ∙ behind wires v.w (padded side v.x ++ rest) (side + (side + i)) fits.w
        ∙ behind side v.x rest (side + i) fits.x
        ∙ behind side v.y (padded side v.z) i fits.y
        ∙ padded_at side v.z i
