-- The matrix that the rows and the masks make.
use Rattle.std.proofs.Common.{◌≡◌, ℕ, zero, suc, ◌+◌, ◌*◌, ◌^◌, ◌<◌, List, [], ◌++◌, length}
use Rattle.std.proofs.Common.{get_or, sym, ap, subst, ◌∙◌, arith}
use Rattle.std.specs.List.{AllZip, range_with_len}
use Rattle.std.proofs.lemmas.Nat.{pow_pos}
use Rattle.std.proofs.lemmas.List.{get_or_append_left, get_or-append-add, length-append}
use Rattle.iden_files.specs.File.{File}
use Rattle.lig_layout.specs.declared.params.Params.{Params}
use Rattle.lig_layout.specs.declared.matrix.Vectors.{Vectors}
use Rattle.lig_layout.specs.Sizes.{IsParams, params_of}
use Rattle.lig_layout.specs.Width.{width_exponent}
use Rattle.lig_layout.specs.Layout.{message, padded, row_at}
use Rattle.lig_proof.specs.Encoding.{IsMaskedRow}
use Rattle.lig_proof.specs.Masks.{row_mask, proximity_mask, linear_mask, product_mask}
use Rattle.lig_proof.specs.Proving.{IsEncoded}
use Rattle.lig_prover.specs.Matrix.{FitRows, encoded_by, test_masks}
use Rattle.lig_prover.specs.Proves.{AreOf}
use Rattle.lig_layout.proofs.Solving.{length-padded}
use Rattle.lig_layout.proofs.Wired.{ceil_room}
use Rattle.lig_proof.proofs.Collected.{at_first, placed_length}

-- the vectors of a file fit in the rows that it has
pub vectors_fit : (p : Params) (f : File) (v : Vectors) → p ≡ params_of f → AreOf f v → FitRows p v
vectors_fit p f v is are =
    let q = length f.constraints in
    let e = width_exponent (f.wires + 3 * q) in
    let wires = ceil_room f.wires (2 ^ e) (pow_pos e) in
    let sides = ceil_room q (2 ^ e) (pow_pos e) in
    let here : FitRows (params_of f) v = record {
      w = omega (arith, are.w);
      x = omega (arith, are.x);
      y = omega (arith, are.y);
      z = omega (arith, are.z);
    } in
    let Fits : Params → Type 0 = λ sizes. FitRows sizes v in subst Fits (sym is) here

pub length-message : (p : Params) (v : Vectors) → IsParams p → FitRows p v
    → length (message p v) ≡ p.rows * p.l
length-message p v h fit =
    let side = p.constraint_rows * p.l in
    let wires = p.wire_rows * p.l in
    let w = length-padded wires v.w fit.w in
    let x = length-padded side v.x fit.x in
    let y = length-padded side v.y fit.y in
    let z = length-padded side v.z fit.z in
    let last = length-append (padded side v.y) (padded side v.z) in
    let middle = length-append (padded side v.x) (padded side v.y ++ padded side v.z) in
    let whole = length-append (padded wires v.w)
    (padded side v.x ++ (padded side v.y ++ padded side v.z)) in
    let sides : (p.wire_rows + 3 * p.constraint_rows) * p.l
    ≡ wires + (side + (side + side)) = omega arith in
    let sum : length (message p v) ≡ wires + (side + (side + side)) = omega
    (arith, whole, w, middle, x, last, y, z) in
    sum ∙ sym sides ∙ ap (λ r. r * p.l) (sym h.rows)

-- these are the polynomials of the rows under their masks
abbrev pub AreMaskedRows : Params → List ℕ → List ℕ → List (List ℕ) → Type 0
AreMaskedRows p values seed rows =
    AllZip (λ k coefs. IsMaskedRow p (row_at p values k) (row_mask p seed k) coefs)
    (range_with_len 0 p.rows) rows

mask_at : (p : Params) (seed : List ℕ) (rows : List (List ℕ)) (place k : ℕ)
    → place ≡ length rows + k
    → get_or (rows ++ test_masks p seed) place [] ≡ get_or (test_masks p seed) k []
mask_at p seed rows place k is =
    ap (λ j. get_or (rows ++ test_masks p seed) j []) is
    ∙ get_or-append-add rows (test_masks p seed) k []

pub encoded_from : (p : Params) (v : Vectors) (seed values : List ℕ) (rows : List (List ℕ))
    → values ≡ message p v → AreMaskedRows p values seed rows
    → IsEncoded p v seed (encoded_by p (rows ++ test_masks p seed))
encoded_from p v seed values rows is masked =
    let count : length rows ≡ p.rows = placed_length
    (λ k coefs. IsMaskedRow p (row_at p values k) (row_mask p seed k) coefs) 0 p.rows rows masked in
    record {
      row = λ k l.
          let here = get_or_append_left rows (test_masks p seed) [] k (omega arith) in
          let Masked : List ℕ → List ℕ → Type 0 = λ vs coefs. IsMaskedRow p (row_at p vs k)
          (row_mask p seed k) coefs in
          subst (λ coefs. Masked (message p v) coefs) (sym here)
          (subst (λ vs. Masked vs (get_or rows k [])) is
          (at_first (λ k coefs. IsMaskedRow p (row_at p values k) (row_mask p seed k) coefs) p.rows
          rows [] masked k l));
      proximity = λ t l. proximity_at count t l;
      linear = λ t l. linear_at count t l;
      product = λ t l. product_at count t l;
    }
  where
    proximity_at : length rows ≡ p.rows → (t : ℕ) → t < 2
        → get_or (rows ++ test_masks p seed) (p.rows + t) [] ≡ proximity_mask p seed t
    proximity_at count zero l = mask_at p seed rows (p.rows + 0) 0 (omega arith)
    proximity_at count (suc zero) l = mask_at p seed rows (p.rows + 1) 1 (omega arith)
    proximity_at count (suc (suc t)) l = absurd (omega arith)

    linear_at : length rows ≡ p.rows → (t : ℕ) → t < 2
        → get_or (rows ++ test_masks p seed) (p.rows + 2 + t) [] ≡ linear_mask p seed t
    linear_at count zero l = mask_at p seed rows (p.rows + 2 + 0) 2 (omega arith)
    linear_at count (suc zero) l = mask_at p seed rows (p.rows + 2 + 1) 3 (omega arith)
    linear_at count (suc (suc t)) l = absurd (omega arith)

    product_at : length rows ≡ p.rows → (t : ℕ) → t < 2
        → get_or (rows ++ test_masks p seed) (p.rows + 4 + t) [] ≡ product_mask p seed t
    product_at count zero l = mask_at p seed rows (p.rows + 4 + 0) 4 (omega arith)
    product_at count (suc zero) l = mask_at p seed rows (p.rows + 4 + 1) 5 (omega arith)
    product_at count (suc (suc t)) l = absurd (omega arith)
