-- What a column of the encoded matrix says.
use Rattle.std.proofs.Common.{◌≡◌, ℕ, zero, suc, ◌+◌, ◌<◌, List, [], ◌∷◌, ◌++◌, length, get_or, map}
use Rattle.std.proofs.Common.{sym, ap, ◌∙◌, arith, zero-add, lit<}
use Rattle.std.specs.List.{AllByRecursion, range_with_len}
use Rattle.std.proofs.lemmas.Nat.{mod_below}
use Rattle.std.proofs.lemmas.Simd.{map-map}
use Rattle.std.proofs.lemmas.List.{length-append, length-map, map-append, get_or_append_left}
use Rattle.std.proofs.lemmas.List.{get_or-append-add}
use Rattle.std.proofs.lemmas.List.FromFn.{length-map-range_with_len, get_or-map-range_with_len}
use Rattle.gold_field.specs.declared.gold.TheConstants.{P}
use Rattle.gold_ntt.specs.Polynomial.{eval_at}
use Rattle.lig_layout.specs.declared.params.Params.{Params}
use Rattle.lig_proof.specs.ProofBytes.{AreValues}
use Rattle.lig_proof.specs.Points.{code_point}
use Rattle.lig_proof.specs.Columns.{Encoded, polynomials, column_at, row_value}
use Rattle.lig_proof.specs.Columns.{proximity_mask_value, linear_mask_value, product_mask_value}

module _ (p : Params) (e : Encoded) (i : ℕ) where
  abbrev value : List ℕ → ℕ
  value polynomial = eval_at polynomial (code_point p i)

  abbrev rows : List ℕ
  rows = map value (map e.row (range_with_len 0 p.rows))

  abbrev masks : List ℕ
  masks = value (e.proximity 0) ∷ value (e.proximity 1) ∷ value (e.linear 0) ∷ value (e.linear 1)
      ∷ value (e.product 0) ∷ value (e.product 1) ∷ []

  parts : column_at p e i ≡ rows ++ masks
  parts = map-append value (map e.row (range_with_len 0 p.rows))
      (e.proximity 0 ∷ e.proximity 1 ∷ e.linear 0 ∷ e.linear 1 ∷ e.product 0 ∷ e.product 1 ∷ [])

  length-rows : length rows ≡ p.rows
  length-rows = length-map (map e.row (range_with_len 0 p.rows)) value
      ∙ length-map-range_with_len e.row 0 p.rows

  pub row_is : (k : ℕ) → k < p.rows
      → row_value (column_at p e i) k ≡ eval_at (e.row k) (code_point p i)
  row_is k low =
      ap (λ (xs : List ℕ). get_or xs k 0) (parts)
      ∙ get_or_append_left rows masks 0 k (omega (arith, length-rows))
      ∙ ap (λ (xs : List ℕ). get_or xs k 0) (map-map value e.row (range_with_len 0 p.rows))
      ∙ get_or-map-range_with_len (λ k. value (e.row k)) 0 p.rows k k 0 low (zero-add k)

  mask_is : (j : ℕ) → get_or (column_at p e i) (p.rows + j) 0 ≡ get_or masks j 0
  mask_is j =
      ap (λ (xs : List ℕ). get_or xs (p.rows + j) 0) (parts)
      ∙ ap (λ (n : ℕ). get_or (rows ++ masks) (n + j) 0) (sym (length-rows))
      ∙ get_or-append-add rows masks j 0

  pub proximity_is : (t : ℕ) → t < 2 → proximity_mask_value p (column_at p e i) t
      ≡ eval_at (e.proximity t) (code_point p i)
  proximity_is zero low = mask_is 0
  proximity_is (suc zero) low = mask_is 1
  proximity_is (suc (suc t)) low = absurd (omega arith)

  pub linear_is : (t : ℕ) → t < 2 → linear_mask_value p (column_at p e i) t
      ≡ eval_at (e.linear t) (code_point p i)
  linear_is zero low = let at : p.rows + 2 + 0 ≡ p.rows + 2 = omega arith
      in ap (λ (n : ℕ). get_or (column_at p e i) n 0) at ∙ mask_is 2
  linear_is (suc zero) low = let at : p.rows + 2 + 1 ≡ p.rows + 3 = omega arith
      in ap (λ (n : ℕ). get_or (column_at p e i) n 0) at ∙ mask_is 3
  linear_is (suc (suc t)) low = absurd (omega arith)

  pub product_is : (t : ℕ) → t < 2 → product_mask_value p (column_at p e i) t
      ≡ eval_at (e.product t) (code_point p i)
  product_is zero low = let at : p.rows + 4 + 0 ≡ p.rows + 4 = omega arith
      in ap (λ (n : ℕ). get_or (column_at p e i) n 0) at ∙ mask_is 4
  product_is (suc zero) low = let at : p.rows + 4 + 1 ≡ p.rows + 5 = omega arith
      in ap (λ (n : ℕ). get_or (column_at p e i) n 0) at ∙ mask_is 5
  product_is (suc (suc t)) low = absurd (omega arith)

  each_low : (polys : List (List ℕ)) → AllByRecursion (λ x. x < P) (map value polys)
  each_low [] = tt
  each_low (a ∷ polys) = (mod_below _ P (lit< tt), each_low polys)

  -- numbers of the field
  pub column_values : AreValues (p.rows + 6) (column_at p e i)
  column_values = record {
    count = ap length (parts) ∙ omega (arith, length-append rows masks, length-rows);
    each = each_low (polynomials p e);
  }
