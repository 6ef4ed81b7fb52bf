-- Every other code point, and what the codewords have there.
use Rattle.std.proofs.Common.{◌≡◌, ℕ, zero, suc, ◌+◌, ◌-◌, ◌*◌, ◌%◌, ◌^◌, ◌<◌, ◌≤◌, List, [], ◌∷◌}
use Rattle.std.proofs.Common.{◌++◌, length, map, take, replicate, get_or, refl, sym, ap, ◌∙◌, arith}
use Rattle.std.proofs.Common.{⊎_elim}
use Rattle.std.specs.List.{AllByRecursion, range_with_len}
use Rattle.std.proofs.lemmas.Bool.{cases_lt}
use Rattle.std.proofs.Math.Nat.{two-pow-succ}
use Rattle.std.proofs.lemmas.Nat.{pow-add}
use Rattle.std.proofs.lemmas.List.{get_or-map, length-append, length-replicate, get_or_append_left}
use Rattle.std.proofs.lemmas.List.{get_or-append_right, get_or_past, take-append-le, take_all}
use Rattle.gold_field.specs.declared.gold.TheConstants.{P}
use Rattle.gold_field.specs.Powers.{squared}
use Rattle.gold_field.proofs.Period.{squared-power, pow_square}
use Rattle.gold_field.proofs.FieldLaws.{product_of_rests}
use Rattle.gold_ntt.specs.declared.roots.TheConstants.{ROOT}
use Rattle.gold_ntt.specs.Polynomial.{sum_to, eval_at, IsPadded}
use Rattle.gold_ntt.specs.Transform.{root_of}
use Rattle.gold_ntt.proofs.Interpolation.{value_of_padded}
use Rattle.gold_ntt.proofs.Sums.{sum_same}
use Rattle.gold_ntt.proofs.Values.{pow_same, times_same}
use Rattle.lig_layout.specs.declared.params.Params.{Params}
use Rattle.lig_layout.specs.Sizes.{IsParams}
use Rattle.lig_proof.specs.declared.challenge.Challenges.{Challenges}
use Rattle.lig_proof.specs.Points.{code_point}
use Rattle.lig_proof.specs.ProofBytes.{AreValues}
use Rattle.lig_proof.specs.Sent.{rho, linear_test, product_test}
use Rattle.lig_proof.proofs.Interpolants.{width_is}
use Rattle.lig_proof.proofs.TestValues.{linear_test_has_values, product_test_has_values}
use Rattle.lig_prover.specs.Matrix.{AreCodewords, encoded_by, entry_of, linear_value, product_value}
use Rattle.lig_prover.specs.Transform.{values_at}
use Rattle.lig_proof.proofs.Collected.{range_same}
use Rattle.lig_prover.proofs.Coset.{get_or-values_at}

-- ---- every other code point

square_root : (d : ℕ) → 0 < d → d ≤ 32 → root_of (d - 1) % P ≡ (root_of d * root_of d) % P
unfolding root_of
square_root d some most =
    let n = 32 - d in
    let r = squared P n ROOT in
    let y = ROOT ^ (2 ^ n) in
    let up : 32 - (d - 1) ≡ suc n = omega arith in
    ap (λ m. squared P m ROOT % P) up ∙ squared-power P (suc n) ROOT
    ∙ ap (λ m. ROOT ^ m % P) (two-pow-succ n) ∙ ap (λ x. x % P) (pow-add ROOT (2 ^ n) (2 ^ n))
    ∙ sym (product_of_rests P y y) ∙ ap (λ w. w * w % P) (sym (squared-power P n ROOT))
    ∙ product_of_rests P r r

pub even_point : (p : Params) (j : ℕ) → IsParams p
    → 7 * root_of (p.depth - 1) ^ j % P ≡ code_point p (2 * j)
even_point p j h =
    let width = width_is p h in
    let depth = width.depth in
    let columns = width.columns in
    let r = root_of p.depth in
    let twice : j + j ≡ 2 * j = omega arith in
    times_same P 7 (root_of (p.depth - 1) ^ j) (r ^ (2 * j))
    (pow_same P (root_of (p.depth - 1)) (r * r) j (square_root p.depth (omega arith) (omega arith))
    ∙ ap (λ x. x % P) (pow_square r j ∙ ap (λ m. r ^ m) twice))

-- half as many as there are code points
pub half_points : (p : Params) → IsParams p → 2 ^ (p.depth - 1) ≡ 4 * p.l
half_points p h =
    let width = width_is p h in
    let columns = width.columns in
    let up : p.depth ≡ suc (p.depth - 1) = omega arith in
    let depth = h.depth in
    let whole = ap (λ m. 2 ^ m) up ∙ two-pow-succ (p.depth - 1) in
    omega (arith, depth, whole)

-- ---- what the codewords have there

codeword_entry : (p : Params) (polynomials codewords : List (List ℕ)) (k i : ℕ) → IsParams p
    → AreCodewords p polynomials codewords → k < p.rows + 6 → i < 8 * p.l
    → entry_of codewords k i ≡ eval_at (get_or polynomials k []) (code_point p i)
codeword_entry p polynomials codewords k i h are low inside =
    let count = are.count in
    let depth = h.depth in
    ap (λ cs. get_or (get_or cs k []) i 0) are.each
    ∙ ap (λ c. get_or c i 0) (get_or-map (values_at p.depth) polynomials k [] [] (omega arith))
    ∙ get_or-values_at p.depth (get_or polynomials k []) i (omega arith)

-- values at every other code point
values_there : (p : Params) (coefs : List ℕ) (f : ℕ → ℕ) → IsParams p
    → ((j : ℕ) → j < 4 * p.l → f j ≡ eval_at coefs (7 * root_of (p.depth - 1) ^ j % P))
    → map f (range_with_len 0 (4 * p.l)) ≡ values_at (p.depth - 1) coefs
values_there p coefs f h same =
    range_same f (λ j. eval_at coefs (7 * root_of (p.depth - 1) ^ j % P)) 0 (4 * p.l)
    (λ j l. same j (omega arith))
    ∙ ap (λ n. map (λ j. eval_at coefs (7 * root_of (p.depth - 1) ^ j % P)) (range_with_len 0 n))
    (sym (half_points p h))

-- one repetition of two ends within both
pub within_both : (t n : ℕ) → t < 2 → t * n + n ≤ 2 * n
within_both zero n l = omega arith
within_both (suc zero) n l = omega arith
within_both (suc (suc t)) n l = absurd (omega arith)

-- with so many zeros behind
abbrev pub widened : Params → List ℕ → List ℕ
widened p coefs = coefs ++ replicate p.l 0

widened_same : (p : Params) (coefs : List ℕ) → IsPadded coefs (widened p coefs)
widened_same p coefs = record {
  fits = omega (arith, length-append coefs (replicate p.l 0));
  coefficient = λ k. ⊎_elim
      (λ low. get_or_append_left coefs (replicate p.l 0) 0 k low)
      (λ high. get_or-append_right coefs (replicate p.l 0) (length coefs) k 0 refl high
      ∙ zeros p.l (k - length coefs) ∙ sym (get_or_past coefs k 0 high))
      (cases_lt k (length coefs));
}
  where
    zeros : (n k : ℕ) → ◌≡◌ {A = ℕ} (get_or (replicate n 0) k 0) 0
    zeros zero k = refl
    zeros (suc n) zero = refl
    zeros (suc n) (suc k) = zeros n k

pub widened_values : (p : Params) (n : ℕ) (coefs : List ℕ) → AreValues n coefs
    → AreValues (n + p.l) (widened p coefs)
widened_values p n coefs h = record {
  count = omega (
    arith,
    h.count,
    length-append coefs
        (replicate p.l 0),
    length-replicate {A = ℕ} p.l 0,
  );
  each = both_parts coefs h.each;
}
  where
    none : (n : ℕ) → AllByRecursion (λ x. x < P) (replicate n 0)
    none zero = tt
    none (suc n) = (omega arith, none n)

    both_parts : (xs : List ℕ) → AllByRecursion (λ x. x < P) xs
        → AllByRecursion (λ x. x < P) (xs ++ replicate p.l 0)
    both_parts [] a = none p.l
    both_parts (x ∷ xs) a = (a.0, both_parts xs a.1)

pub widened_front : (p : Params) (n : ℕ) (coefs : List ℕ) → length coefs ≡ n
    → take n (widened p coefs) ≡ coefs
widened_front p n coefs count =
    take-append-le n coefs (replicate p.l 0) (omega arith) ∙ take_all n coefs (omega arith)

module _ (p : Params) (polynomials codewords : List (List ℕ)) (t : ℕ) (h : IsParams p)
    (are : AreCodewords p polynomials codewords) (low : t < 2) where
  linear_at : (system factors : List (List ℕ)) (j : ℕ) → length system ≡ p.rows
      → ((k : ℕ) → k < p.rows → AreValues p.l (get_or system k []))
      → factors ≡ map (values_at (p.depth - 1)) system → j < 4 * p.l
      → linear_value p codewords factors t (2 * j) j
      ≡ eval_at (linear_test p (encoded_by p polynomials) (λ k. get_or system k []) t)
      (7 * root_of (p.depth - 1) ^ j % P)
  linear_at system factors j count degrees is inside =
      let x = 7 * root_of (p.depth - 1) ^ j % P in
      let point : code_point p (2 * j) ≡ x = sym (even_point p j h) in
      let half = half_points p h in
      let mask = codeword_entry p polynomials codewords (p.rows + 2 + t) (2 * j) h are (omega arith)
      (omega arith)
      ∙ ap (eval_at (get_or polynomials (p.rows + 2 + t) [])) point in
      let term = λ (k : ℕ). eval_at (get_or system k []) x * eval_at (get_or polynomials k []) x in
      let terms = sum_same p.rows (λ k. entry_of factors k j * entry_of codewords k (2 * j)) term
      (λ k l.
      let row = codeword_entry p polynomials codewords k (2 * j) h are (omega arith) (omega arith)
      ∙ ap (eval_at (get_or polynomials k [])) point in
      let factor : entry_of factors k j ≡ eval_at (get_or system k []) x =
      ap (λ fs. get_or (get_or fs k []) j 0) is
      ∙ ap (λ f. get_or f j 0) (get_or-map (values_at (p.depth - 1)) system k [] []
      (omega (arith, count)))
      ∙ get_or-values_at (p.depth - 1) (get_or system k []) j (omega arith) in
      ap (λ y. y * entry_of codewords k (2 * j)) factor
      ∙ ap (λ y. eval_at (get_or system k []) x * y) row) in
      ap (λ y. (y
      + sum_to p.rows (λ k. entry_of factors k j * entry_of codewords k (2 * j))) % P) mask
      ∙ ap (λ y. (eval_at (get_or polynomials (p.rows + 2 + t) []) x + y) % P) terms
      ∙ sym (linear_test_has_values p (encoded_by p polynomials)
      (λ k. get_or system k []) t x low degrees are.degrees)

  product_at : (c : Challenges) (j : ℕ) → j < 4 * p.l
      → product_value p c codewords t (2 * j)
      ≡ eval_at (product_test p c (encoded_by p polynomials) t) (7 * root_of (p.depth - 1) ^ j % P)
  product_at c j inside =
      let x = 7 * root_of (p.depth - 1) ^ j % P in
      let rows = h.rows in
      let point : code_point p (2 * j) ≡ x = sym (even_point p j h) in
      let row = λ (k : ℕ) (l : k < p.rows + 6).
      codeword_entry p polynomials codewords k (2 * j) h are l
      (omega arith)
      ∙ ap (eval_at (get_or polynomials k [])) point in
      let value = λ (k : ℕ). eval_at (get_or polynomials k []) x in
      let entry = λ (k : ℕ). entry_of codewords k (2 * j) in
      let form = λ (n x y z : ℕ). n * (x * y + (P - z)) in
      let x_at = λ (k : ℕ). p.wire_rows + k in
      let y_at = λ (k : ℕ). p.wire_rows + p.constraint_rows + k in
      let z_at = λ (k : ℕ). p.wire_rows + 2 * p.constraint_rows + k in
      let terms = sum_same p.constraint_rows
      (λ k. form (rho p c t k) (entry (x_at k)) (entry (y_at k)) (entry (z_at k)))
      (λ k. form (rho p c t k) (value (x_at k)) (value (y_at k)) (value (z_at k)))
      (λ k l i. form (rho p c t k) (row (x_at k) (omega arith) i) (row (y_at k) (omega arith) i)
      (row (z_at k) (omega arith) i)) in
      ap (λ y. (y + sum_to p.constraint_rows (λ k. form (rho p c t k) (entry (x_at k))
      (entry (y_at k)) (entry (z_at k)))) % P)
      (row (p.rows + 4 + t) (omega arith))
      ∙ ap (λ y. (value (p.rows + 4 + t) + y) % P) terms
      ∙ sym (product_test_has_values p c (encoded_by p polynomials) t x low h are.degrees)

  pub product_are : (c : Challenges) (values : List ℕ)
      → values ≡ map (λ j. product_value p c codewords t (2 * j)) (range_with_len 0 (4 * p.l))
      → values ≡ values_at (p.depth - 1) (product_test p c (encoded_by p polynomials) t)
  product_are c values is =
      is ∙ values_there p (product_test p c (encoded_by p polynomials) t)
      (λ j. product_value p c codewords t (2 * j)) h
      (λ j l. product_at c j l)

  pub linear_are : (system factors : List (List ℕ)) (values : List ℕ) → length system ≡ p.rows
      → ((k : ℕ) → k < p.rows → AreValues p.l (get_or system k []))
      → factors ≡ map (values_at (p.depth - 1)) system
      → values
      ≡ map (λ j. linear_value p codewords factors t (2 * j) j) (range_with_len 0 (4 * p.l))
      → values ≡ values_at (p.depth - 1) (widened p
      (linear_test p (encoded_by p polynomials) (λ k. get_or system k []) t))
  linear_are system factors values count degrees is made =
      let test = linear_test p (encoded_by p polynomials) (λ k. get_or system k []) t in
      made ∙ values_there p (widened p test) (λ j. linear_value p codewords factors t (2 * j) j) h
      (λ j l. linear_at system factors j count degrees is l
      ∙ sym (value_of_padded test (widened p test) (7 * root_of (p.depth - 1) ^ j % P)
      (widened_same p test)))
