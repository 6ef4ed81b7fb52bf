-- A relation, vectors and a seed have one proof in each version.
use Rattle.std.proofs.Common.{◌≡◌, ℕ, ◌+◌, ◌-◌, ◌*◌, ◌%◌, ◌<◌, List, [], ◌∷◌, ◌++◌, map, get_or}
use Rattle.std.proofs.Common.{sym, ap, subst, ◌∙◌, arith}
use Rattle.std.specs.List.{range_with_len}
use Rattle.gold_field.specs.declared.gold.TheConstants.{P}
use Rattle.gold_ntt.specs.Polynomial.{sum_to, eval_at, product_at}
use Rattle.gold_ntt.proofs.Sums.{sum_same}
use Rattle.lig_layout.specs.declared.params.Params.{Params}
use Rattle.lig_layout.specs.declared.matrix.Vectors.{Vectors}
use Rattle.lig_layout.specs.Sizes.{params_of, IsParams}
use Rattle.lig_layout.specs.Layout.{message, row_at}
use Rattle.lig_layout.specs.Laws.{publics_of}
use Rattle.lig_layout.specs.System.{combined, left_sides, equation_count}
use Rattle.lig_merkle.specs.Merkle.{leaf_hash, root_at}
use Rattle.lig_proof.specs.declared.challenge.Challenges.{Challenges}
use Rattle.lig_proof.specs.declared.version.Version.{Version}
use Rattle.lig_proof.specs.Transcript.{queries}
use Rattle.lig_proof.specs.Points.{code_point}
use Rattle.lig_proof.specs.Masks.{row_mask}
use Rattle.lig_proof.specs.Columns.{Encoded, polynomials, commitment}
use Rattle.lig_proof.specs.Sent.{alpha, rho, r_numbers, in_order, proximity_test, linear_test}
use Rattle.lig_proof.specs.Sent.{product_test, sent_polynomials}
use Rattle.lig_proof.specs.Proving.{IsEncoded, AreSystems, challenges_for, proof_spelling}
use Rattle.lig_proof.specs.Proving.{bytes_in, ProofsAreOne}
use Rattle.lig_proof.proofs.Collected.{range_same}
use Rattle.lig_proof.proofs.Interpolants.{masked_rows_are_one, polynomials_are_one}

-- the same polynomials, as far as they count
pub record AreSame (p : Params) (a b : Encoded) : Type 0 where
  pub row : (k : ℕ) → k < p.rows → a.row k ≡ b.row k
  pub proximity : (t : ℕ) → t < 2 → a.proximity t ≡ b.proximity t
  pub linear : (t : ℕ) → t < 2 → a.linear t ≡ b.linear t
  pub product : (t : ℕ) → t < 2 → a.product t ≡ b.product t

encoded_once : (p : Params) (v : Vectors) (seed : List ℕ) (a b : Encoded) → IsParams p
    → IsEncoded p v seed a → IsEncoded p v seed b → AreSame p a b
encoded_once p v seed a b h first second = record {
  row = λ k l.
      masked_rows_are_one p (row_at p (message p v) k) (row_mask p seed k) (a.row k) (b.row k) h
      (first.row k l) (second.row k l);
  proximity = λ t l. first.proximity t l ∙ sym (second.proximity t l);
  linear = λ t l. first.linear t l ∙ sym (second.linear t l);
  product = λ t l. first.product t l ∙ sym (second.product t l);
}

polynomials_same : (p : Params) (a b : Encoded) → AreSame p a b → polynomials p a ≡ polynomials p b
polynomials_same p a b same =
    let zero_low : 0 < 2 = omega arith in
    let one_low : 1 < 2 = omega arith in
    ap (λ xs. xs
    ++ (a.proximity 0 ∷ a.proximity 1 ∷ a.linear 0 ∷ a.linear 1 ∷ a.product 0 ∷ a.product 1 ∷ []))
    (range_same a.row b.row 0 p.rows (λ k l. same.row k (omega arith)))
    ∙ ap (λ x. map b.row (range_with_len 0 p.rows)
    ++ (x ∷ a.proximity 1 ∷ a.linear 0 ∷ a.linear 1 ∷ a.product 0 ∷ a.product 1 ∷ []))
    (same.proximity 0 zero_low)
    ∙ ap (λ x. map b.row (range_with_len 0 p.rows)
    ++ (b.proximity 0 ∷ x ∷ a.linear 0 ∷ a.linear 1 ∷ a.product 0 ∷ a.product 1 ∷ []))
    (same.proximity 1 one_low)
    ∙ ap (λ x. map b.row (range_with_len 0 p.rows)
    ++ (b.proximity 0 ∷ b.proximity 1 ∷ x ∷ a.linear 1 ∷ a.product 0 ∷ a.product 1 ∷ []))
    (same.linear 0 zero_low)
    ∙ ap (λ x. map b.row (range_with_len 0 p.rows)
    ++ (b.proximity 0 ∷ b.proximity 1 ∷ b.linear 0 ∷ x ∷ a.product 0 ∷ a.product 1 ∷ []))
    (same.linear 1 one_low)
    ∙ ap (λ x. map b.row (range_with_len 0 p.rows)
    ++ (b.proximity 0 ∷ b.proximity 1 ∷ b.linear 0 ∷ b.linear 1 ∷ x ∷ a.product 1 ∷ []))
    (same.product 0 zero_low)
    ∙ ap (λ x. map b.row (range_with_len 0 p.rows)
    ++ (b.proximity 0 ∷ b.proximity 1 ∷ b.linear 0 ∷ b.linear 1 ∷ b.product 0 ∷ x ∷ []))
    (same.product 1 one_low)

test_same : (n : ℕ) (f g : ℕ → ℕ) → ((i : ℕ) → f i ≡ g i) → map (λ i. f i % P) (range_with_len 0 n)
    ≡ map (λ i. g i % P) (range_with_len 0 n)
test_same n f g same =
    range_same (λ i. f i % P) (λ i. g i % P) 0 n (λ i l. ap (λ x. x % P) (same i))

module _ (p : Params) (c : Challenges) (a b : Encoded) (h : IsParams p) (same : AreSame p a b)
    (first second : ℕ → ℕ → List ℕ)
    (systems : (t k : ℕ) → t < 2 → k < p.rows → first t k ≡ second t k) where
  proximity_same : (t : ℕ) → t < 2 → proximity_test p c a t ≡ proximity_test p c b t
  proximity_same t l =
      test_same (2 * p.l)
      (λ i. get_or (a.proximity t) i 0 + sum_to p.rows (λ k. alpha p c t k * get_or (a.row k) i 0))
      (λ i. get_or (b.proximity t) i 0 + sum_to p.rows (λ k. alpha p c t k * get_or (b.row k) i 0))
      (λ i. ap (λ xs. get_or xs i 0 + sum_to p.rows (λ k. alpha p c t k * get_or (a.row k) i 0))
      (same.proximity t l)
      ∙ ap (λ n. get_or (b.proximity t) i 0 + n)
      (sum_same p.rows (λ k. alpha p c t k * get_or (a.row k) i 0)
      (λ k. alpha p c t k * get_or (b.row k) i 0)
      (λ k m. ap (λ xs. alpha p c t k * get_or xs i 0) (same.row k m))))

  linear_same : (t : ℕ) → t < 2 → linear_test p a (first t) t ≡ linear_test p b (second t) t
  linear_same t l =
      test_same (3 * p.l)
      (λ i. get_or (a.linear t) i 0 + sum_to p.rows (λ k. product_at (first t k) (a.row k) i))
      (λ i. get_or (b.linear t) i 0 + sum_to p.rows (λ k. product_at (second t k) (b.row k) i))
      (λ i. ap (λ xs. get_or xs i 0 + sum_to p.rows (λ k. product_at (first t k) (a.row k) i))
      (same.linear t l)
      ∙ ap (λ n. get_or (b.linear t) i 0 + n)
      (sum_same p.rows (λ k. product_at (first t k) (a.row k) i)
      (λ k. product_at (second t k) (b.row k) i)
      (λ k m. ap (λ xs. product_at xs (a.row k) i) (systems t k l m)
      ∙ ap (λ xs. product_at (second t k) xs i) (same.row k m))))

  product_same : (t : ℕ) → t < 2 → product_test p c a t ≡ product_test p c b t
  product_same t l =
      let rows = h.rows in
      let term = λ (e : Encoded). λ (i k : ℕ). rho p c t k
      * (product_at (e.row (p.wire_rows + k)) (e.row (p.wire_rows + p.constraint_rows + k)) i
      + (P - get_or (e.row (p.wire_rows + 2 * p.constraint_rows + k)) i 0)) in
      test_same (4 * p.l) (λ i. get_or (a.product t) i 0 + sum_to p.constraint_rows (term a i))
      (λ i. get_or (b.product t) i 0 + sum_to p.constraint_rows (term b i))
      (λ i. ap (λ xs. get_or xs i 0 + sum_to p.constraint_rows (term a i)) (same.product t l)
      ∙ ap (λ n. get_or (b.product t) i 0 + n)
      (sum_same p.constraint_rows (term a i) (term b i) (λ k m.
      let x = p.wire_rows + k in
      let y = p.wire_rows + p.constraint_rows + k in
      let z = p.wire_rows + 2 * p.constraint_rows + k in
      ap (λ xs. rho p c t k * (product_at xs (a.row y) i + (P - get_or (a.row z) i 0)))
      (same.row x (omega arith))
      ∙ ap (λ xs. rho p c t k * (product_at (b.row x) xs i + (P - get_or (a.row z) i 0)))
      (same.row y (omega arith))
      ∙ ap (λ xs. rho p c t k * (product_at (b.row x) (b.row y) i + (P - get_or xs i 0)))
      (same.row z (omega arith)))))

  polys_same : in_order (sent_polynomials p c a first) ≡ in_order (sent_polynomials p c b second)
  polys_same =
      let zero_low : 0 < 2 = omega arith in
      let one_low : 1 < 2 = omega arith in
      six (proximity_test p c a 0) (linear_test p a (first 0) 0) (product_test p c a 0)
      (proximity_test p c a 1) (linear_test p a (first 1) 1) (product_test p c a 1)
      (proximity_test p c b 0) (linear_test p b (second 0) 0) (product_test p c b 0)
      (proximity_test p c b 1)
      (linear_test p b (second 1) 1) (product_test p c b 1)
      (proximity_same 0 zero_low) (linear_same 0 zero_low) (product_same 0 zero_low)
      (proximity_same 1 one_low) (linear_same 1 one_low) (product_same 1 one_low)
    where
      six : (a1 b1 c1 d1 e1 f1 a2 b2 c2 d2 e2 f2 : List ℕ) → a1 ≡ a2 → b1 ≡ b2 → c1 ≡ c2 → d1 ≡ d2
          → e1 ≡ e2 → f1 ≡ f2
          → a1 ++ (b1 ++ (c1 ++ (d1 ++ (e1 ++ f1)))) ≡ a2 ++ (b2 ++ (c2 ++ (d2 ++ (e2 ++ f2))))
      six a1 b1 c1 d1 e1 f1 a2 b2 c2 d2 e2 f2 ea eb ec ed ee ef = cc

commitment_same : (p : Params) (a b : Encoded) → AreSame p a b → commitment p a ≡ commitment p b
commitment_same p a b same =
    ap (λ (all : List (List ℕ)). root_at p.depth
    (map (λ i. leaf_hash (map (λ polynomial. eval_at polynomial (code_point p i)) all))
    (range_with_len 0 (8 * p.l)))) (polynomials_same p a b same)

-- the bytes are a function of the columns
bytes_same : (version : Version) (p : Params) (a b : Encoded) (polys drawn : List ℕ) → AreSame p a b
    → bytes_in version p a polys drawn ≡ bytes_in version p b polys drawn
bytes_same version p a b polys drawn same =
    ap (λ (all : List (List ℕ)).
    let column = λ (i : ℕ). map (λ polynomial. eval_at polynomial (code_point p i)) all in
    let tree = map (λ i. leaf_hash (column i)) (range_with_len 0 (8 * p.l)) in
    proof_spelling version p column tree polys drawn) (polynomials_same p a b same)

pub proofs_are_one : ProofsAreOne
proofs_are_one version r1cs_bytes f v seed xs ys h first second =
    let p = params_of f in
    let same = encoded_once p v seed first.encoded second.encoded h first.rows second.rows in
    let challenges : first.challenges ≡ second.challenges =
    first.challenges_drawn
    ∙ ap (λ root. challenges_for r1cs_bytes f (publics_of f v.w) root)
    (commitment_same p first.encoded second.encoded same) ∙ sym second.challenges_drawn in
    let Systems : Challenges → Type 0 = λ c. AreSystems f c first.system in
    let moved = subst Systems challenges first.systems in
    let systems : (t k : ℕ) → t < 2 → k < p.rows → first.system t k ≡ second.system t k = λ t k l m.
    polynomials_are_one p
    (row_at p
    (combined (p.rows * p.l) (r_numbers (equation_count f) second.challenges t)
    (left_sides p f)) k) (first.system t k) (second.system t k) h (moved t l k m)
    (second.systems t l k m) in
    let sent =
    polys_same p second.challenges first.encoded second.encoded h same first.system
    second.system systems in
    let bytes = λ (c : Challenges). λ (polys : List ℕ). bytes_in version p first.encoded polys
    (queries p c.first polys) in
    let polys = in_order (sent_polynomials p second.challenges second.encoded second.system) in
    first.spelled
    ∙ ap (λ (c : Challenges). bytes c
    (in_order (sent_polynomials p c first.encoded first.system))) challenges
    ∙ ap (λ ps. bytes second.challenges ps) sent
    ∙ bytes_same version p first.encoded second.encoded polys
    (queries p second.challenges.first polys) same ∙ sym second.spelled
