-- The bytes that are made are the definition's.
use Rattle.std.proofs.Common.{◌≡◌, ℕ, ◌+◌, ◌-◌, ◌*◌, ◌%◌, ◌^◌, ◌<◌, ◌≤◌, List, [], ◌∷◌, ◌++◌}
use Rattle.std.proofs.Common.{length, map, take, drop, get_or, refl, sym, ap, subst, ◌∙◌, arith}
use Rattle.std.proofs.Common.{⊎_elim, All}
use Rattle.std.specs.List.{AllByRecursion, range_with_len}
use Rattle.std.proofs.lemmas.Bool.{cases_lt}
use Rattle.std.proofs.lemmas.List.{take-append-drop, length-take-le, length-drop, get_or-drop}
use Rattle.std.proofs.lemmas.List.{get_or-take}
use Rattle.std.proofs.lemmas.List.Elements.{All-filter, All-from_get_or, recursion_from_All}
use Rattle.std.proofs.lemmas.List.FromFn.{fill_by_all, length-range_with_len, get_or-range_with_len}
use Rattle.gold_field.specs.declared.gold.TheConstants.{P}
use Rattle.gold_ntt.specs.Polynomial.{eval_at}
use Rattle.gold_ntt.specs.Transform.{root_of}
use Rattle.iden_files.specs.File.{File}
use Rattle.lig_layout.specs.declared.params.Params.{Params}
use Rattle.lig_layout.specs.declared.matrix.Vectors.{Vectors}
use Rattle.lig_layout.specs.Sizes.{params_of, IsParams}
use Rattle.lig_layout.specs.Laws.{publics_of}
use Rattle.lig_layout.specs.System.{equation_count}
use Rattle.lig_merkle.specs.Merkle.{leaf_hash, root_at, path_at}
use Rattle.lig_merkle.specs.Shared.{is_known, shared_nodes}
use Rattle.lig_proof.specs.declared.challenge.Challenges.{Challenges}
use Rattle.lig_proof.specs.declared.version.Version.{Version}
use Rattle.lig_proof.specs.declared.version.Version.TheVariants.{One, Two}
use Rattle.lig_proof.specs.ProofBytes.{proof_bytes}
use Rattle.lig_proof.specs.SharedProof.{opened_once, proof2_bytes}
use Rattle.lig_proof.specs.Columns.{polynomials, column_at, leaves, commitment}
use Rattle.lig_proof.specs.Points.{code_point}
use Rattle.lig_proof.specs.Proving.{IsEncoded, AreSystems, AreMade, bytes_in, proof_spelling}
use Rattle.lig_proof.specs.Sent.{in_order, sent_polynomials}
use Rattle.lig_proof.specs.Transcript.{first_key, challenges_of, queries}
use Rattle.lig_proof.specs.Values.{HasDegrees}
use Rattle.lig_prover.specs.Matrix.{AreCodewords, encoded_by, column_in}
use Rattle.lig_prover.specs.Transform.{values_at}
use Rattle.lig_proof.proofs.Collected.{range_same}
use Rattle.lig_prover.proofs.Coset.{get_or-values_at}

-- ---- all polynomials are short enough to be encoded

pub all_fit : (p : Params) (polys : List (List ℕ)) → IsParams p → length polys ≡ p.rows + 6
    → HasDegrees p (encoded_by p polys) → (k : ℕ) → k < length polys
    → length (get_or polys k []) ≤ 2 ^ p.depth
all_fit p polys h count degrees k low =
    let depth = h.depth in
    let size_at = λ (j : ℕ). length (get_or polys j []) in
    ⊎_elim
    (λ row. let size = (degrees.row k row).count in omega arith)
    (λ past. ⊎_elim
    (λ proximity.
    let t = k - p.rows in
    let low_t : t < 2 = omega arith in
    let same : k ≡ p.rows + t = omega arith in
    let here = ap size_at same in
    let size = (degrees.proximity t low_t).count in omega arith)
    (λ past2. ⊎_elim
    (λ linear.
    let t = k - (p.rows + 2) in
    let low_t : t < 2 = omega arith in
    let same : k ≡ p.rows + 2 + t = omega arith in
    let here = ap size_at same in
    let size = (degrees.linear t low_t).count in omega arith)
    (λ past4.
    let t = k - (p.rows + 4) in
    let low_t : t < 2 = omega arith in
    let same : k ≡ p.rows + 4 + t = omega arith in
    let here = ap size_at same in
    let size = (degrees.product t low_t).count in omega arith)
    (cases_lt k (p.rows + 4)))
    (cases_lt k (p.rows + 2)))
    (cases_lt k p.rows)

-- ---- the columns

six : (ys : List (List ℕ)) → length ys ≡ 6
    → get_or ys 0 [] ∷ get_or ys 1 [] ∷ get_or ys 2 [] ∷ get_or ys 3 [] ∷ get_or ys 4 []
    ∷ get_or ys 5 [] ∷ [] ≡ ys
six [] e = absurd (omega arith)
six (a ∷ []) e = absurd (omega arith)
six (a ∷ b ∷ []) e = absurd (omega arith)
six (a ∷ b ∷ c ∷ []) e = absurd (omega arith)
six (a ∷ b ∷ c ∷ d ∷ []) e = absurd (omega arith)
six (a ∷ b ∷ c ∷ d ∷ f ∷ []) e = absurd (omega arith)
six (a ∷ b ∷ c ∷ d ∷ f ∷ g ∷ []) e = refl
six (a ∷ b ∷ c ∷ d ∷ f ∷ g ∷ h ∷ t) e = absurd (omega arith)

polynomials_are : (p : Params) (polys : List (List ℕ)) → length polys ≡ p.rows + 6
    → polynomials p (encoded_by p polys) ≡ polys
polynomials_are p polys count =
    let n = p.rows in
    let front = map (λ k. get_or polys k []) (range_with_len 0 n) in
    let back = drop n polys in
    let long : length (take n polys) ≡ n = length-take-le n polys (omega arith) in
    let rows : front ≡ take n polys =
    sym (fill_by_all (λ k. get_or polys k []) (take n polys) n [] long
    (λ k l. get_or-take n polys k [] l)) in
    let at = λ (place j : ℕ) (same : place ≡ n + j). ap (λ i. get_or polys i []) same
    ∙ sym (get_or-drop n polys j []) in
    let masks = six back (omega (arith, length-drop n polys)) in
    (λ i. rows i ++ (at (n + 0) 0 refl i ∷ at (n + 1) 1 refl i ∷ at (n + 2 + 0) 2 (omega arith) i
    ∷ at (n + 2 + 1) 3 (omega arith) i
    ∷ at (n + 4 + 0) 4 (omega arith) i ∷ at (n + 4 + 1) 5 (omega arith) i ∷ []))
    ∙ ap (λ ys. take n polys ++ ys) masks ∙ take-append-drop n polys

columns_of : (d i : ℕ) → i < 2 ^ d → (xs : List (List ℕ))
    → map (λ codeword. get_or codeword i 0) (map (values_at d) xs)
    ≡ map (λ coefs. eval_at coefs (7 * root_of d ^ i % P)) xs
columns_of d i l [] = refl
columns_of d i l (x ∷ xs) =
    ap (λ y. y ∷ map (λ codeword. get_or codeword i 0) (map (values_at d) xs))
    (get_or-values_at d x i l)
    ∙ ap (λ ys. eval_at x (7 * root_of d ^ i % P) ∷ ys) (columns_of d i l xs)

module _ (p : Params) (polys codewords : List (List ℕ)) (h : IsParams p)
    (are : AreCodewords p polys codewords) where
  pub column_same : (i : ℕ) → i < 8 * p.l
      → column_in codewords i ≡ column_at p (encoded_by p polys) i
  column_same i l =
      let depth = h.depth in
      ap (map (λ codeword. get_or codeword i 0)) are.each ∙ columns_of p.depth i (omega arith) polys
      ∙ ap (map (λ coefs. eval_at coefs (code_point p i))) (sym (polynomials_are p polys are.count))

  pub leaves_same : map (λ i. leaf_hash (column_in codewords i)) (range_with_len 0 (8 * p.l))
      ≡ leaves p (encoded_by p polys)
  leaves_same =
      range_same (λ i. leaf_hash (column_in codewords i))
      (λ i. leaf_hash (column_at p (encoded_by p polys) i)) 0 (8 * p.l)
      (λ i l. ap leaf_hash (column_same i (omega arith)))

  pub columns_same : (drawn : List ℕ) → All (λ i. i < 8 * p.l) drawn
      → map (column_in codewords) drawn ≡ map (column_at p (encoded_by p polys)) drawn
  columns_same drawn low = each drawn (recursion_from_All (λ i. i < 8 * p.l) drawn low)
    where
      each : (xs : List ℕ) → AllByRecursion (λ i. i < 8 * p.l) xs
          → map (column_in codewords) xs ≡ map (column_at p (encoded_by p polys)) xs
      each [] a = refl
      each (x ∷ xs) a =
          ap (λ y. y ∷ map (column_in codewords) xs) (column_same x a.0)
          ∙ ap (λ ys. column_at p (encoded_by p polys) x ∷ ys) (each xs a.1)

-- ---- the bytes

low_range : (n : ℕ) → All (λ i. i < n) (range_with_len 0 n)
low_range n = All-from_get_or (λ i. i < n) (range_with_len 0 n) 0
    (λ i l. let count = length-range_with_len 0 n in
    let at = get_or-range_with_len 0 n i 0 (omega arith) in omega arith)

pub spelled_same : (version : Version) (p : Params) (polys codewords hashes : List (List ℕ))
    (all drawn : List ℕ)
    → IsParams p → AreCodewords p polys codewords → hashes ≡ leaves p (encoded_by p polys)
    → All (λ i. i < 8 * p.l) drawn
    → proof_spelling version p (column_in codewords) hashes all drawn
    ≡ bytes_in version p (encoded_by p polys) all drawn
spelled_same One p polys codewords hashes all drawn h are is low = λ i. proof_bytes (record {
  root = root_at p.depth (is i);
  polys = all;
  columns = columns_same p polys codewords h are drawn low i;
  paths = map (path_at p.depth (is i)) drawn;
})
spelled_same Two p polys codewords hashes all drawn h are is low =
    let once = opened_once p drawn in
    let within = All-filter (is_known drawn) (λ i. i < 8 * p.l) (range_with_len 0 (8 * p.l))
    (low_range (8 * p.l)) in
    λ i. proof2_bytes (record {
      root = root_at p.depth (is i);
      polys = all;
      columns = columns_same p polys codewords h are once within i;
      nodes = shared_nodes p.depth (λ k. get_or (is i) k []) once;
    })

-- ---- a whole proof, for these sizes

pub record IsMade (p : Params) (version : Version) (r1cs_bytes : List ℕ) (f : File) (v : Vectors)
    (seed bytes : List ℕ) (polys : List (List ℕ)) (c : Challenges) (system : ℕ → ℕ → List ℕ)
    : Type 0 where
  pub rows : IsEncoded p v seed (encoded_by p polys)
  pub challenges_drawn : (let root = commitment p (encoded_by p polys) in
      c ≡ challenges_of p (equation_count f) (first_key r1cs_bytes (publics_of f v.w) root))
  pub systems : AreSystems f c system
  pub spelled : (let e = encoded_by p polys in
      let all = in_order (sent_polynomials p c e system) in
      bytes ≡ bytes_in version p e all (queries p c.first all))

pub made_for : (p : Params) (version : Version) (r1cs_bytes : List ℕ) (f : File) (v : Vectors)
    (seed bytes : List ℕ) (polys : List (List ℕ)) (c : Challenges) (system : ℕ → ℕ → List ℕ)
    → p ≡ params_of f → IsMade p version r1cs_bytes f v seed bytes polys c system
    → AreMade version r1cs_bytes f v seed bytes
made_for p version r1cs_bytes f v seed bytes polys c system is made =
    let Made : Params → Type 0 = λ q. IsMade q version r1cs_bytes f v seed bytes polys c system in
    let here = subst Made is made in
    record {
      encoded = encoded_by (params_of f) polys;
      challenges = c;
      system = system;
      rows = here.rows;
      challenges_drawn = here.challenges_drawn;
      systems = here.systems;
      spelled = here.spelled;
    }
