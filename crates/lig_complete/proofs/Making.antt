-- Any vectors have a proof; and without the sum over the message points, so have all public values.
use Rattle.std.proofs.Common.{◌≡◌, ℕ, suc, ◌+◌, ◌-◌, ◌*◌, ◌%◌, ◌<◌, ◌≤◌, ◌⊎◌, inl, inr, List}
use Rattle.std.proofs.Common.{[], ◌∷◌, ◌++◌, All, length, get_or, replicate, take, drop}
use Rattle.std.proofs.Common.{refl, sym, ap, subst, ◌∙◌, arith, ⊎_elim}
use Rattle.std.proofs.Math.Nat.{mul-le-mul_left}
use Rattle.std.proofs.Math.Seq.{take-append_seam}
use Rattle.std.proofs.lemmas.Bool.{cases_lt}
use Rattle.std.proofs.lemmas.List.{length-append, length-replicate, length-take-le, length-drop}
use Rattle.std.proofs.lemmas.List.{get_or-replicate, get_or_past}
use Rattle.std.proofs.lemmas.List.Elements.{All-cons, All-append}
use Rattle.gold_field.specs.declared.gold.TheConstants.{P}
use Rattle.iden_files.specs.File.{File, IsFile, InLimits}
use Rattle.lig_layout.specs.declared.params.Params.{Params}
use Rattle.lig_layout.specs.declared.matrix.Vectors.{Vectors}
use Rattle.lig_layout.specs.Sizes.{IsParams, params_of}
use Rattle.lig_layout.specs.Layout.{padded, message, row_at}
use Rattle.lig_layout.specs.System.{combined_at, left_sides, equation_count, public_count}
use Rattle.lig_layout.specs.Laws.{publics_of}
use Rattle.lig_layout.specs.Solutions.{AreNumbers, AreVectors, AreProducts, SolvesSystem}
use Rattle.lig_layout.proofs.Exact.{numbers_at, system_is_file}
use Rattle.lig_proof.specs.declared.challenge.Challenges.{Challenges}
use Rattle.lig_proof.specs.declared.version.Version.{Version}
use Rattle.lig_proof.specs.ProofBytes.{AreValues}
use Rattle.lig_proof.specs.Columns.{Encoded, commitment}
use Rattle.lig_proof.specs.Encoding.{masked, Interpolates, InterpolateRows}
use Rattle.lig_proof.specs.Masks.{row_mask, proximity_mask, linear_mask, product_mask}
use Rattle.lig_proof.specs.Transcript.{queries}
use Rattle.lig_proof.specs.Sent.{in_order, sent_polynomials, r_numbers}
use Rattle.lig_proof.specs.Proving.{AreMade, AreSystems, IsEncoded, challenges_for, bytes_in}
use Rattle.lig_proof.proofs.Interpolants.{all_below, made_values, value_below}
use Rattle.lig_proof.proofs.Interpolants.{rows_have_polynomials}
use Rattle.lig_complete.specs.Verdicts.{IsAcceptedWithoutSum, AnyVectorsHaveProofs}
use Rattle.lig_complete.specs.Verdicts.{FalseProofsExist}
use Rattle.lig_complete.proofs.Sizes.{sizes_fit, values_fit}
use Rattle.lig_complete.proofs.Matrix.{length-message, row_place, zeros_at}
use Rattle.lig_complete.proofs.Messages.{combination}
use Rattle.lig_complete.proofs.Made.{sum_is_needed}

-- ---- a polynomial for each row

module _ (p : Params) (h : IsParams p) (values : List ℕ) (count : length values ≡ p.rows * p.l)
    (low : (i : ℕ) → get_or values i 0 < P) where
  row_values : (k : ℕ) → k < p.rows → AreValues p.l (row_at p values k)
  row_values k inside =
      let ends : p.l * suc k ≤ p.l * p.rows = mul-le-mul_left p.l inside in
      let size : length (row_at p values k) ≡ p.l =
      length-take-le p.l (drop (k * p.l) values)
      (omega (arith, length-drop (k * p.l) values)) in
      let Low : ℕ → Type 0 = λ n. n < P in
      record {
        count = size;
        each = all_below (row_at p values k) (λ j within.
            subst Low (sym (row_place p values k j (omega arith))) (low (k * p.l + j)));
      }

  chosen : (k : ℕ) → (k < p.rows) ⊎ (p.rows ≤ k) → List ℕ
  chosen k (inl inside) = (rows_have_polynomials p (row_at p values k) h (row_values k inside)).0
  chosen k (inr past) = []

  is_chosen : (k : ℕ) (where_is : (k < p.rows) ⊎ (p.rows ≤ k)) → k < p.rows
      → Interpolates p (row_at p values k) (chosen k where_is)
  unfolding chosen
  is_chosen k (inl inside) within =
      (rows_have_polynomials p (row_at p values k) h (row_values k inside)).1
  is_chosen k (inr past) within = absurd (omega arith)

  pub polynomial_of : ℕ → List ℕ
  polynomial_of k = chosen k (cases_lt k p.rows)

  pub interpolate : InterpolateRows p values polynomial_of
  unfolding polynomial_of
  interpolate k inside = is_chosen k (cases_lt k p.rows) inside

-- ---- numbers of the field

zeros_low : (n : ℕ) → All (λ value. value < P) (replicate {A = ℕ} n 0)
zeros_low n k d inside =
    let is = get_or-replicate n k 0 d (omega (arith, length-replicate {A = ℕ} n 0)) in
    omega (arith, is)

padded_low : (n : ℕ) (xs : List ℕ) → All (λ value. value < P) xs
    → All (λ value. value < P) (padded n xs)
padded_low n xs low =
    All-append (λ value. value < P) xs (replicate (n - length xs) 0) low (zeros_low (n - length xs))

message_low : (p : Params) (f : File) (v : Vectors) → AreVectors f v
    → All (λ value. value < P) (message p v)
message_low p f v are =
    let Low : ℕ → Type 0 = λ value. value < P in
    let side = p.constraint_rows * p.l in
    let x = padded side v.x in
    let y = padded side v.y in
    let z = padded side v.z in
    All-append Low (padded (p.wire_rows * p.l) v.w) (x ++ (y ++ z))
    (padded_low (p.wire_rows * p.l) v.w are.w.each)
    (All-append Low x (y ++ z) (padded_low side v.x are.x.each)
    (All-append Low y z (padded_low side v.y are.y.each) (padded_low side v.z are.z.each)))

combination_values : (f : File) (c : Challenges) (t : ℕ)
    → AreValues ((params_of f).rows * (params_of f).l) (combination f c t)
combination_values f c t =
    let p = params_of f in
    made_values (p.rows * p.l)
    (λ place. combined_at place (r_numbers (equation_count f) c t) (left_sides p f))

values_low : (n : ℕ) (values : List ℕ) → AreValues n values → (i : ℕ) → get_or values i 0 < P
values_low n values are i = ⊎_elim
    (λ inside. value_below n values are i inside)
    (λ past. let none = get_or_past values i 0 past in omega arith)
    (cases_lt i (length values))

-- ---- what a prover makes

module _ (r1cs_bytes : List ℕ) (f : File) (v : Vectors) (seed : List ℕ) (limits : InLimits f)
    (are : AreVectors f v) where
  h : IsParams (params_of f)
  h = sizes_fit f limits

  size : length (message (params_of f) v) ≡ (params_of f).rows * (params_of f).l
  size = length-message (params_of f) v (values_fit f v are)

  low : (i : ℕ) → get_or (message (params_of f) v) i 0 < P
  low = numbers_at (message (params_of f) v) (message_low (params_of f) f v are)

  abbrev base : ℕ → List ℕ
  base = polynomial_of (params_of f) h (message (params_of f) v) size low

  abbrev matrix : Encoded
  matrix = record {
    row = λ k.
        masked (params_of f).l (2 * (params_of f).l) (base k) (row_mask (params_of f) seed k);
    proximity = proximity_mask (params_of f) seed;
    linear = linear_mask (params_of f) seed;
    product = product_mask (params_of f) seed;
  }

  encoded : IsEncoded (params_of f) v seed matrix
  encoded = record {
    row = λ k inside. record {
      polynomial = base k;
      interpolates = interpolate (params_of f) h (message (params_of f) v) size low k inside;
      sum = refl;
    };
    proximity = λ t inside. refl;
    linear = λ t inside. refl;
    product = λ t inside. refl;
  }

  abbrev c : Challenges
  c = challenges_for r1cs_bytes f (publics_of f v.w) (commitment (params_of f) matrix)

  abbrev system : ℕ → ℕ → List ℕ
  system t = polynomial_of (params_of f) h (combination f c t) (combination_values f c t).count
      (values_low ((params_of f).rows * (params_of f).l) (combination f c t)
      (combination_values f c t))

  systems : AreSystems f c system
  systems t inside =
      interpolate (params_of f) h (combination f c t) (combination_values f c t).count
      (values_low ((params_of f).rows * (params_of f).l) (combination f c t)
      (combination_values f c t))

  abbrev polys : List ℕ
  polys = in_order (sent_polynomials (params_of f) c matrix system)

  pub bytes_made : (version : Version)
      → (bytes : List ℕ) × AreMade version r1cs_bytes f v seed bytes
  bytes_made version = (
    bytes_in version (params_of f) matrix polys (queries (params_of f) c.first polys),
    record {
      encoded = matrix;
      challenges = c;
      system = system;
      rows = encoded;
      challenges_drawn = refl;
      systems = systems;
      spelled = refl;
    },
  )

pub any_vectors_have_proofs : AnyVectorsHaveProofs
any_vectors_have_proofs version r1cs_bytes f v seed limits are =
    bytes_made r1cs_bytes f v seed limits are version

-- ---- vectors of nothing but the public values

not_both : (n : ℕ) → n ≡ 0 → n ≡ 1 → ⊥
not_both n is_zero is_one = absurd (omega arith)

abbrev none_but : File → List ℕ → Vectors
none_but f publics =
    let zeros = replicate {A = ℕ} (length f.constraints) 0 in
    record {
      w = 0 ∷ (publics ++ replicate (f.wires - 1 - length publics) 0);
      x = zeros;
      y = zeros;
      z = zeros;
    }

module _ (f : File) (publics : List ℕ) (file : IsFile f) (count : length publics ≡ public_count f)
    (numbers : All (λ value. value < P) publics) where
  abbrev v : Vectors
  v = none_but f publics

  are_none : AreVectors f v
  are_none =
      let Low : ℕ → Type 0 = λ value. value < P in
      let q = length f.constraints in
      let rest = replicate {A = ℕ} (f.wires - 1 - length publics) 0 in
      let numbered = file.numbered in
      let side : AreNumbers q (replicate {A = ℕ} q 0) =
      record { count = length-replicate {A = ℕ} q 0; each = zeros_low q } in
      record {
        w = record {
          count = omega (
            arith,
            length-append publics rest,
            length-replicate {A = ℕ} (f.wires - 1 - length publics) 0,
          );
          each = All-cons Low 0 (publics ++ rest) (omega arith)
              (All-append Low publics rest numbers (zeros_low (f.wires - 1 - length publics)));
        };
        x = side;
        y = side;
        z = side;
      }

  publics_kept : publics_of f v.w ≡ publics
  publics_kept =
      let rest = replicate {A = ℕ} (f.wires - 1 - length publics) 0 in
      ap (λ (n : ℕ). take n (publics ++ rest)) (sym count) ∙ take-append_seam publics rest

  products_none : AreProducts v
  products_none place =
      let none = zeros_at (length f.constraints) place in
      let zeros = replicate {A = ℕ} (length f.constraints) 0 in
      ap (λ (n : ℕ). (n * get_or zeros place 0) % P) none
      ∙ ap (λ (n : ℕ). (0 * n) % P) none ∙ sym none

  unsolved_none : InLimits f → ¬ SolvesSystem f publics v
  unsolved_none limits solved =
      let witness = (system_is_file f publics v file limits are_none).0 (solved, products_none) in
      not_both (get_or v.w 0 0) refl witness.0.one

pub false_proofs_exist : FalseProofsExist
false_proofs_exist version r1cs_bytes f publics seed file limits count numbers =
    let v = none_but f publics in
    let are = are_none f publics file count numbers in
    let made = bytes_made r1cs_bytes f v seed limits are version in
    let Accepted : List ℕ → Type 0 = λ ps. IsAcceptedWithoutSum r1cs_bytes f ps made.0 in (
      v,
      made.0,
      record {
        vectors = are;
        unsolved = unsolved_none f publics file count numbers limits;
        made = made.1;
        accepted = subst Accepted (publics_kept f publics file count numbers)
            (sum_is_needed version r1cs_bytes f v seed made.0 file limits are
            (products_none f publics file count numbers) made.1);
      },
    )
