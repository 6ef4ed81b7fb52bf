-- The verdict on a proof of a prover who commits to any matrix and sends any six polynomials. All
-- else is as every prover has it: challenges, drawn columns, their values and their ways to the
-- root.
use Rattle.std.specs.Prelude.{◌≡◌, ◌↔◌, ℕ, ◌*◌, ◌%◌, ◌<◌, List, length, slice_index}
use Rattle.gold_field.specs.declared.gold.TheConstants.{P}
use Rattle.gold_ntt.specs.Polynomial.{sum_to, eval_at}
use Rattle.iden_files.specs.File.{File, InLimits}
use Rattle.lig_layout.specs.declared.params.Params.{Params}
use Rattle.lig_layout.specs.Sizes.{params_of}
use Rattle.lig_layout.specs.System.{public_count, right_sides}
use Rattle.lig_layout.specs.Laws.{inner_product}
use Rattle.lig_proof.specs.declared.challenge.Challenges.{Challenges}
use Rattle.lig_proof.specs.declared.version.Version.{Version}
use Rattle.lig_proof.specs.declared.verdict.Verdict.{Verdict}
use Rattle.lig_proof.specs.declared.verdict.Verdict.TheVariants as verdicts
use Rattle.lig_proof.specs.ProofBytes.{AreValues}
use Rattle.lig_proof.specs.Points.{code_point, message_point}
use Rattle.lig_proof.specs.Columns.{Encoded, commitment}
use Rattle.lig_proof.specs.Transcript.{queries}
use Rattle.lig_proof.specs.Sent.{Polynomials, in_order, r_numbers}
use Rattle.lig_proof.specs.Values.{proximity_test_at, linear_test_at, product_test_at}
use Rattle.lig_proof.specs.Proving.{AreSystems, challenges_for, bytes_in}
use Rattle.lig_proof.specs.Acceptance.{IsVerdict}

-- what is offered: a matrix, the challenges that it meets, the polynomials of the system's rows
-- combined by these, the right sides, the polynomials that are sent, and the columns drawn then
pub record Offer : Type 0 where
  pub params : Params
  pub matrix : Encoded
  pub challenges : Challenges
  pub system : ℕ → ℕ → List ℕ
  pub right_sides : List ℕ
  pub sent : Polynomials
  pub drawn : List ℕ

abbrev pub offer_of : List ℕ → File → List ℕ → Encoded → (ℕ → ℕ → List ℕ) → Polynomials → Offer
offer_of r1cs_bytes f publics e system sent =
    let p = params_of f in
    let c = challenges_for r1cs_bytes f publics (commitment p e) in
    record {
      params = p;
      matrix = e;
      challenges = c;
      system = system;
      right_sides = right_sides f publics;
      sent = sent;
      drawn = queries p c.first (in_order sent);
    }

abbrev pub offered_bytes : Version → Offer → List ℕ
offered_bytes version o = bytes_in version o.params o.matrix (in_order o.sent) o.drawn

-- polynomials with as many coefficients as are sent
pub record AreSent (p : Params) (s : Polynomials) : Type 0 where
  pub proximity : (t : ℕ) → t < 2 → AreValues (2 * p.l) (s.proximity t)
  pub linear : (t : ℕ) → t < 2 → AreValues (3 * p.l) (s.linear t)
  pub product : (t : ℕ) → t < 2 → AreValues (4 * p.l) (s.product t)

-- in repetition 0 and in repetition 1
abbrev pub Twice : (ℕ → Type 0) → Type 0
Twice Holds = Holds 0 × Holds 1

-- a polynomial has, at the point of each drawn column, the value that f gives there
abbrev pub Agrees : Offer → List ℕ → (ℕ → ℕ) → Type 0
Agrees o polynomial f = (q : ℕ) → q < length o.drawn
    → (let x = code_point o.params (slice_index o.drawn q) in eval_at polynomial x ≡ f x)

-- the polynomials that are sent have, at the drawn columns, the values of the matrix: its rows,
-- combined; its rows, each times the system's, combined; its products, combined; each with its mask
abbrev pub ProximityAgrees : Offer → Type 0
ProximityAgrees o = Twice (λ t.
    Agrees o (o.sent.proximity t) (proximity_test_at o.params o.challenges o.matrix t))

abbrev pub LinearAgrees : Offer → Type 0
LinearAgrees o = Twice (λ t.
    Agrees o (o.sent.linear t) (linear_test_at o.params o.matrix (o.system t) t))

abbrev pub ProductsAgree : Offer → Type 0
ProductsAgree o = Twice (λ t.
    Agrees o (o.sent.product t) (product_test_at o.params o.challenges o.matrix t))

-- the values of what is sent for the system sum, over the message points, to the right sides, each
-- times its number
abbrev pub LinearSums : Offer → Type 0
LinearSums o = Twice (λ t.
    sum_to o.params.l (λ j. eval_at (o.sent.linear t) (message_point o.params j)) % P
    ≡ inner_product (r_numbers (length o.right_sides) o.challenges t) o.right_sides % P)

-- what is sent for the products is 0 at the message points
abbrev pub ProductsVanish : Offer → Type 0
ProductsVanish o = Twice (λ t.
    (j : ℕ) → j < o.params.l → eval_at (o.sent.product t) (message_point o.params j) ≡ 0)

-- the verdict of five claims: the first that fails, or that none does
abbrev pub FirstOf : Type 0 → Type 0 → Type 0 → Type 0 → Type 0 → Verdict → Type 0
FirstOf A B C D E verdicts.Proximity = ¬ A
FirstOf A B C D E verdicts.LinearSum = A × (¬ B)
FirstOf A B C D E verdicts.LinearColumn = A × B × (¬ C)
FirstOf A B C D E verdicts.QuadZero = A × B × C × (¬ D)
FirstOf A B C D E verdicts.QuadColumn = A × B × C × D × (¬ E)
FirstOf A B C D E verdicts.Accepted = A × B × C × D × E
FirstOf A B C D E _ = ⊥

-- the verdict on what is offered
abbrev pub OffersHaveVerdicts : Type 0
OffersHaveVerdicts = (version : Version) (r1cs_bytes : List ℕ) (f : File) (publics : List ℕ)
    (e : Encoded) (system : ℕ → ℕ → List ℕ) (sent : Polynomials) (verdict : Verdict) → InLimits f
    → length publics ≡ public_count f → AreSent (params_of f) sent
    → (let o = offer_of r1cs_bytes f publics e system sent in
    AreSystems f o.challenges system
    → (IsVerdict r1cs_bytes f publics (offered_bytes version o) verdict
    ↔ FirstOf (ProximityAgrees o) (LinearSums o) (LinearAgrees o) (ProductsVanish o)
    (ProductsAgree o) verdict))
