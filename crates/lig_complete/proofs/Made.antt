-- The verdict on what is made of any vectors.
use Rattle.std.proofs.Common.{◌≡◌, ◌↔◌, ℕ, ◌+◌, ◌-◌, ◌*◌, ◌%◌, ◌<◌, List, length, get_or, sym, ap}
use Rattle.std.proofs.Common.{slice_index, subst, ◌∙◌, arith}
use Rattle.std.proofs.Math.Nat.{zero-mod}
use Rattle.gold_field.specs.declared.gold.TheConstants.{P}
use Rattle.gold_field.proofs.Euclid.{times_zero}
use Rattle.gold_ntt.specs.Polynomial.{sum_to, eval_at}
use Rattle.gold_ntt.proofs.Sums.{sum_same, sum_mod, sum-zero}
use Rattle.iden_files.specs.File.{File, IsFile, InLimits}
use Rattle.lig_layout.specs.declared.matrix.Vectors.{Vectors}
use Rattle.lig_layout.specs.Sizes.{IsParams, params_of}
use Rattle.lig_layout.specs.Layout.{message}
use Rattle.lig_layout.specs.System.{equation_count, left_sides, right_sides, public_count}
use Rattle.lig_layout.specs.Laws.{inner_product, combined_values, publics_of}
use Rattle.lig_layout.specs.Solutions.{AreVectors, AreProducts, SolvesSystem}
use Rattle.lig_proof.specs.declared.challenge.Challenges.{Challenges}
use Rattle.lig_proof.specs.declared.verdict.Verdict.{Verdict}
use Rattle.lig_proof.specs.declared.verdict.Verdict.TheVariants.{Accepted}
use Rattle.lig_proof.specs.declared.verdict.Verdict.TheVariants.{Proximity as NotNear}
use Rattle.lig_proof.specs.declared.verdict.Verdict.TheVariants.{LinearSum as NotSum}
use Rattle.lig_proof.specs.declared.verdict.Verdict.TheVariants.{LinearColumn as NotLinear}
use Rattle.lig_proof.specs.declared.verdict.Verdict.TheVariants.{QuadZero as NotZero}
use Rattle.lig_proof.specs.declared.verdict.Verdict.TheVariants.{QuadColumn as NotProduct}
use Rattle.lig_proof.specs.declared.version.Version.{Version}
use Rattle.lig_proof.specs.declared.version.Version.TheVariants.{One, Two}
use Rattle.lig_proof.specs.ProofBytes.{AreValues}
use Rattle.lig_proof.specs.Points.{message_point}
use Rattle.lig_proof.specs.Columns.{Encoded, commitment}
use Rattle.lig_proof.specs.Transcript.{queries}
use Rattle.lig_proof.specs.Sent.{Polynomials, rho, r_numbers, in_order, sent_polynomials}
use Rattle.lig_proof.specs.Values.{HasDegrees}
use Rattle.lig_proof.specs.Proving.{AreMade, AreSystems, IsEncoded, challenges_for, bytes_in}
use Rattle.lig_proof.specs.Audit.{Proximity, LinearColumn, QuadZero, QuadColumn}
use Rattle.lig_proof.specs.Acceptance.{IsVerdict}
use Rattle.lig_proof.proofs.TestValues.{encoded_has_degrees, proximity_test_has_values}
use Rattle.lig_proof.proofs.TestValues.{linear_test_has_values, product_test_has_values}
use Rattle.lig_complete.specs.Offers.{Offer, AreSent, ProximityAgrees, LinearSums, LinearAgrees}
use Rattle.lig_complete.specs.Offers.{ProductsVanish, ProductsAgree, FirstOf, offer_of}
use Rattle.lig_complete.specs.Offers.{offered_bytes}
use Rattle.lig_complete.specs.Verdicts.{SystemPasses, ProductsPass, Outcome, AnyVectorsHaveVerdicts}
use Rattle.lig_complete.specs.Verdicts.{IsAcceptedWithoutSum, SumIsNeeded}
use Rattle.lig_complete.proofs.Sizes.{Fits, sizes_fit, values_fit}
use Rattle.lig_complete.proofs.Matrix.{x_at, y_at, z_at}
use Rattle.lig_complete.proofs.Solved.{combined_system, solved_combined, length-right_sides}
use Rattle.lig_complete.proofs.AtColumns.{audit, are_sent}
use Rattle.lig_complete.proofs.AtMessage.{linear_sums, products_at}
use Rattle.lig_complete.proofs.Audited.{Covers, proximity, linear_column, quad_column, quad_zero}
use Rattle.lig_complete.proofs.Messages.{length-publics, are_messages}
use Rattle.lig_complete.proofs.Offered.{claims_from, verdict_from, proof_in, indices_of, read_as}
use Rattle.lig_complete.proofs.Offered.{leads, down, up}

-- of five claims of which three hold
module _ (A B C D E F G : Type 0) (a : A) (c : C) (e : E) (sums : B ↔ F) (zeros : D ↔ G) where
  outcome_from : (v : Verdict) → FirstOf A B C D E v → Outcome F G v
  outcome_from Accepted k = (sums.0 k.1, zeros.0 k.3)
  outcome_from NotNear k = absurd (k a)
  outcome_from NotSum k = λ x. k.1 (sums.1 x)
  outcome_from NotLinear k = absurd (k.2 c)
  outcome_from NotZero k = (sums.0 k.1, λ x. k.3 (zeros.1 x))
  outcome_from NotProduct k = absurd (k.4 e)
  outcome_from _ k = absurd k

  first_from : (v : Verdict) → Outcome F G v → FirstOf A B C D E v
  first_from Accepted k = (a, sums.1 k.0, c, zeros.1 k.1, e)
  first_from NotNear k = absurd k
  first_from NotSum k = (a, λ x. k (sums.0 x))
  first_from NotLinear k = absurd k
  first_from NotZero k = (a, sums.1 k.0, c, λ x. k.1 (zeros.0 x))
  first_from NotProduct k = absurd k
  first_from _ k = absurd k

-- where an equation's left side is known
replaced : (x y z : ℕ) → x ≡ y → (x ≡ z) ↔ (y ≡ z)
replaced x y z e = (λ k. sym e ∙ k, λ k. e ∙ k)

module _ (r1cs_bytes : List ℕ) (f : File) (v : Vectors) (seed : List ℕ) (e : Encoded)
    (system : ℕ → ℕ → List ℕ) (file : IsFile f) (are : AreVectors f v)
    (h : IsParams (params_of f)) (encoded : IsEncoded (params_of f) v seed e) where
  abbrev publics : List ℕ
  publics = publics_of f v.w

  abbrev c : Challenges
  c = challenges_for r1cs_bytes f publics (commitment (params_of f) e)

  abbrev s : Polynomials
  s = sent_polynomials (params_of f) c e system

  abbrev o : Offer
  o = offer_of r1cs_bytes f publics e system s

  degrees : HasDegrees (params_of f) e
  degrees = encoded_has_degrees (params_of f) v seed e h encoded

  fits : Fits (params_of f) v
  fits = values_fit f v are

  sent : AreSent (params_of f) s
  sent = are_sent (params_of f) c e system

  count : length publics ≡ public_count f
  count = length-publics f v.w file are.w.count

  module _ (systems : AreSystems f c system) where
    sizes : (t k : ℕ) → t < 2 → k < (params_of f).rows → AreValues (params_of f).l (system t k)
    sizes t k low inside = (systems t low k inside).degree

    near : ProximityAgrees o
    near = (
      λ q inside. proximity_test_has_values (params_of f) c e 0 _ (omega arith) degrees,
      λ q inside. proximity_test_has_values (params_of f) c e 1 _ (omega arith) degrees,
    )

    linear : LinearAgrees o
    linear = (
      λ q inside. linear_test_has_values (params_of f) e (system 0) 0 _ (omega arith)
          (λ k low. sizes 0 k (omega arith) low) degrees,
      λ q inside. linear_test_has_values (params_of f) e (system 1) 1 _ (omega arith)
          (λ k low. sizes 1 k (omega arith) low) degrees,
    )

    products : ProductsAgree o
    products = (
      λ q inside. product_test_has_values (params_of f) c e 0 _ (omega arith) h degrees,
      λ q inside. product_test_has_values (params_of f) c e 1 _ (omega arith) h degrees,
    )

    -- the sum over the message points is the combination of the left sides
    sum_is : (t : ℕ) → t < 2
        → (let p = params_of f in
        sum_to p.l (λ j. eval_at (s.linear t) (message_point p j)) % P
        ≡ combined_values (message p v) (r_numbers (equation_count f) c t) (left_sides p f) % P)
    sum_is t low =
        let p = params_of f in
        let messages = are_messages f v seed c e system h degrees encoded systems in
        linear_sums p c e system (message p v) _ h degrees sizes messages t low
        ∙ combined_system f v (r_numbers (equation_count f) c t) file fits

    right_is : (t : ℕ)
        → (let rights = right_sides f publics in
        inner_product (r_numbers (length rights) c t) rights % P
        ≡ inner_product (r_numbers (equation_count f) c t) rights % P)
    right_is t = ap (λ (n : ℕ). inner_product (r_numbers n c t) (right_sides f publics) % P)
        (length-right_sides f publics count)

    sums : LinearSums o ↔ SystemPasses f v c
    sums = (
      λ k. (
        sym (sum_is 0 (omega arith)) ∙ k.0 ∙ right_is 0,
        sym (sum_is 1 (omega arith)) ∙ k.1 ∙ right_is 1,
      ),
      λ k. (
        sum_is 0 (omega arith) ∙ k.0 ∙ sym (right_is 0),
        sum_is 1 (omega arith) ∙ k.1 ∙ sym (right_is 1),
      ),
    )

    -- the values at the message points are the combined products
    product_is : (t j : ℕ) → t < 2 → j < (params_of f).l
        → (let p = params_of f in
        let x = λ (k : ℕ). slice_index v.x (k * p.l + j) in
        let y = λ (k : ℕ). slice_index v.y (k * p.l + j) in
        let z = λ (k : ℕ). slice_index v.z (k * p.l + j) in
        eval_at (s.product t) (message_point p j)
        ≡ sum_to p.constraint_rows (λ k. rho p c t k * (x k * y k + (P - z k))) % P)
    product_is t j low inside =
        let p = params_of f in
        let m = message p v in
        let messages = are_messages f v seed c e system h degrees encoded systems in
        let x = λ (k : ℕ). slice_index v.x (k * p.l + j) in
        let y = λ (k : ℕ). slice_index v.y (k * p.l + j) in
        let z = λ (k : ℕ). slice_index v.z (k * p.l + j) in
        let a = λ (k : ℕ). get_or m ((p.wire_rows + k) * p.l + j) 0 in
        let b = λ (k : ℕ). get_or m ((p.wire_rows + p.constraint_rows + k) * p.l + j) 0 in
        let d = λ (k : ℕ). get_or m ((p.wire_rows + 2 * p.constraint_rows + k) * p.l + j) 0 in
        products_at p c e system m _ h degrees sizes messages t j low inside
        ∙ ap (λ (n : ℕ). n % P)
        (sum_same p.constraint_rows (λ k. rho p c t k * (a k * b k + (P - d k)))
        (λ k. rho p c t k * (x k * y k + (P - z k)))
        (λ k m.
        ap (λ (n : ℕ). rho p c t k * (n * b k + (P - d k))) (x_at p v fits k j m inside)
        ∙ ap (λ (n : ℕ). rho p c t k * (x k * n + (P - d k))) (y_at p v fits k j m inside)
        ∙ ap (λ (n : ℕ). rho p c t k * (x k * y k + (P - n))) (z_at p v fits k j m inside)))

    zeros : ProductsVanish o ↔ ProductsPass f v c
    zeros = (
      λ k. (
        λ j inside. sym (product_is 0 j (omega arith) inside) ∙ k.0 j inside,
        λ j inside. sym (product_is 1 j (omega arith) inside) ∙ k.1 j inside,
      ),
      λ k. (
        λ j inside. product_is 0 j (omega arith) inside ∙ k.0 j inside,
        λ j inside. product_is 1 j (omega arith) inside ∙ k.1 j inside,
      ),
    )

    verdict_here : (version : Version) (verdict : Verdict)
        → IsVerdict r1cs_bytes f publics (offered_bytes version o) verdict
        ↔ Outcome (SystemPasses f v c) (ProductsPass f v c) verdict
    verdict_here version verdict = (
      λ is. outcome_from (ProximityAgrees o) (LinearSums o) (LinearAgrees o) (ProductsVanish o)
          (ProductsAgree o) (SystemPasses f v c) (ProductsPass f v c) near linear products sums
          zeros verdict
          (claims_from r1cs_bytes f publics e system s h sent count systems version verdict is),
      λ outcome. verdict_from r1cs_bytes f publics e system s h sent count systems version verdict
          (first_from (ProximityAgrees o) (LinearSums o) (LinearAgrees o) (ProductsVanish o)
          (ProductsAgree o) (SystemPasses f v c) (ProductsPass f v c) near linear products sums
          zeros verdict outcome),
    )

    -- every test but that of the sum
    passing : (opened : List ℕ) → Covers o.drawn opened → Covers opened o.drawn
        → ProductsPass f v c
        → (let a = audit (params_of f) c e s system (right_sides f publics) opened in
        Proximity a × LinearColumn a × QuadZero a × QuadColumn a)
    passing opened below above passes =
        let p = params_of f in
        let rights = right_sides f publics in (
          (proximity p c e s system rights o.drawn opened h sent below above).1 near,
          (linear_column p c e s system rights o.drawn opened h sent below above).1 linear,
          (quad_zero p c e s system rights o.drawn opened h sent below above).1 (zeros.1 passes),
          (quad_column p c e s system rights o.drawn opened h sent below above).1 products,
        )

    without_sum : (version : Version) → ProductsPass f v c
        → IsAcceptedWithoutSum r1cs_bytes f publics (offered_bytes version o)
    without_sum One passes = record {
      count = count;
      proof = proof_in r1cs_bytes f publics e system s h sent One;
      read = read_as r1cs_bytes f publics e system s h sent One;
      system = system;
      systems = systems;
      leads = leads r1cs_bytes f publics e system s h sent One;
      tests = passing (indices_of r1cs_bytes f publics e system s h sent One)
          (down r1cs_bytes f publics e system s h sent One)
          (up r1cs_bytes f publics e system s h sent One) passes;
    }
    without_sum Two passes = record {
      count = count;
      proof = proof_in r1cs_bytes f publics e system s h sent Two;
      read = read_as r1cs_bytes f publics e system s h sent Two;
      system = system;
      systems = systems;
      leads = leads r1cs_bytes f publics e system s h sent Two;
      tests = passing (indices_of r1cs_bytes f publics e system s h sent Two)
          (down r1cs_bytes f publics e system s h sent Two)
          (up r1cs_bytes f publics e system s h sent Two) passes;
    }

-- what is made, as what is offered
module _ (version : Version) (r1cs_bytes : List ℕ) (f : File) (v : Vectors) (seed bytes : List ℕ)
    (file : IsFile f) (limits : InLimits f) (are : AreVectors f v)
    (made : AreMade version r1cs_bytes f v seed bytes) (Says : Challenges → List ℕ → Type 0) where
  abbrev drawn_for : Challenges
  drawn_for =
      challenges_for r1cs_bytes f (publics_of f v.w) (commitment (params_of f) made.encoded)

  abbrev sent_for : Challenges → List ℕ
  sent_for d = in_order (sent_polynomials (params_of f) d made.encoded made.system)

  as_offered : (AreSystems f drawn_for made.system
      → Says drawn_for (bytes_in version (params_of f) made.encoded (sent_for drawn_for)
      (queries (params_of f) drawn_for.first (sent_for drawn_for))))
      → Says made.challenges bytes
  as_offered says =
      let p = params_of f in
      let Made : Challenges → Type 0 = λ d. AreSystems f d made.system
      → bytes ≡ bytes_in version p made.encoded (sent_for d) (queries p d.first (sent_for d))
      → Says d bytes in
      let here : Made drawn_for = λ systems spelled.
      let At : List ℕ → Type 0 = λ bs. Says drawn_for bs in
      subst At (sym spelled) (says systems) in
      subst Made (sym made.challenges_drawn) here made.systems made.spelled

pub any_vectors_have_verdicts : AnyVectorsHaveVerdicts
any_vectors_have_verdicts version r1cs_bytes f v seed bytes verdict file limits are made =
    let Says : Challenges → List ℕ → Type 0 = λ d bs.
    IsVerdict r1cs_bytes f (publics_of f v.w) bs verdict
    ↔ Outcome (SystemPasses f v d) (ProductsPass f v d) verdict in
    as_offered version r1cs_bytes f v seed bytes file limits are made Says (λ systems.
    verdict_here r1cs_bytes f v seed made.encoded made.system file are (sizes_fit f limits)
    made.rows systems version verdict)

no_excess : (x y z : ℕ) → (x * y) % P ≡ z → (x * y + (P - z)) % P ≡ 0
no_excess x y z e = rest (x * y) z e
  where
    rest : (a z : ℕ) → a % P ≡ z → (a + (P - z)) % P ≡ 0
    rest a z e = omega arith

-- the combined products of vectors that are products are 0
pub products_pass : (f : File) (v : Vectors) (c : Challenges) → AreProducts v → ProductsPass f v c
products_pass f v c are = (λ j inside. none 0 j, λ j inside. none 1 j)
  where
    none : (t j : ℕ) → (let p = params_of f in
        let x = λ (k : ℕ). slice_index v.x (k * p.l + j) in
        let y = λ (k : ℕ). slice_index v.y (k * p.l + j) in
        let z = λ (k : ℕ). slice_index v.z (k * p.l + j) in
        sum_to p.constraint_rows (λ k. rho p c t k * (x k * y k + (P - z k))) % P ≡ 0)
    none t j =
        let p = params_of f in
        let x = λ (k : ℕ). slice_index v.x (k * p.l + j) in
        let y = λ (k : ℕ). slice_index v.y (k * p.l + j) in
        let z = λ (k : ℕ). slice_index v.z (k * p.l + j) in
        sum_mod P p.constraint_rows (λ k. rho p c t k * (x k * y k + (P - z k))) (λ k. 0)
        (λ k m. times_zero (rho p c t k) (x k * y k + (P - z k)) P
        (no_excess (x k) (y k) (z k) (are (k * p.l + j))) ∙ sym (zero-mod P))
        ∙ ap (λ (y : ℕ). y % P) (sum-zero p.constraint_rows) ∙ zero-mod P

-- the combined system of vectors that solve it comes out
pub system_passes : (f : File) (v : Vectors) (c : Challenges)
    → SolvesSystem f (publics_of f v.w) v → SystemPasses f v c
system_passes f v c solved = (
  solved_combined f (publics_of f v.w) v (r_numbers (equation_count f) c 0) solved,
  solved_combined f (publics_of f v.w) v (r_numbers (equation_count f) c 1) solved,
)

pub sum_is_needed : SumIsNeeded
sum_is_needed version r1cs_bytes f v seed bytes file limits are products made =
    let Says : Challenges → List ℕ → Type 0 = λ d bs.
    IsAcceptedWithoutSum r1cs_bytes f (publics_of f v.w) bs in
    let root = commitment (params_of f) made.encoded in
    as_offered version r1cs_bytes f v seed bytes file limits are made Says (λ systems.
    without_sum r1cs_bytes f v seed made.encoded made.system file are (sizes_fit f limits) made.rows
    systems version
    (products_pass f v (challenges_for r1cs_bytes f (publics_of f v.w) root) products))
