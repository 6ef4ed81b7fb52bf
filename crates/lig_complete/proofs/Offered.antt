-- The verdict on a matrix and polynomials that are offered.
use Rattle.std.proofs.Common.{◌≡◌, ℕ, zero, suc, ◌+◌, ◌*◌, ◌%◌, ◌<◌, ◌≤◌, List, ◌∷◌, Bool}
use Rattle.std.proofs.Common.{true, cond, All, Result, Ok, length, get_or, filter, refl, sym}
use Rattle.std.proofs.Common.{ap, subst, ◌∙◌, arith, ⊎_elim}
use Rattle.std.specs.List.{range_with_len}
use Rattle.std.proofs.lemmas.Bool.{cases_lt, cases_Bool, both_ways}
use Rattle.std.proofs.lemmas.List.{length-map}
use Rattle.std.proofs.lemmas.List.Elements.{All-filter, filter_passes}
use Rattle.std.proofs.lemmas.List.FromFn.{length-map-range_with_len}
use Rattle.gold_field.specs.declared.gold.TheConstants.{P}
use Rattle.gold_ntt.specs.Polynomial.{eval_at}
use Rattle.gold_ntt.proofs.Sums.{sum_same}
use Rattle.iden_files.specs.File.{File}
use Rattle.lig_layout.specs.declared.params.Params.{Params}
use Rattle.lig_layout.specs.Sizes.{IsParams, params_of}
use Rattle.lig_layout.specs.Layout.{row_at}
use Rattle.lig_layout.specs.System.{combined, left_sides, equation_count, public_count, right_sides}
use Rattle.lig_merkle.specs.Shared.{is_known}
use Rattle.lig_merkle.proofs.Known.{known_at, known_place}
use Rattle.lig_proof.specs.declared.challenge.Challenges.{Challenges}
use Rattle.lig_proof.specs.declared.shared_proof.AnyProof.{AnyProof}
use Rattle.lig_proof.specs.declared.shared_proof.AnyProof.TheVariants.{First, Second}
use Rattle.lig_proof.specs.declared.verdict.Verdict.{Verdict}
use Rattle.lig_proof.specs.declared.verdict.Verdict.TheVariants.{PublicCount, Malformed, BadPath}
use Rattle.lig_proof.specs.declared.version.Version.{Version}
use Rattle.lig_proof.specs.declared.version.Version.TheVariants.{One, Two}
use Rattle.lig_proof.specs.ProofBytes.{AreValues, opened_count}
use Rattle.lig_proof.specs.Columns.{Encoded, column_at}
use Rattle.lig_proof.specs.SharedProof.{opened_once}
use Rattle.lig_proof.specs.SharedReading.{any_proof_of}
use Rattle.lig_proof.specs.Transcript.{key_word, second_key, queries}
use Rattle.lig_proof.specs.Sent.{Polynomials, in_order, r_numbers}
use Rattle.lig_proof.specs.Values.{linear_test_at}
use Rattle.lig_proof.specs.Audit.{IsTested}
use Rattle.lig_proof.specs.Proving.{AreSystems, challenges_for}
use Rattle.lig_proof.specs.Acceptance.{IsVerdict, IsReadVerdict, IsFirstFailure, Leads, audit_of}
use Rattle.lig_proof.specs.Acceptance.{root_in, polys_in, indices_in, ways_in}
use Rattle.lig_proof.proofs.Draws.{each_below}
use Rattle.lig_proof.proofs.Interpolants.{polynomials_are_one}
use Rattle.lig_complete.specs.Offers.{Offer, AreSent, ProximityAgrees, LinearSums, LinearAgrees}
use Rattle.lig_complete.specs.Offers.{ProductsVanish, ProductsAgree, FirstOf, offer_of}
use Rattle.lig_complete.specs.Offers.{offered_bytes, OffersHaveVerdicts}
use Rattle.lig_complete.proofs.Sizes.{sizes_fit}
use Rattle.lig_complete.proofs.Places.{sent_values}
use Rattle.lig_complete.proofs.Audited.{Covers, tested_first, first_tested, third_moves}
use Rattle.lig_complete.proofs.Opened.{range_below, once_opened, each_leads, all_lead}
use Rattle.lig_complete.proofs.Spelled.{first_made, second_made, first_fits, second_fits}
use Rattle.lig_complete.proofs.Spelled.{first_read, second_read}

-- ---- the indices that are drawn

drawn_low : (p : Params) (first polys : List ℕ) → IsParams p
    → All (λ i. i < 8 * p.l) (queries p first polys)
drawn_low p first polys h = let least = h.least
    in each_below (λ q. key_word (second_key first polys) q) opened_count (8 * p.l) (omega arith)

drawn_count : (p : Params) (first polys : List ℕ) → length (queries p first polys)
    ≡ opened_count
drawn_count p first polys =
    length-map-range_with_len (λ q. key_word (second_key first polys) q % (8 * p.l)) 0 opened_count

once_low : (p : Params) (drawn : List ℕ) → All (λ i. i < 8 * p.l) (opened_once p drawn)
once_low p drawn = All-filter (is_known drawn) (λ i. i < 8 * p.l) (range_with_len 0 (8 * p.l))
    (range_below (8 * p.l))

-- a filter of a range keeps what passes
kept : (f : ℕ → Bool) (from n i : ℕ) → from ≤ i → i < from + n → f i ≡ true
    → (k : ℕ) × (k < length (filter f (range_with_len from n)))
    × (get_or (filter f (range_with_len from n)) k 0 ≡ i)
kept f from zero i low high passes = absurd (omega arith)
kept f from (suc n) i low high passes =
    let rest = filter f (range_with_len (from + 1) n) in
    let Kept : Bool → Type 0 = λ b. (k : ℕ) × (k < length (cond b (from ∷ rest) rest))
    × (get_or (cond b (from ∷ rest) rest) k 0 ≡ i) in
    let behind : from < i → (k : ℕ) × (k < length rest) × (get_or rest k 0 ≡ i) =
    λ more. kept f (from + 1) n i (omega arith) (omega arith) passes in
    ⊎_elim
    (λ yes. subst Kept (sym yes) (⊎_elim
    (λ more. let at = behind more in let l = at.1 in (suc at.0, omega arith, at.2))
    (λ here. (0, omega arith, omega arith)) (cases_lt from i)))
    (λ no. subst Kept (sym no) (⊎_elim
    (λ more. behind more)
    (λ here. let same : i ≡ from = omega arith
    in absurd (both_ways (f from) no (ap f (sym same) ∙ passes)))
    (cases_lt from i)))
    (cases_Bool (f from))

all_covered : (xs : List ℕ) → Covers xs xs
all_covered xs = λ q inside. (q, inside, refl)

drawn_covered : (p : Params) (drawn : List ℕ) → All (λ i. i < 8 * p.l) drawn
    → Covers drawn (opened_once p drawn)
drawn_covered p drawn low = λ q inside.
    let i = get_or drawn q 0 in
    let small : i < 8 * p.l = low q 0 inside in
    kept (is_known drawn) 0 (8 * p.l) i (omega arith) (omega arith) (known_at drawn q i inside refl)

once_covered : (p : Params) (drawn : List ℕ) → Covers (opened_once p drawn) drawn
once_covered p drawn = λ q inside.
    known_place drawn (get_or (opened_once p drawn) q 0)
    (filter_passes (is_known drawn) (range_with_len 0 (8 * p.l)) q 0 inside)

-- ---- systems are one

systems_same : (f : File) (c : Challenges) (first second : ℕ → ℕ → List ℕ) → IsParams (params_of f)
    → AreSystems f c first → AreSystems f c second → (t k : ℕ) → t < 2 → k < (params_of f).rows
    → first t k ≡ second t k
systems_same f c first second h one two t k low inside =
    let p = params_of f in
    polynomials_are_one p
    (row_at p (combined (p.rows * p.l) (r_numbers (equation_count f) c t) (left_sides p f)) k)
    (first t k) (second t k) h (one t low k inside) (two t low k inside)

test_same : (p : Params) (e : Encoded) (first second : ℕ → List ℕ) (t x : ℕ)
    → ((k : ℕ) → k < p.rows → first k ≡ second k)
    → linear_test_at p e first t x ≡ linear_test_at p e second t x
test_same p e first second t x same =
    ap (λ (y : ℕ). (eval_at (e.linear t) x + y) % P)
    (sum_same p.rows (λ k. eval_at (first k) x * eval_at (e.row k) x)
    (λ k. eval_at (second k) x * eval_at (e.row k) x)
    (λ k inside. ap (λ (ys : List ℕ). eval_at ys x * eval_at (e.row k) x) (same k inside)))

module _ (p : Params) (e : Encoded) (c : Challenges) (first second : ℕ → ℕ → List ℕ)
    (rights : List ℕ) (s : Polynomials) (drawn : List ℕ)
    (same : (t k : ℕ) → t < 2 → k < p.rows → first t k ≡ second t k) where
  abbrev with_system : (ℕ → ℕ → List ℕ) → Offer
  with_system system = record {
    params = p;
    matrix = e;
    challenges = c;
    system = system;
    right_sides = rights;
    sent = s;
    drawn = drawn;
  }

  pub agrees_moved : LinearAgrees (with_system first) → LinearAgrees (with_system second)
  agrees_moved agrees = (
    λ q inside. agrees.0 q inside
        ∙ test_same p e (first 0) (second 0) 0 _ (λ k low. same 0 k (omega arith) low),
    λ q inside. agrees.1 q inside
        ∙ test_same p e (first 1) (second 1) 1 _ (λ k low. same 1 k (omega arith) low),
  )

-- ---- the verdict on a proof that is read and leads to the root

module _ (r1cs_bytes : List ℕ) (f : File) (publics bytes : List ℕ) (proof : AnyProof)
    (count : length publics ≡ public_count f)
    (read : any_proof_of (params_of f) r1cs_bytes publics bytes ≡ Ok proof) where
  abbrev c : Challenges
  c = challenges_for r1cs_bytes f publics (root_in proof)

  abbrev indices : List ℕ
  indices = indices_in (params_of f) (queries (params_of f) c.first (polys_in proof)) proof

  abbrev pub Tested : Verdict → Type 0
  Tested v = (system : ℕ → ℕ → List ℕ) × AreSystems f c system
      × IsTested (audit_of f publics c system indices proof) v

  module _ (leads : (q : ℕ) → q < ways_in proof → Leads (params_of f) indices proof q) where
    passed : (v : Verdict)
        → IsFirstFailure (ways_in proof) (Leads (params_of f) indices proof) (Tested v) v → Tested v
    passed (BadPath opened) failure = absurd (failure.2 (leads opened failure.0))
    passed _ failure = failure.1

    pub verdict_tested : (v : Verdict) → IsVerdict r1cs_bytes f publics bytes v → Tested v
    verdict_tested PublicCount is = absurd (is count)
    verdict_tested v is =
        let Read : Result AnyProof ℕ → Type 0 = λ r. IsReadVerdict r1cs_bytes f publics r v in
        passed v (subst Read read is.1)

    pub tested_verdict : (v : Verdict) → Tested v → IsVerdict r1cs_bytes f publics bytes v
    tested_verdict PublicCount tested = absurd tested.2
    tested_verdict (Malformed offset) tested = absurd tested.2
    tested_verdict (BadPath opened) tested = absurd tested.2
    tested_verdict v tested =
        let Read : Result AnyProof ℕ → Type 0 = λ r. IsReadVerdict r1cs_bytes f publics r v in
        (count, subst Read (sym read) (leads, tested))

-- ---- what is offered is read, and leads to the root

module _ (r1cs_bytes : List ℕ) (f : File) (publics : List ℕ) (e : Encoded)
    (system : ℕ → ℕ → List ℕ) (s : Polynomials) (h : IsParams (params_of f))
    (sent : AreSent (params_of f) s) where
  abbrev o : Offer
  o = offer_of r1cs_bytes f publics e system s

  abbrev polys : List ℕ
  polys = in_order s

  -- the proof that is offered, and the indices of its columns
  abbrev pub proof_in : Version → AnyProof
  proof_in One = First (first_made (params_of f) e polys o.drawn)
  proof_in Two = Second (second_made (params_of f) e polys (opened_once (params_of f) o.drawn))

  abbrev pub indices_of : Version → List ℕ
  indices_of One = o.drawn
  indices_of Two = opened_once (params_of f) o.drawn

  low : All (λ i. i < 8 * (params_of f).l) o.drawn
  low = drawn_low (params_of f) o.challenges.first polys h

  count : length o.drawn ≡ opened_count
  count = drawn_count (params_of f) o.challenges.first polys

  values_sent : AreValues (18 * (params_of f).l) polys
  values_sent = sent_values (params_of f) s sent

  pub read_as : (version : Version)
      → any_proof_of (params_of f) r1cs_bytes publics (offered_bytes version o)
      ≡ Ok (proof_in version)
  read_as One =
      let p = params_of f in
      first_read p r1cs_bytes publics (first_made p e polys o.drawn)
      (first_fits p e h polys o.drawn values_sent count)
  read_as Two =
      let p = params_of f in
      let opened = opened_once p o.drawn in
      let are = once_opened p o.drawn h (omega (arith, count)) low in
      second_read p r1cs_bytes publics (second_made p e polys opened)
      (second_fits p e h polys opened values_sent are)

  pub leads : (version : Version) (q : ℕ) → q < ways_in (proof_in version)
      → Leads (params_of f) (indices_of version) (proof_in version) q
  leads One q inside =
      let p = params_of f in
      each_leads p e h o.drawn q (omega (arith, length-map o.drawn (column_at p e))) low
  leads Two q inside =
      let p = params_of f in
      let opened = opened_once p o.drawn in
      all_lead p e h opened (once_opened p o.drawn h (omega (arith, count)) low)
      (once_low p o.drawn)

  pub down : (version : Version) → Covers o.drawn (indices_of version)
  down One = all_covered o.drawn
  down Two = drawn_covered (params_of f) o.drawn low

  pub up : (version : Version) → Covers (indices_of version) o.drawn
  up One = all_covered o.drawn
  up Two = once_covered (params_of f) o.drawn

  abbrev Claims : (ℕ → ℕ → List ℕ) → Verdict → Type 0
  Claims other v =
      let a = offer_of r1cs_bytes f publics e other s in
      FirstOf (ProximityAgrees a) (LinearSums a) (LinearAgrees a) (ProductsVanish a)
      (ProductsAgree a) v

  -- the system of the verdict is this one
  claims_moved : (other : ℕ → ℕ → List ℕ) (v : Verdict) → AreSystems f o.challenges other
      → AreSystems f o.challenges system → Claims other v → Claims system v
  claims_moved other v others systems claims =
      let p = params_of f in
      let c = o.challenges in
      let rights = right_sides f publics in
      let here = systems_same f c other system h others systems in
      let there = systems_same f c system other h systems others in
      third_moves (ProximityAgrees o) (LinearSums o)
      (LinearAgrees (offer_of r1cs_bytes f publics e other s)) (ProductsVanish o)
      (ProductsAgree o) (LinearAgrees o) (
        agrees_moved p e c other system rights s o.drawn here,
        agrees_moved p e c system other rights s o.drawn there,
      ) v claims

  module _ (publics_count : length publics ≡ public_count f)
      (systems : AreSystems f o.challenges system) where
    pub claims_from : (version : Version) (v : Verdict)
        → IsVerdict r1cs_bytes f publics (offered_bytes version o) v → Claims system v
    claims_from One v is =
        let p = params_of f in
        let tested =
        verdict_tested r1cs_bytes f publics (offered_bytes One o) (proof_in One) publics_count
        (read_as One) (leads One) v is in
        claims_moved tested.0 v tested.1 systems
        (tested_first p o.challenges e s tested.0 (right_sides f publics) o.drawn (indices_of One)
        h sent (down One) (up One) v tested.2)
    claims_from Two v is =
        let p = params_of f in
        let tested =
        verdict_tested r1cs_bytes f publics (offered_bytes Two o) (proof_in Two) publics_count
        (read_as Two) (leads Two) v is in
        claims_moved tested.0 v tested.1 systems
        (tested_first p o.challenges e s tested.0 (right_sides f publics) o.drawn (indices_of Two)
        h sent (down Two) (up Two) v tested.2)

    pub verdict_from : (version : Version) (v : Verdict) → Claims system v
        → IsVerdict r1cs_bytes f publics (offered_bytes version o) v
    verdict_from One v claims =
        tested_verdict r1cs_bytes f publics (offered_bytes One o) (proof_in One) publics_count
        (read_as One) (leads One) v (
          system,
          systems,
          first_tested (params_of f) o.challenges e s system (right_sides f publics) o.drawn
              (indices_of One) h sent (down One) (up One) v claims,
        )
    verdict_from Two v claims =
        tested_verdict r1cs_bytes f publics (offered_bytes Two o) (proof_in Two) publics_count
        (read_as Two) (leads Two) v (
          system,
          systems,
          first_tested (params_of f) o.challenges e s system (right_sides f publics) o.drawn
              (indices_of Two) h sent (down Two) (up Two) v claims,
        )

pub offers_have_verdicts : OffersHaveVerdicts
offers_have_verdicts version r1cs_bytes f publics e system s verdict limits count sent systems =
    let h = sizes_fit f limits in (
      claims_from r1cs_bytes f publics e system s h sent count systems version verdict,
      verdict_from r1cs_bytes f publics e system s h sent count systems version verdict,
    )
