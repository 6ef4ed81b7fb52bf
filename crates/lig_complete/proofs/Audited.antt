-- The tests of an audit, where what is sent and opened is a prover's, in terms of the matrix.
use Rattle.std.proofs.Common.{◌≡◌, ◌↔◌, ℕ, zero, suc, ◌%◌, ◌<◌, List, [], length, get_or}
use Rattle.std.proofs.Common.{map, sym, ap, subst, ◌∙◌, arith}
use Rattle.std.proofs.lemmas.List.{length-map, get_or-map}
use Rattle.gold_field.specs.declared.gold.TheConstants.{P}
use Rattle.gold_ntt.specs.Polynomial.{sum_to, eval_at}
use Rattle.lig_layout.specs.declared.params.Params.{Params}
use Rattle.lig_layout.specs.Sizes.{IsParams}
use Rattle.lig_proof.specs.declared.challenge.Challenges.{Challenges}
use Rattle.lig_proof.specs.declared.verdict.Verdict.{Verdict}
use Rattle.lig_proof.specs.declared.verdict.Verdict.TheVariants.{Accepted}
use Rattle.lig_proof.specs.declared.verdict.Verdict.TheVariants.{Proximity as NotNear}
use Rattle.lig_proof.specs.declared.verdict.Verdict.TheVariants.{LinearSum as NotSum}
use Rattle.lig_proof.specs.declared.verdict.Verdict.TheVariants.{LinearColumn as NotLinear}
use Rattle.lig_proof.specs.declared.verdict.Verdict.TheVariants.{QuadZero as NotZero}
use Rattle.lig_proof.specs.declared.verdict.Verdict.TheVariants.{QuadColumn as NotProduct}
use Rattle.lig_proof.specs.Points.{code_point, message_point}
use Rattle.lig_proof.specs.Columns.{Encoded, column_at}
use Rattle.lig_proof.specs.Sent.{Polynomials, in_order, polynomials_of, r_numbers}
use Rattle.lig_proof.specs.Audit.{Audit, Proximity, LinearSum, LinearColumn, QuadZero, QuadColumn}
use Rattle.lig_proof.specs.Audit.{IsTested, proximity_value, system_value, product_value}
use Rattle.lig_proof.specs.Values.{proximity_test_at, linear_test_at, product_test_at}
use Rattle.lig_layout.specs.Laws.{inner_product}
use Rattle.lig_complete.specs.Offers.{Offer, AreSent, Twice, ProximityAgrees, LinearAgrees}
use Rattle.lig_complete.specs.Offers.{ProductsAgree, LinearSums, ProductsVanish, FirstOf}
use Rattle.lig_complete.proofs.AtColumns.{audit, proximity_says, linear_says, product_says}
use Rattle.lig_complete.proofs.Places.{proximity_part, linear_part, product_part}
use Rattle.lig_complete.proofs.Solved.{product_sum}

-- ---- lists of indices

-- each element of the first list is one of the second
abbrev pub Covers : List ℕ → List ℕ → Type 0
Covers xs ys = (q : ℕ) → q < length xs
    → (k : ℕ) × (k < length ys) × (get_or ys k 0 ≡ get_or xs q 0)

moved : (G : ℕ → Type 0) (xs ys : List ℕ) → Covers xs ys
    → ((k : ℕ) → k < length ys → G (get_or ys k 0)) → (q : ℕ) → q < length xs → G (get_or xs q 0)
moved G xs ys covers all q inside = let at = covers q inside in subst G at.2 (all at.0 at.1)

pub twice_at : (F : ℕ → Type 0) → Twice F → (t : ℕ) → t < 2 → F t
twice_at F both zero low = both.0
twice_at F both (suc zero) low = both.1
twice_at F both (suc (suc t)) low = absurd (omega arith)

twice_from : (F : ℕ → Type 0) → ((t : ℕ) → t < 2 → F t) → Twice F
twice_from F all = (all 0 (omega arith), all 1 (omega arith))

-- ---- one test at the opened columns, and at those that were drawn

module _ (p : Params) (e : Encoded) (drawn opened A B : List ℕ) (same : A ≡ B)
    (value : ℕ → List ℕ → ℕ) (f : ℕ → ℕ)
    (says : (i : ℕ) → value (code_point p i) (column_at p e i) ≡ f (code_point p i)) where
  column_of : (q : ℕ) → q < length opened
      → get_or (map (column_at p e) opened) q [] ≡ column_at p e (get_or opened q 0)
  column_of q inside = get_or-map (column_at p e) opened q 0 [] inside

  abbrev Agreeing : ℕ → Type 0
  Agreeing i = eval_at B (code_point p i) ≡ f (code_point p i)

  abbrev AtOpened : Type 0
  AtOpened = (q : ℕ) → q < length (map (column_at p e) opened)
      → eval_at A (code_point p (get_or opened q 0))
      ≡ value (code_point p (get_or opened q 0)) (get_or (map (column_at p e) opened) q [])

  to_drawn : Covers drawn opened → AtOpened
      → (q : ℕ) → q < length drawn → Agreeing (get_or drawn q 0)
  to_drawn covers holds = moved Agreeing drawn opened covers (λ k inside.
      let i = get_or opened k 0 in
      ap (λ (ys : List ℕ). eval_at ys (code_point p i)) (sym same)
      ∙ holds k (omega (arith, length-map opened (column_at p e)))
      ∙ ap (value (code_point p i)) (column_of k inside) ∙ says i)

  to_opened : Covers opened drawn → ((q : ℕ) → q < length drawn → Agreeing (get_or drawn q 0))
      → AtOpened
  to_opened covers agrees q within =
      let inside : q < length opened = omega (arith, length-map opened (column_at p e)) in
      let i = get_or opened q 0 in
      ap (λ (ys : List ℕ). eval_at ys (code_point p i)) same
      ∙ moved Agreeing opened drawn covers agrees q inside
      ∙ sym (says i) ∙ sym (ap (value (code_point p i)) (column_of q inside))

-- ---- the five tests

module _ (p : Params) (c : Challenges) (e : Encoded) (s : Polynomials) (system : ℕ → ℕ → List ℕ)
    (rights drawn opened : List ℕ) (h : IsParams p) (sent : AreSent p s)
    (down : Covers drawn opened) (up : Covers opened drawn) where
  abbrev pub offer : Offer
  offer = record {
    params = p;
    matrix = e;
    challenges = c;
    system = system;
    right_sides = rights;
    sent = s;
    drawn = drawn;
  }

  abbrev audited : Audit
  audited = audit p c e s system rights opened

  pub proximity : Proximity audited ↔ ProximityAgrees offer
  proximity =
      let Agreeing : ℕ → Type 0 = λ t. (q : ℕ) → q < length drawn
      → (let x = code_point p (get_or drawn q 0) in
      eval_at (s.proximity t) x ≡ proximity_test_at p c e t x) in (
        λ holds. twice_from Agreeing (λ t low.
            to_drawn p e drawn opened ((polynomials_of p (in_order s)).proximity t) (s.proximity t)
            (proximity_part p s sent t low) (λ x column. proximity_value p c t column)
            (proximity_test_at p c e t) (λ i. proximity_says p c e i t low) down
            (λ q. holds t q low)),
        λ agrees t q low. to_opened p e drawn opened ((polynomials_of p (in_order s)).proximity t)
            (s.proximity t) (proximity_part p s sent t low)
            (λ x column. proximity_value p c t column)
            (proximity_test_at p c e t) (λ i. proximity_says p c e i t low) up
            (twice_at Agreeing agrees t low) q,
      )

  pub linear_column : LinearColumn audited ↔ LinearAgrees offer
  linear_column =
      let Agreeing : ℕ → Type 0 = λ t. (q : ℕ) → q < length drawn
      → (let x = code_point p (get_or drawn q 0) in
      eval_at (s.linear t) x ≡ linear_test_at p e (system t) t x) in (
        λ holds. twice_from Agreeing (λ t low.
            to_drawn p e drawn opened ((polynomials_of p (in_order s)).linear t) (s.linear t)
            (linear_part p s sent t low) (λ x column. system_value p (system t) t x column)
            (linear_test_at p e (system t) t) (λ i. linear_says p c e i t low (system t)) down
            (λ q. holds t q low)),
        λ agrees t q low. to_opened p e drawn opened ((polynomials_of p (in_order s)).linear t)
            (s.linear t) (linear_part p s sent t low)
            (λ x column. system_value p (system t) t x column)
            (linear_test_at p e (system t) t) (λ i. linear_says p c e i t low (system t)) up
            (twice_at Agreeing agrees t low) q,
      )

  pub quad_column : QuadColumn audited ↔ ProductsAgree offer
  quad_column =
      let Agreeing : ℕ → Type 0 = λ t. (q : ℕ) → q < length drawn
      → (let x = code_point p (get_or drawn q 0) in
      eval_at (s.product t) x ≡ product_test_at p c e t x) in (
        λ holds. twice_from Agreeing (λ t low.
            to_drawn p e drawn opened ((polynomials_of p (in_order s)).product t) (s.product t)
            (product_part p s sent t low) (λ x column. product_value p c t column)
            (product_test_at p c e t) (λ i. product_says p c e i t low h) down
            (λ q. holds t q low)),
        λ agrees t q low. to_opened p e drawn opened ((polynomials_of p (in_order s)).product t)
            (s.product t) (product_part p s sent t low) (λ x column. product_value p c t column)
            (product_test_at p c e t) (λ i. product_says p c e i t low h) up
            (twice_at Agreeing agrees t low) q,
      )

  pub linear_sum : LinearSum audited ↔ LinearSums offer
  linear_sum =
      let point = message_point p in
      let sums = λ (poly : List ℕ). sum_to p.l (λ j. eval_at poly (point j)) % P in
      let Sums : ℕ → Type 0 =
      λ t. sums (s.linear t) ≡ inner_product (r_numbers (length rights) c t) rights % P in
      let part = λ (t : ℕ). λ (low : t < 2). ap sums (linear_part p s sent t low) in
      let right = λ (t : ℕ). ap (λ (y : ℕ). y % P)
      (product_sum (length rights) (r_numbers (length rights) c t) rights (omega arith)) in (
        λ holds. twice_from Sums (λ t low. sym (part t low) ∙ holds t low ∙ sym (right t)),
        λ agrees t low. part t low ∙ twice_at Sums agrees t low ∙ right t,
      )

  pub quad_zero : QuadZero audited ↔ ProductsVanish offer
  quad_zero =
      let Vanishing : ℕ → Type 0 =
      λ t. (j : ℕ) → j < p.l → eval_at (s.product t) (message_point p j) ≡ 0 in
      let part = λ (t : ℕ). λ (j : ℕ). λ (low : t < 2).
      ap (λ (ys : List ℕ). eval_at ys (message_point p j)) (product_part p s sent t low) in (
        λ holds. twice_from Vanishing (λ t low j inside.
            sym (part t j low) ∙ holds t j low inside),
        λ agrees t j low inside. part t j low ∙ twice_at Vanishing agrees t low j inside,
      )

-- ---- the first that fails

first_moves : (A B C D E F G H I J : Type 0) → A ↔ F → B ↔ G → C ↔ H → D ↔ I → E ↔ J
    → (v : Verdict) → FirstOf A B C D E v → FirstOf F G H I J v
first_moves A B C D E F G H I J a b c d e Accepted k = (a.0 k.0, b.0 k.1, c.0 k.2, d.0 k.3, e.0 k.4)
first_moves A B C D E F G H I J a b c d e NotNear k = λ x. k (a.1 x)
first_moves A B C D E F G H I J a b c d e NotSum k = (a.0 k.0, λ x. k.1 (b.1 x))
first_moves A B C D E F G H I J a b c d e NotLinear k = (a.0 k.0, b.0 k.1, λ x. k.2 (c.1 x))
first_moves A B C D E F G H I J a b c d e NotZero k =
    (a.0 k.0, b.0 k.1, c.0 k.2, λ x. k.3 (d.1 x))
first_moves A B C D E F G H I J a b c d e NotProduct k =
    (a.0 k.0, b.0 k.1, c.0 k.2, d.0 k.3, λ x. k.4 (e.1 x))
first_moves A B C D E F G H I J a b c d e _ k = absurd k

-- the same where only the third claim is another
pub third_moves : (A B C D E H : Type 0) → C ↔ H → (v : Verdict) → FirstOf A B C D E v
    → FirstOf A B H D E v
third_moves A B C D E H c v k =
    first_moves A B C D E A B H D E (λ x. x, λ x. x) (λ x. x, λ x. x) c (λ x. x, λ x. x)
    (λ x. x, λ x. x) v k

is_first : (a : Audit) (v : Verdict) → IsTested a v
    → FirstOf (Proximity a) (LinearSum a) (LinearColumn a) (QuadZero a) (QuadColumn a) v
is_first a Accepted k = k
is_first a NotNear k = k
is_first a NotSum k = k
is_first a NotLinear k = k
is_first a NotZero k = k
is_first a NotProduct k = k
is_first a _ k = absurd k

is_tested : (a : Audit) (v : Verdict)
    → FirstOf (Proximity a) (LinearSum a) (LinearColumn a) (QuadZero a) (QuadColumn a) v
    → IsTested a v
is_tested a Accepted k = k
is_tested a NotNear k = k
is_tested a NotSum k = k
is_tested a NotLinear k = k
is_tested a NotZero k = k
is_tested a NotProduct k = k
is_tested a _ k = absurd k

turned : (A B : Type 0) → A ↔ B → B ↔ A
turned A B both = (both.1, both.0)

module _ (p : Params) (c : Challenges) (e : Encoded) (s : Polynomials) (system : ℕ → ℕ → List ℕ)
    (rights drawn opened : List ℕ) (h : IsParams p) (sent : AreSent p s)
    (down : Covers drawn opened) (up : Covers opened drawn) where
  abbrev o : Offer
  o = offer p c e s system rights drawn opened h sent down up

  abbrev a : Audit
  a = audit p c e s system rights opened

  abbrev First : Verdict → Type 0
  First v = FirstOf (ProximityAgrees o) (LinearSums o) (LinearAgrees o) (ProductsVanish o)
      (ProductsAgree o) v

  near : Proximity a ↔ ProximityAgrees o
  near = proximity p c e s system rights drawn opened h sent down up

  sums : LinearSum a ↔ LinearSums o
  sums = linear_sum p c e s system rights drawn opened h sent down up

  linear : LinearColumn a ↔ LinearAgrees o
  linear = linear_column p c e s system rights drawn opened h sent down up

  zeros : QuadZero a ↔ ProductsVanish o
  zeros = quad_zero p c e s system rights drawn opened h sent down up

  products : QuadColumn a ↔ ProductsAgree o
  products = quad_column p c e s system rights drawn opened h sent down up

  pub tested_first : (v : Verdict) → IsTested a v → First v
  tested_first v tested =
      first_moves (Proximity a) (LinearSum a) (LinearColumn a) (QuadZero a) (QuadColumn a)
      (ProximityAgrees o) (LinearSums o) (LinearAgrees o) (ProductsVanish o) (ProductsAgree o)
      near sums linear zeros products v (is_first a v tested)

  pub first_tested : (v : Verdict) → First v → IsTested a v
  first_tested v first =
      is_tested a v
      (first_moves (ProximityAgrees o) (LinearSums o) (LinearAgrees o) (ProductsVanish o)
      (ProductsAgree o) (Proximity a) (LinearSum a) (LinearColumn a) (QuadZero a) (QuadColumn a)
      (turned (Proximity a) (ProximityAgrees o) near) (turned (LinearSum a) (LinearSums o) sums)
      (turned (LinearColumn a) (LinearAgrees o) linear)
      (turned (QuadZero a) (ProductsVanish o) zeros)
      (turned (QuadColumn a) (ProductsAgree o) products) v first)
