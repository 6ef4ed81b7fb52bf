-- The polynomials of the rows of a combined system.
use Rattle.std.proofs.Common.{◌≡◌, ℕ, zero, suc, ◌+◌, ◌-◌, ◌*◌, ◌%◌, ◌<◌, ◌≤◌, ◌⊎◌, inl, inr, List}
use Rattle.std.proofs.Common.{[], ◌∷◌, length, take, drop, sym, ap, subst, ◌∙◌, arith}
use Rattle.std.specs.List.{AllByRecursion}
use Rattle.std.proofs.lemmas.Bool.{cases_lt}
use Rattle.std.proofs.lemmas.List.FromFn.{length-map-range_with_len}
use Rattle.std.proofs.lemmas.List.{length-take-le, length-drop}
use Rattle.gold_field.specs.declared.gold.TheConstants.{P}
use Rattle.gold_field.specs.declared.form.Term.{Term}
use Rattle.iden_files.specs.File.{File}
use Rattle.lig_layout.specs.declared.params.Params.{Params}
use Rattle.lig_layout.specs.Sizes.{IsParams, params_of}
use Rattle.lig_layout.specs.Layout.{row_at}
use Rattle.lig_layout.specs.System.{combined, combined_at, left_sides, equation_count}
use Rattle.lig_proof.specs.declared.challenge.Challenges.{Challenges}
use Rattle.lig_proof.specs.Encoding.{Interpolates, InterpolateRows}
use Rattle.lig_proof.specs.ProofBytes.{AreValues}
use Rattle.lig_proof.specs.Sent.{r_numbers}
use Rattle.lig_proof.specs.Proving.{AreSystems}
use Rattle.lig_proof.proofs.Interpolants.{made_values, rows_have_polynomials}

taken : (n : ℕ) (xs : List ℕ) → AllByRecursion (λ x. x < P) xs
    → AllByRecursion (λ x. x < P) (take n xs)
taken zero xs h = tt
taken (suc n) [] h = tt
taken (suc n) (x ∷ xs) h = (h.0, taken n xs h.1)

left : (n : ℕ) (xs : List ℕ) → AllByRecursion (λ x. x < P) xs
    → AllByRecursion (λ x. x < P) (drop n xs)
left zero xs h = h
left (suc n) [] h = tt
left (suc n) (x ∷ xs) h = left n xs h.1

-- a row of numbers of the field
pub row_values : (p : Params) (values : List ℕ) (k : ℕ) → AreValues (p.rows * p.l) values
    → k < p.rows → AreValues p.l (row_at p values k)
row_values p values k h low =
    let rows = p.rows in
    let l = p.l in
    let count = h.count in
    let next : (k + 1) * l ≤ rows * l = room k rows l low in
    let rest = length-drop (k * l) values in
    record {
      count = length-take-le l (drop (k * l) values) (omega arith);
      each = taken l (drop (k * l) values) (left (k * l) values h.each);
    }
  where
    room : (k m n : ℕ) → k < m → (k + 1) * n ≤ m * n
    room k m n low = let more : m ≡ k + 1 + (m - (k + 1)) = omega arith
        in let grown = ap (λ (y : ℕ). y * n) more in omega arith

module _ (f : File) (c : Challenges) (h : IsParams (params_of f)) where
  abbrev whole : ℕ → List ℕ
  whole t = let p = params_of f
      in combined (p.rows * p.l) (r_numbers (equation_count f) c t) (left_sides p f)

  polynomial : (t k : ℕ) → k < (params_of f).rows → (polynomial : List ℕ)
      × Interpolates (params_of f) (row_at (params_of f) (whole t) k) polynomial
  polynomial t k low =
      let p = params_of f in
      let forms = left_sides p f in
      let numbers = r_numbers (equation_count f) c t in
      rows_have_polynomials p (row_at p (whole t) k) h
      (row_values p (whole t) k
      (made_values (p.rows * p.l) (λ place. combined_at place numbers forms)) low)

  chosen : (t k : ℕ) → (k < (params_of f).rows) ⊎ ((params_of f).rows ≤ k) → List ℕ
  chosen t k (inl low) = (polynomial t k low).0
  chosen t k (inr high) = []

  fits : (t k : ℕ) (o : (k < (params_of f).rows) ⊎ ((params_of f).rows ≤ k))
      → k < (params_of f).rows
      → Interpolates (params_of f) (row_at (params_of f) (whole t) k) (chosen t k o)
  unfolding chosen
  fits t k (inl low) h = (polynomial t k low).1
  fits t k (inr high) h = absurd (omega arith)

  -- there are such polynomials
  pub systems_exist : (system : ℕ → ℕ → List ℕ) × AreSystems f c system
  systems_exist = (
    λ t k. chosen t k (cases_lt k (params_of f).rows),
    λ t two k low. fits t k (cases_lt k (params_of f).rows) low,
  )

pub length-combined : (size : ℕ) (r : List ℕ) (forms : List (List Term))
    → length (combined size r forms) ≡ size
length-combined size r forms =
    length-map-range_with_len (λ place. combined_at place r forms % P) 0 size

-- the polynomials of one repetition
pub system_row : (p : Params) (f : File) (c : Challenges) (t equations : ℕ) (numbers whole : List ℕ)
    (system : ℕ → ℕ → List ℕ)
    → p ≡ params_of f → equations ≡ equation_count f → numbers ≡ r_numbers equations c t
    → whole ≡ combined (p.rows * p.l) numbers (left_sides p f)
    → AreSystems f c system → t < 2 → InterpolateRows p whole (system t)
system_row p f c t equations numbers whole system is many drawn made are low =
    let Rows : Params
    → Type 0 =
    λ q. InterpolateRows q
    (combined (q.rows * q.l) (r_numbers (equation_count f) c t) (left_sides q f)) (system t) in
    let rows : Rows p = subst Rows (sym is) (are t low) in
    let Whole : List ℕ → Type 0 = λ xs. InterpolateRows p xs (system t) in
    let same : combined (p.rows * p.l) (r_numbers (equation_count f) c t) (left_sides p f) ≡ whole =
    sym (made
    ∙ ap (λ r. combined (p.rows * p.l) r (left_sides p f))
    (drawn ∙ ap (λ n. r_numbers n c t) many)) in
    subst Whole same rows
