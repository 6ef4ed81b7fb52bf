-- What was sent has the values of the columns.
use Rattle.std.proofs.Common.{◌≡◌, ◌↔◌, ℕ, zero, suc, ◌+◌, ◌*◌, ◌<◌, Bool, true, false, IsTrue}
use Rattle.std.proofs.Common.{List, length, get_or, refl, sym, ap, subst, ◌∙◌, arith, ⊎_elim}
use Rattle.std.proofs.lemmas.Bool.{cases_lt}
use Rattle.gold_ntt.specs.Polynomial.{eval_at}
use Rattle.lig_layout.specs.declared.params.Params.{Params}
use Rattle.lig_layout.specs.Sizes.{IsParams}
use Rattle.lig_proof.specs.Points.{code_point, message_point, width_log}
use Rattle.lig_proof.specs.Sent.{polynomials_of}
use Rattle.lig_auditor.specs.declared.opening.Opening.{Opening}
use Rattle.lig_auditor.specs.Opened.{ArePoints, HasValuesAt, folded}
use Rattle.lig_proof.proofs.Interpolants.{width_is}
use Rattle.lig_auditor.proofs.Folding.{zero_values, zero_folds}

pub holds : {A : Type 0} → A → (true ≡ true → A) × (A → true ≡ true)
holds a = (λ e. a, λ x. refl)

pub fails : {A : Type 0} → (A → ⊥) → (false ≡ true → A) × (A → false ≡ true)
fails n = (λ e. absurd (cc), λ x. absurd (n x))

module _ (p : Params) (indices points values polynomial : List ℕ) (n : ℕ) (f : ℕ → ℕ)
    (are : ArePoints p indices points) (count : length indices ≡ n)
    (value : (q : ℕ) → q < n → get_or values q 0 ≡ f q) where
  abbrev At : ℕ → Type 0
  At q = eval_at polynomial (code_point p (get_or indices q 0)) ≡ f q

  pub at_columns : HasValuesAt polynomial points values → (q : ℕ) → q < n → At q
  at_columns has q low =
      let within : q < length points = let c = are.count in omega arith in
      ap (eval_at polynomial) (sym (are.each q (omega arith))) ∙ has q within ∙ value q low

  pub at_points : ((q : ℕ) → q < n → At q) → HasValuesAt polynomial points values
  at_points all q low =
      let within : q < n = let c = are.count in omega arith in
      ap (eval_at polynomial) (are.each q (omega arith)) ∙ all q within ∙ sym (value q within)

in_either : (At : ℕ → Type 0) → At 0 → At 1 → (t : ℕ) → t < 2 → At t
in_either At x y zero low = x
in_either At x y (suc zero) low = y
in_either At x y (suc (suc t)) low = absurd (omega arith)

-- a test of each column, in both repetitions
module _ (n : ℕ) (At : ℕ → ℕ → Type 0) where
  abbrev Here : ℕ → Type 0
  Here t = (q : ℕ) → q < n → At t q

  abbrev There : Type 0
  There = (t q : ℕ) → t < 2 → q < n → At t q

  pub in_both : (a b r : Bool) → (IsTrue a ↔ Here 0) → (IsTrue b ↔ Here 1)
      → (IsTrue r ↔ (IsTrue a × IsTrue b)) → IsTrue r ↔ There
  in_both a b r first second whole = (
    λ e t q low within.
        in_either (λ s. At s q) (first.0 (whole.0 e).0 q within)
        (second.0 (whole.0 e).1 q within) t low,
    λ h. whole.1 (
      first.1 (λ q within. h 0 q (omega arith) within),
      second.1 (λ q within. h 1 q (omega arith) within),
    ),
  )

-- one repetition more
pub one_more : (At : ℕ → Type 0) (t : ℕ) → ((s : ℕ) → s < t → At s) → At t → (s : ℕ) → s < t + 1
    → At s
one_more At t before here s low =
    ⊎_elim (λ l. before s l) (λ g. let is : t ≡ s = omega arith in subst At is here) (cases_lt s t)

-- the test of the products in the first repetitions
abbrev pub ZeroTo : Opening → ℕ → Type 0
ZeroTo o n = (t j : ℕ) → t < n → j < o.params.now.l
    → eval_at ((polynomials_of o.params.now o.polys.now).product t) (message_point o.params.now j)
    ≡ 0

-- a polynomial whose remainder is 0 is 0 at the message points
module _ (o : Opening) (t : ℕ) (f : List ℕ) (params : IsParams o.params.now)
    (is : f ≡ (polynomials_of o.params.now o.polys.now).product t)
    (count : length f ≡ 4 * o.params.now.l) where
  zeros : ((k : ℕ) → k < o.params.now.l → folded o.params.now.l f k ≡ 0) → (j : ℕ)
      → j < o.params.now.l
      → eval_at ((polynomials_of o.params.now o.polys.now).product t) (message_point o.params.now j)
      ≡ 0
  zeros none j low =
      let width = width_is o.params.now params in
      ap (λ s. eval_at s (message_point o.params.now j)) (sym is)
      ∙ zero_values o.params.now.l f count (width_log o.params.now) width.small width.power none j

  pub zero_next : ZeroTo o t → ((k : ℕ) → k < o.params.now.l → folded o.params.now.l f k ≡ 0)
      → ZeroTo o (t + 1)
  zero_next before none = λ s j low within.
      one_more (λ s. (j : ℕ) → j < o.params.now.l
      → eval_at ((polynomials_of o.params.now o.polys.now).product s)
      (message_point o.params.now j) ≡ 0)
      t (λ s l j m. before s j l m) (zeros none) s low j within

  pub zero_back : t < 2 → ZeroTo o 2 → (k : ℕ) → k < o.params.now.l → folded o.params.now.l f k ≡ 0
  zero_back low all =
      let width = width_is o.params.now params in
      zero_folds o.params.now.l f count (width_log o.params.now) width.small width.power
      (λ j within. ap (λ s. eval_at s (message_point o.params.now j)) is ∙ all t j low within)
