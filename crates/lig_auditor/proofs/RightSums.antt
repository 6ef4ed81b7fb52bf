-- The two sides of the sum over the message points.
use Rattle.std.proofs.Common.{◌≡◌, ℕ, suc, ◌+◌, ◌-◌, ◌*◌, ◌%◌, ◌<◌, List}
use Rattle.std.proofs.Common.{◌∷◌, ◌++◌, length, take, drop, replicate, get_or, eq-eqb, eqb}
use Rattle.std.proofs.Common.{not, true, false, inl, inr, sym, ap, ◌∙◌, arith}
use Rattle.std.proofs.Math.Seq.{get_or-append_right}
use Rattle.std.proofs.lemmas.Bool.{ne_eqb, both_ways, cases_eq}
use Rattle.std.proofs.lemmas.List.{get_or_append_left, get_or-replicate, length-replicate}
use Rattle.std.proofs.lemmas.List.{length-append, length-drop, get_or-drop, take_all}
use Rattle.gold_field.specs.declared.gold.TheConstants.{P}
use Rattle.gold_ntt.specs.Polynomial.{sum_to, eval_at}
use Rattle.iden_files.specs.File.{File}
use Rattle.lig_layout.specs.System.{right_sides, equation_count}
use Rattle.lig_layout.specs.Sizes.{IsParams}
use Rattle.lig_layout.specs.System.{public_count}
use Rattle.lig_proof.specs.Points.{message_point, width_log}
use Rattle.lig_proof.proofs.Interpolants.{width_is}
use Rattle.lig_proof.proofs.PointSums.{sum_parts, sum_at_points}
use Rattle.lig_auditor.proofs.Matching.{one_more}
use Rattle.lig_proof.specs.Sent.{polynomials_of, r_numbers}
use Rattle.lig_auditor.specs.declared.opening.Opening.{Opening}
use Rattle.gold_ntt.proofs.Sums.{sum_same, sum_first, sum-zero}

-- numbers times right sides: zeros, then 1, then the public values
pub sum_of_known : (zeros : ℕ) (r publics : List ℕ)
    → sum_to (length (replicate zeros 0 ++ 1 ∷ publics))
    (λ e. get_or r e 0 * get_or (replicate zeros 0 ++ 1 ∷ publics) e 0)
    ≡ get_or (drop zeros r) 0 0
    + sum_to (length publics) (λ k. get_or (drop zeros r) (1 + k) 0 * get_or publics k 0)
sum_of_known zeros r publics =
    let none : List ℕ = replicate zeros 0 in
    let known : List ℕ = 1 ∷ publics in
    let n = length publics in
    let b : List ℕ = none ++ known in
    let f : ℕ → ℕ = λ e. get_or r e 0 * get_or b e 0 in
    let empty = length-replicate {A = ℕ} zeros 0 in
    let count : length b ≡ zeros + suc n = omega (arith, length-append none known) in
    let before : sum_to zeros f ≡ 0 =
    sum_same zeros f (λ i. 0) (λ i h.
    let zero_there : get_or b i 0 ≡ 0 =
    get_or_append_left none known 0 i (omega arith) ∙ get_or-replicate zeros i 0 0 h in
    ap (λ (y : ℕ). get_or r i 0 * y) zero_there ∙ omega arith) ∙ sum-zero zeros in
    let behind : (i : ℕ) → get_or b (zeros + i) 0 ≡ get_or known i 0 = λ i.
    let place : zeros + i - length none ≡ i = omega arith in
    get_or-append_right none known (zeros + i) 0 (omega arith) ∙ ap (λ k. get_or known k 0) place in
    let at : (i : ℕ) → get_or r (zeros + i) 0 ≡ get_or (drop zeros r) i 0 =
    λ i. sym (get_or-drop zeros r i 0) in
    let g : ℕ → ℕ = λ i. get_or (drop zeros r) i 0 * get_or known i 0 in
    let after : sum_to (suc n) (λ i. f (zeros + i)) ≡ sum_to (suc n) g =
    sum_same (suc n) (λ i. f (zeros + i)) g
    (λ i h. ap (λ (y : ℕ). y * get_or b (zeros + i) 0) (at i)
    ∙ ap (λ (y : ℕ). get_or (drop zeros r) i 0 * y) (behind i)) in
    let first : g 0 ≡ get_or (drop zeros r) 0 0 = omega arith in
    let later : sum_to n (λ i. g (suc i))
    ≡ sum_to n (λ k. get_or (drop zeros r) (1 + k) 0 * get_or publics k 0) =
    sum_same n (λ i. g (suc i)) (λ k. get_or (drop zeros r) (1 + k) 0 * get_or publics k 0)
    (λ i h. let place : suc i ≡ 1 + i = omega arith
    in ap (λ k. get_or (drop zeros r) k 0 * get_or publics i 0) place) in
    ap (λ (m : ℕ). sum_to m f) count ∙ sum_parts zeros (suc n) f
    ∙ omega (arith, before, after, sum_first n g, first, later)

-- the test in the first repetitions
abbrev pub SumsTo : File → List ℕ → Opening → ℕ → Type 0
SumsTo f publics o n = (t : ℕ) → t < n
    → (let known = right_sides f publics in
    let r = r_numbers (length known) o.challenges.now t in
    sum_to o.params.now.l
    (λ j. eval_at ((polynomials_of o.params.now o.polys.now).linear t)
    (message_point o.params.now j)) % P
    ≡ sum_to (length known) (λ e. get_or r e 0 * get_or known e 0) % P)

module _ (f : File) (publics : List ℕ) (o : Opening) (t equations : ℕ) (r sent : List ℕ)
    (sum known : ℕ)
    (params : IsParams o.params.now) (count : length publics ≡ public_count f)
    (many : equations ≡ equation_count f)
    (drawn : r ≡ r_numbers equations o.challenges.now t)
    (is : sent ≡ (polynomials_of o.params.now o.polys.now).linear t)
    (size : length sent ≡ 3 * o.params.now.l)
    (summed : sum
    ≡ (o.params.now.l
    * (get_or sent 0 0 + (get_or sent o.params.now.l 0 + get_or sent (2 * o.params.now.l) 0))) %
    P)
    (right : known ≡ (get_or (drop (3 * length f.constraints) r) 0 0
    + sum_to (length publics)
    (λ k. get_or (drop (3 * length f.constraints) r) (1 + k) 0 * get_or publics k 0)) % P) where
  abbrev Sums : ℕ → Type 0
  Sums t =
      let known = right_sides f publics in
      let r = r_numbers (length known) o.challenges.now t in
      sum_to o.params.now.l
      (λ j. eval_at ((polynomials_of o.params.now o.polys.now).linear t)
      (message_point o.params.now j)) % P
      ≡ sum_to (length known) (λ e. get_or r e 0 * get_or known e 0) % P

  left_is : sum_to o.params.now.l
      (λ j. eval_at ((polynomials_of o.params.now o.polys.now).linear t)
      (message_point o.params.now j)) % P ≡ sum
  left_is =
      let width = width_is o.params.now params in
      let least = params.least in
      ap (λ s. sum_to o.params.now.l (λ j. eval_at s (message_point o.params.now j)) % P) (sym is)
      ∙ sum_at_points (width_log o.params.now) o.params.now.l sent width.small width.power
      (omega arith) size ∙ sym summed

  right_is : (let known = right_sides f publics in
      let r = r_numbers (length known) o.challenges.now t in
      sum_to (length known) (λ e. get_or r e 0 * get_or known e 0) % P) ≡ known
  right_is =
      let n = length f.constraints in
      let b = right_sides f publics in
      let all : length b ≡ equations =
      omega (
        arith,
        length-append (replicate (3 * n) 0) (1 ∷ publics),
        length-replicate {A = ℕ} (3 * n) 0,
      ) in
      let numbers : r_numbers (length b) o.challenges.now t ≡ r =
      ap (λ m. r_numbers m o.challenges.now t) all ∙ sym drawn in
      ap (λ rs. sum_to (length b) (λ e. get_or rs e 0 * get_or b e 0) % P) numbers
      ∙ ap (λ y. y % P) (sum_of_known (3 * n) r publics) ∙ sym right

  pub sums_next : SumsTo f publics o t → sum ≡ known → SumsTo f publics o (t + 1)
  sums_next before same = one_more Sums t before (left_is ∙ same ∙ sym right_is)

  pub sums_back : t < 2 → SumsTo f publics o 2 → sum ≡ known
  sums_back low all = sym left_is ∙ all t low ∙ right_is

pub unequal : (a b : ℕ) → not (eqb a b) ≡ true → a ≡ b → ⊥
unequal a b other same = both_ways (not (eqb a b)) (ap not (eq-eqb a b same)) other

pub equal : (a b : ℕ) → not (eqb a b) ≡ false → a ≡ b
equal a b same =
    elim (cases_eq a b) [
      | inl e ↦ e
      | inr ne ↦
          absurd (both_ways (not (eqb a b)) same (ap not (ne_eqb a b ne)))
    ]

pub rest_all : (m : ℕ) (r : List ℕ) → take (length r - m) (drop m r) ≡ drop m r
rest_all m r = take_all (length r - m) (drop m r) (omega (arith, length-drop m r))
