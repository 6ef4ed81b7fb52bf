-- Where the six polynomials stand among the numbers that are sent.
use Rattle.std.proofs.Common.{◌≡◌, ℕ, zero, suc, ◌+◌, ◌*◌, ◌<◌, List, [], ◌∷◌, ◌++◌, length, take}
use Rattle.std.proofs.Common.{drop, sym, ap, ◌∙◌, arith, append_assoc}
use Rattle.std.specs.List.{AllByRecursion}
use Rattle.std.proofs.Math.Seq.{take-append_seam, drop-append_seam}
use Rattle.std.proofs.lemmas.List.{append-nil, length-append}
use Rattle.gold_field.specs.declared.gold.TheConstants.{P}
use Rattle.lig_layout.specs.declared.params.Params.{Params}
use Rattle.lig_proof.specs.ProofBytes.{AreValues}
use Rattle.lig_proof.specs.Sent.{Polynomials, in_order, polynomials_of}
use Rattle.lig_complete.specs.Offers.{AreSent}

values_after : (m n : ℕ) (xs ys : List ℕ) → AreValues m xs → AreValues n ys
    → AreValues (m + n) (xs ++ ys)
values_after m n xs ys h k =
    let first = h.count in
    let second = k.count in
    record { count = omega (arith, length-append xs ys); each = both xs ys h.each k.each }
  where
    both : (xs ys : List ℕ) → AllByRecursion (λ x. x < P) xs → AllByRecursion (λ x. x < P) ys
        → AllByRecursion (λ x. x < P) (xs ++ ys)
    both [] ys h k = k
    both (x ∷ xs) ys h k = (h.0, both xs ys h.1 k)

-- the part that stands behind m numbers
part : (a b c xs : List ℕ) (m n : ℕ) → xs ≡ a ++ (b ++ c) → m ≡ length a → n ≡ length b
    → take n (drop m xs) ≡ b
part a b c xs m n whole from size =
    ap (λ (ys : List ℕ). take n (drop m ys)) whole
    ∙ ap (λ (k : ℕ). take n (drop k (a ++ (b ++ c)))) from
    ∙ ap (λ (ys : List ℕ). take n ys) (drop-append_seam a (b ++ c))
    ∙ ap (λ (k : ℕ). take k (b ++ c)) size
    ∙ take-append_seam b c

module _ (p : Params) (s : Polynomials) (sent : AreSent p s) where
  pub sent_values : AreValues (18 * p.l) (in_order s)
  sent_values =
      let zero_low : 0 < 2 = omega arith in
      let one_low : 1 < 2 = omega arith in
      let l = p.l in
      let last = values_after (3 * l) (4 * l) (s.linear 1) (s.product 1) (sent.linear 1 one_low)
      (sent.product 1 one_low) in
      let second = values_after (2 * l) (3 * l + 4 * l) (s.proximity 1) (s.linear 1 ++ s.product 1)
      (sent.proximity 1 one_low) last in
      let third =
      values_after (4 * l) (2 * l + (3 * l + 4 * l)) (s.product 0)
      (s.proximity 1 ++ (s.linear 1 ++ s.product 1)) (sent.product 0 zero_low) second in
      let fourth =
      values_after (3 * l) (4 * l + (2 * l + (3 * l + 4 * l))) (s.linear 0)
      (s.product 0 ++ (s.proximity 1 ++ (s.linear 1 ++ s.product 1)))
      (sent.linear 0 zero_low) third in
      let all = values_after (2 * l) (3 * l + (4 * l + (2 * l + (3 * l + 4 * l)))) (s.proximity 0)
      (s.linear 0 ++ (s.product 0 ++ (s.proximity 1 ++ (s.linear 1 ++ s.product 1))))
      (sent.proximity 0 zero_low) fourth in
      let count = all.count in
      record { count = omega arith; each = all.each }

  abbrev values : List ℕ
  values = in_order s

  abbrev repetition : ℕ → List ℕ
  repetition t = s.proximity t ++ (s.linear t ++ s.product t)

  length-repetition : (t : ℕ) → t < 2 → length (repetition t) ≡ 9 * p.l
  length-repetition t low =
      let proximity = (sent.proximity t low).count in
      let linear = (sent.linear t low).count in
      let product = (sent.product t low).count in
      omega (
        arith,
        length-append (s.proximity t) (s.linear t ++ s.product t),
        length-append (s.linear t) (s.product t),
      )

  -- what stands before and behind a repetition
  abbrev before : ℕ → List ℕ
  before zero = []
  before (suc t) = repetition 0

  abbrev behind : ℕ → List ℕ
  behind zero = repetition 1
  behind (suc t) = []

  length-before : (t : ℕ) → t < 2 → length (before t) ≡ t * (9 * p.l)
  length-before zero low = omega arith
  length-before (suc zero) low =
      let zero_low : 0 < 2 = omega arith in omega (arith, length-repetition 0 zero_low)
  length-before (suc (suc t)) low = absurd (omega arith)

  around : (t : ℕ) → t < 2 → values ≡ before t ++ (repetition t ++ behind t)
  around zero low = sym (simp append_assoc)
  around (suc zero) low = sym (simp (append_assoc, append-nil))
  around (suc (suc t)) low = absurd (omega arith)

  pub proximity_part : (t : ℕ) → t < 2 → (polynomials_of p values).proximity t ≡ s.proximity t
  proximity_part t low =
      let proximity = (sent.proximity t low).count in
      let rest = (s.linear t ++ s.product t) ++ behind t in
      part (before t) (s.proximity t) rest values (t * (9 * p.l)) (2 * p.l)
      (around t low
      ∙ ap (λ (ys : List ℕ). before t ++ ys)
      (append_assoc (s.proximity t) (s.linear t ++ s.product t) (behind t)))
      (sym (length-before t low)) (sym proximity)

  pub linear_part : (t : ℕ) → t < 2 → (polynomials_of p values).linear t ≡ s.linear t
  linear_part t low =
      let proximity = (sent.proximity t low).count in
      let linear = (sent.linear t low).count in
      part (before t ++ s.proximity t) (s.linear t) (s.product t ++ behind t) values
      (t * (9 * p.l) + 2 * p.l) (3 * p.l)
      (around t low ∙ regroup (before t) (s.proximity t) (s.linear t) (s.product t) (behind t))
      (omega (arith, length-append (before t) (s.proximity t), length-before t low)) (sym linear)
    where
      regroup : (a b c d e : List ℕ) → a ++ ((b ++ (c ++ d)) ++ e) ≡ (a ++ b) ++ (c ++ (d ++ e))
      regroup a b c d e = simp append_assoc

  pub product_part : (t : ℕ) → t < 2 → (polynomials_of p values).product t ≡ s.product t
  product_part t low =
      let proximity = (sent.proximity t low).count in
      let linear = (sent.linear t low).count in
      let product = (sent.product t low).count in
      part (before t ++ (s.proximity t ++ s.linear t)) (s.product t) (behind t) values
      (t * (9 * p.l) + 5 * p.l) (4 * p.l)
      (around t low ∙ regroup (before t) (s.proximity t) (s.linear t) (s.product t) (behind t))
      (omega (
        arith,
        length-append (before t) (s.proximity t ++ s.linear t),
        length-append (s.proximity t) (s.linear t),
        length-before t low,
      )) (sym product)
    where
      regroup : (a b c d e : List ℕ) → a ++ ((b ++ (c ++ d)) ++ e) ≡ (a ++ (b ++ c)) ++ (d ++ e)
      regroup a b c d e = simp append_assoc
