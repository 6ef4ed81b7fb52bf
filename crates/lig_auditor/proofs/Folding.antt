-- Remainders by X ^ l - 1.
use Rattle.std.proofs.Common.{◌≡◌, ℕ, ◌+◌, ◌-◌, ◌*◌, ◌%◌, ◌^◌, ◌<◌, ◌≤◌, List, length, map, get_or}
use Rattle.std.proofs.Common.{cond, sym, ap, subst, ◌∙◌, arith, zero-add, ⊎_elim}
use Rattle.std.specs.List.{range_with_len}
use Rattle.std.proofs.lemmas.Bool.{cases_lt, lt-ltb, le-ltb}
use Rattle.std.proofs.lemmas.List.{get_or_past}
use Rattle.std.proofs.lemmas.List.FromFn.{length-map-range_with_len, get_or-map-range_with_len}
use Rattle.gold_field.specs.declared.gold.TheConstants.{P}
use Rattle.gold_ntt.specs.Polynomial.{eval_at, shifted_at, IsDivision}
use Rattle.gold_ntt.specs.Transform.{root_of}
use Rattle.gold_ntt.proofs.Division.{division_exact, division_zero}
use Rattle.lig_auditor.specs.Opened.{folded}

-- so many values of a function
abbrev made : ℕ → (ℕ → ℕ) → List ℕ
made n g = map g (range_with_len 0 n)

made_at : (n : ℕ) (g : ℕ → ℕ) (k : ℕ) → k < n → get_or (made n g) k 0 ≡ g k
made_at n g k l = get_or-map-range_with_len g 0 n k k 0 l (zero-add k)

made_past : (n : ℕ) (g : ℕ → ℕ) (k : ℕ) → n ≤ k → get_or (made n g) k 0 ≡ 0
made_past n g k l =
    let count = length-map-range_with_len g 0 n in get_or_past (made n g) k 0 (omega arith)

-- what stands above the remainder
abbrev over : ℕ → List ℕ → ℕ → ℕ
over l f k = get_or f (l + k) 0 + (get_or f (2 * l + k) 0 + get_or f (3 * l + k) 0)

abbrev rest : ℕ → List ℕ → ℕ → ℕ
rest l f k = get_or f k 0 + get_or f (l + k) 0 + (get_or f (2 * l + k) 0 + get_or f (3 * l + k) 0)

module _ (l : ℕ) (f : List ℕ) (count : length f ≡ 4 * l) where
  quotient_at : (k : ℕ) → get_or (made (3 * l) (over l f)) k 0 ≡ over l f k
  quotient_at k = ⊎_elim
      (λ low. made_at (3 * l) (over l f) k low)
      (λ high.
      let one = get_or_past f (l + k) 0 (omega arith) in
      let two = get_or_past f (2 * l + k) 0 (omega arith) in
      let three = get_or_past f (3 * l + k) 0 (omega arith) in
      made_past (3 * l) (over l f) k high ∙ omega arith)
      (cases_lt k (3 * l))

  divided : (k : ℕ) → get_or f k 0 + get_or (made (3 * l) (over l f)) k 0
      ≡ shifted_at l (made (3 * l) (over l f)) k + get_or (made l (rest l f)) k 0
  divided k = ⊎_elim
      (λ low.
      let none = ap (λ b. cond b 0 (get_or (made (3 * l) (over l f)) (k - l) 0)) (lt-ltb k l low) in
      omega (arith, none, quotient_at k, made_at l (rest l f) k low))
      (λ high.
      let some =
      ap (λ b. cond b 0 (get_or (made (3 * l) (over l f)) (k - l) 0)) (le-ltb k l high) in
      let place : l + (k - l) ≡ k = omega arith in
      let second : 2 * l + (k - l) ≡ l + k = omega arith in
      let third : 3 * l + (k - l) ≡ 2 * l + k = omega arith in
      let at_one = ap (λ i. get_or f i 0) place in
      let at_two = ap (λ i. get_or f i 0) second in
      let at_three = ap (λ i. get_or f i 0) third in
      let past = get_or_past f (3 * l + k) 0 (omega arith) in
      omega (arith, some, quotient_at k, quotient_at (k - l), made_past l (rest l f) k high))
      (cases_lt k l)

  division : IsDivision l f (made (3 * l) (over l f)) (made l (rest l f))
  division = record {
    small = let n = length-map-range_with_len (rest l f) 0 l in omega arith;
    coefficient = λ k. ap (λ (y : ℕ). y % P) (divided k);
  }

  module _ (e : ℕ) (small : e ≤ 32) (power : l ≡ 2 ^ e) where
    divided_by : IsDivision (2 ^ e) f (made (3 * l) (over l f)) (made l (rest l f))
    divided_by = let D : ℕ
        → Type 0 = λ n. IsDivision n f (made (3 * l) (over l f)) (made l (rest l f))
        in subst D power division

    -- a remainder of 0 is one whose coefficients are
    pub zero_values : ((k : ℕ) → k < l → folded l f k ≡ 0) → (j : ℕ)
        → eval_at f (root_of e ^ j % P) ≡ 0
    zero_values none =
        division_zero e f (made (3 * l) (over l f)) (made l (rest l f)) small divided_by
        (λ k. ⊎_elim
        (λ low. ap (λ (y : ℕ). y % P) (made_at l (rest l f) k low) ∙ none k low)
        (λ high. ap (λ (y : ℕ). y % P) (made_past l (rest l f) k high))
        (cases_lt k l))

    pub zero_folds : ((j : ℕ) → j < l → eval_at f (root_of e ^ j % P) ≡ 0) → (k : ℕ) → k < l
        → folded l f k ≡ 0
    zero_folds none k low =
        sym (ap (λ (y : ℕ). y % P) (made_at l (rest l f) k low))
        ∙ division_exact e f (made (3 * l) (over l f)) (made l (rest l f)) small divided_by
        (λ j h. none j (omega arith)) k
