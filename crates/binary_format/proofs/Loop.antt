-- Reading fields one after another, as a loop does.
use Rattle.std.proofs.Common.{◌≡◌, ℕ, suc, ◌-◌, ◌+◌, ◌≤◌, ◌<◌, List, [], ◌∷◌, ◌++◌, Result, Ok, Err}
use Rattle.std.proofs.Common.{refl, sym, ap, ◌∙◌, append_assoc, arith}
use Rattle.std.proofs.lemmas.List.{append-nil}
use Rattle.binary_format.specs.Reading.{◌>>=◌, repeated}

-- what was read before, and what is still read
abbrev pub with_front : {A R : Type 0} → List A → Result (List A × List ℕ) R
    → Result (List A × List ℕ) R
with_front front reading = reading >>= λ x. Ok (front ++ x.0, x.1)

module _ {A R : Type 0} (field : List ℕ → Result (A × List ℕ) R) where
  regroup : (front : List A) (x : A) (reading : Result (List A × List ℕ) R)
      → with_front front (reading >>= λ y. Ok (x ∷ y.0, y.1)) ≡ with_front (front ++ x ∷ []) reading
  regroup front x (Ok y) = ap (λ (xs : List A). Ok (xs, y.1)) (simp append_assoc)
  regroup front x (Err e) = refl

  pub goes_on : (front : List A) (count i : ℕ) (bytes : List ℕ) (x : A) (rest : List ℕ)
      (total : Result (List A × List ℕ) R) → i < count → field bytes ≡ Ok (x, rest)
      → with_front front (repeated field (count - i) bytes) ≡ total
      → with_front (front ++ x ∷ []) (repeated field (count - (i + 1)) rest) ≡ total
  goes_on front count i bytes x rest total lt h so_far =
      let k : count - i ≡ suc (count - (i + 1)) = omega arith in
      let one : with_front front (repeated field (count - i) bytes)
      ≡ with_front (front ++ x ∷ []) (repeated field (count - (i + 1)) rest) =
      rw (k, h) (regroup front x (repeated field (count - (i + 1)) rest)) in
      sym one ∙ so_far

  pub fails : (front : List A) (count i : ℕ) (bytes : List ℕ) (e : R)
      (total : Result (List A × List ℕ) R) → i < count → field bytes ≡ Err e
      → with_front front (repeated field (count - i) bytes) ≡ total → total ≡ Err e
  fails front count i bytes e total lt h so_far =
      let k : count - i ≡ suc (count - (i + 1)) = omega arith in
      let one : with_front front (repeated field (count - i) bytes) ≡ Err e = rw (k, h) refl in
      sym so_far ∙ one

  pub is_done : (front : List A) (count i : ℕ) (bytes : List ℕ) (total : Result (List A × List ℕ) R)
      → count ≤ i
      → with_front front (repeated field (count - i) bytes) ≡ total → total ≡ Ok (front, bytes)
  is_done front count i bytes total le so_far =
      let k : count - i ≡ 0 = omega arith in
      let one : with_front front (repeated field (count - i) bytes) ≡ Ok (front, bytes) =
      rw k (ap (λ (xs : List A). Ok (xs, bytes)) (append-nil front)) in
      sym so_far ∙ one
