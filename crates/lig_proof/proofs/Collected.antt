-- Lists that are collected place by place.
use Rattle.std.proofs.Common.{◌≡◌, ℕ, zero, suc, ◌+◌, ◌<◌, List, [], ◌∷◌, length, map, get_or}
use Rattle.std.proofs.Common.{Result, Ok, Err, IfOk, refl, sym, ap, subst, ◌∙◌, arith, zero-add}
use Rattle.std.specs.Prelude.{MatchResult}
use Rattle.std.specs.List.{AllZip, range_with_len}
use Rattle.std.proofs.lemmas.List.{length-map, get_or-map}
use Rattle.std.proofs.lemmas.List.FromFn.{fill_by_all, length-range_with_len}
use Rattle.std.proofs.lemmas.Slice.Zip.{AllZip-map, AllZip-long}

module _ {T E V : Type 0} (items : V → List T) (R : ℕ → Result T E → Type 0) where
  AllZip-oks : (is : List ℕ) (ys : List T) → AllZip R is (map Ok ys)
      → AllZip (λ i y. R i (Ok y)) is ys
  AllZip-oks [] [] h = tt
  AllZip-oks [] (y ∷ ys) h = absurd h
  AllZip-oks (i ∷ is) [] h = absurd h
  AllZip-oks (i ∷ is) (y ∷ ys) h = (h.0, AllZip-oks is ys h.1)

  -- the values, where each call gave one
  pub collected : (is : List ℕ) (xs : List (Result T E)) (r : Result V E) (Missing : E → Type 0)
      → AllZip R is xs
      → MatchResult r (λ v. (ys : List T) × (xs ≡ map Ok ys) × (items v ≡ ys)) Missing
      → IfOk r (λ v. AllZip (λ i y. R i (Ok y)) is (items v))
  collected is xs (Ok v) Missing zipped h =
      let Zip : List (Result T E) → Type 0 = λ l. AllZip R is l in
      let To : List T → Type 0 = λ l. AllZip (λ i y. R i (Ok y)) is l in
      subst To (sym h.2) (AllZip-oks is h.0 (subst Zip h.1 zipped))
  collected is xs (Err e) Missing zipped h = tt

-- one call for each element of a list
pub mapped : {X Y : Type 0} (f : X → Y) (xs : List X) (d : X) (ys : List Y)
    → AllZip (λ i y. y ≡ f (get_or xs i d)) (range_with_len 0 (length xs)) ys → ys ≡ map f xs
mapped f xs d ys h =
    AllZip-map (λ i. f (get_or xs i d)) (range_with_len 0 (length xs)) ys h
    ∙ sym (fill_by_all (λ k. f (get_or xs k d)) (map f xs) (length xs) (f d) (length-map xs f)
    (λ k l. get_or-map f xs k d (f d) l))

-- what holds of each place, of one of them
at_place : {X : Type 0} (R : ℕ → X → Type 0) (a n : ℕ) (xs : List X) (d : X)
    → AllZip R (range_with_len a n) xs → (k : ℕ) → k < n → R (a + k) (get_or xs k d)
at_place R a zero xs d h k l = absurd (omega arith)
at_place R a (suc n) [] d h k l = absurd h
at_place R a (suc n) (x ∷ xs) d h zero l = subst (λ j. R j x) (omega arith) h.0
at_place R a (suc n) (x ∷ xs) d h (suc k) l =
    let same : a + 1 + k ≡ a + suc k = omega arith in
    subst (λ j. R j (get_or xs k d)) same (at_place R (a + 1) n xs d h.1 k (omega arith))

pub at_first : {X : Type 0} (R : ℕ → X → Type 0) (n : ℕ) (xs : List X) (d : X)
    → AllZip R (range_with_len 0 n) xs → (k : ℕ) → k < n → R k (get_or xs k d)
at_first R n xs d h k l = subst (λ j. R j (get_or xs k d)) (zero-add k) (at_place R 0 n xs d h k l)

pub placed_length : {X : Type 0} (R : ℕ → X → Type 0) (a n : ℕ) (xs : List X)
    → AllZip R (range_with_len a n) xs → length xs ≡ n
placed_length R a n xs h = AllZip-long R (range_with_len a n) xs h ∙ length-range_with_len a n

-- lists of what two functions give
pub range_same : {X : Type 0} (f g : ℕ → X) (a n : ℕ) → ((k : ℕ) → k < a + n → f k ≡ g k)
    → map f (range_with_len a n) ≡ map g (range_with_len a n)
range_same f g a zero same = refl
range_same f g a (suc n) same =
    ap (λ x. x ∷ map f (range_with_len (a + 1) n)) (same a (omega arith))
    ∙ ap (λ xs. g a ∷ xs) (range_same f g (a + 1) n (λ k l. same k (omega arith)))
