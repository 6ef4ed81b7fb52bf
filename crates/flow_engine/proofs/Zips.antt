-- Two lists side by side
use Rattle.std.proofs.Common.{◌≡◌, ℕ, zero, suc, ◌<◌, List, [], ◌∷◌, ◌++◌}
use Rattle.std.proofs.Common.{length, take, drop}
use Rattle.std.proofs.Common.{get_or, set, refl, sym, ap, subst, subst₂, arith}
use Rattle.std.specs.List.{AllZip}

module _ {A B : Type 0} (R : A → B → Type 0) where
  pub zip_read : (xs : List A) (ys : List B) (k : ℕ) (x : A) (y : B) → AllZip R xs ys
      → k < length xs → x ≡ get_or xs k x → y ≡ get_or ys k y → R x y
  zip_read [] ys k x y h lt ex ey = absurd (omega arith)
  zip_read (z ∷ xs) [] k x y h lt ex ey = absurd h
  zip_read (z ∷ xs) (w ∷ ys) zero x y h lt ex ey = subst₂ R (sym ex) (sym ey) h.0
  zip_read (z ∷ xs) (w ∷ ys) (suc k) x y h lt ex ey =
      zip_read xs ys k x y h.1 (omega arith) ex ey

  -- one of the second list is another that the first list's has too
  pub zip_set : (xs : List A) (ys : List B) (k : ℕ) (x : A) (y : B) → AllZip R xs ys
      → k < length xs → x ≡ get_or xs k x → R x y → AllZip R xs (set ys k y)
  zip_set [] ys k x y h lt ex here = absurd (omega arith)
  zip_set (z ∷ xs) [] k x y h lt ex here = absurd h
  zip_set (z ∷ xs) (w ∷ ys) zero x y h lt ex here = (subst (λ a. R a y) ex here, h.1)
  zip_set (z ∷ xs) (w ∷ ys) (suc k) x y h lt ex here =
      (h.0, zip_set xs ys k x y h.1 (omega arith) ex here)

  -- the last of both
  pub zip_last : (xs : List A) (x : A) (ys : List B) (y : B)
      → AllZip R (xs ++ x ∷ []) (ys ++ y ∷ []) → AllZip R xs ys × R x y
  zip_last [] x [] y h = (tt, h.0)
  zip_last [] x (z ∷ []) y h = absurd h.1
  zip_last [] x (z ∷ w ∷ ys) y h = absurd h.1
  zip_last (z ∷ []) x [] y h = absurd h.1
  zip_last (z ∷ w ∷ xs) x [] y h = absurd h.1
  zip_last (z ∷ xs) x (w ∷ ys) y h =
      let r = zip_last xs x ys y h.1 in ((h.0, r.0), r.1)

  -- the last of the second list, which is at the first ones of the first list
  pub zip_before : (xs : List A) (ys : List B) (y : B) (n : ℕ)
      → AllZip R (take n xs) (ys ++ y ∷ []) → n ≡ suc (length ys)
      → AllZip R (take (length ys) xs) ys × ((x : A) → x ≡ get_or xs (length ys) x → R x y)
  zip_before xs ys y zero h e = absurd (omega arith)
  zip_before [] [] y (suc n) h e = absurd h
  zip_before [] (z ∷ ys) y (suc n) h e = absurd h
  zip_before (x ∷ xs) [] y (suc n) h e = (tt, λ w is. subst (λ a. R a y) (sym is) h.0)
  zip_before (x ∷ xs) (z ∷ ys) y (suc n) h e =
      let r = zip_before xs ys y n h.1 (omega arith) in ((h.0, r.0), r.1)

  -- one more in front, where the second list is at the last ones of the first list
  pub zip_front : (xs : List A) (ys : List B) (x : A) (y : B) (n m : ℕ) → n < length xs
      → AllZip R (drop m xs) ys → m ≡ suc n → x ≡ get_or xs n x → R x y
      → AllZip R (drop n xs) (y ∷ ys)
  zip_front [] ys x y n m lt h e is here = absurd (omega arith)
  zip_front (z ∷ xs) ys x y n zero lt h e is here = absurd (omega arith)
  zip_front (z ∷ xs) ys x y zero (suc m) lt h e is here =
      let none : m ≡ zero = omega arith in
      (subst (λ a. R a y) is here, subst (λ k. AllZip R (drop k xs) ys) none h)
  zip_front (z ∷ xs) ys x y (suc n) (suc m) lt h e is here =
      zip_front xs ys x y n m (omega arith) h (omega arith) is here

  -- one more behind, where the second list is at the first ones of the first list
  pub zip_more : (xs : List A) (ys : List B) (x : A) (y : B) (n m : ℕ) → n < length xs
      → AllZip R (take n xs) ys → m ≡ suc n → x ≡ get_or xs n x → R x y
      → AllZip R (take m xs) (ys ++ y ∷ [])
  zip_more [] ys x y n m lt h e is here = absurd (omega arith)
  zip_more (z ∷ xs) ys x y n zero lt h e is here = absurd (omega arith)
  zip_more (z ∷ xs) [] x y zero (suc m) lt h e is here =
      let none : zero ≡ m = omega arith in
      (subst (λ a. R a y) is here, subst (λ k. AllZip R (take k xs) []) none tt)
  zip_more (z ∷ xs) (w ∷ ys) x y zero (suc m) lt h e is here = absurd h
  zip_more (z ∷ xs) [] x y (suc n) (suc m) lt h e is here = absurd h
  zip_more (z ∷ xs) (w ∷ ys) x y (suc n) (suc m) lt h e is here =
      (h.0, zip_more xs ys x y n m (omega arith) h.1 (omega arith) is here)

  pub zip_length : (xs : List A) (ys : List B) → AllZip R xs ys → length ys ≡ length xs
  zip_length [] [] h = refl
  zip_length [] (y ∷ ys) h = absurd h
  zip_length (x ∷ xs) [] h = absurd h
  zip_length (x ∷ xs) (y ∷ ys) h = ap suc (zip_length xs ys h.1)

pub zip_all : {A B : Type 0} (R Q : A → B → Type 0) → ((x : A) (y : B) → R x y → Q x y)
    → (xs : List A) (ys : List B) → AllZip R xs ys → AllZip Q xs ys
zip_all R Q f [] [] h = tt
zip_all R Q f [] (y ∷ ys) h = absurd h
zip_all R Q f (x ∷ xs) [] h = absurd h
zip_all R Q f (x ∷ xs) (y ∷ ys) h = (f x y h.0, zip_all R Q f xs ys h.1)
