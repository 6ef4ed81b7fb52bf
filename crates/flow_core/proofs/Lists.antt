-- A list after a write, and lists made from others
use Rattle.std.proofs.Common.{◌≡◌, ◌≢◌, ℕ, zero, suc, ◌<◌, List, [], ◌∷◌, map, length, get_or, set}
use Rattle.std.proofs.Common.{replicate, refl, sym, subst, inl, inr, get_or-set_other}
use Rattle.std.proofs.Common.{get_or-set_same}
use Rattle.std.proofs.lemmas.Bool.{cases_eq}

-- what holds of the written entry at its place, and of each other at its own, holds of all
pub set_all : {A : Type 0} (xs : List A) (k : ℕ) (x d : A) (Q : ℕ → A → Type 0) → k < length xs
    → Q k x → ((j : ℕ) → j ≢ k → Q j (get_or xs j d)) → (j : ℕ) → Q j (get_or (set xs k x) j d)
set_all xs k x d Q near here others j = elim (cases_eq j k) [
  | inl e ↦ subst (λ i. Q i (get_or (set xs k x) i d)) (sym e)
      (subst (Q k) (sym (get_or-set_same xs k x d near)) here)
  | inr ne ↦ subst (Q j) (sym (get_or-set_other xs k j x d ne)) (others j ne)
]

pub get_or-all_same : {A : Type 0} (n k : ℕ) (x : A) → get_or (replicate n x) k x ≡ x
get_or-all_same zero k x = refl
get_or-all_same (suc n) zero x = refl
get_or-all_same (suc n) (suc k) x = get_or-all_same n k x

pub get_or-map_length : (xs : List (List ℕ)) (k : ℕ)
    → get_or (map length xs) k 0 ≡ length (get_or xs k [])
get_or-map_length [] k = refl
get_or-map_length (x ∷ xs) zero = refl
get_or-map_length (x ∷ xs) (suc k) = get_or-map_length xs k
