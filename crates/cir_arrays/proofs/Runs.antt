-- Numbers that follow each other.
use Rattle.std.proofs.Common.{◌≡◌, ℕ, zero, suc, ◌+◌, ◌*◌, List, [], ◌∷◌, ◌++◌, ◌<◌, length, get_or}
use Rattle.std.proofs.Common.{take, ap, ◌∙◌, refl, add-one, add-zero, zero-add, append_assoc, arith}
use Rattle.std.specs.Prelude.{map, flat_map}
use Rattle.std.proofs.Math.Nat.{mul-one}
use Rattle.std.proofs.lemmas.List.{map-append}
use Rattle.cir_meaning.specs.Places.{numbers_from}
use Rattle.cir_arrays.proofs.Lists.{flat_more}

pub numbers_suc : (n k : ℕ) → numbers_from n (suc k) ≡ numbers_from n k ++ (n + k) ∷ []
numbers_suc n zero = ap (λ (x : ℕ). x ∷ []) (omega arith)
numbers_suc n (suc k) =
    ap (λ (xs : List ℕ). n ∷ xs) (numbers_suc (n + 1) k
    ∙ ap (λ (x : ℕ). numbers_from (n + 1) k ++ x ∷ []) (omega arith))

pub numbers_more : (n k : ℕ) → numbers_from n (k + 1) ≡ numbers_from n k ++ (n + k) ∷ []
numbers_more n k = ap (numbers_from n) (add-one k) ∙ numbers_suc n k

pub length_numbers : (n k : ℕ) → length (numbers_from n k) ≡ k
length_numbers n zero = refl
length_numbers n (suc k) = ap suc (length_numbers (n + 1) k)

pub shifted : (f a k : ℕ) → map (λ (i : ℕ). f + i) (numbers_from a k) ≡ numbers_from (f + a) k
shifted f a zero = refl
shifted f a (suc k) = ap (λ (xs : List ℕ). (f + a) ∷ xs)
    (shifted f (a + 1) k ∙ ap (λ (x : ℕ). numbers_from x k) (omega arith))

-- steps of 1 are the numbers themselves
pub single_steps : (f a k : ℕ) → map (λ (i : ℕ). f + i * 1) (numbers_from a k)
    ≡ numbers_from (f + a) k
single_steps f a zero = refl
single_steps f a (suc k) =
    rw (mul-one a) (ap (λ (xs : List ℕ). (f + a) ∷ xs) (single_steps f (a + 1) k
    ∙ ap (λ (x : ℕ). numbers_from x k) (omega arith)))

-- the next place of a run of steps
pub run_more : (old new : List ℕ) (f s i : ℕ)
    → new ≡ old ++ map (λ (k : ℕ). f + k * s) (numbers_from 0 i)
    → new ++ (f + i * s) ∷ [] ≡ old ++ map (λ (k : ℕ). f + k * s) (numbers_from 0 (i + 1))
run_more old new f s i e =
    rw (
      numbers_more 0 i,
      map-append (λ (k : ℕ). f + k * s) (numbers_from 0 i) ((0 + i) ∷ []),
      zero-add i,
      e,
    ) (append_assoc old (map (λ (k : ℕ). f + k * s) (numbers_from 0 i))
    ((f + i * s) ∷ []))

-- and the next run of all
pub runs_more : (xs new : List ℕ) (i n : ℕ) → i < length xs
    → new ≡ flat_map (λ (f : ℕ). numbers_from f n) (take i xs)
    → new ++ map (λ (k : ℕ). get_or xs i 0 + k * 1) (numbers_from 0 n)
    ≡ flat_map (λ (f : ℕ). numbers_from f n) (take (i + 1) xs)
runs_more xs new i n h e =
    ap (λ (ys : List ℕ). new ++ ys) (single_steps (get_or xs i 0) 0 n
    ∙ ap (λ (x : ℕ). numbers_from x n) (add-zero (get_or xs i 0)))
    ∙ flat_more (λ (f : ℕ). numbers_from f n) xs i 0 new h e
