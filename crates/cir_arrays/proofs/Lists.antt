-- A function of what is left of a list, one step on; and reads and writes at places past the end.
use Rattle.std.proofs.Common.{◌≡◌, ℕ, ◌+◌, ◌<◌, ◌≤◌, ◌⊎◌, List, [], ◌∷◌, ◌++◌, get_or, take, drop}
use Rattle.std.proofs.Common.{length, set, inl, inr, ap, sym, ◌∙◌, refl, arith}
use Rattle.std.specs.Prelude.{◌^◌, ◌-◌, flat_map, replicate, slice_get}
use Rattle.std.proofs.Math.Nat.{min-eq_left, min-eq_right, sub_self}
use Rattle.std.proofs.lemmas.Bool.{cases_lt}
use Rattle.std.proofs.lemmas.Grind.{flat_map-append}
use Rattle.std.proofs.lemmas.List.{append-nil, append_assoc, at_drop_more, drop_all, drop_more}
use Rattle.std.proofs.lemmas.List.{length-replicate, replicate_more, set-append_right, set_past}
use Rattle.std.proofs.lemmas.List.{take_more}
use Rattle.std.proofs.lemmas.Option.{slice_get_past}
use Rattle.cir_meaning.specs.Limits.{standing}

pub at_read : {X Y : Type 0} (F : List X → Y) (xs : List X) (i : ℕ) (x : X) → i < length xs
    → x ≡ get_or xs i x → F (drop i xs) ≡ F (x ∷ drop (i + 1) xs)
at_read F xs i x h e = at_drop_more F xs i x h ∙ ap (λ y. F (y ∷ drop (i + 1) xs)) (sym e)

-- what is made of the elements, with one more
pub flat_more : {X Y : Type 0} (g : X → List Y) (xs : List X) (i : ℕ) (d : X) (ys : List Y)
    → i < length xs → ys ≡ flat_map g (take i xs)
    → ys ++ g (get_or xs i d) ≡ flat_map g (take (i + 1) xs)
flat_more g xs i d ys h e =
    rw (
      take_more xs i d h,
      flat_map-append g (take i xs) (get_or xs i d ∷ []),
      append-nil (g (get_or xs i d)),
      e,
    ) refl

-- a place that stands still lies behind each list
pub stands : (n : ℕ) → (standing n ≡ n) ⊎ ((2 ^ 64 - 1 ≤ n) × (standing n ≡ 2 ^ 64 - 1))
stands n = at (cases_lt n (2 ^ 64 - 1))
  where
    at : (n < 2 ^ 64 - 1) ⊎ (2 ^ 64 - 1 ≤ n)
        → (standing n ≡ n) ⊎ ((2 ^ 64 - 1 ≤ n) × (standing n ≡ 2 ^ 64 - 1))
    at (inl h) = let k : n ≤ 2 ^ 64 - 1 = omega arith in inl (min-eq_left k)
    at (inr h) = inr (h, min-eq_right h)

pub get_standing : {X : Type 0} (xs : List X) (n : ℕ) → length xs ≤ 2 ^ 64 - 1
    → slice_get xs (standing n) ≡ slice_get xs n
get_standing {X} xs n short = at (stands n)
  where
    at : (standing n ≡ n) ⊎ ((2 ^ 64 - 1 ≤ n) × (standing n ≡ 2 ^ 64 - 1))
        → slice_get xs (standing n) ≡ slice_get xs n
    at (inl e) = ap (slice_get xs) e
    at (inr (far, e)) =
        slice_get_past xs (standing n) (rw e short) ∙ sym (slice_get_past xs n (omega arith))

pub set_standing : {X : Type 0} (xs : List X) (n : ℕ) (x : X) → length xs ≤ 2 ^ 64 - 1
    → set xs (standing n) x ≡ set xs n x
set_standing {X} xs n x short = at (stands n)
  where
    at : (standing n ≡ n) ⊎ ((2 ^ 64 - 1 ≤ n) × (standing n ≡ 2 ^ 64 - 1))
        → set xs (standing n) x ≡ set xs n x
    at (inl e) = ap (λ k. set xs k x) e
    at (inr (far, e)) =
        set_past xs (standing n) x (rw e short) ∙ sym (set_past xs n x (omega arith))

-- a loop that writes one element over each
pub fill_next : {X : Type 0} (ws xs : List X) (k : ℕ) (y : X) → k < length ws
    → xs ≡ replicate k y ++ drop k ws → set xs k y ≡ replicate (k + 1) y ++ drop (k + 1) ws
fill_next ws xs k y h e =
    let here : set (drop k ws) (k - k) y ≡ y ∷ drop (k + 1) ws =
    rw (sub_self k, drop_more ws k y h) refl in
    ap (λ zs. set zs k y) e
    ∙ (set-append_right (replicate k y) (drop k ws) k k y (length-replicate k y) (omega arith)
    ∙ (ap (λ zs. replicate k y ++ zs) here
    ∙ (sym (append_assoc (replicate k y) (y ∷ []) (drop (k + 1) ws))
    ∙ ap (λ zs. zs ++ drop (k + 1) ws) (replicate_more k y))))

pub fill_end : {X : Type 0} (ws xs : List X) (k : ℕ) (y : X) → k ≡ length ws
    → xs ≡ replicate k y ++ drop k ws → xs ≡ replicate (length ws) y
fill_end ws xs k y h e =
    e ∙ rw (drop_all k ws (omega arith), append-nil (replicate k y), h) refl
