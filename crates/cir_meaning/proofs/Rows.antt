-- What holds of each item of a list.
use Rattle.std.proofs.Common.{ℕ, zero, suc, List, [], ◌∷◌, ◌++◌, map, flat_map, replicate}
use Rattle.std.proofs.Common.{slice_get, slice_set, unwrap_or}
use Rattle.std.specs.List.{AllByRecursion}
use Rattle.cir_meaning.specs.Arrays.{put_items}

module _ {A : Type 0} (P : A → Type 0) where
  pub at_or : (xs : List A) (k : ℕ) (d : A) → AllByRecursion P xs → P d
      → P (unwrap_or (slice_get xs k) d)
  at_or [] k d h p = p
  at_or (x ∷ xs) zero d h p = h.0
  at_or (x ∷ xs) (suc k) d h p = at_or xs k d h.1 p

  pub all_set : (xs : List A) (k : ℕ) (a : A) → AllByRecursion P xs → P a
      → AllByRecursion P (slice_set xs k a)
  all_set [] k a h p = tt
  all_set (x ∷ xs) zero a h p = (p, h.1)
  all_set (x ∷ xs) (suc k) a h p = (h.0, all_set xs k a h.1 p)

  pub all_append : (xs ys : List A) → AllByRecursion P xs → AllByRecursion P ys
      → AllByRecursion P (xs ++ ys)
  all_append [] ys h g = g
  all_append (x ∷ xs) ys h g = (h.0, all_append xs ys h.1 g)

  pub all_replicate : (n : ℕ) (a : A) → P a → AllByRecursion P (replicate n a)
  all_replicate zero a p = tt
  all_replicate (suc n) a p = (p, all_replicate n a p)

  pub all_map : {B : Type 0} (f : B → A) (bs : List B) → ((b : B) → P (f b))
      → AllByRecursion P (map f bs)
  all_map f [] h = tt
  all_map f (b ∷ bs) h = (h b, all_map f bs h)

  pub all_put : (places : List ℕ) (new xs : List A) → AllByRecursion P new → AllByRecursion P xs
      → AllByRecursion P (put_items places new xs)
  all_put [] new xs h g = g
  all_put (k ∷ ks) [] xs h g = g
  all_put (k ∷ ks) (a ∷ new) xs h g = all_put ks new (slice_set xs k a) h.1 (all_set xs k a g h.0)

-- of each item of some lists
pub all_joined : {A B : Type 0} (P : A → Type 0) (f : B → List A) (bs : List B)
    → AllByRecursion (λ b. AllByRecursion P (f b)) bs → AllByRecursion P (flat_map f bs)
all_joined P f [] h = tt
all_joined P f (b ∷ bs) h = all_append P (f b) (flat_map f bs) h.0 (all_joined P f bs h.1)
