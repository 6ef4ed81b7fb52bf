-- What holds of each element of a list, and the places that indices mean.
use Rattle.std.proofs.Common.{◌≡◌, ℕ, zero, suc, ◌+◌, ◌*◌, ◌<◌, true, List, [], ◌∷◌, ◌++◌, map}
use Rattle.std.proofs.Common.{flat_map, length, Option, Some, None, Result, Ok, Err, refl, sym, ap}
use Rattle.std.proofs.Common.{ap₂, subst, ◌∙◌, arith}
use Rattle.std.specs.Prelude.{slice_get, nat_lt}
use Rattle.std.specs.List.{AllByRecursion}
use Rattle.std.proofs.lemmas.Bool.{and_parts, and_from, ltb-true}
use Rattle.cir_meaning.specs.Tried.{next}
use Rattle.cir_meaning.specs.Places.{elements, is_inside, places_of, numbers_from}
use Rattle.wit_lower.proofs.Exprs.{Agree}

module _ {A : Type 0} (P : A → Type 0) where
  pub all_front : (xs ys : List A) → AllByRecursion P (xs ++ ys) → AllByRecursion P xs
  all_front [] ys h = tt
  all_front (x ∷ xs) ys h = (h.0, all_front xs ys h.1)

  pub all_back : (xs ys : List A) → AllByRecursion P (xs ++ ys) → AllByRecursion P ys
  all_back [] ys h = h
  all_back (x ∷ xs) ys h = all_back xs ys h.1

  pub all_mapped : {B : Type 0} (f : B → A) (bs : List B) → AllByRecursion P (map f bs)
      → AllByRecursion (λ b. P (f b)) bs
  all_mapped f [] h = tt
  all_mapped f (b ∷ bs) h = (h.0, all_mapped f bs h.1)

  pub all_through : {B : Type 0} (f : B → A) (bs : List B) → AllByRecursion (λ b. P (f b)) bs
      → AllByRecursion P (map f bs)
  all_through f [] h = tt
  all_through f (b ∷ bs) h = (h.0, all_through f bs h.1)

  pub all_flat : {B : Type 0} (f : B → List A) (bs : List B) → AllByRecursion P (flat_map f bs)
      → AllByRecursion (λ b. AllByRecursion P (f b)) bs
  all_flat f [] h = tt
  all_flat f (b ∷ bs) h =
      (all_front (f b) (flat_map f bs) h, all_flat f bs (all_back (f b) (flat_map f bs) h))

  pub all_of : (xs : List A) → ((x : A) → P x) → AllByRecursion P xs
  all_of [] h = tt
  all_of (x ∷ xs) h = (h x, all_of xs h)

pub all_weaker : {A : Type 0} (P Q : A → Type 0) (xs : List A) → ((x : A) → P x → Q x)
    → AllByRecursion P xs → AllByRecursion Q xs
all_weaker P Q [] f h = tt
all_weaker P Q (x ∷ xs) f h = (f x h.0, all_weaker P Q xs f h.1)

pub map_same : {A B : Type 0} (f g : A → B) (xs : List A) → AllByRecursion (λ x. f x ≡ g x) xs
    → map f xs ≡ map g xs
map_same f g [] h = refl
map_same f g (x ∷ xs) h = ap₂ (λ y ys. y ∷ ys) h.0 (map_same f g xs h.1)

pub all_number : (P : ℕ → Type 0) (o m j : ℕ) → j < m → AllByRecursion P (numbers_from o m)
    → P (o + j)
all_number P o zero j l h = absurd (omega (arith, l))
all_number P o (suc m) zero l h = let e : o ≡ o + 0 = omega arith in subst P e h.0
all_number P o (suc m) (suc j) l h =
    let e : o + 1 + j ≡ o + suc j = omega arith in
    subst P e (all_number P (o + 1) m j (omega (arith, l)) h.1)

-- the first that stops ends both alike
pub next_same : {E A B : Type 0} (m n : Result A E) (f g : A → Result B E) → m ≡ n
    → ((a : A) → m ≡ Ok a → f a ≡ g a) → next m f ≡ next n g
next_same (Ok a) n f g e h = h a refl ∙ ap (λ x. next x g) e
next_same (Err x) n f g e h = ap (λ y. next y g) e

-- a result of two steps is one of each
pub record Both {E A B : Type 0} (m : Result A E) (go : A → Result B E) (x : B) : Type 0 where
  pub first : A
  pub is : m ≡ Ok first
  pub rest : go first ≡ Ok x

pub both : {E A B : Type 0} (m : Result A E) (go : A → Result B E) (x : B) → next m go ≡ Ok x
    → Both m go x
both (Ok a) go x e = record { first = a; is = refl; rest = e }
both (Err s) go x e = cc

pub from_long : (o m : ℕ) → length (numbers_from o m) ≡ m
from_long o zero = refl
from_long o (suc m) = ap (λ i. suc i) (from_long (o + 1) m)

-- indices that agree with those that are known mean some of their places
pub places_within : (P : ℕ → Type 0) (dims : List ℕ) (os : List (Option ℕ)) (is : List ℕ)
    → Agree os is → is_inside dims (map Some is) ≡ true → AllByRecursion P (places_of dims os)
    → AllByRecursion P (places_of dims (map Some is))
places_within P dims [] [] a i h = h
places_within P dims [] (j ∷ is) a i h = absurd a
places_within P dims (o ∷ os) [] a i h = absurd a
places_within P [] (o ∷ os) (j ∷ is) a i h = tt
places_within P (d ∷ ds) (Some n ∷ os) (j ∷ is) a i h =
    let m : ℕ = elements ds in
    let parts : (nat_lt j d ≡ true) × (is_inside ds (map Some is) ≡ true) =
    and_parts (nat_lt j d) (is_inside ds (map Some is)) i in
    subst (λ x. AllByRecursion P (map (λ k. x * m + k) (places_of ds (map Some is))))
    (sym (a.0 n refl))
    (all_through P (λ k. n * m + k) (places_of ds (map Some is))
    (places_within (λ k. P (n * m + k)) ds os is a.1 parts.1
    (all_mapped P (λ k. n * m + k) (places_of ds os) h)))
places_within P (d ∷ ds) (None ∷ os) (j ∷ is) a i h =
    let m : ℕ = elements ds in
    let parts : (nat_lt j d ≡ true) × (is_inside ds (map Some is) ≡ true) =
    and_parts (nat_lt j d) (is_inside ds (map Some is)) i in
    let row : (ℕ → List ℕ) = λ i. map (λ k. i * m + k) (places_of ds os) in
    let z : 0 + j ≡ j = omega arith in
    let here : AllByRecursion P (row j) =
    subst (λ x. AllByRecursion P (row x)) z
    (all_number (λ i. AllByRecursion P (row i)) 0 d j (ltb-true j d parts.0)
    (all_flat P row (numbers_from 0 d) h)) in
    all_through P (λ k. j * m + k) (places_of ds (map Some is))
    (places_within (λ k. P (j * m + k)) ds os is a.1 parts.1
    (all_mapped P (λ k. j * m + k) (places_of ds os) here))

pub inside_known : (dims : List ℕ) (os : List (Option ℕ)) (is : List ℕ) → Agree os is
    → is_inside dims (map Some is) ≡ true → is_inside dims os ≡ true
inside_known dims [] is a i = refl
inside_known dims (o ∷ os) [] a i = absurd a
inside_known [] (o ∷ os) (j ∷ is) a i = refl
inside_known (d ∷ ds) (Some n ∷ os) (j ∷ is) a i =
    let parts : (nat_lt j d ≡ true) × (is_inside ds (map Some is) ≡ true) =
    and_parts (nat_lt j d) (is_inside ds (map Some is)) i in
    and_from (nat_lt n d) (is_inside ds os)
    (subst (λ x. nat_lt x d ≡ true) (a.0 n refl) parts.0) (inside_known ds os is a.1 parts.1)
inside_known (d ∷ ds) (None ∷ os) (j ∷ is) a i =
    let parts : (nat_lt j d ≡ true) × (is_inside ds (map Some is) ≡ true) =
    and_parts (nat_lt j d) (is_inside ds (map Some is)) i in
    inside_known ds os is a.1 parts.1

-- elements of a list that is mapped
pub record Mapped {A B : Type 0} (f : A → B) (xs : List A) (k : ℕ) (y : B) : Type 0 where
  pub item : A
  pub there : slice_get xs k ≡ Some item
  pub is : f item ≡ y

pub get_mapped : {A B : Type 0} (f : A → B) (xs : List A) (k : ℕ) (y : B)
    → slice_get (map f xs) k ≡ Some y → Mapped f xs k y
get_mapped f [] k y e = cc
get_mapped f (x ∷ xs) zero y e = record { item = x; there = refl; is = cc }
get_mapped f (x ∷ xs) (suc k) y e =
    let r : Mapped f xs k y = get_mapped f xs k y e in
    record { item = r.item; there = r.there; is = r.is }

pub map_get : {A B : Type 0} (f : A → B) (xs : List A) (k : ℕ) (x : A) → slice_get xs k ≡ Some x
    → slice_get (map f xs) k ≡ Some (f x)
map_get f [] k x e = cc
map_get f (y ∷ ys) zero x e = let same : y ≡ x = cc in ap (λ z. Some (f z)) same
map_get f (y ∷ ys) (suc k) x e = map_get f ys k x e

pub map_long : {A B : Type 0} (f : A → B) (xs : List A) → length (map f xs) ≡ length xs
map_long f [] = refl
map_long f (x ∷ xs) = ap (λ n. suc n) (map_long f xs)
