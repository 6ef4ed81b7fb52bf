-- Rows of a frame, and what stays in it where other slots get numbers.
use Rattle.std.proofs.Common.{◌≡◌, ℕ, zero, suc, ◌+◌, ◌<◌, ◌≤◌, List, [], ◌∷◌, length, refl, ap}
use Rattle.std.proofs.Common.{ap₂, ◌∙◌, arith, length-set, get_or-set_same, get_or-set_other, inl}
use Rattle.std.proofs.Common.{inr, ◌⊎◌}
use Rattle.std.specs.Prelude.{slice_index, slice_set, map}
use Rattle.cir_meaning.specs.Places.{numbers_from}
use Rattle.cir_meaning.specs.Arrays.{put_items}
use Rattle.wit_lower.specs.Homes.{row}

pub set_same : (f : List ℕ) (i v : ℕ) → i < length f → slice_index (slice_set f i v) i ≡ v
set_same f i v h = get_or-set_same f i v 0 h

pub set_other : (f : List ℕ) (i j v : ℕ) → (j ≡ i → ⊥)
    → slice_index (slice_set f i v) j ≡ slice_index f j
set_other f i j v h = get_or-set_other f i j v 0 h

-- the slots under `top` are as they were
pub record Below (top : ℕ) (f g : List ℕ) : Type 0 where
  pub size : length g ≡ length f
  pub under : (k : ℕ) → k < top → slice_index g k ≡ slice_index f k

pub below_itself : (top : ℕ) (f : List ℕ) → Below top f f
below_itself top f = record { size = refl; under = λ k h. refl }

pub below_then : (a b : ℕ) (f g h : List ℕ) → a ≤ b → Below a f g → Below b g h → Below a f h
below_then a b f g h le x y = record {
  size = y.size ∙ x.size;
  under = λ k l. y.under k (omega (arith, l, le)) ∙ x.under k l;
}

pub below_set : (top d v : ℕ) (f : List ℕ) → top ≤ d → Below top f (slice_set f d v)
below_set top d v f le = record {
  size = length-set f d v;
  under = λ k l. set_other f d k v (λ e. absurd (omega (arith, l, le, e)));
}

-- numbers in a row came to other slots, and nothing else changed
pub record Copied (f g : List ℕ) (to from n : ℕ) : Type 0 where
  pub size : length g ≡ length f
  pub got : (k : ℕ) → k < n → slice_index g (to + k) ≡ slice_index f (from + k)
  pub under : (k : ℕ) → k < to → slice_index g k ≡ slice_index f k
  pub over : (k : ℕ) → to + n ≤ k → slice_index g k ≡ slice_index f k

pub copied_none : (f : List ℕ) (to from : ℕ) → Copied f f to from 0
copied_none f to from = record {
  size = refl;
  got = λ k h. absurd (omega (arith, h));
  under = λ k h. refl;
  over = λ k h. refl;
}

pub copied_below : (f g : List ℕ) (to from n : ℕ) → Copied f g to from n → Below to f g
copied_below f g to from n c = record { size = c.size; under = c.under }

-- rows
pub row_length : (f : List ℕ) (a n : ℕ) → length (row f a n) ≡ n
row_length f a zero = refl
row_length f a (suc n) = ap (λ m. suc m) (row_length f (a + 1) n)

pub row_index : (f : List ℕ) (a n k : ℕ) → k < n → slice_index (row f a n) k ≡ slice_index f (a + k)
row_index f a zero k h = absurd (omega (arith, h))
row_index f a (suc n) zero h = let e : a ≡ a + 0 = omega arith in ap (slice_index f) e
row_index f a (suc n) (suc k) h =
    let e : a + 1 + k ≡ a + suc k = omega arith in
    row_index f (a + 1) n k (omega (arith, h)) ∙ ap (slice_index f) e

pub row_from : (f g : List ℕ) (a b n : ℕ)
    → ((k : ℕ) → k < n → slice_index g (a + k) ≡ slice_index f (b + k)) → row g a n ≡ row f b n
row_from f g a b zero h = refl
row_from f g a b (suc n) h =
    let ea : a ≡ a + 0 = omega arith in
    let eb : b + 0 ≡ b = omega arith in
    ap₂ (λ x xs. x ∷ xs)
    (ap (slice_index g) ea ∙ h 0 (omega arith) ∙ ap (slice_index f) eb)
    (row_from f g (a + 1) (b + 1) n (λ k l.
    let ca : a + 1 + k ≡ a + suc k = omega arith in
    let cb : b + suc k ≡ b + 1 + k = omega arith in
    ap (slice_index g) ca ∙ h (suc k) (omega (arith, l)) ∙ ap (slice_index f) cb))

-- a row that nothing touches
pub row_below : (top : ℕ) (f g : List ℕ) (a n : ℕ) → Below top f g → a + n ≤ top
    → row g a n ≡ row f a n
row_below top f g a n b le =
    row_from f g a a n (λ k l. b.under (a + k) (omega (arith, l, le)))

pub row_got : (f g : List ℕ) (to from n : ℕ) → Copied f g to from n → row g to n ≡ row f from n
row_got f g to from n c = row_from f g to from n c.got

-- elements of a row
pub row_part : (f : List ℕ) (a n o m : ℕ) → o + m ≤ n
    → map (slice_index (row f a n)) (numbers_from o m) ≡ row f (a + o) m
row_part f a n o zero le = refl
row_part f a n o (suc m) le =
    let e : a + (o + 1) ≡ a + o + 1 = omega arith in
    ap₂ (λ x xs. x ∷ xs) (row_index f a n o (omega (arith, le)))
    (row_part f a n (o + 1) m (omega (arith, le)) ∙ ap (λ b. row f b m) e)

-- new items in a row of places
pub put_length : (o m : ℕ) (vs items : List ℕ)
    → length (put_items (numbers_from o m) vs items) ≡ length items
put_length o zero vs items = refl
put_length o (suc m) [] items = refl
put_length o (suc m) (v ∷ vs) items =
    put_length (o + 1) m vs (slice_set items o v) ∙ length-set items o v

pub put_other : (o m : ℕ) (vs items : List ℕ) (k : ℕ) → (k < o) ⊎ (o + m ≤ k)
    → slice_index (put_items (numbers_from o m) vs items) k ≡ slice_index items k
put_other o zero vs items k h = refl
put_other o (suc m) [] items k h = refl
put_other o (suc m) (v ∷ vs) items k (inl l) =
    put_other (o + 1) m vs (slice_set items o v) k (inl (omega (arith, l))) ∙
    set_other items o k v (λ e. absurd (omega (arith, l, e)))
put_other o (suc m) (v ∷ vs) items k (inr l) =
    put_other (o + 1) m vs (slice_set items o v) k (inr (omega (arith, l))) ∙
    set_other items o k v (λ e. absurd (omega (arith, l, e)))

pub put_there : (o m : ℕ) (vs items : List ℕ) (k : ℕ) → k < m → k < length vs
    → o + m ≤ length items
    → slice_index (put_items (numbers_from o m) vs items) (o + k) ≡ slice_index vs k
put_there o zero vs items k h l r = absurd (omega (arith, h))
put_there o (suc m) [] items k h l r = absurd (omega (arith, l))
put_there o (suc m) (v ∷ vs) items zero h l r =
    let e : o + 0 ≡ o = omega arith in
    ap (slice_index (put_items (numbers_from (o + 1) m) vs (slice_set items o v))) e ∙
    put_other (o + 1) m vs (slice_set items o v) o (inl (omega arith)) ∙
    set_same items o v (omega (arith, r))
put_there o (suc m) (v ∷ vs) items (suc k) h l r =
    let e : o + suc k ≡ o + 1 + k = omega arith in
    ap (slice_index (put_items (numbers_from (o + 1) m) vs (slice_set items o v))) e ∙
    put_there (o + 1) m vs (slice_set items o v) k (omega (arith, h)) (omega (arith, l))
    (omega (arith, r, length-set items o v))
