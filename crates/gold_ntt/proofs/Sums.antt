-- Finite sums, and sums modulo q.
use Rattle.std.proofs.Common.{◌≡◌, ◌≢◌, ℕ, zero, suc, ◌+◌, ◌-◌, ◌*◌, ◌%◌, ◌<◌, ◌≤◌, inl, inr, refl}
use Rattle.std.proofs.Common.{sym, ◌∙◌, ap, arith}
use Rattle.std.proofs.Math.Nat.{mul-add, mod-mod, zero-mod}
use Rattle.std.proofs.lemmas.Bool.{cases_lt}
use Rattle.gold_field.proofs.FieldLaws.{sum_of_rests}
use Rattle.gold_field.proofs.Euclid.{plus_zero}
use Rattle.gold_ntt.specs.Polynomial.{sum_to}

pub sum_to-zero : (f : ℕ → ℕ) → sum_to 0 f ≡ 0
unfolding sum_to
sum_to-zero f = refl

pub sum_to-suc : (n : ℕ) (f : ℕ → ℕ) → sum_to (suc n) f ≡ sum_to n f + f n
unfolding sum_to
sum_to-suc n f = refl

pub sum_same : (n : ℕ) (f g : ℕ → ℕ) → ((i : ℕ) → i < n → f i ≡ g i) → sum_to n f ≡ sum_to n g
unfolding sum_to
sum_same zero f g h = refl
sum_same (suc n) f g h = omega (arith, sum_same n f g (λ i l. h i (omega arith)), h n (omega arith))

pub sum_mod : (q n : ℕ) (f g : ℕ → ℕ) → ((i : ℕ) → i < n → f i % q ≡ g i % q)
    → sum_to n f % q ≡ sum_to n g % q
unfolding sum_to
sum_mod q zero f g h = refl
sum_mod q (suc n) f g h =
    sym (sum_of_rests q (sum_to n f) (f n))
    ∙ ap (λ (y : ℕ). (y + f n % q) % q) (sum_mod q n f g (λ i l. h i (omega arith)))
    ∙ ap (λ (y : ℕ). (sum_to n g % q + y) % q) (h n (omega arith))
    ∙ sum_of_rests q (sum_to n g) (g n)

-- a sum of remainders
pub sum_rests : (q n : ℕ) (f : ℕ → ℕ) → sum_to n (λ i. f i % q) % q ≡ sum_to n f % q
sum_rests q n f = sum_mod q n (λ i. f i % q) f (λ i l. mod-mod (f i) q)

pub sum-scale : (n c : ℕ) (f : ℕ → ℕ) → sum_to n (λ i. c * f i) ≡ c * sum_to n f
unfolding sum_to
sum-scale zero c f = omega arith
sum-scale (suc n) c f =
    ap (λ (y : ℕ). y + c * f n) (sum-scale n c f) ∙ sym (mul-add c (sum_to n f) (f n))

pub sum-zero : (n : ℕ) → sum_to n (λ i. 0) ≡ 0
unfolding sum_to
sum-zero zero = refl
sum-zero (suc n) = omega (arith, sum-zero n)

pub sum-add : (n : ℕ) (f g : ℕ → ℕ) → sum_to n (λ i. f i + g i) ≡ sum_to n f + sum_to n g
unfolding sum_to
sum-add zero f g = refl
sum-add (suc n) f g = omega (arith, sum-add n f g)

pub sum-swap : (n m : ℕ) (f : ℕ → ℕ → ℕ) → sum_to n (λ j. sum_to m (λ i. f i j))
    ≡ sum_to m (λ i. sum_to n (λ j. f i j))
unfolding sum_to
sum-swap zero m f = sym (sum-zero m)
sum-swap (suc n) m f =
    ap (λ (y : ℕ). y + sum_to m (λ i. f i n)) (sum-swap n m f)
    ∙ sym (sum-add m (λ i. sum_to n (λ j. f i j)) (λ i. f i n))

-- only one term counts
pub sum_one : (n q : ℕ) (f : ℕ → ℕ) (k : ℕ) → k < n → ((i : ℕ) → i < n → i ≢ k → f i % q ≡ 0)
    → sum_to n f % q ≡ f k % q
unfolding sum_to
sum_one zero q f k l h = absurd (omega arith)
sum_one (suc n) q f k l h =
    elim (cases_lt k n) [
      | inl low ↦
          let here : sum_to n f % q ≡ f k % q = sum_one n q f k low (λ i m. h i (omega arith)) in
          let ne : n ≢ k = omega arith in
          let none : f n % q ≡ 0 = h n (omega arith) ne in
          let turned : sum_to n f + f n ≡ f n + sum_to n f = omega arith in
          ap (λ (y : ℕ). y % q) turned ∙ plus_zero (f n) (sum_to n f) q none ∙ here
      | inr high ↦
          let is : k ≡ n = omega arith in
          let none : sum_to n f % q ≡ 0 =
          sum_mod q n f (λ i. 0) (λ i m. let ne : i ≢ k = omega arith in h i (omega arith) ne
          ∙ sym (zero-mod q))
          ∙ ap (λ (y : ℕ). y % q) (sum-zero n) ∙ zero-mod q in
          plus_zero (sum_to n f) (f n) q none ∙ ap (λ (y : ℕ). f y % q) (sym is)
    ]

-- the even terms and the odd ones
pub sum_pairs : (m : ℕ) (f : ℕ → ℕ)
    → sum_to (m + m) f ≡ sum_to m (λ i. f (i + i)) + sum_to m (λ i. f (suc (i + i)))
unfolding sum_to
sum_pairs zero f = refl
sum_pairs (suc m) f =
    let twice : suc m + suc m ≡ suc (suc (m + m)) = omega arith in
    ap (λ (y : ℕ). sum_to y f) twice ∙ omega (arith, sum_pairs m f)

-- the first term and the others
pub sum_first : (n : ℕ) (f : ℕ → ℕ) → sum_to (suc n) f ≡ f 0 + sum_to n (λ i. f (suc i))
unfolding sum_to
sum_first zero f = omega arith
sum_first (suc n) f = omega (arith, sum_first n f)

-- terms that are 0 may be added
pub sum_more : (n k : ℕ) (f : ℕ → ℕ) → ((i : ℕ) → n ≤ i → f i ≡ 0) → sum_to (n + k) f ≡ sum_to n f
unfolding sum_to
sum_more n zero f h = let same : n + 0 ≡ n = omega arith in ap (λ (y : ℕ). sum_to y f) same
sum_more n (suc k) f h =
    let next : n + suc k ≡ suc (n + k) = omega arith in
    ap (λ (y : ℕ). sum_to y f) next ∙ omega (arith, sum_more n k f h, h (n + k) (omega arith))

pub sum_past : (n m : ℕ) (f : ℕ → ℕ) → n ≤ m → ((i : ℕ) → n ≤ i → f i ≡ 0) → sum_to m f ≡ sum_to n f
sum_past n m f l h =
    let parts : m ≡ n + (m - n) =
    omega arith in ap (λ (y : ℕ). sum_to y f) parts ∙ sum_more n (m - n) f h

-- a sum over i + j < n, by diagonals and by rows
pub sum_triangle : (n : ℕ) (h : ℕ → ℕ → ℕ) → sum_to n (λ k. sum_to (k + 1) (λ i. h i (k - i)))
    ≡ sum_to n (λ i. sum_to (n - i) (λ j. h i j))
unfolding sum_to
sum_triangle zero h = refl
sum_triangle (suc n) h =
    let one_more : n + 1 ≡ suc n = omega arith in
    let rows : sum_to (suc n) (λ i. sum_to (suc n - i) (λ j. h i j))
    ≡ sum_to (suc n) (λ i. sum_to (n - i) (λ j. h i j) + h i (n - i)) =
    sum_same (suc n) (λ i. sum_to (suc n - i) (λ j. h i j))
    (λ i. sum_to (n - i) (λ j. h i j) + h i (n - i))
    (λ i l. let next : suc n - i ≡ suc (n - i) = omega arith
    in ap (λ (y : ℕ). sum_to y (λ j. h i j)) next) in
    let none : sum_to (n - n) (λ j. h n j) ≡ 0 =
    let is : n - n ≡ 0 = omega arith in ap (λ (y : ℕ). sum_to y (λ j. h n j)) is in
    let split : sum_to (suc n) (λ i. sum_to (n - i) (λ j. h i j) + h i (n - i))
    ≡ sum_to (suc n) (λ i. sum_to (n - i) (λ j. h i j)) + sum_to (suc n) (λ i. h i (n - i)) =
    sum-add (suc n) (λ i. sum_to (n - i) (λ j. h i j)) (λ i. h i (n - i)) in
    let last : sum_to (n + 1) (λ i. h i (n - i)) ≡ sum_to (suc n) (λ i. h i (n - i)) =
    ap (λ (y : ℕ). sum_to y (λ i. h i (n - i))) one_more in
    omega (arith, sum_triangle n h, rows, none, split, last)
