-- Values of sums, multiples and products of polynomials.
use Rattle.std.proofs.Common.{◌≡◌, ℕ, ◌+◌, ◌-◌, ◌*◌, ◌%◌, ◌^◌, ◌≤◌, ◌⊎◌, inl, inr, sym, ◌∙◌, ap}
use Rattle.std.proofs.Common.{arith, List, length, get_or, mul_comm}
use Rattle.std.proofs.Math.Nat.{mod-mod}
use Rattle.std.proofs.lemmas.Nat.{mul-mod_second, pow-add}
use Rattle.std.proofs.lemmas.List.{get_or_past}
use Rattle.std.proofs.lemmas.Bool.{cases_lt}
use Rattle.gold_field.specs.declared.gold.TheConstants.{P}
use Rattle.gold_field.proofs.FieldLaws.{sum_of_rests, product_of_rests}
use Rattle.gold_ntt.specs.Polynomial.{sum_to, poly, eval_at, IsSum, IsMultiple, IsProduct}
use Rattle.gold_ntt.proofs.Sums.{sum_to-zero, sum_same, sum_past, sum-add, sum-scale, sum_triangle}
use Rattle.gold_ntt.proofs.Values.{poly_coefs, poly-scale}

-- further coefficients are 0
pub poly_past : (a : List ℕ) (n x : ℕ) → length a ≤ n
    → poly n (λ i. get_or a i 0) x ≡ poly (length a) (λ i. get_or a i 0) x
poly_past a n x l =
    sum_past (length a) n (λ i. get_or a i 0 * x ^ i) l
    (λ i h. ap (λ (y : ℕ). y * x ^ i) (get_or_past a i 0 h) ∙ omega arith)

pub poly-add : (n : ℕ) (c d : ℕ → ℕ) (x : ℕ) → poly n (λ i. c i + d i) x ≡ poly n c x + poly n d x
poly-add n c d x =
    sum_same n (λ i. (c i + d i) * x ^ i) (λ i. c i * x ^ i + d i * x ^ i) (λ i l. omega arith)
    ∙ sum-add n (λ i. c i * x ^ i) (λ i. d i * x ^ i)

pub value_of_sum : (a b c : List ℕ) (x : ℕ) → IsSum a b c
    → eval_at c x ≡ (eval_at a x + eval_at b x) % P
value_of_sum a b c x is =
    let n : ℕ = length c in
    let f : ℕ → ℕ = λ i. get_or a i 0 in
    let g : ℕ → ℕ = λ i. get_or b i 0 in
    poly_coefs P n (λ i. get_or c i 0) (λ i. f i + g i) x
    (λ i l. ap (λ (y : ℕ). y % P) (is.coefficient i l) ∙ mod-mod (f i + g i) P)
    ∙ ap (λ (y : ℕ). y % P) (poly-add n f g x)
    ∙ ap (λ (y : ℕ). (y + poly n g x) % P) (poly_past a n x is.first_fits)
    ∙ ap (λ (y : ℕ). (poly (length a) f x + y) % P) (poly_past b n x is.second_fits)
    ∙ sym (sum_of_rests P (poly (length a) f x) (poly (length b) g x))

pub value_of_multiple : (s : ℕ) (a c : List ℕ) (x : ℕ) → IsMultiple s a c
    → eval_at c x ≡ s * eval_at a x % P
value_of_multiple s a c x is =
    let n : ℕ = length c in
    let f : ℕ → ℕ = λ i. get_or a i 0 in
    poly_coefs P n (λ i. get_or c i 0) (λ i. s * f i) x
    (λ i l. ap (λ (y : ℕ). y % P) (is.coefficient i l) ∙ mod-mod (s * f i) P)
    ∙ ap (λ (y : ℕ). y % P) (poly-scale n s f x)
    ∙ ap (λ (y : ℕ). (s * poly y f x) % P) is.same_length
    ∙ sym (mul-mod_second s (poly (length a) f x) P)

-- the coefficients of a product, as sums that aren't reduced
abbrev pub product : List ℕ → List ℕ → ℕ → ℕ
product a b k = sum_to (k + 1) (λ i. get_or a i 0 * get_or b (k - i) 0)

product_term : (a b : List ℕ) (x k : ℕ)
    → product a b k * x ^ k
    ≡ sum_to (k + 1) (λ i. get_or a i 0 * x ^ i * (get_or b (k - i) 0 * x ^ (k - i)))
product_term a b x k =
    mul_comm (product a b k) (x ^ k)
    ∙ sym (sum-scale (k + 1) (x ^ k) (λ i. get_or a i 0 * get_or b (k - i) 0))
    ∙ sum_same (k + 1) (λ i. x ^ k * (get_or a i 0 * get_or b (k - i) 0))
    (λ i. get_or a i 0 * x ^ i * (get_or b (k - i) 0 * x ^ (k - i)))
    (λ i l. term (get_or a i 0) (get_or b (k - i) 0) x i k (omega arith))
  where
    term : (c d x i k : ℕ) → i ≤ k → x ^ k * (c * d) ≡ c * x ^ i * (d * x ^ (k - i))
    term c d x i k l =
        let parts : k ≡ i + (k - i) = omega arith in
        let y : ℕ = x ^ i in
        let z : ℕ = x ^ (k - i) in
        let order : y * z * (c * d) ≡ c * y * (d * z) = omega arith in
        ap (λ (w : ℕ). w * (c * d)) (ap (λ (w : ℕ). x ^ w) parts ∙ pow-add x i (k - i)) ∙ order

-- Cauchy's product: the value of the product is the product of the values
pub product_value : (a b : List ℕ) (n x : ℕ) → length a ≤ n → length a + length b ≤ n + 1
    → poly n (product a b) x
    ≡ poly (length a) (λ i. get_or a i 0) x * poly (length b) (λ i. get_or b i 0) x
product_value a b n x short fits =
    let f : ℕ → ℕ = λ i. get_or a i 0 * x ^ i in
    let g : ℕ → ℕ = λ j. get_or b j 0 * x ^ j in
    let v : ℕ = poly (length b) (λ i. get_or b i 0) x in
    sum_same n (λ k. product a b k * x ^ k) (λ k. sum_to (k + 1) (λ i. f i * g (k - i)))
    (λ k l. product_term a b x k)
    ∙ sum_triangle n (λ i j. f i * g j)
    ∙ sum_same n (λ i. sum_to (n - i) (λ j. f i * g j)) (λ i. v * f i) (λ i l. row i)
    ∙ sum_past (length a) n (λ i. v * f i) short (λ i h. gone i h)
    ∙ sum-scale (length a) v f ∙ mul_comm v (sum_to (length a) f)
  where
    gone : (i : ℕ) → length a ≤ i → poly (length b) (λ i. get_or b i 0) x * (get_or a i 0 * x ^ i)
        ≡ 0
    gone i h =
        let v : ℕ = poly (length b) (λ i. get_or b i 0) x in
        let none : 0 * x ^ i ≡ 0 = omega arith in
        let still : v * 0 ≡ 0 = omega arith in
        ap (λ (y : ℕ). v * (y * x ^ i)) (get_or_past a i 0 h) ∙ ap (λ (y : ℕ). v * y) none ∙ still

    row : (i : ℕ) → sum_to (n - i) (λ j. get_or a i 0 * x ^ i * (get_or b j 0 * x ^ j))
        ≡ poly (length b) (λ i. get_or b i 0) x * (get_or a i 0 * x ^ i)
    row i =
        let c : ℕ = get_or a i 0 * x ^ i in
        sum-scale (n - i) c (λ j. get_or b j 0 * x ^ j)
        ∙ elim (cases_lt i (length a)) [
          | inl low ↦
              ap (λ (y : ℕ). c * y) (poly_past b (n - i) x (omega arith))
              ∙ mul_comm c (poly (length b) (λ i. get_or b i 0) x)
          | inr high ↦
              let none : c ≡ 0 = ap (λ (y : ℕ). y * x ^ i) (get_or_past a i 0 high) ∙ omega arith in
              let still : 0 * sum_to (n - i) (λ j. get_or b j 0 * x ^ j) ≡ 0 = omega arith in
              ap (λ (y : ℕ). y * sum_to (n - i) (λ j. get_or b j 0 * x ^ j)) none ∙ still
              ∙ sym (gone i high)
        ]

empty_value : (a : List ℕ) (x : ℕ) → length a ≤ 0 → eval_at a x ≡ 0
empty_value a x none =
    let empty : length a ≡ 0 = omega arith in
    ap (λ (y : ℕ). poly y (λ i. get_or a i 0) x % P) empty
    ∙ ap (λ (y : ℕ). y % P) (sum_to-zero (λ i. get_or a i 0 * x ^ i))

zero_coefficient : (a b : List ℕ) (k : ℕ) → (length a ≤ 0) ⊎ (length b ≤ 0) → product a b k ≡ 0
zero_coefficient a b k none =
    sum_past 0 (k + 1) (λ i. get_or a i 0 * get_or b (k - i) 0) (omega arith) (λ i h. elim none [
      | inl empty ↦ ap (λ (y : ℕ). y * get_or b (k - i) 0) (get_or_past a i 0 (omega arith))
          ∙ omega arith
      | inr empty ↦ ap (λ (y : ℕ). get_or a i 0 * y) (get_or_past b (k - i) 0 (omega arith))
          ∙ omega arith
    ])
    ∙ sum_to-zero (λ i. get_or a i 0 * get_or b (k - i) 0)

reduced : (a b c : List ℕ) (x : ℕ) → IsProduct a b c
    → eval_at c x ≡ poly (length c) (product a b) x % P
reduced a b c x is =
    poly_coefs P (length c) (λ i. get_or c i 0) (product a b) x
    (λ i l. ap (λ (y : ℕ). y % P) (is.coefficient i l) ∙ mod-mod (product a b i) P)

zero_value : (a b c : List ℕ) (x : ℕ) → (length a ≤ 0) ⊎ (length b ≤ 0) → IsProduct a b c
    → eval_at c x ≡ 0
zero_value a b c x none is =
    reduced a b c x is
    ∙ ap (λ (y : ℕ). y % P)
    (sum_past 0 (length c) (λ k. product a b k * x ^ k) (omega arith)
    (λ k h. ap (λ (y : ℕ). y * x ^ k) (zero_coefficient a b k none) ∙ omega arith)
    ∙ sum_to-zero (λ k. product a b k * x ^ k))

pub value_of_product : (a b c : List ℕ) (x : ℕ) → IsProduct a b c
    → eval_at c x ≡ eval_at a x * eval_at b x % P
value_of_product a b c x is =
    elim (cases_lt 0 (length a)) [
      | inr none ↦
          let gone : 0 * eval_at b x ≡ 0 = omega arith in
          zero_value a b c x (inl none) is
          ∙ sym (ap (λ (y : ℕ). (y * eval_at b x) % P) (empty_value a x none)
          ∙ ap (λ (y : ℕ). y % P) gone)
      | inl some_a ↦ elim (cases_lt 0 (length b)) [
        | inr none ↦
            let gone : eval_at a x * 0 ≡ 0 = omega arith in
            zero_value a b c x (inr none) is
            ∙ sym (ap (λ (y : ℕ). (eval_at a x * y) % P) (empty_value b x none)
            ∙ ap (λ (y : ℕ). y % P) gone)
        | inl some_b ↦
            let fits : length a + length b ≤ length c + 1 = is.fits some_a some_b in
            reduced a b c x is
            ∙ ap (λ (y : ℕ). y % P) (product_value a b (length c) x (omega arith) fits)
            ∙ sym (product_of_rests P (poly (length a) (λ i. get_or a i 0) x)
            (poly (length b) (λ i. get_or b i 0) x))
      ]
    ]
