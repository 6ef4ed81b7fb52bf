-- Polynomials with equal values at all roots are equal, and so the product that the transforms
-- compute.
use Rattle.std.proofs.Common.{◌≡◌, ℕ, ◌+◌, ◌-◌, ◌*◌, ◌%◌, ◌^◌, ◌<◌, ◌≤◌, refl, sym, ◌∙◌, ap, arith}
use Rattle.std.proofs.Common.{List, length, get_or, take}
use Rattle.std.proofs.Math.Nat.{mod-mod}
use Rattle.std.proofs.lemmas.List.{get_or-take, length-take-le}
use Rattle.gold_field.specs.declared.gold.TheConstants.{P}
use Rattle.gold_field.proofs.FieldLaws.{product_of_rests}
use Rattle.gold_ntt.specs.Polynomial.{poly, eval_at, product_at, IsPadded, IsProduct}
use Rattle.gold_ntt.specs.Transform.{root_of, IsTransform}
use Rattle.gold_ntt.proofs.Inverse.{IsRoot, recovered}
use Rattle.gold_ntt.proofs.Products.{product, product_value, poly_past}
use Rattle.gold_ntt.proofs.Sums.{sum_same}
use Rattle.gold_ntt.proofs.Transforms.{is_root, halves_cancel, root_unit}
use Rattle.gold_ntt.proofs.Values.{poly_point}

-- equal values at the powers of the root of order 2 ^ e give equal coefficients
pub equal_values : (e : ℕ) → e ≤ 32 → (c d : ℕ → ℕ)
    → ((j : ℕ) → j < 2 ^ e → poly (2 ^ e) c (root_of e ^ j) % P
    ≡ poly (2 ^ e) d (root_of e ^ j) % P)
    → (k : ℕ) → k < 2 ^ e → c k % P ≡ d k % P
equal_values e l c d same k low =
    let n : ℕ = 2 ^ e in
    let w : ℕ = root_of e in
    let v : ℕ = w ^ (n - 1) % P in
    let s : ℕ = 9223372034707292161 ^ e % P in
    let a : ℕ → ℕ = λ j. poly n c (w ^ j) in
    let root : IsRoot n w v = is_root e v l (root_unit e l) in
    let scale : (s * n) % P ≡ 1 = halves_cancel s e refl in
    sym (recovered n w v s root scale a c (λ j h. refl) k low)
    ∙ recovered n w v s root scale a d same k low

-- a place of a transform, with the coefficients named elsewhere
pub value_at_root : (e : ℕ) (coefs values : List ℕ) (j : ℕ) → length coefs ≡ 2 ^ e
    → IsTransform e coefs values → j < 2 ^ e
    → get_or values j 0 ≡ poly (2 ^ e) (λ i. get_or coefs i 0) (root_of e ^ j) % P
value_at_root e coefs values j size transform low =
    let w : ℕ = root_of e in
    transform.value j (omega arith)
    ∙ poly_point P (length coefs) (λ i. get_or coefs i 0) (w ^ j % P) (w ^ j) (mod-mod (w ^ j) P)
    ∙ ap (λ (y : ℕ). poly y (λ i. get_or coefs i 0) (w ^ j) % P) size

padded_value : (c a : List ℕ) (n x : ℕ) → IsPadded c a → length a ≡ n
    → poly n (λ i. get_or a i 0) x ≡ poly (length c) (λ i. get_or c i 0) x
padded_value c a n x pad size =
    let fits : length c ≤ length a = pad.fits in
    sum_same n (λ i. get_or a i 0 * x ^ i) (λ i. get_or c i 0 * x ^ i)
    (λ i l. ap (λ (y : ℕ). y * x ^ i) (pad.coefficient i))
    ∙ poly_past c n x (omega arith)

pub value_of_padded : (a c : List ℕ) (x : ℕ) → IsPadded a c → eval_at c x ≡ eval_at a x
value_of_padded a c x pad = ap (λ (y : ℕ). y % P) (padded_value a c (length c) x pad refl)

pub convolved : (e : ℕ) → e ≤ 32 → (a b at_a at_b product_values new c d : List ℕ)
    → length a ≡ 2 ^ e → length b ≡ 2 ^ e
    → IsTransform e a at_a → IsTransform e b at_b
    → ((k : ℕ) → k < 2 ^ e → get_or product_values k 0 ≡ get_or at_a k 0 * get_or at_b k 0 % P)
    → length new ≡ 2 ^ e → IsTransform e new product_values
    → ((k : ℕ) → k < 2 ^ e → get_or new k 0 ≡ get_or new k 0 % P)
    → IsPadded c a → IsPadded d b → 0 < length c → 0 < length d → length c + length d ≤ length a + 1
    → (k : ℕ) → k < 2 ^ e → get_or new k 0 ≡ product_at c d k
convolved e l a b at_a at_b product_values new c d size_a size_b transform_a transform_b times size
    transform below pad_a pad_b some_c some_d fits k low =
    below k low ∙ equal_values e l (λ i. get_or new i 0) (product c d) values k low
  where
    values : (j : ℕ) → j < 2 ^ e → poly (2 ^ e) (λ i. get_or new i 0) (root_of e ^ j) % P
        ≡ poly (2 ^ e) (product c d) (root_of e ^ j) % P
    values j h =
        let n : ℕ = 2 ^ e in
        let x : ℕ = root_of e ^ j in
        let f : ℕ = poly (length c) (λ i. get_or c i 0) x in
        let g : ℕ = poly (length d) (λ i. get_or d i 0) x in
        let is_f : get_or at_a j 0 ≡ f % P =
        value_at_root e a at_a j size_a transform_a h
        ∙ ap (λ (y : ℕ). y % P) (padded_value c a n x pad_a size_a) in
        let is_g : get_or at_b j 0 ≡ g % P =
        value_at_root e b at_b j size_b transform_b h
        ∙ ap (λ (y : ℕ). y % P) (padded_value d b n x pad_b size_b) in
        sym (value_at_root e new product_values j size transform h) ∙ times j h
        ∙ ap (λ (y : ℕ). (y * get_or at_b j 0) % P) is_f ∙ ap (λ (y : ℕ). (f % P * y) % P) is_g
        ∙ product_of_rests P f g
        ∙ ap (λ (y : ℕ). y % P) (sym (product_value c d n x (omega arith) (omega arith)))

-- the first places of the product
pub is_product : (c d new all : List ℕ) (places : ℕ) → places + 1 ≡ length c + length d
    → places ≤ length all → new ≡ take places all
    → ((k : ℕ) → k < length all → get_or all k 0 ≡ product_at c d k) → IsProduct c d new
is_product c d new all places count fits cut is =
    let long : length new ≡ places = ap length cut ∙ length-take-le places all fits in
    record {
      fits = λ p q. omega arith;
      coefficient = λ k h.
          ap (λ (y : List ℕ). get_or y k 0) cut ∙ get_or-take places all k 0 (omega arith)
          ∙ is k (omega arith);
    }

-- one list of values has one list of coefficients
pub same_coefficients : (e : ℕ) (a b values : List ℕ) → e ≤ 32 → length values ≡ 2 ^ e
    → IsTransform e a values → IsTransform e b values
    → (k : ℕ) → k < 2 ^ e → get_or a k 0 % P ≡ get_or b k 0 % P
same_coefficients e a b values l size first second =
    let long_a : length a ≡ 2 ^ e = sym first.same_length ∙ size in
    let long_b : length b ≡ 2 ^ e = sym second.same_length ∙ size in
    equal_values e l (λ i. get_or a i 0) (λ i. get_or b i 0)
    (λ j h. sym (value_at_root e a values j long_a first h)
    ∙ value_at_root e b values j long_b second h)
