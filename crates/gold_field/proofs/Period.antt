-- A number with a power 2 ^ t that is -1 has no small period, and so a number with such a witness
-- is prime.
use Rattle.std.proofs.Common.{◌≡◌, ◌≢◌, ℕ, zero, suc, ◌+◌, ◌-◌, ◌*◌, ◌/◌, ◌%◌, ◌^◌, ◌<◌, ◌≤◌, ◌⊎◌}
use Rattle.std.proofs.Common.{inl, inr, refl, sym, ◌∙◌, ap, arith, pow-suc, mod-eq_of_lt}
use Rattle.std.proofs.Common.{div-add-mod'}
use Rattle.std.proofs.Math.Nat.{two-pow-succ, mod-mod_of_dvd, mul-add-mod_self_right, mul-mod_right}
use Rattle.std.proofs.Math.Nat.{pow-zero}
use Rattle.std.proofs.lemmas.Nat.{pow-mod, mul-pow, mul-mod, mul-mod_second, pow-add, pow_pos}
use Rattle.std.proofs.lemmas.Nat.{mul-le}
use Rattle.std.proofs.lemmas.Nat.Gcd.{dvd_of_mod-eq-zero}
use Rattle.std.proofs.lemmas.Bool.{cases_eq, cases_lt}
use Rattle.gold_field.specs.Powers.{squared}
use Rattle.gold_field.specs.Prime.{IsPrime}
use Rattle.gold_field.proofs.Euclid.{times_zero}
use Rattle.gold_field.proofs.Binomial.{fermat}

pub pow_one : (x : ℕ) → x ^ 1 ≡ x
pow_one x = pow-suc x 0 ∙ ap (λ (y : ℕ). y * x) (pow-zero x) ∙ omega arith

pub one_pow : (n : ℕ) → 1 ^ n ≡ 1
one_pow zero = refl
one_pow (suc n) = pow-suc 1 n ∙ ap (λ (y : ℕ). y * 1) (one_pow n)

pub pow_square : (x n : ℕ) → (x * x) ^ n ≡ x ^ (n + n)
pow_square x n = mul-pow x x n ∙ sym (pow-add x n n)

pub squared-power : (q n x : ℕ) → squared q n x % q ≡ (x ^ (2 ^ n)) % q
squared-power q zero x = ap (λ (y : ℕ). y % q) (sym (pow_one x))
squared-power q (suc n) x =
    squared-power q n ((x * x) % q) ∙ pow-mod (x * x) (2 ^ n) q
    ∙ ap (λ (y : ℕ). y % q) (pow_square x (2 ^ n) ∙ ap (λ (y : ℕ). x ^ y) (sym (two-pow-succ n)))

pub pow_swap : (x k n : ℕ) → (x ^ k) ^ n ≡ (x ^ n) ^ k
pow_swap x zero n = ap (λ (y : ℕ). y ^ n) (pow-zero x) ∙ one_pow n ∙ sym (pow-zero (x ^ n))
pow_swap x (suc k) n =
    ap (λ (y : ℕ). y ^ n) (pow-suc x k) ∙ mul-pow (x ^ k) x n
    ∙ ap (λ (y : ℕ). y * x ^ n) (pow_swap x k n)
    ∙ sym (pow-suc (x ^ n) k)

square_lem : (q m : ℕ) → q ≡ m + 2 → (q - 1) * (q - 1) ≡ m * q + 1
square_lem q m e = let less : q - 1 ≡ m + 1 = omega arith in rw (less, e) (omega arith)

minus_one_square : (q x : ℕ) → 2 < q → x % q ≡ q - 1 → (x * x) % q ≡ 1
minus_one_square q x l e =
    mul-mod x x q ∙ ap (λ (y : ℕ). (y * y) % q) e
    ∙ ap (λ (y : ℕ). y % q) (square_lem q (q - 2) (omega arith))
    ∙ mul-add-mod_self_right (q - 2) q 1 ∙ mod-eq_of_lt {n = 1} {m = q} (omega arith)

-- an odd power of -1 is -1
odd_power : (q x m : ℕ) → 2 < q → x % q ≡ q - 1 → (x ^ suc (m + m)) % q ≡ q - 1
odd_power q x zero l e = ap (λ (y : ℕ). y % q) (pow_one x) ∙ e
odd_power q x (suc m) l e =
    let more : suc (suc m + suc m) ≡ suc (m + m) + 2 = omega arith in
    let two : x ^ 2 ≡ x * x = pow-suc x 1 ∙ ap (λ (y : ℕ). y * x) (pow_one x) in
    let parts : x ^ suc (suc m + suc m) ≡ x ^ suc (m + m) * (x * x) =
    ap (λ (y : ℕ). x ^ y) more ∙ pow-add x (suc (m + m)) 2
    ∙ ap (λ (y : ℕ). x ^ suc (m + m) * y) two in
    let same : x ^ suc (m + m) * 1 ≡ x ^ suc (m + m) = omega arith in
    ap (λ (y : ℕ). y % q) parts ∙ sym (mul-mod_second (x ^ suc (m + m)) (x * x) q)
    ∙ ap (λ (y : ℕ). (x ^ suc (m + m) * y) % q) (minus_one_square q x l e)
    ∙ ap (λ (y : ℕ). y % q) same
    ∙ odd_power q x m l e

half : (k : ℕ) → ((m : ℕ) × (k ≡ m + m)) ⊎ ((m : ℕ) × (k ≡ suc (m + m)))
half zero = inl (0, refl)
half (suc k) = elim (half k) [ inl h ↦ inr (h.0, omega arith) | inr h ↦ inl (suc h.0, omega arith) ]

odd_case : (t q h m : ℕ) → 2 < q → (h ^ (2 ^ t)) % q ≡ q - 1 → (h ^ suc (m + m)) % q ≢ 1
odd_case t q h m l e one =
    let k : ℕ = suc (m + m) in
    let n : ℕ = 2 ^ t in
    let left : ((h ^ k) ^ n) % q ≡ 1 =
    sym (pow-mod (h ^ k) n q) ∙ ap (λ (y : ℕ). (y ^ n) % q) one ∙ ap (λ (y : ℕ). y % q) (one_pow n)
    ∙ mod-eq_of_lt {n = 1} {m = q} (omega arith) in
    let right : ((h ^ k) ^ n) % q ≡ q - 1 =
    ap (λ (y : ℕ). y % q) (pow_swap h k n) ∙ odd_power q (h ^ n) m l e in
    omega arith

-- where the power 2 ^ t is -1, no power below 2 ^ (t + 1) is 1
pub no_period : (t q h : ℕ) → 2 < q → (h ^ (2 ^ t)) % q ≡ q - 1 → (k : ℕ) → 0 < k → k < 2 ^ suc t
    → (h ^ k) % q ≢ 1
no_period zero q h l e k pos low one =
    let is : k ≡ 1 = omega arith in
    let first : h ^ k ≡ h ^ (2 ^ 0) = ap (λ (y : ℕ). h ^ y) is in
    let same : (h ^ k) % q ≡ q - 1 = ap (λ (y : ℕ). y % q) first ∙ e in
    omega arith
no_period (suc t) q h l e k pos low one =
    elim (half k) [
      | inl p ↦
          let square : ((h * h) ^ (2 ^ t)) % q ≡ q - 1 =
          ap (λ (y : ℕ). y % q) (pow_square h (2 ^ t)
          ∙ ap (λ (y : ℕ). h ^ y) (sym (two-pow-succ t))) ∙ e in
          let here : ((h * h) ^ p.0) % q ≡ 1 =
          ap (λ (y : ℕ). y % q) (pow_square h p.0 ∙ ap (λ (y : ℕ). h ^ y) (sym p.1)) ∙ one in
          let double : 2 ^ suc (suc t) ≡ 2 ^ suc t + 2 ^ suc t = two-pow-succ (suc t) in
          no_period t q (h * h) l square p.0 (omega arith) (omega arith) here
      | inr p ↦ odd_case (suc t) q h p.0 l e (ap (λ (y : ℕ). (h ^ y) % q) (sym p.1) ∙ one)
    ]

abbrev NoneBelow : ℕ → ℕ → Type 0
NoneBelow n k = (d : ℕ) → 2 ≤ d → d < k → n % d ≢ 0

-- the least divisor of n from 2 up, below k
record Least (n k : ℕ) : Type 0 where
  d : ℕ
  large : 2 ≤ d
  below : d < k
  divides : n % d ≡ 0
  none : NoneBelow n d

none_more : (n k : ℕ) → NoneBelow n k → n % k ≢ 0 → NoneBelow n (suc k)
none_more n k none is_not d l h e =
    elim (cases_lt d k) [
      | inl low ↦ none d l low e
      | inr high ↦ let is : d ≡ k = omega arith in is_not (ap (λ (y : ℕ). n % y) (sym is) ∙ e)
    ]

least : (n k : ℕ) → NoneBelow n k ⊎ Least n k
least n zero = inl (λ d l h. absurd (omega arith))
least n (suc k) =
    elim (least n k) [
      | inr found ↦
          inr (record {
            d = found.d;
            large = found.large;
            below = omega arith;
            divides = found.divides;
            none = found.none;
          })
      | inl none ↦ elim (cases_lt k 2) [
        | inl small ↦ inl (λ d l h. absurd (omega arith))
        | inr two ↦ elim (cases_eq (n % k) 0) [
          | inl is ↦
              inr (record { d = k; large = two; below = omega arith; divides = is; none = none })
          | inr is_not ↦ inl (none_more n k none is_not)
        ]
      ]
    ]

divides_through : (n q d : ℕ) → n % q ≡ 0 → q % d ≡ 0 → n % d ≡ 0
divides_through n q d e h =
    let parts : n / q * q + n % q ≡ n = div-add-mod' n q in
    let whole : n ≡ n / q * q = omega arith in
    ap (λ (y : ℕ). y % d) whole ∙ times_zero (n / q) q d h

prime_least : (n q : ℕ) → 2 ≤ q → n % q ≡ 0 → NoneBelow n q → IsPrime q
prime_least n q l e none =
    record { large = l; whole = λ d two low h. none d two low (divides_through n q d e h) }

cofactor_two : (p q e : ℕ) → p ≡ e * q → q < p → 2 ≤ e
cofactor_two p q zero whole below = absurd (omega arith)
cofactor_two p q (suc zero) whole below = absurd (omega arith)
cofactor_two p q (suc (suc e)) whole below = omega arith

cofactor_large : (p q e : ℕ) → p ≡ e * q → 2 ≤ e → NoneBelow p q → q ≤ e
cofactor_large p q e whole two none =
    elim (cases_lt e q) [
      | inl low ↦
          let divides : p % e ≡ 0 =
          ap (λ (y : ℕ). y % e) whole ∙ mul-mod_right e q in
          absurd (none e two low divides)
      | inr high ↦ high
    ]

too_large : (p q e b : ℕ) → p ≡ e * q → q ≤ e → p < b * b → q < b
too_large p q e b whole high low =
    elim (cases_lt q b) [
      | inl is ↦ is
      | inr above ↦
          let large : b * b ≤ e * q = mul-le b b e q (omega arith) above in
          absurd (omega arith)
    ]

minus_one_mod : (p e q : ℕ) → p ≡ e * q → 2 < q → 0 < e → (p - 1) % q ≡ q - 1
minus_one_mod p zero q whole l pos = absurd (omega arith)
minus_one_mod p (suc e) q whole l pos =
    let parts : p - 1 ≡ e * q + (q - 1) = omega arith in
    ap (λ (y : ℕ). y % q) parts ∙ mul-add-mod_self_right e q (q - 1)
    ∙ mod-eq_of_lt {n = q - 1} {m = q} (omega arith)

zero_power : (q x n : ℕ) → x % q ≡ 0 → 0 < n → (x ^ n) % q ≡ 0
zero_power q x zero e pos = absurd (omega arith)
zero_power q x (suc n) e pos = ap (λ (y : ℕ). y % q) (pow-suc x n) ∙ times_zero (x ^ n) x q e

-- a least divisor q of p would be prime and below 2 ^ (t + 1), against Fermat
refuted : (p t h : ℕ) → p < 2 ^ suc t * 2 ^ suc t → p % 2 ≡ 1 → squared p t h ≡ p - 1 → (q : ℕ)
    → 2 ≤ q → q < p → p % q ≡ 0 → NoneBelow p q → ⊥
refuted p t h low odd power q large below divides none =
    let parts : p / q * q + p % q ≡ p = div-add-mod' p q in
    let e : ℕ = p / q in
    let whole : p ≡ e * q = omega arith in
    let not_two : q ≢ 2 =
    λ (is : q ≡ 2). let zero_two : p % 2 ≡ 0 =
    ap (λ (y : ℕ). p % y) (sym is) ∙ divides in omega arith in
    let two : 2 < q = omega arith in
    let many : 2 ≤ e = cofactor_two p q e whole below in
    let high : q ≤ e = cofactor_large p q e whole many none in
    let small : q < 2 ^ suc t = too_large p q e (2 ^ suc t) whole high low in
    let one_less : p - 1 < p = omega arith in
    let at_p : (h ^ (2 ^ t)) % p ≡ p - 1 =
    sym (squared-power p t h) ∙ ap (λ (y : ℕ). y % p) power
    ∙ mod-eq_of_lt {n = p - 1} {m = p} one_less in
    let at_q : (h ^ (2 ^ t)) % q ≡ q - 1 =
    sym (mod-mod_of_dvd q (h ^ (2 ^ t)) (dvd_of_mod-eq-zero q divides)) ∙ ap (λ (y : ℕ). y % q) at_p
    ∙ minus_one_mod p e q whole two (omega arith) in
    let unit : h % q ≢ 0 =
    λ (none_left : h % q ≡ 0). let gone : (h ^ (2 ^ t)) % q ≡ 0 =
    zero_power q h (2 ^ t) none_left (pow_pos t) in omega arith in
    no_period t q h two at_q (q - 1) (omega arith) (omega arith)
    (fermat q (prime_least p q large divides none) h unit)

-- p is prime where it is odd, below 2 ^ (2t + 2), and h ^ (2 ^ t) is -1
pub prime_by : (p t h : ℕ) → 2 ≤ p → p < 2 ^ suc t * 2 ^ suc t → p % 2 ≡ 1 → squared p t h ≡ p - 1
    → IsPrime p
prime_by p t h large low odd power =
    record {
      large = large;
      whole = λ d two below divides.
          elim (least p p) [
            | inl none ↦ none d two below divides
            | inr found ↦
                refuted p t h low odd power found.d found.large found.below found.divides found.none
          ];
    }
