-- The public transforms: roots of the right order, inverses and cosets.
use Rattle.std.proofs.Common.{◌≡◌, ◌≢◌, ℕ, zero, suc, ◌+◌, ◌-◌, ◌*◌, ◌%◌, ◌^◌, ◌<◌, ◌≤◌, inl, inr}
use Rattle.std.proofs.Common.{refl, sym, ◌∙◌, ap, arith, lit<, mod-eq_of_lt, List, length, get_or}
use Rattle.std.proofs.Common.{mul_assoc}
use Rattle.std.proofs.Math.Nat.{mod-mod, pow-succ', two-pow-succ}
use Rattle.std.proofs.lemmas.Nat.{mul-mod_first, mul-mod_second, mul-pow, pow_below, pow_pos}
use Rattle.std.proofs.lemmas.Bool.{cases_lt}
use Rattle.gold_field.specs.declared.gold.TheConstants.{P}
use Rattle.gold_field.proofs.FieldLaws.{product_cancel}
use Rattle.gold_ntt.specs.Polynomial.{poly, eval_at}
use Rattle.gold_ntt.specs.Transform.{root_of, HasValues, IsTransform, HalvesAt}
use Rattle.gold_ntt.proofs.Inverse.{IsRoot, both, undone, recovered}
use Rattle.gold_ntt.proofs.RootLaws.{root_one, root_half, root_order}
use Rattle.gold_ntt.proofs.Sums.{sum_same}
use Rattle.gold_ntt.proofs.Values.{poly_point, poly_coefs, same_times}

-- the exponent of a power of two
pub log_is : (n r e : ℕ) → 2 ^ r ≤ n → n < 2 * 2 ^ r → n ≡ 2 ^ e → r ≡ e
log_is n r e low high is =
    let next : 2 ^ suc r ≡ 2 ^ r + 2 ^ r = two-pow-succ r in
    elim (cases_lt r e) [
      | inl below ↦
          elim (cases_lt (suc r) e) [
            | inl more ↦ let grows : 2 ^ suc r < 2 ^ e =
                pow_below (suc r) e more in absurd (omega arith)
            | inr here ↦
                let same : 2 ^ e ≡ 2 ^ suc r =
                let at : e ≡ suc r = omega arith in ap (λ (y : ℕ). 2 ^ y) at in
                absurd (omega arith)
          ]
      | inr above ↦
          elim (cases_lt e r) [
            | inl more ↦ let grows : 2 ^ e < 2 ^ r = pow_below e r more in absurd (omega arith)
            | inr here ↦ omega arith
          ]
    ]

pub same_log : (r e : ℕ) → 2 ^ r ≡ 2 ^ e → r ≡ e
same_log r e is =
    let pos : 0 < 2 ^ r = pow_pos r in log_is (2 ^ e) r e (omega arith) (omega arith) refl

pub root_halves : (log : ℕ) → log ≤ 32 → HalvesAt (root_of log) log
root_halves zero l pos = absurd (omega arith)
root_halves (suc e) l pos =
    let down : suc e - 1 ≡ e = omega arith in
    ap (λ (y : ℕ). (root_of (suc e) ^ (2 ^ y)) % P) down ∙ root_half e (omega arith)

-- the last power of a root is its inverse
pub last_inverse : (q w v n : ℕ) → 0 < n → (w ^ n) % q ≡ 1 → v ≡ w ^ (n - 1) % q → (w * v) % q ≡ 1
last_inverse q w v n pos one is =
    let up : suc (n - 1) ≡ n = omega arith in
    ap (λ (y : ℕ). (w * y) % q) is ∙ mul-mod_second w (w ^ (n - 1)) q
    ∙ ap (λ (y : ℕ). y % q) (sym (pow-succ' w (n - 1)) ∙ ap (λ (y : ℕ). w ^ y) up) ∙ one

minus_one_inverse : (y : ℕ) → ((P - 1) * y) % P ≡ 1 → y % P ≡ P - 1
minus_one_inverse y e = product_cancel (P - 1) y (P - 1) not_zero e
  where
    not_zero : (P - 1) % P ≢ 0
    not_zero h = absurd (omega (arith, h))

pub inverse_halves : (w v log : ℕ) → (w * v) % P ≡ 1 → HalvesAt w log → HalvesAt v log
inverse_halves w v log unit halves pos =
    let m : ℕ = 2 ^ (log - 1) in
    minus_one_inverse (v ^ m)
    (ap (λ (y : ℕ). (y * v ^ m) % P) (sym (halves pos)) ∙ mul-mod_first (w ^ m) (v ^ m) P
    ∙ both P w v m (lit< tt) unit)

pub is_root : (e v : ℕ) → e ≤ 32 → (root_of e * v) % P ≡ 1 → IsRoot (2 ^ e) (root_of e) v
is_root e v l unit = record {
  inverse = unit;
  one = root_one e l;
  order = root_order e l;
}

-- 1 / 2 to a power, times 2 to that power
pub halves_cancel : (s k : ℕ) → s ≡ 9223372034707292161 ^ k % P → (s * 2 ^ k) % P ≡ 1
halves_cancel s k is =
    ap (λ (y : ℕ). (y * 2 ^ k) % P) is ∙ mul-mod_first (9223372034707292161 ^ k) (2 ^ k) P
    ∙ both P 9223372034707292161 2 k (lit< tt) refl

-- what the inverse transform computes, at place k
scaled_value : (old mid new : List ℕ) (n v s k : ℕ) → n ≡ length old → k < length old
    → HasValues v old mid
    → get_or new k 0 ≡ get_or mid k 0 * s % P
    → get_or new k 0 ≡ (poly n (λ i. get_or old i 0) (v ^ k) * s) % P
scaled_value old mid new n v s k size low values is =
    let point : v ^ k % P % P ≡ v ^ k % P = mod-mod (v ^ k) P in
    is ∙ ap (λ (y : ℕ). (y * s) % P) (values.value k low)
    ∙ mul-mod_first (poly (length old) (λ i. get_or old i 0) (v ^ k % P)) s P
    ∙ same_times P s (poly (length old) (λ i. get_or old i 0) (v ^ k % P))
    (poly (length old) (λ i. get_or old i 0) (v ^ k))
    (poly_point P (length old) (λ i. get_or old i 0) (v ^ k % P) (v ^ k) point)
    ∙ ap (λ (y : ℕ). (poly y (λ i. get_or old i 0) (v ^ k) * s) % P) (sym size)

pub inverse_undone : (old mid new : List ℕ) (e v s : ℕ) → e ≤ 32 → length old ≡ 2 ^ e
    → length new ≡ length old
    → (root_of e * v) % P ≡ 1 → (s * 2 ^ e) % P ≡ 1 → HasValues v old mid
    → ((k : ℕ) → k < length old → get_or old k 0 < P)
    → ((k : ℕ) → k < length old → get_or new k 0 ≡ get_or mid k 0 * s % P)
    → IsTransform e new old
inverse_undone old mid new e v s l size same unit scale values below is =
    let n : ℕ = 2 ^ e in
    let a : ℕ → ℕ = λ i. get_or old i 0 in
    let b : ℕ → ℕ = λ i. get_or new i 0 in
    let coefs : (k : ℕ) → k < n → b k % P ≡ (poly n a (v ^ k) * s) % P =
    λ k h.
    ap (λ (y : ℕ). y % P)
    (scaled_value old mid new n v s k (sym size) (omega arith) values (is k (omega arith)))
    ∙ mod-mod (poly n a (v ^ k) * s) P in
    record {
      same_length = sym same;
      value = λ j h.
          let low : get_or old j 0 < P = below j (omega arith) in
          let self : get_or old j 0 % P ≡ get_or old j 0 =
          mod-eq_of_lt {n = get_or old j 0} {m = P} low in
          let w : ℕ = root_of e in
          let point : w ^ j % P ≡ w ^ j % P % P = sym (mod-mod (w ^ j) P) in
          let whole : n ≡ length new = sym size ∙ sym same in
          sym self ∙ undone n w v s (is_root e v l unit) scale a b coefs j (omega arith)
          ∙ ap (λ (y : ℕ). poly y b (w ^ j) % P) whole
          ∙ poly_point P (length new) b (w ^ j) (w ^ j % P) point;
    }

pub inverse_undoes : (old mid new : List ℕ) (e v s : ℕ) → e ≤ 32 → length old ≡ 2 ^ e
    → (root_of e * v) % P ≡ 1
    → (s * 2 ^ e) % P ≡ 1 → HasValues v old mid
    → ((k : ℕ) → k < length old → get_or new k 0 ≡ get_or mid k 0 * s % P)
    → (d : List ℕ) → IsTransform e d old → (k : ℕ) → k < length d
    → get_or new k 0 ≡ get_or d k 0 % P
inverse_undoes old mid new e v s l size unit scale values is d transform k low =
    let n : ℕ = 2 ^ e in
    let w : ℕ = root_of e in
    let a : ℕ → ℕ = λ i. get_or old i 0 in
    let c : ℕ → ℕ = λ i. get_or d i 0 in
    let same : length old ≡ length d = transform.same_length in
    let whole : length d ≡ n = sym same ∙ size in
    let values_of : (j : ℕ) → j < n → a j % P ≡ poly n c (w ^ j) % P =
    λ j h.
    let point : w ^ j % P % P ≡ w ^ j % P = mod-mod (w ^ j) P in
    ap (λ (y : ℕ). y % P) (transform.value j (omega arith))
    ∙ mod-mod (poly (length d) c (w ^ j % P)) P
    ∙ poly_point P (length d) c (w ^ j % P) (w ^ j) point
    ∙ ap (λ (y : ℕ). poly y c (w ^ j) % P) whole in
    scaled_value old mid new n v s k (sym size) (omega arith) values (is k (omega arith))
    ∙ recovered n w v s (is_root e v l unit) scale a c values_of k (omega arith)

-- the coefficients times powers of g have at x the values at g * x
pub coset_values : (old scaled new : List ℕ) (e g : ℕ) → length scaled ≡ length old
    → ((k : ℕ) → k < length old → get_or scaled k 0 ≡ get_or old k 0 * g ^ k % P)
    → IsTransform e scaled new → (j : ℕ) → j < length old
    → get_or new j 0 ≡ eval_at old (g * root_of e ^ j % P)
coset_values old scaled new e g same is transform j low =
    let w : ℕ = root_of e in
    let n : ℕ = length old in
    let x : ℕ = w ^ j in
    let a : ℕ → ℕ = λ i. get_or old i 0 in
    let b : ℕ → ℕ = λ i. get_or scaled i 0 in
    transform.value j (omega arith) ∙ ap (λ (y : ℕ). poly y b (x % P) % P) same
    ∙ poly_point P n b (x % P) x (mod-mod x P)
    ∙ poly_coefs P n b (λ i. a i * g ^ i) x (λ i h. ap (λ (y : ℕ). y % P) (is i h)
    ∙ mod-mod (a i * g ^ i) P)
    ∙ ap (λ (y : ℕ). y % P)
    (sum_same n (λ i. a i * g ^ i * x ^ i) (λ i. a i * (g * x) ^ i) (λ i h. term (a i) g x i))
    ∙ poly_point P n a (g * x) (g * x % P) (sym (mod-mod (g * x) P))
  where
    term : (b g x i : ℕ) → b * g ^ i * x ^ i ≡ b * (g * x) ^ i
    term b g x i = mul_assoc b (g ^ i) (x ^ i) ∙ ap (λ (y : ℕ). b * y) (sym (mul-pow g x i))

-- the facts of the inverse transform, as its code has them
pub unit_of : (n log r v : ℕ) → n ≡ 2 ^ log → log ≤ 32 → r ≡ root_of log → v ≡ r ^ (n - 1) % P
    → (root_of log * v) % P ≡ 1
unit_of n log r v size l root power =
    let pos : 0 < 2 ^ log = pow_pos log in
    last_inverse P (root_of log) v n (omega arith)
    (ap (λ (y : ℕ). (root_of log ^ y) % P) size ∙ root_one log l)
    (power ∙ ap (λ (y : ℕ). y ^ (n - 1) % P) root)

pub scale_of : (h s log : ℕ) → h ≡ 9223372034707292161 → s ≡ h ^ log % P → (s * 2 ^ log) % P ≡ 1
scale_of h s log half power = halves_cancel s log (power ∙ ap (λ (y : ℕ). y ^ log % P) half)

-- the last power of a root of order 2 ^ e is its inverse
pub root_unit : (e : ℕ) → e ≤ 32 → (root_of e * (root_of e ^ (2 ^ e - 1) % P)) % P ≡ 1
root_unit e l =
    last_inverse P (root_of e) (root_of e ^ (2 ^ e - 1) % P) (2 ^ e) (pow_pos e) (root_one e l) refl
