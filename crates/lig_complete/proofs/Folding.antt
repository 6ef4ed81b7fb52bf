-- Sums of values at the message points.
use Rattle.std.proofs.Common.{◌≡◌, ◌≢◌, ℕ, zero, suc, ◌+◌, ◌*◌, ◌%◌, ◌^◌, ◌<◌, ◌≤◌, ◌==◌, List}
use Rattle.std.proofs.Common.{length, get_or, cond, refl, sym, ap, ◌∙◌, arith}
use Rattle.std.proofs.Math.Nat.{mod-eq_of_lt, mul-add-mod_self_right}
use Rattle.std.proofs.lemmas.Bool.{eq-eqb, ne_eqb}
use Rattle.std.proofs.lemmas.Nat.{mul-mod_second}
use Rattle.gold_field.specs.declared.gold.TheConstants.{P}
use Rattle.gold_ntt.specs.Polynomial.{sum_to, eval_at}
use Rattle.gold_ntt.specs.Transform.{root_of}
use Rattle.gold_ntt.proofs.Division.{value_sum}
use Rattle.gold_ntt.proofs.Sums.{sum_one, sum-swap}
use Rattle.gold_ntt.proofs.Values.{plus_same}

-- a sum in two parts
pub sum_parts : (a b : ℕ) (f : ℕ → ℕ) → sum_to (a + b) f ≡ sum_to a f + sum_to b (λ i. f (a + i))
unfolding sum_to
sum_parts a zero f = let e : a + 0 ≡ a = omega arith in ap (λ (n : ℕ). sum_to n f) e ∙ omega arith
sum_parts a (suc b) f = let e : a + suc b ≡ suc (a + b) = omega arith
    in ap (λ (n : ℕ). sum_to n f) e ∙ omega (arith, sum_parts a b f)

-- a sum over rows
pub sum_rows : (m l : ℕ) (f : ℕ → ℕ) → sum_to m (λ k. sum_to l (λ j. f (k * l + j)))
    ≡ sum_to (m * l) f
unfolding sum_to
sum_rows zero l f = let e : 0 * l ≡ 0 = omega arith in sym (ap (λ (n : ℕ). sum_to n f) e)
sum_rows (suc m) l f =
    let e : suc m * l ≡ m * l + l = omega arith in
    ap (λ (y : ℕ). y + sum_to l (λ j. f (m * l + j))) (sum_rows m l f)
    ∙ sym (ap (λ (n : ℕ). sum_to n f) e ∙ sum_parts (m * l) l f)

pub sum_grid : (m l : ℕ) (f : ℕ → ℕ) → sum_to l (λ j. sum_to m (λ k. f (k * l + j)))
    ≡ sum_to (m * l) f
sum_grid m l f = sum-swap l m (λ k j. f (k * l + j)) ∙ sum_rows m l f

-- the terms whose index is a multiple of n
abbrev at_multiples : ℕ → (ℕ → ℕ) → ℕ → ℕ
at_multiples n f k = cond (k % n == 0) (f k) 0

block : (n c start : ℕ) (f place : ℕ → ℕ) → 0 < n → start ≡ c * n → ((i : ℕ) → place i ≡ c * n + i)
    → sum_to n (λ i. at_multiples n f (place i)) % P ≡ f start % P
block n c start f place pos from at =
    let rest : (i : ℕ) → i < n → place i % n ≡ i = λ i l. ap (λ (k : ℕ). k % n) (at i)
    ∙ mul-add-mod_self_right c n i ∙ mod-eq_of_lt {n = i} {m = n} l in
    let here : place 0 ≡ start = at 0 ∙ omega arith in
    sum_one n P (λ i. at_multiples n f (place i)) 0 pos
    (λ i l ne. let other : place i % n ≢ 0 = λ e. ne (sym (rest i l) ∙ e) in
    ap (λ b. cond b (f (place i)) 0 % P) (ne_eqb (place i % n) 0 other))
    ∙ ap (λ b. cond b (f (place 0)) 0 % P) (eq-eqb (place 0 % n) 0 (rest 0 pos))
    ∙ ap (λ (k : ℕ). f k % P) here

three_terms : (n : ℕ) (f : ℕ → ℕ) → 0 < n → sum_to (3 * n) (at_multiples n f) % P
    ≡ (f 0 + (f n + f (2 * n))) % P
three_terms n f pos =
    let g = at_multiples n f in
    let whole : 3 * n ≡ n + (n + n) = omega arith in
    let first : sum_to n g % P ≡ f 0 % P =
    block n 0 0 f (λ i. i) pos (omega arith) (λ i. omega arith) in
    let second : sum_to n (λ i. g (n + i)) % P ≡ f n % P =
    block n 1 n f (λ i. n + i) pos (omega arith) (λ i. omega arith) in
    let third : sum_to n (λ i. g (n + (n + i))) % P ≡ f (2 * n) % P =
    block n 2 (2 * n) f (λ i. n + (n + i)) pos refl (λ i. omega arith) in
    ap (λ (k : ℕ). sum_to k g % P) whole ∙ ap (λ (y : ℕ). y % P) (sum_parts n (n + n) g)
    ∙ ap (λ (y : ℕ). (sum_to n g + y) % P) (sum_parts n n (λ i. g (n + i)))
    ∙ plus_same P (sum_to n g) (f 0) (sum_to n (λ i. g (n + i)) + sum_to n (λ i. g (n + (n + i))))
    (f n + f (2 * n)) first
    (plus_same P (sum_to n (λ i. g (n + i))) (f n) (sum_to n (λ i. g (n + (n + i))))
    (f (2 * n)) second third)

-- 3 * 2 ^ e coefficients of which the first, the 2 ^ e-th and the 2 * 2 ^ e-th sum to 0
pub values_cancel : (e : ℕ) (a : List ℕ) → e ≤ 32 → 0 < 2 ^ e → length a ≡ 3 * 2 ^ e
    → (get_or a 0 0 + (get_or a (2 ^ e) 0 + get_or a (2 * 2 ^ e) 0)) % P ≡ 0
    → sum_to (2 ^ e) (λ j. eval_at a (root_of e ^ j % P)) % P ≡ 0
values_cancel e a small pos count none =
    let n : ℕ = 2 ^ e in
    let c : ℕ → ℕ = λ k. get_or a k 0 in
    let zero_times : n * 0 ≡ 0 = omega arith in
    value_sum e a small
    ∙ sym (mul-mod_second n (sum_to (length a) (at_multiples n c)) P)
    ∙ ap (λ (y : ℕ). (n * (sum_to y (at_multiples n c) % P)) % P) count
    ∙ ap (λ (y : ℕ). (n * y) % P) (three_terms n c pos ∙ none) ∙ ap (λ (y : ℕ). y % P) zero_times
