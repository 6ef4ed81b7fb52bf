-- Sums over the message points.
use Rattle.std.proofs.Common.{◌≡◌, ◌≢◌, ℕ, zero, suc, ◌+◌, ◌-◌, ◌*◌, ◌%◌, ◌^◌, ◌<◌, ◌≤◌, ◌==◌, List}
use Rattle.std.proofs.Common.{length, get_or, cond, eq-eqb, sym, ap, ◌∙◌, arith, mod-eq_of_lt}
use Rattle.std.proofs.Math.Nat.{mul-mod_right}
use Rattle.std.proofs.lemmas.Bool.{ne_eqb}
use Rattle.gold_field.specs.declared.gold.TheConstants.{P}
use Rattle.gold_field.proofs.Euclid.{plus_zero}
use Rattle.gold_ntt.specs.Polynomial.{sum_to, eval_at}
use Rattle.gold_ntt.specs.Transform.{root_of}
use Rattle.gold_ntt.proofs.Division.{value_sum}
use Rattle.gold_ntt.proofs.Sums.{sum_to-zero, sum_to-suc, sum_same, sum_first, sum-zero}

-- a sum in two parts
pub sum_parts : (a b : ℕ) (f : ℕ → ℕ) → sum_to (a + b) f ≡ sum_to a f + sum_to b (λ i. f (a + i))
sum_parts a zero f =
    let same : a + 0 ≡ a = omega arith in
    let all = ap (λ (n : ℕ). sum_to n f) same in
    omega (arith, sum_to-zero (λ i. f (a + i)))
sum_parts a (suc b) f =
    let next : a + suc b ≡ suc (a + b) = omega arith in
    let all = ap (λ (n : ℕ). sum_to n f) next in
    omega (arith, sum_parts a b f, sum_to-suc (a + b) f, sum_to-suc b (λ i. f (a + i)))

-- of the coefficients at the places b to b + l, where l divides b, the first one counts
block : (l b : ℕ) (c : ℕ → ℕ) → 0 < l → b % l ≡ 0
    → sum_to l (λ i. cond ((b + i) % l == 0) (c (b + i)) 0) ≡ c b
block l b c pos whole =
    let f : ℕ → ℕ = λ i. cond ((b + i) % l == 0) (c (b + i)) 0 in
    let m = l - 1 in
    let count : l ≡ suc m = omega arith in
    let here : b + 0 ≡ b = omega arith in
    let first : f 0 ≡ c b =
    ap (λ y. cond y (c (b + 0)) 0) (eq-eqb ((b + 0) % l) 0 (ap (λ (y : ℕ). y % l) here ∙ whole))
    ∙ ap c here in
    let others : sum_to m (λ i. f (suc i)) ≡ sum_to m (λ i. 0) =
    sum_same m (λ i. f (suc i)) (λ i. 0) (λ i h.
    let low : suc i < l = omega arith in
    let is : (b + suc i) % l ≡ suc i =
    plus_zero b (suc i) l whole ∙ mod-eq_of_lt {n = suc i} {m = l} low in
    let other : (b + suc i) % l ≢ 0 = λ e. omega arith in
    ap (λ y. cond y (c (b + suc i)) 0) (ne_eqb ((b + suc i) % l) 0 other)) in
    ap (λ (n : ℕ). sum_to n f) count ∙ sum_first m f ∙ omega (arith, others, sum-zero m, first)

twice_over : (l : ℕ) → 2 * l % l ≡ 0
twice_over l =
    let turned : 2 * l ≡ l * 2 = omega arith in ap (λ (y : ℕ). y % l) turned ∙ mul-mod_right l 2

itself : (l : ℕ) → l % l ≡ 0
itself l = let one : l ≡ l * 1 = omega arith in ap (λ (y : ℕ). y % l) one ∙ mul-mod_right l 1

nothing : (l : ℕ) → 0 % l ≡ 0
nothing l = let none : 0 ≡ l * 0 = omega arith in ap (λ (y : ℕ). y % l) none ∙ mul-mod_right l 0

-- every l-th of 3 * l coefficients
thirds : (l : ℕ) (c : ℕ → ℕ) → 0 < l
    → sum_to (3 * l) (λ k. cond (k % l == 0) (c k) 0) ≡ c 0 + (c l + c (2 * l))
thirds l c pos =
    let f : ℕ → ℕ = λ k. cond (k % l == 0) (c k) 0 in
    let three : 3 * l ≡ l + (l + l) = omega arith in
    let twice : l + l ≡ 2 * l = omega arith in
    let split = sum_parts l (l + l) f in
    let again = sum_parts l l (λ i. f (l + i)) in
    let zeroth : sum_to l f ≡ c 0 =
    sum_same l f (λ i. cond ((0 + i) % l == 0) (c (0 + i)) 0) (λ i h. let same : i ≡ 0 + i =
    omega arith in ap f same) ∙ block l 0 c pos (nothing l) in
    let one : sum_to l (λ i. f (l + i)) ≡ c l = block l l c pos (itself l) in
    let two : sum_to l (λ i. f (l + (l + i))) ≡ c (2 * l) =
    sum_same l (λ i. f (l + (l + i))) (λ i. f (2 * l + i))
    (λ i h. let place : l + (l + i) ≡ 2 * l + i = omega arith in ap f place)
    ∙ block l (2 * l) c pos (twice_over l) in
    ap (λ (n : ℕ). sum_to n f) three ∙ omega (arith, split, again, zeroth, one, two)

-- the sum of the values at the message points
pub sum_at_points : (e l : ℕ) (f : List ℕ) → e ≤ 32 → l ≡ 2 ^ e → 0 < l → length f ≡ 3 * l
    → sum_to l (λ j. eval_at f (root_of e ^ j % P)) % P
    ≡ (l * (get_or f 0 0 + (get_or f l 0 + get_or f (2 * l) 0))) % P
sum_at_points e l f small power pos count =
    let c : ℕ → ℕ = λ k. get_or f k 0 in
    let values : ℕ → ℕ = λ j. eval_at f (root_of e ^ j % P) in
    let third : sum_to (length f) (λ k. cond (k % 2 ^ e == 0) (c k) 0) ≡ c 0 + (c l + c (2 * l)) =
    ap (λ (n : ℕ). sum_to n (λ k. cond (k % 2 ^ e == 0) (c k) 0)) count
    ∙ ap (λ (n : ℕ). sum_to (3 * l) (λ k. cond (k % n == 0) (c k) 0)) (sym power)
    ∙ thirds l c pos in
    ap (λ (n : ℕ). sum_to n values % P) power ∙ value_sum e f small
    ∙ ap (λ (n : ℕ). (2 ^ e * n) % P) third
    ∙ ap (λ (n : ℕ). (n * (c 0 + (c l + c (2 * l)))) % P) (sym power)
