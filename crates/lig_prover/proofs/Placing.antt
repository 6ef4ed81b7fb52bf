-- Lists that are made in blocks of places, and sums over rows.
use Rattle.std.proofs.Common.{◌≡◌, ℕ, zero, suc, ◌+◌, ◌-◌, ◌*◌, ◌/◌, ◌%◌, ◌^◌, ◌<◌, ◌≤◌, List, []}
use Rattle.std.proofs.Common.{◌∷◌, ◌++◌, length, map, take, drop, replicate, get_or, refl, sym, ap}
use Rattle.std.proofs.Common.{◌∙◌, arith, ⊎_elim}
use Rattle.std.specs.List.{flat_map, range_with_len}
use Rattle.std.proofs.Math.Nat.{mod-mod, mul-le-mul_left, pow-le-pow_right}
use Rattle.std.proofs.lemmas.Bool.{cases_lt}
use Rattle.std.proofs.lemmas.Nat.{pow-add}
use Rattle.gold_field.specs.declared.gold.TheConstants.{P}
use Rattle.gold_ntt.specs.Polynomial.{sum_to}
use Rattle.gold_ntt.proofs.Values.{plus_same}
use Rattle.lig_layout.specs.declared.params.Params.{Params}
use Rattle.lig_layout.specs.Sizes.{IsParams}
use Rattle.lig_proof.specs.Points.{width_log}
use Rattle.lig_proof.proofs.Adding.{one_added, all_added}
use Rattle.lig_proof.proofs.Interpolants.{width_is}
use Rattle.lig_prover.proofs.Coset.{written_back}

-- ---- blocks one after another

range_append : (f : ℕ → ℕ) (a m n : ℕ) → map f (range_with_len a m)
    ++ map f (range_with_len (a + m) n) ≡ map f (range_with_len a (m + n))
range_append f a zero n =
    let here : a + 0 ≡ a = omega arith in
    let whole : n ≡ 0 + n = omega arith in
    ap (λ b. map f (range_with_len b n)) here ∙ ap (λ k. map f (range_with_len a k)) whole
range_append f a (suc m) n =
    let next : a + suc m ≡ a + 1 + m = omega arith in
    let whole : suc (m + n) ≡ suc m + n = omega arith in
    ap (λ b. f a ∷ map f (range_with_len (a + 1) m) ++ map f (range_with_len b n)) next
    ∙ ap (λ xs. f a ∷ xs) (range_append f (a + 1) m n)
    ∙ ap (λ k. map f (range_with_len a k)) whole

blocks_after : (f : ℕ → ℕ) (size a n : ℕ) (parts : List (List ℕ)) → length parts ≡ n
    → ((b : ℕ) → b < n → get_or parts b [] ≡ map f (range_with_len ((a + b) * size) size))
    → flat_map (λ part. part) parts ≡ map f (range_with_len (a * size) (n * size))
blocks_after f size a zero [] count each =
    let none : 0 ≡ 0 * size = omega arith in
    ap (λ k. map f (range_with_len (a * size) k)) none
blocks_after f size a zero (x ∷ parts) count each = absurd (omega arith)
blocks_after f size a (suc n) [] count each = absurd (omega arith)
blocks_after f size a (suc n) (x ∷ parts) count each =
    let here : (a + 0) * size ≡ a * size = ap (λ k. k * size) (omega arith) in
    let next : (a + 1) * size ≡ a * size + size = omega arith in
    let whole : size + n * size ≡ suc n * size = omega arith in
    let first = each 0 (omega arith) ∙ ap (λ k. map f (range_with_len k size)) here in
    let others = blocks_after f size (a + 1) n parts (omega arith) (λ b low.
    let place : a + suc b ≡ a + 1 + b = omega arith in
    each (suc b) (omega arith) ∙ ap (λ k. map f (range_with_len (k * size) size)) place) in
    (λ i. first i ++ others i)
    ∙ ap (λ k. map f (range_with_len (a * size) size) ++ map f (range_with_len k (n * size))) next
    ∙ range_append f (a * size) size (n * size)
    ∙ ap (λ k. map f (range_with_len (a * size) k)) whole

pub blocks_joined : (f : ℕ → ℕ) (size n : ℕ) (parts : List (List ℕ)) → length parts ≡ n
    → ((b : ℕ) → b < n → get_or parts b [] ≡ map f (range_with_len (b * size) size))
    → flat_map (λ part. part) parts ≡ map f (range_with_len 0 (n * size))
blocks_joined f size n parts count each =
    let none : 0 * size ≡ 0 = omega arith in
    blocks_after f size 0 n parts count (λ b low.
    let place : b ≡ 0 + b = omega arith in
    each b low ∙ ap (λ k. map f (range_with_len (k * size) size)) place)
    ∙ ap (λ k. map f (range_with_len k (n * size))) none

-- ---- one block

from_places : (f : ℕ → ℕ) (a n : ℕ) (xs : List ℕ) → length xs ≡ n
    → ((i : ℕ) → i < n → get_or xs i 0 ≡ f (a + i)) → xs ≡ map f (range_with_len a n)
from_places f a zero [] count each = refl
from_places f a zero (x ∷ xs) count each = absurd (omega arith)
from_places f a (suc n) [] count each = absurd (omega arith)
from_places f a (suc n) (x ∷ xs) count each =
    let here : a + 0 ≡ a = omega arith in
    let first : x ≡ f a = each 0 (omega arith) ∙ ap f here in
    let others = from_places f (a + 1) n xs (omega arith) (λ i low.
    let place : a + suc i ≡ a + 1 + i = omega arith in
    each (suc i) (omega arith) ∙ ap f place) in
    λ i. first i ∷ others i

pub block_made : (f : ℕ → ℕ) (b size count : ℕ) (new old : List ℕ) → count ≡ length old
    → length new ≡ length old → length old ≡ size
    → ((i : ℕ) → i < length old → get_or new i 0 ≡ f (b * size + i))
    → take count (new ++ drop (length new) old) ≡ map f (range_with_len (b * size) size)
block_made f b size count new old long same whole each =
    written_back count new old long same
    ∙ from_places f (b * size) size new (same ∙ whole) (λ i low. each i (omega arith))

pub zero_at : (n i : ℕ) → ◌≡◌ {A = ℕ} (get_or (replicate n 0) i 0) 0
zero_at zero i = refl
zero_at (suc n) zero = refl
zero_at (suc n) (suc i) = zero_at n i

grown : (i j : ℕ) → i ≤ j → 2 ^ i ≤ 2 ^ j
grown i j l = pow-le-pow_right (omega arith) l

-- blocks of an eighth of the width
pub eighth : (p : Params) → IsParams p → 8 * (p.l / 8) ≡ p.l
eighth p h =
    let width = width_is p h in
    let least = h.least in
    let power = width.power in
    let w = width_log p in
    let three : 3 ≤ w =
    ⊎_elim (λ low. let few = grown w 2 (omega arith) in absurd (omega arith))
    (λ high. high) (cases_lt w 3) in
    let parts : w ≡ w - 3 + 3 = omega arith in
    let split : 2 ^ w ≡ 2 ^ (w - 3) * 8 = ap (λ n. 2 ^ n) parts ∙ pow-add 2 (w - 3) 3 in
    omega arith

pub block_fits : (b l : ℕ) → b < 32 → l ≤ 2048 → b * (l / 8) + l / 8 < 2 ^ 32
block_fits b l low most =
    let small : l / 8 ≤ 256 = omega arith in omega (arith, mul-le-mul_left b small)

-- ---- sums

-- one more row
pub one_more : (k sum x next : ℕ) (f : ℕ → ℕ) → sum ≡ sum_to k f % P → x ≡ f k
    → next ≡ (sum + x) % P → next ≡ sum_to (k + 1) f % P
one_more k sum x next f so_far is adds =
    one_added k sum (f k % P) next f so_far refl
    (adds ∙ plus_same P sum sum x (f k % P) refl (ap (λ y. y % P) is ∙ sym (mod-mod (f k) P)))

-- the sum of all rows, and a number
pub with_start : (start sum k count next : ℕ) (f : ℕ → ℕ) → sum ≡ sum_to k f % P → k ≤ count
    → count ≤ k → next ≡ (sum + start) % P → next ≡ (start + sum_to count f) % P
with_start start sum k count next f so_far low high adds =
    let turned : sum + start ≡ start + sum = omega arith in
    all_added start start sum k count next f (adds ∙ ap (λ y. y % P) turned) refl so_far low high
