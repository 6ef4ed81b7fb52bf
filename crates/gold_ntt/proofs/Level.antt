-- A block of twice the size, from its two halves.
use Rattle.std.proofs.Common.{◌≡◌, ℕ, suc, ◌+◌, ◌-◌, ◌*◌, ◌%◌, ◌^◌, ◌<◌, ◌≤◌, ◌⊎◌, inl, inr, refl}
use Rattle.std.proofs.Common.{sym, ◌∙◌, ap, subst, arith, lit<, mod-eq_of_lt, List, length, get_or}
use Rattle.std.proofs.Math.Nat.{mod-mod, pow-zero, two-pow-succ}
use Rattle.std.proofs.lemmas.Bool.{cases_lt}
use Rattle.std.proofs.lemmas.Grind.{get_or_default_zero}
use Rattle.gold_field.specs.declared.gold.TheConstants.{P}
use Rattle.gold_ntt.specs.Polynomial.{poly}
use Rattle.gold_ntt.specs.Reversal.{reversed}
use Rattle.gold_ntt.specs.Transform.{TransformsBlock, HalvesAt, HasValues}
use Rattle.gold_ntt.proofs.Butterfly.{low_place, high_place, squared_half}
use Rattle.gold_ntt.proofs.Merging.{IsMerged, low_of, high_of}
use Rattle.gold_ntt.proofs.ReversalLaws.{reversed-even, reversed-odd, reversed_below}
use Rattle.gold_ntt.proofs.ReversalLaws.{reversed_twice}
use Rattle.gold_ntt.proofs.Values.{poly_point}
use Rattle.gold_ntt.proofs.Sums.{sum_to-suc, sum_to-zero, sum_same}

poly_same : (n : ℕ) (c d : ℕ → ℕ) (x : ℕ) → ((i : ℕ) → i < n → c i ≡ d i) → poly n c x ≡ poly n d x
poly_same n c d x h =
    sum_same n (λ i. c i * x ^ i) (λ i. d i * x ^ i) (λ i l. ap (λ (y : ℕ). y * x ^ i) (h i l))

-- a half's value, with the coefficients named in the whole block
half_value : (q m : ℕ) (c d : ℕ → ℕ) (x e : ℕ) → e ≡ poly m c x % q → ((i : ℕ) → i < m → c i ≡ d i)
    → e % q ≡ poly m d x % q
half_value q m c d x e is h =
    ap (λ (y : ℕ). y % q) is ∙ mod-mod (poly m c x) q ∙ ap (λ (y : ℕ). y % q) (poly_same m c d x h)

pub whole_block : (old one two new : List ℕ) (start k w s m : ℕ) → m ≡ 2 ^ k → (w ^ m) % P ≡ P - 1
    → s ≡ (w * w) % P
    → TransformsBlock old one start k s → TransformsBlock one two (start + m) k s
    → IsMerged two new start m (λ k. w ^ k) m
    → TransformsBlock old new start (suc k) w
whole_block old one two new start k w s m size half square first second merged =
    let double : 2 ^ suc k ≡ m + m = two-pow-succ k ∙ ap (λ (y : ℕ). y + y) (sym size) in
    let c : ℕ → ℕ = λ i. get_or old (start + reversed (suc k) i) 0 in
    let even : (j : ℕ) → j < m
    → get_or two (start + j) 0 % P ≡ poly m (λ i. c (i + i)) (s ^ j) % P =
    λ j l.
    half_value P m (λ i. get_or old (start + reversed k i) 0) (λ i. c (i + i)) (s ^ j)
    (get_or two (start + j) 0)
    (second.others (start + j) (inl (omega arith)) ∙ first.inside j (omega arith)
    ∙ ap (λ (y : ℕ). poly y (λ i. get_or old (start + reversed k i) 0) (s ^ j) % P) (sym size))
    (λ i l. ap (λ (y : ℕ). get_or old (start + y) 0) (sym (reversed-even k i))) in
    let odd : (j : ℕ) → j < m → get_or two (start + m + j) 0 % P
    ≡ poly m (λ i. c (suc (i + i))) (s ^ j) % P =
    λ j l.
    half_value P m (λ i. get_or one (start + m + reversed k i) 0) (λ i. c (suc (i + i))) (s ^ j)
    (get_or two (start + m + j) 0)
    (second.inside j (omega arith)
    ∙ ap (λ (y : ℕ). poly y (λ i. get_or one (start + m + reversed k i) 0) (s ^ j) % P) (sym size))
    (λ i l. odd_coefficient i) in
    record {
      inside = λ j l.
          elim (cases_lt j m) [
            | inl low ↦
                low_place P m w s j (get_or two (start + j) 0) (get_or two (start + m + j) 0)
                (get_or new (start + j) 0) c
                square (even j low) (odd j low) (merged.low j low)
                ∙ ap (λ (y : ℕ). poly y c (w ^ j) % P) (sym double)
            | inr high ↦
                let i : ℕ = j - m in
                let below : i < m = omega arith in
                let place : start + j ≡ start + m + i = omega arith in
                let power : m + i ≡ j = omega arith in
                ap (λ (y : ℕ). get_or new y 0) place
                ∙ high_place P m w s i (get_or two (start + i) 0) (get_or two (start + m + i) 0)
                (get_or new (start + m + i) 0) c
                (lit< tt) half square (even i below) (odd i below) (merged.high i below)
                ∙ ap (λ (y : ℕ). poly (m + m) c (w ^ y) % P) power
                ∙ ap (λ (y : ℕ). poly y c (w ^ j) % P) (sym double)
          ];
      others = λ p h.
          let merge_out : (p < start) ⊎ (start + (m + m) ≤ p) =
          elim h [ inl before ↦ inl before | inr after ↦ inr (omega arith) ] in
          let second_out : (p < start + m) ⊎ (start + m + 2 ^ k ≤ p) =
          elim h [ inl before ↦ inl (omega arith) | inr after ↦ inr (omega arith) ] in
          let first_out : (p < start) ⊎ (start + 2 ^ k ≤ p) =
          elim h [ inl before ↦ inl before | inr after ↦ inr (omega arith) ] in
          merged.others p merge_out ∙ second.others p second_out ∙ first.others p first_out;
      below = λ j l.
          elim (cases_lt j m) [
            | inl low ↦ first.below j (omega arith)
            | inr high ↦
                let i : ℕ = j - m in
                let place : start + j ≡ start + m + i = omega arith in
                let same : get_or one (start + m + i) 0 ≡ get_or old (start + j) 0 =
                first.others (start + m + i) (inr (omega arith))
                ∙ ap (λ (y : ℕ). get_or old y 0) (sym place) in
                omega (arith, second.below i (omega arith))
          ];
    }
  where
    odd_coefficient : (i : ℕ) → get_or one (start + m + reversed k i) 0
        ≡ get_or old (start + reversed (suc k) (suc (i + i))) 0
    odd_coefficient i =
        let place : start + m + reversed k i ≡ start + reversed (suc k) (suc (i + i)) =
        omega (arith, reversed-odd k i) in
        first.others (start + m + reversed k i) (inr (omega arith))
        ∙ ap (λ (y : ℕ). get_or old y 0) place

-- the square of the root halves at one less
pub square_halves : (w s log : ℕ) → 0 < log → HalvesAt w log → s ≡ (w * w) % P
    → HalvesAt s (log - 1)
square_halves w s log pos halves is more = squared_half P w s (log - 1 - 1) is ∙ at
  where
    at : (w ^ (2 ^ (log - 1 - 1) + 2 ^ (log - 1 - 1))) % P ≡ P - 1
    at =
        let next : suc (log - 1 - 1) ≡ log - 1 = omega arith in
        ap (λ (y : ℕ). (w ^ y) % P) (sym (two-pow-succ (log - 1 - 1)) ∙ ap (λ (y : ℕ). 2 ^ y) next)
        ∙ halves pos

-- one place is its own transform
pub one_place : (a : List ℕ) (start log w x : ℕ) → log ≡ 0 → start < length a → x ≡ get_or a start x
    → x < P → TransformsBlock a a start log w
one_place a start log w x none low is below =
    record {
      inside = λ j l.
          let first : j ≡ 0 = small j log none l in
          let here : get_or a (start + j) 0 ≡ get_or a start 0 =
          let place : start + j ≡ start = omega arith in ap (λ (y : ℕ). get_or a y 0) place in
          let read : get_or a start 0 ≡ x = sym (is ∙ get_or_default_zero a start x low) in
          let self : x % P ≡ x = mod-eq_of_lt {n = x} {m = P} below in
          here ∙ read ∙ sym self
          ∙ ap (λ (y : ℕ). y % P) (sym (one_term a start log w j x none first read));
      others = λ p h. refl;
      below = λ j l.
          let first : j ≡ 0 = small j log none l in
          let here : get_or a (start + j) 0 ≡ get_or a start 0 =
          let place : start + j ≡ start = omega arith in ap (λ (y : ℕ). get_or a y 0) place in
          omega (arith, is ∙ get_or_default_zero a start x low);
    }
  where
    small : (j log : ℕ) → log ≡ 0 → j < 2 ^ log → j ≡ 0
    small j log none l = let one : 2 ^ log ≡ 1 = ap (λ (y : ℕ). 2 ^ y) none in omega arith

    one_term : (a : List ℕ) (start log w j x : ℕ) → log ≡ 0 → j ≡ 0 → get_or a start 0 ≡ x
        → poly (2 ^ log) (λ i. get_or a (start + reversed log i) 0) (w ^ j) ≡ x
    one_term a start log w j x none first read =
        ap (λ (y : ℕ). poly (2 ^ y) (λ i. get_or a (start + reversed y i) 0) (w ^ j)) none
        ∙ sum_to-suc 0 (λ i. get_or a (start + 0) 0 * (w ^ j) ^ i)
        ∙ omega (arith, sum_to-zero (λ i. get_or a (start + 0) 0 * (w ^ j) ^ i), product)
      where
        product : get_or a (start + 0) 0 * (w ^ j) ^ 0 ≡ x
        product =
            let place : start + 0 ≡ start = omega arith in
            ap (λ (y : ℕ). y * (w ^ j) ^ 0) (ap (λ (y : ℕ). get_or a y 0) place ∙ read)
            ∙ ap (λ (y : ℕ). x * y) (pow-zero (w ^ j))
            ∙ omega arith

pub whole_block_at : (old one two new : List ℕ) (start log w s m : ℕ) → 0 < log → m ≡ 2 ^ (log - 1)
    → HalvesAt w log → s ≡ (w * w) % P
    → TransformsBlock old one start (log - 1) s → TransformsBlock one two (start + m) (log - 1) s
    → ((j : ℕ) → j < m → get_or new (start + j) 0 ≡ low_of two start m (λ k. w ^ k) j)
    → ((j : ℕ) → j < m → get_or new (start + m + j) 0 ≡ high_of two start m (λ k. w ^ k) j)
    → ((p : ℕ) → (p < start) ⊎ (start + (m + m) ≤ p) → get_or new p 0 ≡ get_or two p 0)
    → TransformsBlock old new start log w
whole_block_at old one two new start log w s m pos size halves square first second low high others =
    let up : suc (log - 1) ≡ log = omega arith in
    let half : (w ^ m) % P ≡ P - 1 = ap (λ (y : ℕ). (w ^ y) % P) size ∙ halves pos in
    let merged : IsMerged two new start m (λ k. w ^ k) m = record {
      low = low;
      high = high;
      low_left = λ k l h. absurd (omega arith);
      high_left = λ k l h. absurd (omega arith);
      others = others;
    } in
    let B : ℕ → Type 0 = λ y. TransformsBlock old new start y w in
    subst B up
    (whole_block old one two new start (log - 1) w s m size half square first second merged)

pub half_fits : (log : ℕ) → 0 < log → 2 ^ log ≡ 2 ^ (log - 1) + 2 ^ (log - 1)
half_fits log pos =
    let up : suc (log - 1) ≡ log =
    omega arith in ap (λ (y : ℕ). 2 ^ y) (sym up) ∙ two-pow-succ (log - 1)

-- with all places: the reversal undoes that of the coefficients
pub all_values : (old turned new : List ℕ) (log w : ℕ) → length old ≡ 2 ^ log
    → length new ≡ length old
    → ((p : ℕ) → p < 2 ^ log → get_or turned p 0 ≡ get_or old (reversed log p) 0)
    → TransformsBlock turned new 0 log w → HasValues w old new
all_values old turned new log w size same turn block =
    record {
      same_length = same;
      value = λ j l.
          let zero_first : 0 + j ≡ j = omega arith in
          let n : ℕ = length old in
          let point : w ^ j % P ≡ w ^ j % P % P = sym (mod-mod (w ^ j) P) in
          ap (λ (y : ℕ). get_or new y 0) (sym zero_first) ∙ block.inside j (omega arith)
          ∙ ap (λ (y : ℕ). y % P)
          (poly_same (2 ^ log) (λ i. get_or turned (0 + reversed log i) 0) (λ i. get_or old i 0)
          (w ^ j) (λ i h. coefficient i h))
          ∙ ap (λ (y : ℕ). poly y (λ i. get_or old i 0) (w ^ j) % P) (sym size)
          ∙ poly_point P n (λ i. get_or old i 0) (w ^ j) (w ^ j % P) point;
    }
  where
    coefficient : (i : ℕ) → i < 2 ^ log → get_or turned (0 + reversed log i) 0 ≡ get_or old i 0
    coefficient i h =
        let below : reversed log i < 2 ^ log = reversed_below log i in
        let place : 0 + reversed log i ≡ reversed log i = omega arith in
        ap (λ (y : ℕ). get_or turned y 0) place ∙ turn (reversed log i) below
        ∙ ap (λ (y : ℕ). get_or old y 0) (reversed_twice log i h)

pub all_below : (old turned new : List ℕ) (log w : ℕ) → length old ≡ 2 ^ log
    → ((p : ℕ) → p < 2 ^ log → get_or turned p 0 ≡ get_or old (reversed log p) 0)
    → TransformsBlock turned new 0 log w → (k : ℕ) → k < length old → get_or old k 0 < P
all_below old turned new log w size turn block k low =
    let below : reversed log k < 2 ^ log = reversed_below log k in
    let place : 0 + reversed log k ≡ reversed log k = omega arith in
    let here : get_or turned (0 + reversed log k) 0 ≡ get_or old k 0 =
    ap (λ (y : ℕ). get_or turned y 0) place ∙ turn (reversed log k) below
    ∙ ap (λ (y : ℕ). get_or old y 0) (reversed_twice log k (omega arith)) in
    omega (arith, block.below (reversed log k) below)
