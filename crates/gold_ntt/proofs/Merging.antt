-- The loop that merges two transforms: what is done below j, and what is left.
use Rattle.std.proofs.Common.{◌≡◌, ◌≢◌, ℕ, suc, ◌+◌, ◌-◌, ◌*◌, ◌%◌, ◌^◌, ◌<◌, ◌≤◌, ◌⊎◌, inl, inr}
use Rattle.std.proofs.Common.{refl, sym, ◌∙◌, ap, arith, List, length, get_or, set, pow-suc}
use Rattle.std.proofs.lemmas.List.{get_or-set_other, get_or-set_same, length-set}
use Rattle.std.proofs.lemmas.Nat.{mul-mod_first}
use Rattle.std.proofs.lemmas.Bool.{cases_lt}
use Rattle.std.proofs.lemmas.Grind.{get_or_default_zero}
use Rattle.gold_field.specs.declared.gold.TheConstants.{P}
use Rattle.gold_ntt.proofs.Values.{same_times}

-- the two places of pair k after the merge, whose factor is t k
abbrev pub low_of : List ℕ → ℕ → ℕ → (ℕ → ℕ) → ℕ → ℕ
low_of old start half t k =
    (get_or old (start + k) 0 + t k * get_or old (start + half + k) 0 % P) % P

abbrev pub high_of : List ℕ → ℕ → ℕ → (ℕ → ℕ) → ℕ → ℕ
high_of old start half t k =
    (get_or old (start + k) 0 + (P - t k * get_or old (start + half + k) 0 % P)) % P

pub record IsMerged (old new : List ℕ) (start half : ℕ) (t : ℕ → ℕ) (j : ℕ) : Type 0 where
  pub low : (k : ℕ) → k < j → get_or new (start + k) 0 ≡ low_of old start half t k
  pub high : (k : ℕ) → k < j → get_or new (start + half + k) 0 ≡ high_of old start half t k
  pub low_left : (k : ℕ) → j ≤ k → k < half → get_or new (start + k) 0 ≡ get_or old (start + k) 0
  pub high_left : (k : ℕ) → j ≤ k → k < half → get_or new (start + half + k) 0
      ≡ get_or old (start + half + k) 0
  pub others : (p : ℕ) → (p < start) ⊎ (start + (half + half) ≤ p) → get_or new p 0 ≡ get_or old p 0

pub not_begun : (old : List ℕ) (start half : ℕ) (t : ℕ → ℕ) → IsMerged old old start half t 0
not_begun old start half t = record {
  low = λ k h. absurd (omega arith);
  high = λ k h. absurd (omega arith);
  low_left = λ k h l. refl;
  high_left = λ k h l. refl;
  others = λ p h. refl;
}

-- a place that neither write meets
two_sets : (a : List ℕ) (i j p x y : ℕ) → p ≢ i → p ≢ j → get_or (set (set a i x) j y) p 0
    ≡ get_or a p 0
two_sets a i j p x y ni nj = get_or-set_other (set a i x) j p y 0 nj ∙ get_or-set_other a i p x 0 ni

first_set : (a : List ℕ) (i j x y : ℕ) → i ≢ j → i < length a → get_or (set (set a i x) j y) i 0 ≡ x
first_set a i j x y ne l = get_or-set_other (set a i x) j i y 0 ne ∙ get_or-set_same a i x 0 l

second_set : (a : List ℕ) (i j x y : ℕ) → j < length a → get_or (set (set a i x) j y) j 0 ≡ y
second_set a i j x y l = let long : j < length (set a i x) = omega (arith, length-set a i x)
    in get_or-set_same (set a i x) j y 0 long

pub one_merged : (old new : List ℕ) (start half : ℕ) (t : ℕ → ℕ) (j twiddle e o odd x y : ℕ)
    → j < half → start + (half + half) ≤ length new → IsMerged old new start half t j
    → twiddle % P ≡ t j % P
    → e ≡ get_or new (start + j) e → o ≡ get_or new (start + half + j) o
    → odd ≡ (twiddle * o) % P → x ≡ (e + odd) % P → y ≡ (e + (P - odd)) % P
    → IsMerged old (set (set new (start + j) x) (start + half + j) y) start half t (j + 1)
one_merged old new start half t j twiddle e o odd x y low fits merged same read_e read_o product
    sum difference =
    let first : e ≡ get_or new (start + j) 0 =
    read_e ∙ get_or_default_zero new (start + j) e (omega arith) in
    let second : o ≡ get_or new (start + half + j) 0 =
    read_o ∙ get_or_default_zero new (start + half + j) o (omega arith) in
    let is_low : get_or new (start + j) 0 ≡ get_or old (start + j) 0 =
    merged.low_left j (omega arith) low in
    let is_high : get_or new (start + half + j) 0 ≡ get_or old (start + half + j) 0 =
    merged.high_left j (omega arith) low in
    let b : ℕ = get_or old (start + half + j) 0 in
    let is_odd : odd ≡ t j * b % P =
    product ∙ ap (λ (z : ℕ). (twiddle * z) % P) (second ∙ is_high)
    ∙ same_times P b twiddle (t j) same in
    let is_x : x ≡ low_of old start half t j =
    sum ∙ ap (λ (z : ℕ). (z + odd) % P) (first ∙ is_low)
    ∙ ap (λ (z : ℕ). (get_or old (start + j) 0 + z) % P) is_odd in
    let is_y : y ≡ high_of old start half t j =
    difference ∙ ap (λ (z : ℕ). (z + (P - odd)) % P) (first ∙ is_low)
    ∙ ap (λ (z : ℕ). (get_or old (start + j) 0 + (P - z)) % P) is_odd in
    record {
      low = λ k h.
          elim (cases_lt k j) [
            | inl before ↦
                two_sets new (start + j) (start + half + j) (start + k) x y (λ e. omega arith)
                (λ e. omega arith)
                ∙ merged.low k before
            | inr after ↦
                let at : k ≡ j = omega arith in
                ap (λ (z : ℕ). get_or (set (set new (start + j) x) (start + half + j) y)
                (start + z) 0) at
                ∙ first_set new (start + j) (start + half + j) x y (λ e. omega arith) (omega arith)
                ∙ is_x
                ∙ ap (λ (z : ℕ). low_of old start half t z) (sym at)
          ];
      high = λ k h.
          elim (cases_lt k j) [
            | inl before ↦
                two_sets new (start + j) (start + half + j) (start + half + k) x y
                (λ e. omega arith) (λ e. omega arith)
                ∙ merged.high k before
            | inr after ↦
                let at : k ≡ j = omega arith in
                ap (λ (z : ℕ). get_or (set (set new (start + j) x) (start + half + j) y)
                (start + half + z) 0) at
                ∙ second_set new (start + j) (start + half + j) x y (omega arith) ∙ is_y
                ∙ ap (λ (z : ℕ). high_of old start half t z) (sym at)
          ];
      low_left = λ k h l.
          two_sets new (start + j) (start + half + j) (start + k) x y (λ e. omega arith)
          (λ e. omega arith)
          ∙ merged.low_left k (omega arith) l;
      high_left = λ k h l.
          two_sets new (start + j) (start + half + j) (start + half + k) x y (λ e. omega arith)
          (λ e. omega arith)
          ∙ merged.high_left k (omega arith) l;
      others = λ p h.
          let not_low : p ≢ start + j =
          elim h [ inl before ↦ (λ e. omega arith) | inr after ↦ (λ e. omega arith) ] in
          let not_high : p ≢ start + half + j =
          elim h [ inl before ↦ (λ e. omega arith) | inr after ↦ (λ e. omega arith) ] in
          two_sets new (start + j) (start + half + j) p x y not_low not_high ∙ merged.others p h;
    }

-- the next power of the root
pub next_power : (q root j t r : ℕ) → t ≡ root ^ j % q → r ≡ (t * root) % q → r ≡ root ^ (j + 1) % q
next_power q root j t r power is =
    let more : j + 1 ≡ suc j = omega arith in
    is ∙ ap (λ (z : ℕ). (z * root) % q) power ∙ mul-mod_first (root ^ j) root q
    ∙ ap (λ (z : ℕ). z % q) (sym (pow-suc root j) ∙ ap (λ (z : ℕ). root ^ z) (sym more))
