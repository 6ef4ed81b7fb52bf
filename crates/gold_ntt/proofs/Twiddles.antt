-- The table of twiddles, level by level.
use Rattle.std.proofs.Common.{◌≡◌, ℕ, suc, ◌+◌, ◌-◌, ◌*◌, ◌%◌, ◌^◌, ◌<◌, ◌≤◌, inl, inr, sym, ap}
use Rattle.std.proofs.Common.{◌∙◌, arith, List, [], ◌∷◌, ◌++◌, length, get_or}
use Rattle.std.proofs.Math.Nat.{two-pow-succ}
use Rattle.std.proofs.Math.Seq.{get_or-append_seam}
use Rattle.std.proofs.lemmas.Bool.{cases_lt}
use Rattle.std.proofs.lemmas.List.{get_or_append_left}
use Rattle.std.proofs.lemmas.Nat.{pow_below}
use Rattle.gold_field.specs.declared.gold.TheConstants.{P}
use Rattle.gold_ntt.specs.Coset.{AreTwiddles}
use Rattle.gold_ntt.specs.Reversal.{reversed}
use Rattle.gold_ntt.specs.Transform.{root_of}

abbrev pub IsTwiddle : ℕ → ℕ → ℕ → ℕ → List ℕ → Type 0
IsTwiddle e d k b all = get_or all (2 ^ d + b) 0
    ≡ (7 * root_of e ^ reversed d b) ^ (2 ^ k) % P

-- those of the levels below depth
pub record AreBelow (e depth : ℕ) (all : List ℕ) : Type 0 where
  pub each : (d k b : ℕ) → d < depth → d + suc k ≡ e → b < 2 ^ d → IsTwiddle e d k b all

-- the first ones of a level
pub record AreInLevel (e d count : ℕ) (all : List ℕ) : Type 0 where
  pub each : (k b : ℕ) → d + suc k ≡ e → b < count → IsTwiddle e d k b all

-- the first level begins at place 1
pub none_below : (e : ℕ) (all : List ℕ) → AreBelow e 0 all
none_below e all = record { each = λ d k b low whole block. absurd (omega arith) }

pub none_in_level : (e d : ℕ) (all : List ℕ) → AreInLevel e d 0 all
none_in_level e d all = record { each = λ k b whole low. absurd (omega arith) }

-- what stands there stays
same_twiddle : (e d k b x : ℕ) (all : List ℕ) → 2 ^ d + b < length all → IsTwiddle e d k b all
    → IsTwiddle e d k b (all ++ x ∷ [])
same_twiddle e d k b x all low is = get_or_append_left all (x ∷ []) 0 (2 ^ d + b) low ∙ is

pub still_below : (e depth x : ℕ) (all : List ℕ) → 2 ^ depth ≤ length all → AreBelow e depth all
    → AreBelow e depth (all ++ x ∷ [])
still_below e depth x all long are = record {
  each = λ d k b low whole block.
      let fits : 2 ^ d + b < length all =
      (let double : 2 ^ suc d ≡ 2 ^ d + 2 ^ d = two-pow-succ d in
      let grows : 2 ^ suc d ≤ 2 ^ depth = rising (suc d) depth low in omega arith) in
      same_twiddle e d k b x all fits (are.each d k b low whole block);
}
  where
    rising : (i j : ℕ) → i ≤ j → 2 ^ i ≤ 2 ^ j
    rising i j l =
        elim (cases_lt i j) [
          | inl low ↦ let grows : 2 ^ i < 2 ^ j = pow_below i j low in omega arith
          | inr high ↦ let same : 2 ^ i ≡ 2 ^ j = let is : i ≡ j = omega arith in
              ap (λ (y : ℕ). 2 ^ y) is in omega arith
        ]

pub one_more : (e d b x : ℕ) (all : List ℕ) → d < e → length all ≡ 2 ^ d + b
    → x ≡ (7 * root_of e ^ reversed d b) ^ (2 ^ (e - d - 1)) % P
    → AreInLevel e d b all → AreInLevel e d (b + 1) (all ++ x ∷ [])
one_more e d b x all low long is are = record {
  each = λ k n whole below.
      elim (cases_lt n b) [
        | inl before ↦
            same_twiddle e d k n x all (omega arith) (are.each k n whole before)
        | inr after ↦
            let at : n ≡ b = omega arith in
            let last : e - d - 1 ≡ k = omega arith in
            let place : 2 ^ d + n ≡ length all = omega arith in
            ap (λ (y : ℕ). get_or (all ++ x ∷ []) y 0) place
            ∙ get_or-append_seam all x [] 0 ∙ is
            ∙ ap (λ (y : ℕ). (7 * root_of e ^ reversed d b) ^ (2 ^ y) % P) last
            ∙ ap (λ (y : ℕ). (7 * root_of e ^ reversed d y) ^ (2 ^ k) % P) (sym at)
      ];
}

pub one_level : (e d : ℕ) (all : List ℕ) → AreBelow e d all → AreInLevel e d (2 ^ d) all
    → AreBelow e (d + 1) all
one_level e d all below level = record {
  each = λ n k b low whole block.
      elim (cases_lt n d) [
        | inl before ↦ below.each n k b before whole block
        | inr after ↦
            let at : n ≡ d = omega arith in
            let size : 2 ^ n ≡ 2 ^ d = ap (λ (y : ℕ). 2 ^ y) at in
            ap (λ (y : ℕ). get_or all (2 ^ y + b) 0) at
            ∙ level.each k b (omega arith) (omega arith)
            ∙ ap (λ (y : ℕ). (7 * root_of e ^ reversed y b) ^ (2 ^ k) % P) (sym at)
      ];
}

pub all_levels : (e : ℕ) (all : List ℕ) → length all ≡ 2 ^ e → AreBelow e e all → AreTwiddles e all
all_levels e all count are = record {
  count = count;
  each = λ d k b whole block. are.each d k b (omega arith) whole block;
}
