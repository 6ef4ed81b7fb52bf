-- Numbers that grow digit by digit.
use Rattle.std.proofs.Common.{◌≡◌, ◌∙◌, ℕ, ◌+◌, ◌*◌, ◌<◌, ◌≤◌, ◌^◌, Bool, true, false, List, []}
use Rattle.std.proofs.Common.{◌∷◌, length, get_or, drop, Option, Some, None, refl, sym, ap, subst}
use Rattle.std.proofs.Common.{arith, nat_lt, if◌then◌else◌}
use Rattle.std.proofs.lemmas.List.{drop_more}
use Rattle.std.proofs.lemmas.Bool.Decides.{nat_tests}
use Rattle.std.proofs.Math.Nat.{mul-le-mul_left}
use Rattle.std.specs.Char.{digit_value}
use Rattle.wit_input.specs.Numbers.{limited, digits_from}

pub no : {A : Type 0} (b : Bool) (x y : A) → b ≡ false → (if b then x else y) ≡ y
no true x y e = cc
no false x y e = refl

pub yes : {A : Type 0} (b : Bool) (x y : A) → b ≡ true → (if b then x else y) ≡ x
yes true x y e = refl
yes false x y e = cc

above : (m n : ℕ) → n ≤ m → nat_lt m n ≡ false
above m n h = grind (arith, nat_tests)

pub below : (m n : ℕ) → m < n → nat_lt m n ≡ true
below m n h = grind (arith, nat_tests)

grows : (base n d : ℕ) → 1 ≤ base → n ≤ n * base + d
grows base n d h = let e : n * 1 ≤ n * base = mul-le-mul_left n h in omega arith

either : (b : Bool) (x : Option ℕ) → limited x ≡ None → limited (if b then x else None) ≡ None
either true x h = h
either false x h = refl

-- a number that has reached 2^128 stays there
pub too_large : (base n : ℕ) (cs : List ℕ) → 1 ≤ base → 2 ^ 128 ≤ n
    → limited (digits_from base n cs) ≡ None
too_large base n [] h large = no (nat_lt n (2 ^ 128)) (Some n) None (above n (2 ^ 128) large)
too_large base n (c ∷ cs) h large =
    let more : n ≤ n * base + digit_value c = grows base n (digit_value c) h in
    let still : 2 ^ 128 ≤ n * base + digit_value c = omega arith in
    either (nat_lt (digit_value c) base) (digits_from base (n * base + digit_value c) cs)
    (too_large base (n * base + digit_value c) cs h still)

-- the next byte
pub next : (base n : ℕ) (text : List ℕ) (i : ℕ) → i < length text
    → digits_from base n (drop i text)
    ≡ (if nat_lt (digit_value (get_or text i 0)) base
    then digits_from base (n * base + digit_value (get_or text i 0)) (drop (i + 1) text) else None)
next base n text i h = ap (digits_from base n) (drop_more text i 0 h)

pub no_digit : (base n : ℕ) (text : List ℕ) (i : ℕ) → i < length text
    → base ≤ digit_value (get_or text i 0) → limited (digits_from base n (drop i text)) ≡ None
no_digit base n text i h no_value =
    ap limited (next base n text i h ∙
    no _ _ _ (above (digit_value (get_or text i 0)) base no_value))

pub digit : (base n : ℕ) (text : List ℕ) (i : ℕ) → i < length text
    → digit_value (get_or text i 0) < base
    → digits_from base n (drop i text)
    ≡ digits_from base (n * base + digit_value (get_or text i 0)) (drop (i + 1) text)
digit base n text i h value =
    next base n text i h ∙ yes _ _ _ (below (digit_value (get_or text i 0)) base value)

pub all_read : (n : ℕ) → n < 2 ^ 128 → Some n ≡ limited (Some n)
all_read n h = sym (yes (nat_lt n (2 ^ 128)) (Some n) None (below n (2 ^ 128) h))

-- the number behind the next digit is too large
pub overflowed : (base n v ch : ℕ) (text : List ℕ) (i : ℕ) → i < length text → 1 ≤ base
    → (digit_value ch < base) × (v ≡ digit_value ch) → ch ≡ get_or text i 0
    → 2 ^ 128 ≤ n * base + v → limited (digits_from base n (drop i text)) ≡ None
overflowed base n v ch text i h some value here large =
    let same : v ≡ digit_value (get_or text i 0) = value.1 ∙ ap digit_value here in
    ap limited (digit base n text i h (subst (λ x. digit_value x < base) here value.0))
    ∙ too_large base (n * base + digit_value (get_or text i 0)) (drop (i + 1) text) some
    (subst (λ x. 2 ^ 128 ≤ n * base + x) same large)
