-- Numbers that grow digit by digit.
use Rattle.std.proofs.Common.{◌≡◌, ◌∙◌, ℕ, ◌+◌, ◌*◌, ◌<◌, ◌≤◌, ◌^◌, Bool, true, false, List, []}
use Rattle.std.proofs.Common.{◌∷◌, length, get_or, drop, Option, Some, None, refl, ap, subst, arith}
use Rattle.std.proofs.Common.{nat_lt, nat_le, ◌&&◌, if◌then◌else◌}
use Rattle.std.proofs.lemmas.List.{drop_more}
use Rattle.std.proofs.lemmas.Bool.Decides.{nat_tests}
use Rattle.std.specs.Char.{digit_value}
use Rattle.circom_words.specs.Numbers.{within, digits_from}

no : {A : Type 0} (b : Bool) (x y : A) → b ≡ false → (if b then x else y) ≡ y
no true x y e = cc
no false x y e = refl

yes : {A : Type 0} (b : Bool) (x y : A) → b ≡ true → (if b then x else y) ≡ x
yes true x y e = refl
yes false x y e = cc

above : (m n : ℕ) → n ≤ m → nat_lt m n ≡ false
above m n h = grind (arith, nat_tests)

below : (m n : ℕ) → m < n → nat_lt m n ≡ true
below m n h = grind (arith, nat_tests)

either : (low high : ℕ) (b : Bool) (x : Option ℕ) → within low high x ≡ None
    → within low high (if b then x else None) ≡ None
either low high true x h = h
either low high false x h = refl

both : (a b : Bool) (x : Option ℕ) → b ≡ false → (if a && b then x else None) ≡ None
both true true x e = cc
both true false x e = refl
both false b x e = refl

over : (m n : ℕ) → n < m → nat_le m n ≡ false
over m n h = grind (arith, nat_tests)

-- a number that is past the range stays there
pub too_large : (low high n : ℕ) (cs : List ℕ) → high < n
    → within low high (digits_from n cs) ≡ None
too_large low high n [] large = both (nat_le low n) (nat_le n high) (Some n) (over n high large)
too_large low high n (c ∷ cs) large =
    either low high (nat_lt (digit_value c) 10) (digits_from (n * 10 + digit_value c) cs)
    (too_large low high (n * 10 + digit_value c) cs (omega arith))

-- the next byte
pub next : (n : ℕ) (text : List ℕ) (i : ℕ) → i < length text
    → digits_from n (drop i text)
    ≡ (if nat_lt (digit_value (get_or text i 0)) 10
    then digits_from (n * 10 + digit_value (get_or text i 0)) (drop (i + 1) text) else None)
next n text i h = ap (digits_from n) (drop_more text i 0 h)

pub no_digit : (low high n : ℕ) (text : List ℕ) (i : ℕ) → i < length text
    → 10 ≤ digit_value (get_or text i 0) → within low high (digits_from n (drop i text)) ≡ None
no_digit low high n text i h no_value =
    ap (within low high)
    (next n text i h ∙ no _ _ _ (above (digit_value (get_or text i 0)) 10 no_value))

pub digit : (n : ℕ) (text : List ℕ) (i : ℕ) → i < length text
    → digit_value (get_or text i 0) < 10
    → digits_from n (drop i text)
    ≡ digits_from (n * 10 + digit_value (get_or text i 0)) (drop (i + 1) text)
digit n text i h value =
    next n text i h ∙ yes _ _ _ (below (digit_value (get_or text i 0)) 10 value)

-- the number behind the next digit is past the range
pub overflowed : (low high n v ch : ℕ) (text : List ℕ) (i : ℕ) → i < length text
    → (digit_value ch < 10) × (v ≡ digit_value ch) → ch ≡ get_or text i 0
    → high < n * 10 + v → within low high (digits_from n (drop i text)) ≡ None
overflowed low high n v ch text i h value here large =
    let same : v ≡ digit_value (get_or text i 0) = value.1 ∙ ap digit_value here in
    ap (within low high) (digit n text i h (subst (λ x. digit_value x < 10) here value.0))
    ∙ too_large low high (n * 10 + digit_value (get_or text i 0)) (drop (i + 1) text)
    (subst (λ x. high < n * 10 + x) same large)
