-- Numbers in decimal digits.
use Rattle.std.proofs.Common.{◌≡◌, ◌≢◌, ℕ, ◌+◌, ◌<◌, ◌≤◌, ◌^◌, []}
use Rattle.std.proofs.Common.{◌∷◌, true, false, ltb, List, length, ◌&&◌}
use Rattle.std.proofs.Common.{Some, None, Result, Ok, Err, sym, ap, ◌∙◌, get_or, arith}
use Rattle.std.proofs.Common.{decimal, ◌⊎◌, inl, inr, eqb}
use Rattle.std.specs.Result.{OkIff, result_ok}
use Rattle.std.specs.Int.{IsInRange}
use Rattle.std.specs.Str.{all_ascii_digits, IsUtf8}
use Rattle.std.specs.Str.Parse.{digits_value, ParsesUnsigned}
use Rattle.std.proofs.lemmas.Bool.{ltb-true, lt-ltb, le-ltb, and_parts, and_from, and_left}
use Rattle.std.proofs.lemmas.Bool.{and_right, cond-true, cond-false, false_from_ne_true}
use Rattle.std.proofs.lemmas.Bool.{ne_eqb, cases_Bool, cases_lt, both_ways, eq-eqb}
use Rattle.std.proofs.lemmas.Str.{IsUtf8-from_ascii}
use Rattle.std.proofs.lemmas.Str.Parse.{IsNumeralModel, numerals_by_value, tells_all_ascii_digits}
use Rattle.std.proofs.lemmas.Str.Parse.{parse_plain, not_in_digits}
use Rattle.std.proofs.lemmas.Fmt.{IsAscii-from_digits, digits_decimal, digits_value-decimal}
use Rattle.std.proofs.lemmas.Fmt.{decimal_nonempty, first_decimal, decimal-digits_value}
use Rattle.std.proofs.lemmas.Fmt.{decimal_digit}
use Rattle.std.proofs.lemmas.List.Elements.{All-from_get_or}
use Rattle.text_lines.specs.Lines.{HasNo}
use Rattle.text_lines.specs.Number.{is_numeral, number_below, has_leading_zero, plain_below}

pub own : IsNumeralModel (λ ds. all_ascii_digits ds ≡ true) (digits_value 10)
own = numerals_by_value _ tells_all_ascii_digits

-- one or more digits of a number below the bound
pub record Spells (bound : ℕ) (ds : List ℕ) : Type 0 where
  pub digits : all_ascii_digits ds ≡ true
  pub some : 0 < length ds
  pub below : digits_value 10 ds < bound

spells : (bound : ℕ) (ds : List ℕ)
    → (is_numeral ds && ltb (digits_value 10 ds) bound) ≡ true → Spells bound ds
spells bound ds holds =
    let p = and_parts (is_numeral ds) (ltb (digits_value 10 ds) bound) holds in
    let q = and_parts (ltb 0 (length ds)) (all_ascii_digits ds) p.0 in
    record {
      digits = q.1;
      some = ltb-true 0 (length ds) q.0;
      below = ltb-true (digits_value 10 ds) bound p.1;
    }

pub spelled : (bound : ℕ) (ds : List ℕ) → Spells bound ds
    → number_below bound ds ≡ Some (digits_value 10 ds)
spelled bound ds h =
    cond-true _ _ _ (and_from (is_numeral ds) (ltb (digits_value 10 ds) bound)
    (and_from (ltb 0 (length ds)) (all_ascii_digits ds) (lt-ltb 0 (length ds) h.some) h.digits)
    (lt-ltb (digits_value 10 ds) bound h.below))

pub not_spelled : (bound : ℕ) (ds : List ℕ) → (Spells bound ds → ⊥) → number_below bound ds ≡ None
not_spelled bound ds none =
    cond-false _ _ _ (false_from_ne_true (is_numeral ds && ltb (digits_value 10 ds) bound)
    (λ holds. none (spells bound ds holds)))

pub spells_from : (bound n : ℕ) (ds : List ℕ) → number_below bound ds ≡ Some n
    → Spells bound ds × (digits_value 10 ds ≡ n)
spells_from bound n ds h = cases (cases_Bool (is_numeral ds && ltb (digits_value 10 ds) bound))
  where
    cases : ((is_numeral ds && ltb (digits_value 10 ds) bound) ≡ true)
        ⊎ ((is_numeral ds && ltb (digits_value 10 ds) bound) ≡ false)
        → Spells bound ds × (digits_value 10 ds ≡ n)
    cases (inl holds) =
        let s = spells bound ds holds in
        let e : Some (digits_value 10 ds) ≡ Some n = sym (spelled bound ds s) ∙ h in
        (s, cc)
    cases (inr fails) =
        let e : number_below bound ds ≡ None = cond-false _ _ _ fails in
        let f : Some n ≡ None = sym h ∙ e in
        cc

pub none_from_plus : (bound : ℕ) (ds : List ℕ) → get_or ds 0 0 ≡ 43 → number_below bound ds ≡ None
none_from_plus bound ds plus =
    not_spelled bound ds (λ (h : Spells bound ds). not_in_digits own ds 43 h.digits
    (λ (r : IsInRange 48 57 43). omega (arith, r.0)) 0 h.some plus)

pub none_from_bytes : (bound : ℕ) (ds : List ℕ) → (IsUtf8 ds → ⊥) → number_below bound ds ≡ None
none_from_bytes bound ds fails =
    not_spelled bound ds (λ (h : Spells bound ds). fails (IsUtf8-from_ascii ds
    (IsAscii-from_digits ds (own.to ds h.digits))))

from_ok : {E : Type 0} (bound : ℕ) (ds : List ℕ) (r : Result ℕ E)
    → OkIff r ((all_ascii_digits ds ≡ true) × (0 < length ds) × (digits_value 10 ds < bound))
    (digits_value 10 ds)
    → result_ok r ≡ number_below bound ds
from_ok bound ds (Ok x) h =
    ap Some h.1
    ∙ sym (spelled bound ds record { digits = h.0.0; some = h.0.1; below = h.0.2 })
from_ok bound ds (Err e) h =
    sym (not_spelled bound ds (λ (s : Spells bound ds). h (s.digits, s.some, s.below)))

pub parsed : {E : Type 0} (ds : List ℕ) (r : Result ℕ E) → ParsesUnsigned 64 10 ds r
    → (get_or ds 0 0 ≡ 43 → ⊥) → result_ok r ≡ number_below (2 ^ 64) ds
parsed ds r h plus = from_ok (2 ^ 64) ds r (parse_plain own 64 ds r h plus)

pub small_again : (ds : List ℕ) (n : ℕ) → number_below (2 ^ 64) ds ≡ Some n → n < 2 ^ 32
    → Some n ≡ number_below (2 ^ 32) ds
small_again ds n h small =
    let s = spells_from (2 ^ 64) n ds h in
    let t : Spells (2 ^ 32) ds = record {
      digits = s.0.digits;
      some = s.0.some;
      below = omega (arith, s.1);
    } in
    sym (spelled (2 ^ 32) ds t ∙ ap Some s.1)

pub none_from_large : (ds : List ℕ) (n : ℕ) → number_below (2 ^ 64) ds ≡ Some n → 2 ^ 32 ≤ n
    → None ≡ number_below (2 ^ 32) ds
none_from_large ds n h large =
    let s = spells_from (2 ^ 64) n ds h in
    sym (not_spelled (2 ^ 32) ds (λ (t : Spells (2 ^ 32) ds). omega (arith, t.below, s.1)))

pub none_narrower : (ds : List ℕ) → number_below (2 ^ 64) ds ≡ None
    → number_below (2 ^ 32) ds ≡ None
none_narrower ds h =
    not_spelled (2 ^ 32) ds (λ (t : Spells (2 ^ 32) ds).
    let e : Some (digits_value 10 ds) ≡ None =
    sym (spelled (2 ^ 64) ds record {
      digits = t.digits;
      some = t.some;
      below = omega (arith, t.below);
    }) ∙ h in cc)

-- the digits that are written of a number
no_zero : (n : ℕ) → n < 2 ^ 32 → has_leading_zero (decimal n) ≡ false
no_zero n small = cases (cases_lt 0 n)
  where
    cases : (0 < n) ⊎ (n ≤ 0) → has_leading_zero (decimal n) ≡ false
    cases (inl positive) =
        let first = first_decimal n positive (omega arith) in
        and_right (ltb 1 (length (decimal n))) (eqb (get_or (decimal n) 0 0) 48)
        (ne_eqb _ _ (λ e. omega (arith, e, first)))
    cases (inr zero) =
        let one : decimal n ≡ (48 + n) ∷ [] = decimal_digit n (omega arith) in
        and_left (ltb 1 (length (decimal n))) (eqb (get_or (decimal n) 0 0) 48)
        (le-ltb 1 (length (decimal n)) (rw one (omega arith)))

pub written_again : (n : ℕ) → n < 2 ^ 32 → plain_below (2 ^ 32) (decimal n) ≡ Some n
written_again n small =
    let value : digits_value 10 (decimal n) ≡ n = digits_value-decimal own n (omega arith) in
    let s : Spells (2 ^ 32) (decimal n) = record {
      digits = digits_decimal own n (omega arith);
      some = decimal_nonempty n (omega arith);
      below = omega (arith, value);
    } in
    cond-false _ _ _ (no_zero n small) ∙ (spelled (2 ^ 32) (decimal n) s ∙ ap Some value)

alone : (ds : List ℕ) → 0 < length ds → has_leading_zero ds ≡ false → get_or ds 0 0 ≡ 48
    → length ds ≡ 1
alone ds some fails zero = long (cases_lt 1 (length ds))
  where
    long : (1 < length ds) ⊎ (length ds ≤ 1) → length ds ≡ 1
    long (inl more) = absurd (both_ways (has_leading_zero ds) fails
        (and_from (ltb 1 (length ds)) (eqb (get_or ds 0 0) 48) (lt-ltb 1 (length ds) more)
        (eq-eqb (get_or ds 0 0) 48 zero)))
    long (inr few) = omega arith

pub is_written : (n : ℕ) (ds : List ℕ) → plain_below (2 ^ 32) ds ≡ Some n
    → (ds ≡ decimal n) × (n < 2 ^ 32)
is_written n ds h = cases (cases_Bool (has_leading_zero ds))
  where
    cases : (has_leading_zero ds ≡ true) ⊎ (has_leading_zero ds ≡ false)
        → (ds ≡ decimal n) × (n < 2 ^ 32)
    cases (inl holds) =
        let e : plain_below (2 ^ 32) ds ≡ None = cond-true _ _ _ holds in
        let f : Some n ≡ None = sym h ∙ e in
        cc
    cases (inr fails) =
        let e : number_below (2 ^ 32) ds ≡ Some n = sym (cond-false _ _ _ fails) ∙ h in
        let s = spells_from (2 ^ 32) n ds e in
        let one : get_or ds 0 0 ≡ 48 → length ds ≡ 1 = alone ds s.0.some fails in
        let text : decimal (digits_value 10 ds) ≡ ds =
        decimal-digits_value own ds s.0.digits s.0.some one (omega (arith, s.0.below)) in
        (sym text ∙ ap decimal s.1, omega (arith, s.0.below, s.1))

-- no digit is such a byte
pub digits_have_no : (byte n : ℕ) → (IsInRange 48 57 byte → ⊥) → n < 2 ^ 64 → HasNo byte (decimal n)
digits_have_no byte n outside small =
    All-from_get_or (λ b. b ≢ byte) (decimal n) 0
    (λ i low. not_in_digits own (decimal n) byte (digits_decimal own n small) outside i low)
