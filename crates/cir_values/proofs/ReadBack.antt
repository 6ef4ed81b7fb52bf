-- A base is read back: its declared name, and its dimensions.
use Rattle.std.proofs.Common.{◌≡◌, ◌≢◌, ℕ, ◌+◌, ◌*◌, ◌-◌, ◌/◌, ◌%◌, ◌^◌, ◌<◌, ◌≤◌, Bool, true}
use Rattle.std.proofs.Common.{false, cond, List, [], ◌∷◌, ◌++◌, length, take, drop, refl, sym, ap}
use Rattle.std.proofs.Common.{◌∙◌, arith, rules, tests, append_assoc}
use Rattle.std.specs.Prelude.{◌==◌}
use Rattle.std.specs.Fmt.{decimal}
use Rattle.std.proofs.lemmas.Fmt.{decimal_by_steps}
use Rattle.std.proofs.lemmas.List.{append-nil, take_at, drop_at}
use Rattle.cir_values.specs.Names.{brackets, IsBase, IsPlain, AreWords}
use Rattle.cir_values.specs.Reading.{bracket_at, read_from}

cond_at : {A : Type 0} (b : Bool) (x y : A) → b ≡ false → cond b x y ≡ y
cond_at true x y h = cc
cond_at false x y h = refl

eqb_not : (a b : ℕ) → a ≢ b → (a == b) ≡ false
eqb_not a b h = search (rules, tests)

brackets_first : (ns : List ℕ) → bracket_at (brackets ns) ≡ 0
brackets_first [] = refl
brackets_first (n ∷ ns) = refl

pub declared_first : (declared ns : List ℕ) → IsPlain declared
    → bracket_at (declared ++ brackets ns) ≡ length declared
declared_first [] ns h = brackets_first ns
declared_first (b ∷ bs) ns h =
    cond_at (b == 91) 0 (bracket_at (bs ++ brackets ns) + 1) (eqb_not b 91 h.0)
    ∙ ap (λ n. n + 1) (declared_first bs ns h.1) ∙ omega arith

-- one digit more
digit_read : (digit number : ℕ) (rest found : List ℕ) → digit < 10
    → read_from ((48 + digit) ∷ rest) number found
    ≡ read_from rest ((number * 10 % 2 ^ 64 + digit) % 2 ^ 64) found
digit_read digit number rest found h =
    let no : (48 + digit) ≢ 91 = λ e. omega (arith, e) in
    let nor : (48 + digit) ≢ 93 = λ e. omega (arith, e) in
    let value : 48 + digit - 48 ≡ digit = omega arith in
    cond_at (48 + digit == 91) _ _ (eqb_not (48 + digit) 91 no)
    ∙ cond_at (48 + digit == 93) _ _ (eqb_not (48 + digit) 93 nor)
    ∙ ap (λ v. read_from rest ((number * 10 % 2 ^ 64 + v) % 2 ^ 64) found) value

-- the digits of a number are read to that number
abbrev ReadsTo : ℕ → List ℕ → Type 0
ReadsTo n digits =
    n < 2 ^ 32 → (rest found : List ℕ) → read_from (digits ++ rest) 0 found ≡ read_from rest n found

one_digit : (n : ℕ) → n < 10 → ReadsTo n ((48 + n) ∷ [])
one_digit n h small rest found =
    let value : (0 * 10 % 2 ^ 64 + n) % 2 ^ 64 ≡ n = omega arith in
    digit_read n 0 rest found h ∙ ap (λ v. read_from rest v found) value

more_digits : (n : ℕ) (ds : List ℕ) → 10 ≤ n → ReadsTo (n / 10) ds
    → ReadsTo n (ds ++ ((48 + n % 10) ∷ []))
more_digits n ds h before small rest found =
    let value : (n / 10 * 10 % 2 ^ 64 + n % 10) % 2 ^ 64 ≡ n = omega arith in
    ap (λ bs. read_from bs 0 found) (append_assoc ds ((48 + n % 10) ∷ []) rest)
    ∙ before (omega arith) ((48 + n % 10) ∷ rest) found
    ∙ digit_read (n % 10) (n / 10) rest found (omega arith)
    ∙ ap (λ v. read_from rest v found) value

digits_read : (n : ℕ) → n < 2 ^ 32 → (rest found : List ℕ) → read_from (decimal n ++ rest) 0 found
    ≡ read_from rest n found
digits_read n small = decimal_by_steps ReadsTo one_digit more_digits n (omega (arith, small)) small

brackets_read : (ns found : List ℕ) (number : ℕ) → AreWords ns
    → read_from (brackets ns) number found ≡ found ++ ns
brackets_read [] found number w = sym (append-nil found)
brackets_read (n ∷ ns) found number w =
    digits_read n w.0 (93 ∷ brackets ns) found ∙ brackets_read ns (found ++ n ∷ []) n w.1
    ∙ append_assoc found (n ∷ []) ns

-- the parts of a base, as they are read
pub record Parts (declared dims base : List ℕ) : Type 0 where
  pub name : take (bracket_at base) base ≡ declared
  pub numbers : read_from (drop (bracket_at base) base) 0 [] ≡ dims

pub parts_of : (declared dims base : List ℕ) → IsBase declared dims base → Parts declared dims base
parts_of declared dims base b =
    let end : bracket_at base ≡ length declared =
    ap bracket_at b.spelled ∙ declared_first declared dims b.plain in
    record {
      name = ap (λ n. take n base) end ∙ ap (take (length declared)) b.spelled
          ∙ take_at declared (brackets dims) (length declared) refl;
      numbers =
          ap (λ n. read_from (drop n base) 0 []) end
          ∙ ap (λ bs. read_from (drop (length declared) bs) 0 []) b.spelled
          ∙ ap (λ bs. read_from bs 0 []) (drop_at declared (brackets dims) (length declared) refl)
          ∙ brackets_read dims [] 0 b.small;
    }
