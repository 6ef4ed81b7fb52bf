-- Identifiers are text of one line, without brackets.
use Rattle.std.proofs.Common.{◌≡◌, ◌≢◌, ℕ, ◌≤◌, ◌<◌, Bool, true, false}
use Rattle.std.proofs.Common.{cond, List, [], ◌∷◌, ◌&&◌}
use Rattle.std.proofs.Common.{◌⊎◌, inl, inr, refl, arith, leb, eqb}
use Rattle.std.specs.Prelude.{◌||◌}
use Rattle.std.specs.List.{AllByRecursion, list_all}
use Rattle.std.proofs.lemmas.Bool.{and_parts, leb-true, eqb-true}
use Rattle.cir_lexer.specs.Bytes.{is_letter, is_mark, is_digit, is_name_byte}
use Rattle.cir_lexer.specs.Spelling.{is_identifier}
use Rattle.cir_values.specs.Names.{IsPlain}
use Rattle.cir_row_names.specs.Rows.{IsLineByte, IsLineText}

either_of : (a b : Bool) → (a || b) ≡ true → (a ≡ true) ⊎ (b ≡ true)
either_of true b h = inl h
either_of false b h = inr h

-- a byte that isn't a line feed or a bracket
abbrev IsFine : ℕ → Type 0
IsFine c = IsLineByte c × (c ≢ 91)

within : (low high c : ℕ) → (leb low c && leb c high) ≡ true → (low ≤ c) × (c ≤ high)
within low high c h =
    let p = and_parts (leb low c) (leb c high) h in
    (leb-true low c p.0, leb-true c high p.1)

letter : (c : ℕ) → is_letter c ≡ true → IsFine c
unfolding is_letter
letter c h = cases (either_of (leb 97 c && leb c 122) (leb 65 c && leb c 90) h)
  where
    cases : ((leb 97 c && leb c 122) ≡ true) ⊎ ((leb 65 c && leb c 90) ≡ true) → IsFine c
    cases (inl small) =
        let p = within 97 122 c small in
        ((omega (arith, p.1), λ e. omega (arith, e, p.0)), λ e. omega (arith, e, p.0))
    cases (inr large) =
        let p = within 65 90 c large in
        ((omega (arith, p.1), λ e. omega (arith, e, p.0)), λ e. omega (arith, e, p.1))

mark : (c : ℕ) → is_mark c ≡ true → IsFine c
unfolding is_mark
mark c h = cases (either_of (eqb c 36) (eqb c 95) h)
  where
    cases : (eqb c 36 ≡ true) ⊎ (eqb c 95 ≡ true) → IsFine c
    cases (inl dollar) =
        let p = eqb-true c 36 dollar in
        ((omega (arith, p), λ e. omega (arith, e, p)), λ e. omega (arith, e, p))
    cases (inr line) =
        let p = eqb-true c 95 line in
        ((omega (arith, p), λ e. omega (arith, e, p)), λ e. omega (arith, e, p))

digit : (c : ℕ) → is_digit c ≡ true → IsFine c
unfolding is_digit
digit c h =
    let p = within 48 57 c h in
    ((omega (arith, p.1), λ e. omega (arith, e, p.0)), λ e. omega (arith, e, p.1))

name_byte : (c : ℕ) → is_name_byte c ≡ true → IsFine c
name_byte c h = first (either_of (is_letter c || is_mark c) (is_digit c) h)
  where
    second : (is_letter c ≡ true) ⊎ (is_mark c ≡ true) → IsFine c
    second (inl l) = letter c l
    second (inr m) = mark c m

    first : ((is_letter c || is_mark c) ≡ true) ⊎ (is_digit c ≡ true) → IsFine c
    first (inl l) = second (either_of (is_letter c) (is_mark c) l)
    first (inr d) = digit c d

rest : (cs : List ℕ) → list_all is_name_byte cs ≡ true → AllByRecursion IsFine cs
rest [] h = tt
rest (c ∷ cs) h =
    let p = and_parts (is_name_byte c) (list_all is_name_byte cs) h in
    (name_byte c p.0, rest cs p.1)

all_fine : (name : List ℕ) → is_identifier name ≡ true → AllByRecursion IsFine name
all_fine [] h = tt
all_fine (c ∷ cs) h = one (is_mark c) (mark c) (λ g. all_fine cs g) h
  where
    one : (t : Bool) → (t ≡ true → IsFine c)
        → (is_identifier cs ≡ true → AllByRecursion IsFine cs)
        → cond t (is_identifier cs) (is_letter c && list_all is_name_byte cs) ≡ true
        → AllByRecursion IsFine (c ∷ cs)
    one true fine others g = (fine refl, others g)
    one false fine others g =
        let p = and_parts (is_letter c) (list_all is_name_byte cs) g in
        (letter c p.0, rest cs p.1)

lines_of : (xs : List ℕ) → AllByRecursion IsFine xs → IsLineText xs
lines_of [] h = tt
lines_of (x ∷ xs) h = (h.0.0, lines_of xs h.1)

plain_of : (xs : List ℕ) → AllByRecursion IsFine xs → IsPlain xs
plain_of [] h = tt
plain_of (x ∷ xs) h = (h.0.1, plain_of xs h.1)

pub identifier_line : (name : List ℕ) → is_identifier name ≡ true → IsLineText name
identifier_line name h = lines_of name (all_fine name h)

pub identifier_plain : (name : List ℕ) → is_identifier name ≡ true → IsPlain name
identifier_plain name h = plain_of name (all_fine name h)
