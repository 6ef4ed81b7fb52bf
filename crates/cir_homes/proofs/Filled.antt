-- Cells that are filled in row by row.
use Rattle.std.proofs.Common.{◌≡◌, ◌≢◌, ◌∙◌, ℕ, zero, suc, ◌+◌, ◌-◌, ◌<◌, Bool, true, false, cond}
use Rattle.std.proofs.Common.{List, [], ◌∷◌, map, length, replicate, is_some, get_or, Option, Some}
use Rattle.std.proofs.Common.{None, refl, sym, ap, arith, slice_get, slice_set, nat_eq}
use Rattle.std.specs.Prelude.{nat_le, nat_lt, ◌&&◌}
use Rattle.std.proofs.lemmas.Bool.{eq-eqb, ne_eqb, leb-true, leb-false, ltb-true, ltb-false}
use Rattle.std.proofs.lemmas.Bool.{eqb-true, eqb-false}
use Rattle.cir_meaning.specs.Places.{numbers_from}
use Rattle.cir_meaning.specs.RunBodies.{or_else}
use Rattle.cir_make.specs.declared.cells.Homes.{Homes}
use Rattle.cir_make.specs.Housed.{home_in}
use Rattle.cir_homes.specs.Filled.{IsLeft, Puts, PutsOne}

pub or_none : (o : Option ℕ) → or_else o None ≡ o
or_none None = refl
or_none (Some a) = refl

or_assoc : (a b c : Option ℕ) → or_else (or_else a b) c ≡ or_else a (or_else b c)
or_assoc None b c = refl
or_assoc (Some x) b c = refl

pub get_less : (xs : List (Option ℕ)) (p : ℕ) (o : Option ℕ) → slice_get xs p ≡ Some o
    → p < length xs
get_less [] p o h = cc
get_less (x ∷ xs) zero o h = omega arith
get_less (x ∷ xs) (suc p) o h = let less : p < length xs = get_less xs p o h in omega arith

set_here : (xs : List (Option ℕ)) (p : ℕ) (o v : Option ℕ) → slice_get xs p ≡ Some o
    → slice_get (slice_set xs p v) p ≡ Some v
set_here [] p o v h = cc
set_here (x ∷ xs) zero o v h = refl
set_here (x ∷ xs) (suc p) o v h = set_here xs p o v h

set_there : (xs : List (Option ℕ)) (p q : ℕ) (v : Option ℕ) → p ≢ q
    → slice_get (slice_set xs p v) q ≡ slice_get xs q
set_there [] p q v ne = refl
set_there (x ∷ xs) zero zero v ne = absurd (ne refl)
set_there (x ∷ xs) zero (suc q) v ne = refl
set_there (x ∷ xs) (suc p) zero v ne = refl
set_there (x ∷ xs) (suc p) (suc q) v ne =
    set_there xs p q v (λ e. ne (ap (λ (n : ℕ). suc n) e))

set_length : (xs : List (Option ℕ)) (p : ℕ) (v : Option ℕ) → length (slice_set xs p v) ≡ length xs
set_length [] p v = refl
set_length (x ∷ xs) zero v = refl
set_length (x ∷ xs) (suc p) v = ap (λ (n : ℕ). suc n) (set_length xs p v)

-- what stands at a place
pub some_at : (xs : List (Option ℕ)) (p : ℕ) → p < length xs
    → is_some (get_or xs p None) ≡ true → (c : ℕ) × (slice_get xs p ≡ Some (Some c))
some_at [] p less h = absurd (omega arith)
some_at (Some c ∷ xs) zero less h = (c, refl)
some_at (None ∷ xs) zero less h = cc
some_at (x ∷ xs) (suc p) less h = some_at xs p (omega arith) h

pub none_at : (xs : List (Option ℕ)) (p : ℕ) → p < length xs
    → is_some (get_or xs p None) ≡ false → slice_get xs p ≡ Some None
none_at [] p less h = absurd (omega arith)
none_at (Some c ∷ xs) zero less h = cc
none_at (None ∷ xs) zero less h = refl
none_at (x ∷ xs) (suc p) less h = none_at xs p (omega arith) h

module _ (h : Homes) (k first : ℕ) where
  abbrev one : ℕ → Option ℕ → Option ℕ
  one p o = or_else o (cond (nat_eq (first + p) (h.number + k)) (Some (h.cell + k)) None)

  one_else : (p : ℕ) (o : Option ℕ) → first + p ≢ h.number + k → one p o ≡ o
  one_else p o ne =
      ap (λ b. or_else o (cond b (Some (h.cell + k)) None)) (ne_eqb (first + p) (h.number + k) ne)
      ∙ or_none o

  one_here : (p : ℕ) → first + p ≡ h.number + k → one p None ≡ Some (h.cell + k)
  one_here p e =
      ap (λ b. or_else None (cond b (Some (h.cell + k)) None))
      (eq-eqb (first + p) (h.number + k) e)

  one_some : (p c : ℕ) → one p (Some c) ≡ Some c
  one_some p c = refl

  pub puts_none : (found : List (Option ℕ))
      → ((p : ℕ) → p < length found → first + p ≡ h.number + k → ⊥)
      → PutsOne h k first found found
  puts_none found missing = record {
    many = refl;
    each = λ p o there.
        there ∙ ap (λ x. Some x) (sym (one_else p o (missing p (get_less found p o there))));
  }

  pub puts_some : (found : List (Option ℕ)) (place c : ℕ) → first + place ≡ h.number + k
      → slice_get found place ≡ Some (Some c) → PutsOne h k first found found
  puts_some found place c at is = record {
    many = refl;
    each = λ p o there. there ∙ ap (λ x. Some x) (sym (same p o there (nat_eq place p) refl));
  }
    where
      same : (p : ℕ) (o : Option ℕ) → slice_get found p ≡ Some o → (b : Bool)
          → nat_eq place p ≡ b → one p o ≡ o
      same p o there true e =
          let q : place ≡ p = eqb-true place p e in
          let its : o ≡ Some c =
          (let z : Some o ≡ Some (Some c) = sym there ∙ ap (λ i. slice_get found i) (sym q) ∙ is
          in cc) in
          ap (λ x. one p x) its ∙ sym its
      same p o there false e =
          one_else p o (λ here. absurd (eqb-false place p e (omega (arith, at, here))))

  pub puts_new : (found : List (Option ℕ)) (place : ℕ) (v : Option ℕ)
      → first + place ≡ h.number + k → slice_get found place ≡ Some None
      → v ≡ Some (h.cell + k) → PutsOne h k first found (slice_set found place v)
  puts_new found place v at is value = record {
    many = set_length found place v;
    each = λ p o there. same p o there (nat_eq place p) refl;
  }
    where
      same : (p : ℕ) (o : Option ℕ) → slice_get found p ≡ Some o → (b : Bool)
          → nat_eq place p ≡ b → slice_get (slice_set found place v) p ≡ Some (one p o)
      same p o there true e =
          let q : place ≡ p = eqb-true place p e in
          let its : o ≡ None =
          (let z : Some o ≡ Some None = sym there ∙ ap (λ i. slice_get found i) (sym q) ∙ is
          in cc) in
          ap (λ i. slice_get (slice_set found place v) i) (sym q)
          ∙ set_here found place None v is
          ∙ ap (λ x. Some x) (value ∙ sym (one_here p (ap (λ i. first + i) (sym q) ∙ at)))
          ∙ ap (λ x. Some (one p x)) (sym its)
      same p o there false e =
          set_there found place p v (λ q. absurd (eqb-false place p e q))
          ∙ there
          ∙ ap (λ x. Some x) (sym (one_else p o (λ here.
          absurd (eqb-false place p e (omega (arith, at, here))))))

-- ---- a row
abbrev first_of : Homes → ℕ → Homes
first_of h k = record h { count = k }

row_more : (h : Homes) (k j : ℕ) → home_in (first_of h (k + 1) ∷ []) j
    ≡ or_else (home_in (first_of h k ∷ []) j)
    (cond (nat_eq j (h.number + k)) (Some (h.cell + k)) None)
row_more h k j =
    at (nat_le h.number j) (nat_lt j (h.number + k)) (nat_lt j (h.number + (k + 1)))
    (nat_eq j (h.number + k)) refl refl refl refl
  where
    at : (a b c d : Bool) → nat_le h.number j ≡ a → nat_lt j (h.number + k) ≡ b
        → nat_lt j (h.number + (k + 1)) ≡ c → nat_eq j (h.number + k) ≡ d
        → cond (a && c) (Some (h.cell + (j - h.number))) None
        ≡ or_else (cond (a && b) (Some (h.cell + (j - h.number))) None)
        (cond d (Some (h.cell + k)) None)
    at true true true d e f g i = refl
    at true true false d e f g i =
        absurd (omega (arith, ltb-true j (h.number + k) f, ltb-false j (h.number + (k + 1)) g))
    at true false true true e f g i =
        let n : j - h.number ≡ k = omega (arith, eqb-true j (h.number + k) i) in
        ap (λ (m : ℕ). Some (h.cell + m)) n
    at true false true false e f g i =
        absurd (eqb-false j (h.number + k) i
        (omega (arith, ltb-false j (h.number + k) f, ltb-true j (h.number + (k + 1)) g)))
    at true false false true e f g i =
        absurd (omega (arith, ltb-false j (h.number + (k + 1)) g, eqb-true j (h.number + k) i))
    at true false false false e f g i = refl
    at false b c true e f g i =
        absurd (omega (arith, leb-false h.number j e, eqb-true j (h.number + k) i))
    at false true true false e f g i = refl
    at false true false false e f g i = refl
    at false false true false e f g i = refl
    at false false false false e f g i = refl

pub row_begins : (h : Homes) (first : ℕ) (found : List (Option ℕ))
    → Puts (first_of h 0) first found found
row_begins h first found = record {
  many = refl;
  each = λ p o there.
      there ∙ ap (λ x. Some x) (sym (ap (λ x. or_else o x) (none (first + p)) ∙ or_none o));
}
  where
    none : (j : ℕ) → home_in (first_of h 0 ∷ []) j ≡ None
    none j = at (nat_le h.number j) (nat_lt j (h.number + 0)) refl refl
      where
        at : (a b : Bool) → nat_le h.number j ≡ a → nat_lt j (h.number + 0) ≡ b
            → cond (a && b) (Some (h.cell + (j - h.number))) None ≡ None
        at true true e f =
            absurd (omega (arith, leb-true h.number j e, ltb-true j (h.number + 0) f))
        at true false e f = refl
        at false b e f = refl

pub row_goes : (h : Homes) (k first : ℕ) (a b c : List (Option ℕ))
    → Puts (first_of h k) first a b → PutsOne h k first b c → Puts (first_of h (k + 1)) first a c
row_goes h k first a b c f g = record {
  many = g.many ∙ f.many;
  each = λ p o there.
      g.each p (or_else o (home_in (first_of h k ∷ []) (first + p))) (f.each p o there)
      ∙ ap (λ x. Some x)
      (or_assoc o (home_in (first_of h k ∷ []) (first + p))
      (cond (nat_eq (first + p) (h.number + k)) (Some (h.cell + k)) None)
      ∙ ap (λ x. or_else o x) (sym (row_more h k (first + p))));
}

-- ---- all rows
home_first : (h : Homes) (hs : List Homes) (j : ℕ)
    → home_in (h ∷ hs) j ≡ or_else (home_in (h ∷ []) j) (home_in hs j)
home_first h hs j = at (nat_le h.number j && nat_lt j (h.number + h.count))
  where
    at : (b : Bool) → cond b (Some (h.cell + (j - h.number))) (home_in hs j)
        ≡ or_else (cond b (Some (h.cell + (j - h.number))) None) (home_in hs j)
    at true = refl
    at false = refl

replicated : (n p : ℕ) (o : Option ℕ) → slice_get (replicate n None) p ≡ Some o → o ≡ None
replicated zero p o h = cc
replicated (suc n) zero o h = cc
replicated (suc n) (suc p) o h = replicated n p o h

pub rows_begin : (hs : List Homes) (first count : ℕ) (found : List (Option ℕ))
    → found ≡ replicate count None → length found ≡ count → IsLeft hs hs first count found
rows_begin hs first count found is many = record {
  many = many;
  each = λ p o there.
      ap (λ x. or_else x (home_in hs (first + p)))
      (replicated count p o (ap (λ xs. slice_get xs p) (sym is) ∙ there));
}

get_some : (xs : List (Option ℕ)) (p : ℕ) → p < length xs
    → (o : Option ℕ) × (slice_get xs p ≡ Some o)
get_some [] p h = absurd (omega arith)
get_some (x ∷ xs) zero h = (x, refl)
get_some (x ∷ xs) (suc p) h = get_some xs p (omega arith)

pub rows_go : (all left : List Homes) (h : Homes) (first count : ℕ) (a b : List (Option ℕ))
    → IsLeft all (h ∷ left) first count a → Puts h first a b → IsLeft all left first count b
rows_go all left h first count a b f g = record {
  many = g.many ∙ f.many;
  each = λ p o there.
      let less : p < length b = get_less b p o there in
      let many : length b ≡ length a = g.many in
      let old = get_some a p (omega arith) in
      let new : Some o ≡ Some (or_else old.0 (home_in (h ∷ []) (first + p))) =
      sym there ∙ g.each p old.0 old.1 in
      let is : o ≡ or_else old.0 (home_in (h ∷ []) (first + p)) = cc in
      ap (λ x. or_else x (home_in left (first + p))) is
      ∙ or_assoc old.0 (home_in (h ∷ []) (first + p)) (home_in left (first + p))
      ∙ ap (λ x. or_else old.0 x) (sym (home_first h left (first + p)))
      ∙ f.each p old.0 old.1;
}

filled : (f : ℕ → Option ℕ) (first : ℕ) (xs : List (Option ℕ))
    → ((p : ℕ) (o : Option ℕ) → slice_get xs p ≡ Some o → o ≡ f (first + p))
    → xs ≡ map f (numbers_from first (length xs))
filled f first [] h = refl
filled f first (x ∷ xs) h =
    let now : first + 0 ≡ first = omega arith in
    ap (λ y. y ∷ xs) (h 0 x refl ∙ ap f now)
    ∙ ap (λ ys. f first ∷ ys) (filled f (first + 1) xs (λ p o there.
    let next : first + suc p ≡ first + 1 + p = omega arith in h (suc p) o there ∙ ap f next))

pub rows_end : (hs : List Homes) (first count : ℕ) (found : List (Option ℕ))
    → IsLeft hs [] first count found → found ≡ map (home_in hs) (numbers_from first count)
rows_end hs first count found h =
    filled (home_in hs) first found (λ p o there. sym (or_none o) ∙ h.each p o there)
    ∙ ap (λ n. map (home_in hs) (numbers_from first n)) h.many
