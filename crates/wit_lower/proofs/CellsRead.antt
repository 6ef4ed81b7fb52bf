-- Each cell of the sources is read, and has one place among what is read.
use Rattle.std.proofs.Common.{◌≡◌, ℕ, suc, ◌<◌, Bool, true, false, cond, List, [], ◌∷◌, ◌++◌}
use Rattle.std.proofs.Common.{length, map, refl, sym, ap, ◌∙◌, arith}
use Rattle.std.specs.Prelude.{slice_index, ◌==◌, ◌||◌}
use Rattle.std.specs.List.{list_any}
use Rattle.std.proofs.lemmas.Bool.{eqb-true}
use Rattle.wit_lower.specs.Sources.{Input, Constant, Cell, Source, with_cell, cells_from, place_of}
use Rattle.wit_lower.proofs.Listed.{In, in_front, in_back, in_one}

abbrev pub IsRead : (reads : List ℕ) → Input → Type 0
IsRead reads (Constant v) = Unit {0}
IsRead reads (Cell c) = In c reads

abbrev pub AreRead : (reads : List ℕ) → List Source → Type 0
AreRead reads [] = Unit {0}
AreRead reads (x ∷ xs) = IsRead reads x.input × AreRead reads xs

stays_with : (i : Input) (cells : List ℕ) (c : ℕ) → In c cells → In c (with_cell i cells)
stays_with (Constant v) cells c h = h
stays_with (Cell d) cells c h = at (list_any (λ e. e == d) cells)
  where
    at : (b : Bool) → In c (cond b cells (cells ++ d ∷ []))
    at true = h
    at false = in_front c cells (d ∷ []) h

stays : (xs : List Source) (cells : List ℕ) (c : ℕ) → In c cells → In c (cells_from cells xs)
stays [] cells c h = h
stays (x ∷ xs) cells c h = stays xs (with_cell x.input cells) c (stays_with x.input cells c h)

comes : (c : ℕ) (cells : List ℕ) → In c (with_cell (Cell c) cells)
comes c cells = at (list_any (λ d. d == c) cells) refl
  where
    at : (b : Bool) → list_any (λ d. d == c) cells ≡ b
        → In c (cond b cells (cells ++ c ∷ []))
    at true e = e
    at false e = in_back c cells (c ∷ []) (in_one c)

pub all_read : (xs : List Source) (cells : List ℕ) → AreRead (cells_from cells xs) xs
all_read [] cells = tt
all_read (x ∷ xs) cells =
    (one x.input, all_read xs (with_cell x.input cells))
  where
    one : (i : Input) → IsRead (cells_from (with_cell i cells) xs) i
    one (Constant v) = tt
    one (Cell c) = stays xs (with_cell (Cell c) cells) c (comes c cells)

pub place_less : (c : ℕ) (reads : List ℕ) → In c reads → place_of c reads < length reads
place_less c [] h = cc
place_less c (d ∷ ds) h = at (λ r. place_less c ds r) (d == c) refl h
  where
    at : (In c ds → place_of c ds < length ds) → (b : Bool) → (d == c) ≡ b
        → In c (d ∷ ds) → cond b 0 (suc (place_of c ds)) < suc (length ds)
    at rest true e h = omega arith
    at rest false e h =
        let less : place_of c ds < length ds =
        rest (sym (ap (λ b. b || list_any (λ m. m == c) ds) e) ∙ h) in
        omega (arith, less)

-- what is read there is the cell's number
pub read_is : (cells : ℕ → ℕ) (c : ℕ) (reads : List ℕ) → In c reads
    → slice_index (map cells reads) (place_of c reads) ≡ cells c
read_is cells c [] h = cc
read_is cells c (d ∷ ds) h = at (λ r. read_is cells c ds r) (d == c) refl h
  where
    at : (In c ds → slice_index (map cells ds) (place_of c ds) ≡ cells c) → (b : Bool)
        → (d == c) ≡ b → In c (d ∷ ds)
        → slice_index (cells d ∷ map cells ds) (cond b 0 (suc (place_of c ds))) ≡ cells c
    at rest true e h = ap cells (eqb-true d c e)
    at rest false e h = rest (sym (ap (λ b. b || list_any (λ m. m == c) ds) e) ∙ h)
