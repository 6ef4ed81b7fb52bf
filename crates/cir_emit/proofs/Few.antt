-- Sources that stand for what a task may read, and for nothing else, have the cells that a step
-- reads, where each cell that such an element has is read.
use Rattle.std.proofs.Common.{◌≡◌, ◌⊎◌, inl, inr, ℕ, Bool, true, false, cond, List, [], ◌∷◌, ◌++◌}
use Rattle.std.proofs.Common.{Some, refl, ap, subst, ◌∙◌}
use Rattle.std.specs.Prelude.{◌==◌, ◌||◌}
use Rattle.std.specs.List.{AllByRecursion, list_any}
use Rattle.std.proofs.lemmas.Bool.{eqb-true}
use Rattle.wit_lower.specs.Sources.{Input, Constant, Cell, Source, Sources, with_cell, cells_from}
use Rattle.wit_lower.specs.Sources.{cells_read}
use Rattle.wit_lower.proofs.Listed.{In}
use Rattle.cir_emit.specs.Reads.{Reading}
use Rattle.cir_emit.specs.Sourced.{IsAmong, StandsFor}
use Rattle.cir_emit.proofs.Cells.{IsCellRead}
use Rattle.cir_emit.proofs.Values.{reading}

among_all : (P : Reading → Type 0) (r : Reading) (reads : List Reading) → AllByRecursion P reads
    → IsAmong r reads → P r
among_all P r [] h i = absurd i
among_all P r (q ∷ reads) h (inl e) = subst P e h.0
among_all P r (q ∷ reads) h (inr i) = among_all P r reads h.1 i

in_last : (c d : ℕ) (cells : List ℕ) → In c (cells ++ d ∷ []) → In c cells ⊎ (d ≡ c)
in_last c d [] h = at (d == c) refl h
  where
    at : (b : Bool) → (d == c) ≡ b → (b || false) ≡ true → In c [] ⊎ (d ≡ c)
    at true e i = inr (eqb-true d c e)
    at false e i = cc
in_last c d (n ∷ cells) h = at (n == c) h (in_last c d cells)
  where
    at : (b : Bool) → (b || list_any (λ m. m == c) (cells ++ d ∷ [])) ≡ true
        → (In c (cells ++ d ∷ []) → In c cells ⊎ (d ≡ c))
        → ((b || list_any (λ m. m == c) cells) ≡ true) ⊎ (d ≡ c)
    at true i go = inl refl
    at false i go = go i

-- what is right of each cell that a source has is right of all cells that are read
cells_told : (P : ℕ → Type 0) (xs : List Source) (cells : List ℕ)
    → ((c : ℕ) → In c cells → P c)
    → AllByRecursion (λ (x : Source). (c : ℕ) → x.input ≡ Cell c → P c) xs
    → (c : ℕ) → In c (cells_from cells xs) → P c
cells_told P [] cells f h c i = f c i
cells_told P (x ∷ xs) cells f h c i =
    cells_told P xs (with_cell x.input cells) (by x.input h.0) h.1 c i
  where
    by : (input : Input) → ((d : ℕ) → input ≡ Cell d → P d) → (d : ℕ)
        → In d (with_cell input cells) → P d
    by (Constant v) told d j = f d j
    by (Cell n) told d j = at (list_any (λ m. m == n) cells) j
      where
        either : In d cells ⊎ (n ≡ d) → P d
        either (inl i) = f d i
        either (inr e) = told d (ap Cell e)

        at : (b : Bool) → In d (cond b cells (cells ++ n ∷ [])) → P d
        at true i = f d i
        at false i = either (in_last d n cells i)

pub cells_of_few : (sources : Sources) (reads : List Reading) (cells : List ℕ)
    → AllByRecursion (StandsFor sources.list reads) sources.list
    → AllByRecursion (IsCellRead sources cells) reads → (c : ℕ) → In c (cells_read sources.list)
    → In c cells
cells_of_few sources reads cells few all c i =
    cells_told (λ d. In d cells) sources.list [] (λ d j. cc) (each sources.list few) c i
  where
    each : (xs : List Source) → AllByRecursion (StandsFor sources.list reads) xs
        → AllByRecursion (λ (x : Source). (d : ℕ) → x.input ≡ Cell d → In d cells) xs
    each [] h = tt
    each (x ∷ xs) h = (
      (λ d e. among_all (IsCellRead sources cells) (reading x.name x.element) reads all h.0.among d
          (h.0.last ∙ ap Some e)),
      each xs h.1,
    )
