-- Where the elements of variables have their numbers from, while steps are made.
use Rattle.std.proofs.Common.{◌≡◌, ◌⊎◌, inl, inr, ℕ, zero, suc, ◌+◌, ◌<◌, ◌≤◌, List, [], ◌∷◌}
use Rattle.std.proofs.Common.{map, sym, subst, arith, slice_set, eq-or-lt_of_le}
use Rattle.std.specs.Prelude.{slice_index_or}
use Rattle.std.specs.List.{AllByRecursion}
use Rattle.cir_meaning.specs.Places.{numbers_from}
use Rattle.cir_meaning.specs.Arrays.{put_items}
use Rattle.cir_meaning.specs.Values.{Value, Known, Linear, Quadratic, Opaque}
use Rattle.cir_meaning.specs.Frame.{State, variable_at}
use Rattle.cir_steps.specs.Step.{Source, Constant, Cell, listed, source_of, sources_of, put_sources}
use Rattle.cir_steps.specs.Step.{Elements}
use Rattle.cir_steps.specs.Emission.{Emission, known_in}
use Rattle.cir_steps.specs.Making.{settled_sources, new_variables, count_of}
use Rattle.cir_steps.proofs.ReadCells.{In, in_first, in_rest}

-- cells that are numbered in order
pub in_from : (c a n : ℕ) → a ≤ c → c < a + n → In c (numbers_from a n)
in_from c a zero h g = absurd (omega arith)
in_from c a (suc n) h g =
    at (eq-or-lt_of_le h) (λ less. in_from c (a + 1) n (omega arith) (omega arith))
  where
    at : (a ≡ c) ⊎ (a < c) → (a < c → In c (numbers_from (a + 1) n))
        → In c (a ∷ numbers_from (a + 1) n)
    at (inl e) go = subst (λ (b : ℕ). In c (b ∷ numbers_from (a + 1) n)) (sym e)
        (in_first c (numbers_from (a + 1) n))
    at (inr less) go = in_rest c a (numbers_from (a + 1) n) (go less)

numbers_within : (a n low high : ℕ) → low ≤ a → a + n ≤ high
    → AllByRecursion (λ c. (low ≤ c) × (c < high)) (numbers_from a n)
numbers_within a zero low high h g = tt
numbers_within a (suc n) low high h g =
    ((h, omega arith), numbers_within (a + 1) n low high (omega arith) (omega arith))

-- the cells of some sources
module _ (P : ℕ → Type 0) where
  abbrev pub AllCells : List Source → Type 0
  AllCells xs = (i c : ℕ) → slice_index_or xs i (Constant 0) ≡ Cell c → P c

  abbrev pub AllListed : List (List Source) → Type 0
  AllListed xs = (n : ℕ) → AllCells (listed xs n)

  no_cells : AllCells []
  no_cells i c e = cc

  one_put : (xs : List Source) (k d : ℕ) → P d → AllCells xs → AllCells (slice_set xs k (Cell d))
  one_put [] k d p h i c e = h i c e
  one_put (x ∷ xs) zero d p h zero c e = let same : d ≡ c = cc in subst P same p
  one_put (x ∷ xs) zero d p h (suc i) c e = h (suc i) c e
  one_put (x ∷ xs) (suc k) d p h zero c e = h zero c e
  one_put (x ∷ xs) (suc k) d p h (suc i) c e = one_put xs k d p (λ j b f. h (suc j) b f) i c e

  pub items_put : (places cs : List ℕ) (xs : List Source) → AllByRecursion P cs → AllCells xs
      → AllCells (put_items places (map (λ c. Cell c) cs) xs)
  items_put [] cs xs p h = h
  items_put (k ∷ ks) [] xs p h = h
  items_put (k ∷ ks) (c ∷ cs) xs p h =
      items_put ks cs (slice_set xs k (Cell c)) p.1 (one_put xs k c p.0 h)

  all_cells : (cs : List ℕ) → AllByRecursion P cs → AllCells (map (λ c. Cell c) cs)
  all_cells [] p i c e = cc
  all_cells (d ∷ cs) p zero c e = let same : d ≡ c = cc in subst P same p.0
  all_cells (d ∷ cs) p (suc i) c e = all_cells cs p.1 i c e

  source_cell : (v : Value) (x : Source) (c : ℕ) → source_of v x ≡ Cell c → x ≡ Cell c
  source_cell (Known k) x c e = cc
  source_cell (Linear f) x c e = e
  source_cell (Quadratic a b d) x c e = e
  source_cell Opaque x c e = e

  none_of : (vs : List Value) → AllCells (sources_of vs [])
  none_of [] i c e = cc
  none_of (v ∷ vs) zero c e =
      let no : ◌≡◌ {A = Source} (Constant 0) (Cell c) = source_cell v (Constant 0) c e in cc
  none_of (v ∷ vs) (suc i) c e = none_of vs i c e

  pub settled_cells : (vs : List Value) (xs : List Source) → AllCells xs
      → AllCells (sources_of vs xs)
  settled_cells [] xs h i c e = cc
  settled_cells (v ∷ vs) [] h i c e = none_of (v ∷ vs) i c e
  settled_cells (v ∷ vs) (x ∷ xs) h zero c e = h zero c (source_cell v x c e)
  settled_cells (v ∷ vs) (x ∷ xs) h (suc i) c e =
      settled_cells vs xs (λ j b f. h (suc j) b f) i c e

  pub sources_put : (n : ℕ) (xs : List Source) (ys : List (List Source)) → AllCells xs
      → AllListed ys → AllListed (put_sources n xs ys)
  sources_put zero xs [] p h zero = p
  sources_put zero xs [] p h (suc m) = no_cells
  sources_put zero xs (y ∷ ys) p h zero = p
  sources_put zero xs (y ∷ ys) p h (suc m) = h (suc m)
  sources_put (suc n) xs [] p h zero = no_cells
  sources_put (suc n) xs [] p h (suc m) = sources_put n xs [] p (λ k. no_cells) m
  sources_put (suc n) xs (y ∷ ys) p h zero = h zero
  sources_put (suc n) xs (y ∷ ys) p h (suc m) = sources_put n xs ys p (λ k. h (suc k)) m

  pub settled_told : (s : State) (x : Emission) (n : ℕ) → AllListed x.sources
      → AllCells (settled_sources s x n)
  settled_told s x n h =
      settled_cells (variable_at s.frame n).items _
      (settled_cells (variable_at (known_in x).frame n).items (listed x.sources n) (h n))

  pub variables_put : (wanted : List Elements) (from : ℕ) (xs : List (List Source))
      → ((c : ℕ) → from ≤ c → c < from + count_of wanted → P c) → AllListed xs
      → AllListed (new_variables wanted from xs)
  variables_put [] from xs p h = h
  variables_put (e ∷ es) from xs p h =
      variables_put es (from + e.count) _ (λ c l g. p c (omega arith) (omega arith))
      (sources_put e.variable _ xs
      (all_cells (numbers_from from e.count)
      (through (numbers_from from e.count) (numbers_within from e.count from (from + e.count)
      (omega arith) (omega arith)))) h)
    where
      through : (cs : List ℕ) → AllByRecursion (λ c. (from ≤ c) × (c < from + e.count)) cs
          → AllByRecursion P cs
      through [] g = tt
      through (c ∷ cs) g = (
        p c g.0.0 (let less : c < from + e.count = g.0.1 in omega arith),
        through cs g.1,
      )

pub numbers_in : (a n : ℕ) → AllByRecursion (λ c. In c (numbers_from a n)) (numbers_from a n)
numbers_in a n =
    through (numbers_from a n) (numbers_within a n a (a + n) (omega arith) (omega arith))
  where
    through : (cs : List ℕ) → AllByRecursion (λ c. (a ≤ c) × (c < a + n)) cs
        → AllByRecursion (λ c. In c (numbers_from a n)) cs
    through [] g = tt
    through (c ∷ cs) g = (in_from c a n g.0.0 g.0.1, through cs g.1)
