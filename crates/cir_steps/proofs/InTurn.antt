-- Signals whose first numbers follow each other: those of the inputs of a group, in the order of
-- their declarations.
use Rattle.std.proofs.Common.{◌≡◌, ℕ, zero, suc, ◌+◌, ◌≤◌, ◌<◌, Bool, true, false, cond, List, []}
use Rattle.std.proofs.Common.{◌∷◌, ◌++◌, map, length, Some, None, refl, sym, ap, subst, ◌∙◌}
use Rattle.std.proofs.Common.{slice_get, arith}
use Rattle.std.proofs.lemmas.List.{length-append}
use Rattle.std.specs.Prelude.{⊤, ◌&&◌}
use Rattle.cir_meaning.specs.Places.{numbers_from}
use Rattle.cir_meaning.specs.Frame.{SignalEntry, Signals, is_input, put_at, entry_at}
use Rattle.cir_meaning.specs.Writing.{marked}
use Rattle.cir_meaning.specs.Run.{Wires}
use Rattle.cir_meaning.proofs.PartWrites.{set_count}
use Rattle.cir_meaning.proofs.Creating.{get_more}
use Rattle.cir_meaning.proofs.Reaching.{map_count}
use Rattle.cir_steps.specs.Emission.{wire_cell}
use Rattle.cir_steps.specs.Circuit.{entry_cells, input_cells}

-- lists behind each other
pub get_behind : (xs ys : List ℕ) (i : ℕ) → slice_get (xs ++ ys) (length xs + i) ≡ slice_get ys i
get_behind [] ys i = ap (slice_get ys) (let number : 0 + i ≡ i = omega arith in number)
get_behind (x ∷ xs) ys i =
    ap (slice_get (x ∷ (xs ++ ys)))
    (let number : suc (length xs) + i ≡ suc (length xs + i) = omega arith in number)
    ∙ get_behind xs ys i

pub range_count : (first count : ℕ) → length (numbers_from first count) ≡ count
range_count first zero = refl
range_count first (suc count) = ap (λ (n : ℕ). suc n) (range_count (first + 1) count)

range_at : (f : ℕ → ℕ) (a n i : ℕ) → i < n
    → slice_get (map f (numbers_from a n)) i ≡ Some (f (a + i))
range_at f a zero i h = absurd (omega arith)
range_at f a (suc n) zero h =
    ap (λ (k : ℕ). Some (f k)) (let number : a ≡ a + 0 = omega arith in number)
range_at f a (suc n) (suc i) h =
    range_at f (a + 1) n i (omega arith)
    ∙ ap (λ (k : ℕ). Some (f k)) (let number : a + 1 + i ≡ a + suc i = omega arith in number)

none_at : (n : ℕ) → entry_at {A = SignalEntry} [] n ≡ None
none_at n = refl

module _ (chosen : List ℕ → Bool) where
  abbrev pub is_chosen : SignalEntry → Bool
  is_chosen e = is_input e.direction && chosen e.name

  abbrev pub taken : SignalEntry → ℕ
  taken e = cond (is_chosen e) (length e.written) 0

  -- the first of them has number n, and each of the others the number that follows
  abbrev pub AreInTurn : ℕ → Signals → Type 0
  AreInTurn n [] = ⊤
  AreInTurn n (None ∷ xs) = AreInTurn n xs
  AreInTurn n (Some e ∷ xs) = (is_chosen e ≡ true → e.first ≡ n) × AreInTurn (n + taken e) xs

  abbrev pub behind : ℕ → Signals → ℕ
  behind n [] = n
  behind n (None ∷ xs) = behind n xs
  behind n (Some e ∷ xs) = behind (n + taken e) xs

  -- no signals
  pub none_behind : (n : ℕ) (xs : Signals) → ((m : ℕ) → entry_at xs m ≡ None)
      → AreInTurn n xs × (behind n xs ≡ n)
  none_behind n [] h = (tt, refl)
  none_behind n (None ∷ xs) h = none_behind n xs (λ m. h (suc m))
  none_behind n (Some e ∷ xs) h = let no : Some e ≡ None = h 0 in cc

  -- one more
  pub put_in_turn : (i n : ℕ) (e : SignalEntry) (xs : Signals)
      → ((m : ℕ) → i ≤ m → entry_at xs m ≡ None) → AreInTurn n xs
      → (is_chosen e ≡ true → e.first ≡ behind n xs)
      → AreInTurn n (put_at i e xs) × (behind n (put_at i e xs) ≡ behind n xs + taken e)
  put_in_turn zero n e [] h t first = ((first, tt), refl)
  put_in_turn zero n e (None ∷ xs) h t first =
      let none : AreInTurn n xs × (behind n xs ≡ n) =
      none_behind n xs (λ m. h (suc m) (omega arith)) in
      let rest : AreInTurn (n + taken e) xs × (behind (n + taken e) xs ≡ n + taken e) =
      none_behind (n + taken e) xs (λ m. h (suc m) (omega arith)) in (
        ((λ picked. first picked ∙ none.1), rest.0),
        rest.1 ∙ ap (λ (k : ℕ). k + taken e) (sym none.1),
      )
  put_in_turn zero n e (Some d ∷ xs) h t first =
      let no : Some d ≡ None = h 0 (omega arith) in cc
  put_in_turn (suc i) n e [] h t first =
      put_in_turn i n e [] (λ m above. none_at m) tt first
  put_in_turn (suc i) n e (None ∷ xs) h t first =
      put_in_turn i n e xs (λ m above. h (suc m) (omega arith)) t first
  put_in_turn (suc i) n e (Some d ∷ xs) h t first =
      let rest : AreInTurn (n + taken d) (put_at i e xs)
      × (behind (n + taken d) (put_at i e xs) ≡ behind (n + taken d) xs + taken e) =
      put_in_turn i (n + taken d) e xs (λ m above. h (suc m) (omega arith)) t.1 first in
      ((t.0, rest.0), rest.1)

  -- an element that is written
  marked_taken : (e : SignalEntry) (place : ℕ) → taken (marked e place) ≡ taken e
  marked_taken e place =
      ap (λ (k : ℕ). cond (is_chosen e) k 0) (set_count e.written place true)

  pub marked_in_turn : (i n place : ℕ) (e : SignalEntry) (xs : Signals) → entry_at xs i ≡ Some e
      → AreInTurn n xs
      → AreInTurn n (put_at i (marked e place) xs)
      × (behind n (put_at i (marked e place) xs) ≡ behind n xs)
  marked_in_turn i n place e [] there t =
      let no : None ≡ Some e = sym (none_at i) ∙ there in cc
  marked_in_turn zero n place e (None ∷ xs) there t = cc
  marked_in_turn zero n place e (Some d ∷ xs) there t =
      let same : d ≡ e = cc in
      let count : n + taken d ≡ n + taken (marked e place) =
      ap (λ (k : ℕ). n + k) (ap taken same ∙ sym (marked_taken e place)) in (
        (
          subst (λ (x : SignalEntry). is_chosen x ≡ true → x.first ≡ n) same t.0,
          subst (λ (k : ℕ). AreInTurn k xs) count t.1,
        ),
        ap (λ (k : ℕ). behind k xs) (sym count),
      )
  marked_in_turn (suc i) n place e (None ∷ xs) there t = marked_in_turn i n place e xs there t
  marked_in_turn (suc i) n place e (Some d ∷ xs) there t =
      let rest : AreInTurn (n + taken d) (put_at i (marked e place) xs)
      × (behind (n + taken d) (put_at i (marked e place) xs) ≡ behind (n + taken d) xs) =
      marked_in_turn i (n + taken d) place e xs there t.1 in
      ((t.0, rest.0), rest.1)

  -- their cells, in order
  module _ (wires : Wires) where
    abbrev pub cells : ℕ → Signals → List ℕ
    cells m xs = input_cells (λ e. chosen e.name) wires m xs

    abbrev block : ℕ → SignalEntry → List ℕ
    block m e = cond (is_chosen e) (entry_cells wires m e) []

    block_count : (m : ℕ) (e : SignalEntry) → length (block m e) ≡ taken e
    block_count m e = at (is_chosen e)
      where
        at : (b : Bool) → length (cond b (entry_cells wires m e) []) ≡ cond b (length e.written) 0
        at true =
            map_count (wire_cell wires m) (numbers_from 0 (length e.written))
            ∙ range_count 0 (length e.written)
        at false = refl

    pub cells_count : (m n : ℕ) (xs : Signals) → n + length (cells m xs) ≡ behind n xs
    cells_count m n [] = omega arith
    cells_count m n (None ∷ xs) = cells_count (suc m) n xs
    cells_count m n (Some e ∷ xs) =
        let all : length (block m e ++ cells (suc m) xs)
        ≡ length (block m e) + length (cells (suc m) xs) =
        length-append (block m e) (cells (suc m) xs) in
        let first : length (block m e) ≡ taken e = block_count m e in
        let rest : n + taken e + length (cells (suc m) xs) ≡ behind (n + taken e) xs =
        cells_count (suc m) (n + taken e) xs in
        omega arith

    pub cell_at : (m n i : ℕ) (e : SignalEntry) (k : ℕ) (xs : Signals) → AreInTurn n xs
        → entry_at xs i ≡ Some e → is_chosen e ≡ true → k < length e.written
        → (j : ℕ) × (e.first + k ≡ n + j)
        × (slice_get (cells m xs) j ≡ Some (wire_cell wires (m + i) k))
    cell_at m n i e k [] t there picked less =
        let no : None ≡ Some e = sym (none_at i) ∙ there in cc
    cell_at m n zero e k (None ∷ xs) t there picked less = cc
    cell_at m n zero e k (Some d ∷ xs) t there picked less =
        let same : d ≡ e = cc in
        let its : is_chosen d ≡ true = ap is_chosen same ∙ picked in
        let first : e.first ≡ n =
        ap (λ (x : SignalEntry). x.first) (sym same) ∙ t.0 its in
        let below : k < length d.written =
        subst (λ (x : SignalEntry). k < length x.written) (sym same) less in (
          k,
          ap (λ (a : ℕ). a + k) first,
          get_more (block m d) (cells (suc m) xs) k (wire_cell wires (m + zero) k)
              (ap (λ b. slice_get (cond b (entry_cells wires m d) []) k) its
              ∙ range_at (wire_cell wires m) 0 (length d.written) k below
              ∙ place),
        )
      where
        place : Some (wire_cell wires m (0 + k)) ≡ Some (wire_cell wires (m + zero) k)
        place =
            let number : 0 + k ≡ k = omega arith in
            let here : m ≡ m + zero = omega arith in
            ap (λ (a : ℕ). Some (wire_cell wires m a)) number
            ∙ ap (λ (b : ℕ). Some (wire_cell wires b k)) here
    cell_at m n (suc i) e k (None ∷ xs) t there picked less =
        moved m i (cell_at (suc m) n i e k xs t there picked less)
      where
        moved : (m i : ℕ) → (j : ℕ) × (e.first + k ≡ n + j)
            × (slice_get (cells (suc m) xs) j ≡ Some (wire_cell wires (suc m + i) k))
            → (j : ℕ) × (e.first + k ≡ n + j)
            × (slice_get (cells (suc m) xs) j ≡ Some (wire_cell wires (m + suc i) k))
        moved m i h =
            let number : suc m + i ≡ m + suc i = omega arith in
            (h.0, h.1, h.2 ∙ ap (λ (b : ℕ). Some (wire_cell wires b k)) number)
    cell_at m n (suc i) e k (Some d ∷ xs) t there picked less =
        moved (cell_at (suc m) (n + taken d) i e k xs t.1 there picked less)
      where
        moved : (j : ℕ) × (e.first + k ≡ n + taken d + j)
            × (slice_get (cells (suc m) xs) j ≡ Some (wire_cell wires (suc m + i) k))
            → (j : ℕ) × (e.first + k ≡ n + j)
            × (slice_get (block m d ++ cells (suc m) xs) j
            ≡ Some (wire_cell wires (m + suc i) k))
        moved h =
            let place : e.first + k ≡ n + taken d + h.0 = h.1 in
            let count : length (block m d) ≡ taken d = block_count m d in
            let number : suc m + i ≡ m + suc i = omega arith in (
              length (block m d) + h.0,
              omega arith,
              get_behind (block m d) (cells (suc m) xs) h.0 ∙ h.2
                  ∙ ap (λ (b : ℕ). Some (wire_cell wires b k)) number,
            )
