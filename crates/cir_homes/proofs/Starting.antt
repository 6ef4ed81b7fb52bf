-- The cells of main's inputs, signal by signal.
use Rattle.std.proofs.Common.{◌≡◌, ◌∙◌, ℕ, suc, ◌+◌, ◌-◌, ◌<◌, ◌≤◌, Bool, cond, List, [], ◌∷◌, ◌++◌}
use Rattle.std.proofs.Common.{map, length, Option, Some, None, refl, sym, ap, append_assoc, arith}
use Rattle.std.proofs.Common.{get_or, drop, slice_get}
use Rattle.std.specs.Prelude.{◌&&◌, option_map, unwrap_or}
use Rattle.std.specs.declared.vec.Vec.{Vec}
use Rattle.std.specs.declared.alloc.Global.{Global}
use Rattle.std.proofs.lemmas.List.{append-nil, drop_all, drop_more}
use Rattle.cir_meaning.specs.Frame as F
use Rattle.cir_meaning.specs.Places.{numbers_from}
use Rattle.cir_meaning.specs.Run.{Wires}
use Rattle.cir_frame.specs.declared.signal.SignalEntry.{SignalEntry}
use Rattle.cir_frame.specs.Shown.{signal_of, signals_of}
use Rattle.cir_steps.specs.Circuit.{entry_cells, input_cells}
use Rattle.cir_steps.specs.Emission.{wire_cell}
use Rattle.cir_make.specs.declared.cells.Run.{Run}
use Rattle.cir_make.specs.Cells.{cell_at, cell_in, wires_by}
use Rattle.cir_write.specs.Waiting.{rows_of, rows_in}
use Rattle.cir_homes.specs.Started.{chosen_cells}

module _ (test : F.SignalEntry → Bool) (wires : Wires) where
  first_input : (n : ℕ) (s : Option SignalEntry) (ss : List (Option SignalEntry))
      → input_cells test wires n (signals_of (s ∷ ss))
      ≡ chosen_cells test wires n (option_map signal_of s)
      ++ input_cells test wires (n + 1) (signals_of ss)
  first_input n None ss =
      let next : suc n ≡ n + 1 = omega arith in
      ap (λ (m : ℕ). input_cells test wires m (signals_of ss)) next
  first_input n (Some e) ss =
      let next : suc n ≡ n + 1 = omega arith in
      ap (λ (m : ℕ). chosen_cells test wires n (Some (signal_of e))
      ++ input_cells test wires m (signals_of ss)) next

  pub inputs_next : (starts more : List ℕ) (n : ℕ) (s : Option SignalEntry)
      (ss : List (Option SignalEntry)) → n < length ss → s ≡ get_or ss n s
      → more ≡ starts ++ chosen_cells test wires n (option_map signal_of s)
      → more ++ input_cells test wires (n + 1) (signals_of (drop (n + 1) ss))
      ≡ starts ++ input_cells test wires n (signals_of (drop n ss))
  inputs_next starts more n s ss less is pushed =
      let rest : List ℕ = input_cells test wires (n + 1) (signals_of (drop (n + 1) ss)) in
      ap (λ l. l ++ rest) pushed
      ∙ append_assoc starts (chosen_cells test wires n (option_map signal_of s)) rest
      ∙ ap (λ l. starts ++ l) (sym (first_input n s (drop (n + 1) ss)))
      ∙ ap (λ x. starts ++ input_cells test wires n (signals_of (x ∷ drop (n + 1) ss))) is
      ∙ ap (λ l. starts ++ input_cells test wires n (signals_of l)) (sym (drop_more ss n s less))

  pub inputs_end : (starts : List ℕ) (n : ℕ) (ss : List (Option SignalEntry)) → length ss ≤ n
      → starts ≡ starts ++ input_cells test wires n (signals_of (drop n ss))
  inputs_end starts n ss h =
      sym (append-nil starts)
      ∙ ap (λ l. starts ++ input_cells test wires n (signals_of l)) (sym (drop_all n ss h))

pub chosen_is : (test : F.SignalEntry → Bool) (wires : Wires) (n : ℕ) (o : Option SignalEntry)
    (e : SignalEntry) (b : Bool) → o ≡ Some e
    → (F.is_input e.direction && test (signal_of e)) ≡ b
    → chosen_cells test wires n (option_map signal_of o)
    ≡ cond b (entry_cells wires n (signal_of e)) []
chosen_is test wires n o e b is h =
    ap (λ x. chosen_cells test wires n (option_map signal_of x)) is
    ∙ ap (λ b. cond b (entry_cells wires n (signal_of e)) []) h

-- ---- the elements of a signal
cell_is : (ports : List (Vec Run Global)) (n k : ℕ)
    → unwrap_or (cell_in (rows_in ports n) k) 0 ≡ wire_cell (wires_by ports) n k
cell_is ports n k = at (slice_get ports n)
  where
    at : (o : Option (Vec Run Global))
        → unwrap_or (cell_in (rows_of o) k) 0 ≡ unwrap_or (cell_at o k) 0
    at None = refl
    at (Some rows) = refl

pub elements_next : (ports : List (Vec Run Global)) (n k count c : ℕ) (rows : List Run)
    (starts more : List ℕ) → k < count → rows ≡ rows_in ports n
    → c ≡ unwrap_or (cell_in rows k) 0 → more ≡ starts ++ c ∷ []
    → more ++ map (wire_cell (wires_by ports) n) (numbers_from (k + 1) (count - (k + 1)))
    ≡ starts ++ map (wire_cell (wires_by ports) n) (numbers_from k (count - k))
elements_next ports n k count c rows starts more less is cell pushed =
    let f : ℕ → ℕ = wire_cell (wires_by ports) n in
    let rest : List ℕ = map f (numbers_from (k + 1) (count - (k + 1))) in
    let left : suc (count - (k + 1)) ≡ count - k = omega arith in
    ap (λ l. l ++ rest) pushed
    ∙ append_assoc starts (c ∷ []) rest
    ∙ ap (λ x. starts ++ x ∷ rest)
    (cell ∙ ap (λ l. unwrap_or (cell_in l k) 0) is ∙ cell_is ports n k)
    ∙ ap (λ (m : ℕ). starts ++ map f (numbers_from k m)) left

pub elements_end : (ports : List (Vec Run Global)) (n k count : ℕ) (starts : List ℕ) → count ≤ k
    → starts ≡ starts ++ map (wire_cell (wires_by ports) n) (numbers_from k (count - k))
elements_end ports n k count starts h =
    let none : 0 ≡ count - k = omega arith in
    sym (append-nil starts)
    ∙ ap (λ (m : ℕ). starts ++ map (wire_cell (wires_by ports) n) (numbers_from k m)) none
