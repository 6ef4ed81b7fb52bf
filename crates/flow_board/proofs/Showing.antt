-- The words after a step show the state after its event
use Rattle.std.proofs.Common.{◌≡◌, ◌≢◌, ℕ, ◌+◌, ◌-◌, ◌%◌, ◌^◌, ◌<◌, min, List, length, get_or, set}
use Rattle.std.proofs.Common.{refl, sym, ◌∙◌, ap, subst, inl, inr, arith, Option, Some, None}
use Rattle.std.proofs.Common.{get_or-set_other, get_or-set_same, length-set}
use Rattle.std.specs.Option.{option_map_or}
use Rattle.std.proofs.lemmas.Bool.{cases_eq}
use Rattle.flow_core.specs.declared.Phase.{Phase}
use Rattle.flow_core.specs.declared.Phase.TheVariants.{Waiting, Held, Done, Refused}
use Rattle.flow_core.specs.declared.State.{State}
use Rattle.flow_core.specs.Flow.{Flow}
use Rattle.flow_core.specs.Core.{missing_of, phase_of}
use Rattle.flow_core.proofs.Lists.{set_all}
use Rattle.flow_board.specs.declared.rule.TheConstants.{TAKEN}
use Rattle.flow_board.specs.Shows.{cell_at, counter_at, least_word, cell_word, counter_word, Shows}
use Rattle.flow_board.proofs.Moved.{state}

pub counter_free : (p : Phase) (m : ℕ) → counter_word p m ≡ 0 → (p ≡ Waiting) × (m ≡ 0)
counter_free Waiting m e = (refl, e)
counter_free (Held w a b) m e = absurd (omega arith)
counter_free Done m e = absurd (omega arith)
counter_free Refused m e = absurd (omega arith)

pub lesser : (f : Flow) (o : Option ℕ) (k : ℕ) → k < f.net.strands
    → min (least_word f o) k ≡ option_map_or (λ l. min l k) o k
lesser f None k near = omega arith
lesser f (Some l) k near = refl

module _ (f : Flow) (s : State) (ws : List ℕ) (h : Shows f s ws) (k : ℕ) (p : Phase)
    (near : k < length s.phase) where
  counters : counter_word p (missing_of s k) ≡ counter_word (phase_of s k) (missing_of s k)
      → (i : ℕ) → counter_word (phase_of s i) (missing_of s i)
      ≡ counter_word (get_or (set s.phase k p) i Waiting) (missing_of s i)
  counters e = set_all s.phase k p Waiting (λ i q. counter_word (phase_of s i) (missing_of s i)
      ≡ counter_word q (missing_of s i)) near (sym e) (λ i ne. refl)

  -- one cell word is stored
  pub shows_cell : (c x : ℕ) → c < f.net.cells → c < length s.cells
      → counter_word p (missing_of s k) ≡ counter_word (phase_of s k) (missing_of s k)
      → Shows f (state (set s.cells c (Some x)) s.missing (set s.phase k p) s.least)
      (set ws (cell_at c) (x + 1))
  shows_cell c x in-net in-list e = let wide = h.wide in record {
    wide = length-set ws (cell_at c) (x + 1) ∙ h.wide;
    least_is = get_or-set_other ws (cell_at c) 0 (x + 1) 0 (λ z. omega arith) ∙ h.least_is;
    cell_is = λ d lt. elim (cases_eq d c) [
      | inl same-d ↦ (let P : ℕ → Type 0 = λ d. get_or (set ws (cell_at c) (x + 1)) (cell_at d) 0
          ≡ cell_word (get_or (set s.cells c (Some x)) d None) in
          subst P (sym same-d) (get_or-set_same ws (cell_at c) (x + 1) 0 (omega arith)
          ∙ ap cell_word (sym (get_or-set_same s.cells c (Some x) None in-list))))
      | inr ne ↦ get_or-set_other ws (cell_at c) (cell_at d) (x + 1) 0 (λ z. ne (omega arith))
          ∙ h.cell_is d lt ∙ ap cell_word (sym (get_or-set_other s.cells c d (Some x) None ne))
    ];
    counter_is = λ i lt. get_or-set_other ws (cell_at c) (counter_at f i) (x + 1) 0
        (λ z. omega arith) ∙ h.counter_is i lt ∙ counters e i;
  }

  -- a successor's counter word falls by 1
  pub shows_release : (j : ℕ) → j < f.net.strands → j < length s.missing → j ≢ k
      → phase_of s j ≡ Waiting → 0 < missing_of s j
      → get_or ws (counter_at f j) 0 < 18446744073709551616
      → counter_word p (missing_of s k) ≡ counter_word (phase_of s k) (missing_of s k)
      → Shows f (state s.cells (set s.missing j (missing_of s j - 1)) (set s.phase k p) s.least)
      (set ws (counter_at f j) ((get_or ws (counter_at f j) 0 + (2 ^ 64 - 1)) % 2 ^ 64))
  shows_release j in-net in-list apart waits some narrow e = let wide = h.wide in
      let m : ℕ = missing_of s j in let n : ℕ = get_or ws (counter_at f j) 0 in
      let y : ℕ = (n + (2 ^ 64 - 1)) % 2 ^ 64 in
      let found : n ≡ m = h.counter_is j in-net
      ∙ ap (λ (q : Phase). counter_word q (missing_of s j)) waits in
      let less : y ≡ m - 1 = let n-some : 0 < n = omega arith in
      let n-small : n < 2 ^ 64 = narrow in let y-is : (n + (2 ^ 64 - 1)) % 2 ^ 64 ≡ n - 1 =
      omega arith in omega arith in
      record {
        wide = length-set ws (counter_at f j) y ∙ h.wide;
        least_is = get_or-set_other ws (counter_at f j) 0 y 0 (λ z. omega arith) ∙ h.least_is;
        cell_is = λ d lt. get_or-set_other ws (counter_at f j) (cell_at d) y 0 (λ z. omega arith)
            ∙ h.cell_is d lt;
        counter_is = λ i lt. elim (cases_eq i j) [
          | inl same-i ↦ (let P : ℕ → Type 0 =
              λ i. get_or (set ws (counter_at f j) y) (counter_at f i) 0
              ≡ counter_word (get_or (set s.phase k p) i Waiting)
              (get_or (set s.missing j (m - 1)) i 0) in
              subst P (sym same-i) (get_or-set_same ws (counter_at f j) y 0 (omega arith) ∙ less
              ∙ sym (get_or-set_same s.missing j (m - 1) 0 in-list)
              ∙ ap (λ (q : Phase). counter_word q (get_or (set s.missing j (m - 1)) j 0))
              (sym (get_or-set_other s.phase k j p Waiting apart ∙ waits))))
          | inr ne ↦ get_or-set_other ws (counter_at f j) (counter_at f i) y 0
              (λ z. ne (omega arith)) ∙ h.counter_is i lt ∙ counters e i
              ∙ ap (counter_word (get_or (set s.phase k p) i Waiting))
              (sym (get_or-set_other s.missing j i (m - 1) 0 ne))
        ];
      }

  -- the strand's own counter word is taken
  pub shows_take : k < f.net.strands → counter_word p (missing_of s k) ≡ TAKEN
      → Shows f (state s.cells s.missing (set s.phase k p) s.least) (set ws (counter_at f k) TAKEN)
  shows_take in-net e = let wide = h.wide in let all = set_all s.phase k p Waiting in record {
    wide = length-set ws (counter_at f k) TAKEN ∙ h.wide;
    least_is = get_or-set_other ws (counter_at f k) 0 TAKEN 0 (λ z. omega arith) ∙ h.least_is;
    cell_is = λ d lt. get_or-set_other ws (counter_at f k) (cell_at d) TAKEN 0 (λ z. omega arith)
        ∙ h.cell_is d lt;
    counter_is = λ i. all (λ i q. i < f.net.strands
        → get_or (set ws (counter_at f k) TAKEN) (counter_at f i) 0
        ≡ counter_word q (missing_of s i)) near
        (λ lt. get_or-set_same ws (counter_at f k) TAKEN 0 (omega arith) ∙ sym e)
        (λ i ne lt. get_or-set_other ws (counter_at f k) (counter_at f i) TAKEN 0
        (λ z. ne (omega arith)) ∙ h.counter_is i lt) i;
  }

  -- no word changes
  pub shows_turn : counter_word p (missing_of s k) ≡ counter_word (phase_of s k) (missing_of s k)
      → Shows f (state s.cells s.missing (set s.phase k p) s.least) ws
  shows_turn e = record {
    wide = h.wide;
    least_is = h.least_is;
    cell_is = h.cell_is;
    counter_is =
        λ i lt. h.counter_is i lt ∙ counters e i;
  }

  -- the word `least` becomes the lesser of itself and the strand
  pub shows_least : k < f.net.strands
      → counter_word p (missing_of s k) ≡ counter_word (phase_of s k) (missing_of s k)
      → Shows f (state s.cells s.missing (set s.phase k p)
      (Some (option_map_or (λ l. min l k) s.least k))) (set ws 0 (min (get_or ws 0 0) k))
  shows_least in-net e = let wide = h.wide in let y : ℕ = min (get_or ws 0 0) k in record {
    wide = length-set ws 0 y ∙ h.wide;
    least_is = get_or-set_same ws 0 y 0 (omega arith) ∙ ap (λ (n : ℕ). min n k) h.least_is
        ∙ lesser f s.least k in-net;
    cell_is = λ d lt. get_or-set_other ws 0 (cell_at d) y 0 (λ z. omega arith) ∙ h.cell_is d lt;
    counter_is = λ i lt. get_or-set_other ws 0 (counter_at f i) y 0 (λ z. omega arith)
        ∙ h.counter_is i lt ∙ counters e i;
  }
