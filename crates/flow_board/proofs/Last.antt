-- What the words of a closed board say of the answers
use Rattle.std.proofs.Common.{◌≡◌, ◌≢◌, ℕ, ◌+◌, ◌-◌, ◌<◌, ◌≤◌, Bool, true, false, cond, ◌==◌, List}
use Rattle.std.proofs.Common.{length, get_or, refl, sym, ◌∙◌, ap, subst, inl, inr, arith, Option}
use Rattle.std.proofs.Common.{Some, None, is_some, unwrap_or, MatchOption}
use Rattle.std.proofs.lemmas.Bool.{cases_eq, eq-eqb, ne_eqb, eqb-true, lt-ltb}
use Rattle.flow_core.specs.declared.Phase.{Phase}
use Rattle.flow_core.specs.declared.Phase.TheVariants.{Waiting, Held, Done, Refused}
use Rattle.flow_core.specs.declared.State.{State}
use Rattle.flow_core.specs.Counts.{times}
use Rattle.flow_core.specs.Net.{writes_of}
use Rattle.flow_core.specs.Flow.{Flow, Refuses, HasValue, answer_of}
use Rattle.flow_core.specs.Core.{cell_of, missing_of, phase_of, published_at}
use Rattle.flow_core.specs.Quiet.{IsBelow}
use Rattle.flow_core.proofs.Totals.{is_in_at}
use Rattle.flow_core.proofs.Values.{one_value}
use Rattle.flow_board.specs.declared.rule.TheConstants.{TAKEN}
use Rattle.flow_board.specs.Shows.{cell_at, counter_at, cell_word, counter_word, least_word}
use Rattle.flow_board.specs.Rule.{done_mark}
use Rattle.flow_board.specs.Closed.{ClosedWords, cell_in, done_in, least_in, IsClosed, IsDoneBelow}
use Rattle.flow_board.specs.Closed.{HasOnlyAnswers}
use Rattle.flow_board.proofs.Openings.{start_near}
use Rattle.flow_board.proofs.Steps.{least_near, least_told}
use Rattle.flow_board.proofs.Who.{not_waiting}

unrefused : (s : State) (o : Option ℕ) (k : ℕ)
    → MatchOption o ((k : ℕ) → phase_of s k ≢ Refused) (λ l. (phase_of s l ≡ Refused)
    × ((k : ℕ) → phase_of s k ≡ Refused → l ≤ k))
    → ((l : ℕ) → o ≡ Some l → k < l) → phase_of s k ≢ Refused
unrefused s None k h below = h k
unrefused s (Some l) k h below = λ e. let le = h.1 k e in let less = below l refl in
    absurd (omega arith)

done_phase : (p : Phase) → p ≢ Waiting → ((j a b : ℕ) → p ≢ Held j a b) → p ≢ Refused → p ≡ Done
done_phase Waiting a b c = absurd (a refl)
done_phase (Held w x y) a b c = absurd (b w x y refl)
done_phase Done a b c = refl
done_phase Refused a b c = absurd (c refl)

least_low : (f : Flow) (w : ClosedWords) (o : Option ℕ) → get_or w.words 0 0 ≡ least_word f o
    → w.strands ≡ f.net.strands
    → (k : ℕ) → k < f.net.strands → IsBelow (least_in w) k → (l : ℕ) → o ≡ Some l → k < l
least_low f w o at strands k near below l e =
    let found : get_or w.words 0 0 ≡ l = at ∙ ap (least_word f) e in
    elim (cases_eq (get_or w.words 0 0) w.strands) [
      | inl all ↦ omega arith
      | inr ne ↦ (
          let P : Bool → Type 0 = λ b. IsBelow (cond b None (Some (get_or w.words 0 0))) k in
          let low : k < get_or w.words 0 0 =
          subst P (ne_eqb (get_or w.words 0 0) w.strands ne) below in omega arith)
    ]

some_none : (x : ℕ) → Some x ≡ None → ⊥
some_none x e = cc

-- a cell's word that has a value reads as it
cell_reads : (w : ClosedWords) (c x : ℕ) → get_or w.words (cell_at c) 0 ≡ x + 1
    → cell_in w c ≡ Some x
cell_reads w c x e =
    let n : ℕ = get_or w.words (cell_at c) 0 in
    let some : (n == 0) ≡ false = ne_eqb n 0 (λ z. omega arith) in
    let less : n - 1 ≡ x = omega arith in
    (λ i. cond (some i) None (Some (less i)))

word_reads : (w : ClosedWords) (c x : ℕ) → cell_in w c ≡ Some x
    → get_or w.words (cell_at c) 0 ≡ x + 1
word_reads w c x e =
    let n : ℕ = get_or w.words (cell_at c) 0 in elim (cases_eq n 0) [
      | inl z ↦ (let empty : cell_in w c ≡ None = ap (λ (b : Bool). cond b None (Some (n - 1)))
          (eq-eqb n 0 z) in absurd (some_none x (sym e ∙ empty)))
      | inr ne ↦ (
          let full : cell_in w c ≡ Some (n - 1) = ap (λ (b : Bool). cond b None (Some (n - 1)))
          (ne_eqb n 0 ne) in
          let is : n - 1 ≡ x = ap (λ (o : Option ℕ). unwrap_or o x) (sym full ∙ e) in omega arith)
    ]

filled_word : (o : Option ℕ) (x : ℕ) → cell_word o ≡ x + 1 → o ≡ Some x
filled_word None x e = absurd (omega arith)
filled_word (Some y) x e = let is : y ≡ x = omega arith in ap Some is

some_filled : (o : Option ℕ) → is_some o ≡ true → (x : ℕ) × (o ≡ Some x)
some_filled None e = cc
some_filled (Some x) e = (x, refl)

least_reads : (w : ClosedWords) (l : ℕ) → least_in w ≡ Some l → (get_or w.words 0 0 ≡ l)
    × (get_or w.words 0 0 ≢ w.strands)
least_reads w l e =
    let n : ℕ = get_or w.words 0 0 in elim (cases_eq n w.strands) [
      | inl z ↦ (let empty : least_in w ≡ None = ap (λ (b : Bool). cond b None (Some n))
          (eq-eqb n w.strands z) in absurd (some_none l (sym e ∙ empty)))
      | inr ne ↦ (
          let full : least_in w ≡ Some n = ap (λ (b : Bool). cond b None (Some n))
          (ne_eqb n w.strands ne) in
          (ap (λ (o : Option ℕ). unwrap_or o l) (sym full ∙ e), ne))
    ]

least_found : (w : ClosedWords) (o : Option ℕ) (n : ℕ) → w.strands ≡ n
    → get_or w.words 0 0 ≡ unwrap_or o n → ((l : ℕ) → o ≡ Some l → l < n) → least_in w ≡ o
least_found w None n strands at low =
    ap (λ (b : Bool). cond b None (Some (get_or w.words 0 0)))
    (eq-eqb (get_or w.words 0 0) w.strands (at ∙ sym strands))
least_found w (Some l) n strands at low =
    let near = low l refl in
    ap (λ (b : Bool). cond b None (Some (get_or w.words 0 0)))
    (ne_eqb (get_or w.words 0 0) w.strands (λ z. omega arith))
    ∙ ap Some at

module _ (f : Flow) (done refused : List ℕ) (w : ClosedWords) (h : IsClosed f done refused w) where
  abbrev core : State
  core = h.closes.core

  taken_word : (k : ℕ) → k < f.net.strands → done_in w k ≡ true
      → TAKEN ≡ counter_word (phase_of core k) (missing_of core k)
  taken_word k near word =
      let at = h.cells_are in
      let is = eqb-true (get_or w.words (1 + w.cells + k) 0) TAKEN word in
      let same : get_or w.words (1 + w.cells + k) 0 ≡ get_or w.words (counter_at f k) 0 =
      ap (λ (n : ℕ). get_or w.words (1 + n + k) 0) at in
      sym is ∙ same ∙ h.closes.shows.counter_is k near

  done_phase_of : (k : ℕ) → k < f.net.strands → IsBelow (least_in w) k → done_in w k ≡ true
      → phase_of core k ≡ Done
  done_phase_of k near below word =
      let c = h.closes in
      let low = least_low f w core.least c.shows.least_is h.strands_are k near below in
      done_phase (phase_of core k) (not_waiting f core c.net c.kept c.narrow k near
      (sym (taken_word k near word))) (c.none_held k)
      (unrefused core core.least k c.kept.sound.least_refused low)

  pub done_below : (k : ℕ) → k < f.net.strands → IsBelow (least_in w) k → done_in w k ≡ true
      → IsDoneBelow f done w k
  done_below k near below word =
      let c = h.closes in
      let is = done_phase_of k near below word in
      let g = c.kept.answers_kept.done_gives k is in
      let d : times k done ≡ 1 = c.done_is k ∙ ap done_mark is in
      let ws : List ℕ = writes_of f.net k in record {
        listed = omega arith;
        values = g.0;
        gives = g.1;
        filled = λ i lt.
            let at : ℕ = get_or ws i 0 in
            let all : published_at f.net k (phase_of core k) ≡ length ws =
            ap (published_at f.net k) is in
            let some = some_filled (cell_of core at) (c.kept.sound.fills_first.filled k i lt
            ∙ lt-ltb i (published_at f.net k (phase_of core k)) (omega arith)) in
            let own : HasValue f at (get_or g.0 i 0) =
            inr (
              k,
              record {
                values = g.0;
                place = i;
                gives = g.1;
                near = lt;
                cell =
                    refl;
                value = refl;
              },
            ) in
            let same : some.0 ≡ get_or g.0 i 0 =
            one_value f c.net c.flow at some.0 (get_or g.0 i 0)
            (c.kept.holds_values.values at some.0 some.1) own in
            cell_reads w at (get_or g.0 i 0)
            (c.shows.cell_is at (c.net.writes_near k at (is_in_at ws i lt))
            ∙ ap cell_word some.1 ∙ ap (λ (x : ℕ). x + 1) same);
      }

  pub least_refused : least_in w ≡ core.least
  least_refused = let c = h.closes in
      least_found w core.least f.net.strands h.strands_are c.shows.least_is
      (least_near f core c.kept)

  pub only_answers : HasOnlyAnswers f w
  only_answers = let c = h.closes in record {
    starts = λ d x e.
        let near = start_near f c.flow d x e in
        cell_reads w d x (c.shows.cell_is d near ∙ ap cell_word (c.kept.holds_values.starts d x e));
    values = λ d x near e.
        let word = word_reads w d x e in
        c.kept.holds_values.values d x
        (filled_word (cell_of core d) x (sym (c.shows.cell_is d near) ∙ word));
    least = λ l e.
        let told = least_told f core c.kept core.least refl in
        let found = least_reads w l e in
        let at : l ≡ least_word f core.least = sym found.0 ∙ c.shows.least_is in
        let W : ℕ → Type 0 = λ x. x < f.net.strands → answer_of f x ≡ Refuses in
        let ne = found.1 in let all = h.strands_are in let le = told.0 in
        let near : l < f.net.strands = omega arith in
        (near, subst W (sym at) told.1 near);
  }
