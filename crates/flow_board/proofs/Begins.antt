-- A board begins in the core's opening state
use Rattle.std.proofs.Common.{◌≡◌, ◌≢◌, ℕ, ◌<◌, ◌≤◌, false, List, [], length, take, refl, sym}
use Rattle.std.proofs.Common.{◌∙◌, ap, subst, inl, inr, arith, Option, Some, None, is_some, nat_lt}
use Rattle.std.proofs.Common.{MatchOption}
use Rattle.std.proofs.lemmas.Bool.{le-ltb}
use Rattle.atomic_table.specs.Table as table
use Rattle.flow_core.specs.declared.Phase.{Phase}
use Rattle.flow_core.specs.declared.Phase.TheVariants.{Waiting, Held, Done, Refused}
use Rattle.flow_core.specs.declared.State.{State}
use Rattle.flow_core.specs.Counts.{times}
use Rattle.flow_core.specs.Net.{writes_of, preds_of, succs_of}
use Rattle.flow_core.specs.Flow.{Flow, start_of}
use Rattle.flow_core.specs.Core.{cell_of, missing_of, phase_of, published_at, released_at, releases}
use Rattle.flow_core.specs.Core.{IsSound}
use Rattle.flow_core.specs.Events.{hold, opening}
use Rattle.flow_core.proofs.Totals.{total_none, place_of}
use Rattle.flow_core.proofs.Keeps.{opens, waits_at_first}
use Rattle.flow_board.specs.declared.view.View.{View}
use Rattle.flow_board.specs.Shows.{least_word, cell_word, counter_word, Shows}
use Rattle.flow_board.specs.Views.{first}
use Rattle.flow_board.specs.Rule.{done_mark, refused_mark, Ruled}
use Rattle.flow_board.specs.Events.{Shown}
use Rattle.flow_board.proofs.Steps.{none_some, cases_start}
use Rattle.flow_board.proofs.Ends.{only_one, begins_so}

is_waiting : (p : Phase) → ((w a b : ℕ) → p ≢ Held w a b) → done_mark p ≡ 0 → refused_mark p ≡ 0
    → p ≡ Waiting
is_waiting Waiting free d r = refl
is_waiting (Held w a b) free d r = absurd (free w a b refl)
is_waiting Done free d r = absurd (omega arith)
is_waiting Refused free d r = absurd (omega arith)

unfilled : (o : Option ℕ) → is_some o ≡ false → o ≡ None
unfilled None e = refl
unfilled (Some x) e = cc

-- where every strand waits, none is refused and each one misses all its predecessors
least_none : (s : State) (o : Option ℕ)
    → MatchOption o ((k : ℕ) → phase_of s k ≢ Refused)
    (λ l. (phase_of s l ≡ Refused) × ((k : ℕ) → phase_of s k ≡ Refused → l ≤ k))
    → ((k : ℕ) → phase_of s k ≡ Waiting) → o ≡ None
least_none s None h waits = refl
least_none s (Some l) h waits = let is = h.0 in let w = waits l in cc

misses_all : (f : Flow) (s : State) → IsSound f.net s → ((k : ℕ) → phase_of s k ≡ Waiting)
    → (k : ℕ) → missing_of s k ≡ length (preds_of f.net k)
misses_all f s sound waits k =
    let none-told : (p : ℕ) → releases f.net s k p ≡ 0 =
    λ p. ap (λ (q : Phase). times k (take (released_at f.net p q) (succs_of f.net p))) (waits p) in
    let z = total_none (releases f.net s k) (preds_of f.net k) none-told in
    let c = sound.counts_missing k (waits k) in omega arith

module _ (f : Flow) (ws : List ℕ) (r : Ruled f (table.opening ws [] (first f))) where
  -- the one view names no strand
  waits : (k : ℕ) → phase_of r.core k ≡ Waiting
  waits k = is_waiting (phase_of r.core k)
      (λ j a b e. let x = r.holder k j a b e in let only = only_one (first f) x.0 j x.1 in
      none_some (hold k a b) (ap (λ (v : View). v.holding) only.1 ∙ x.2))
      (sym (r.done_is k)) (sym (r.refused_is k))

  starts : (c : ℕ) → c < f.net.cells → cell_of r.core c ≡ start_of f c
  starts c near = elim (cases_start (start_of f c)) [
    | inl no-start ↦ (
        let w = r.flow.written_or_start c near no-start in
        let place = place_of c (writes_of f.net w.0) w.1 in
        let E : ℕ → Type 0 = λ d. is_some (cell_of r.core d) ≡ false in
        let empty = r.kept.sound.fills_first.filled w.0 place.0 place.1
        ∙ ap (λ (q : Phase). nat_lt place.0 (published_at f.net w.0 q)) (waits w.0)
        ∙ le-ltb place.0 0 (omega arith) in
        unfilled (cell_of r.core c) (subst E place.2 empty) ∙ sym no-start)
    | inr s ↦ r.kept.holds_values.starts c s.0 s.1 ∙ sym s.1
  ]

  shows_opening : Shows f (opening f) ws
  shows_opening = let least = least_none r.core r.core.least r.kept.sound.least_refused waits in
      let first-state = opens f r.net r.flow in record {
        wide = r.shows.wide;
        least_is = r.shows.least_is ∙ ap (least_word f) least;
        cell_is = λ c near. r.shows.cell_is c near ∙ ap cell_word (starts c near);
        counter_is = λ k near. let p = waits k ∙ sym (waits_at_first f k) in
            let m = misses_all f r.core r.kept.sound waits k
            ∙ sym (misses_all f (opening f) first-state.sound (waits_at_first f) k) in
            r.shows.counter_is k near ∙ (λ i. counter_word (p i) (m i));
      }

  pub opens_so : Shown f (table.opening ws [] (first f)) (opening f)
  opens_so = begins_so f ws r.narrow r.net r.flow
      (λ c x e. r.numbers c x (r.kept.holds_values.starts c x e)) shows_opening
