-- Who has a strand, read off its word
use Rattle.std.proofs.Common.{◌≡◌, ◌≢◌, ℕ, ◌+◌, ◌<◌}
use Rattle.std.proofs.Common.{false, List, [], ◌∷◌, get_or, refl, sym, ◌∙◌, ap}
use Rattle.std.proofs.Common.{arith, Option, Some, None, is_some, nat_lt}
use Rattle.std.proofs.lemmas.Bool.{le-ltb}
use Rattle.flow_core.specs.declared.Phase.{Phase}
use Rattle.flow_core.specs.declared.Phase.TheVariants.{Waiting, Held, Done, Refused}
use Rattle.flow_core.specs.declared.State.{State}
use Rattle.flow_core.specs.declared.Hold.{Hold}
use Rattle.flow_core.specs.Counts.{total, times}
use Rattle.flow_core.specs.Net.{IsNet, writes_of}
use Rattle.flow_core.specs.Flow.{Flow}
use Rattle.flow_core.specs.Core.{cell_of, missing_of, phase_of, published_at, IsKept}
use Rattle.flow_core.proofs.Totals.{same_yes, same_no, is_in_at}
use Rattle.flow_core.proofs.Nets.{preds_few}
use Rattle.flow_board.specs.declared.view.View.{View}
use Rattle.flow_board.specs.declared.rule.TheConstants.{TAKEN}
use Rattle.flow_board.specs.Shows.{cell_word, counter_word}
use Rattle.flow_board.specs.Rule.{done_mark, refused_mark, hold_mark, names, Ruled, SaysWho}
use Rattle.flow_board.proofs.Moved.{Board}
use Rattle.flow_board.proofs.Showing.{counter_free}
use Rattle.flow_board.proofs.Ends.{total_zero, total_only}

total_three : {A : Type 0} (f g h : A → ℕ) (l : List A)
    → total (λ v. f v + g v + h v) l ≡ total f l + total g l + total h l
total_three f g h [] = omega arith
total_three f g h (x ∷ xs) = let r = total_three f g h xs in omega arith

held_mark : Phase → ℕ
held_mark Waiting = 0
held_mark (Held w a b) = 1
held_mark Done = 0
held_mark Refused = 0

-- a seat that does not hold k
mark_none : (k : ℕ) (o : Option Hold) → ((h : Hold) → o ≡ Some h → k ≢ h.strand) → hold_mark k o ≡ 0
mark_none k None h = refl
mark_none k (Some x) h = same_no k x.strand (h x refl)

module _ (f : Flow) (t : Board) (r : Ruled f t) (k : ℕ) where
  nobody : ((j a b : ℕ) → phase_of r.core k ≢ Held j a b)
      → total (λ v. hold_mark k v.holding) t.views ≡ 0
  nobody free = total_zero (λ (v : View). hold_mark k v.holding) t.views
      (λ j v at. mark_none k v.holding (λ h e k-is. let is = (r.seats j v at).held h e in
      free j h.published h.released (ap (phase_of r.core) k-is ∙ is)))

  somebody : (j a b : ℕ) → phase_of r.core k ≡ Held j a b
      → total (λ v. hold_mark k v.holding) t.views ≡ 1
  somebody j a b is = let x = r.holder k j a b is in
      total_only (λ (v : View). hold_mark k v.holding) t.views j x.0 x.1
      (λ i u ne at. mark_none k u.holding (λ h e k-is. let is' = (r.seats i u at).held h e in
      let both : Held j a b ≡ Held i h.published h.released = sym is ∙ ap (phase_of r.core) k-is
      ∙ is' in let same-j : i ≡ j = cc in ne same-j))
      ∙ ap (hold_mark k) x.2 ∙ same_yes k k refl

  held_total : (p : Phase) → phase_of r.core k ≡ p
      → total (λ v. hold_mark k v.holding) t.views + done_mark p + refused_mark p
      ≡ total (names k) t.views
  held_total p is = let sum = total_three (λ (v : View). hold_mark k v.holding)
      (λ v. times k v.done) (λ v. times k v.refused) t.views in
      let d : total (λ (v : View). times k v.done) t.views ≡ done_mark p = r.done_is k
      ∙ ap done_mark is in let s : total (λ (v : View). times k v.refused) t.views
      ≡ refused_mark p = r.refused_is k ∙ ap refused_mark is in omega arith

  begun_once : (p : Phase) → phase_of r.core k ≡ p → p ≢ Waiting → total (names k) t.views ≡ 1
  begun_once Waiting is ne = absurd (ne refl)
  begun_once (Held j a b) is ne = let s = somebody j a b is in
      let h = held_total (Held j a b) is in omega arith
  begun_once Done is ne = let n = nobody (λ j a b e. cc) in let h = held_total Done is in
      omega arith
  begun_once Refused is ne = let n = nobody (λ j a b e. cc) in let h = held_total Refused is in
      omega arith

  waits_never : phase_of r.core k ≡ Waiting → total (names k) t.views ≡ 0
  waits_never is = let n = nobody (λ j a b e. cc) in let h = held_total Waiting is in omega arith

-- a missing count is below TAKEN
pub not_waiting : (f : Flow) (s : State) → IsNet f.net → IsKept f s → f.net.strands < 4294967296
    → (k : ℕ) → k < f.net.strands → counter_word (phase_of s k) (missing_of s k) ≡ TAKEN
    → phase_of s k ≢ Waiting
not_waiting f s ok kept narrow k near word = λ waits. let c = kept.sound.counts_missing k waits in
    let few = preds_few f.net ok k in
    let m : missing_of s k ≡ TAKEN =
    sym (ap (λ (q : Phase). counter_word q (missing_of s k)) waits) ∙ word in omega arith

empty_word : (o : Option ℕ) → is_some o ≡ false → cell_word o ≡ 0
empty_word None e = refl
empty_word (Some x) e = cc

pub says_who : (f : Flow) (t : Board) → Ruled f t → SaysWho f t
says_who f t r = record {
  free = λ k near word. waits_never f t r k (counter_free (phase_of r.core k) (missing_of r.core k)
      (sym (r.shows.counter_is k near) ∙ word)).0;
  taken = λ k near word. begun_once f t r k (phase_of r.core k) refl
      (not_waiting f r.core r.net r.kept r.narrow k near (sym (r.shows.counter_is k near) ∙ word));
  next_empty = λ j v h at holds left. let is = (r.seats j v at).held h holds in
      let c : ℕ = get_or (writes_of f.net h.strand) h.published 0 in
      let none-there = r.kept.sound.fills_first.filled h.strand h.published left
      ∙ ap (λ (q : Phase). nat_lt h.published (published_at f.net h.strand q)) is
      ∙ le-ltb h.published h.published (omega arith) in
      r.shows.cell_is c (r.net.writes_near h.strand c
      (is_in_at (writes_of f.net h.strand) h.published left))
      ∙ empty_word (cell_of r.core c) none-there;
}
