-- One step of one seat keeps the rule
use Rattle.std.proofs.Common.{◌≡◌, ◌≢◌, ℕ, ◌+◌, ◌<◌, ◌≤◌, List, length, set, refl, sym, ◌∙◌}
use Rattle.std.proofs.Common.{ap, subst, inl, inr, ◌⊎◌, ⊎_elim, arith, Option, Some}
use Rattle.std.proofs.Common.{get_or-set_same}
use mathlib.Core.Option.{some, some-injective}
use lib.ListN.{get_elem?}
use Rattle.std.proofs.lemmas.Bool.{cases_eq}
use Rattle.atomic_table.specs.Table as table
use Rattle.atomic_table.proofs.Lists.{at_set, set_here, set_else}
use Rattle.flow_core.specs.declared.Phase.{Phase}
use Rattle.flow_core.specs.declared.Phase.TheVariants.{Waiting, Held}
use Rattle.flow_core.specs.declared.State.{State}
use Rattle.flow_core.specs.declared.Hold.{Hold}
use Rattle.flow_core.specs.Counts.{times}
use Rattle.flow_core.specs.Flow.{Flow}
use Rattle.flow_core.specs.Core.{phase_of, IsKept}
use Rattle.flow_core.specs.Events.{hold}
use Rattle.flow_core.proofs.Lists.{set_all}
use Rattle.flow_board.specs.declared.view.View.{View}
use Rattle.flow_board.specs.Shows.{least_word, Shows}
use Rattle.flow_board.specs.Rule.{done_mark, refused_mark, HasNumbers, SeatFits, Ruled}
use Rattle.flow_board.specs.Events.{Shown}
use Rattle.flow_board.proofs.Views.{place_within, total-set}

abbrev pub Board : Type 0
Board = table.State ℕ View

abbrev pub state : List (Option ℕ) → List ℕ → List Phase → Option ℕ → State
state cs ms ps l = record { cells = cs; missing = ms; phase = ps; least = l }

module _ (f : Flow) (t : Board) (r : Ruled f t) (id : ℕ) (v : View)
    (at : get_elem? t.views id ≡ some v) where
  pub moved : (w : View) (s : State) (ws : List ℕ) → IsKept f s → HasNumbers s.cells → Shows f s ws
      → SeatFits f s id w → least_word f s.least ≤ least_word f r.core.least
      → ((k j a b : ℕ) → j ≢ id → phase_of r.core k ≡ Held j a b → phase_of s k ≡ Held j a b)
      → ((k j a b : ℕ) → phase_of s k ≡ Held j a b → ((j ≡ id) × (w.holding ≡ Some (hold k a b)))
      ⊎ ((j ≢ id) × (phase_of r.core k ≡ Held j a b)))
      → ((k : ℕ) → times k w.done + done_mark (phase_of r.core k) ≡ times k v.done + done_mark
      (phase_of s k))
      → ((k : ℕ) → times k w.refused + refused_mark (phase_of r.core k)
      ≡ times k v.refused + refused_mark (phase_of s k))
      → w.share ≡ v.share
      → Shown f record { words = ws; homes = t.homes; views = set t.views id w } s
  moved w s ws kept numbers shows fits less others back done stopped share =
      let next : Ruled f record { words = ws; homes = t.homes; views = set t.views id w } = record {
        core = s;
        narrow = r.narrow;
        net = r.net;
        flow = r.flow;
        kept = kept;
        numbers = numbers;
        shows = shows;
        seats = λ j u e. ⊎_elim
            (λ x. let P : View → Type 0 = SeatFits f s j in
            let Q : ℕ → Type 0 = λ i. SeatFits f s i w in subst P x.1 (subst Q (sym x.0) fits))
            (λ x. let o = r.seats j u x.1 in record {
              joined = o.joined;
              same_flow = o.same_flow;
              held = λ h e'. others h.strand j h.published h.released x.0 (o.held h e');
              seen = λ some-share. let a = o.seen some-share in omega arith;
            }) (at_set t.views id j w u e);
        holder = λ k j a b e. ⊎_elim
            (λ x. let Q : ℕ → Type 0 = λ i. get_elem? (set t.views id w) i ≡ some w in
            (w, subst Q (sym x.0) (set_here t.views id w (place_within t.views id v at)), x.1))
            (λ x. let o = r.holder k j a b x.1 in (o.0, set_else t.views id j w x.0 ∙ o.1, o.2))
            (back k j a b e);
        done_is = λ k. let m = total-set (λ (u : View). times k u.done) t.views id v w at in
            let d = done k in let o = r.done_is k in omega arith;
        refused_is = λ k. let m = total-set (λ (u : View). times k u.refused) t.views id v w at in
            let d = stopped k in let o = r.refused_is k in omega arith;
        shares = let m = total-set (λ (u : View). u.share) t.views id v w at in let o = r.shares in
            omega arith;
      } in (next, refl)

  -- the strand k, which no other seat holds, goes to the phase p
  pub moves : (k : ℕ) (p : Phase) (w : View) (cs : List (Option ℕ)) (ms : List ℕ) (l : Option ℕ)
      (ws : List ℕ)
      → let s : State = state cs ms (set r.core.phase k p) l in
      k < length r.core.phase → IsKept f s → HasNumbers cs → Shows f s ws
      → least_word f l ≤ least_word f r.core.least
      → ((j a b : ℕ) → j ≢ id → phase_of r.core k ≢ Held j a b)
      → ((h : Hold) → v.holding ≡ Some h → h.strand ≡ k)
      → ((j a b : ℕ) → p ≡ Held j a b → (j ≡ id) × (w.holding ≡ Some (hold k a b)))
      → ((h : Hold) → w.holding ≡ Some h → (h.strand ≡ k) × (p ≡ Held id h.published h.released))
      → ((i : ℕ) → i ≢ k → times i w.done ≡ times i v.done)
      → times k w.done + done_mark (phase_of r.core k) ≡ times k v.done + done_mark p
      → ((i : ℕ) → i ≢ k → times i w.refused ≡ times i v.refused)
      → times k w.refused + refused_mark (phase_of r.core k)
      ≡ times k v.refused + refused_mark p
      → w.share ≡ v.share → 0 < v.share → w.flow ≡ f → least_word f l ≤ w.seen
      → Shown f record { words = ws; homes = t.homes; views = set t.views id w } s
  moves k p w cs ms l ws near kept numbers shows less mine only-k new-held new-holding done-else
      done-k refused-else refused-k share live flow seen = let s : State =
      state cs ms (set r.core.phase k p) l in
      let all = set_all r.core.phase k p Waiting in
      moved w s ws kept numbers shows
      record {
        joined = λ e. absurd (omega arith);
        same_flow = λ _. flow;
        held = λ h e. let x = new-holding h e in
            let Q : ℕ → Type 0 = λ i. phase_of s i ≡ Held id h.published h.released in
            subst Q (sym x.0) (get_or-set_same r.core.phase k p Waiting near ∙ x.1);
        seen = λ _. seen;
      }
      less
      (λ i j a b ne. all (λ i q. phase_of r.core i ≡ Held j a b → q ≡ Held j a b) near
      (λ e. absurd (mine j a b ne e)) (λ i _ e. e) i)
      (λ i j a b. all (λ i q. q ≡ Held j a b → ((j ≡ id) × (w.holding ≡ Some (hold i a b)))
      ⊎ ((j ≢ id) × (phase_of r.core i ≡ Held j a b))) near
      (λ e. inl (new-held j a b e))
      (λ i ne e. elim (cases_eq j id) [
        | inl same-j ↦ (let o = r.holder i j a b e in
            let Q : ℕ → Type 0 = λ m. get_elem? t.views m ≡ some o.0 in
            let there = subst Q same-j o.1 in
            let same-view : o.0 ≡ v = some-injective _ _ (sym there ∙ at) in
            absurd (ne (only-k (hold i a b) (ap (λ (u : View). u.holding) (sym same-view) ∙ o.2))))
        | inr other ↦ inr (other, e)
      ]) i)
      (λ i. all (λ i q. times i w.done + done_mark (phase_of r.core i)
      ≡ times i v.done + done_mark q) near done-k (λ i ne. let e = done-else i ne in
      omega arith) i)
      (λ i. all (λ i q. times i w.refused + refused_mark (phase_of r.core i)
      ≡ times i v.refused + refused_mark q) near refused-k (λ i ne. let e =
      refused-else i ne in omega arith) i)
      share

  -- what the seat has seen changes, and nothing else
  pub notes : (w : View) → w.holding ≡ v.holding → w.done ≡ v.done → w.refused ≡ v.refused
      → w.share ≡ v.share → 0 < v.share → w.flow ≡ f → least_word f r.core.least ≤ w.seen
      → Shown f record { words = t.words; homes = t.homes; views = set t.views id w } r.core
  notes w holding done refused share live flow seen = let o = r.seats id v at in
      moved w r.core t.words r.kept r.numbers r.shows
      record {
        joined = λ e. absurd (omega arith);
        same_flow = λ _. flow;
        held =
            λ h e. o.held h (sym holding ∙ e);
        seen = λ _. seen;
      }
      (omega arith)
      (λ k j a b _ e. e)
      (λ k j a b e. elim (cases_eq j id) [
        | inl same-j ↦ (let x = r.holder k j a b e in
            let Q : ℕ → Type 0 = λ m. get_elem? t.views m ≡ some x.0 in
            let there = subst Q same-j x.1 in
            let same-view : x.0 ≡ v = some-injective _ _ (sym there ∙ at) in
            inl (same-j, holding ∙ ap (λ (u : View). u.holding) (sym same-view) ∙ x.2))
        | inr other ↦ inr (other, e)
      ])
      (λ k. let e : times k w.done ≡ times k v.done = ap (times k) done in omega arith)
      (λ k. let e : times k w.refused ≡ times k v.refused = ap (times k) refused in omega arith)
      share
