-- What each call asks of the table, and what it knows of its seat afterwards
use Rattle.std.proofs.Common.{◌≡◌, ℕ, ◌+◌, ◌-◌, ◌%◌, ◌^◌, ◌<◌, ◌≤◌, min, Bool, ◌==◌, IsTrue}
use Rattle.std.proofs.Common.{◌↔◌, List, [], get_or, refl, sym, ◌∙◌, ap, subst, arith, Option, Some}
use Rattle.std.proofs.Common.{None, unwrap_or}
use mathlib.Core.Option.{some, none}
use prog.Atomic.{either}
use Rattle.std.proofs.lemmas.Bool.{eq-eqb, eqb-true}
use Rattle.gold_field.specs.declared.gold.TheConstants.{P}
use Rattle.atomic_table.specs.Table.{Allows, Splits, Joins, Final, Seen, step, keeps}
use Rattle.atomic_table.specs.Seated.{TableId}
use Rattle.flow_core.specs.declared.Hold.{Hold}
use Rattle.flow_core.specs.Net.{Net, writes_of, succs_of}
use Rattle.flow_core.specs.Flow.{Flow, HasValue}
use Rattle.flow_core.proofs.Totals.{is_in_at}
use Rattle.flow_core.proofs.Nets.{writes_few, succs_few, succs_near}
use Rattle.flow_board.specs.declared.view.View.{View}
use Rattle.flow_board.specs.declared.rule.TheConstants.{TAKEN}
use Rattle.flow_board.specs.Shows.{cell_at, counter_at}
use Rattle.flow_board.specs.Views.{after_step, after_take, after_split, cut_from, joined_with}
use Rattle.flow_board.specs.Views.{spent}
use Rattle.flow_board.specs.Rule.{Ruled}
use Rattle.flow_board.specs.Plays.{SeatState, Reads, CanPublish, CanRelease, CanFinish}
use Rattle.flow_board.specs.Plays.{CanRefuse, read_play, publish_play, release_play, take_play}
use Rattle.flow_board.specs.Plays.{finish_play, refuse_play, look_play}
use Rattle.flow_board.specs.Seats.{Place, Worker, place, worker, place_of, with_view, Stands}
use Rattle.flow_board.proofs.Steps.{reads_cell, looks, publishes, releases_next, finishes, refuses}
use Rattle.flow_board.proofs.Steps.{takes}
use Rattle.flow_board.specs.Closed.{ShowsEnd, closed_words, AreInRange}
use Rattle.flow_board.proofs.Ends.{closed, closing_fits}
use Rattle.flow_board.proofs.Sharing.{splits, joins}

-- a seat, open, of a board, open
pub record Sits (f : Flow) (net : Net) (cells strands : ℕ) (z' z : TableId) (me : SeatState)
    (held : Option Hold) (w : Worker) (p : Place) : Type 0 where
  pub stands : Stands f net cells strands z'
  pub seat_is : worker z me.0 ≡ w
  pub board_is : place z' f ≡ p
  pub own : place_of w ≡ p
  pub kept : (me.0.holding ≡ held) × (0 < me.0.share) × (me.1 ≡ [])

module _ {f : Flow} {net : Net} {cells strands : ℕ} {z' z : TableId} {me : SeatState}
    {held : Option Hold} {w : Worker} {p : Place} where
  pub sits : Stands f net cells strands z' → worker z me.0 ≡ w → place z' f ≡ p → place_of w ≡ p
      → (me.0.holding ≡ held) × (0 < me.0.share) × (me.1 ≡ [])
      → Sits f net cells strands z' z me held w p
  sits stands seat-is board-is own kept =
      record { stands = stands; seat_is = seat-is; board_is = board-is; own = own; kept = kept }

-- what a seat's invariant asks after a step
pub seat_fits : (n : SeatState) (u : View) (cs : List (ℕ × ℕ)) (held : Option Hold) → n ≡ (u, cs)
    → u.holding ≡ held → 0 < u.share → cs ≡ [] → (n.0.holding ≡ held) × (0 < n.0.share) × (n.1 ≡ [])
seat_fits n u cs held e h s c = (
  ap (λ (m : SeatState). m.0.holding) e
      ∙ h,
  (let q : n.0.share ≡ u.share = ap (λ (m : SeatState). m.0.share) e in omega arith),
  ap (λ (m : SeatState). m.1) e ∙ c,
)

module _ {f : Flow} {net : Net} {cells strands : ℕ} {z' z : TableId} {me : SeatState}
    {held : Option Hold} {w : Worker} {p : Place} (sat : Sits f net cells strands z' z me held w p)
  where
    st : Stands f net cells strands z'
    st = sat.stands

    same_place : place z me.0.flow ≡ place z' f
    same_place = ap place_of sat.seat_is ∙ sat.own ∙ sym sat.board_is

    pub same_table : z ≡ z'
    same_table = ap (λ (x : Place). x.table_id) same_place

    same_flow : f ≡ p.flow
    same_flow = ap (λ (x : Place). x.flow) sat.board_is

    same_holding : w.view.holding ≡ me.0.holding
    same_holding = ap (λ (x : Worker). x.view.holding) (sym sat.seat_is)

    live : 0 < me.0.share
    live = sat.kept.1

    -- the conditions of a call, of the flow that its board is made with and of the view
    pub reads_here : (c : ℕ) → Reads p.flow w.view.holding c → Reads f me.0.holding c
    reads_here c h = let R : Flow → Type 0 = λ g. Reads g w.view.holding c in
        let S : Option Hold → Type 0 = λ o. Reads f o c in
        subst S same_holding (subst R (sym same_flow) h)

    pub can_publish_here : (x : ℕ) → CanPublish p.flow w.view.holding x
        → CanPublish f me.0.holding x
    can_publish_here x h = let R : Flow → Type 0 = λ g. CanPublish g w.view.holding x in
        let S : Option Hold → Type 0 = λ o. CanPublish f o x in
        subst S same_holding (subst R (sym same_flow) h)

    pub can_release_here : CanRelease p.flow w.view.holding → CanRelease f me.0.holding
    can_release_here h = let R : Flow → Type 0 = λ g. CanRelease g w.view.holding in
        let S : Option Hold → Type 0 = λ o. CanRelease f o in
        subst S same_holding (subst R (sym same_flow) h)

    pub can_finish_here : CanFinish p.flow w.view.holding → CanFinish f me.0.holding
    can_finish_here h = let R : Flow → Type 0 = λ g. CanFinish g w.view.holding in
        let S : Option Hold → Type 0 = λ o. CanFinish f o in
        subst S same_holding (subst R (sym same_flow) h)

    pub can_refuse_here : CanRefuse p.flow w.view.holding → CanRefuse f me.0.holding
    can_refuse_here h = let R : Flow → Type 0 = λ g. CanRefuse g w.view.holding in
        let S : Option Hold → Type 0 = λ o. CanRefuse f o in
        subst S same_holding (subst R (sym same_flow) h)

    pub take_asks : (id : ℕ) → (k : ℕ) → w.view.holding ≡ None → k < p.flow.net.strands
        → (z ≡ z') × (1 + cells + k < z'.words) × Allows (Ruled f) z'.slots id me (1 + cells + k)
        (λ n. either (n == 0) TAKEN n)
        (take_play (step z'.slots (1 + cells + k) 0 TAKEN (some k)) me)
    take_asks id k free near = let e = st.cells_are in let s = st.strands_are in
        let ws = st.words_are in
        let near-f : k < f.net.strands = let N : Flow → Type 0 = λ g. k < g.net.strands in
        subst N (sym same_flow) near in
        let A : ℕ → Type 0 = λ c. Allows (Ruled f) z'.slots id me (1 + c + k)
        (λ n. either (n == 0) TAKEN n)
        (take_play (step z'.slots (1 + c + k) 0 TAKEN (some k)) me) in (
          same_table,
          omega arith,
          subst A (sym e) (λ t r _ at small. let x =
              takes f z'.slots id me live k (sym same_holding ∙ free) near-f t r at small in
              (x.0, keeps, tt, x.1, x.3)),
        )

    pub read_asks : (id : ℕ) → (c : ℕ) → Reads p.flow w.view.holding c
        → (z ≡ z') × (1 + c < z'.words) × Allows (Ruled f) z'.slots id me (1 + c) (λ n. n)
        (read_play (step z'.slots (1 + c) 0 0 none) me)
    read_asks id c reads = let h = reads_here c reads in
        let in-net = st.net.reads_near h.0.strand c h.2 in let ws = st.words_are in (
          same_table,
          omega arith,
          λ t r _ at small. let x = reads_cell f z'.slots id me live (1 + c)
              (omega arith) (omega arith) t r at small in (x.0, keeps, tt, x.1, x.3),
        )

    pub read_gives : (c r : ℕ) (n : SeatState) → Reads p.flow w.view.holding c
        → read_play (step z'.slots (1 + c) 0 0 none) me r n → (x : ℕ) × (r ≡ x + 1)
        × HasValue p.flow c x × (x < P)
    read_gives c r n reads told = let h = reads_here c reads in
        let flow-is : me.0.flow ≡ f = ap (λ (x : Place). x.flow) same_place in
        let R : Flow → Type 0 = λ g. Reads g me.0.holding c in
        let v = told.1 c refl (subst R (sym flow-is) h) in
        let H : Flow → Type 0 = λ g. HasValue g c v.0 in let here = subst H flow-is v.2 in
        (v.0, v.1, subst H same_flow here, v.3)

    pub publish_asks : (id : ℕ) → (c x : ℕ) (h : Hold) → held ≡ Some h
        → CanPublish p.flow w.view.holding x → x < P
        → c ≡ get_or (writes_of net h.strand) h.published 0
        → (z ≡ z') × (1 + c < z'.words) × Allows (Ruled f) z'.slots id me (1 + c) (λ _. x + 1)
        (λ _. publish_play (step z'.slots (1 + c) (x + 1) 0 none) me (x + 1))
    publish_asks id c x h is next below c-is = let q = can_publish_here x next in
        let each = st.flow.values_each q.held.strand q.values q.gives in let left = q.left in
        let same-hold : h ≡ q.held = ap (λ (o : Option Hold). unwrap_or o h)
        (sym is ∙ sym sat.kept.0
        ∙ q.holds) in
        let C : Net → Hold → Type 0 = λ g y. c ≡ get_or (writes_of g y.strand) y.published 0 in
        let N : Net → Type 0 = λ g. C g h in let H : Hold → Type 0 = λ y. C f.net y in
        let at : c ≡ get_or (writes_of f.net q.held.strand) q.held.published 0 =
        subst H same-hold (subst N (sym st.same_net) c-is) in
        let M : ℕ → Type 0 = λ d. d < f.net.cells in
        let in-net : c < f.net.cells =
        subst M (sym at) (st.net.writes_near q.held.strand
        (get_or (writes_of f.net q.held.strand) q.held.published 0)
        (is_in_at (writes_of f.net q.held.strand) q.held.published (omega arith))) in
        let ws = st.words_are in (
          same_table,
          omega arith,
          λ t r _ here small. let y =
              publishes f z'.slots id me live c x q below at t r here small in
              (y.0, keeps, tt, y.1, y.3),
        )

    pub release_asks : (id : ℕ) → (j : ℕ) (h : Hold) → held ≡ Some h
        → CanRelease p.flow w.view.holding → j ≡ get_or (succs_of net h.strand) h.released 0
        → (z ≡ z') × (1 + cells + j < z'.words) × Allows (Ruled f) z'.slots id me (1 + cells + j)
        (λ n. (n + (2 ^ 64 - 1)) % 2 ^ 64)
        (release_play (step z'.slots (1 + cells + j) 1 0 none) me)
    release_asks id j h is next j-is = let q = can_release_here next in
        let same-hold : h ≡ q.held = ap (λ (o : Option Hold). unwrap_or o h)
        (sym is ∙ sym sat.kept.0
        ∙ q.holds) in
        let C : Net → Hold → Type 0 = λ g y. j ≡ get_or (succs_of g y.strand) y.released 0 in
        let N : Net → Type 0 = λ g. C g h in let H : Hold → Type 0 = λ y. C f.net y in
        let at : j ≡ get_or (succs_of f.net q.held.strand) q.held.released 0 =
        subst H same-hold (subst N (sym st.same_net) j-is) in
        let M : ℕ → Type 0 = λ d. d < f.net.strands in
        let in-net : j < f.net.strands =
        subst M (sym at) (succs_near f.net st.net q.held.strand
        (get_or (succs_of f.net q.held.strand) q.held.released 0)
        (is_in_at (succs_of f.net q.held.strand) q.held.released q.left)) in
        let e = st.cells_are in let ws = st.words_are in
        let A : ℕ → Type 0 = λ c. Allows (Ruled f) z'.slots id me (1 + c + j)
        (λ n. (n + (2 ^ 64 - 1)) % 2 ^ 64) (release_play (step z'.slots (1 + c + j) 1 0 none) me)
        in (
          same_table,
          omega arith,
          subst A (sym e) (λ t r _ here small. let x =
              releases_next f z'.slots id me live j q at t r here small in
              (x.0, keeps, tt, x.1, x.3)),
        )

    first_word : 0 < z'.words
    first_word = let ws = st.words_are in omega arith

    pub finish_asks : (id : ℕ) → CanFinish p.flow w.view.holding → (z ≡ z') × (0 < z'.words)
        × Allows (Ruled f) z'.slots id me 0 (λ n. n) (finish_play (step z'.slots 0 0 0 none) me)
    finish_asks id next = (
      same_table,
      first_word,
      λ t r _ at small. let x =
          finishes f z'.slots id me live (can_finish_here next) t r at small in
          (x.0, keeps, tt, x.1, x.3),
    )

    pub refuse_asks : (id : ℕ) → (k : ℕ) (h : Hold) → held ≡ Some h
        → CanRefuse p.flow w.view.holding → k ≡ h.strand → (z ≡ z') × (0 < z'.words)
        × Allows (Ruled f) z'.slots id me 0 (λ n. min n k)
        (refuse_play (step z'.slots 0 k 0 none) me)
    refuse_asks id k h is next k-is = let q = can_refuse_here next in
        let same-hold : h ≡ q.held = ap (λ (o : Option Hold). unwrap_or o h)
        (sym is ∙ sym sat.kept.0
        ∙ q.holds) in (
          same_table,
          first_word,
          λ t r _ at small. let x =
              refuses f z'.slots id me live k q (k-is ∙ ap (λ (y : Hold). y.strand) same-hold)
              t r at
              small in (x.0, keeps, tt, x.1, x.3),
        )

    pub look_asks : (id : ℕ) → (z ≡ z') × (0 < z'.words)
        × Allows (Ruled f) z'.slots id me 0 (λ n. n)
        (look_play (step z'.slots 0 0 0 none) me)
    look_asks id = (
      same_table,
      first_word,
      λ t r _ at small. let x =
          looks f z'.slots id me live t r at small in (x.0, keeps, tt, x.1, x.3),
    )

    pub split_asks : (id : ℕ) → w.view.holding ≡ None → 2 ≤ w.view.share → (z ≡ z') × (0 < z'.words)
        × Splits (Ruled f) id me.0 (after_split me.0) (cut_from me.0)
    split_asks id free many = let e : w.view.share ≡ me.0.share =
        ap (λ (x : Worker). x.view.share) (sym sat.seat_is) in
        (same_table, first_word, splits f id me.0 (sym same_holding ∙ free) (omega arith))

    -- the seat afterwards, closed
    pub seat_after : (y : TableId) (n : SeatState) (u : View) → y ≡ z → n ≡ (u, me.1)
        → worker y n.0 ≡ worker z u
    seat_after y n u e e' = λ i. worker (e i) (e' i).0

    pub read_leaves : (y : TableId) (n : SeatState) (c r x : ℕ) → y ≡ z
        → n ≡ (after_step me.0 (1 + c) r, me.1) → r ≡ x + 1
        → worker y n.0 ≡ with_view w (after_step w.view (cell_at c) (x + 1))
    read_leaves y n c r x e told is = seat_after y n (after_step me.0 (1 + c) r) e told
        ∙ (λ i. worker z (after_step me.0 (1 + c) (is i)))
        ∙ ap (λ (v : Worker). with_view v (after_step v.view (cell_at c) (x + 1))) sat.seat_is

    counter_here : (k : ℕ) → 1 + cells + k ≡ counter_at p.flow k
    counter_here k = let e = st.cells_are in
        let C : Flow → Type 0 = λ g. 1 + f.net.cells + k ≡ counter_at g k in
        let here : 1 + f.net.cells + k ≡ counter_at p.flow k = subst C same_flow refl in
        omega arith

    pub take_found : (r : ℕ) (b : Bool) (n : SeatState) (u : View) → b ≡ (r == 0) → n ≡ (u, me.1)
        → u.found ≡ r → IsTrue b ↔ (n.0.found ≡ 0)
    take_found r b n u b-is e t =
        let found : n.0.found ≡ r = ap (λ (m : SeatState). m.0.found) e ∙ t in
        ((λ q. found ∙ eqb-true r 0 (sym b-is ∙ q)), λ q. b-is ∙ eq-eqb r 0 (sym found ∙ q))

    pub take_leaves : (y : TableId) (n : SeatState) (r k : ℕ) (b : Bool) → y ≡ z
        → n ≡ (after_take me.0 (1 + cells + k) r k (r == 0), me.1) → b ≡ (r == 0)
        → worker y n.0 ≡ with_view w (after_take w.view (counter_at p.flow k) n.0.found k b)
    take_leaves y n r k b e told b-is =
        let found : r ≡ n.0.found = ap (λ (m : SeatState). m.0.found) (sym told) in
        seat_after y n (after_take me.0 (1 + cells + k) r k (r == 0)) e told
        ∙ (λ i. worker z (after_take me.0 (counter_here k i) (found i) k (sym b-is i)))
        ∙ ap (λ (x : Worker). with_view x (after_take x.view (counter_at p.flow k) n.0.found k b))
        sat.seat_is

    pub publish_small : (x : ℕ) (h : Hold) → held ≡ Some h → CanPublish p.flow w.view.holding x
        → h.published + 1 < 4294967296
    publish_small x h is next = let q = can_publish_here x next in
        let each = st.flow.values_each q.held.strand q.values q.gives in let left = q.left in
        let same-hold : h ≡ q.held = ap (λ (o : Option Hold). unwrap_or o h)
        (sym is ∙ sym sat.kept.0
        ∙ q.holds) in
        let few = writes_few f.net st.net q.held.strand in let small = st.cells_narrow in
        let e : h.published ≡ q.held.published = ap (λ (y : Hold). y.published) same-hold in
        omega arith

    pub release_small : (h : Hold) → held ≡ Some h → CanRelease p.flow w.view.holding
        → h.released + 1 < 4294967296
    release_small h is next = let q = can_release_here next in let left = q.left in
        let same-hold : h ≡ q.held = ap (λ (o : Option Hold). unwrap_or o h)
        (sym is ∙ sym sat.kept.0
        ∙ q.holds) in
        let few = succs_few f.net st.net q.held.strand in let small = st.narrow in
        let e : h.released ≡ q.held.released = ap (λ (y : Hold). y.released) same-hold in
        omega arith

    pub join_asks : (id : ℕ) → (o-z : TableId) (o-id : ℕ) (o-me : SeatState) (o-held : Option Hold)
        (o : Worker) → worker o-z o-me.0 ≡ o → (o-me.0.holding ≡ o-held) × (0 < o-me.0.share)
        × (o-me.1 ≡ []) → place_of o ≡ p → w.view.holding ≡ None → o.view.holding ≡ None
        → (z ≡ z') × (o-z ≡ z') × (o-me.1 ≡ []) × (0 < z'.words)
        × Joins (Ruled f) id me.0 o-id o-me.0 (joined_with me.0 o-me.0) spent
    join_asks id o-z o-id o-me o-held o is kept own free o-free =
        let o-place : place o-z o-me.0.flow
        ≡ place z' f = ap place_of is ∙ own ∙ sym sat.board_is in (
          same_table,
          ap (λ (x : Place). x.table_id) o-place,
          kept.2,
          first_word,
          joins f id o-id me.0 o-me.0 (sym same_holding ∙ free)
              (ap (λ (x : Worker). x.view.holding) is
              ∙ o-free) live kept.1,
        )

    closes_here : (id : ℕ) → (ws xs : List ℕ) → w.view.holding ≡ None → w.view.share ≡ 65
        → Final (Seen (Ruled f) id me.0) ws xs → ShowsEnd f me.0.done me.0.refused ws
    closes_here id ws xs free whole h = let e : me.0.share ≡ w.view.share =
        ap (λ (x : Worker). x.view.share) sat.seat_is in
        closed f id me.0 ws xs (sym same_holding ∙ free) (e ∙ whole) h

    pub closes_with : (id : ℕ) → (ws xs vs : List ℕ) → w.view.holding ≡ None → w.view.share ≡ 65
        → Final (Seen (Ruled f) id me.0) ws xs → vs ≡ ws
        → ShowsEnd p.flow w.view.done w.view.refused vs
    closes_with id ws xs vs free whole h e = let C : List ℕ
        → Type 0 = ShowsEnd p.flow w.view.done w.view.refused in
        let W : Worker → Type 0 = λ x. ShowsEnd p.flow x.view.done x.view.refused ws in
        let F : Flow → Type 0 = λ g. ShowsEnd g me.0.done me.0.refused ws in
        subst C (sym e) (subst W sat.seat_is
        (subst F same_flow (closes_here id ws xs free whole h)))

    pub closing_is : (id : ℕ) → (ws xs vs : List ℕ) → w.view.holding ≡ None → w.view.share ≡ 65
        → Final (Seen (Ruled f) id me.0) ws xs → vs ≡ ws
        → AreInRange (closed_words cells strands vs)
    closing_is id ws xs vs free whole h e = let fits = closing_fits f me.0.done me.0.refused ws
        (closes_here id ws xs free whole h) in
        let C : ℕ → Type 0 = λ n. AreInRange (closed_words n strands vs) in
        let K : ℕ → Type 0 = λ n. AreInRange (closed_words f.net.cells n vs) in
        let W : List ℕ → Type 0 = λ us. AreInRange (closed_words f.net.cells f.net.strands us) in
        subst C (sym st.cells_are) (subst K (sym st.strands_are) (subst W (sym e) fits))
