-- Each kind of step on a word is allowed: it keeps the rule, and tells what its caller is promised
use Rattle.std.proofs.Common.{◌≡◌, ◌≢◌, ℕ, zero, suc, ◌+◌, ◌-◌, ◌%◌, ◌^◌, ◌<◌, ◌≤◌, min, Bool, true}
use Rattle.std.proofs.Common.{cond, ◌==◌, List, ◌∷◌, length, take, get_or, set, refl, sym, ◌∙◌, ap}
use Rattle.std.proofs.Common.{subst, inl, inr, ◌⊎◌, arith, Option, Some, None, unwrap_or, is_some}
use Rattle.std.proofs.Common.{MatchOption}
use mathlib.Core.Option.{some, some-injective, none}
use prog.Atomic.{either}
use lib.ListN.{get_elem?}
use Rattle.std.specs.Option.{option_map_or}
use Rattle.std.proofs.lemmas.Bool.{cases_lt, eq-eqb, ne_eqb, lt-ltb}
use Rattle.std.proofs.lemmas.List.{set-get_or, get_or_past}
use Rattle.atomic_table.specs.Table.{step, keeps, stepped}
use Rattle.atomic_table.proofs.Lists.{exchanged}
use Rattle.gold_field.specs.declared.gold.TheConstants.{P}
use Rattle.flow_core.specs.declared.Event.{Event}
use Rattle.flow_core.specs.declared.Event.TheVariants.{Take, Publish, Release, Finish, Refuse}
use Rattle.flow_core.specs.declared.Phase.{Phase}
use Rattle.flow_core.specs.declared.Phase.TheVariants.{Waiting, Held, Done, Refused}
use Rattle.flow_core.specs.declared.State.{State}
use Rattle.flow_core.specs.declared.Hold.{Hold}
use Rattle.flow_core.specs.Counts.{times, IsIn}
use Rattle.flow_core.specs.Net.{Net, IsNet, reads_of, writes_of, preds_of, succs_of}
use Rattle.flow_core.specs.Flow.{Flow, IsFlow, Refuses, HasValue, start_of, answer_of}
use Rattle.flow_core.specs.Core.{cell_of, missing_of, phase_of, published_at, released_at, releases}
use Rattle.flow_core.specs.Core.{IsKept}
use Rattle.flow_core.specs.Events.{hold}
use Rattle.flow_core.proofs.Totals.{same_yes, same_no, total_full, is_in_at, place_of}
use Rattle.flow_core.proofs.Steady.{steady, Next, next_waits, release_le}
use Rattle.flow_core.proofs.Lists.{set_all}
use Rattle.flow_board.specs.declared.view.View.{View}
use Rattle.flow_board.specs.declared.rule.TheConstants.{TAKEN}
use Rattle.flow_board.specs.Shows.{cell_at, counter_at, least_word, cell_word, counter_word, Shows}
use Rattle.flow_board.specs.Rule.{done_mark, refused_mark, HasNumbers, Ruled}
use Rattle.flow_board.specs.Events.{Becomes, Shown, Evolves, WordSteps, taking}
use Rattle.flow_board.specs.Views.{one_published, one_released, with_held, after_step, after_take}
use Rattle.flow_board.specs.Views.{after_look}
use Rattle.flow_board.specs.Plays.{SeatState, Reads, CanPublish, CanRelease, CanFinish, CanRefuse}
use Rattle.flow_board.specs.Plays.{read_play, publish_play, release_play, take_play, finish_play}
use Rattle.flow_board.specs.Plays.{refuse_play, look_play}
use Rattle.flow_board.proofs.Kept.{Makes, take_made, publish_made, release_made, finish_made}
use Rattle.flow_board.proofs.Kept.{refuse_made, no_successor}
use Rattle.flow_board.proofs.Showing.{counter_free, lesser, shows_cell, shows_release, shows_take}
use Rattle.flow_board.proofs.Showing.{shows_turn, shows_least}
use Rattle.flow_board.proofs.Moved.{Board, state, moves, notes}

some_inj : (x y : Hold) → Some x ≡ Some y → x ≡ y
some_inj x y e = ap (λ (o : Option Hold). unwrap_or o x) e

-- a strand that has a phase of its own is in range
pub strand_near : (f : Flow) (s : State) → IsKept f s → (k : ℕ) → phase_of s k ≢ Waiting
    → k < f.net.strands
strand_near f s h k ne = elim (cases_lt k f.net.strands) [
  | inl near ↦ near
  | inr far ↦ let each = h.sound.fits.phase_each in
      absurd (ne (get_or_past s.phase k Waiting (omega arith)))
]

filled_some : (o : Option ℕ) → is_some o ≡ true → (x : ℕ) × (o ≡ Some x)
filled_some None e = cc
filled_some (Some x) e = (x, refl)

pub cases_start : (o : Option ℕ) → (o ≡ None) ⊎ ((x : ℕ) × (o ≡ Some x))
cases_start None = inl refl
cases_start (Some x) = inr (x, refl)

some_taken : (x b : ℕ) (xs : List ℕ) → 0 < times x (take b xs) → 0 < b
some_taken x zero xs h = absurd (omega arith)
some_taken x (suc b) xs h = omega arith

-- a strand that has released another has published all
all_published : (n : Net) (s : State) (q : ℕ) (p : Phase) (k : ℕ) → phase_of s q ≡ p
    → ((q w a b : ℕ) → phase_of s q ≡ Held w a b → 0 < b → a ≡ length (writes_of n q))
    → times k (take (released_at n q p) (succs_of n q)) ≡ 1
    → published_at n q p ≡ length (writes_of n q)
all_published n s q Waiting k is first e = absurd (omega arith)
all_published n s q (Held w a b) k is first e =
    first q w a b is (some_taken k b (succs_of n q) (omega arith))
all_published n s q Done k is first e = refl
all_published n s q Refused k is first e = absurd (omega arith)

-- a cell that a begun strand reads has its value
read_value : (f : Flow) (ok : IsNet f.net) (flow : IsFlow f) (s : State) → IsKept f s → (k c : ℕ)
    → phase_of s k ≢ Waiting → IsIn c (reads_of f.net k) → (x : ℕ) × (cell_of s c ≡ Some x)
    × HasValue f c x
read_value f ok flow s h k c begun reads = elim (cases_start (start_of f c)) [
  | inl no-start ↦ (
      let w = flow.written_or_start c (ok.reads_near k c reads) no-start in let q : ℕ = w.0 in
      let is-pred : IsIn q (preds_of f.net k) = (ok.preds_feed q k).1 (c, w.1, reads) in
      let all : releases f.net s k q ≡ 1 = total_full (releases f.net s k) q (preds_of f.net k)
      (release_le f.net ok s k) (h.sound.begun_released k begun) is-pred in
      let place = place_of c (writes_of f.net q) w.1 in
      let full : published_at f.net q (phase_of s q) ≡ length (writes_of f.net q) =
      all_published f.net s q (phase_of s q) k refl h.sound.fills_first.published_first all in
      let filled = h.sound.fills_first.filled q place.0 place.1
      ∙ lt-ltb place.0 (published_at f.net q (phase_of s q)) (let p = place.1 in omega arith) in
      let P : ℕ → Type 0 = λ (d : ℕ). is_some (cell_of s d) ≡ true in
      let v = filled_some (cell_of s c) (subst P place.2 filled) in
      (v.0, v.1, h.holds_values.values c v.0 v.1))
  | inr some-start ↦ (
    some-start.0,
    h.holds_values.starts c some-start.0 some-start.1,
    inl some-start.1,
  )
]

pub none_some : (h : Hold) → None ≡ Some h → ⊥
none_some h e = cc

least_is_refused : (f : Flow) (s : State) → IsKept f s → (l : ℕ) → s.least ≡ Some l
    → phase_of s l ≡ Refused
least_is_refused f s h l e =
    let P : Option ℕ → Type 0 = λ o. MatchOption o ((k : ℕ) → phase_of s k ≢ Refused)
    (λ l. (phase_of s l ≡ Refused) × ((k : ℕ) → phase_of s k ≡ Refused → l ≤ k)) in
    (subst P e h.sound.least_refused).0

-- the strand of the word `least` is one of the net's
pub least_near : (f : Flow) (s : State) → IsKept f s → (l : ℕ) → s.least ≡ Some l
    → l < f.net.strands
least_near f s h l e = let is = least_is_refused f s h l e in strand_near f s h l (λ w. cc)

-- what the word `least` says of the answers
pub least_told : (f : Flow) (s : State) → IsKept f s → (o : Option ℕ) → s.least ≡ o
    → (least_word f o ≤ f.net.strands) × (least_word f o < f.net.strands
    → answer_of f (least_word f o) ≡ Refuses)
least_told f s h None e = (omega arith, λ less. absurd (omega arith))
least_told f s h (Some l) e =
    let is = least_is_refused f s h l e in (
      (let near = strand_near f s h l (λ w. cc) in omega arith),
      λ _. h.answers_kept.refused_refuses l is,
    )

module _ (f : Flow) (slots id : ℕ) (m : SeatState) (live : 0 < m.0.share) where
  flow_is : (t : Board) (r : Ruled f t) → get_elem? t.views id ≡ some m.0 → m.0.flow ≡ f
  flow_is t r at = (r.seats id m.0 at).same_flow live

  not_waiting : (s : State) (k a b : ℕ) → phase_of s k ≡ Held id a b → phase_of s k ≢ Waiting
  not_waiting s k a b is = λ e. cc

  -- a step that changes neither a word nor what the seat has and holds
  stays : (t : Board) (r : Ruled f t) → get_elem? t.views id ≡ some m.0 → (i : ℕ) (w : View)
      → w.holding ≡ m.0.holding → w.done ≡ m.0.done → w.refused ≡ m.0.refused → w.share ≡ m.0.share
      → w.flow ≡ m.0.flow → least_word f r.core.least ≤ w.seen
      → Shown f (stepped t i (get_or t.words i 0) id m.1 w keeps) r.core
  stays t r at i w holding done refused share flow seen =
      let P : List ℕ → Type 0 =
      λ ws. Shown f record { words = ws; homes = t.homes; views = set t.views id w } r.core in
      subst P (sym (set-get_or t.words i 0))
      (notes f t r id m.0 at w holding done refused share live (flow ∙ flow_is t r at) seen)

  pub reads_cell : (i : ℕ) → 0 < i → i < 1 + f.net.cells
      → Evolves f id m i (λ n. n) (λ _. None) (read_play (step slots i 0 0 none) m)
  reads_cell i first-in near t r at _ =
      let same-flow = flow_is t r at in
      let o = r.seats id m.0 at in
      let w : View = after_step m.0 i (get_or t.words i 0) in
      let next = stays t r at i w refl refl refl refl refl (o.seen live) in (
        w,
        next.0,
        next.1,
        (
          refl,
          λ c place reads.
              let R : Flow → Type 0 = λ g. Reads g m.0.holding c in
              let rd = subst R same-flow reads in
              let k : ℕ = rd.0.strand in
              let begun = not_waiting r.core k rd.0.published rd.0.released (o.held rd.0 rd.1) in
              let v = read_value f r.net r.flow r.core r.kept k c begun rd.2 in
              let H : Flow → Type 0 = λ g. HasValue g c v.0 in
              let word : get_or t.words (cell_at c) 0 ≡ v.0 + 1 =
              r.shows.cell_is c (r.net.reads_near k c rd.2) ∙ ap cell_word v.1 in
              let found = ap (λ (j : ℕ). get_or t.words j 0) place ∙ word in
              (v.0, found, subst H (sym same-flow) v.2, r.numbers c v.0 v.1),
        ),
      )

  pub looks : Evolves f id m 0 (λ n. n) (λ _. None) (look_play (step slots 0 0 0 none) m)
  looks t r at _ =
      let same-flow = flow_is t r at in
      let o = r.seats id m.0 at in
      let found : ℕ = get_or t.words 0 0 in
      let is : found ≡ least_word f r.core.least = r.shows.least_is in
      let w : View = after_look m.0 0 found in
      let told = least_told f r.core r.kept r.core.least refl in
      let S : Flow → Type 0 =
      λ g. (found ≤ g.net.strands) × (found < g.net.strands → answer_of g found ≡ Refuses) in
      let W : ℕ → Type 0 =
      λ x. (x ≤ f.net.strands) × (x < f.net.strands → answer_of f x ≡ Refuses) in
      let says = subst S (sym same-flow) (subst W (sym is) told) in
      let next = stays t r at 0 w refl refl refl refl refl (omega arith) in
      (w, next.0, next.1, (refl, (let s = o.seen live in omega arith), says.0, says.1))

  held_parts : (w a b j x y k : ℕ) → Held w a b ≡ Held j x y
      → (j ≡ w) × (Some (hold k a b) ≡ Some (hold k x y))
  held_parts w a b j x y k e =
      let a-is : a ≡ x = cc in let b-is : b ≡ y = cc in ((cc), λ i. Some (hold k (a-is i) (b-is i)))

  not_others : (s : State) (k a b : ℕ) → phase_of s k ≡ Held id a b
      → (j x y : ℕ) → j ≢ id → phase_of s k ≢ Held j x y
  not_others s k a b is j x y ne = λ e. let j-is : j ≡ id = cc in ne j-is

  same_hold : (x y : Hold) → Some x ≡ Some y
      → (y.strand ≡ x.strand) × (Held id x.published x.released ≡ Held id y.published y.released)
  same_hold x y e =
      let is = some_inj x y e in
      (ap (λ (h : Hold). h.strand) (sym is), λ i. Held id (is i).published (is i).released)

  -- a seat goes on with its strand
  holds_on : (t : Board) (r : Ruled f t) → get_elem? t.views id ≡ some m.0
      → (k a b a' b' i n : ℕ) → m.0.holding ≡ Some (hold k a b)
      → (cs : List (Option ℕ)) (ms ws : List ℕ)
      → let s : State = state cs ms (set r.core.phase k (Held id a' b')) r.core.least in
      let w : View = record (after_step m.0 i n) { holding = Some (hold k a' b') } in
      k < length r.core.phase → IsKept f s → HasNumbers cs → Shows f s ws
      → Shown f record { words = ws; homes = t.homes; views = set t.views id w } s
  holds_on t r at k a b a' b' i n holds cs ms ws near kept numbers shows =
      let o = r.seats id m.0 at in
      let is = o.held (hold k a b) holds in
      let mark : done_mark (phase_of r.core k) ≡ 0 = ap done_mark is in
      let mark' : refused_mark (phase_of r.core k) ≡ 0 = ap refused_mark is in
      let w : View = record (after_step m.0 i n) { holding = Some (hold k a' b') } in
      moves f t r id m.0 at k (Held id a' b') w cs ms r.core.least ws near kept numbers shows
      (omega arith)
      (not_others r.core k a b is)
      (λ h e. (same_hold (hold k a b) h (sym holds ∙ e)).0)
      (λ j x y e. held_parts id a' b' j x y k e)
      (λ h e. same_hold (hold k a' b') h e)
      (λ i _. refl) (omega arith) (λ i _. refl) (omega arith)
      refl live (o.same_flow live) (o.seen live)

  strand_within : (t : Board) (r : Ruled f t) (k a b : ℕ) → phase_of r.core k ≡ Held id a b
      → (k < f.net.strands) × (k < length r.core.phase)
  strand_within t r k a b is =
      let near = strand_near f r.core r.kept k (not_waiting r.core k a b is) in
      let each = r.kept.sound.fits.phase_each in (near, omega arith)

  -- a held strand's counter word stays as it is while the strand is held, done or refused
  same_word : (t : Board) (r : Ruled f t) (k a b : ℕ) → phase_of r.core k ≡ Held id a b
      → TAKEN ≡ counter_word (phase_of r.core k) (missing_of r.core k)
  same_word t r k a b is = ap (λ (q : Phase). counter_word q (missing_of r.core k)) (sym is)

  one_filled : (cs : List (Option ℕ)) (c x : ℕ) → c < length cs → x < P → HasNumbers cs
      → HasNumbers (set cs c (Some x))
  one_filled cs c x near small h =
      set_all cs c (Some x) None (λ j o. (y : ℕ) → o ≡ Some y → y < P) near
      (λ y e. let same-x : x ≡ y = ap (λ (o : Option ℕ). unwrap_or o x) e in omega arith)
      (λ j ne. h j)

  pub publishes : (c x : ℕ) (p : CanPublish f m.0.holding x) → x < P
      → c ≡ get_or (writes_of f.net p.held.strand) p.held.published 0
      → Evolves f id m (cell_at c) (λ _. x + 1) (λ _. Some (Publish id x))
      (λ _. publish_play (step slots (cell_at c) (x + 1) 0 none) m (x + 1))
  publishes c x p small c-is t r at _ =
      let o = r.seats id m.0 at in
      let k : ℕ = p.held.strand in let a : ℕ = p.held.published in let b : ℕ = p.held.released in
      let is = o.held p.held p.holds in
      let near = strand_within t r k a b is in
      let each = r.flow.values_each k p.values p.gives in
      let left = p.left in
      let N : ℕ → Type 0 = λ d. d < f.net.cells in
      let first-of = is_in_at (writes_of f.net k) a (omega arith) in
      let in-net : c < f.net.cells =
      subst N (sym c-is) (r.net.writes_near k (get_or (writes_of f.net k) a 0) first-of) in
      let cells-each = r.kept.sound.fits.cells_each in
      let S : ℕ → State = λ d.
      state (set r.core.cells d (Some x)) r.core.missing
      (set r.core.phase k (Held id (a + 1) b)) r.core.least in
      let K : ℕ → Type 0 = λ d. Makes f r.core (Publish id x) (S d) in
      let made : Makes f r.core (Publish id x) (S c) = subst K (sym c-is)
      (publish_made f r.net r.flow r.core r.kept id k a b x p.values is p.gives p.left p.next) in
      let shows : Shows f (S c) (set t.words (cell_at c) (x + 1)) =
      shows_cell f r.core t.words r.shows k (Held id (a + 1) b) near.1 c x in-net (omega arith)
      (same_word t r k a b is) in
      let e : Some (hold k (a + 1) b) ≡ one_published m.0.holding =
      ap one_published (sym p.holds) in
      let numbers = one_filled r.core.cells c x (omega arith) small r.numbers in
      let next = holds_on t r at k a b (a + 1) b (cell_at c) (x + 1) p.holds
      (set r.core.cells c (Some x))
      r.core.missing (set t.words (cell_at c) (x + 1)) near.1 made.kept numbers shows in (
        record (after_step m.0 (cell_at c) (x + 1)) { holding = Some (hold k (a + 1) b) },
        next.0,
        (made.enabled, made.honest, next.1 ∙ made.is),
        λ i. (record (after_step m.0 (cell_at c) (x + 1)) { holding = e i }, m.1),
      )

  pub releases_next : (j : ℕ) (p : CanRelease f m.0.holding)
      → j ≡ get_or (succs_of f.net p.held.strand) p.held.released 0
      → Evolves f id m (counter_at f j) (λ n. (n + (2 ^ 64 - 1)) % 2 ^ 64) (λ _. Some (Release id))
      (release_play (step slots (counter_at f j) 1 0 none) m)
  releases_next j p j-is t r at narrow =
      let o = r.seats id m.0 at in
      let k : ℕ = p.held.strand in let a : ℕ = p.held.published in let b : ℕ = p.held.released in
      let is = o.held p.held p.holds in
      let near = strand_within t r k a b is in
      let next' = next_waits f.net r.net r.core (steady f.net r.core r.kept.sound) k id a b is
      p.left in
      let N : ℕ → Type 0 = λ d. Next f.net r.core k d in
      let next : N j = subst N (sym j-is) next' in
      let each = r.kept.sound.fits.missing_each in let in-list = next.near in
      let S : ℕ → State = λ d.
      state r.core.cells (set r.core.missing d (missing_of r.core d - 1))
      (set r.core.phase k (Held id a (b + 1))) r.core.least in
      let K : ℕ → Type 0 = λ d. Makes f r.core (Release id) (S d) in
      let made : Makes f r.core (Release id) (S j) = subst K (sym j-is)
      (release_made f r.net r.flow r.core r.kept id k a b p.values is p.gives p.all_published
      p.left) in
      let n : ℕ = get_or t.words (counter_at f j) 0 in
      let ws : List ℕ = set t.words (counter_at f j) ((n + (2 ^ 64 - 1)) % 2 ^ 64) in
      let shows : Shows f (S j) ws =
      shows_release f r.core t.words r.shows k (Held id a (b + 1)) near.1 j (omega arith) in-list
      next.apart next.waits next.misses narrow (same_word t r k a b is) in
      let e : Some (hold k a (b + 1)) ≡ one_released m.0.holding = ap one_released (sym p.holds) in
      let then = holds_on t r at k a b a (b + 1) (counter_at f j) n p.holds r.core.cells
      (set r.core.missing j (missing_of r.core j - 1)) ws near.1 made.kept r.numbers shows in (
        record (after_step m.0 (counter_at f j) n) { holding = Some (hold k a (b + 1)) },
        then.0,
        (made.enabled, made.honest, then.1 ∙ made.is),
        λ i. (record (after_step m.0 (counter_at f j) n) { holding = e i }, m.1),
      )

  -- a seat gives up its strand
  puts_down : (t : Board) (r : Ruled f t) → get_elem? t.views id ≡ some m.0
      → (k a b : ℕ) (p : Phase) (ds rs : List ℕ) (n seen : ℕ) (l : Option ℕ) (ws : List ℕ)
      → m.0.holding ≡ Some (hold k a b)
      → let s : State = state r.core.cells r.core.missing (set r.core.phase k p) l in
      let w : View = record (after_step m.0 0 n) {
        holding = None;
        done = ds;
        refused = rs;
        seen =
            seen;
      } in
      k < length r.core.phase → IsKept f s → Shows f s ws
      → least_word f l ≤ least_word f r.core.least → least_word f l ≤ seen
      → ((j x y : ℕ) → p ≢ Held j x y)
      → ((i : ℕ) → i ≢ k → times i ds ≡ times i m.0.done)
      → times k ds ≡ times k m.0.done + done_mark p
      → ((i : ℕ) → i ≢ k → times i rs ≡ times i m.0.refused)
      → times k rs ≡ times k m.0.refused + refused_mark p
      → Shown f record { words = ws; homes = t.homes; views = set t.views id w } s
  puts_down t r at k a b p ds rs n seen l ws holds near kept shows less below unheld d-else d-k
      r-else r-k =
      let o = r.seats id m.0 at in
      let is = o.held (hold k a b) holds in
      let mark : done_mark (phase_of r.core k) ≡ 0 = ap done_mark is in
      let mark' : refused_mark (phase_of r.core k) ≡ 0 = ap refused_mark is in
      let w : View = record (after_step m.0 0 n) {
        holding = None;
        done = ds;
        refused = rs;
        seen =
            seen;
      } in
      moves f t r id m.0 at k p w r.core.cells r.core.missing l ws near kept r.numbers shows less
      (not_others r.core k a b is)
      (λ h e. (same_hold (hold k a b) h (sym holds ∙ e)).0)
      (λ j x y e. absurd (unheld j x y e))
      (λ h e. absurd (none_some h e))
      d-else (omega arith) r-else (omega arith) refl live (o.same_flow live) below

  pub finishes : CanFinish f m.0.holding
      → Evolves f id m 0 (λ n. n) (λ _. Some (Finish id)) (finish_play (step slots 0 0 0 none) m)
  finishes p t r at _ =
      let o = r.seats id m.0 at in
      let k : ℕ = p.held.strand in let a : ℕ = p.held.published in let b : ℕ = p.held.released in
      let is = o.held p.held p.holds in
      let near = strand_within t r k a b is in
      let made = finish_made f r.net r.flow r.core r.kept id k a b p.values is p.gives
      p.all_published p.all_released in
      let found : ℕ = get_or t.words 0 0 in
      let found-is : found ≡ least_word f r.core.least = r.shows.least_is in
      let ws : List ℕ = set t.words 0 found in
      let S : State = state r.core.cells r.core.missing (set r.core.phase k Done) r.core.least in
      let W : List ℕ → Type 0 = λ ws. Shows f S ws in
      let shows = subst W (sym (set-get_or t.words 0 0))
      (shows_turn f r.core t.words r.shows k Done near.1 (same_word t r k a b is)) in
      let e : (k ∷ m.0.done) ≡ with_held m.0.holding m.0.done =
      ap (λ (x : Option Hold). with_held x m.0.done) (sym p.holds) in
      let next = puts_down t r at k a b Done (k ∷ m.0.done) m.0.refused found found r.core.least ws
      p.holds
      near.1 made.kept shows (omega arith) (omega arith) (λ j x y e. cc)
      (λ i ne. let z = same_no i k ne in omega arith) (let y = same_yes k k refl in omega arith)
      (λ i _. refl) (omega arith) in (
        record (after_look m.0 0 found) { holding = None; done = k ∷ m.0.done },
        next.0,
        (made.enabled, made.honest, next.1 ∙ made.is),
        (
          (λ i. (record (after_look m.0 0 found) { holding = None; done = e i }, m.1)),
          (let s = o.seen live in omega arith),
        ),
      )

  pub refuses : (k : ℕ) (p : CanRefuse f m.0.holding) → k ≡ p.held.strand
      → Evolves f id m 0 (λ n. min n k) (λ _. Some (Refuse id))
      (refuse_play (step slots 0 k 0 none) m)
  refuses k p k-is t r at _ =
      let o = r.seats id m.0 at in
      let a : ℕ = p.held.published in let b : ℕ = p.held.released in
      let none-out = p.none_published in
      let is' = o.held p.held p.holds in
      let I : ℕ → Type 0 = λ i. phase_of r.core i ≡ Held id a b in
      let is : I k = subst I (sym k-is) is' in
      let near = strand_within t r k a b is in
      let few = r.kept.sound.fills_first.few k id a b is in
      let none-released : b ≡ 0 = elim (cases_lt 0 b) [
        | inl some-out ↦ (
            let full = r.kept.sound.fills_first.published_first k id a b is some-out in
            let no-succ = no_successor f.net r.net k (omega arith) in
            let le = few.1 in absurd (omega arith))
        | inr ge ↦ omega arith
      ] in
      let is-fresh : phase_of r.core k ≡ Held id 0 0 = is
      ∙ (λ i. Held id (none-out i) (none-released i)) in
      let A : ℕ → Type 0 = λ i. answer_of f i ≡ Refuses in
      let made = refuse_made f r.net r.flow r.core r.kept id k is-fresh
      (subst A (sym k-is) p.refuses) in
      let found : ℕ = get_or t.words 0 0 in
      let found-is : found ≡ least_word f r.core.least = r.shows.least_is in
      let lower : ℕ = option_map_or (λ l. min l k) r.core.least k in
      let l : Option ℕ = Some lower in
      let ws : List ℕ = set t.words 0 (min found k) in
      let shows = shows_least f r.core t.words r.shows k Refused near.1 near.0
      (same_word t r k a b is) in
      let lower-is : min found k ≡ lower =
      ap (λ (n : ℕ). min n k) found-is ∙ lesser f r.core.least k near.0 in
      let holds-k : m.0.holding ≡ Some (hold k a b) = p.holds
      ∙ (λ i. Some (hold (sym k-is i) a b)) in
      let e : (k ∷ m.0.refused) ≡ with_held m.0.holding m.0.refused =
      ap (λ (x : Option Hold). with_held x m.0.refused) (sym holds-k) in
      let next = puts_down t r at k a b Refused m.0.done (k ∷ m.0.refused)
      found (min found k) l ws holds-k
      near.1 made.kept shows (omega arith) (omega arith) (λ j x y e. cc)
      (λ i _. refl) (omega arith)
      (λ i ne. let z = same_no i k ne in omega arith) (let y = same_yes k k refl in
      omega arith) in (
        record (after_step m.0 0 found) {
          holding = None;
          refused = k ∷ m.0.refused;
          seen = min found k;
        },
        next.0,
        (made.enabled, made.honest, next.1 ∙ made.is),
        (
          (λ i. (
            record (after_step m.0 0 found) {
              holding = None;
              refused = e i;
              seen = min found k;
            },
            m.1,
          )),
          (let s = o.seen live in omega arith),
        ),
      )

  abbrev Goes : (t : Board) → Ruled f t → ℕ → Option Event → (ℕ → SeatState → Type 0) → ℕ → Type 0
  Goes t r i event then n =
      (w : View) × (next : Ruled f (stepped t i n id m.1 w keeps))
      × Becomes f r.core event next.core
      × then (get_or t.words i 0) (w, m.1)

  pub takes : (k : ℕ) → m.0.holding ≡ None → k < f.net.strands
      → Evolves f id m (counter_at f k) (λ n. either (n == 0) TAKEN n) (taking id k)
      (take_play (step slots (counter_at f k) 0 TAKEN (some k)) m)
  takes k free near t r at _ =
      let o = r.seats id m.0 at in
      let i : ℕ = counter_at f k in let n : ℕ = get_or t.words i 0 in
      let each = r.kept.sound.fits.phase_each in
      let then : ℕ → SeatState → Type 0 = take_play (step slots i 0 TAKEN (some k)) m in
      let w : View = after_take m.0 i n k (n == 0) in
      let told : then n (w, m.1) = λ k' said.
      let k-is : k ≡ k' = some-injective k k' said in
      λ z. (after_take m.0 i n (k-is z) (n == 0), m.1) in
      exchanged n 0 TAKEN (Goes t r i (taking id k n) then)
      (λ hit.
      let test = sym (eq-eqb n 0 hit) in
      let open-strand =
      counter_free (phase_of r.core k) (missing_of r.core k) (sym (r.shows.counter_is k near)
      ∙ hit) in
      let nobody : (j a b : ℕ) → phase_of r.core j ≢ Held id a b = λ j a b e.
      let x = r.holder j id a b e in
      let same-view : x.0 ≡ m.0 = some-injective _ _ (sym x.1 ∙ at) in
      none_some (hold j a b) (sym free ∙ ap (λ (u : View). u.holding) (sym same-view) ∙ x.2) in
      let made = take_made f r.net r.flow r.core r.kept id k nobody near open-strand.0
      open-strand.1 in
      let shows = shows_take f r.core t.words r.shows k (Held id 0 0) (omega arith) near refl in
      let is = open-strand.0 in
      let mark : done_mark (phase_of r.core k) ≡ 0 = ap done_mark is in
      let mark' : refused_mark (phase_of r.core k) ≡ 0 = ap refused_mark is in
      let holds : w.holding ≡ Some (hold k 0 0) =
      ap (λ (b : Bool). cond b (Some (hold k 0 0)) m.0.holding) (sym test) in
      let next = moves f t r id m.0 at k (Held id 0 0) w r.core.cells r.core.missing r.core.least
      (set t.words i TAKEN) (omega arith) made.kept r.numbers shows (omega arith)
      (λ j a b ne e. cc)
      (λ h e. absurd (none_some h (sym free ∙ e)))
      (λ j x y e. let p = held_parts id 0 0 j x y k e in (p.0, holds ∙ p.1))
      (λ h e. same_hold (hold k 0 0) h (sym holds ∙ e))
      (λ i _. refl) (omega arith) (λ i _. refl) (omega arith)
      refl live (o.same_flow live) (o.seen live) in
      let B : Bool → Type 0 = λ b. Becomes f r.core (cond b (Some (Take id k)) None) next.0.core in
      (w, next.0, subst B test (made.enabled, made.honest, next.1 ∙ made.is), told))
      (λ miss.
      let test = sym (ne_eqb n 0 miss) in
      let holds : w.holding ≡ m.0.holding =
      ap (λ (b : Bool). cond b (Some (hold k 0 0)) m.0.holding) (sym test) in
      let next = stays t r at i w holds refl refl refl refl (o.seen live) in
      let B : Bool → Type 0 = λ b. Becomes f r.core (cond b (Some (Take id k)) None) next.0.core in
      (w, next.0, subst B test next.1, told))

pub word_steps : (f : Flow) (slots id : ℕ) (m : SeatState) → 0 < m.0.share → WordSteps f slots id m
word_steps f slots id m live = record {
  read = reads_cell f slots id m live;
  look = looks f slots id m live;
  take = takes f slots id m live;
  publish = publishes f slots id m live;
  release = releases_next f slots id m live;
  finish = finishes f slots id m live;
  refuse = refuses f slots id m live;
}
