-- What a step of each kind does to the state that the words and views show
use Rattle.std.specs.Prelude.{◌≡◌, ◌≢◌, ℕ, ◌+◌, ◌-◌, ◌%◌, ◌^◌, ◌<◌, ◌≤◌, ◌==◌, ◌++◌, min, cond}
use Rattle.std.specs.Prelude.{IsTrue, [], ◌∷◌, slice_index, slice_set, Option, Some, None}
use mathlib.Core.Option.{some, none}
use lib.ListN.{get_elem?}
use prog.Atomic.{either}
use Rattle.atomic_table.specs.Table as table
use Rattle.atomic_table.specs.Table.{step, stepped, keeps}
use Rattle.gold_field.specs.declared.gold.TheConstants.{P}
use Rattle.flow_core.specs.declared.Event.{Event}
use Rattle.flow_core.specs.declared.Event.TheVariants.{Take, Publish, Release, Finish, Refuse}
use Rattle.flow_core.specs.declared.State.{State}
use Rattle.flow_core.specs.Net.{writes_of, succs_of}
use Rattle.flow_core.specs.Flow.{Flow}
use Rattle.flow_core.specs.Events.{is_enabled, after, IsHonest}
use Rattle.flow_board.specs.declared.view.View.{View}
use Rattle.flow_board.specs.declared.rule.TheConstants.{TAKEN}
use Rattle.flow_board.specs.Shows.{cell_at, counter_at}
use Rattle.flow_board.specs.Views.{after_split, cut_from, joined_with, spent}
use Rattle.flow_board.specs.Rule.{Ruled}
use Rattle.flow_board.specs.Plays.{SeatState, CanPublish, CanRelease, CanFinish, CanRefuse}
use Rattle.flow_board.specs.Plays.{read_play, publish_play, release_play, take_play, finish_play}
use Rattle.flow_board.specs.Plays.{refuse_play, look_play}

-- one event, which is enabled and honest, or none
abbrev pub Becomes : Flow → State → Option Event → State → Type 0
Becomes f s None s' = s' ≡ s
Becomes f s (Some e) s' = IsTrue (is_enabled f.net s e) × IsHonest f s e × (s' ≡ after f.net s e)

-- the table is under the rule, and its words and views show the state s
abbrev pub Shown : Flow → table.State ℕ View → State → Type 0
Shown f t s = (r : Ruled f t) × (r.core ≡ s)

-- Whatever the table is when the word i becomes g of the number that the seat finds there: the
-- words and views show the state before, or that after the event of this number, and the seat is
-- told what is promised
abbrev pub Evolves : Flow → ℕ → SeatState → ℕ → (ℕ → ℕ) → (ℕ → Option Event)
    → (ℕ → SeatState → Type 0) → Type 0
Evolves f id m i g event told =
    (t : table.State ℕ View) (r : Ruled f t) → get_elem? t.views id ≡ some m.0
    → slice_index t.words i < 18446744073709551616
    → (w : View) × (next : Ruled f (stepped t i (g (slice_index t.words i)) id m.1 w keeps))
    × Becomes f r.core (event (slice_index t.words i)) next.core
    × told (slice_index t.words i) (w, m.1)

-- a worker's number is its seat's place among the views
abbrev pub taking : ℕ → ℕ → ℕ → Option Event
taking id k n = cond (n == 0) (Some (Take id k)) None

-- each kind of step on a word
pub record WordSteps (f : Flow) (slots id : ℕ) (m : SeatState) : Type 0 where
  pub read : (i : ℕ) → 0 < i → i < 1 + f.net.cells
      → Evolves f id m i (λ n. n) (λ _. None) (read_play (step slots i 0 0 none) m)
  pub look : Evolves f id m 0 (λ n. n) (λ _. None) (look_play (step slots 0 0 0 none) m)
  pub take : (k : ℕ) → m.0.holding ≡ None → k < f.net.strands
      → Evolves f id m (counter_at f k) (λ n. either (n == 0) TAKEN n) (taking id k)
      (take_play (step slots (counter_at f k) 0 TAKEN (some k)) m)
  pub publish : (c x : ℕ) (p : CanPublish f m.0.holding x) → x < P
      → c ≡ slice_index (writes_of f.net p.held.strand) p.held.published
      → Evolves f id m (cell_at c) (λ _. x + 1) (λ _. Some (Publish id x))
      (λ _. publish_play (step slots (cell_at c) (x + 1) 0 none) m (x + 1))
  pub release : (j : ℕ) (p : CanRelease f m.0.holding)
      → j ≡ slice_index (succs_of f.net p.held.strand) p.held.released
      → Evolves f id m (counter_at f j) (λ n. (n + (2 ^ 64 - 1)) % 2 ^ 64) (λ _. Some (Release id))
      (release_play (step slots (counter_at f j) 1 0 none) m)
  pub finish : CanFinish f m.0.holding
      → Evolves f id m 0 (λ n. n) (λ _. Some (Finish id)) (finish_play (step slots 0 0 0 none) m)
  pub refuse : (k : ℕ) (p : CanRefuse f m.0.holding) → k ≡ p.held.strand
      → Evolves f id m 0 (λ n. min n k) (λ _. Some (Refuse id))
      (refuse_play (step slots 0 k 0 none) m)

-- two steps that change two views and no word
pub record SeatSteps (f : Flow) (t : table.State ℕ View) (r : Ruled f t) (id : ℕ)
    (v : View) : Type 0 where
  pub split : v.holding ≡ None → 2 ≤ v.share
      → Shown f (record t { views = slice_set t.views id (after_split v) ++ cut_from v ∷ [] })
      r.core
  pub join : (other : ℕ) (w : View) → v.holding ≡ None → w.holding ≡ None → 0 < w.share → other ≢ id
      → get_elem? t.views other ≡ some w
      → Shown f
      (record t { views = slice_set (slice_set t.views id (joined_with v w)) other spent }) r.core
