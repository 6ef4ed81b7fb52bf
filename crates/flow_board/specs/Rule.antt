-- The rule that holds between any two steps on a board, whoever makes them
use Rattle.std.specs.Prelude.{◌≡◌, ℕ, ◌+◌, ◌^◌, ◌<◌, ◌≤◌, Some, None, Option, List, slice_index}
use Rattle.std.specs.Prelude.{slice_index_or, length}
use mathlib.Core.Option.{some}
use lib.ListN.{get_elem?}
use Rattle.atomic_table.specs.Table as table
use Rattle.gold_field.specs.declared.gold.TheConstants.{P}
use Rattle.flow_core.specs.declared.Phase.{Phase}
use Rattle.flow_core.specs.declared.Phase.TheVariants.{Waiting, Held, Done, Refused}
use Rattle.flow_core.specs.declared.Hold.{Hold}
use Rattle.flow_core.specs.declared.State.{State}
use Rattle.flow_core.specs.Counts.{total, same, times}
use Rattle.flow_core.specs.Net.{IsNet, writes_of}
use Rattle.flow_core.specs.Flow.{Flow, IsFlow}
use Rattle.flow_core.specs.Core.{phase_of, IsKept}
use Rattle.flow_core.specs.Events.{hold}
use Rattle.flow_board.specs.declared.view.View.{View}
use Rattle.flow_board.specs.declared.rule.TheConstants.{TAKEN}
use Rattle.flow_board.specs.Views.{spent}
use Rattle.flow_board.specs.Shows.{Shows, least_word, cell_at, counter_at}

abbrev pub done_mark : Phase → ℕ
done_mark Waiting = 0
done_mark (Held w a b) = 0
done_mark Done = 1
done_mark Refused = 0

abbrev pub refused_mark : Phase → ℕ
refused_mark Waiting = 0
refused_mark (Held w a b) = 0
refused_mark Done = 0
refused_mark Refused = 1

-- what the seat j knows is true of the state
pub record SeatFits (f : Flow) (s : State) (j : ℕ) (v : View) : Type 0 where
  pub joined : v.share ≡ 0 → v ≡ spent
  pub same_flow : 0 < v.share → v.flow ≡ f
  pub held : (h : Hold) → v.holding ≡ Some h → phase_of s h.strand ≡ Held j h.published h.released
  pub seen : 0 < v.share → least_word f s.least ≤ v.seen

-- each cell that is filled has a number of the field
abbrev pub HasNumbers : List (Option ℕ) → Type 0
HasNumbers cells = (c x : ℕ) → slice_index_or cells c None ≡ Some x → x < P

-- the words and the views show a state of the core that keeps its invariant
pub record Ruled (f : Flow) (t : table.State ℕ View) : Type 0 where
  pub core : State
  pub narrow : f.net.strands < 2 ^ 32
  pub net : IsNet f.net
  pub flow : IsFlow f
  pub kept : IsKept f core
  pub numbers : HasNumbers core.cells
  pub shows : Shows f core t.words
  pub seats : (j : ℕ) (v : View) → get_elem? t.views j ≡ some v → SeatFits f core j v
  -- a strand is held, done or refused as the one view that names it says
  pub holder : (k j a b : ℕ) → phase_of core k ≡ Held j a b
      → (v : View) × (get_elem? t.views j ≡ some v) × (v.holding ≡ Some (hold k a b))
  pub done_is : (k : ℕ) → total (λ v. times k v.done) t.views ≡ done_mark (phase_of core k)
  pub refused_is : (k : ℕ) → total (λ v. times k v.refused) t.views ≡ refused_mark (phase_of core k)
  pub shares : total (λ v. v.share) t.views ≡ 65

-- how often a seat names the strand k: as held, as done or as refused
abbrev pub hold_mark : ℕ → Option Hold → ℕ
hold_mark k None = 0
hold_mark k (Some h) = same k h.strand

abbrev pub names : ℕ → View → ℕ
names k v = hold_mark k v.holding + times k v.done + times k v.refused

-- Where a strand's word is 0 no seat names it, where it is TAKEN just one does, and the next cell
-- of a held strand is empty
pub record SaysWho (f : Flow) (t : table.State ℕ View) : Type 0 where
  pub free : (k : ℕ) → k < f.net.strands → slice_index t.words (counter_at f k) ≡ 0
      → total (names k) t.views ≡ 0
  pub taken : (k : ℕ) → k < f.net.strands → slice_index t.words (counter_at f k) ≡ TAKEN
      → total (names k) t.views ≡ 1
  pub next_empty : (j : ℕ) (v : View) (h : Hold) → get_elem? t.views j ≡ some v
      → v.holding ≡ Some h → h.published < length (writes_of f.net h.strand)
      → slice_index t.words (cell_at (slice_index (writes_of f.net h.strand) h.published)) ≡ 0
