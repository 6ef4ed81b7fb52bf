-- What each step tells its caller: of the step, the seat before, the word found and the seat after
use Rattle.std.specs.Prelude.{◌≡◌, ℕ, ◌+◌, ◌<◌, ◌≤◌, ◌==◌, min, List, length, slice_index}
use Rattle.std.specs.Prelude.{Option, Some}
use mathlib.Core.Option.{some}
use Rattle.atomic_table.specs.Table.{Me, Step}
use Rattle.gold_field.specs.declared.gold.TheConstants.{P}
use Rattle.flow_core.specs.declared.Hold.{Hold}
use Rattle.flow_core.specs.Counts.{IsIn}
use Rattle.flow_core.specs.Net.{reads_of, succs_of}
use Rattle.flow_core.specs.Flow.{Flow, Refuses, Gives, answer_of, HasValue}
use Rattle.flow_board.specs.declared.view.View.{View}
use Rattle.flow_board.specs.Shows.{cell_at}
use Rattle.flow_board.specs.Views.{after_step, after_take, after_publish, after_release}
use Rattle.flow_board.specs.Views.{after_look, after_finish, after_refuse}

-- a seat's view, and the slots that it holds, of which a board has none
abbrev pub SeatState : Type 0
SeatState = Me ℕ View

abbrev pub Told : Type 1
Told = Step ℕ → SeatState → ℕ → SeatState → Type 0

-- the strand that is held reads the cell
abbrev pub Reads : Flow → Option Hold → ℕ → Type 0
Reads f o c = (h : Hold) × (o ≡ Some h) × IsIn c (reads_of f.net h.strand)

-- the next cell of the strand that is held gets the value x
pub record CanPublish (f : Flow) (o : Option Hold) (x : ℕ) : Type 0 where
  pub held : Hold
  pub holds : o ≡ Some held
  pub values : List ℕ
  pub gives : answer_of f held.strand ≡ Gives values
  pub left : held.published < length values
  pub next : slice_index values held.published ≡ x

-- the strand that is held has published all, and a successor is left
pub record CanRelease (f : Flow) (o : Option Hold) : Type 0 where
  pub held : Hold
  pub holds : o ≡ Some held
  pub values : List ℕ
  pub gives : answer_of f held.strand ≡ Gives values
  pub all_published : held.published ≡ length values
  pub left : held.released < length (succs_of f.net held.strand)

-- the strand that is held has published and released all
pub record CanFinish (f : Flow) (o : Option Hold) : Type 0 where
  pub held : Hold
  pub holds : o ≡ Some held
  pub values : List ℕ
  pub gives : answer_of f held.strand ≡ Gives values
  pub all_published : held.published ≡ length values
  pub all_released : held.released ≡ length (succs_of f.net held.strand)

-- the strand that is held has published nothing, and its answer is a refusal
pub record CanRefuse (f : Flow) (o : Option Hold) : Type 0 where
  pub held : Hold
  pub holds : o ≡ Some held
  pub none_published : held.published ≡ 0
  pub refuses : answer_of f held.strand ≡ Refuses

-- the word of the cell c that was found has its value, a number of the field
abbrev pub Finds : Flow → ℕ → ℕ → Type 0
Finds f c r = (x : ℕ) × (r ≡ x + 1) × HasValue f c x × (x < P)

abbrev pub read_play : Told
read_play st m r n =
    (n ≡ (after_step m.0 st.word r, m.1))
    × ((c : ℕ) → st.word ≡ cell_at c → Reads m.0.flow m.0.holding c → Finds m.0.flow c r)

abbrev pub publish_play : Told
publish_play st m r n = n ≡ (after_publish m.0 st.word r, m.1)

abbrev pub release_play : Told
release_play st m r n = n ≡ (after_release m.0 st.word r, m.1)

-- the strand that is tried is the one that the step says
abbrev pub take_play : Told
take_play st m r n =
    (k : ℕ) → st.said ≡ some k → n ≡ (after_take m.0 st.word r k (r == 0), m.1)

abbrev pub finish_play : Told
finish_play st m r n = (n ≡ (after_finish m.0 st.word r, m.1)) × (r ≤ m.0.seen)

abbrev pub refuse_play : Told
refuse_play st m r n =
    (n ≡ (after_refuse m.0 st.word r (min r st.first), m.1)) × (min r st.first ≤ m.0.seen)

-- a number below that of the strands is one whose answer is a refusal
abbrev pub look_play : Told
look_play st m r n =
    (n ≡ (after_look m.0 st.word r, m.1)) × (r ≤ m.0.seen) × (r ≤ m.0.flow.net.strands)
    × (r < m.0.flow.net.strands → answer_of m.0.flow r ≡ Refuses)
