-- How often a strand is told that a predecessor of it is done, and how often that finds it ready
use Rattle.std.specs.Prelude.{ℕ, ◌+◌, ◌==◌, cond, List, [], ◌∷◌, slice_index}
use Rattle.std.specs.Option.{option_map_or}
use Rattle.flow_core.specs.declared.state.Event.{Event}
use Rattle.flow_core.specs.declared.state.Event.TheVariants.{Take, Publish, Release, Finish, Refuse}
use Rattle.flow_core.specs.declared.state.State.{State}
use Rattle.flow_core.specs.declared.state.Hold.{Hold}
use Rattle.flow_core.specs.Counts.{same}
use Rattle.flow_core.specs.Net.{Net, succs_of}
use Rattle.flow_core.specs.Core.{missing_of}
use Rattle.flow_core.specs.Events.{holding, can_release, after}

-- the successor that a held strand tells next
abbrev pub next_told : Net → Hold → ℕ
next_told n h = slice_index (succs_of n h.strand) h.released

-- 1 where the strand k is the one that the held strand can tell, else 0
abbrev pub tells_next : Net → ℕ → Hold → ℕ
tells_next n k h = cond (can_release n h) (same k (next_told n h)) 0

-- 1 where the event is a release that tells the strand k, else 0
abbrev pub tells : Net → State → Event → ℕ → ℕ
tells n s (Take w j) k = 0
tells n s (Publish w x) k = 0
tells n s (Release w) k = option_map_or (tells_next n k) (holding s w) 0
tells n s (Finish w) k = 0
tells n s (Refuse w) k = 0

-- how many of the events, from the state s on, tell the strand k
abbrev pub times_told : Net → State → List Event → ℕ → ℕ
times_told n s [] k = 0
times_told n s (e ∷ es) k = tells n s e k + times_told n (after n s e) es k

-- and how many of those find 1 as its missing count
abbrev pub times_ready : Net → State → List Event → ℕ → ℕ
times_ready n s [] k = 0
times_ready n s (e ∷ es) k =
    cond (missing_of s k == 1) (tells n s e k) 0 + times_ready n (after n s e) es k
