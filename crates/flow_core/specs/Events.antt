-- The five events: where each is enabled, and what it does
use Rattle.std.specs.Prelude.{◌≡◌, ℕ, ◌+◌, ◌-◌, ◌<◌, ◌≤◌, Bool, true, false, cond, ◌&&◌, IsTrue}
use Rattle.std.specs.Prelude.{nat_lt, ◌==◌, min, List, [], ◌∷◌, map, length, replicate, slice_index}
use Rattle.std.specs.Prelude.{slice_index_or, slice_set, Option, Some, None, is_none, ⊤}
use Rattle.std.specs.Option.{option_map_or}
use Rattle.flow_core.specs.declared.state.Phase.{Phase}
use Rattle.flow_core.specs.declared.state.Phase.TheVariants.{Waiting, Held, Done, Refused}
use Rattle.flow_core.specs.declared.state.Event.{Event}
use Rattle.flow_core.specs.declared.state.Event.TheVariants.{Take, Publish, Release, Finish, Refuse}
use Rattle.flow_core.specs.declared.state.State.{State}
use Rattle.flow_core.specs.declared.state.Hold.{Hold}
use Rattle.flow_core.specs.Counts.{IsIn}
use Rattle.flow_core.specs.Net.{Net, writes_of, succs_of}
use Rattle.flow_core.specs.Flow.{Flow, Refuses, Gives, answer_of}
use Rattle.flow_core.specs.Core.{missing_of, phase_of}

abbrev pub hold : ℕ → ℕ → ℕ → Hold
hold k a b = record { strand = k; published = a; released = b }

-- the strand k with this phase, if the worker w holds it, else another
abbrev pub hold_or : ℕ → ℕ → Phase → Option Hold → Option Hold
hold_or w k Waiting other = other
hold_or w k (Held v a b) other = cond (v == w) (Some (hold k a b)) other
hold_or w k Done other = other
hold_or w k Refused other = other

-- the first strand that the worker w holds, of those numbered from k on
abbrev pub first_held : ℕ → ℕ → List Phase → Option Hold
first_held w k [] = None
first_held w k (p ∷ ps) = hold_or w k p (first_held w (k + 1) ps)

abbrev pub holding : State → ℕ → Option Hold
holding s w = first_held w 0 s.phase

-- what is known of the strand that a worker holds
pub record IsHeld (n : Net) (s : State) (w : ℕ) (h : Hold) : Type 0 where
  pub near : h.strand < n.strands
  pub held : phase_of s h.strand ≡ Held w h.published h.released
  pub few : h.published ≤ length (writes_of n h.strand)
  pub few_released : h.released ≤ length (succs_of n h.strand)

abbrev pub is_waiting : Phase → Bool
is_waiting Waiting = true
is_waiting (Held w a b) = false
is_waiting Done = false
is_waiting Refused = false

-- the strand waits, and for nothing
abbrev pub is_ready : Net → State → ℕ → Bool
is_ready n s k = nat_lt k n.strands && (is_waiting (phase_of s k) && (missing_of s k == 0))

abbrev pub can_publish : Net → Hold → Bool
can_publish n h = nat_lt h.published (length (writes_of n h.strand))

abbrev pub can_release : Net → Hold → Bool
can_release n h = (h.published == length (writes_of n h.strand)) && nat_lt h.released
    (length (succs_of n h.strand))

abbrev pub can_finish : Net → Hold → Bool
can_finish n h = (h.published == length (writes_of n h.strand)) &&
    (h.released == length (succs_of n h.strand))

abbrev pub can_refuse : Hold → Bool
can_refuse h = (h.published == 0) && (h.released == 0)

abbrev pub is_enabled : Net → State → Event → Bool
is_enabled n s (Take w k) = is_none (holding s w) && is_ready n s k
is_enabled n s (Publish w x) = option_map_or (can_publish n) (holding s w) false
is_enabled n s (Release w) = option_map_or (can_release n) (holding s w) false
is_enabled n s (Finish w) = option_map_or (can_finish n) (holding s w) false
is_enabled n s (Refuse w) = option_map_or can_refuse (holding s w) false

-- the strand k goes to another phase
abbrev pub turned : State → ℕ → Phase → State
turned s k p = record s { phase = slice_set s.phase k p }

-- the next cell of the held strand gets the value x
abbrev pub published : Net → State → ℕ → ℕ → Hold → State
published n s w x h =
    record s {
      cells = slice_set s.cells (slice_index (writes_of n h.strand) h.published) (Some x);
      phase = slice_set s.phase h.strand (Held w (h.published + 1) h.released);
    }

-- the missing count of the next successor falls by 1
abbrev pub released : Net → State → ℕ → Hold → State
released n s w h =
    let j = slice_index (succs_of n h.strand) h.released in record s {
      missing = slice_set s.missing j (missing_of s j - 1);
      phase = slice_set s.phase h.strand (Held w h.published (h.released + 1));
    }

-- `least` becomes the lesser of itself and the strand
abbrev pub refused : State → Hold → State
refused s h = record s {
  phase = slice_set s.phase h.strand Refused;
  least =
      Some (option_map_or (λ l. min l h.strand) s.least h.strand);
}

abbrev pub effect : Net → State → Event → State
effect n s (Take w k) = turned s k (Held w 0 0)
effect n s (Publish w x) = option_map_or (published n s w x) (holding s w) s
effect n s (Release w) = option_map_or (released n s w) (holding s w) s
effect n s (Finish w) = option_map_or (λ h. turned s h.strand Done) (holding s w) s
effect n s (Refuse w) = option_map_or (refused s) (holding s w) s

-- an event that isn't enabled changes nothing
abbrev pub after : Net → State → Event → State
after n s e = cond (is_enabled n s e) (effect n s e) s

abbrev pub after_all : Net → State → List Event → State
after_all n s [] = s
after_all n s (e ∷ es) = after_all n (after n s e) es

-- the start cells are filled, each strand waits for all its predecessors, and none is refused
abbrev pub opening_of : Net → List (Option ℕ) → State
opening_of n start = record {
  cells = start;
  missing = map length n.preds;
  phase =
      replicate n.strands Waiting;
  least = None;
}

abbrev pub opening : Flow → State
opening f = opening_of f.net f.start

-- the start values have one place for each cell, which is None where a strand writes the cell
pub record CanStart (n : Net) (start : List (Option ℕ)) : Type 0 where
  pub each : length start ≡ n.cells
  pub free : (k c : ℕ) → IsIn c (writes_of n k) → slice_index_or start c None ≡ None

-- An event is honest for the answers where a published value is the answer's next one, a refused
-- strand's answer is a refusal, and the answer of a strand that publishes, releases or finishes is
-- a list
abbrev pub IsHonestOf : Flow → Event → Hold → Type 0
IsHonestOf f (Take w k) h = ⊤
IsHonestOf f (Publish w x) h = (xs : List ℕ) × (answer_of f h.strand ≡ Gives xs)
    × (slice_index xs h.published ≡ x)
IsHonestOf f (Release w) h = (xs : List ℕ) × (answer_of f h.strand ≡ Gives xs)
IsHonestOf f (Finish w) h = (xs : List ℕ) × (answer_of f h.strand ≡ Gives xs)
IsHonestOf f (Refuse w) h = answer_of f h.strand ≡ Refuses

abbrev pub worker_of : Event → ℕ
worker_of (Take w k) = w
worker_of (Publish w x) = w
worker_of (Release w) = w
worker_of (Finish w) = w
worker_of (Refuse w) = w

-- so far as the event is enabled at all
abbrev pub IsHonest : Flow → State → Event → Type 0
IsHonest f s e = (h : Hold) → holding s (worker_of e) ≡ Some h → IsTrue (is_enabled f.net s e)
    → IsHonestOf f e h

abbrev pub AreHonest : Flow → State → List Event → Type 0
AreHonest f s [] = ⊤
AreHonest f s (e ∷ es) = IsHonest f s e × AreHonest f (after f.net s e) es
