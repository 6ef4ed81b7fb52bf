-- What the code of an event knows
use Rattle.std.proofs.Common.{◌≡◌, ℕ, ◌^◌, ◌<◌, length, get_or, sym, arith, Option, Some, None}
use Rattle.std.proofs.Common.{IfSome}
use Rattle.flow_core.specs.declared.state.Hold.{Hold}
use Rattle.flow_core.specs.declared.state.State.{State}
use Rattle.flow_core.specs.Net.{Net, IsNet, writes_of, succs_of}
use Rattle.flow_core.specs.Core.{IsSound}
use Rattle.flow_core.specs.Events.{holding, IsHeld}
use Rattle.flow_core.proofs.Totals.{is_in_at}
use Rattle.flow_core.proofs.Nets.{writes_few, succs_few}
use Rattle.flow_core.proofs.Holding.{holds_found}
use Rattle.flow_core.proofs.Steady.{steady, next_waits, Next}

pub known_held : (n : Net) (s : State) (w : ℕ) (h : Hold) → IsSound n s → holding s w ≡ Some h
    → IsHeld n s w h
known_held n s w h ok e = let f = holds_found s w h e in
    let few = ok.fills_first.few h.strand w h.published h.released f.1 in let near = f.0 in
    let each = ok.fits.phase_each in
    record { near = omega arith; held = f.1; few = few.0; few_released = few.1 }

pub known_if : (n : Net) (s : State) (w : ℕ) (o : Option Hold) → IsSound n s → o ≡ holding s w
    → IfSome o (IsHeld n s w)
known_if n s w None ok e = tt
known_if n s w (Some h) ok e = known_held n s w h ok (sym e)

pub next_cell_near : (n : Net) → IsNet n → (s : State) → IsSound n s → (k i : ℕ)
    → i < length (writes_of n k) → get_or (writes_of n k) i 0 < length s.cells
next_cell_near n ok s h k i lt = let l = ok.writes_near k (get_or (writes_of n k) i 0)
    (is_in_at (writes_of n k) i lt) in let e = h.fits.cells_each in omega arith

pub next_waiting : (n : Net) → IsNet n → (s : State) → IsSound n s → (w : ℕ) (h : Hold)
    → IsHeld n s w h → h.released < length (succs_of n h.strand)
    → Next n s h.strand (get_or (succs_of n h.strand) h.released 0)
next_waiting n ok s sound w h is left =
    next_waits n ok s (steady n s sound) h.strand w h.published h.released is.held left

pub counts_fit : (n : Net) → IsNet n → (s : State) (w : ℕ) (h : Hold) → IsHeld n s w h
    → n.cells < 2 ^ 32 → n.strands < 2 ^ 32 → (h.published < 2 ^ 32) × (h.released < 2 ^ 32)
counts_fit n ok s w h is c k = let a = writes_few n ok h.strand in
    let b = succs_few n ok h.strand in let x = is.few in let y = is.few_released in
    (omega arith, omega arith)
