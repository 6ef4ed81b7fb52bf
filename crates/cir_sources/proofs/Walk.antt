-- Places, from byte to byte.
use Rattle.std.proofs.Common.{◌≡◌, ℕ, ◌+◌, ◌-◌, ◌≤◌, List, length, take, drop, sym, ap, ◌∙◌, arith}
use Rattle.std.proofs.Common.{min}
use Rattle.std.specs.Prelude.{fold}
use Rattle.std.proofs.Math.Nat.{min_comm}
use Rattle.std.proofs.lemmas.List.Sums.{fold-append}
use Rattle.std.proofs.lemmas.List.{take-append-drop, take-take, drop-take, take_min}
use Rattle.cir_ast.specs.Spot.{start, behind, spot_at}
use Rattle.cir_sources.specs.Places.{Spot}

-- from one place to a later one
pub spot_on : (at to : ℕ) (bytes : List ℕ) (spot : Spot) → at ≤ to → spot ≡ spot_at bytes at
    → fold behind spot (take (to - at) (drop at bytes)) ≡ spot_at bytes to
spot_on at to bytes spot l e =
    let there : at + (to - at) ≡ to = omega arith in
    let parts = take-append-drop at (take to bytes) in
    rw (e, ← drop-take at (to - at) bytes, there, ← take-take at to bytes l)
    (sym (fold-append behind start (take at (take to bytes)) (drop at (take to bytes)))
    ∙ ap (fold behind start) parts)

-- an offset behind the end is the end
pub spot_min : (bytes : List ℕ) (offset : ℕ)
    → spot_at bytes (min (length bytes) offset) ≡ spot_at bytes offset
spot_min bytes offset = rw (min_comm, take_min)
