-- Items of a pool: so many of them for each task
use Rattle.std.proofs.Common.{◌≡◌, ℕ, ◌+◌, ◌*◌, ◌-◌, ◌/◌, ◌%◌, ◌<◌}
use Rattle.std.proofs.Common.{◌≤◌, arith, length, get_or}
use Rattle.std.proofs.Common.{Option, Some, ap, subst, sym, ◌∙◌}
use Rattle.std.proofs.Math.Nat.{mul-le-mul_right}
use Rattle.std.proofs.lemmas.Nat.{div-add-mod'}
use Rattle.flow_core.specs.declared.Hold.{Hold}
use Rattle.flow_core.specs.Counts.{IsIn}
use Rattle.flow_core.specs.Events.{hold}
use Rattle.flow_core.specs.Net.{Net, IsNet, succs_of}
use Rattle.flow_core.specs.Flow.{Flow}
use Rattle.flow_core.proofs.Nets.{succs_near}
use Rattle.flow_core.proofs.Totals.{is_in_at}
use Rattle.flow_board.specs.Seats.{TellsNext}

-- those of one task are among them
pub base_fits : (task tasks strands : ℕ) → task < tasks
    → task * strands + strands ≤ tasks * strands
base_fits task tasks strands near =
    let le : task + 1 ≤ tasks = omega arith in
    let all = mul-le-mul_right strands le in omega arith

pub item_fits : (item tasks strands : ℕ) → item / strands < tasks
    → item - item % strands + strands ≤ tasks * strands
item_fits item tasks strands near =
    let all = base_fits (item / strands) tasks strands near in
    let parts = div-add-mod' item strands in omega arith

-- the successor that a strand tells next is in range
pub told_near : (f : Flow) (n : Net) → IsNet n → f.net ≡ n
    → (o : Option Hold) (k p a told : ℕ) → o ≡ Some (hold p a told) → TellsNext f o k
    → told < length (succs_of n p) → k < n.strands
told_near f n ok same o k p a told is tells lt =
    let at : k ≡ get_or (succs_of f.net p) told 0 = subst (λ q. TellsNext f q k) is tells in
    let here : k ≡ get_or (succs_of n p) told 0 =
    at ∙ ap (λ (m : Net). get_or (succs_of m p) told 0) same in
    succs_near n ok p k (subst (λ q. IsIn q (succs_of n p)) (sym here)
    (is_in_at (succs_of n p) told lt))
