use Rattle.std.proofs.Common.{ℕ, ◌<◌, List, length, get_or, sym, ap, subst, arith}
use Rattle.flow_core.proofs.Nets.{succs_few}
use Rattle.flow_core.proofs.Steps.{next_waiting}
use Rattle.flow_core.proofs.events.release.Goals as goal

pub bounds-as_slice-next : goal.bounds-as_slice-next
bounds-as_slice-next c = let h = c.in-Some.field-0 in
    let P : List ℕ → Type 0 = λ ss. get_or ss h.released 0 < length c.args.state.now.missing in
    let told = c.succs_of-succs.ensures in let e = ap length told in
    let left = c.if-released-succs.false in let all = ap length c.as_slice.ensures in
    let next = next_waiting c.args.graph.now c.held.ensures.net c.args.state.now c.requires
    c.args.worker h c.in-Some.ensures.known (omega arith) in
    let Q : List ℕ → Type 0 = λ ms. get_or c.succs_of-succs.result.now h.released 0 < length ms in
    subst Q (sym c.as_slice.ensures) (subst P (sym told) next.near)

pub set-requires : goal.set-requires
set-requires c = let h = c.in-Some.field-0 in
    let P : List ℕ → Type 0 = λ ss. get_or ss h.released 0 < length c.args.state.now.missing in
    let told = c.succs_of-succs.ensures in let e = ap length told in
    let left = c.if-released-succs.false in
    let next = next_waiting c.args.graph.now c.held.ensures.net c.args.state.now c.requires
    c.args.worker h c.in-Some.ensures.known (omega arith) in
    subst P (sym told) next.near

pub overflow_sub-missing : goal.overflow_sub-missing
overflow_sub-missing c = let h = c.in-Some.field-0 in
    let P : List ℕ → Type 0 = λ ss. 0 < get_or c.args.state.now.missing
    (get_or ss h.released 0) 0 in
    let told = c.succs_of-succs.ensures in let e = ap length told in
    let left = c.if-released-succs.false in
    let next = next_waiting c.args.graph.now c.held.ensures.net c.args.state.now c.requires
    c.args.worker h c.in-Some.ensures.known (omega arith) in
    let Q : List ℕ → Type 0 = λ ms. 0 < get_or ms (get_or c.succs_of-succs.result.now h.released 0)
    0 in
    let some = subst Q (sym c.as_slice.ensures) (subst P (sym told) next.misses) in omega arith

pub overflow_add-released : goal.overflow_add-released
overflow_add-released c = let h = c.in-Some.field-0 in
    let few = succs_few c.args.graph.now c.held.ensures.net h.strand in
    let e = ap length c.succs_of-succs.ensures in let left = c.if-released-succs.false in
    let small = c.held.ensures.strands in omega arith
