use Rattle.std.proofs.Common.{◌≡◌, ℕ, List, length, IfSome, MatchOption, ap, subst, sym, ◌∙◌, arith}
use Rattle.std.specs.Prelude.{⊤}
use Rattle.flow_core.specs.Net.{net, IsNet}
use Rattle.flow_core.specs.Drawn.{NamesOnce, IsClaimed, AreLinked, IsLate}
use Rattle.flow_core.proofs.Draws.{net_is, late_no}
use Rattle.flow_core.proofs.graph.Graph.new.Goals as goal

pub returns-in_default-2-clause-unfit : goal.returns-in_default-2-clause-unfit
returns-in_default-2-clause-unfit c = λ _ drawn.
    let got = subst (λ o. IfSome o (λ ms. IsClaimed ms.items c.as_slice-2.result.now
    × (length ms.items ≡ c.args.cells))) c.in-Some.is c.in_ok-marks.ensures.some in
    let claimed = subst (IsClaimed c.in-Some.marks.items) c.as_slice-2.ensures.value got.0 in
    let late = subst (λ o. MatchOption o (IsLate c.as_slice-3.result.now c.as_slice-4.result.now)
    (λ _. ⊤)) c.in_default-2.is c.in_ok-links.ensures.none in
    let M : List ℕ → Type 0 = λ ms. IsLate ms c.args.reads.items in
    late_no c.args.cells c.args.reads.items c.args.writes.items c.in-Some.marks.items claimed
    (subst M c.as_slice-3.ensures.value
    (subst (IsLate c.as_slice-3.result.now) c.as_slice-4.ensures.value late)) drawn

pub invariant_of-result : goal.invariant_of-result
invariant_of-result c =
    let got = subst (λ o. IfSome o (λ ms. IsClaimed ms.items c.as_slice-2.result.now
    × (length ms.items ≡ c.args.cells))) c.in-Some.is c.in_ok-marks.ensures.some in
    let claimed = subst (IsClaimed c.in-Some.marks.items) c.as_slice-2.ensures.value got.0 in
    let once = subst (NamesOnce c.args.cells) c.as_slice.ensures.value
    (c.in_ok-reads_once.ensures.0 c.if-not-branch.false) in
    let l = subst (λ o. IfSome o (λ x. AreLinked c.as_slice-3.result.now c.as_slice-4.result.now
    x.preds.items x.succs.items (length c.as_slice-4.result.now)
    × (length x.succs.items ≡ length c.as_slice-4.result.now))) c.in-Some-2.is
    c.in_ok-links.ensures.some in
    let preds : List (List ℕ) = c.in-Some-2.links.preds.items in
    let succs : List (List ℕ) = c.in-Some-2.links.succs.items in
    let M : List ℕ → Type 0 = λ ms. AreLinked ms c.args.reads.items preds succs
    (length c.args.reads.items) in
    let R : List (List ℕ) → Type 0 = λ rs. AreLinked c.as_slice-3.result.now rs preds succs
    (length rs) in
    let linked = subst M c.as_slice-3.ensures.value (subst R c.as_slice-4.ensures.value l.0) in
    let wide = l.1 ∙ ap length c.as_slice-4.ensures.value in
    let e : net c.len-strands.result c.args.cells c.of.result c.of-2.result c.of-3.result
    c.of-4.result ≡ net c.len-strands.result c.args.cells c.args.reads.items
    c.args.writes.items preds succs
    = λ i. net c.len-strands.result c.args.cells (c.of.ensures i) (c.of-2.ensures i)
    (c.of-3.ensures i) (c.of-4.ensures i) in
    let each : length c.args.reads.items ≡ length c.args.writes.items = omega arith in
    let count : c.len-strands.result ≡ length c.args.reads.items = omega arith in
    subst IsNet (sym e) (net_is c.len-strands.result c.args.cells c.args.reads.items
    c.args.writes.items preds succs c.in-Some.marks.items count each once claimed got.1 linked
    wide)
