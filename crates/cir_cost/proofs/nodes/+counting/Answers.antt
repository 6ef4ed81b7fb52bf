use Rattle.std.proofs.Common.{◌≡◌, ◌∙◌, ◌+◌, List, drop, ap, sym, arith}
use Rattle.std.proofs.lemmas.List.{drop_all}
use Rattle.cir_ast.specs.declared.marked.Accessor.{Accessor as CodeAccessor}
use Rattle.cir_ast.specs.declared.program.Meant.{Meant}
use Rattle.cir_ast.specs.Tree.{bare, bare_exprs, as_accessors, place_accessors}
use Rattle.cir_meaning.specs.Costs as M
use Rattle.cir_cost.proofs.Trees.{nodes_array, nodes_call, nodes_place}
use Rattle.cir_cost.proofs.nodes.+counting.Goals as goal

pub all_nodes-returns : goal.all_nodes-returns
all_nodes-returns t c =
    let none : M.all_nodes (bare_exprs _) ≡ 0 =
    ap (λ es. M.all_nodes (bare_exprs es)) (drop_all _ c.args.es.now c.loop-e-test.false) in
    let sum = c.loop-e.invariant.sum in
    omega (arith, sum, none, c.loop-e.invariant.fits)

pub place_nodes-returns : goal.place_nodes-returns
place_nodes-returns t c =
    let p = c.args.place.now in
    let none : M.place_nodes (as_accessors
    (drop c.loop-accessor.accessor-index c.as_slice-accessor-items.result.now)) ≡ 0 =
    ap (λ (list : List (CodeAccessor Meant)). M.place_nodes (as_accessors list))
    (drop_all _ c.as_slice-accessor-items.result.now c.loop-accessor-test.false) in
    let items : M.place_nodes (as_accessors c.as_slice-accessor-items.result.now)
    ≡ M.place_nodes (place_accessors p) =
    ap (λ (list : List (CodeAccessor Meant)). M.place_nodes (as_accessors list))
    c.as_slice-accessor-items.ensures
    ∙ sym (nodes_place p) in
    omega (arith, c.loop-accessor.invariant.sum, none, items, c.loop-accessor.invariant.fits)

pub nodes_of-returns-in-Call : goal.nodes_of-returns-in-Call
nodes_of-returns-in-Call t c =
    let w = c.in-Call in
    let whole : M.nodes_of (bare c.args.e.now) ≡ 1 + M.all_nodes (bare_exprs w.arguments) =
    ap (λ e. M.nodes_of (bare e)) w.is ∙ nodes_call w.field-0 w.field-1 w.field-2 w.arguments in
    let part : M.all_nodes (bare_exprs c.as_slice.result.now)
    ≡ M.all_nodes (bare_exprs w.arguments) =
    ap (λ es. M.all_nodes (bare_exprs es)) c.as_slice.ensures in
    omega (arith, whole, part, c.all_nodes.ensures, c.saturating_add-in-Call.ensures)

pub nodes_of-returns-in-Array : goal.nodes_of-returns-in-Array
nodes_of-returns-in-Array t c =
    let w = c.in-Array in
    let whole : M.nodes_of (bare c.args.e.now) ≡ 1 + M.all_nodes (bare_exprs w.elements) =
    ap (λ e. M.nodes_of (bare e)) w.is ∙ nodes_array w.elements in
    let part : M.all_nodes (bare_exprs c.as_slice-in-Array.result.now)
    ≡ M.all_nodes (bare_exprs w.elements) =
    ap (λ es. M.all_nodes (bare_exprs es)) c.as_slice-in-Array.ensures in
    omega (arith, whole, part, c.all_nodes-in-Array.ensures, c.saturating_add-in-Array.ensures)
