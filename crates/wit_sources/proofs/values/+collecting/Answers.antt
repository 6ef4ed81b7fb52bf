use Rattle.std.proofs.Common.{◌≡◌, ◌∙◌, ◌+◌, [], ◌∷◌, ◌++◌, Some, None, ℕ, true, false, ap, ap₂}
use Rattle.std.proofs.Common.{arith, drop, inl, inr, subst, sym}
use Rattle.std.specs.Prelude.{is_some}
use Rattle.std.proofs.lemmas.List.{drop_all}
use Rattle.std.proofs.lemmas.Result.{on_ok_weaker}
use Rattle.cir_arrays.proofs.Lists.{at_read}
use Rattle.cir_ast.specs.declared.marked.Expr.TheVariants as expr
use Rattle.cir_ast.specs.Tree.{as_accessors, bare, bare_exprs}
use Rattle.wit_lower.specs.Pieces.{decided}
use Rattle.cir_emit.specs.Reads as E
use Rattle.wit_sourced.specs.Loaded.{called_in, components_in}
use Rattle.wit_sources.specs.Fronts.{front_of, port_by}
use Rattle.wit_sources.specs.Given.{Seen, Reads}
use Rattle.wit_sources.specs.Collected.{ground_with, homes_in, seen, shapes_in}
use Rattle.wit_sources.proofs.Reading.{all_read, binary_read, choice_read, expr_then, index_read}
use Rattle.wit_sources.proofs.Reading.{member_read, none_of, reads_none, side_first}
use Rattle.wit_sources.proofs.Trees.{reads_array, reads_call, reads_known_call, reads_place}
use Rattle.wit_sources.proofs.values.+collecting.Goals as goal

-- ---- calls
pub collect-returns-then-is_called-clause-reads : goal.collect-returns-then-is_called-clause-reads
collect-returns-then-is_called-clause-reads g t c =
    let s = c.args.setting.now in
    let found = c.args.found.now in
    let offer = g.I.Inputs.offer c.args.inputs.now in
    let homes = homes_in found in
    let one = seen found in
    let two = seen found in
    let ground = ground_with s (shapes_in found) two.list in
    let x = c.in-Call in
    let call = expr.Call x.field-0 x.field-1 x.field-2 x.arguments in
    let told : is_some (called_in s.calls.now (bare call)) ≡ true =
    sym (c.is_called.ensures ∙ ap (λ e. is_some (called_in s.calls.now (bare e))) x.is)
    ∙ c.if-is_called.true in
    subst (Reads homes offer one two) (sym (ap (λ e. E.expr_reads ground homes (bare e)) x.is
    ∙ reads_known_call ground homes x.field-0 x.field-1 x.field-2 x.arguments told))
    (reads_none homes offer one)

pub collect-returns-else-is_called-clause-reads : goal.collect-returns-else-is_called-clause-reads
collect-returns-else-is_called-clause-reads g t c =
    let s = c.args.setting.now in
    let found = c.args.found.now in
    let offer = g.I.Inputs.offer c.args.inputs.now in
    let homes = homes_in found in
    let one = seen found in
    let two = seen c.collect_all.new.found in
    let ground = ground_with s (shapes_in found) two.list in
    let x = c.in-Call in
    let call = expr.Call x.field-0 x.field-1 x.field-2 x.arguments in
    let told : is_some (called_in s.calls.now (bare call)) ≡ false =
    sym (c.is_called.ensures ∙ ap (λ e. is_some (called_in s.calls.now (bare e))) x.is)
    ∙ c.if-is_called.false in
    on_ok_weaker c.collect_all.result (subst (Reads homes offer one two)
    (ap (λ l. E.exprs_reads ground homes (bare_exprs l)) c.as_slice-in-Call.ensures
    ∙ sym (ap (λ e. E.expr_reads ground homes (bare e)) x.is
    ∙ reads_call ground homes x.field-0 x.field-1 x.field-2 x.arguments told)))
    c.collect_all.ensures.reads

-- ---- what has no operator
pub collect-returns-in-Number-clause-reads : goal.collect-returns-in-Number-clause-reads
collect-returns-in-Number-clause-reads g t c =
    let s = c.args.setting.now in
    let found = c.args.found.now in
    let offer = g.I.Inputs.offer c.args.inputs.now in
    let homes = homes_in found in
    let one = seen found in
    let two = seen found in
    let ground = ground_with s (shapes_in found) two.list in
    let none : E.expr_reads ground homes (bare c.args.e.now) ≡ [] = elim c.in-Number.is [
      | inl w ↦ ap (λ e. E.expr_reads ground homes (bare e)) w.1
      | inr w ↦ ap (λ e. E.expr_reads ground homes (bare e)) w.1
    ] in
    subst (Reads homes offer one two) (sym none) (reads_none homes offer one)

pub collect-returns-in-Number-2-clause-reads : goal.collect-returns-in-Number-2-clause-reads
collect-returns-in-Number-2-clause-reads g t c =
    let s = c.args.setting.now in
    let found = c.args.found.now in
    let offer = g.I.Inputs.offer c.args.inputs.now in
    let homes = homes_in found in
    let one = seen found in
    let two = seen found in
    let ground = ground_with s (shapes_in found) two.list in
    let none : E.expr_reads ground homes (bare c.args.e.now) ≡ [] = elim c.in-Number.is [
      | inl w ↦ ap (λ e. E.expr_reads ground homes (bare e)) w.1
      | inr w ↦ ap (λ e. E.expr_reads ground homes (bare e)) w.1
    ] in
    subst (Reads homes offer one two) (sym none) (reads_none homes offer one)

pub collect-returns-in-Place-clause-reads : goal.collect-returns-in-Place-clause-reads
collect-returns-in-Place-clause-reads g t c =
    let s = c.args.setting.now in
    let found = c.args.found.now in
    let offer = g.I.Inputs.offer c.args.inputs.now in
    let homes = homes_in found in
    let one = seen found in
    let two = seen c.collect_place.new.found in
    let ground = ground_with s (shapes_in found) two.list in
    let p = c.in-Place.place in
    on_ok_weaker c.collect_place.result (subst (Reads homes offer one two)
    (ap (λ l. E.place_reads ground homes (E.Written p.meant) [] (as_accessors l))
    c.as_slice.ensures
    ∙ sym (ap (λ e. E.expr_reads ground homes (bare e)) c.in-Place.is
    ∙ reads_place ground homes p)))
    c.collect_place.ensures.reads

pub collect-returns-in-Array-clause-reads : goal.collect-returns-in-Array-clause-reads
collect-returns-in-Array-clause-reads g t c =
    let s = c.args.setting.now in
    let found = c.args.found.now in
    let offer = g.I.Inputs.offer c.args.inputs.now in
    let homes = homes_in found in
    let one = seen found in
    let two = seen c.collect_all-in-Array.new.found in
    let ground = ground_with s (shapes_in found) two.list in
    on_ok_weaker c.collect_all-in-Array.result (subst (Reads homes offer one two)
    (ap (λ l. E.exprs_reads ground homes (bare_exprs l)) c.as_slice-in-Array.ensures
    ∙ sym (ap (λ e. E.expr_reads ground homes (bare e)) c.in-Array.is
    ∙ reads_array ground homes c.in-Array.elements)))
    c.collect_all-in-Array.ensures.reads

-- ---- operators
pub collect-returns-else-branch-clause-reads : goal.collect-returns-else-branch-clause-reads
collect-returns-else-branch-clause-reads g t c =
    let s = c.args.setting.now in
    let found = c.args.found.now in
    let offer = g.I.Inputs.offer c.args.inputs.now in
    let homes = homes_in found in
    let one = seen found in
    let two = seen c.collect-in-Binary-2.new.found in
    let ground = ground_with s (shapes_in found) two.list in
    let x = c.in-Binary in
    let a = bare x.a.value in
    let b = bare x.b.value in
    let mid = seen c.collect-in-Binary.new.found in
    let none = none_of _ (sym (rw (
      c.operator_of.ensures,
      c.deref-in-Binary-2.ensures,
      c.collect-in-Binary.ensures.shapes,
    ) at c.in_ok-is_decided-in-Binary.ensures) ∙ c.if-branch.false) in
    let first = rw c.deref-in-Binary.ensures at c.in_ok-collect-in-Binary.ensures.reads in
    on_ok_weaker c.collect-in-Binary-2.result (λ second. subst (Reads homes offer one two)
    (sym (ap (λ e. E.expr_reads ground homes (bare e)) x.is))
    (binary_read s (shapes_in found) offer x.op a b one mid two none first second))
    (rw (c.deref-in-Binary-3.ensures, c.collect-in-Binary.ensures.shapes)
    at c.collect-in-Binary-2.ensures.reads)

pub collect-returns-in-Some-eq0-clause-reads : goal.collect-returns-in-Some-eq0-clause-reads
collect-returns-in-Some-eq0-clause-reads g t c =
    let s = c.args.setting.now in
    let found = c.args.found.now in
    let offer = g.I.Inputs.offer c.args.inputs.now in
    let homes = homes_in found in
    let one = seen found in
    let two = seen c.collect-in-Some-eq0.new.found in
    let ground = ground_with s (shapes_in found) two.list in
    let x = c.in-Choice in
    let a = bare x.a.value in
    let b = bare x.b.value in
    let mid = seen c.collect-in-Choice.new.found in
    let same = c.collect-in-Choice.ensures.shapes in
    let known : c.in_ok-condition-in-Choice.condition
    ≡ (ground_with s (shapes_in found) mid.list).known (bare x.c.value) =
    rw (c.deref-in-Choice-2.ensures, same) at c.in_ok-condition-in-Choice.ensures in
    let first = rw c.deref-in-Choice.ensures at c.in_ok-collect-in-Choice.ensures.reads in
    let left = E.expr_reads ground homes a in
    let right = E.expr_reads ground homes b in
    let number : Some 0 ≡ (ground_with s (shapes_in found) mid.list).known (bare x.c.value) =
    let zero : c.in-Some-eq0.field-0 ≡ 0 =
    omega (arith, c.in-Some-eq0.field-0-test, c.in-Some-eq0.field-0-is) in
    sym (c.in-Some-eq0.is ∙ ap (λ (n : ℕ). Some n) zero) ∙ known in
    on_ok_weaker c.collect-in-Some-eq0.result (λ made. subst (Reads homes offer one two)
    (sym (ap (λ e. E.expr_reads ground homes (bare e)) x.is))
    (choice_read s (shapes_in found) offer (bare x.c.value) a b one mid two first
    (subst (λ k. Reads homes offer mid two (E.sides k left right)) number made)))
    (rw (c.deref-in-Some-eq0.ensures, same) at c.collect-in-Some-eq0.ensures.reads)

pub collect-returns-in-Some-clause-reads : goal.collect-returns-in-Some-clause-reads
collect-returns-in-Some-clause-reads g t c =
    let s = c.args.setting.now in
    let found = c.args.found.now in
    let offer = g.I.Inputs.offer c.args.inputs.now in
    let homes = homes_in found in
    let one = seen found in
    let two = seen c.collect-in-Some.new.found in
    let ground = ground_with s (shapes_in found) two.list in
    let x = c.in-Choice in
    let a = bare x.a.value in
    let b = bare x.b.value in
    let mid = seen c.collect-in-Choice.new.found in
    let same = c.collect-in-Choice.ensures.shapes in
    let known : c.in_ok-condition-in-Choice.condition
    ≡ (ground_with s (shapes_in found) mid.list).known (bare x.c.value) =
    rw (c.deref-in-Choice-2.ensures, same) at c.in_ok-condition-in-Choice.ensures in
    let first = rw c.deref-in-Choice.ensures at c.in_ok-collect-in-Choice.ensures.reads in
    let left = E.expr_reads ground homes a in
    let right = E.expr_reads ground homes b in
    let n = c.in-Some.field-0 in
    let number : Some n ≡ (ground_with s (shapes_in found) mid.list).known (bare x.c.value) =
    sym c.in-Some.is ∙ known in
    on_ok_weaker c.collect-in-Some.result (λ made. subst (Reads homes offer one two)
    (sym (ap (λ e. E.expr_reads ground homes (bare e)) x.is))
    (choice_read s (shapes_in found) offer (bare x.c.value) a b one mid two first
    (subst (λ k. Reads homes offer mid two (E.sides k left right)) number
    (subst (Reads homes offer mid two) (sym (side_first n
    (λ z. c.in-Some.field-0-test.1 (omega (arith, z, c.in-Some.field-0-is))) left right))
    made))))
    (rw (c.deref-in-Some.ensures, same) at c.collect-in-Some.ensures.reads)

pub collect-returns-in_ok-collect-in-None-clause-reads :
    goal.collect-returns-in_ok-collect-in-None-clause-reads
collect-returns-in_ok-collect-in-None-clause-reads g t c =
    let s = c.args.setting.now in
    let found = c.args.found.now in
    let offer = g.I.Inputs.offer c.args.inputs.now in
    let homes = homes_in found in
    let one = seen found in
    let two = seen c.collect-in-None-2.new.found in
    let ground = ground_with s (shapes_in found) two.list in
    let x = c.in-Choice in
    let a = bare x.a.value in
    let b = bare x.b.value in
    let mid = seen c.collect-in-Choice.new.found in
    let same = c.collect-in-Choice.ensures.shapes in
    let known : c.in_ok-condition-in-Choice.condition
    ≡ (ground_with s (shapes_in found) mid.list).known (bare x.c.value) =
    rw (c.deref-in-Choice-2.ensures, same) at c.in_ok-condition-in-Choice.ensures in
    let first = rw c.deref-in-Choice.ensures at c.in_ok-collect-in-Choice.ensures.reads in
    let left = E.expr_reads ground homes a in
    let right = E.expr_reads ground homes b in
    let number : None ≡ (ground_with s (shapes_in found) mid.list).known (bare x.c.value) =
    sym c.in-None.is ∙ known in
    let then = seen c.collect-in-None.new.found in
    let chosen = rw (c.deref-in-None.ensures, same) at c.in_ok-collect-in-None.ensures.reads in
    on_ok_weaker c.collect-in-None-2.result (λ made. subst (Reads homes offer one two)
    (sym (ap (λ e. E.expr_reads ground homes (bare e)) x.is))
    (choice_read s (shapes_in found) offer (bare x.c.value) a b one mid two first
    (subst (λ k. Reads homes offer mid two (E.sides k left right)) number
    (expr_then s (shapes_in found) offer a mid then two right chosen made))))
    (rw (c.deref-in-None-2.ensures, c.collect-in-None.ensures.shapes, same)
    at c.collect-in-None-2.ensures.reads)

-- ---- one behind the other
pub collect_all-loop-e-preserved : goal.collect_all-loop-e-preserved
collect_all-loop-e-preserved g t c =
    let s = c.args.setting.now in
    let found = c.args.found.now in
    let offer = g.I.Inputs.offer c.args.inputs.now in
    let homes = homes_in found in
    let loop = c.loop-e in
    let list = c.args.es.now in
    let i = loop.e-index in
    let now = seen loop.found in
    let two = seen c.collect.new.found in (
      c.collect.ensures.shapes ∙ loop.invariant.0,
      λ u rest. loop.invariant.1 u (subst (Reads homes offer now u)
          (sym (at_read (λ l. E.exprs_reads (ground_with s (shapes_in found) u.list) homes
          (bare_exprs l)) list i c.e-item.result c.loop-e-test.true c.e-item.is))
          (all_read s (shapes_in found) offer (bare c.e-item.result)
          (bare_exprs (drop (i + 1) list)) now two u
          (rw loop.invariant.0 at c.in_ok-collect.ensures.reads) rest)),
    )

pub collect_all-returns-clause-reads : goal.collect_all-returns-clause-reads
collect_all-returns-clause-reads g t c =
    let s = c.args.setting.now in
    let found = c.args.found.now in
    let offer = g.I.Inputs.offer c.args.inputs.now in
    let homes = homes_in found in
    let loop = c.loop-e in
    let now = seen loop.found in
    let ground = ground_with s (shapes_in found) now.list in
    loop.invariant.1 now (subst (Reads homes offer now now)
    (sym (ap (λ l. E.exprs_reads ground homes (bare_exprs l))
    (drop_all loop.e-index c.args.es.now c.loop-e-test.false)))
    (reads_none homes offer now))

-- ---- places
pub collect_place-loop-accessor-preserved : goal.collect_place-loop-accessor-preserved
collect_place-loop-accessor-preserved g t c =
    let s = c.args.setting.now in
    let found = c.args.found.now in
    let shapes = shapes_in found in
    let offer = g.I.Inputs.offer c.args.inputs.now in
    let homes = homes_in found in
    let loop = c.loop-accessor in
    let list = c.args.accessors.now in
    let i = loop.accessor-index in
    let front = front_of loop.front in
    let indices = loop.indices.items in
    let now = seen loop.found in
    let here = λ (u : Seen). at_read (λ l. E.place_reads (ground_with s shapes u.list) homes front
    indices (as_accessors l)) list i c.accessor-item.result c.loop-accessor-test.true
    c.accessor-item.is in
    let rest_list = drop (i + 1) list in
    elim c.match-accessor.branch [
      | goal.collect_place-in-Index+in_ok-collect-in-Index+in_ok-index-in-Index+in_ok-push-in-Index
          w ↦
          let e = bare w.in-Index.e in
          let two = seen w.collect.new.found in
          let known : w.in_ok-index-in-Index.index ≡ (ground_with s shapes two.list).known e =
          rw (w.collect.ensures.shapes, loop.invariant.0) at w.in_ok-index-in-Index.ensures in
          rw (w.found-is, w.front-is, w.indices-is, w.in_ok-push-in-Index.ensures.items) (
            w.collect.ensures.shapes ∙ loop.invariant.0,
            λ u rest. loop.invariant.1 u (subst (Reads homes offer now u)
                (sym (here u ∙ ap (λ x. E.place_reads (ground_with s shapes u.list) homes front
                indices (as_accessors (x ∷ rest_list))) w.in-Index.is))
                (index_read s shapes offer front indices e (as_accessors rest_list) now two u
                (rw loop.invariant.0 at w.in_ok-collect-in-Index.ensures.reads)
                (subst (λ k. Reads homes offer two u (E.place_reads (ground_with s shapes u.list)
                homes front (indices ++ k ∷ []) (as_accessors rest_list))) known rest))),
          )
      | goal.collect_place-in-Member+in_ok-front-in-Member w ↦
          let name = w.in-Member.name in
          let port : front_of w.in_ok-front-in-Member.front
          ≡ E.Reached (port_by (components_in s.components.now) front indices name) =
          rw (w.as_slice.ensures.value, w.as_slice-in-Member.ensures)
          at w.in_ok-front-in-Member.ensures in
          rw (
            w.found-is,
            w.front-is,
            w.indices-is,
            w.new-indices-in-Member.ensures.items,
          ) (
            loop.invariant.0,
            λ u rest. loop.invariant.1 u (subst (Reads homes offer now u)
                (sym (here u ∙ ap (λ x. E.place_reads (ground_with s shapes u.list) homes front
                indices (as_accessors (x ∷ rest_list))) w.in-Member.is))
                (member_read s shapes offer front indices name (as_accessors rest_list) now u
                (subst (λ f. Reads homes offer now u (E.place_reads (ground_with s shapes u.list)
                homes f [] (as_accessors rest_list))) port rest))),
          )
    ]

pub collect_place-returns-clause-reads : goal.collect_place-returns-clause-reads
collect_place-returns-clause-reads g t c =
    let s = c.args.setting.now in
    let found = c.args.found.now in
    let offer = g.I.Inputs.offer c.args.inputs.now in
    let homes = homes_in found in
    let loop = c.loop-accessor in
    let now = seen loop.found in
    let two = seen c.collect_end.new.found in
    let ground = ground_with s (shapes_in found) two.list in
    on_ok_weaker c.collect_end.result (λ made. loop.invariant.1 two
    (subst (Reads homes offer now two)
    (sym (ap (λ l. E.place_reads ground homes (front_of loop.front) loop.indices.items
    (as_accessors l)) (drop_all loop.accessor-index c.args.accessors.now
    c.loop-accessor-test.false))) made))
    (rw (c.as_slice-2.ensures.value, loop.invariant.0) at c.collect_end.ensures.reads)
