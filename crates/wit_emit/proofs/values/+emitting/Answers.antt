use Rattle.std.proofs.Common.{◌≡◌, ◌∙◌, ℕ, ◌+◌, [], ◌∷◌, ◌++◌, length, drop, ap, sym}
use Rattle.std.specs.Prelude.{None, Some}
use Rattle.std.proofs.lemmas.Result.{on_ok_weaker}
use Rattle.std.proofs.lemmas.List.{at_drop_all}
use Rattle.wit_code.specs.declared.code.Op.TheVariants as op
use Rattle.cir_ast.specs.declared.program.Meant.{Meant}
use Rattle.cir_ast.specs.declared.marked.Accessor.{Accessor}
use Rattle.cir_ast.specs.declared.marked.Expr.TheVariants as expr
use Rattle.cir_ast.specs.Tree.{bare, bare_exprs, as_accessors}
use Rattle.cir_arrays.proofs.Lists.{at_read}
use Rattle.cir_meaning.specs.Operators.{operator_of, unary_of}
use Rattle.wit_lower.specs.Homes as L
use Rattle.wit_lower.specs.Pieces as P
use Rattle.wit_lower.specs.Values as V
use Rattle.wit_emit.specs.Emitted as E
use Rattle.wit_sourced.specs.Shown.{homes_of}
use Rattle.wit_emit.specs.Grounds.{front_of, ground_of}
use Rattle.wit_sourced.specs.Loaded.{called_of}
use Rattle.wit_emit.proofs.Chained.{chained, then_made, then_ended}
use Rattle.wit_emit.proofs.Ended.{either_ended, jump_within, other_within, unless_ended}
use Rattle.wit_emit.proofs.Trees.{arm, choice_made, code_array, code_binary, code_call, code_place}
use Rattle.wit_emit.proofs.Trees.{first_side}
use Rattle.wit_emit.proofs.values.+emitting.Goals as goal

-- ---- an expression
pub emit-returns-in_ok-emit_place-in-Place : goal.emit-returns-in_ok-emit_place-in-Place
emit-returns-in_ok-emit_place-in-Place t c =
    let g = ground_of c.args.ground.now in
    let homes = homes_of c.args.scope.now.homes.items in
    let old = c.args.code.now in
    let p = c.in-Place.place in
    arm g homes c.args.top old c.emit_place.new.code
    (V.place_code g homes c.args.top (length old) (L.Named p.meant) [] (as_accessors p.accessors))
    c.args.e.now (expr.Place p) c.in-Place.is (code_place g homes c.args.top (length old) p)
    (rw c.as_slice.ensures at c.in_ok-emit_place-in-Place.ensures)

pub emit-returns-in_ok-emit_all-in-Array : goal.emit-returns-in_ok-emit_all-in-Array
emit-returns-in_ok-emit_all-in-Array t c =
    let g = ground_of c.args.ground.now in
    let homes = homes_of c.args.scope.now.homes.items in
    let old = c.args.code.now in
    let es = c.in-Array.elements in
    arm g homes c.args.top old c.emit_all.new.code
    (V.exprs_code g homes c.args.top (length old) (bare_exprs es)) c.args.e.now (expr.Array es)
    c.in-Array.is (code_array g homes c.args.top (length old) es)
    (rw c.as_slice-in-Array.ensures at c.in_ok-emit_all-in-Array.ensures)

pub emit-returns-in_ok-push-in-Unary : goal.emit-returns-in_ok-push-in-Unary
emit-returns-in_ok-push-in-Unary t c =
    let g = ground_of c.args.ground.now in
    let homes = homes_of c.args.scope.now.homes.items in
    let top = c.args.top in
    let old = c.args.code.now in
    let a = c.in-Unary.a.value in
    let last = op.Un (unary_of c.in-Unary.op) top top ∷ [] in
    rw c.in-Unary.is (then_ended old c.emit-in-Unary.new.code c.push-in-Unary.new.self
    (V.expr_code g homes top (length old) (bare a)) last
    (rw c.deref-in-Unary.ensures at c.in_ok-emit-in-Unary.ensures)
    (rw c.op_of.ensures at c.in_ok-push-in-Unary.ensures.ok))

pub emit-returns-in_ok-emit_right-in-Binary : goal.emit-returns-in_ok-emit_right-in-Binary
emit-returns-in_ok-emit_right-in-Binary t c =
    let g = ground_of c.args.ground.now in
    let homes = homes_of c.args.scope.now.homes.items in
    let top = c.args.top in
    let old = c.args.code.now in
    let o = operator_of c.in-Binary.op in
    let a = bare c.in-Binary.a.value in
    let b = bare c.in-Binary.b.value in
    rw c.in-Binary.is (then_made old c.emit-in-Binary.new.code c.emit_right.new.code
    (V.expr_code g homes top (length old) a)
    (λ p. E.right_code g homes top p (P.decided o (g.known a)) o b)
    (rw c.deref-in-Binary.ensures at c.in_ok-emit-in-Binary.ensures)
    (rw (
      c.in_ok-known-in-Binary.ensures,
      c.operator_of-op.ensures,
      c.deref-in-Binary-2.ensures,
      c.deref-in-Binary-3.ensures,
    ) at c.in_ok-emit_right-in-Binary.ensures)
    ∙ ap (λ (p : P.Code). old ++ p)
    (sym (code_binary g homes top (length old) c.in-Binary.op a b)))

-- ---- `?:`
pub emit-begin_other-requires : goal.emit-begin_other-requires
emit-begin_other-requires t c =
    let g = ground_of c.args.ground.now in
    let homes = homes_of c.args.scope.now.homes.items in
    let begun = c.in_ok-other-in-None.ensures in
    jump_within c.emit-in-Choice.new.code c.begin_jump.new.code c.emit-in-None.new.code
    (V.expr_code g homes c.args.top (length c.begin_jump.new.code)
    (bare c.deref-in-None.result.now)) c.in_ok-other-in-None.other (op.JumpZero c.args.top 0)
    begun.place begun.code c.in_ok-emit-in-None.ensures

pub emit-end_jump-requires : goal.emit-end_jump-requires
emit-end_jump-requires t c =
    let g = ground_of c.args.ground.now in
    let homes = homes_of c.args.scope.now.homes.items in
    let begun = c.in_ok-last-in-None.ensures in
    other_within c.emit-in-None.new.code c.begin_other.new.code c.emit-in-None-2.new.code
    (V.expr_code g homes c.args.top (length c.begin_other.new.code)
    (bare c.deref-in-None-2.result.now)) c.in_ok-other-in-None.other c.in_ok-last-in-None.last
    (op.JumpZero c.args.top 0) (op.JumpZero c.args.top (length c.emit-in-None.new.code + 1))
    begun.place begun.code c.in_ok-emit-in-None-2.ensures

pub emit-returns-in_ok-end_jump-in-None : goal.emit-returns-in_ok-end_jump-in-None
emit-returns-in_ok-end_jump-in-None t c =
    let g = ground_of c.args.ground.now in
    let homes = homes_of c.args.scope.now.homes.items in
    let top = c.args.top in
    let old = c.args.code.now in
    let test = bare c.in-Choice.c.value in
    let a = bare c.in-Choice.a.value in
    let b = bare c.in-Choice.b.value in
    let begun = c.in_ok-other-in-None.ensures in
    let between = c.in_ok-last-in-None.ensures in
    let unknown : None ≡ g.known test =
    sym c.in-None.is ∙ (rw c.deref-in-Choice-2.ensures at c.in_ok-condition-in-Choice.ensures) in
    rw c.in-Choice.is (choice_made g homes top old c.emit-in-Choice.new.code c.end_jump.new.code
    test a b None unknown (rw c.deref-in-Choice.ensures at c.in_ok-emit-in-Choice.ensures)
    (c.in_ok-end_jump-in-None.ensures
    ∙ either_ended c.emit-in-Choice.new.code c.begin_jump.new.code c.emit-in-None.new.code
    c.begin_other.new.code c.emit-in-None-2.new.code top c.in_ok-other-in-None.other
    c.in_ok-last-in-None.last (λ q. V.expr_code g homes top q a)
    (λ q. V.expr_code g homes top q b) (op.JumpZero top 0) (op.JumpZero top 0) begun.place
    begun.code (rw c.deref-in-None.ensures at c.in_ok-emit-in-None.ensures) between.place
    between.code (rw c.deref-in-None-2.ensures at c.in_ok-emit-in-None-2.ensures)))

pub emit-returns-in-Some-eq0 : goal.emit-returns-in-Some-eq0
emit-returns-in-Some-eq0 t c =
    let g = ground_of c.args.ground.now in
    let homes = homes_of c.args.scope.now.homes.items in
    let top = c.args.top in
    let old = c.args.code.now in
    let test = bare c.in-Choice.c.value in
    let a = bare c.in-Choice.a.value in
    let b = bare c.in-Choice.b.value in
    let zero : c.in-Some-eq0.field-0 ≡ 0 = rw c.in-Some-eq0.is at c.in-Some-eq0.field-0-test in
    let number : Some 0 ≡ g.known test =
    sym (c.in-Some-eq0.is ∙ ap (λ (n : ℕ). Some n) zero)
    ∙ (rw c.deref-in-Choice-2.ensures at c.in_ok-condition-in-Choice.ensures) in
    rw c.in-Choice.is (on_ok_weaker c.emit-in-Some-eq0.result (λ made.
    choice_made g homes top old c.emit-in-Choice.new.code c.emit-in-Some-eq0.new.code test a b
    (Some 0) number (rw c.deref-in-Choice.ensures at c.in_ok-emit-in-Choice.ensures)
    (rw c.deref-in-Some-eq0.ensures at made)) c.emit-in-Some-eq0.ensures)

pub emit-returns-in-Some : goal.emit-returns-in-Some
emit-returns-in-Some t c =
    let g = ground_of c.args.ground.now in
    let homes = homes_of c.args.scope.now.homes.items in
    let top = c.args.top in
    let old = c.args.code.now in
    let one = c.emit-in-Choice.new.code in
    let test = bare c.in-Choice.c.value in
    let a = bare c.in-Choice.a.value in
    let b = bare c.in-Choice.b.value in
    let n = c.in-Some.field-0 in
    let other : n ≡ 0 → ⊥ = rw c.in-Some.is at (c.in-Some.field-0-test.1) in
    let number : Some n ≡ g.known test =
    sym c.in-Some.is ∙ (rw c.deref-in-Choice-2.ensures at c.in_ok-condition-in-Choice.ensures) in
    rw c.in-Choice.is (on_ok_weaker c.emit-in-Some.result (λ made.
    choice_made g homes top old one c.emit-in-Some.new.code test a b (Some n) number
    (rw c.deref-in-Choice.ensures at c.in_ok-emit-in-Choice.ensures)
    ((rw c.deref-in-Some.ensures at made) ∙ ap (λ (k : P.Code). one ++ k)
    (sym (first_side n other top (length one)
    (λ q. V.expr_code g homes top q a) (λ q. V.expr_code g homes top q b)))))
    c.emit-in-Some.ensures)

-- ---- a call
pub emit-returns-in_ok-constants-in-Some-called : goal.emit-returns-in_ok-constants-in-Some-called
emit-returns-in_ok-constants-in-Some-called t c =
    let g = ground_of c.args.ground.now in
    let homes = homes_of c.args.scope.now.homes.items in
    let top = c.args.top in
    let old = c.args.code.now in
    let e = c.in-Call in
    let d = called_of c.in-Some-called.value.now in
    let x = expr.Call e.field-0 e.field-1 e.meant e.arguments in
    let is : Some d ≡ g.called (bare x) =
    rw (c.in-Some-called.is, e.is) at c.called.ensures in
    arm g homes top old c.constants.new.code (P.constants top d.items) c.args.e.now x e.is
    (code_call g homes top (length old) e.field-0 e.field-1 e.meant e.arguments (Some d) is)
    (rw c.as_slice-in-Some-called.ensures at c.in_ok-constants-in-Some-called.ensures)

pub emit-returns-in_ok-emit_call-in-None-called : goal.emit-returns-in_ok-emit_call-in-None-called
emit-returns-in_ok-emit_call-in-None-called t c =
    let g = ground_of c.args.ground.now in
    let homes = homes_of c.args.scope.now.homes.items in
    let top = c.args.top in
    let old = c.args.code.now in
    let e = c.in-Call in
    let es = bare_exprs e.arguments in
    let x = expr.Call e.field-0 e.field-1 e.meant e.arguments in
    let arguments = V.exprs_code g homes top (length old) es in
    let call = V.call_code g.keys top e.meant (V.shapes_of g homes es) in
    let is : None ≡ g.called (bare x) = rw (c.in-None-called.is, e.is) at c.called.ensures in
    arm g homes top old c.emit_call.new.code (arguments ++ call) c.args.e.now x e.is
    (code_call g homes top (length old) e.field-0 e.field-1 e.meant e.arguments None is)
    (then_ended old c.emit_all-in-None-called.new.code c.emit_call.new.code arguments call
    (rw c.as_slice-in-None-called.ensures at c.in_ok-emit_all-in-None-called.ensures)
    (rw c.as_slice-in-None-called-2.ensures at c.in_ok-emit_call-in-None-called.ensures))

-- ---- one value behind the other
pub emit_all-loop-e-preserved : goal.emit_all-loop-e-preserved
emit_all-loop-e-preserved t c =
    let g = ground_of c.args.ground.now in
    let homes = homes_of c.args.scope.now.homes.items in
    let loop = c.loop-e in
    let es = c.args.es.now in
    let x = c.e-item.result in
    let rest = bare_exprs (drop (loop.e-index + 1) es) in
    let size = V.size_of g homes (bare x) in
    let whole = at_read (λ l. loop.code ++ V.exprs_code g homes loop.at (length loop.code)
    (bare_exprs l)) es loop.e-index x c.loop-e-test.true c.e-item.is in
    ap (λ (n : ℕ). c.emit.new.code ++ V.exprs_code g homes n (length c.emit.new.code) rest)
    (c.in_ok-at.ensures.ok ∙ ap (λ (n : ℕ). loop.at + n) c.in_ok-size_of.ensures)
    ∙ ap (λ (k : P.Code). k ++ V.exprs_code g homes (loop.at + size) (length k) rest)
    c.in_ok-emit.ensures
    ∙ chained loop.code (V.expr_code g homes loop.at (length loop.code) (bare x))
    (λ p. V.exprs_code g homes (loop.at + size) p rest)
    ∙ sym whole ∙ loop.invariant

-- ---- a place
pub emit_place-loop-accessor-preserved : goal.emit_place-loop-accessor-preserved
emit_place-loop-accessor-preserved t c =
    let g = ground_of c.args.ground.now in
    let homes = homes_of c.args.scope.now.homes.items in
    let top = c.args.top in
    let loop = c.loop-accessor in
    let list = c.args.accessors.now in
    let front = front_of loop.front in
    let indices = loop.indices.items in
    let rest = as_accessors (drop (loop.accessor-index + 1) list) in
    let here = at_read (λ l. loop.code ++ V.place_code g homes top (length loop.code) front
    indices (as_accessors l)) list loop.accessor-index c.accessor-item.result
    c.loop-accessor-test.true c.accessor-item.is in
    let as_is = λ (x : Accessor Meant). loop.code ++ V.place_code g homes top (length loop.code)
    front indices (as_accessors (x ∷ drop (loop.accessor-index + 1) list)) in
    elim c.match-accessor.branch [
      | goal.emit_place-in-Index+in_ok-emit-in-Index+in_ok-index-in-Index+in_ok-push-in-Index w ↦
          let e = bare w.in-Index.e in
          let at : c.in_ok-next.next ≡ top + length indices =
          c.in_ok-next.ensures.ok
          ∙ ap (λ (n : ℕ). top + n) (c.len.ensures ∙ loop.indices.ok.0) in
          rw (
            w.code-is,
            w.front-is,
            w.indices-is,
            w.in_ok-push-in-Index.ensures.items,
            w.in_ok-index-in-Index.ensures,
          ) (ap (λ (k : P.Code). k ++ V.place_code g homes top (length k) front
          (indices ++ g.known e ∷ []) rest) (w.in_ok-emit-in-Index.ensures
          ∙ ap (λ (n : ℕ). loop.code ++ V.expr_code g homes n (length loop.code) e) at)
          ∙ chained loop.code (V.expr_code g homes (top + length indices) (length loop.code) e)
          (λ p. V.place_code g homes top p front (indices ++ g.known e ∷ []) rest)
          ∙ sym (here ∙ ap as_is w.in-Index.is) ∙ loop.invariant)
      | goal.emit_place-in-Member+in_ok-bounds-in-Member+in_ok-front-in-Member w ↦
          let next = L.port_of g homes front indices w.in-Member.name in
          let tests = P.bounds top (L.component_dims g front) (length indices) in
          let made : w.bounds.new.code ≡ loop.code ++ tests =
          w.in_ok-bounds-in-Member.ensures
          ∙ ap (λ (ds : _). loop.code ++ P.bounds top ds w.len-in-Member.result)
          w.component_dims.ensures
          ∙ ap (λ (n : ℕ). loop.code ++ P.bounds top (L.component_dims g front) n)
          (w.len-in-Member.ensures ∙ loop.indices.ok.0) in
          rw (w.code-is, w.front-is, w.indices-is, w.new-indices-in-Member.ensures.items)
          (ap (λ (f : L.Front). w.bounds.new.code ++ V.place_code g homes top
          (length w.bounds.new.code) f [] rest)
          (rw (w.as_slice.ensures.value, w.as_slice-in-Member.ensures)
          at w.in_ok-front-in-Member.ensures)
          ∙ ap (λ (k : P.Code). k ++ V.place_code g homes top (length k) next [] rest) made
          ∙ chained loop.code tests (λ p. V.place_code g homes top p next [] rest)
          ∙ sym (here ∙ ap as_is w.in-Member.is) ∙ loop.invariant)
    ]

pub emit_place-returns : goal.emit_place-returns
emit_place-returns t c =
    let g = ground_of c.args.ground.now in
    let homes = homes_of c.args.scope.now.homes.items in
    let loop = c.loop-accessor in
    let front = front_of loop.front in
    let list = c.args.accessors.now in
    (rw c.home.ensures at c.in_ok-read.ensures)
    ∙ ap (λ (n : ℕ). loop.code ++ P.read_code (L.home_of homes front) c.args.top n)
    (c.len-2.ensures ∙ loop.indices.ok.0)
    ∙ sym (at_drop_all (λ l. loop.code ++ V.place_code g homes c.args.top (length loop.code) front
    loop.indices.items (as_accessors l)) list loop.accessor-index c.loop-accessor-test.false)
    ∙ loop.invariant

-- ---- an operator behind its left operand
pub emit_right-returns-in_ok-push-in-Strict : goal.emit_right-returns-in_ok-push-in-Strict
emit_right-returns-in_ok-push-in-Strict t c =
    let g = ground_of c.args.ground.now in
    let homes = homes_of c.args.scope.now.homes.items in
    let top = c.args.top in
    let old = c.args.code.now in
    rw (c.in_default.is, c.in-Strict.is)
    (then_ended old c.emit.new.code c.push-in-Strict.new.self
    (V.expr_code g homes (top + 1) (length old) (bare c.args.b.now))
    (op.Bin c.in-Strict.op top top (top + 1) ∷ [])
    (rw c.in_ok-next-in-Strict.ensures.ok at c.in_ok-emit-in-Strict.ensures)
    (rw c.in_ok-next-in-Strict.ensures.ok at c.in_ok-push-in-Strict.ensures.ok))

pub emit_right-end_jump_zero-requires : goal.emit_right-end_jump_zero-requires
emit_right-end_jump_zero-requires t c =
    let g = ground_of c.args.ground.now in
    let homes = homes_of c.args.scope.now.homes.items in
    let top = c.args.top in
    let begun = c.in_ok-jump-in-And.ensures in
    let e = V.expr_code g homes top (length c.begin_jump.new.code) (bare c.args.b.now) in
    jump_within c.args.code.now c.begin_jump.new.code c.truth.new.code (e ++ P.truth_code top)
    c.in_ok-jump-in-And.jump (op.JumpZero top 0) begun.place begun.code
    (then_ended c.begin_jump.new.code c.emit-in-And.new.code c.truth.new.code e
    (P.truth_code top) c.in_ok-emit-in-And.ensures c.in_ok-truth-in-And.ensures)

pub emit_right-returns-in_ok-end_jump_zero-in-And :
    goal.emit_right-returns-in_ok-end_jump_zero-in-And
emit_right-returns-in_ok-end_jump_zero-in-And t c =
    let g = ground_of c.args.ground.now in
    let homes = homes_of c.args.scope.now.homes.items in
    let top = c.args.top in
    let begun = c.in_ok-jump-in-And.ensures in
    let e = V.expr_code g homes top (length c.begin_jump.new.code) (bare c.args.b.now) in
    rw (c.in_default.is, c.in-And.is) (c.in_ok-end_jump_zero-in-And.ensures
    ∙ unless_ended c.args.code.now c.begin_jump.new.code c.truth.new.code top
    c.in_ok-jump-in-And.jump (λ q. E.truth_in g homes top q (bare c.args.b.now))
    (op.JumpZero top 0) begun.place begun.code
    (then_ended c.begin_jump.new.code c.emit-in-And.new.code c.truth.new.code e
    (P.truth_code top) c.in_ok-emit-in-And.ensures c.in_ok-truth-in-And.ensures))

pub emit_right-begin_other-requires : goal.emit_right-begin_other-requires
emit_right-begin_other-requires t c =
    let begun = c.in_ok-other-in-Or.ensures in
    jump_within c.args.code.now c.begin_jump-in-Or.new.code c.push-in-Or.new.self
    (op.Const c.args.top 1 ∷ []) c.in_ok-other-in-Or.other (op.JumpZero c.args.top 0) begun.place
    begun.code c.in_ok-push-in-Or.ensures.ok

pub emit_right-end_jump-requires : goal.emit_right-end_jump-requires
emit_right-end_jump-requires t c =
    let g = ground_of c.args.ground.now in
    let homes = homes_of c.args.scope.now.homes.items in
    let top = c.args.top in
    let begun = c.in_ok-last-in-Or.ensures in
    let e = V.expr_code g homes top (length c.begin_other.new.code) (bare c.args.b.now) in
    other_within c.push-in-Or.new.self c.begin_other.new.code c.truth-in-Or.new.code
    (e ++ P.truth_code top) c.in_ok-other-in-Or.other c.in_ok-last-in-Or.last
    (op.JumpZero top 0) (op.JumpZero top (length c.push-in-Or.new.self + 1)) begun.place
    begun.code (then_ended c.begin_other.new.code c.emit-in-Or.new.code c.truth-in-Or.new.code e
    (P.truth_code top) c.in_ok-emit-in-Or.ensures c.in_ok-truth-in-Or.ensures)

pub emit_right-returns-in_ok-end_jump-in-Or : goal.emit_right-returns-in_ok-end_jump-in-Or
emit_right-returns-in_ok-end_jump-in-Or t c =
    let g = ground_of c.args.ground.now in
    let homes = homes_of c.args.scope.now.homes.items in
    let top = c.args.top in
    let begun = c.in_ok-other-in-Or.ensures in
    let between = c.in_ok-last-in-Or.ensures in
    let e = V.expr_code g homes top (length c.begin_other.new.code) (bare c.args.b.now) in
    rw (c.in_default.is, c.in-Or.is) (c.in_ok-end_jump-in-Or.ensures
    ∙ either_ended c.args.code.now c.begin_jump-in-Or.new.code c.push-in-Or.new.self
    c.begin_other.new.code c.truth-in-Or.new.code top c.in_ok-other-in-Or.other
    c.in_ok-last-in-Or.last (λ q. op.Const top 1 ∷ [])
    (λ q. E.truth_in g homes top q (bare c.args.b.now)) (op.JumpZero top 0) (op.JumpZero top 0)
    begun.place begun.code c.in_ok-push-in-Or.ensures.ok between.place between.code
    (then_ended c.begin_other.new.code c.emit-in-Or.new.code c.truth-in-Or.new.code e
    (P.truth_code top) c.in_ok-emit-in-Or.ensures c.in_ok-truth-in-Or.ensures))
