use Rattle.std.proofs.Common.{◌≡◌, ◌∙◌, ◌+◌, ◌∷◌, length, drop, ap, sym}
use Rattle.std.specs.Prelude.{◌&&◌}
use Rattle.std.proofs.lemmas.List.{at_drop_all}
use Rattle.cir_ast.specs.Tree.{Array, Call, as_accessors, bare, bare_exprs}
use Rattle.cir_arrays.proofs.Lists.{at_read}
use Rattle.wit_sourced.specs.Same.{same_accessors, same_expr, same_exprs, same_head}
use Rattle.wit_sourced.proofs.SameTrees.{array_tree, call_tree, no_accessor, no_more, one_accessor}
use Rattle.wit_sourced.proofs.same.+comparing.Goals as goal

pub are_same-returns : goal.are_same-returns
are_same-returns t c =
    let loop = c.loop-e in
    c.is_empty.ensures ∙ no_more loop.rest.now
    ∙ sym (at_drop_all (λ l. same_exprs (bare_exprs l) (bare_exprs loop.rest.now)) c.args.a.now
    loop.e-index c.loop-e-test.false)
    ∙ loop.invariant

pub are_same_accessors-returns-in_default : goal.are_same_accessors-returns-in_default
are_same_accessors-returns-in_default t c =
    let loop = c.loop-accessor in
    let list = c.args.a.now in
    let rest = loop.rest.now in
    let i = loop.accessor-index in
    let empty : length rest ≡ 0 = rw c.in_default.is at c.split_first.ensures.cases in
    sym (one_accessor c.accessor-item.result (drop (i + 1) list) rest empty)
    ∙ sym (at_read (λ l. same_accessors (as_accessors l) (as_accessors rest)) list i
    c.accessor-item.result c.loop-accessor-test.true c.accessor-item.is)
    ∙ loop.invariant

pub are_same_accessors-returns : goal.are_same_accessors-returns
are_same_accessors-returns t c =
    let loop = c.loop-accessor in
    c.is_empty.ensures ∙ no_accessor loop.rest.now
    ∙ sym (at_drop_all (λ l. same_accessors (as_accessors l) (as_accessors loop.rest.now))
    c.args.a.now loop.accessor-index c.loop-accessor-test.false)
    ∙ loop.invariant

pub is_array-returns-in-Array : goal.is_array-returns-in-Array
is_array-returns-in-Array t c =
    let es = bare_exprs c.args.elements.now in
    c.are_same.ensures ∙ ap (λ xs. same_exprs es (bare_exprs xs)) c.as_slice.ensures
    ∙ ap (same_expr (Array es)) (sym (ap bare c.in-Array.is ∙ array_tree c.in-Array.others))

pub is_call-returns-then-is_same_head : goal.is_call-returns-then-is_same_head
is_call-returns-then-is_same_head t c =
    let a = c.args in
    let x = c.in-Call in
    let es = bare_exprs a.arguments.now in
    let head : same_head a.parallel a.name.now a.meant x.q x.other x.n ≡ _ =
    ap (λ name. same_head a.parallel a.name.now a.meant x.q name x.n) (sym c.as_slice.ensures)
    ∙ sym c.is_same_head.ensures ∙ c.if-is_same_head.true in
    c.are_same.ensures
    ∙ ap (λ xs. same_exprs es (bare_exprs xs)) c.as_slice-then-is_same_head.ensures
    ∙ sym (ap (λ b. b && same_exprs es (bare_exprs x.fs)) head)
    ∙ ap (same_expr (Call a.parallel a.name.now a.meant es))
    (sym (ap bare x.is ∙ call_tree x.q x.other x.n x.fs))

pub is_same-returns-in-Call : goal.is_same-returns-in-Call
is_same-returns-in-Call t c =
    let x = c.in-Call in
    let b = bare c.args.b.now in
    c.is_call.ensures
    ∙ ap (λ name. same_expr (Call x.parallel name x.meant
    (bare_exprs c.as_slice-in-Call.result.now)) b) c.as_slice.ensures
    ∙ ap (λ es. same_expr (Call x.parallel x.name x.meant (bare_exprs es)) b)
    c.as_slice-in-Call.ensures
    ∙ ap (λ e. same_expr e b)
    (sym (ap bare x.is ∙ call_tree x.parallel x.name x.meant x.es))

pub is_same-returns-in-Array : goal.is_same-returns-in-Array
is_same-returns-in-Array t c =
    let x = c.in-Array in
    let b = bare c.args.b.now in
    c.is_array.ensures
    ∙ ap (λ es. same_expr (Array (bare_exprs es)) b) c.as_slice-in-Array.ensures
    ∙ ap (λ e. same_expr e b) (sym (ap bare x.is ∙ array_tree x.es))
