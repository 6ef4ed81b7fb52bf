use Rattle.std.proofs.Common.{◌∙◌, map, refl}
use Rattle.cir_ast.specs.Tree.{as_accessors, bare, bare_exprs}
use Rattle.cir_arrays.specs.Shown.{datum_of}
use Rattle.cir_frame.specs.Shown.{state_of}
use Rattle.cir_evaluate.specs.Within.{at_spot}
use Rattle.cir_evaluate.proofs.Steps.{refusal}
use Rattle.cir_create.proofs.Creations.{arguments_go, arguments_refused, placed_goes}
use Rattle.cir_create.proofs.Creations.{placed_refused}
use Rattle.cir_make.specs.Means.{emitting_in}
use Rattle.cir_make.specs.Shows.{equations_in}
use Rattle.cir_write.proofs.Creations.{created_emits, created_stops, evaluated_listed}
use Rattle.cir_write.proofs.creating.create.Goals as goal

pub returns-in_err-arguments : goal.returns-in_err-arguments
returns-in_err-arguments g c = λ m d shows.
    let q = emitting_in c.args.body.now m in
    let k = q.context in
    let w = at_spot c.args.body.now.context.now c.args.spot in
    let f = c.args.inside.now.frame in
    let qs = equations_in d.state in
    let s = state_of f c.args.whole.now.world qs in
    let refuses = (rw c.here-here.ensures at c.in_err-arguments.ensures.value) m.means qs refl in
    created_stops m.first q w c.args.n (as_accessors c.args.accessors.now) (bare c.args.e.now) _ _
    _ _ d shows c.from_residual.result _ c.from_residual.ensures.1
    (arguments_refused k w c.args.n c.in-Some.template (as_accessors c.args.accessors.now)
    (bare c.args.e.now) (bare_exprs c.in-Some.arguments.now) s _ (c.in-Some.ensures w) refuses)

pub returns-in_err-indices : goal.returns-in_err-indices
returns-in_err-indices g c = λ m d shows.
    let q = emitting_in c.args.body.now m in
    let k = q.context in
    let w = at_spot c.args.body.now.context.now c.args.spot in
    let f = c.args.inside.now.frame in
    let n = c.args.n in
    let t = c.in-Some.template in
    let accessors = as_accessors c.args.accessors.now in
    let qs = equations_in d.state in
    let s = state_of f c.args.whole.now.world qs in
    let s1 = state_of f c.arguments_in.new.world qs in
    let ds = map datum_of c.in_ok-arguments.arguments.items in
    let got = (rw c.here-here.ensures at c.in_ok-arguments.ensures.value) m.means qs refl in
    let refuses = (rw c.here-here.ensures at c.in_err-indices.ensures.value) m.means qs in
    created_stops m.first q w n accessors (bare c.args.e.now) _ _ _ _ d shows
    c.from_residual-in_err-indices.result _ c.from_residual-in_err-indices.ensures.1
    (refusal _ _ _ (arguments_go k w n t accessors (bare c.args.e.now)
    (bare_exprs c.in-Some.arguments.now) s s1 ds (c.in-Some.ensures w) got)
    (placed_refused k w n t accessors ds s1 _ refuses))

pub returns-in_err-c : goal.returns-in_err-c
returns-in_err-c g c = λ m d shows.
    let q = emitting_in c.args.body.now m in
    let k = q.context in
    let w = at_spot c.args.body.now.context.now c.args.spot in
    let f = c.args.inside.now.frame in
    let n = c.args.n in
    let t = c.in-Some.template in
    let accessors = as_accessors c.args.accessors.now in
    let qs = equations_in d.state in
    let s = state_of f c.args.whole.now.world qs in
    let s1 = state_of f c.arguments_in.new.world qs in
    let s2 = state_of f c.indices_in.new.world qs in
    let ds = map datum_of c.in_ok-arguments.arguments.items in
    let got = (rw c.here-here.ensures at c.in_ok-arguments.ensures.value) m.means qs refl in
    let found = (rw c.here-here.ensures at c.in_ok-indices.ensures.value) m.means qs in
    let refuses = (rw (c.here-here.ensures, c.as_slice.ensures.value) at c.in_err-c.ensures) s2
    refl in
    created_stops m.first q w n accessors (bare c.args.e.now) _ _ _ _ d shows
    c.from_residual-in_err-c.result _ c.from_residual-in_err-c.ensures.1
    (refusal _ _ _ (arguments_go k w n t accessors (bare c.args.e.now)
    (bare_exprs c.in-Some.arguments.now) s s1 ds (c.in-Some.ensures w) got
    ∙ placed_goes k w n t accessors _ ds s1 s2 c.in_ok-indices.indices.items found) refuses)

pub returns : goal.returns
returns g c = λ m d shows.
    let q = emitting_in c.args.body.now m in
    let k = q.context in
    let w = at_spot c.args.body.now.context.now c.args.spot in
    let f = c.args.inside.now.frame in
    let n = c.args.n in
    let t = c.in-Some.template in
    let accessors = as_accessors c.args.accessors.now in
    let qs = equations_in d.state in
    let s = state_of f c.args.whole.now.world qs in
    let s1 = state_of f c.arguments_in.new.world qs in
    let s2 = state_of f c.indices_in.new.world qs in
    let ds = map datum_of c.in_ok-arguments.arguments.items in
    let got = (rw c.here-here.ensures at c.in_ok-arguments.ensures.value) m.means qs refl in
    let found = (rw c.here-here.ensures at c.in_ok-indices.ensures.value) m.means qs in
    let made = (rw (c.here-here.ensures, c.as_slice.ensures.value) at c.in_ok-c.ensures) s2 refl in
    let kept_one = (rw c.here-here.ensures at c.in_ok-arguments.ensures.keeps) m.means in
    let kept_two = (rw c.here-here.ensures at c.in_ok-indices.ensures.keeps) m.means in
    created_emits m.first q w n accessors (bare c.args.e.now) _ _ _ _ d shows
    c.create_at.result made.0
    (arguments_go k w n t accessors (bare c.args.e.now) (bare_exprs c.in-Some.arguments.now) s s1
    ds (c.in-Some.ensures w) got
    ∙ (placed_goes k w n t accessors _ ds s1 s2 c.in_ok-indices.indices.items found ∙ made.1))
    (c.create_at.ensures m made.0 qs d.state d.steps made.2
    (evaluated_listed qs c.args.whole.now.world c.arguments_in.new.world c.indices_in.new.world
    kept_one kept_two shows.are_listed) shows.kept)
