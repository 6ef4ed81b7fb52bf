use Rattle.std.proofs.Common.{◌∙◌, map, ap, refl}
use Rattle.cir_ast.specs.Tree.{as_accessors, bare, bare_exprs}
use Rattle.cir_meaning.specs.Declaring.{create, creation}
use Rattle.cir_arrays.specs.Shown.{datum_of}
use Rattle.cir_frame.specs.Shown.{state_of}
use Rattle.cir_evaluate.specs.Within.{Kept, at_spot}
use Rattle.cir_evaluate.proofs.Steps.{refusal}
use Rattle.cir_create.specs.Makes.{context_in}
use Rattle.cir_create.proofs.Creations.{arguments_go, arguments_refused, creation_leads}
use Rattle.cir_create.proofs.Creations.{placed_goes, placed_refused}
use Rattle.cir_assign.proofs.Stepping.{leads_exit}
use Rattle.cir_create.proofs.creating.create.Goals as goal

pub returns-in_err-arguments : goal.returns-in_err-arguments
returns-in_err-arguments g c = λ m qs.
    let k = context_in c.args.body.now m in
    let w = at_spot c.args.body.now.context.now c.args.spot in
    let s = state_of c.args.frame.now c.args.world.now qs in
    let refuses = (rw c.here-here.ensures at c.in_err-arguments.ensures.value) m.means qs refl in
    leads_exit qs c.args.world.now c.args.frame.now c.arguments_in.new.world
    c.from_residual.result _ (creation k w c.args.n (as_accessors c.args.accessors.now)
    (bare c.args.e.now) s) (create k w) c.from_residual.ensures.1
    (arguments_refused k w c.args.n c.in-Some.template (as_accessors c.args.accessors.now)
    (bare c.args.e.now) (bare_exprs c.in-Some.arguments.now) s _ (c.in-Some.ensures w) refuses)

pub returns-in_err-indices : goal.returns-in_err-indices
returns-in_err-indices g c = λ m qs.
    let k = context_in c.args.body.now m in
    let w = at_spot c.args.body.now.context.now c.args.spot in
    let f = c.args.frame.now in
    let n = c.args.n in
    let t = c.in-Some.template in
    let accessors = as_accessors c.args.accessors.now in
    let s = state_of f c.args.world.now qs in
    let s1 = state_of f c.arguments_in.new.world qs in
    let ds = map datum_of c.in_ok-arguments.arguments.items in
    let got = (rw c.here-here.ensures at c.in_ok-arguments.ensures.value) m.means qs refl in
    let refuses = (rw c.here-here.ensures at c.in_err-indices.ensures.value) m.means qs in
    leads_exit qs c.args.world.now f c.indices_in.new.world
    c.from_residual-in_err-indices.result _ (creation k w n accessors (bare c.args.e.now) s)
    (create k w) c.from_residual-in_err-indices.ensures.1
    (refusal _ _ _ (arguments_go k w n t accessors (bare c.args.e.now)
    (bare_exprs c.in-Some.arguments.now) s s1 ds (c.in-Some.ensures w) got)
    (placed_refused k w n t accessors ds s1 _ refuses))

pub returns-in_err-c : goal.returns-in_err-c
returns-in_err-c g c = λ m qs.
    let k = context_in c.args.body.now m in
    let w = at_spot c.args.body.now.context.now c.args.spot in
    let f = c.args.frame.now in
    let n = c.args.n in
    let t = c.in-Some.template in
    let accessors = as_accessors c.args.accessors.now in
    let s = state_of f c.args.world.now qs in
    let s1 = state_of f c.arguments_in.new.world qs in
    let s2 = state_of f c.indices_in.new.world qs in
    let ds = map datum_of c.in_ok-arguments.arguments.items in
    let got = (rw c.here-here.ensures at c.in_ok-arguments.ensures.value) m.means qs refl in
    let found = (rw c.here-here.ensures at c.in_ok-indices.ensures.value) m.means qs in
    let refuses = (rw (c.here-here.ensures, c.as_slice.ensures.value) at c.in_err-c.ensures) s2
    refl in
    leads_exit qs c.args.world.now f c.indices_in.new.world c.from_residual-in_err-c.result _
    (creation k w n accessors (bare c.args.e.now) s) (create k w)
    c.from_residual-in_err-c.ensures.1
    (refusal _ _ _ (arguments_go k w n t accessors (bare c.args.e.now)
    (bare_exprs c.in-Some.arguments.now) s s1 ds (c.in-Some.ensures w) got
    ∙ placed_goes k w n t accessors _ ds s1 s2 c.in_ok-indices.indices.items found) refuses)

pub returns : goal.returns
returns g c = λ m qs.
    let k = context_in c.args.body.now m in
    let w = at_spot c.args.body.now.context.now c.args.spot in
    let f = c.args.frame.now in
    let n = c.args.n in
    let t = c.in-Some.template in
    let accessors = as_accessors c.args.accessors.now in
    let w0 = c.args.world.now in
    let w2 = c.indices_in.new.world in
    let s = state_of f w0 qs in
    let s1 = state_of f c.arguments_in.new.world qs in
    let s2 = state_of f w2 qs in
    let ds = map datum_of c.in_ok-arguments.arguments.items in
    let got = (rw c.here-here.ensures at c.in_ok-arguments.ensures.value) m.means qs refl in
    let found = (rw c.here-here.ensures at c.in_ok-indices.ensures.value) m.means qs in
    let made = (rw (c.here-here.ensures, c.as_slice.ensures.value) at c.in_ok-c.ensures) s2 refl in
    creation_leads k w n t accessors _ (bare c.args.e.now) (bare_exprs c.in-Some.arguments.now) s
    s1 s2 ds c.in_ok-indices.indices.items c.in_ok-c.c qs w0 w2 c.create_at.new.world
    c.create_at.new.frame c.create_at.result (c.in-Some.ensures w) got found made
    (ap (λ (x : Kept). x.constraints)
    ((rw c.here-here.ensures at c.in_ok-indices.ensures.keeps) m.means)
    ∙ ap (λ (x : Kept). x.constraints)
    ((rw c.here-here.ensures at c.in_ok-arguments.ensures.keeps) m.means))
    (λ x is. c.create_at.ensures m x qs is)
