use Rattle.std.proofs.Common.{◌≡◌, ◌∙◌, ap, sym, drop, length, ℕ, List, arith}
use Rattle.cir_ast.specs.declared.program.Meant.{Meant}
use Rattle.cir_ast.specs.declared.marked.Accessor.{Accessor}
use Rattle.cir_ast.specs.Tree.{as_accessors}
use Rattle.cir_meaning.specs.Writing.{target_at}
use Rattle.cir_arrays.specs.Counted.{counts_of}
use Rattle.cir_frame.specs.Shown.{state_of}
use Rattle.cir_evaluate.specs.Within.{context_at, where_at}
use Rattle.cir_assign.proofs.Targeted.{finds_as, finds_refused, own_finds, own_refused, part_goes}
use Rattle.cir_assign.proofs.Targeted.{part_refused}
use Rattle.cir_assign.proofs.wiring.target_in.Goals as goal

pub returns-in_err-indices-in-Signal-clause-value :
    goal.returns-in_err-indices-in-Signal-clause-value
returns-in_err-indices-in-Signal-clause-value g c = λ m qs shaded.
    finds_refused _ c.from_residual.result _ _ c.from_residual.ensures.1
    (rw c.in-Signal.is (own_refused (context_at c.args.here.now m) (where_at c.args.here.now)
    c.in-Signal.field-0 c.in-Signal.n (as_accessors c.args.accessors.now)
    (state_of c.args.frame.now c.args.world.now qs) _
    (rw shaded at (c.in_err-indices-in-Signal.ensures.value m qs))))

pub returns-in_err-indices-in-Component-clause-value :
    goal.returns-in_err-indices-in-Component-clause-value
returns-in_err-indices-in-Component-clause-value g c = λ m qs shaded.
    finds_refused _ c.from_residual-in_err-indices-in-Component.result _ _
    c.from_residual-in_err-indices-in-Component.ensures.1
    (rw c.in-Component.is (part_refused (context_at c.args.here.now m) (where_at c.args.here.now)
    c.in-Component.n (as_accessors c.args.accessors.now)
    (state_of c.args.frame.now c.args.world.now qs) _
    (rw shaded at (c.in_err-indices-in-Component.ensures.value m qs))))

pub returns-in_ok-indices-in-Signal-clause-value : goal.returns-in_ok-indices-in-Signal-clause-value
returns-in_ok-indices-in-Signal-clause-value g c = λ m qs shaded.
    let found = rw (c.reading-r.ensures, c.as_slice.ensures.value, c.site-site.ensures)
    at (c.own_target.ensures (counts_of c.indices_in.new.world.added)) in
    rw c.in-Signal.is (own_finds (context_at c.args.here.now m) (where_at c.args.here.now)
    c.in-Signal.field-0 c.in-Signal.n (as_accessors c.args.accessors.now) _
    (state_of c.args.frame.now c.args.world.now qs)
    (state_of c.args.frame.now c.indices_in.new.world qs)
    c.in_ok-indices-in-Signal.indices.items c.own_target.result
    (rw shaded at (c.in_ok-indices-in-Signal.ensures.value m qs)) found)

pub returns-in_ok-indices-in-Component-clause-value :
    goal.returns-in_ok-indices-in-Component-clause-value
returns-in_ok-indices-in-Component-clause-value g c = λ m qs shaded.
    let k = context_at c.args.here.now m in
    let w = where_at c.args.here.now in
    let indices = c.in_ok-indices-in-Component.indices in
    let s1 = state_of c.args.frame.now c.indices_in-in-Component.new.world qs in
    let many : c.len.result ≡ length indices.items = omega (arith, c.len.ensures, indices.ok.0) in
    let rest : drop (length indices.items) c.args.accessors.now ≡ c.behind-rest.result.now =
    sym (c.behind-rest.ensures ∙ ap (λ (n : ℕ). drop n c.args.accessors.now) many) in
    let found = rw c.as_slice-in-Component.ensures.value
    at (c.input_target.ensures.value m qs shaded) in
    rw c.in-Component.is (finds_as (state_of c.args.frame.now c.input_target.new.world qs)
    c.input_target.result _ _
    (part_goes k w c.in-Component.n (as_accessors c.args.accessors.now) _
    (state_of c.args.frame.now c.args.world.now qs) s1 indices.items
    (rw shaded at (c.in_ok-indices-in-Component.ensures.value m qs))
    ∙ ap (λ (l : List (Accessor Meant)). target_at k w c.in-Component.n indices.items
    (as_accessors l) s1) rest) found)
