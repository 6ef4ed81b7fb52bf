use Rattle.std.proofs.Common.{◌∙◌, List, ap, map, sym}
use Rattle.cir_ast.specs.Tree.{Assign, Assigned, Ended, bare_assign}
use Rattle.cir_ast.specs.declared.program.Meant.{Meant}
use Rattle.cir_emit.specs.Tasks.{elements_at, work_task}
use Rattle.wit_lower.specs.Tasks.{Element, Executes}
use Rattle.wit_statements.specs.Asked.{element_of}
use Rattle.cir_make.specs.declared.make.Doing.{Doing}
use Rattle.cir_make.specs.Steps.{elements_of, work_of}
use Rattle.cir_make.proofs.work.code_for.Goals as goal

pub returns-in-Gives-clause-code : goal.returns-in-Gives-clause-code
returns-in-Gives-clause-code g c = λ m qs step known stands is targets.
    let spot = c.args.here.now.spot in
    c.code_at.ensures.code m qs step known stands
    (is ∙ ap (λ (d : Doing). work_task spot (work_of spot d)) c.in-Gives.is) targets

pub returns-in-Compares-clause-code : goal.returns-in-Compares-clause-code
returns-in-Compares-clause-code g c = λ m qs step known stands is targets.
    let spot = c.args.here.now.spot in
    c.code_at-in-Compares.ensures.code m qs step known stands
    (is ∙ ap (λ (d : Doing). work_task spot (work_of spot d)) c.in-Compares.is) targets

pub returns-in-Asserts-clause-code : goal.returns-in-Asserts-clause-code
returns-in-Asserts-clause-code g c = λ m qs step known stands is targets.
    let spot = c.args.here.now.spot in
    c.code_at-in-Asserts.ensures.code m qs step known stands
    (is ∙ ap (λ (d : Doing). work_task spot (work_of spot d)) c.in-Asserts.is) targets

pub returns-in-Logs-clause-code : goal.returns-in-Logs-clause-code
returns-in-Logs-clause-code g c = λ m qs step known stands is targets.
    let spot = c.args.here.now.spot in
    c.code_at-in-Logs.ensures.code m qs step known stands
    (is ∙ ap (λ (d : Doing). work_task spot (work_of spot d)) c.in-Logs.is) targets

pub returns-in_ok-elements-in-Sets-clause-code : goal.returns-in_ok-elements-in-Sets-clause-code
returns-in_ok-elements-in-Sets-clause-code g c = λ m qs step known stands is targets.
    let spot = c.args.here.now.spot in
    let n = c.in-Sets.written.now.variable in
    c.code_at-in-Sets.ensures.code m qs step known stands
    (is ∙ ap (λ (d : Doing). work_task spot (work_of spot d)) c.in-Sets.is
    ∙ ap (λ (a : Assign Meant). Executes (Ended spot (Assigned a))
    (elements_at n c.in-Sets.places.now)) (sym c.in_ok-assign-in-Sets.ensures)
    ∙ ap (λ (ts : List Element). Executes (Ended spot
    (Assigned (bare_assign c.in_ok-assign-in-Sets.assign))) ts)
    (sym (ap (map element_of) c.as_slice.ensures.value
    ∙ c.in_ok-elements-in-Sets.ensures))) targets

pub returns-in_ok-elements-in-Decides-clause-code :
    goal.returns-in_ok-elements-in-Decides-clause-code
returns-in_ok-elements-in-Decides-clause-code g c = λ m qs step known stands is targets.
    let spot = c.args.here.now.spot in
    c.code_at-in-Decides.ensures.code m qs step known stands
    (is ∙ ap (λ (d : Doing). work_task spot (work_of spot d)) c.in-Decides.is
    ∙ sym (c.left-task.ensures (map elements_of c.in-Decides.wanted.now)
    (ap (map element_of) c.as_slice-in-Decides.ensures.value
    ∙ c.in_ok-elements-in-Decides.ensures))) targets
