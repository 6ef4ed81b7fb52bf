use Rattle.std.proofs.Common.{ℕ, List, length, subst, sym, ◌∙◌}
use Rattle.wit_code.specs.declared.code.Step.{Step}
use Rattle.flow_core.specs.Drawn.{IsDrawn}
use Rattle.wit_flow.specs.Draft.{HasCome}
use Rattle.wit_flow.proofs.Drawing.{drawn}
use Rattle.wit_flow.proofs.Plans.{IsGraphOf, kept_flow}
use Rattle.wit_flow.proofs.cutting.cut.Goals as goal

pub invariant_of-result : goal.invariant_of-result
invariant_of-result c =
    let d = c.in_ok-draft.draft in let g = c.in-Ok.graph in
    let P : List Step → Type 0 = λ steps. HasCome steps c.args.cells (length steps) d in
    let is : IsGraphOf g c.args.cells d =
    record {
      cells_same = c.in-Ok.ensures.cells;
      reads_same = c.in-Ok.ensures.reads
          ∙ c.into_vec.ensures;
      writes_same = c.in-Ok.ensures.writes ∙ c.into_vec-2.ensures;
    } in
    kept_flow c.args.steps.items c.args.procs.items c.args.cells c.args.starts.items d g c.of.result
    c.of-2.result c.of-3.result c.of.ensures c.of-2.ensures c.of-3.ensures
    c.requires (subst P c.as_slice.ensures.value c.in_ok-draft.ensures.0) c.in_ok-draft.ensures.1
    c.facts.ensures.net is

pub returns-clause-plan : goal.returns-clause-plan
returns-clause-plan c =
    let d = c.in_ok-draft.draft in let g = c.in-Ok.graph in
    let P : List Step → Type 0 = λ steps. HasCome steps c.args.cells (length steps) d in
    let is : IsGraphOf g c.args.cells d =
    record {
      cells_same = c.in-Ok.ensures.cells;
      reads_same = c.in-Ok.ensures.reads
          ∙ c.into_vec.ensures;
      writes_same = c.in-Ok.ensures.writes ∙ c.into_vec-2.ensures;
    } in
    (kept_flow c.args.steps.items c.args.procs.items c.args.cells c.args.starts.items d g
    c.of.result c.of-2.result c.of-3.result c.of.ensures c.of-2.ensures c.of-3.ensures
    c.requires (subst P c.as_slice.ensures.value c.in_ok-draft.ensures.0) c.in_ok-draft.ensures.1
    c.facts.ensures.net is).plan

pub unreachable-requires : goal.unreachable-requires
unreachable-requires c =
    let d = c.in_ok-draft.draft in
    let P : List Step → Type 0 = λ steps. HasCome steps c.args.cells (length steps) d in
    let come = subst P c.as_slice.ensures.value c.in_ok-draft.ensures.0 in
    let is = drawn c.args.steps.items c.args.procs.items c.args.cells c.args.starts.items d
    c.requires come c.in_ok-draft.ensures.1 in
    let R : List (List ℕ) → Type 0 = λ reads. IsDrawn c.args.cells reads d.writes in
    let W : List (List ℕ) → Type 0 =
    λ writes. IsDrawn c.args.cells c.into_vec.result.items writes in
    c.new.ensures.unfit (cc)
    (subst W (sym c.into_vec-2.ensures) (subst R (sym c.into_vec.ensures) is))
