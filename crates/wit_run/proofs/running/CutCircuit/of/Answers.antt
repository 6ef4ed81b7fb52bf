use Rattle.std.proofs.Common.{List, ℕ, subst, sym}
use Rattle.wit_code.specs.declared.code.Proc.{Proc}
use Rattle.wit_code.specs.declared.code.Step.{Step}
use Rattle.wit_flow.specs.Cut.{CanCut}
use Rattle.wit_run.proofs.Ends.{can_cut}
use Rattle.wit_run.proofs.running.CutCircuit.of.Goals as goal

pub cut-requires : goal.cut-requires
cut-requires c =
    let code = c.args.code in
    let r = c.requires in
    subst (λ (l : List Step). CanCut l c.into_vec-2.result.items code.cells
    c.into_vec-3.result.items) (sym c.into_vec.ensures)
    (subst (λ (l : List Proc). CanCut code.steps l code.cells c.into_vec-3.result.items)
    (sym c.into_vec-2.ensures)
    (subst (λ (l : List ℕ). CanCut code.steps code.procs code.cells l) (sym c.into_vec-3.ensures)
    (can_cut r.0 code r.1 r.2 r.3)))
