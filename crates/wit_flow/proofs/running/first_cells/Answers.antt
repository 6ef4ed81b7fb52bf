use Rattle.std.proofs.Common.{◌≡◌, ℕ, List, replicate, None, Option, ap, ◌∙◌}
use Rattle.wit_flow.specs.Cells.{held, with_values}
use Rattle.wit_flow.specs.Plan.{Plan}
use Rattle.wit_flow.proofs.Whole.{first_shows}
use Rattle.wit_flow.proofs.running.first_cells.Goals as goal

pub returns : goal.returns
returns c =
    let p = c.args.flow.now in let old = c.of-cells.result in
    let starts : c.as_slice-starts.result.now ≡ p.starts =
    c.as_slice-starts.ensures ∙ ap (λ (q : Plan). q.starts) c.flow.view_is in
    let empty : old ≡ replicate p.graph.cells None = c.of-cells.ensures ∙ c.in_ok-empty.ensures
    ∙ ap (λ (n : ℕ). replicate {A = Option ℕ} n None) c.cells.ensures in
    first_shows p.graph.cells p.starts c.args.start.now old c.put.new.held_cells empty
    c.put.ensures.wide
    (c.put.ensures.put ∙ ap (λ (l : List ℕ). with_values (held old) l c.args.start.now) starts)
