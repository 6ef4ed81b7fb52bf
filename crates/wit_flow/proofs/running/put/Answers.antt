use Rattle.std.proofs.Common.{ℕ, ◌+◌, ◌<◌, get_or, arith, length, ap, ◌∙◌, Some, List, Option, drop}
use Rattle.std.proofs.Common.{length-set}
use Rattle.flow_core.proofs.Totals.{is_in_at}
use Rattle.wit_flow.specs.Cells.{held, with_values}
use Rattle.wit_flow.proofs.Values.{put_more}
use Rattle.wit_flow.proofs.running.put.Goals as goal

pub set-requires : goal.set-requires
set-requires c = let n =
    c.requires.near (get_or c.args.cells.now c.loop-at.at 0)
    (is_in_at c.args.cells.now c.loop-at.at c.loop-at-test.true) in let e =
    c.loop-at.invariant.wide in omega arith

pub loop-at-preserved : goal.loop-at-preserved
loop-at-preserved c =
    let at : ℕ = c.loop-at.at in let cells = c.args.cells.now in let values = c.args.values.now in
    let list = c.loop-at.held_cells in
    let n = c.requires.near (get_or cells at 0) (is_in_at cells at c.loop-at-test.true) in
    let e = c.loop-at.invariant.wide in
    let near : get_or cells at 0 < length list = omega arith in
    let within : at < length values =
    let t = c.loop-at-test.true in let q = c.requires.each in omega arith in
    record {
      wide = ap length c.set.ensures
          ∙ length-set list (get_or cells at 0) (Some c.index-values-at.result) ∙ e;
      same = ap
          (λ (l : List (Option ℕ)). with_values (held l) (drop (at + 1) cells)
          (drop (at + 1) values)) c.set.ensures
          ∙ put_more list cells values at c.index-values-at.result c.loop-at-test.true within near
          c.index-values-at.is ∙ c.loop-at.invariant.same;
    }
