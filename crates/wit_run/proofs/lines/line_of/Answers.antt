use Rattle.std.proofs.Common.{◌∙◌, ◌++◌, sym, ap}
use Rattle.wit_run.specs.Lines.{behind_space, cells_in, part_text}
use Rattle.wit_run.proofs.Logs.{line_more}
use Rattle.wit_run.proofs.lines.line_of.Goals as goal

pub loop-place-preserved : goal.loop-place-preserved
loop-place-preserved c =
    let cells = cells_in c.args.held in
    let place = c.loop-place.place in
    let part = c.index-parts-place.result in
    c.in_ok-push_at.ensures
    ∙ ap (λ t. t ++ behind_space place (part_text cells part)) c.loop-place.invariant
    ∙ sym (line_more cells c.args.parts.now place part c.loop-place-test.true
    c.index-parts-place.is)
