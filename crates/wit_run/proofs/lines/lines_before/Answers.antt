use Rattle.std.proofs.Common.{◌∙◌, ◌++◌, ◌∷◌, [], sym, ap}
use Rattle.wit_run.specs.Lines.{cells_in, lines_before}
use Rattle.wit_run.proofs.Logs.{lines_more}
use Rattle.wit_run.proofs.lines.lines_before.Goals as goal

pub loop-log-preserved : goal.loop-log-preserved
loop-log-preserved c =
    let cells = cells_in c.args.held in
    let at = c.loop-log.log-index in
    let log = c.log-item.result in
    c.in_ok-push_before.ensures
    ∙ ap (λ t. t ++ lines_before c.args.step cells (log ∷ [])) c.loop-log.invariant
    ∙ sym (lines_more c.args.step cells c.args.logs.now at log c.loop-log-test.true
    c.log-item.is)
