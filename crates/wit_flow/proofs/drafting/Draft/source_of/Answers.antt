use Rattle.std.proofs.Common.{List, ap, ◌∙◌}
use Rattle.wit_flow.specs.declared.drafting.Mark.{Mark}
use Rattle.wit_flow.specs.Draft.{mark_of}
use Rattle.wit_flow.proofs.Marking.{blank, read_step}
use Rattle.wit_flow.proofs.drafting.Draft.source_of.Goals as goal

pub returns-clause-reads : goal.returns-clause-reads
returns-clause-reads c =
    read_step c.args.self.now c.args.cell c.number-number.result c.len.result c.requires.near
    c.number-number.ensures c.requires.marked c.set.new.self c.push.new.self blank
    (λ e. c.if-mark-number.false
    (ap (λ (ms : List Mark). (mark_of ms c.args.cell).strand) c.as_slice.ensures ∙ e))
    c.len.ensures c.in_ok-push.ensures.ok c.set.ensures
