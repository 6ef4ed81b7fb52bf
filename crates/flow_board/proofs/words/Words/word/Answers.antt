use Rattle.std.proofs.Common.{sym, ◌∙◌, ap, slice_index}
use Rattle.std.specs.Slots.{slots_items}
use Rattle.flow_board.specs.Closed.{ClosedWords}
use Rattle.flow_board.proofs.Makes.{elem_read}
use Rattle.flow_board.proofs.words.Words.word.Goals as goal

pub returns : goal.returns
returns c =
    sym (elem_read (slots_items c.self.inside.closed.words) c.args.at c.word.result c.word.ensures)
    ∙ ap (λ (w : ClosedWords). slice_index w.words c.args.at) c.self.view_is
