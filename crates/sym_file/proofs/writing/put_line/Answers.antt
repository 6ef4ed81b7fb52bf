use Rattle.std.proofs.Common.{◌++◌, ap, ◌∙◌, List, ℕ}
use Rattle.sym_file.proofs.Table.{line_added}
use Rattle.sym_file.proofs.writing.put_line.Goals as goal

pub returns : goal.returns
returns c =
    line_added _ _ _ _ _ _ _ _ _ _ _ _ _ c.in_ok-put_number.ensures c.in_ok-push.ensures.items
    c.in_ok-put_wire.ensures c.in_ok-push-2.ensures.items c.in_ok-put_number-2.ensures
    c.in_ok-push-3.ensures.items
    (c.in_ok-extend_from_slice.ensures.items
    ∙ ap (λ (l : List ℕ). c.push-3.new.self.items ++ l) c.as_slice.ensures)
    c.in_ok-push-4.ensures.items
