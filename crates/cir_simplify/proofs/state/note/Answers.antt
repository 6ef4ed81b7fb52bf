use Rattle.cir_simplify.proofs.Noting.{notes_all}
use Rattle.cir_simplify.proofs.state.note.Goals as goal

pub returns : goal.returns
returns c =
    notes_all _ _ _ _ _ _ _ c.in_ok-note_form.ensures c.in_ok-note_form-2.ensures
    c.in_ok-note_form-3.ensures
