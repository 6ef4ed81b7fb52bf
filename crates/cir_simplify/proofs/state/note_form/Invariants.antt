use Rattle.std.proofs.Common.{◌≤◌, length, take}
use Rattle.cir_simplify.specs.Index.{NotesForm}
use Rattle.cir_simplify.proofs.state.note_form.Given as goal

abbrev pub invariant-loop-t : goal.invariant-loop-t
invariant-loop-t l = record {
  place : l.place ≤ length l.before;
  notes : NotesForm l.before (take l.t-index l.t-items) l.i l.initial.holders.items l.holders.items;
}
