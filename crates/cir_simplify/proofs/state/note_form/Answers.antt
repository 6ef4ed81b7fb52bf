use Rattle.std.proofs.Common.{◌<◌, refl, length}
use Rattle.cir_simplify.proofs.Noting.{notes_push, notes_skip, naming_at}
use Rattle.cir_simplify.proofs.state.note_form.Goals as goal
use Rattle.cir_simplify.proofs.state.note_form.Goals.{then-not-is_at+in_ok-push_at, else-not-is_at}

pub loop-t-preserved : goal.loop-t-preserved
loop-t-preserved c =
    let small : c.t-item.result.signal < length c.args.holders.now.items =
    naming_at _ _ _ _ _ c.as_slice-t-items.ensures.terms c.requires c.loop-t-test.true
    c.t-item.is in
    let bound : c.t-item.result.signal < length c.loop-t.holders.items =
    rw c.loop-t.invariant.notes.same small in
    record {
      place = c.skip_to-place.ensures;
      notes =
          elim c.if-not-is_at.branch [
            | then-not-is_at+in_ok-push_at w ↦
                rw w.holders-is
                (notes_push _ _ _ _ _ _ _ c.t-item.result c.loop-t-test.true c.t-item.is bound
                w.in_ok-push_at.ensures c.loop-t.invariant.notes)
            | else-not-is_at w ↦
                rw w.holders-is
                (notes_skip _ _ _ _ _ _ c.t-item.result c.loop-t-test.true c.t-item.is
                (w.if-not-is_at.ensures refl) c.loop-t.invariant.notes)
          ];
    }
