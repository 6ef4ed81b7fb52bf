use Rattle.std.proofs.Common.{◌+◌, ◌++◌, ◌-◌, List, map, refl, ap, ◌∙◌}
use Rattle.cir_values.specs.declared.signals.SignalName.{SignalName}
use Rattle.cir_frame.specs.Shown.{row_of}
use Rattle.cir_inst.specs.Table.{name_of}
use Rattle.cir_inst.proofs.Tables.{names_from, names_step}
use Rattle.cir_inst.proofs.table.add_row.Goals as goal

pub loop-place-preserved : goal.loop-place-preserved
loop-place-preserved c =
    ap (λ (names : List SignalName). map name_of names ++ names_from (row_of c.args.row.now)
    (c.loop-place.place + 1) (c.in_ok-place-end.place-end - (c.loop-place.place + 1)))
    c.in_ok-push.ensures.items
    ∙ names_step c.loop-place.names.items _ (row_of c.args.row.now) c.loop-place.place
    c.in_ok-place-end.place-end c.loop-place-test.true refl
    (cc c.in_ok-base.ensures)
    refl
    ∙ c.loop-place.invariant
