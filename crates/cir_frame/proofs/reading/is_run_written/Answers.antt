use Rattle.std.proofs.Common.{◌≡◌, List, Bool, true, false, ◌+◌, [], ap, sym, ◌∙◌}
use Rattle.std.proofs.lemmas.Bool.{eqb-true}
use Rattle.std.proofs.lemmas.List.{nil_from_length}
use Rattle.cir_meaning.specs.Frame.{is_written}
use Rattle.cir_frame.specs.Shown.{signal_of}
use Rattle.cir_frame.proofs.SignalsRead.{unmarked, marks_more, written_standing}
use Rattle.cir_frame.proofs.reading.is_run_written.Goals as goal

pub returns-then-is_empty : goal.returns-then-is_empty
returns-then-is_empty c =
    let ws : List Bool = c.args.entry.now.written.items in
    let none = eqb-true _ _ (sym c.if-is_empty.ensures) in
    let e : ws ≡ [] = nil_from_length ws none in
    unmarked c.args.entry.now e _

pub loop-k-preserved : goal.loop-k-preserved
loop-k-preserved c =
    let e = signal_of c.args.entry.now in
    let more = marks_more (is_written e) c.args.first c.loop-k.k c.args.count c.loop-k-test.true in
    let here : is_written e (c.args.first + c.loop-k.k) ≡ true =
    sym (c.is_written.ensures ∙ (ap (is_written e) c.saturating_add.ensures
    ∙ written_standing c.args.entry.now (c.args.first + c.loop-k.k))) ∙ c.if-not-is_written.false in
    sym (rw here at more) ∙ c.loop-k.invariant

pub returns-then-not-is_written : goal.returns-then-not-is_written
returns-then-not-is_written c =
    let e = signal_of c.args.entry.now in
    let more = marks_more (is_written e) c.args.first c.loop-k.k c.args.count c.loop-k-test.true in
    let here : is_written e (c.args.first + c.loop-k.k) ≡ false =
    sym (c.is_written.ensures ∙ (ap (is_written e) c.saturating_add.ensures
    ∙ written_standing c.args.entry.now (c.args.first + c.loop-k.k))) ∙ c.if-not-is_written.true in
    sym (rw here at more) ∙ c.loop-k.invariant
