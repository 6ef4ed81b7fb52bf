use Rattle.std.proofs.Common.{◌≡◌, ℕ, ◌<◌, List, length, Option, Some, None, ap, sym, ◌∙◌, refl}
use Rattle.std.proofs.Common.{arith}
use Rattle.std.specs.Prelude.{option_map}
use Rattle.cir_meaning.specs.Frame.{entry_at}
use Rattle.cir_frame.specs.declared.signal.SignalEntry.{SignalEntry}
use Rattle.cir_frame.specs.Missing.{missing_of}
use Rattle.cir_frame.specs.Shown.{signal_of, signals_of}
use Rattle.cir_arrays.specs.Stopped.{where_of}
use Rattle.cir_arrays.proofs.Exits.{exits, exit_gives}
use Rattle.cir_frame.proofs.Marking.{marked_ok, missing_put, less_in, same_in}
use Rattle.cir_frame.proofs.Numbered.{entry_seen, entry_past, put_seen}
use Rattle.cir_frame.proofs.writing.mark_inside.Goals as goal
use Rattle.cir_frame.proofs.writing.mark_inside.Goals.{then-is_input, else-is_input}
use Rattle.cir_frame.proofs.writing.mark_inside.Goals.{then-number-len+in_default, else-number-len}

pub invariant_of-part : goal.invariant_of-part
invariant_of-part c =
    let es : List (Option SignalEntry) = c.args.part.now.signals.items in
    let n : ℕ = c.args.target.now.number in
    let h : n < length es = omega (arith, c.len.ensures) in
    let one = missing_put es n c.index_mut.result.now c.in-Some.entry c.mark.new.entry h
    c.index_mut.ensures.value c.in-Some.is in
    let same : missing_of c.mark.new.entry ≡ missing_of c.in-Some.entry =
    ap missing_of c.in_err-first.ensures.kept in
    record { counted = omega (arith, c.args.part.now.counted, one, same) }

pub returns-in_err-first : goal.returns-in_err-first
returns-in_err-first c =
    let es : List (Option SignalEntry) = c.args.part.now.signals.items in
    let n : ℕ = c.args.target.now.number in
    let h : n < length es = omega (arith, c.len.ensures) in
    let there : entry_at (signals_of es) n ≡ Some (signal_of c.in-Some.entry) =
    entry_seen signal_of es n c.index_mut.result.now h c.index_mut.ensures.value
    ∙ ap (option_map signal_of) c.in-Some.is in
    exit_gives _ _ _ _ c.from_residual.ensures.1
    (rw there (exits _ _ _ c.in_err-first.ensures.once))

pub overflow_sub-part : goal.overflow_sub-part
overflow_sub-part c =
    let es : List (Option SignalEntry) = c.args.part.now.signals.items in
    let n : ℕ = c.args.target.now.number in
    let h : n < length es = omega (arith, c.len.ensures) in
    let told = marked_ok (where_of c.args.site.now) c.args.place (signal_of c.in-Some.entry)
    (signal_of c.mark.new.entry) c.in_ok-first.first c.in_ok-first.ensures.once in
    let less = less_in es n c.index_mut.result.now c.in-Some.entry c.mark.new.entry c.args.place h
    c.index_mut.ensures.value c.in-Some.is told.0 told.1 (sym c.if-is_input.ensures) in
    omega (arith, c.args.part.now.counted, less)

pub invariant_of-part-then-is_input : goal.invariant_of-part-then-is_input
invariant_of-part-then-is_input c =
    let es : List (Option SignalEntry) = c.args.part.now.signals.items in
    let n : ℕ = c.args.target.now.number in
    let h : n < length es = omega (arith, c.len.ensures) in
    let told = marked_ok (where_of c.args.site.now) c.args.place (signal_of c.in-Some.entry)
    (signal_of c.mark.new.entry) c.in_ok-first.first c.in_ok-first.ensures.once in
    let less = less_in es n c.index_mut.result.now c.in-Some.entry c.mark.new.entry c.args.place h
    c.index_mut.ensures.value c.in-Some.is told.0 told.1 (sym c.if-is_input.ensures) in
    record { counted = omega (arith, c.args.part.now.counted, less) }

pub invariant_of-part-else-is_input : goal.invariant_of-part-else-is_input
invariant_of-part-else-is_input c =
    let es : List (Option SignalEntry) = c.args.part.now.signals.items in
    let n : ℕ = c.args.target.now.number in
    let h : n < length es = omega (arith, c.len.ensures) in
    let told = marked_ok (where_of c.args.site.now) c.args.place (signal_of c.in-Some.entry)
    (signal_of c.mark.new.entry) c.in_ok-first.first c.in_ok-first.ensures.once in
    let same = same_in es n c.index_mut.result.now c.in-Some.entry c.mark.new.entry c.args.place h
    c.index_mut.ensures.value c.in-Some.is told.1 (sym c.if-is_input.ensures) in
    record { counted = omega (arith, c.args.part.now.counted, same) }

pub returns-in-Some : goal.returns-in-Some
returns-in-Some c =
    let es : List (Option SignalEntry) = c.args.part.now.signals.items in
    let n : ℕ = c.args.target.now.number in
    let h : n < length es = omega (arith, c.len.ensures) in
    let there : entry_at (signals_of es) n ≡ Some (signal_of c.in-Some.entry) =
    entry_seen signal_of es n c.index_mut.result.now h c.index_mut.ensures.value
    ∙ ap (option_map signal_of) c.in-Some.is in
    let put = put_seen signal_of es n c.mark.new.entry h in
    elim c.if-is_input.branch [
      | then-is_input w ↦ rw (there, c.in_ok-first.ensures.once, w.part-is, put) refl
      | else-is_input w ↦ rw (there, c.in_ok-first.ensures.once, w.part-is, put) refl
    ]

pub returns : goal.returns
returns c =
    let es : List (Option SignalEntry) = c.args.part.now.signals.items in
    let n : ℕ = c.args.target.now.number in
    let none : entry_at (signals_of es) n ≡ None =
    elim c.if-number-len.branch [
      | then-number-len+in_default w ↦
          let h : n < length es = omega (arith, c.len.ensures, w.if-number-len.true) in
          entry_seen signal_of es n w.index_mut.result.now h w.index_mut.ensures.value
          ∙ ap (option_map signal_of) w.in_default.is
      | else-number-len w ↦
          entry_past signal_of es n (omega (arith, c.len.ensures, w.if-number-len.false))
    ] in
    rw none c.refused.ensures
