use Rattle.std.proofs.Common.{◌≡◌, ℕ, ◌<◌, List, Option, length, ◌∙◌, arith}
use Rattle.std.proofs.lemmas.List.{length-set}
use Rattle.cir_frame.specs.declared.signal.SignalEntry.{SignalEntry}
use Rattle.cir_declare.proofs.Opening.{missing_next, opened_next, rest_next}
use Rattle.cir_declare.proofs.declaring.opened.Goals as goal

pub loop-n-preserved : goal.loop-n-preserved
loop-n-preserved c =
    let first : List (Option SignalEntry) = c.args.signals.items in
    let now : List (Option SignalEntry) = c.loop-n.signals.items in
    let n : ℕ = c.loop-n.n in
    let x : Option SignalEntry = c.index_mut.result.now in
    let y : Option SignalEntry = c.open-missing.new.entry in
    let same : length now ≡ length first = c.loop-n.invariant.same in
    let h : n < length now = omega (arith, same) in
    let more = missing_next now n y h in
    record {
      same = length-set now n y ∙ same;
      rest = rest_next first now n x y h same c.loop-n.invariant.rest;
      all = opened_next first now n x y h same c.loop-n.invariant.rest c.index_mut.ensures.value
          c.open-missing.ensures.signal c.loop-n.invariant.all;
      counted = omega (arith, more, c.open-missing.ensures.missing, c.loop-n.invariant.counted);
      few = omega (arith, c.open-missing.ensures.few, c.loop-n.invariant.few);
    }
