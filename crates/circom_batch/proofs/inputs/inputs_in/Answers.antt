use Rattle.std.proofs.Common.{◌+◌, List, subst, sym, take}
use Rattle.circom_batch.proofs.Entries.{Give, entries_more, few_more, inputs_more}
use Rattle.circom_batch.specs.declared.inputs.Entry.{Entry}
use Rattle.circom_batch.proofs.inputs.inputs_in.Goals as goal

pub loop-line-preserved : goal.loop-line-preserved
loop-line-preserved c =
    let inputs = c.args.signals.now.inputs in
    let starts = c.loop-line.starts.items in
    let after = c.entry_of.new.starts.items in
    let i = c.loop-line.line-index in
    let taken = c.in_ok-entry.ensures in
    record {
      entries = subst (λ (es : List Entry). Give inputs (λ line. line.now) after
          (take (i + 1) c.args.lines.now) es) (sym c.in_ok-push.ensures.items)
          (entries_more inputs (λ line. line.now) starts after c.args.lines.now
          c.loop-line.entries.items i _ c.in_ok-entry.entry c.loop-line-test.true
          c.loop-line.invariant.entries taken);
      starts = inputs_more inputs starts after _ c.in_ok-entry.entry
          c.loop-line.invariant.starts taken;
      few = few_more inputs starts after _ c.in_ok-entry.entry i c.loop-line.invariant.few taken;
    }
