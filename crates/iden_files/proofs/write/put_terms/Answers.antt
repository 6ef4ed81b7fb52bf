use Rattle.std.proofs.Common.{◌<◌}
use Rattle.gold_field.specs.declared.form.Term.{Term}
use Rattle.gold_field.specs.declared.gold.TheConstants.{P}
use Rattle.iden_files.specs.Spelling.{term_bytes}
use Rattle.iden_files.proofs.Append.{wrote_more, holds_more}
use Rattle.iden_files.proofs.write.put_terms.Goals as goal

pub loop-t-preserved : goal.loop-t-preserved
loop-t-preserved c =
    let inv = c.loop-t.invariant in
    record {
      bytes = wrote_more term_bytes c.args.terms.now c.loop-t.t-index c.t-item.result
          c.args.out.now.items c.loop-t.out.items c.put_term.new.out.items c.loop-t-test.true
          c.t-item.is inv.bytes c.in_ok-put_term.ensures.bytes;
      below = holds_more (λ (t : Term). t.coef < P) c.args.terms.now c.loop-t.t-index
          c.t-item.result c.loop-t-test.true c.t-item.is inv.below c.in_ok-put_term.ensures.below;
    }
