use Rattle.iden_files.specs.File.{HasForms}
use Rattle.iden_files.specs.Spelling.{constraint_bytes}
use Rattle.iden_files.proofs.Append.{wrote_more, holds_more}
use Rattle.iden_files.proofs.write.put_constraints.Goals as goal

pub loop-k-preserved : goal.loop-k-preserved
loop-k-preserved c =
    let inv = c.loop-k.invariant in
    record {
      bytes = wrote_more constraint_bytes c.args.constraints.now c.loop-k.k-index c.k-item.result
          c.args.out.now.items c.loop-k.out.items c.put_constraint.new.out.items c.loop-k-test.true
          c.k-item.is inv.bytes c.in_ok-put_constraint.ensures.bytes;
      forms = holds_more HasForms c.args.constraints.now c.loop-k.k-index c.k-item.result
          c.loop-k-test.true c.k-item.is inv.forms c.in_ok-put_constraint.ensures.forms;
    }
