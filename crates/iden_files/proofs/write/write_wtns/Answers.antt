use Rattle.std.proofs.Common.{ap, ◌∙◌}
use Rattle.iden_files.specs.ReadWtns.{wtns_of}
use Rattle.iden_files.proofs.Append.{values_put}
use Rattle.iden_files.proofs.ReadAgain.{values_again}
use Rattle.iden_files.proofs.write.write_wtns.Goals as goal

pub returns-clause-bytes : goal.returns-clause-bytes
returns-clause-bytes c =
    values_put c.args.values.now c.in_ok-out.out.items c.put_header.new.out.items
    c.put_value_count.new.out.items c.put_value_section.new.out.items c.in_ok-out.ensures.items
    c.in_ok-put_header.ensures c.in_ok-put_value_count.ensures
    c.in_ok-put_value_section.ensures.bytes

pub returns-clause-read_back : goal.returns-clause-read_back
returns-clause-read_back c =
    ap wtns_of (returns-clause-bytes c)
    ∙ values_again c.args.values.now c.requires c.in_ok-put_value_section.ensures.below
