use Rattle.std.proofs.Common.{length, ap, ◌∙◌}
use Rattle.std.proofs.lemmas.List.FromFn.{length-range_with_len}
use Rattle.iden_files.proofs.labels.labels_of.Goals as goal

pub returns-in_ok-wire_numbers-in-None-clause-len :
    goal.returns-in_ok-wire_numbers-in-None-clause-len
returns-in_ok-wire_numbers-in-None-clause-len c =
    ap length c.in_ok-wire_numbers-in-None.ensures ∙ length-range_with_len 0 c.args.wires
