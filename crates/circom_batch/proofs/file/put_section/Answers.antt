use Rattle.std.proofs.Common.{◌∙◌, ◌++◌, ap, append_assoc, length}
use Rattle.iden_files.specs.Spelling.{section_head}
use Rattle.circom_batch.proofs.file.put_section.Goals as goal

pub returns : goal.returns
returns c =
    let body = c.args.body.now in
    c.in_ok-extend_from_slice.ensures.items
    ∙ ap (λ t. t ++ body) c.in_ok-put_head.ensures
    ∙ append_assoc c.args.out.now.items (section_head c.args.kind (length body)) body
