use Rattle.std.proofs.Common.{◌∙◌}
use Rattle.lig_layout.proofs.Wired.{wired_over, vectors_made}
use Rattle.lig_layout.proofs.fill.vectors.Goals as goal

pub side_values-requires : goal.side_values-requires
side_values-requires c =
    wired_over c.args.file.now _ c.constraints-constraints.result.now
    c.constraints-constraints.ensures.file c.requires.values
    c.constraints-constraints.ensures.constraints

pub side_values-requires-2 : goal.side_values-requires-2
side_values-requires-2 c =
    wired_over c.args.file.now _ c.constraints-constraints.result.now
    c.constraints-constraints.ensures.file c.requires.values
    c.constraints-constraints.ensures.constraints

pub side_values-requires-3 : goal.side_values-requires-3
side_values-requires-3 c =
    wired_over c.args.file.now _ c.constraints-constraints.result.now
    c.constraints-constraints.ensures.file c.requires.values
    c.constraints-constraints.ensures.constraints

pub returns : goal.returns
returns c =
    vectors_made c.args.file.now c.constraints-constraints.result.now c.args.w.now _ _ _ _
    c.constraints-constraints.ensures.constraints c.in_ok-from_slice.ensures
    (c.of.ensures ∙ c.in_ok-x.ensures) (c.of-2.ensures ∙ c.in_ok-y.ensures)
    (c.of-3.ensures ∙ c.in_ok-z.ensures)
