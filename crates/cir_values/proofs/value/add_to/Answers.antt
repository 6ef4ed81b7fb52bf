use Rattle.std.proofs.Common.{sym, ◌∙◌}
use Rattle.cir_values.proofs.Within.{nothing_added, none_of}
use Rattle.cir_values.proofs.value.add_to.Goals as goal

pub returns-in-empty-clause-value : goal.returns-in-empty-clause-value
returns-in-empty-clause-value c =
    nothing_added _ c.args.g.now (sym c.as_slice.ensures.terms ∙ none_of _ c.in-empty.len_below)
