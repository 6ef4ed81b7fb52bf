use Rattle.std.proofs.Common.{sym, ◌∙◌}
use Rattle.cir_values.proofs.Within.{nothing_less, less_known, none_of}
use Rattle.cir_values.proofs.value.less.Goals as goal

pub returns-in-empty-clause-value : goal.returns-in-empty-clause-value
returns-in-empty-clause-value c =
    nothing_less _ c.args.g.now (sym c.as_slice.ensures.terms ∙ none_of _ c.in-empty.len_below)

pub returns-in_ok-h-in_default-clause-value : goal.returns-in_ok-h-in_default-clause-value
returns-in_ok-h-in_default-clause-value c =
    less_known _ _ c.args.g.now _ c.neg.ensures c.in_ok-h-in_default.ensures.value
