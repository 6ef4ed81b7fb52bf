use Rattle.std.proofs.Common.{◌∙◌, ap, List, ◌++◌}
use Rattle.gold_field.specs.declared.form.Term.{Term}
use Rattle.cir_lc.specs.Terms.{term_of}
use Rattle.cir_lc.proofs.Changes.{multiple_value}
use Rattle.cir_lc.proofs.change.multiple.Goals as goal

pub returns-clause-value : goal.returns-clause-value
returns-clause-value c =
    multiple_value _ _ _ (c.of.ensures ∙ c.in_ok-push_term.ensures
    ∙ ap (λ (ts : List Term). ts ++ term_of c.args.signal c.args.k) c.new-terms.ensures.items)
