use Rattle.std.proofs.Common.{◌∙◌, ap, List}
use Rattle.gold_field.specs.declared.form.Term.{Term}
use Rattle.cir_lc.specs.Number.{added, value_of}
use Rattle.cir_assign.proofs.LongerSums.{value_append}
use Rattle.cir_assign.proofs.growing.form_grown.Goals as goal

pub returns-then-follows : goal.returns-then-follows
returns-then-follows c =
    ap value_of (c.of.ensures ∙ c.in_ok-extend_from_slice.ensures.items)
    ∙ value_append c.add_constant-rest.new.terms.items c.add_constant-rest.result.now
    ∙ c.add_constant-rest.ensures.value
    ∙ ap (λ (l : List Term). added (value_of l) (value_of c.as_slice.result.now))
    c.into_vec-terms.ensures.terms
    ∙ ap (λ (l : List Term). added (value_of c.args.f) (value_of l)) c.as_slice.ensures.terms
