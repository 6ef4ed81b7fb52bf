use Rattle.std.proofs.Common.{◌∙◌, ap, sym}
use Rattle.std.specs.Prelude.{◌||◌}
use Rattle.cir_ast.specs.Tree.{bare, as_accessors}
use Rattle.cir_meaning.specs.Arrays.{Scalar}
use Rattle.cir_meaning.specs.Reached.{is_misplaced, index_misplaced}
use Rattle.cir_texts.specs.Shown.{wanted_of}
use Rattle.cir_texts.proofs.Lists.{misplaced_compound, misplaced_step}
use Rattle.cir_texts.proofs.literals.is_wanted_misplaced.Goals as goal

pub returns-then-index_misplaced : goal.returns-then-index_misplaced
returns-then-index_misplaced c =
    let w = c.in-Compound in
    let at = c.index_misplaced.ensures
    ∙ ap (λ list. index_misplaced (as_accessors list)) c.as_slice.ensures in
    c.if-index_misplaced.true
    ∙ sym (ap (λ x. is_misplaced (wanted_of x).want (wanted_of x).expr) w.is
    ∙ misplaced_compound w.field-0 w.place.now w.e.now
    ∙ ap (λ b. b || is_misplaced Scalar (bare w.e.now)) (sym at ∙ c.if-index_misplaced.true))

pub returns-else-index_misplaced : goal.returns-else-index_misplaced
returns-else-index_misplaced c =
    let w = c.in-Compound in
    let at = c.index_misplaced.ensures
    ∙ ap (λ list. index_misplaced (as_accessors list)) c.as_slice.ensures in
    c.is_misplaced-else-index_misplaced.ensures
    ∙ sym (ap (λ x. is_misplaced (wanted_of x).want (wanted_of x).expr) w.is
    ∙ misplaced_compound w.field-0 w.place.now w.e.now
    ∙ ap (λ b. b || is_misplaced Scalar (bare w.e.now)) (sym at ∙ c.if-index_misplaced.false))

pub returns-in-Step : goal.returns-in-Step
returns-in-Step c =
    c.index_misplaced-in-Step.ensures
    ∙ ap (λ list. index_misplaced (as_accessors list)) c.as_slice-in-Step.ensures
    ∙ sym (ap (λ x. is_misplaced (wanted_of x).want (wanted_of x).expr) c.in-Step.is
    ∙ misplaced_step c.in-Step.field-0 c.in-Step.place.now)
