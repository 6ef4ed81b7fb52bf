use Rattle.std.proofs.Common.{◌∙◌, ap, sym}
use Rattle.cir_ast.specs.Tree.{bare, bare_exprs, as_accessors}
use Rattle.cir_arrays.specs.Reached.{want_of}
use Rattle.cir_meaning.specs.Reached.{is_misplaced, argument_misplaced, index_misplaced}
use Rattle.cir_texts.proofs.Lists.{misplaced_place, misplaced_call}
use Rattle.cir_texts.proofs.literals.+misplacing.Goals as goal

pub is_misplaced-returns-in-Place : goal.is_misplaced-returns-in-Place
is_misplaced-returns-in-Place t c =
    c.index_misplaced.ensures ∙ ap (λ list. index_misplaced (as_accessors list)) c.as_slice.ensures
    ∙ sym (misplaced_place (want_of c.args.want) c.in-Place.place)
    ∙ sym (ap (λ e. is_misplaced (want_of c.args.want) (bare e)) c.in-Place.is)

pub is_misplaced-returns-in-Call : goal.is_misplaced-returns-in-Call
is_misplaced-returns-in-Call t c =
    c.argument_misplaced.ensures
    ∙ ap (λ es. argument_misplaced (bare_exprs es)) c.as_slice-in-Call.ensures
    ∙ sym (misplaced_call (want_of c.args.want) c.in-Call.field-0 c.in-Call.field-1
    c.in-Call.field-2 c.in-Call.arguments)
    ∙ sym (ap (λ e. is_misplaced (want_of c.args.want) (bare e)) c.in-Call.is)
