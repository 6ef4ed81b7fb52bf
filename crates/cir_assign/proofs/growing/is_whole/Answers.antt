use Rattle.std.proofs.Common.{ap, sym, ◌∙◌}
use Rattle.std.proofs.lemmas.Bool.{eqb-true}
use Rattle.std.proofs.lemmas.List.{nil_from_length}
use Rattle.cir_ast.specs.declared.program.Meant.TheVariants.{Variable}
use Rattle.cir_assign.proofs.Added.{whole_place}
use Rattle.cir_assign.proofs.growing.is_whole.Goals as goal

pub returns-in-Variable : goal.returns-in-Variable
returns-in-Variable c = λ e.
    whole_place c.args.place.now c.args.n (c.in-Variable.is ∙ ap Variable (eqb-true _ _ e))
    (sym c.as_slice.ensures
    ∙ nil_from_length c.as_slice.result.now (eqb-true _ _ (sym c.if-not-is_empty.ensures)))
