use Rattle.std.proofs.Common.{◌≡◌, ◌∙◌, ◌<◌, List, Some, ap, length, map, slice_get, subst, sym}
use Rattle.std.specs.Prelude.{unwrap_or}
use Rattle.std.proofs.lemmas.Option.{slice_get_within}
use Rattle.cir_arrays.specs.Shown.{datum_of}
use Rattle.cir_emit.specs.Lowered.{IsIn, source_input}
use Rattle.cir_meaning.specs.Arrays.{Datum, Shaped, single}
use Rattle.cir_steps.specs.Step as S
use Rattle.cir_steps.specs.Step.{listed, sources_of}
use Rattle.cir_steps.specs.RunSteps.{shaped_map}
use Rattle.wit_lower.specs.Steps.{IsBelow}
use Rattle.wit_sourced.specs.Shown.{sought_name}
use Rattle.cir_make.specs.declared.cells.VariableCells.{VariableCells}
use Rattle.cir_make.specs.Arrays.{sourced_by, values_in}
use Rattle.cir_make.proofs.ElementCells.{both_some, values_behind, variables_got}
use Rattle.cir_make.proofs.arrays.variable_array.Goals as goal

pub returns-in-Some-at : goal.returns-in-Some-at
returns-in-Some-at c = λ step components stands.
    let n = c.args.n in
    let f = c.args.frame.now in
    let bs = c.args.befores.now in
    let first = datum_of c.in-Some.first.now in
    let d : Datum = datum_of c.value_before.result.now in
    let xs : List S.Source = listed stands.sources n in
    let there : slice_get (map datum_of f.variables.items) n ≡ Some first =
    sym (c.in-Some.ensures stands.state.frame.added) in
    let got : slice_get (values_in f bs) n ≡ Some d =
    values_behind bs (map datum_of f.variables.items) n first there
    ∙ ap (λ (z : Datum). Some z) (sym c.value_before.ensures) in
    let here : slice_get step.variables n
    ≡ Some record { dims = d.dims; items = sources_of d.items xs } =
    ap (λ (l : List (Shaped S.Source)). slice_get l n) stands.variables
    ∙ variables_got (values_in f bs) stands.sources n d got in
    let here_cells : slice_get c.args.cells.now.variables.items n
    ≡ Some c.in-Some-at.standing.now =
    ap (λ (l : List VariableCells). slice_get l n) (sym c.as_slice.ensures.value)
    ∙ sym c.in-Some-at.ensures in
    let below : n < length step.variables = slice_get_within step.variables n _ here in
    both_some c.stored.result _ _ _ c.stored.ensures.name
    (c.stored.ensures.array xs (λ k u alive at unknown.
    stands.sourced.each n d c.in-Some-at.standing.now got here_cells alive
    k u at unknown))
    (λ a named array. record {
      array = sourced_by d xs;
      is = subst (λ x. IsIn step components x (sourced_by d xs)) (sym (ap sought_name named))
          (sym (ap (λ o. shaped_map source_input (unwrap_or o (single (S.Constant 0)))) here));
      stands = array;
      below = subst (λ x. IsBelow (length step.variables) x) (sym (ap sought_name named)) below;
    })
