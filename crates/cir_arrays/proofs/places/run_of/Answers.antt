use Rattle.std.proofs.Common.{◌≡◌, ◌∙◌, ap, ℕ, [], ◌++◌, add-zero}
use Rattle.std.proofs.lemmas.List.{take_rest}
use Rattle.cir_meaning.specs.Limits.{standing}
use Rattle.cir_meaning.specs.Places.{elements, numbers_from}
use Rattle.cir_arrays.proofs.Reaching.{run_places}
use Rattle.cir_arrays.proofs.Runs.{single_steps}
use Rattle.cir_arrays.proofs.places.run_of.Goals as goal

pub returns : goal.returns
returns c =
    run_places c.args.dims.now c.args.indices.now c.first_place.result c.elements-count.result _
    c.requires.few c.requires.inside c.requires.known c.requires.small c.first_place.ensures
    (c.elements-count.ensures ∙ ap (λ zs. standing (elements zs)) (take_rest c.args.dims.now _))
    (rw c.in_ok-places.ensures.items at c.in_ok-push_run.ensures
    ∙ single_steps c.first_place.result 0 c.elements-count.result
    ∙ ap (λ (n : ℕ). numbers_from n c.elements-count.result) (add-zero c.first_place.result))
