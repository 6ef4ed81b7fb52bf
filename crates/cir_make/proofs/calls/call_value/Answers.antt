use Rattle.std.proofs.Common.{◌≡◌, ◌∙◌, option_map, IfOk, sym, ap, subst}
use Rattle.cir_arrays.specs.Shown.{datum_of}
use Rattle.wit_sourced.specs.Loaded.{called_of}
use Rattle.cir_make.proofs.Knowing.{told_known, on_ok}
use Rattle.cir_make.proofs.calls.call_value.Goals as goal

pub returns-in-Some-clause-value : goal.returns-in-Some-clause-value
returns-in-Some-clause-value g c =
    λ m qs. subst (λ n. IfOk c.known_numbers.result (λ x. option_map called_of x ≡ n))
    (sym (told_known _ (datum_of c.in-Some.d)
    (ap (option_map datum_of) (sym c.in-Some.is) ∙ c.in_ok-seen.ensures.value m qs)))
    c.known_numbers.ensures

pub returns-in-Some-clause-same : goal.returns-in-Some-clause-same
returns-in-Some-clause-same g c =
    λ m f qs. on_ok c.known_numbers.result (c.in_ok-seen.ensures.same m f qs)
