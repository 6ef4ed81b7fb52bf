use Rattle.std.proofs.Common.{◌∙◌, List, ap, length, ltb, sym}
use Rattle.cir_arrays.specs.declared.arrays.Datum.{Datum}
use Rattle.wit_sourced.specs.Shown.{sought_name}
use Rattle.cir_frame.specs.Shown.{signal_of}
use Rattle.cir_meaning.specs.Limits.{nothing}
use Rattle.cir_make.specs.Arrays.{is_there}
use Rattle.cir_make.proofs.Placing.{never_both, none_there}
use Rattle.cir_make.proofs.told.ToldArrays.is_there.Goals as goal

pub returns-in-Variable : goal.returns-in-Variable
returns-in-Variable c = λ absent there.
    let f = c.args.self.now.frame.now in
    never_both _ absent
    (ap (λ (ds : List Datum). ltb c.in-Variable.n (length ds)) c.as_slice.ensures.value
    ∙ ap (λ x. is_there f (sought_name x)) (sym c.in-Variable.is) ∙ there)

pub returns-in-Signal : goal.returns-in-Signal
returns-in-Signal c = λ absent there.
    let f = c.args.self.now.frame.now in
    never_both c.is_some.result absent (c.is_some.ensures
    ∙ none_there signal_of c.signal.result _ (c.signal.ensures nothing)
    ∙ ap (λ x. is_there f (sought_name x)) (sym c.in-Signal.is) ∙ there)
