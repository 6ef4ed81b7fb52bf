use Rattle.std.proofs.Common.{◌∙◌, ap}
use Rattle.cir_frame.specs.Shown.{signal_of}
use Rattle.cir_meaning.specs.Limits.{nothing}
use Rattle.cir_make.specs.Arrays.{is_signal}
use Rattle.cir_make.proofs.Placing.{both_there}
use Rattle.cir_make.proofs.ports.part_has.Goals as goal

pub returns-in-Some : goal.returns-in-Some
returns-in-Some c =
    let found = rw c.as_slice.ensures.value at c.port.ensures.found in
    let none = rw c.as_slice.ensures.value at c.port.ensures.none in
    c.is_some.ensures
    ∙ both_there (λ p. (p.0, signal_of p.1.now)) c.port.result _ found none
    ∙ ap (λ o. is_signal o c.args.name.now) (c.in-Some.ensures nothing)

pub returns-in-None : goal.returns-in-None
returns-in-None c = ap (λ o. is_signal o c.args.name.now) (c.in-None.ensures nothing)
