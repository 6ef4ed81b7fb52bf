use Rattle.std.proofs.Common.{Ok, sym, ap, ◌∙◌, refl}
use Rattle.std.specs.Prelude.{unwrap_or}
use Rattle.cir_meaning.specs.Arrays.{single}
use Rattle.cir_meaning.specs.Values.{Known}
use Rattle.cir_meaning.specs.Reading.{Stored}
use Rattle.cir_frame.proofs.SignalsRead.{stored_is}
use Rattle.cir_frame.proofs.reading.named_source.Goals as goal

pub returns-in-Variable : goal.returns-in-Variable
returns-in-Variable c =
    λ k. rw c.in-Variable.is
    (ap (λ d. Ok (Stored d)) (ap (λ o. unwrap_or o (single (Known 0))) (sym (c.variable.ensures k))
    ∙ sym (stored_is c.variable.result)))

pub returns-in-Some : goal.returns-in-Some
returns-in-Some c =
    λ k. rw (c.in-Signal.is, ← c.signal.ensures k, c.in-Some.is) refl

pub returns-in-None : goal.returns-in-None
returns-in-None c =
    λ k. rw (c.in-Signal.is, ← c.signal.ensures k, c.in-None.is) c.refused.ensures
