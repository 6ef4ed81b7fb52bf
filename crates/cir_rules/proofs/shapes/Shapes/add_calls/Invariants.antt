use Rattle.std.proofs.Common.{◌≡◌, drop}
use Rattle.std.specs.Prelude.{map}
use Rattle.cir_meaning.specs.Functions.{same_made}
use Rattle.cir_texts.specs.Shown.{called_of}
use Rattle.cir_rules.specs.Shown.{made_of}
use Rattle.cir_rules.specs.Queue.{with_new}
use Rattle.cir_rules.specs.Shaped.{dims_in, shaped}
use Rattle.cir_rules.proofs.shapes.Shapes.add_calls.Given as goal

abbrev pub invariant-loop-inner : goal.invariant-loop-inner
invariant-loop-inner l =
    with_new same_made (map made_of l.known.calls.items)
    (shaped (dims_in l.self) (map called_of (drop l.inner-index l.calls)))
    ≡ with_new same_made (map made_of l.fn.known.calls.items)
    (shaped (dims_in l.self) (map called_of l.calls))
