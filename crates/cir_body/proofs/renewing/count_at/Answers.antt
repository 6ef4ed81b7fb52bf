use Rattle.std.proofs.Common.{◌∙◌, Option, ap, length}
use Rattle.std.specs.Prelude.{unwrap_or}
use Rattle.cir_meaning.specs.Arrays.{Datum, single}
use Rattle.cir_meaning.specs.Values.{Known}
use Rattle.cir_body.proofs.renewing.count_at.Goals as goal

pub returns-in-Some : goal.returns-in-Some
returns-in-Some c = λ counts.
    c.item_count.ensures
    ∙ ap (λ (o : Option Datum). length (unwrap_or o (single (Known 0))).items)
    (c.in-Some.ensures counts)

pub returns-in-None : goal.returns-in-None
returns-in-None c = λ counts.
    ap (λ (o : Option Datum). length (unwrap_or o (single (Known 0))).items)
    (c.in-None.ensures counts)
