use Rattle.std.proofs.Common.{refl}
use Rattle.cir_parse.proofs.Seen.{seen_statements}
use Rattle.cir_parse.specs.Reading.{definition}
use Rattle.cir_parse.proofs.item.definition.Goals as goal

pub returns : goal.returns
unfolding definition
returns g c =
    rw (
      c.in_ok-name.ensures,
      c.in_ok-parameters.ensures,
      c.in_ok-body.ensures,
      c.of.ensures,
      seen_statements c.tight-2.result c.in_ok-body.body.items c.tight-2.ensures,
      c.tight.ensures,
    ) refl
