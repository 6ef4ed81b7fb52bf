use Rattle.std.proofs.Common.{refl}
use Rattle.cir_expression.proofs.Lists.{listed_seen}
use Rattle.cir_parse.specs.Reading.{main}
use Rattle.cir_parse.proofs.item.main.Goals as goal

pub returns : goal.returns
unfolding main
returns g c =
    rw (
      c.in_ok-behind_word.ensures,
      c.in_ok-public.ensures,
      c.in_ok-behind.ensures,
      c.in_ok-template.ensures,
      c.in_ok-behind-2.ensures,
      c.in_ok-arguments.ensures,
      c.in_ok-behind-3.ensures,
      listed_seen c.tight-2.result c.in_ok-arguments.arguments.items c.tight-2.ensures,
      c.tight.ensures,
    ) refl
