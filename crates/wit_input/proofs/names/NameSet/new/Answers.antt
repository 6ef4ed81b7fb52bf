use Rattle.std.proofs.Common.{ap}
use Rattle.std.specs.Prelude.{is_some}
use Rattle.std.specs.Ordering.{nat_cmp}
use Rattle.std.specs.Cmp.Lexicographic.{slice_cmp}
use Rattle.std.specs.BTreeMap.{is_at}
use Rattle.std.specs.Map.{lookup}
use Rattle.wit_input.specs.Names.{contained}
use Rattle.wit_input.proofs.names.NameSet.new.Goals as goal

pub returns : goal.returns
unfolding contained
returns c = λ name.
    ap (λ es. is_some (lookup (is_at (λ k. slice_cmp nat_cmp name k.now)) es)) c.new.ensures.empty
