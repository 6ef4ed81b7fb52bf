use Rattle.std.proofs.Common.{ap}
use Rattle.std.specs.Prelude.{is_some}
use Rattle.std.specs.Ordering.{nat_cmp}
use Rattle.std.specs.Cmp.Lexicographic.{slice_cmp}
use Rattle.std.specs.BTreeMap.{is_at}
use Rattle.std.specs.Map.{lookup}
use Rattle.cir_checks.specs.Answers.{contained}
use Rattle.cir_checks.proofs.name_set.NameSet.new.Goals as goal

pub returns : goal.returns
unfolding contained
returns c =
    λ i q. (ap (λ es. is_some (lookup (is_at (λ k. slice_cmp nat_cmp q k.now)) es))
    c.new.ensures.empty) i
