-- What a set of names contains.
use Rattle.std.specs.Prelude.{ℕ, List, Bool, is_some}
use Rattle.std.specs.Ordering.{nat_cmp}
use Rattle.std.specs.Cmp.Lexicographic.{slice_cmp}
use Rattle.std.specs.BTreeMap.{get_by}
use Rattle.wit_input.specs.declared.names.NameSet.{NameSet}

unfoldable pub contained : NameSet → List ℕ → Bool
contained set name = is_some (get_by (λ k. slice_cmp nat_cmp name k.now) set.names)
