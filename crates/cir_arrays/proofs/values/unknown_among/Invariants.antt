use Rattle.std.proofs.Common.{◌≡◌, ◌≤◌, take}
use Rattle.std.specs.Prelude.{map, not, count_by}
use Rattle.cir_meaning.specs.Arrays.{is_known}
use Rattle.cir_values.specs.Meant.{meant}
use Rattle.cir_arrays.proofs.values.unknown_among.Given as goal

abbrev pub invariant-loop-v : goal.invariant-loop-v
invariant-loop-v l = record {
  counted : l.count ≡ count_by (λ v. not (is_known v)) (map meant (take l.v-index l.values));
  small : l.count ≤ l.v-index;
}
