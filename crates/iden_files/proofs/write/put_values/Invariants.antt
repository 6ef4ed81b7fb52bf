use Rattle.std.proofs.Common.{◌≡◌, ◌<◌, ◌++◌, ℕ, List, All, take}
use Rattle.std.specs.List.{flat_map}
use Rattle.std.specs.Int.{w64, to_le_bytes}
use Rattle.gold_field.specs.declared.gold.TheConstants.{P}
use Rattle.iden_files.proofs.write.put_values.Given as goal

pub record Inv (out before : List ℕ) (done : List ℕ) : Type 0 where
  pub bytes : out ≡ before ++ flat_map (to_le_bytes w64) done
  pub below : All (λ v. v < P) done

abbrev pub invariant-loop-v : goal.invariant-loop-v
invariant-loop-v l = Inv l.out.items l.fn.out.items (take l.v-index l.values)
