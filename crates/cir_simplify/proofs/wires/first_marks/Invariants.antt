use Rattle.std.proofs.Common.{◌≡◌, ◌<◌, ◌||◌, ℕ, false, length, nat_le, slice_index_or}
use Rattle.cir_simplify.specs.Wires.{keeps_all}
use Rattle.cir_simplify.proofs.wires.first_marks.Given as goal

abbrev pub invariant-loop-x : goal.invariant-loop-x
invariant-loop-x l = record {
  len : length l.marks.items ≡ l.x;
  kept : (x : ℕ) → x < l.x → slice_index_or l.marks.items x false
      ≡ (keeps_all l.rules.level || nat_le x l.rules.kept);
}
