use Rattle.std.proofs.Common.{◌≡◌, ◌<◌, ◌||◌, ℕ, false, length, take, slice_index_or}
use Rattle.cir_simplify.specs.Shape.{names}
use Rattle.cir_simplify.proofs.wires.mark_form.Given as goal

abbrev pub invariant-loop-t : goal.invariant-loop-t
invariant-loop-t l = record {
  len : length l.marks.items ≡ length l.initial.marks.items;
  marks : (x : ℕ) → x < length l.initial.marks.items → slice_index_or l.marks.items x false
      ≡ (slice_index_or l.initial.marks.items x false || names x (take l.t-index l.t-items));
}
