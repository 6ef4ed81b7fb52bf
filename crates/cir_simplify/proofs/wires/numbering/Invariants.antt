use Rattle.std.proofs.Common.{◌≡◌, ◌<◌, ◌≤◌, ℕ, false, length, slice_index, slice_index_or}
use Rattle.cir_simplify.specs.Wires.{kept_below, wire_of}
use Rattle.cir_simplify.proofs.wires.numbering.Given as goal

abbrev pub invariant-loop-x : goal.invariant-loop-x
invariant-loop-x l = record {
  wires : l.wires.items ≡ kept_below (λ x. slice_index_or l.marks x false) l.x;
  few : length l.wires.items ≤ l.x;
  len : length l.places.items ≡ l.x;
  places : (x : ℕ) → x < l.x
      → slice_index l.places.items x ≡ wire_of (λ x. slice_index_or l.marks x false) x;
}
