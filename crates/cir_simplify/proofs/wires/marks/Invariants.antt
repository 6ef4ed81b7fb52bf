use Rattle.std.proofs.Common.{◌≡◌, ◌<◌, ℕ, false, length, take, slice_index_or}
use Rattle.cir_simplify.specs.Wires.{is_kept}
use Rattle.cir_simplify.proofs.wires.marks.Given as goal

abbrev pub invariant-loop-q : goal.invariant-loop-q
invariant-loop-q l = record {
  len : length l.marks.items ≡ l.fn.rules.bound;
  kept : (x : ℕ) → x < l.fn.rules.bound → slice_index_or l.marks.items x false
      ≡ is_kept l.fn.rules.level l.fn.rules.kept (take l.q-index l.rows) x;
}
