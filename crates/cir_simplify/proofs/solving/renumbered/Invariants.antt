use Rattle.std.proofs.Common.{◌≡◌, ◌++◌, map, slice_index, All}
use Rattle.cir_simplify.specs.Turn.{dropped}
use Rattle.cir_simplify.specs.Wires.{renamed_in}
use Rattle.cir_simplify.specs.Index.{IsNameable}
use Rattle.cir_simplify.proofs.solving.renumbered.Given as goal

abbrev pub invariant-loop-q : goal.invariant-loop-q
invariant-loop-q l = record {
  done : map (renamed_in (slice_index l.places)) (dropped l.level l.fn.rows.items)
      ≡ l.list
      ++ map (renamed_in (slice_index l.places)) (dropped l.level l.q-iterator.rest.items);
  nameable : All (IsNameable l.places) l.q-iterator.rest.items;
}
