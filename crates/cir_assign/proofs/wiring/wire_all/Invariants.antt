use Rattle.std.proofs.Common.{◌≡◌, ◌+◌, ◌-◌, List, drop, length, map}
use Rattle.cir_values.specs.Meant.{meant}
use Rattle.cir_meaning.specs.Arrays.{Reach}
use Rattle.cir_meaning.specs.Compile.{group_size}
use Rattle.cir_meaning.specs.Frame.{Context}
use Rattle.cir_meaning.specs.Places.{numbers_from}
use Rattle.cir_meaning.specs.Source.{Equation}
use Rattle.cir_meaning.specs.Writing.{write_elements}
use Rattle.cir_frame.specs.Shown.{state_of}
use Rattle.cir_frame.specs.Targets.{target_by}
use Rattle.cir_evaluate.specs.Within.{where_at}
use Rattle.cir_assign.specs.Leads.{Lists}
use Rattle.cir_assign.proofs.wiring.wire_all.Given as goal

abbrev pub invariant-loop-at : goal.invariant-loop-at
invariant-loop-at g l = record {
  whole : (k : Context) (r : Reach) (qs : List Equation) → k.group_size ≡ group_size
      → (es : List Equation) × (write_elements k (where_at l.here) l.arrow (target_by l.target r)
      (numbers_from l.first l.count) (map meant l.initial.items.items)
      (state_of l.initial.frame l.initial.world qs)
      ≡ write_elements k (where_at l.here) l.arrow (target_by l.target r)
      (numbers_from (l.first + l.at) (l.count - l.at)) (map meant (drop l.at l.items.items))
      (state_of l.frame l.world es)) × Lists qs l.initial.world es l.world;
  many : length l.items.items ≡ length l.initial.items.items;
}
