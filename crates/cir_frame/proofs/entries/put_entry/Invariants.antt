use Rattle.std.proofs.Common.{◌≡◌, ◌+◌, ◌-◌, length}
use Rattle.cir_meaning.specs.Frame.{put_at}
use Rattle.cir_frame.proofs.entries.put_entry.Given as goal

abbrev pub invariant-loop-entries : goal.invariant-loop-entries
invariant-loop-entries g l =
    put_at l.n l.entry l.entries.items ≡ put_at l.n l.entry l.initial.entries.items

abbrev pub decreases-loop-entries : goal.decreases-loop-entries
decreases-loop-entries g l = l.n + 1 - length l.entries.items
