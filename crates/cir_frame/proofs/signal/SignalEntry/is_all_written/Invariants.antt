use Rattle.std.proofs.Common.{◌≡◌, drop}
use Rattle.std.specs.List.{list_all}
use Rattle.cir_frame.proofs.signal.SignalEntry.is_all_written.Given as goal

abbrev pub invariant-loop-written : goal.invariant-loop-written
invariant-loop-written l =
    list_all (λ b. b) (drop l.written-index l.self.written.items)
    ≡ list_all (λ b. b) l.self.written.items
