use Rattle.std.proofs.Common.{◌≡◌, drop}
use Rattle.std.specs.List.{list_all}
use Rattle.cir_meaning.specs.Frame.{is_written}
use Rattle.cir_frame.specs.Shown.{signal_of}
use Rattle.cir_frame.proofs.reading.is_each_written.Given as goal

abbrev pub invariant-loop-k : goal.invariant-loop-k
invariant-loop-k l =
    list_all (is_written (signal_of l.entry)) (drop l.k-index l.k-items)
    ≡ list_all (is_written (signal_of l.entry)) l.k-items
