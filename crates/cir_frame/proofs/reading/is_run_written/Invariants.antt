use Rattle.std.proofs.Common.{◌≡◌, ◌+◌, ◌-◌}
use Rattle.std.specs.List.{list_all}
use Rattle.cir_meaning.specs.Frame.{is_written}
use Rattle.cir_meaning.specs.Places.{numbers_from}
use Rattle.cir_frame.specs.Shown.{signal_of}
use Rattle.cir_frame.proofs.reading.is_run_written.Given as goal

abbrev pub invariant-loop-k : goal.invariant-loop-k
invariant-loop-k l =
    list_all (is_written (signal_of l.entry)) (numbers_from (l.first + l.k) (l.count - l.k))
    ≡ list_all (is_written (signal_of l.entry)) (numbers_from l.first l.count)
