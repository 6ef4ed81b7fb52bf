use Rattle.std.proofs.Common.{◌≡◌, drop}
use Rattle.std.specs.Prelude.{not}
use Rattle.cir_meaning.specs.Frame.{is_inner}
use Rattle.cir_meaning.specs.Reading.{find_signal}
use Rattle.cir_frame.specs.Shown.{signals_of}
use Rattle.cir_make.proofs.ports.port.Given as goal

abbrev pub invariant-loop-n : goal.invariant-loop-n
invariant-loop-n l =
    find_signal (λ e. not (is_inner e.direction)) l.name l.n (signals_of (drop l.n l.signals))
    ≡ find_signal (λ e. not (is_inner e.direction)) l.name 0 (signals_of l.signals)
