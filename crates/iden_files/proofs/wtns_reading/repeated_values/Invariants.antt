use Rattle.std.proofs.Common.{◌≡◌, ◌-◌, ℕ, List, length}
use Rattle.binary_format.specs.Reading.{repeated}
use Rattle.binary_format.proofs.Loop.{with_front}
use Rattle.iden_files.specs.Values.{number_at}
use Rattle.iden_files.proofs.wtns_reading.repeated_values.Given as goal

pub record Inv (count end end0 counter : ℕ) (read rest rest0 : List ℕ) : Type 0 where
  pub ends : end ≡ end0
  pub so_far : with_front read (repeated (number_at end0) (count - counter) rest)
      ≡ repeated (number_at end0) count rest0
  pub counted : length read ≡ counter

abbrev pub invariant-loop : goal.invariant-loop
invariant-loop l =
    Inv l.count l.fields.end l.fn.fields.end l.counter l.values.items l.fields.rest.now
    l.fn.fields.rest.now
