use Rattle.wit_flow.proofs.Cuts.{all_run, first_stops}
use Rattle.wit_flow.proofs.laws.one_thread_is_strand_by_strand.Goals as goal

pub returns : goal.returns
returns c p start fuel ok each =
    record { none = all_run p ok start fuel each; first = first_stops p ok start fuel each }
