use Rattle.std.proofs.Common.{◌≡◌}
use Rattle.wit_code.specs.Seen.{seen}
use Rattle.wit_code.specs.Table.{code_of}
use Rattle.wit_code.proofs.Ends.{IsGood, measure}
use Rattle.wit_code.proofs.Runs.{Reached}
use Rattle.wit_code.proofs.machine.run_to_end.Given as goal

abbrev pub invariant-loop-run : goal.invariant-loop-run
invariant-loop-run l = record {
  good : IsGood l.procs l.code (seen l.run);
  body : l.body ≡ (code_of l.procs l.code l.run.running).body;
  reached : Reached l.procs l.code l.reads l.fuel (seen l.run);
}

abbrev pub decreases-loop-run : goal.decreases-loop-run
decreases-loop-run l = measure l.procs l.code (seen l.run)
