use Rattle.std.proofs.Common.{◌-◌}
use Rattle.std.specs.Prelude.{map, ◌^◌}
use Rattle.cir_ast.specs.Program.{bare_program}
use Rattle.cir_meaning.specs.Reached.{same_call, ranked_calls, returns_array}
use Rattle.cir_rules.specs.Shown.{made_of}
use Rattle.cir_rules.specs.Ranked.{ranked_of, ranked_made}
use Rattle.cir_rules.proofs.Reaching.{Visits}
use Rattle.cir_rules.proofs.ranks.has_run_array.Given as goal

abbrev pub invariant-visits : goal.invariant-visits
invariant-visits l =
    let p = bare_program l.program in
    Visits same_call (ranked_calls p) (returns_array p)
    (map ranked_made (map made_of l.made)) (map ranked_of l.known.items) l.at l.found

abbrev pub decreases-visits : goal.decreases-visits
decreases-visits l = 2 ^ 64 - l.at
