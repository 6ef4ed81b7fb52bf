use Rattle.std.proofs.Common.{◌≡◌, ◌-◌, take}
use Rattle.std.specs.Prelude.{map, ◌^◌}
use Rattle.cir_ast.specs.Program.{bare_program}
use Rattle.cir_meaning.specs.Functions.{same_made, shaped_calls, elements_of, first_too_large}
use Rattle.cir_meaning.specs.Limits.{standing}
use Rattle.cir_rules.specs.Shown.{made_of}
use Rattle.cir_rules.specs.Judged.{misfits}
use Rattle.cir_rules.proofs.Reaching.{Visits}
use Rattle.cir_rules.proofs.verdict.made_reached.Given as goal

abbrev pub invariant-visits : goal.invariant-visits
invariant-visits l =
    let p = bare_program l.program in
    record {
      misfit : Visits same_made (shaped_calls p) (misfits p) (map made_of l.made)
          (map made_of l.known.calls.items) l.at l.shaped.has_misfit;
      elements : l.shaped.elements ≡ standing
          (first_too_large (map (elements_of p) (take l.at (map made_of l.known.calls.items))));
    }

abbrev pub decreases-visits : goal.decreases-visits
decreases-visits l = 2 ^ 64 - l.at
