use Rattle.std.proofs.Common.{◌≡◌, sym, subst, arith, rules, None}
use Rattle.std.proofs.lemmas.Grind.{common_steps}
use Rattle.flow_core.specs.declared.state.State.{State}
use Rattle.flow_core.specs.Core.{IsSound}
use Rattle.flow_core.specs.Events.{opening_of}
use Rattle.flow_core.proofs.Keeps.{opens_sound}
use Rattle.flow_core.proofs.state.State.opening.Goals as goal

pub returns-clause-sound : goal.returns-clause-sound
returns-clause-sound c = let s : State =
    record {
      cells = c.in_ok-cells.cells;
      missing = c.of.result;
      phase = c.of-2.result;
      least =
          None;
    } in
    let e : s ≡ opening_of c.args.graph.now c.args.start.now =
    first_of (search rules, grind (arith, common_steps)) in
    subst (IsSound c.args.graph.now) (sym e)
    (opens_sound c.args.graph.now c.args.start.now c.facts.ensures.net
    c.if-not-leaves_written.ensures)
