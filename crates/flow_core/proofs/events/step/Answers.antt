use Rattle.std.proofs.Common.{sym, subst}
use Rattle.flow_core.specs.declared.state.Event.TheVariants.{Take, Publish, Release, Finish, Refuse}
use Rattle.flow_core.specs.Net.{IsNet}
use Rattle.flow_core.specs.Core.{IsSound}
use Rattle.flow_core.proofs.Keeps.{keeps_sound}
use Rattle.flow_core.proofs.events.step.Goals as goal

pub returns-in-Take-clause-sound : goal.returns-in-Take-clause-sound
returns-in-Take-clause-sound c = subst (IsSound c.args.graph.now) (sym c.take.ensures.after)
    (keeps_sound c.args.graph.now (subst IsNet c.graph.view_is c.graph.invariant) c.args.state.now
    c.requires (Take c.in-Take.worker c.in-Take.strand))

pub returns-in-Publish-clause-sound : goal.returns-in-Publish-clause-sound
returns-in-Publish-clause-sound c = subst (IsSound c.args.graph.now) (sym c.publish.ensures.after)
    (keeps_sound c.args.graph.now (subst IsNet c.graph.view_is c.graph.invariant) c.args.state.now
    c.requires (Publish c.in-Publish.worker c.in-Publish.value))

pub returns-in-Release-clause-sound : goal.returns-in-Release-clause-sound
returns-in-Release-clause-sound c = subst (IsSound c.args.graph.now) (sym c.release.ensures.after)
    (keeps_sound c.args.graph.now (subst IsNet c.graph.view_is c.graph.invariant) c.args.state.now
    c.requires (Release c.in-Release.worker))

pub returns-in-Finish-clause-sound : goal.returns-in-Finish-clause-sound
returns-in-Finish-clause-sound c = subst (IsSound c.args.graph.now) (sym c.finish.ensures.after)
    (keeps_sound c.args.graph.now (subst IsNet c.graph.view_is c.graph.invariant) c.args.state.now
    c.requires (Finish c.in-Finish.worker))

pub returns-in-Refuse-clause-sound : goal.returns-in-Refuse-clause-sound
returns-in-Refuse-clause-sound c = subst (IsSound c.args.graph.now) (sym c.refuse.ensures.after)
    (keeps_sound c.args.graph.now (subst IsNet c.graph.view_is c.graph.invariant) c.args.state.now
    c.requires (Refuse c.in-Refuse.worker))
