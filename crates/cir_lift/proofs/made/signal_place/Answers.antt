use Rattle.std.proofs.Common.{◌∙◌}
use Rattle.cir_lift.proofs.Trees.{signal_made}
use Rattle.cir_lift.proofs.made.signal_place.Goals as goal

pub returns : goal.returns
returns c =
    signal_made c.args.own.index c.args.own.number c.in_ok-name.name c.args.name.now
    c.in_ok-member.member c.of.result c.in_ok-name.ensures
    (c.of.ensures ∙ c.in_ok-accessors.ensures.items) c.in_ok-member.ensures
