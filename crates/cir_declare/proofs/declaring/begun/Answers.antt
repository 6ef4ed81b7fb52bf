use Rattle.std.proofs.Common.{◌≡◌, refl, arith}
use Rattle.cir_frame.specs.Shown.{signal_of, component_of}
use Rattle.cir_frame.proofs.Numbered.{none_seen}
use Rattle.cir_declare.proofs.declaring.begun.Goals as goal

pub returns : goal.returns
returns c =
    let e : c.loop-n._n ≡ c.args.room.variables = omega arith in
    λ k. rw (
      c.loop-n.invariant,
      e,
      c.in_ok-signals.ensures,
      c.in_ok-components.ensures,
      c.new.ensures.items,
      none_seen signal_of c.args.room.signals,
      none_seen component_of c.args.room.components,
    ) refl
