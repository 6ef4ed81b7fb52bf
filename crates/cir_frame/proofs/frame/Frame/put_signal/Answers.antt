use Rattle.std.proofs.Common.{refl}
use Rattle.cir_frame.specs.Shown.{signal_of}
use Rattle.cir_frame.proofs.Numbered.{put_map}
use Rattle.cir_frame.proofs.frame.Frame.put_signal.Goals as goal

pub returns : goal.returns
returns c =
    λ k. rw (
      c.in_ok-put_entry.ensures,
      put_map signal_of c.args.n c.args.entry
          c.args.self.now.signals.items,
    ) refl
