use Rattle.std.proofs.Common.{refl}
use Rattle.cir_frame.specs.Shown.{component_of}
use Rattle.cir_frame.proofs.Numbered.{put_map}
use Rattle.cir_frame.proofs.frame.Frame.put_component.Goals as goal

pub returns : goal.returns
returns c =
    λ k. rw (
      c.in_ok-put_entry.ensures,
      put_map component_of c.args.n c.args.entry
          c.args.self.now.components.items,
    ) refl
