use Rattle.std.proofs.Common.{refl}
use Rattle.std.proofs.lemmas.List.{take-map}
use Rattle.cir_frame.specs.Shown.{row_of}
use Rattle.cir_frame.proofs.world.World.restore.Goals as goal

pub returns-clause-world : goal.returns-clause-world
returns-clause-world c =
    λ es. rw (
      c.truncate.ensures.items,
      c.truncate-3.ensures.items,
      take-map row_of c.args.marks.now.rows c.args.self.now.rows.items,
    ) refl
