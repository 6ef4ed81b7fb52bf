use Rattle.std.proofs.Common.{eqb, ap, ◌∙◌}
use Rattle.cir_frame.proofs.Numbered.{fed}
use Rattle.cir_frame.proofs.frame.Part.is_fed.Goals as goal

pub returns : goal.returns
returns c =
    ap (λ n. eqb n 0) c.args.self.now.counted ∙ fed c.args.self.now.signals.items
