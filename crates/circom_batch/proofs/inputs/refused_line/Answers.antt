use Rattle.std.proofs.Common.{◌∙◌, ap}
use Rattle.circom_batch.specs.Items.{without_feed}
use Rattle.circom_batch.proofs.inputs.refused_line.Goals as goal

pub returns-in_ok-line-in-Refused : goal.returns-in_ok-line-in-Refused
returns-in_ok-line-in-Refused c = (
  c.in-Refused.refusal,
  c.in-Refused.is,
  c.without_feed.ensures ∙ ap without_feed c.in_ok-line-in-Refused.ensures,
)
