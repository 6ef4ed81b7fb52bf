use Rattle.std.proofs.Common.{◌∙◌}
use Rattle.cir_rules.proofs.table.CallTable.place.Goals as goal

pub returns : goal.returns
returns c = c.copied.ensures ∙ c.get.ensures.value ∙ c.args.self.now.told c.args.call.now
