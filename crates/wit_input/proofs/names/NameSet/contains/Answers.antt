use Rattle.std.proofs.Common.{rules}
use Rattle.wit_input.specs.Names.{contained}
use Rattle.wit_input.proofs.names.NameSet.contains.Goals as goal

pub returns : goal.returns
unfolding contained
returns c = search rules
