use Rattle.cir_signal_names.proofs.Table.{all_named}
use Rattle.cir_signal_names.proofs.laws.signals_can_be_named.Goals as goal

pub returns : goal.returns
returns c = all_named
