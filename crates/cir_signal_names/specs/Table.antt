-- What an entry of a circuit's table of signals stands for.
use Rattle.cir_values.specs.declared.signals.SignalName.{SignalName}
use Rattle.cir_meaning.specs.Compile as M

abbrev pub entry_of : SignalName → M.SignalName
entry_of n = record { instance = n.instance; base = n.base; place = n.place }
