-- What the table of a circuit's signals stands for.
use Rattle.std.specs.Prelude.{◌≡◌, map}
use Rattle.cir_values.specs.declared.signals.SignalName.{SignalName}
use Rattle.cir_values.specs.declared.signals.InputShape.{InputShape}
use Rattle.cir_values.specs.declared.signals.Signals.{Signals}
use Rattle.cir_meaning.specs.Compile as M

abbrev pub name_of : SignalName → M.SignalName
name_of n = record { instance = n.instance; base = n.base; place = n.place }

abbrev pub shape_of : InputShape → M.InputShape
shape_of i = record { name = i.name; first = i.first; count = i.count }

pub record IsTableOf (m : M.Circuit) (t : Signals) : Type 0 where
  pub names : map name_of t.names ≡ m.names
  pub outputs : t.outputs ≡ m.outputs
  pub public_inputs : t.public_inputs ≡ m.public_inputs
  pub private_inputs : t.private_inputs ≡ m.private_inputs
  pub inputs : map shape_of t.inputs ≡ m.inputs
