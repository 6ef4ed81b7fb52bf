-- What a compiled circuit has to do with the program's meaning.
use Rattle.std.specs.Prelude.{◌≡◌, ◌+◌, ◌≤◌, ◌<◌, List, length, map, All, sum_by, Result, Ok}
use Rattle.std.specs.Prelude.{Err}
use Rattle.gold_field.specs.declared.form.Constraint.{Constraint}
use Rattle.gold_field.specs.declared.form.Term.{Term}
use Rattle.gold_field.specs.declared.gold.TheConstants.{P}
use Rattle.gold_field.specs.Rises.{RisesFrom}
use Rattle.gold_field.specs.Form.{ConstraintBelow}
use Rattle.cir_ast.specs.Program.{Program}
use Rattle.cir_meaning.specs.Source.{IsSource}
use Rattle.cir_meaning.specs.Compile as M
pub use Rattle.cir_inst.specs.Table.{name_of, shape_of}
use Rattle.cir_inst.specs.declared.circuit.Circuit.{Circuit}
use Rattle.cir_inst.specs.declared.circuit.InstFault.{InstFault}
use Rattle.cir_inst.specs.declared.circuit.InstFault.TheVariants.{Refused, OutOfMemory}

-- the one form of a linear combination: terms that rise by signal, with numbers of the field other
-- than 0
pub record IsCombination (terms : List Term) : Type 0 where
  pub rises : RisesFrom 0 terms
  pub coefs : All (λ t. t.coef < P) terms

pub record IsFormed (k : Constraint) : Type 0 where
  pub a : IsCombination k.a
  pub b : IsCombination k.b
  pub c : IsCombination k.c

-- the circuit has the meaning's table of signals, its instances, and its source list
pub record IsCircuitOf (m : M.Circuit) (c : Circuit) : Type 0 where
  pub names : map name_of c.signals.names ≡ m.names
  pub outputs : c.signals.outputs ≡ m.outputs
  pub public_inputs : c.signals.public_inputs ≡ m.public_inputs
  pub private_inputs : c.signals.private_inputs ≡ m.private_inputs
  pub inputs : map shape_of c.signals.inputs ≡ m.inputs
  pub instances : c.instances ≡ m.instances
  pub source : IsSource (1 + length m.names) m.equations c.constraints

-- the answer is the meaning's, or want of memory
abbrev pub Instantiates : Program → Result Circuit InstFault → Type 0
Instantiates p (Ok c) = (m : M.Circuit) × (M.meaning p ≡ Ok m) × IsCircuitOf m c
Instantiates p (Err (Refused r)) = M.meaning p ≡ Err r
Instantiates p (Err OutOfMemory) = Unit {0}

-- the limits of an `.r1cs` file
pub record IsWithinLimits (c : Circuit) : Type 0 where
  pub few_signals : length c.signals.names ≤ 1048575
  pub few_constraints : length c.constraints ≤ 1048576
  pub few_terms : sum_by (λ k. length k.a + (length k.b + length k.c)) c.constraints ≤ 8388608
  pub own : c.signals.outputs + (c.signals.public_inputs + c.signals.private_inputs)
      ≤ length c.signals.names
  pub below : All (ConstraintBelow (1 + length c.signals.names)) c.constraints
  pub formed : All IsFormed c.constraints
