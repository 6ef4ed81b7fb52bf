-- The faults of loading and of execution as faults of compilation.
use Rattle.cir_sources.specs.declared.fault.LoadFault.{LoadFault}
use Rattle.cir_sources.specs.declared.fault.LoadFault.TheVariants as load
use Rattle.cir_inst.specs.declared.circuit.InstFault.{InstFault}
use Rattle.cir_inst.specs.declared.circuit.InstFault.TheVariants as instance
use Rattle.cir_compile.specs.declared.fault.CompileFault.{CompileFault}
use Rattle.cir_compile.specs.declared.fault.CompileFault.TheVariants.{Missing, Refused, Fault}
use Rattle.cir_compile.specs.declared.fault.CompileFault.TheVariants.{OutOfMemory}

abbrev pub of_load : LoadFault → CompileFault
of_load load.Missing = Missing
of_load (load.Refused r) = Refused r
of_load load.Fault = Fault
of_load load.OutOfMemory = OutOfMemory

abbrev pub of_instance : InstFault → CompileFault
of_instance (instance.Refused r) = Refused r
of_instance instance.OutOfMemory = OutOfMemory
