-- What a source comes to before it is run, step by step.
use Rattle.std.specs.Prelude.{◌≡◌, ℕ, List, Result, Ok, Err, ⊤}
use Rattle.out_io.specs.Contents.{Contents}
use Rattle.iden_files.specs.File.{File, InLimits}
use Rattle.cir_ast.specs.Program.{Program, bare_program}
use Rattle.cir_compile.specs.Compiled.{IsWritten, NotCompiled, Writes}
use Rattle.cir_compile.specs.declared.fault.CompileFault.{CompileFault}
use Rattle.cir_compile.specs.declared.fault.CompileFault.TheVariants as fault
use Rattle.cir_inst.specs.Compiled.{Instantiates, IsWithinLimits}
use Rattle.cir_meaning.specs.Scoped.{IsResolved}
use Rattle.cir_names.specs.declared.loading.Loaded.{Loaded}
use Rattle.cir_names.specs.Resting.{IsLoadedWithout}
use Rattle.cir_simplify.specs.declared.types.Level.{Level}
use Rattle.cir_steps.specs.Places.{ArePlacesMeant}
use Rattle.wit_circuit.specs.Whole.{IsCircuitOf}
use Rattle.circom_words.specs.Words.{Options}
use Rattle.circom_lines.specs.declared.answer.Refusal.TheVariants.{NoSuchFile, BadSource}
use Rattle.wit_input.specs.Input.{input_of}
use Rattle.out_io.specs.Held.{OfAll}
use Rattle.circom_files.specs.Running.{accepted_input}
use Rattle.circom_files.specs.Steps.{StepsTo}
use Rattle.circom_files.specs.declared.stop.Stop.{Stop}
use Rattle.circom_files.specs.declared.stop.Stop.TheVariants.{Refused, StoreFailed, OutOfMemory}
use Rattle.circom_gold.specs.Compile.{CompilesTo, task_of}
use Rattle.circom_gold.specs.declared.source.Coded.{Coded}

-- the program as contracts see it
abbrev pub program_of : Coded → Program
program_of x = bare_program x.loaded.program

-- the parts are those of the program
pub record IsCoded (level : Level) (x : Coded) : Type 0 where
  pub resolved : IsResolved (program_of x)
  pub places : ArePlacesMeant (program_of x)
  pub instantiated : Instantiates (program_of x) (Ok x.circuit)
  pub fits : IsWithinLimits x.circuit
  pub written : IsWritten (program_of x) level x.file
  pub limits : InLimits x.file
  pub made : IsCircuitOf (program_of x) x.code

-- what a loaded program comes to, or why it doesn't compile
abbrev pub Codes : Loaded → Level → Result Coded CompileFault → Type 0
Codes loaded level (Ok x) = x.loaded ≡ loaded
Codes loaded level (Err e) = Writes (bare_program loaded.program) level (Err e)

-- these contents may be there, and the program is loaded from them, with these names missing
abbrev pub LoadedFrom : (Contents → Type 0) → List ℕ → Options → Loaded → Contents
    → Type 0
LoadedFrom held source options loaded files = held files
    × IsLoadedWithout files source options.folder loaded.missing (bare_program loaded.program)

-- the program is loaded from all contents that there may be
abbrev pub IsLoadedFrom : (Contents → Type 0) → List ℕ → Options → Loaded → Type 0
IsLoadedFrom held source options loaded =
    OfAll held (λ files. IsLoadedWithout files source options.folder loaded.missing
    (bare_program loaded.program))

-- what a source comes to, or why it doesn't compile
abbrev pub Sources : (Contents → Type 0) → List ℕ → Options → (failed : Type 0)
    → Result Coded CompileFault → Type 0
Sources held source options failed (Ok x) = IsLoadedFrom held source options x.loaded
Sources held source options failed (Err e) =
    NotCompiled held (task_of source options) failed e

-- the same of a command's step
abbrev pub SourcesBy : (Contents → Type 0) → List ℕ → Options → (failed : Type 0)
    → Result Coded Stop → Type 0
SourcesBy held source options failed (Ok x) = IsLoadedFrom held source options x.loaded
SourcesBy held source options failed (Err stop) =
    StepsTo (λ (f : File). f) held (λ files found. CompilesTo files source options found) failed
    (Err stop)

-- a command ends so for this fault of the source under the name; memory may lack for the name
abbrev pub IsStopOf : List ℕ → CompileFault → Stop → Type 0
IsStopOf name fault.Missing (Refused refusal) = refusal ≡ NoSuchFile name
IsStopOf name (fault.Refused r) (Refused refusal) = refusal ≡ BadSource r
IsStopOf name fault.Fault (Refused refusal) = ⊥
IsStopOf name fault.OutOfMemory (Refused refusal) = ⊥
IsStopOf name fault.Fault StoreFailed = ⊤
IsStopOf name fault.Missing StoreFailed = ⊥
IsStopOf name (fault.Refused r) StoreFailed = ⊥
IsStopOf name fault.OutOfMemory StoreFailed = ⊥
IsStopOf name fault.Fault OutOfMemory = ⊥
IsStopOf name e OutOfMemory = ⊤

-- some bytes give these numbers for main's inputs
abbrev pub AreInputs : Coded → List ℕ → Type 0
AreInputs x start = (bytes : List ℕ)
    × (accepted_input x.circuit.signals.inputs
    (input_of bytes x.circuit.signals.inputs) ≡ Ok start)
