-- What `generate` finds, step by step.
use Rattle.std.specs.Prelude.{◌≡◌, ℕ, Result, Ok, Err, ⊤}
use Rattle.circom_files.specs.declared.outcome.Generated.{Generated}
use Rattle.circom_files.specs.declared.stop.Stop.{Stop}
use Rattle.circom_files.specs.declared.stop.Stop.TheVariants.{Refused, StoreFailed, OutOfMemory}
use Rattle.circom_gold.specs.Compile.{CompilesTo}
use Rattle.circom_gold.specs.Source.{IsLoadedFrom}
use Rattle.circom_gold.specs.Witness.{Generates, generated_files, generated_name}
use Rattle.circom_gold.specs.Witness.{generated_options}
use Rattle.circom_gold.specs.declared.source.Coded.{Coded}

-- how the run of the circuit of so many links ends, from this seed on; want of memory is free
abbrev pub MakesGenerated : (seed size fuel : ℕ) → Result Generated Stop → Type 0
MakesGenerated seed size fuel (Ok x) = Generates seed size fuel (Ok x)
MakesGenerated seed size fuel (Err (Refused r)) = Generates seed size fuel (Err r)
MakesGenerated seed size fuel (Err StoreFailed) = ⊥
MakesGenerated seed size fuel (Err OutOfMemory) = ⊤

-- what the made source comes to, or why it doesn't compile
abbrev pub SourcesGenerated : (size : ℕ) → Result Coded Stop → Type 0
SourcesGenerated size (Ok x) =
    IsLoadedFrom (λ files. files ≡ generated_files size) generated_name generated_options
    x.loaded
SourcesGenerated size (Err (Refused r)) =
    CompilesTo (generated_files size) generated_name generated_options (Err r)
SourcesGenerated size (Err StoreFailed) = ⊥
SourcesGenerated size (Err OutOfMemory) = ⊤
