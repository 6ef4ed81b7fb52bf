-- The ranges of numbers among the words.
use Rattle.std.specs.Prelude.{ℕ, ◌≤◌, ⊤}
use Rattle.circom_words.specs.declared.circuit.CircuitCommand.{CircuitCommand}
use Rattle.circom_words.specs.declared.circuit.CircuitCommand.TheVariants.{Witness, Batch, Generate}
use Rattle.circom_words.specs.declared.words.Command.{Command}
use Rattle.circom_words.specs.declared.words.Command.TheVariants.{Plain, Circuit}

-- there are 1 to 64 workers, and 1 to 300,000 links
abbrev pub HasRanges : CircuitCommand → Type 0
HasRanges (Witness source input out options running) =
    (1 ≤ running.workers) × (running.workers ≤ 64)
HasRanges (Batch source inputs out options running) =
    (1 ≤ running.workers) × (running.workers ≤ 64)
HasRanges (Generate seed size running) =
    (1 ≤ size) × (size ≤ 300000) × (1 ≤ running.workers) × (running.workers ≤ 64)

abbrev pub AreInRange : Command → Type 0
AreInRange (Plain c) = ⊤
AreInRange (Circuit c) = HasRanges c
