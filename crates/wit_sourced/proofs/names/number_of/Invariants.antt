use Rattle.std.proofs.Common.{◌≡◌, drop}
use Rattle.wit_sourced.specs.Named.{number_of}
use Rattle.wit_sourced.proofs.names.number_of.Given as goal

abbrev pub invariant-loop-b : goal.invariant-loop-b
invariant-loop-b l = number_of l.number (drop l.b-index l.text) ≡ number_of 0 l.text
