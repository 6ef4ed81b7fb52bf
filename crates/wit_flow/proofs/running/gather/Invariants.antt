use Rattle.std.proofs.Common.{◌≡◌, ◌<◌, map, take}
use Rattle.std.specs.Prelude.{All}
use Rattle.gold_field.specs.declared.gold.TheConstants.{P}
use Rattle.wit_flow.specs.Sources.{number_of}
use Rattle.wit_flow.proofs.running.gather.Given as goal

abbrev pub invariant-loop-source : goal.invariant-loop-source
invariant-loop-source l = record {
  numbers : l.numbers.items ≡ map (number_of l.reads l.written) (take l.source-index l.sources);
  below : All (λ x. x < P) l.numbers.items;
}
