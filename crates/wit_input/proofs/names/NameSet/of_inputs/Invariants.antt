use Rattle.std.proofs.Common.{◌≡◌, ℕ, List, drop}
use Rattle.std.specs.Prelude.{◌||◌}
use Rattle.wit_input.specs.Input.{is_input}
use Rattle.wit_input.specs.Names.{contained}
use Rattle.wit_input.proofs.names.NameSet.of_inputs.Given as goal

-- a name is in the set, or that of an input that is left
abbrev pub invariant-loop-input : goal.invariant-loop-input
invariant-loop-input l = (name : List ℕ)
    → (contained l.names name || is_input (drop l.input-index l.inputs) name)
    ≡ is_input l.inputs name
