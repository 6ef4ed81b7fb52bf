use Rattle.std.proofs.Common.{◌≡◌, drop}
use Rattle.serde_json.specs.View.{members_view}
use Rattle.wit_input.specs.Input.{all_numbers}
use Rattle.wit_input.proofs.Steps.{behind}
use Rattle.wit_input.proofs.input.all_numbers.Given as goal

-- the numbers so far, and those of the inputs that are left, are all
abbrev pub invariant-loop-place : goal.invariant-loop-place
invariant-loop-place l =
    behind l.found.items
    (all_numbers (members_view l.members.entries) l.place (drop l.place l.inputs))
    ≡ all_numbers (members_view l.members.entries) 0 l.inputs
