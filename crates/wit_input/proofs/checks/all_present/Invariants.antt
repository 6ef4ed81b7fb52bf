use Rattle.std.proofs.Common.{◌≡◌, drop}
use Rattle.serde_json.specs.View.{members_view}
use Rattle.wit_input.specs.Input.{first_fault, missing}
use Rattle.wit_input.proofs.checks.all_present.Given as goal

-- the inputs that are left have the first fault of all
abbrev pub invariant-loop-place : goal.invariant-loop-place
invariant-loop-place l =
    first_fault (missing (members_view l.members.entries)) l.place (drop l.place l.inputs)
    ≡ first_fault (missing (members_view l.members.entries)) 0 l.inputs
