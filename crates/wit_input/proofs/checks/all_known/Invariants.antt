use Rattle.std.proofs.Common.{◌≡◌}
use Rattle.serde_json.specs.View.{members_view}
use Rattle.wit_input.specs.Input.{unknown, is_input}
use Rattle.wit_input.proofs.checks.all_known.Given as goal

-- the members that are left have the first unknown key of all
abbrev pub invariant-loop-key : goal.invariant-loop-key
invariant-loop-key l =
    unknown (is_input l.inputs) (members_view l.key-iterator)
    ≡ unknown (is_input l.inputs) (members_view l.members.entries)
