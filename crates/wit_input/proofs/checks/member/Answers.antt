use Rattle.std.proofs.Common.{option_map, ap, sym, ◌∙◌}
use Rattle.serde_json.specs.Find.{get_member}
use Rattle.serde_json.specs.View.{view, members_view}
use Rattle.serde_json.proofs.Views.{view_of_ref, view-lookup}
use Rattle.wit_input.proofs.Members.{no_text}
use Rattle.wit_input.proofs.checks.member.Goals as goal

pub returns-in-Ok : goal.returns-in-Ok
returns-in-Ok c =
    view_of_ref c.get.result ∙ ap (option_map view) c.get.ensures.value
    ∙ view-lookup c.in-Ok.name.now c.args.members.now.entries
    ∙ ap (λ name. get_member name (members_view c.args.members.now.entries)) c.in-Ok.ensures.cases.0

pub returns-in-Err : goal.returns-in-Err
returns-in-Err c =
    sym (no_text c.args.name.now c.args.members.now.entries c.in-Err.ensures.cases.0)
