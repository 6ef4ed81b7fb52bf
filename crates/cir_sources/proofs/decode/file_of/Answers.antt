use Rattle.std.proofs.Common.{ap, sym, ◌∙◌}
use Rattle.cir_sources.specs.Includes.{seen_items, other_version}
use Rattle.cir_sources.specs.Faults.{IsUnfit, LeftOut, NoTree, OtherVersion}
use Rattle.cir_sources.proofs.Decoding.{refuses_by}
use Rattle.cir_sources.proofs.decode.file_of.Goals as goal

pub returns-in-None : goal.returns-in-None
returns-in-None c = (
  record { whole = c.in-Ok.ensures.0; is_tree = c.in-Ok.ensures.1; places = c.in-Ok.ensures.2 },
  ap (λ items. other_version (seen_items items)) (sym c.as_slice.ensures) ∙ sym c.in-None.ensures,
)

pub returns-in-Some : goal.returns-in-Some
returns-in-Some c =
    refuses_by (IsUnfit c.args.name.now c.args.tokens.now c.args.spots.now) _ _
    (OtherVersion _ c.in-Some.spot
    (record { whole = c.in-Ok.ensures.0; is_tree = c.in-Ok.ensures.1; places = c.in-Ok.ensures.2 })
    (ap (λ items. other_version (seen_items items)) (sym c.as_slice.ensures)
    ∙ sym c.in-Some.ensures))
    c.refusal.ensures

pub returns-in-Err-Form : goal.returns-in-Err-Form
returns-in-Err-Form c =
    refuses_by (IsUnfit c.args.name.now c.args.tokens.now c.args.spots.now) _ _
    (rw c.spot_of.ensures (LeftOut c.in-Err-Form.token c.in-Err-Form.form
    (rw c.in-Err-Form.field-0-is at c.in-Err-Form.ensures)))
    c.refusal-in-Err-Form.ensures

pub returns-in-Err-Syntax : goal.returns-in-Err-Syntax
returns-in-Err-Syntax c =
    let s = rw c.in-Err-Syntax.field-0-is at c.in-Err-Syntax.ensures in
    refuses_by (IsUnfit c.args.name.now c.args.tokens.now c.args.spots.now) _ _
    (rw c.spot_of-in-Err-Syntax.ensures (NoTree c.in-Err-Syntax.token s.0 s.2 s.1))
    c.refusal-in-Err-Syntax.ensures
