use Rattle.std.proofs.Common.{◌≡◌, ◌^◌, get_or, sym, ap, ◌∙◌}
use Rattle.text_lines.specs.Number.{number_below}
use Rattle.text_lines.proofs.Numerals.{parsed, none_from_bytes}
use Rattle.text_lines.proofs.digits.number.Goals as goal

pub returns-in-Ok : goal.returns-in-Ok
returns-in-Ok c =
    let same : c.in-Ok.text.now ≡ c.args.digits.now = c.in-Ok.ensures.cases.0 in
    let plus : get_or c.in-Ok.text.now 0 0 ≡ 43 → ⊥ = rw same c.if-digits-eq43.false in
    c.ok.ensures.value ∙ (parsed c.in-Ok.text.now c.parse.result c.parse.ensures.value.0 plus
    ∙ ap (number_below (2 ^ 64)) same)

pub returns-in-Err : goal.returns-in-Err
returns-in-Err c = sym (none_from_bytes (2 ^ 64) c.args.digits.now c.in-Err.ensures.cases.0)
