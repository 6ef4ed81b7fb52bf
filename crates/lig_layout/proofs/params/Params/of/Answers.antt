use Rattle.std.proofs.Common.{◌≡◌, ◌+◌, ◌*◌, length, arith, ap, ◌∙◌}
use Rattle.iden_files.specs.File.{File}
use Rattle.lig_layout.specs.Width.{width_exponent}
use Rattle.lig_layout.proofs.Widths.{width_made}
use Rattle.lig_layout.proofs.params.Params.of.Goals as goal

pub returns-clause-width : goal.returns-clause-width
returns-clause-width c =
    let wires : c.file.inside.wires ≡ c.args.file.now.wires =
    ap (λ (f : File). f.wires) c.file.view_is in
    let constraints : length c.constraints.result.now ≡ length c.args.file.now.constraints =
    ap length c.constraints.ensures.constraints in
    let total : c.file.inside.wires + 3 * length c.constraints.result.now
    ≡ c.args.file.now.wires + 3 * length c.args.file.now.constraints = omega arith in
    width_made (c.args.file.now.wires + 3 * length c.args.file.now.constraints)
    c.width_exponent-exponent.result (omega (arith, c.requires.wires, c.requires.constraints))
    (c.width_exponent-exponent.ensures ∙ ap width_exponent total)
