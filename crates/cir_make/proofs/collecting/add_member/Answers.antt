use Rattle.cir_make.proofs.collecting.add_member.Goals as goal

pub returns : goal.returns
returns c = λ are.
    let s = c.args.standing.now in
    c.add.ensures s.frame.now s.cells.now s.befores.now are
    (λ step components stands sized.
    c.port_array-array.ensures step components s.befores.now stands sized)
