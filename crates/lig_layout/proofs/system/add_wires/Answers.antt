use Rattle.std.proofs.Common.{◌+◌, ◌-◌, ◌*◌, ◌∷◌, [], drop, length}
use Rattle.lig_layout.specs.System.{coefficient, combined_at, wire_forms}
use Rattle.lig_layout.proofs.Sums.{owes_less}
use Rattle.lig_layout.proofs.Forms.{wires_split}
use Rattle.lig_layout.proofs.system.add_wires.Goals as goal

pub loop-wire-preserved : goal.loop-wire-preserved
loop-wire-preserved c =
    let r = c.args.r.now in
    let i = c.loop-wire.wire in
    let n = c.index-r-wire.result in
    owes_less (λ place. combined_at place (drop i r) (wire_forms i (length r - i)))
    (λ place. combined_at place r (wire_forms 0 (length r)))
    (λ place. n * coefficient place (record { signal = i; coef = 1 } ∷ []))
    (λ place. combined_at place (drop (i + 1) r) (wire_forms (i + 1) (length r - (i + 1))))
    c.args.row.now c.loop-wire.row c.add_term.new.row c.loop-wire.invariant c.add_term.ensures
    (λ place. wires_split place i n r c.loop-wire-test.true c.index-r-wire.is)
