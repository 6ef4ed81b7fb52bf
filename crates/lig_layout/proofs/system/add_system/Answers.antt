use Rattle.std.proofs.Common.{◌≡◌, ◌+◌, ◌*◌, ℕ, length, arith, ap, refl}
use Rattle.lig_layout.specs.declared.side.Side.TheVariants.{A, B, C}
use Rattle.lig_layout.specs.Sides.{forms}
use Rattle.lig_layout.specs.System.{combined_at, differences, wire_forms, known_wires, left_sides}
use Rattle.lig_layout.proofs.Sums.{adds_then, adds_same}
use Rattle.lig_layout.proofs.Forms.{system_made, four_parts}
use Rattle.lig_layout.proofs.Wired.{wired_over, wired_below, wires_fit}
use Rattle.lig_layout.proofs.system.add_system.Goals as goal

pub add_side-requires-clause-below : goal.add_side-requires-clause-below
add_side-requires-clause-below c =
    let ks = c.constraints-constraints.result.now in
    let f = c.args.file.now in
    wired_below f.wires (length c.args.row.now) ks
    (omega (arith, wires_fit f c.args.params.now c.requires.params, c.requires.size))
    (wired_over f f.wires ks c.constraints-constraints.ensures.file refl
    c.constraints-constraints.ensures.constraints)

pub add_side-requires-2-clause-below : goal.add_side-requires-2-clause-below
add_side-requires-2-clause-below c =
    let ks = c.constraints-constraints.result.now in
    let f = c.args.file.now in
    wired_below f.wires (length c.add_side.new.row) ks
    (omega (
      arith,
      wires_fit f c.args.params.now c.requires.params,
      c.requires.size,
      c.add_side.ensures.count,
    ))
    (wired_over f f.wires ks c.constraints-constraints.ensures.file refl
    c.constraints-constraints.ensures.constraints)

pub add_side-requires-3-clause-below : goal.add_side-requires-3-clause-below
add_side-requires-3-clause-below c =
    let ks = c.constraints-constraints.result.now in
    let f = c.args.file.now in
    wired_below f.wires (length c.add_side-2.new.row) ks
    (omega (
      arith,
      wires_fit f c.args.params.now c.requires.params,
      c.requires.size,
      c.add_side.ensures.count,
      c.add_side-2.ensures.count,
    ))
    (wired_over f f.wires ks c.constraints-constraints.ensures.file refl
    c.constraints-constraints.ensures.constraints)

pub returns : goal.returns
returns c =
    let p = c.args.params.now in
    let f = c.args.file.now in
    let ks = c.constraints-constraints.result.now in
    let x = c.split_at.result.0.now in
    let y = c.split_at-2.result.0.now in
    let z = c.split_at-3.result.0.now in
    let w = c.split_at-3.result.1.now in
    let s = p.wire_rows * p.l + p.constraint_rows * p.l in
    let t = p.wire_rows * p.l + 2 * (p.constraint_rows * p.l) in
    let in_x : ℕ → ℕ =
    λ place. combined_at place x (differences (p.wire_rows * p.l) (forms A ks)) in
    let in_y : ℕ → ℕ = λ place. combined_at place y (differences s (forms B ks)) in
    let in_z : ℕ → ℕ = λ place. combined_at place z (differences t (forms C ks)) in
    let in_w : ℕ → ℕ = λ place. combined_at place w (wire_forms 0 (length w)) in
    let xy = adds_then in_x in_y c.args.row.now c.add_side.new.row c.add_side-2.new.row
    c.add_side.ensures c.add_side-2.ensures in
    let xyz =
    adds_then (λ place. in_x place + in_y place) in_z c.args.row.now c.add_side-2.new.row
    c.add_side-3.new.row xy c.add_side-3.ensures in
    let xyzw =
    adds_then (λ place. in_x place + in_y place + in_z place) in_w c.args.row.now
    c.add_side-3.new.row c.add_wires.new.row xyz c.add_wires.ensures in
    let count : length ks ≡ length f.constraints =
    ap length c.constraints-constraints.ensures.constraints in
    let left : length w ≡ known_wires f =
    omega (
      arith,
      c.split_at.ensures.back_len,
      c.split_at-2.ensures.back_len,
      c.split_at-3.ensures.back_len,
      c.requires.numbers,
      count,
    ) in
    let whole =
    four_parts (length ks) c.args.r.now x c.split_at.result.1.now y c.split_at-2.result.1.now z
    w c.split_at.ensures.front c.split_at.ensures.back c.split_at-2.ensures.front
    c.split_at-2.ensures.back c.split_at-3.ensures.front c.split_at-3.ensures.back in
    adds_same (λ place. in_x place + in_y place + in_z place + in_w place)
    (λ place. combined_at place c.args.r.now (left_sides p f)) c.args.row.now
    c.add_wires.new.row
    (λ place. system_made place p f ks c.args.r.now x y z w s t
    c.constraints-constraints.ensures.constraints (omega arith)
    (omega arith) c.split_at.ensures.front_len c.split_at-2.ensures.front_len
    c.split_at-3.ensures.front_len left whole)
    xyzw
