use Rattle.std.proofs.Common.{◌≡◌, ◌∙◌, ◌<◌, false, true, get_or, length, arith}
use Rattle.std.proofs.Common.{sym, rules}
use Rattle.std.proofs.lemmas.List.{append-nil}
use Rattle.std.proofs.lemmas.Grind.{common_steps}
use Rattle.circom_named.specs.Named.{occurs}
use Rattle.circom_named.proofs.Wired.{any_default, found_all, found_more, occurs_marked}
use Rattle.circom_named.proofs.naming.wires_of.Goals.{then-index+in_ok-push, else-index}
use Rattle.circom_named.proofs.naming.wires_of.Goals as goal

pub loop-wire-preserved : goal.loop-wire-preserved
loop-wire-preserved c =
    let k = c.args.constraint.now in
    let w = c.loop-wire.wire in
    let long : length c.in_ok-marks.marks.items ≡ c.args.wires =
    grind (arith, common_steps, c.in_ok-marks.ensures.items_if_clones_equal) in
    let in0 : w < length c.in_ok-marks.marks.items = omega (arith, long, c.loop-wire-test.true) in
    let in1 : w < length c.mark.new.marks.items = omega (arith, in0, c.mark.ensures.count) in
    let in2 : w < length c.mark-2.new.marks.items = omega (arith, in1, c.mark-2.ensures.count) in
    let in3 : w < length c.mark-3.new.marks.items = omega (arith, in2, c.mark-3.ensures.count) in
    let none : get_or c.in_ok-marks.marks.items w false ≡ false =
    grind (arith, common_steps, c.in_ok-marks.ensures.items_if_clones_equal) in
    let marked : get_or c.mark-3.new.marks.items w false ≡ occurs w k =
    occurs_marked k w c.as_slice.result.now c.as_slice-2.result.now c.as_slice-3.result.now
    (get_or c.in_ok-marks.marks.items w false) (get_or c.mark.new.marks.items w false)
    (get_or c.mark-2.new.marks.items w false) (get_or c.mark-3.new.marks.items w false) none
    c.as_slice.ensures.terms c.as_slice-2.ensures.terms c.as_slice-3.ensures.terms
    (c.mark.ensures.marks w in0) (c.mark-2.ensures.marks w in1) (c.mark-3.ensures.marks w in2) in
    let told : c.index.result.now ≡ occurs w k =
    c.index.ensures ∙ any_default c.mark-3.new.marks.items w c.index.result.now false in3
    ∙ marked in
    elim c.if-index.branch [
      | then-index+in_ok-push b ↦
          found_more k c.args.wires w c.mark-3.new.marks.items c.loop-wire.found.items
          c.if-index.found.items true c.loop-wire.invariant c.loop-wire-test.true
          (sym b.if-index.true ∙ told) (rw b.found-is (search rules))
      | else-index b ↦
          found_more k c.args.wires w c.mark-3.new.marks.items c.loop-wire.found.items
          c.if-index.found.items false c.loop-wire.invariant c.loop-wire-test.true
          (sym b.if-index.false ∙ told)
          (rw b.found-is (sym (append-nil c.loop-wire.found.items)))
    ]

pub returns-clause-wires : goal.returns-clause-wires
returns-clause-wires c =
    found_all c.args.constraint.now c.args.wires c.loop-wire.wire c.mark-3.new.marks.items
    c.loop-wire.found.items c.loop-wire.invariant c.loop-wire-test.false
