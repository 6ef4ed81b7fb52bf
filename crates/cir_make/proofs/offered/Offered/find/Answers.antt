use Rattle.std.proofs.Common.{◌≡◌, ◌∙◌, ◌-◌, Some, ap, get_or, sym, arith}
use Rattle.wit_lower.specs.Homes.{same_name}
use Rattle.wit_sourced.specs.Ends.{end_of}
use Rattle.wit_sourced.specs.Named.{sought_name}
use Rattle.wit_sourced.specs.Order.{key_cmp}
use Rattle.cir_make.specs.declared.arrays.StepArray.{StepArray}
use Rattle.cir_make.proofs.Offering.{found_before, found_here, last_cut}
use Rattle.cir_make.proofs.offered.Offered.find.Goals as goal

pub loop-left-init : goal.loop-left-init
loop-left-init c =
    let self = c.args.self.now in
    record {
      within = omega (arith, c.min-left.ensures);
      found = last_cut (sought_name c.args.name) self.ends self.arrays.now c.of.result
          c.min-left.result self.ended
          (c.of.ensures ∙ ap (end_of key_cmp self.ends) c.key.ensures)
          (omega (arith, c.min-left.ensures));
    }

pub returns-then-is : goal.returns-then-is
returns-then-is c =
    let array = c.index-arrays-left.result in
    let x = sought_name c.args.name in
    let at : array ≡ get_or c.args.self.now.arrays.now (c.loop-left.left - 1) array =
    c.index-arrays-left.is in
    ap Some at
    ∙ found_here x c.args.self.now.arrays.now c.loop-left.left array
    c.loop-left-test.true c.loop-left.invariant.within c.loop-left.invariant.found
    (ap (λ (a : StepArray). same_name x (sought_name a.name)) (sym at)
    ∙ sym c.is.ensures ∙ c.if-is.true)

pub loop-left-preserved : goal.loop-left-preserved
loop-left-preserved c =
    let array = c.index-arrays-left.result in
    let x = sought_name c.args.name in
    let at : array ≡ get_or c.args.self.now.arrays.now (c.loop-left.left - 1) array =
    c.index-arrays-left.is in
    record {
      within = omega (arith, c.loop-left.invariant.within);
      found = found_before x c.args.self.now.arrays.now c.loop-left.left array
          c.loop-left-test.true c.loop-left.invariant.within c.loop-left.invariant.found
          (ap (λ (a : StepArray). same_name x (sought_name a.name)) (sym at)
          ∙ sym c.is.ensures ∙ c.if-is.false);
    }
