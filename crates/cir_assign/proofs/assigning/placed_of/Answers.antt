use Rattle.std.proofs.Common.{refl}
use Rattle.cir_assign.proofs.Placing.{set_placed, compound_placed, increment_placed}
use Rattle.cir_assign.proofs.Placing.{decrement_placed}
use Rattle.cir_assign.proofs.assigning.placed_of.Goals as goal

pub returns-in-Set : goal.returns-in-Set
returns-in-Set c =
    set_placed c.args.assign.now c.in-Set.place c.in-Set.e c.at.result _ c.in-Set.is
    c.at.ensures.meant c.at.ensures.accessors c.at.ensures.given refl

pub returns-in-Compound : goal.returns-in-Compound
returns-in-Compound c =
    compound_placed c.args.assign.now c.in-Compound.place c.in-Compound.op c.in-Compound.e
    c.at-in-Compound.result _ _ c.in-Compound.is c.at-in-Compound.ensures.meant
    c.at-in-Compound.ensures.accessors c.at-in-Compound.ensures.given refl refl

pub returns-in-Increment : goal.returns-in-Increment
returns-in-Increment c =
    increment_placed c.args.assign.now c.in-Increment.place c.at-in-Increment.result _
    c.in-Increment.is c.at-in-Increment.ensures.meant c.at-in-Increment.ensures.accessors
    c.at-in-Increment.ensures.given refl

pub returns-in-Decrement : goal.returns-in-Decrement
returns-in-Decrement c =
    decrement_placed c.args.assign.now c.in-Decrement.place c.at-in-Decrement.result _
    c.in-Decrement.is c.at-in-Decrement.ensures.meant c.at-in-Decrement.ensures.accessors
    c.at-in-Decrement.ensures.given refl
