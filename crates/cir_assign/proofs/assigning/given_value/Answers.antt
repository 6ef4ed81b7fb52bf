use Rattle.std.proofs.Common.{refl, ap, ◌∙◌}
use Rattle.cir_ast.specs.declared.operators.Binary.TheVariants as binary
use Rattle.cir_values.specs.Meant.{meant}
use Rattle.cir_meaning.specs.Arrays.{Whole}
use Rattle.cir_meaning.specs.Evaluate.{value_in}
use Rattle.cir_frame.specs.Shown.{state_of}
use Rattle.cir_evaluate.specs.Within.{context_at, where_at}
use Rattle.cir_evaluate.proofs.Steps.{given, leaves}
use Rattle.cir_assign.specs.Given.{given_by}
use Rattle.cir_assign.proofs.Placing.{strict_of, compound_first, compound_left, compound_both}
use Rattle.cir_assign.proofs.assigning.given_value.Goals as goal

pub returns-in_err-x-in-Compound-clause-value : goal.returns-in_err-x-in-Compound-clause-value
returns-in_err-x-in-Compound-clause-value g c = λ m qs.
    given _ c.from_residual.result _ _
    (compound_first (context_at c.args.here.now m) (where_at c.args.here.now)
    c.args.here.now.shaded c.args.given c.in-Compound.op c.in-Compound.place c.in-Compound.e
    (state_of c.args.frame.now c.args.world.now qs) c.in-Compound.is)
    (leaves _ c.from_residual.result _ _ _ c.from_residual.ensures.1
    (c.in_err-x-in-Compound.ensures.value m qs))

pub returns-in_err-y-in-Compound-clause-value : goal.returns-in_err-y-in-Compound-clause-value
returns-in_err-y-in-Compound-clause-value g c = λ m qs.
    given _ c.from_residual-in_err-y-in-Compound.result _ _
    (compound_left (context_at c.args.here.now m) (where_at c.args.here.now)
    c.args.here.now.shaded c.args.given c.in-Compound.op c.in-Compound.place c.in-Compound.e
    (state_of c.args.frame.now c.args.world.now qs) c.in-Compound.is (strict_of c.in-Compound.op).0
    (meant c.in_ok-x-in-Compound.x) (state_of c.args.frame.now c.place_number.new.world qs)
    (strict_of c.in-Compound.op).1 (c.in_ok-x-in-Compound.ensures.value m qs))
    (leaves _ c.from_residual-in_err-y-in-Compound.result _ _ _
    c.from_residual-in_err-y-in-Compound.ensures.1 (c.in_err-y-in-Compound.ensures.value m qs))

pub returns-in_err-v-in-Compound-clause-value : goal.returns-in_err-v-in-Compound-clause-value
returns-in_err-v-in-Compound-clause-value g c = λ m qs.
    given _ c.from_residual-in_err-v-in-Compound.result _ _
    (compound_both (context_at c.args.here.now m) (where_at c.args.here.now)
    c.args.here.now.shaded c.args.given c.in-Compound.op c.in-Compound.place c.in-Compound.e
    (state_of c.args.frame.now c.args.world.now qs) c.in-Compound.is c.compound_operator.result
    (meant c.in_ok-x-in-Compound.x) (meant c.in_ok-y-in-Compound.y)
    (state_of c.args.frame.now c.place_number.new.world qs)
    (state_of c.args.frame.now c.number.new.world qs) c.compound_operator.ensures
    (c.in_ok-x-in-Compound.ensures.value m qs) (c.in_ok-y-in-Compound.ensures.value m qs))
    (leaves _ c.from_residual-in_err-v-in-Compound.result _ _ _
    c.from_residual-in_err-v-in-Compound.ensures.1 c.in_err-v-in-Compound.ensures)

pub returns-in-Plain-clause-value : goal.returns-in-Plain-clause-value
returns-in-Plain-clause-value g c = λ m qs.
    given _ c.datum.result _ _ (ap (λ x. value_in (context_at c.args.here.now m)
    (where_at c.args.here.now) c.args.here.now.shaded Whole (given_by x)
    (state_of c.args.frame.now c.args.world.now qs)) c.in-Plain.is) (c.datum.ensures.value m qs)

pub returns-in_ok-v-in-Compound-clause-value : goal.returns-in_ok-v-in-Compound-clause-value
returns-in_ok-v-in-Compound-clause-value g c = λ m qs.
    compound_both (context_at c.args.here.now m) (where_at c.args.here.now)
    c.args.here.now.shaded c.args.given c.in-Compound.op c.in-Compound.place c.in-Compound.e
    (state_of c.args.frame.now c.args.world.now qs) c.in-Compound.is c.compound_operator.result
    (meant c.in_ok-x-in-Compound.x) (meant c.in_ok-y-in-Compound.y)
    (state_of c.args.frame.now c.place_number.new.world qs)
    (state_of c.args.frame.now c.number.new.world qs) c.compound_operator.ensures
    (c.in_ok-x-in-Compound.ensures.value m qs) (c.in_ok-y-in-Compound.ensures.value m qs)
    ∙ rw c.in_ok-v-in-Compound.ensures refl

pub returns-in-Increment-clause-value : goal.returns-in-Increment-clause-value
returns-in-Increment-clause-value g c = λ m qs.
    given _ c.stepped_number.result _ _ (ap (λ x. value_in (context_at c.args.here.now m)
    (where_at c.args.here.now) c.args.here.now.shaded Whole (given_by x)
    (state_of c.args.frame.now c.args.world.now qs)) c.in-Increment.is)
    (c.stepped_number.ensures.value m qs binary.Add refl)

pub returns-in-Decrement-clause-value : goal.returns-in-Decrement-clause-value
returns-in-Decrement-clause-value g c = λ m qs.
    given _ c.stepped_number-in-Decrement.result _ _ (ap (λ x. value_in
    (context_at c.args.here.now m) (where_at c.args.here.now) c.args.here.now.shaded Whole
    (given_by x) (state_of c.args.frame.now c.args.world.now qs)) c.in-Decrement.is)
    (c.stepped_number-in-Decrement.ensures.value m qs binary.Sub refl)
