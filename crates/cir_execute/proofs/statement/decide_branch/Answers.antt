use Rattle.std.proofs.Common.{◌∙◌, ap}
use Rattle.std.proofs.lemmas.Result.{on_ok_weaker}
use Rattle.cir_ast.specs.Tree.{bare}
use Rattle.cir_meaning.specs.Tried.{next}
use Rattle.cir_meaning.specs.Statement.{condition}
use Rattle.cir_arrays.proofs.Exits.{exits}
use Rattle.cir_evaluate.specs.Within.{context_of}
use Rattle.cir_execute.proofs.Branching.{decides_refused, decides_after}
use Rattle.cir_execute.proofs.Scanning.{kept_constraints}
use Rattle.cir_execute.proofs.statement.decide_branch.Goals as goal

pub returns-in_err-counted-clause-side : goal.returns-in_err-counted-clause-side
returns-in_err-counted-clause-side g c = λ m qs.
    decides_refused _ _ _ _ c.from_residual.ensures.1
    (exits _ _ _ (c.in_err-counted.ensures.value c.args.frame.now qs))

pub returns-clause-side : goal.returns-clause-side
returns-clause-side g c = λ m qs.
    decides_after _ _ _ _
    (ap (λ z. next z (condition (context_of c.args.context.now m.call m.make) c.args.spot
    (bare c.args.condition.now))) (c.in_ok-counted.ensures.value c.args.frame.now qs))
    (c.decide.ensures.side m qs)

pub returns-clause-constraints : goal.returns-clause-constraints
returns-clause-constraints g c = λ m.
    on_ok_weaker c.decide.result (λ z. z ∙ kept_constraints c.counted.new.world c.args.world.now
    c.in_ok-counted.ensures.keeps)
    (c.decide.ensures.constraints m)
