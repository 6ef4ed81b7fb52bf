use Rattle.std.proofs.Common.{List, Option, subst, sym}
use Rattle.std.specs.Prelude.{IfSome}
use Rattle.cir_make.specs.declared.arrays.StepArray.{StepArray}
use Rattle.cir_make.specs.Arrays.{AreArrays, IsArrayOf}
use Rattle.cir_make.proofs.Homing.{arrays_more}
use Rattle.cir_make.proofs.collecting.add.Goals as goal

pub returns-in_ok-push : goal.returns-in_ok-push
returns-in_ok-push c = λ f cells befores are told.
    subst (λ (l : List StepArray). AreArrays f cells befores l) (sym c.in_ok-push.ensures.items)
    (arrays_more f cells befores c.args.arrays.now.items c.in-Some.array are
    (λ step components stands sized.
    subst (λ (o : Option StepArray). IfSome o (IsArrayOf step components)) c.in-Some.is
    (told step components stands sized)))
