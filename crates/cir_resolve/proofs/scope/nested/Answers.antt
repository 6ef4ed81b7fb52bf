use Rattle.std.proofs.Common.{refl, ap, sym}
use Rattle.std.proofs.lemmas.List.{nil_from_length}
use Rattle.cir_resolve.proofs.Nesting.{nested_none, nested_last}
use Rattle.cir_resolve.proofs.scope.nested.Goals as goal

pub returns-in-Some-get : goal.returns-in-Some-get
returns-in-Some-get c =
    rw (← c.loop-names.invariant, nested_last _ _ _ _ c.in-Some.ensures.cases.0)
    (rw (← c.get.ensures, c.in-Some-get.is) refl)

pub loop-names-preserved : goal.loop-names-preserved
loop-names-preserved c =
    rw (← c.loop-names.invariant, nested_last _ _ _ _ c.in-Some.ensures.cases.0)
    (rw (← c.get.ensures, c.in_default-get.is) refl)

pub returns : goal.returns
returns c =
    rw (← c.loop-names.invariant, nil_from_length _ c.in_default.ensures.cases)
    (sym (ap (λ f. f c.args.name.now) nested_none))
