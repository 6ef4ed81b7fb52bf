use Rattle.std.proofs.Common.{subst, sym, arith, Option, inl}
use Rattle.std.specs.Prelude.{IfSome}
use Rattle.wit_code.specs.declared.code.Step.{Step}
use Rattle.flow_samples.specs.Links.{IsLink, AreLinks}
use Rattle.flow_samples.proofs.Cuts.{more_links}
use Rattle.flow_samples.proofs.links.steps_of.Goals as goal

pub loop-at-preserved : goal.loop-at-preserved
loop-at-preserved c =
    let so_far = c.loop-at.invariant in
    let at = c.loop-at.at in
    let pushed = c.in_ok-push-in-Some.ensures in
    let P : Option Step → Type 0 = λ made. IfSome made (λ s. IsLink s at) in
    let link = subst P c.in-Some.is c.in_ok-step.ensures in
    let steps = c.loop-at.steps.items in
    let links = more_links steps c.in-Some.step at so_far.each so_far.links link in
    record {
      each = omega (arith, so_far.each, pushed.len);
      links = subst AreLinks (sym pushed.items) links;
    }

pub step-requires-clause-sample : goal.step-requires-clause-sample
step-requires-clause-sample c = inl (_, c.in_ok-code.ensures)
