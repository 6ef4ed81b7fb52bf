use Rattle.std.proofs.Common.{◌∙◌, ℕ, ◌+◌, ◌++◌, ◌∷◌, List, append-nil, ap, drop, get_or, map, sym}
use Rattle.std.proofs.lemmas.List.{at_drop_more, drop_all}
use Rattle.cir_arrays.specs.Counted.{counts_of}
use Rattle.cir_frame.specs.Shown.{state_of}
use Rattle.cir_steps.specs.Making.{wanted_of}
use Rattle.cir_steps.specs.Step as S
use Rattle.cir_make.specs.Steps.{elements_of}
use Rattle.cir_make.specs.declared.make.Elements.{Elements}
use Rattle.cir_body.proofs.Renewals.{elements_more}
use Rattle.cir_body.proofs.renewing.wanted.Goals as goal

pub loop-n-preserved : goal.loop-n-preserved
loop-n-preserved c = λ w qs.
    let ns = c.args.variables.now in
    let i = c.loop-n.n-index in
    let s = state_of c.args.frame.now w qs in
    let n = get_or ns i 0 in
    let had = c.loop-n.wanted.items in
    let rest = wanted_of (drop (i + 1) ns) s in
    ap (λ (l : List Elements). map elements_of l ++ rest) c.in_ok-push.ensures.items
    ∙ elements_more had (record { variable = n; count = c.count_at.result }) rest
    ∙ ap (λ (k : ℕ). map elements_of had ++ (record { variable = n; count = k } ∷ rest))
    (c.count_at.ensures (counts_of w.added))
    ∙ ap (λ (l : List S.Elements). map elements_of had ++ l)
    (sym (at_drop_more (λ l. wanted_of l s) ns i 0 c.loop-n-test.true))
    ∙ c.loop-n.invariant w qs

pub returns : goal.returns
returns c = λ w qs.
    let s = state_of c.args.frame.now w qs in
    let had = map elements_of c.loop-n.wanted.items in
    sym (ap (λ l. had ++ wanted_of l s)
    (drop_all c.loop-n.n-index c.args.variables.now c.loop-n-test.false) ∙ append-nil had)
    ∙ c.loop-n.invariant w qs
