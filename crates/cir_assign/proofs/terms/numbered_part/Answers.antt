use Rattle.std.proofs.Common.{◌≡◌, ◌*◌, ◌∙◌, ap, arith, take, List}
use Rattle.std.proofs.lemmas.Grind.{common_steps}
use Rattle.std.proofs.lemmas.List.{take_all}
use Rattle.gold_field.specs.declared.form.Term.{Term}
use Rattle.cir_meaning.specs.Compile.{group_size}
use Rattle.cir_assign.proofs.Counting.{numbered, numbered_rises}
use Rattle.cir_assign.proofs.terms.numbered_part.Goals as goal

pub of-requires : goal.of-requires
of-requires c =
    let ts : List Term = c.as_slice-t-items.result.now in
    let all : take c.loop-t.t-index ts ≡ ts = take_all c.loop-t.t-index ts c.loop-t-test.false in
    let e : c.loop-t.terms.items ≡ numbered (4 * group_size) ts =
    c.loop-t.invariant ∙ ap (numbered (4 * group_size)) all in
    rw (e, c.as_slice-t-items.ensures.terms) (numbered_rises (4 * group_size) 0 c.args.f.now
    c.as_slice-t-items.ensures.rises)

pub loop-t-preserved : goal.loop-t-preserved
loop-t-preserved c = grind (arith, common_steps)
