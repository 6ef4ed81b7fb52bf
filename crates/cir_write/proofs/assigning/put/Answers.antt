use Rattle.std.proofs.Common.{ℕ, ◌<◌, ◌==◌, ◌∙◌, ap, arith, cond, length}
use Rattle.cir_steps.specs.Step as S
use Rattle.cir_write.proofs.CodeSources.{source_put}
use Rattle.cir_write.proofs.assigning.put.Goals as goal

pub returns-then-place-len : goal.returns-then-place-len
returns-then-place-len c = λ k.
    let h : c.args.place < length c.lengthen.new.sources.items =
    omega (arith, c.if-place-len.true, c.len.ensures) in
    source_put c.lengthen.new.sources.items c.args.place c.args.cell k h
    ∙ ap (λ (s : S.Source). cond (c.args.place == k) (S.Cell c.args.cell) s)
    (c.in_ok-lengthen.ensures k)
