use Rattle.std.proofs.Common.{◌≡◌, ℕ, true, List, drop, Option, None, sym, ◌∙◌, arith}
use Rattle.std.proofs.lemmas.Grind.{common_steps}
use Rattle.std.proofs.lemmas.List.{at_drop_all}
use Rattle.cir_meaning.specs.Places.{is_inside}
use Rattle.cir_arrays.proofs.Indices.{inside_more, inside_none}
use Rattle.cir_arrays.proofs.places.is_inside.Goals as goal

pub loop-at-preserved : goal.loop-at-preserved
loop-at-preserved c =
    let e = inside_more c.args.dims.now c.args.indices.now c.loop-at.at 0 None c.loop-at-test.true
    c.if-at-indices.true in
    grind (arith, common_steps, e)

pub returns-after-loop-at : goal.returns-after-loop-at
returns-after-loop-at c =
    let ds : List ℕ = c.args.dims.now in
    let is : List (Option ℕ) = c.args.indices.now in
    let e : is_inside (drop c.loop-at.at ds) (drop c.loop-at.at is) ≡ true =
    at_drop_all (λ zs. is_inside zs (drop c.loop-at.at is)) ds c.loop-at.at c.loop-at-test.false
    ∙ inside_none (drop c.loop-at.at is) in
    sym e ∙ c.loop-at.invariant
