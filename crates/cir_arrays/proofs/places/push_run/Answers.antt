use Rattle.std.proofs.Common.{ℕ, [], ◌∷◌, ◌++◌, ap, ◌∙◌}
use Rattle.cir_arrays.proofs.Runs.{run_more}
use Rattle.cir_arrays.proofs.places.push_run.Goals as goal

pub loop-i-preserved : goal.loop-i-preserved
loop-i-preserved c =
    c.in_ok-push.ensures.items
    ∙ (ap (λ (x : ℕ). c.loop-i.places.items ++ x ∷ []) c.in_ok-place_at.ensures.ok
    ∙ run_more c.args.places.now.items c.loop-i.places.items c.args.first c.args.step c.loop-i.i
    c.loop-i.invariant)
