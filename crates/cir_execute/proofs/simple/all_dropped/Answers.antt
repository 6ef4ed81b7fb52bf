use Rattle.std.proofs.Common.{refl}
use Rattle.cir_ast.specs.Tree.{bare}
use Rattle.cir_meaning.specs.Simple.{dropped}
use Rattle.cir_evaluate.specs.Within.{context_at, where_at}
use Rattle.cir_create.proofs.Turns.{turn_goes, turn_refused, turns_end}
use Rattle.cir_execute.proofs.simple.all_dropped.Goals as goal

pub loop-e-init : goal.loop-e-init
loop-e-init g c = λ m qs shaded. (qs, refl, record { listed = λ s. s })

pub returns-in_err-dropped : goal.returns-in_err-dropped
returns-in_err-dropped g c =
    let h = c.args.here.now in
    λ m qs shaded.
    turn_refused (dropped (context_at h m) (where_at h)) bare c.args.es.now c.loop-e.e-index
    c.e-item.result qs c.args.world.now c.loop-e.world c.dropped.new.world c.args.frame.now
    c.args.frame.now _ _ _ c.loop-e-test.true c.e-item.is (c.loop-e.invariant m qs shaded)
    c.from_residual.ensures.1 (λ es. c.in_err-dropped.ensures m es shaded)

pub loop-e-preserved : goal.loop-e-preserved
loop-e-preserved g c =
    let h = c.args.here.now in
    λ m qs shaded.
    turn_goes (dropped (context_at h m) (where_at h)) bare c.args.es.now c.loop-e.e-index
    c.e-item.result qs c.args.world.now c.loop-e.world c.dropped.new.world c.args.frame.now
    c.args.frame.now _ c.loop-e-test.true c.e-item.is (c.loop-e.invariant m qs shaded)
    (λ es. c.in_ok-dropped.ensures m es shaded)

pub returns : goal.returns
returns g c =
    let h = c.args.here.now in
    λ m qs shaded.
    turns_end (dropped (context_at h m) (where_at h)) bare c.args.es.now c.loop-e.e-index qs
    c.args.world.now c.loop-e.world c.args.frame.now _ c.loop-e-test.false
    (c.loop-e.invariant m qs shaded)
