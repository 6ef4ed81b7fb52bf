use Rattle.std.proofs.Common.{◌∙◌, ℕ, ◌+◌, List, drop, ap, sym, refl}
use Rattle.cir_ast.specs.Tree.{bare, bare_exprs}
use Rattle.cir_values.specs.Meant.{meant}
use Rattle.cir_meaning.specs.Evaluate as E
use Rattle.cir_frame.specs.Shown.{state_of}
use Rattle.cir_arrays.proofs.Exits.{exit_gives}
use Rattle.cir_evaluate.specs.Within.{context_at, where_at}
use Rattle.cir_evaluate.proofs.Turns.{behind, at_first, turn, stops, dims_more, dims_stops}
use Rattle.cir_evaluate.proofs.Turns.{dims_unknown, dims_end}
use Rattle.cir_evaluate.proofs.looking.dims_in.Goals as goal

pub loop-e-init : goal.loop-e-init
loop-e-init g c =
    let h = c.args.here.now in record {
      value = λ m qs.
          let s = state_of c.args.frame.now c.args.world.now qs in
          let all =
          E.dims_in (context_at h m) (where_at h) h.shaded (bare_exprs c.args.es.now) s in
          at_first all ∙ ap (λ (list : List ℕ). behind list all) (sym c.new-dims.ensures.items);
      keeps = λ m. refl;
    }

pub returns-in_err-x-clause-value : goal.returns-in_err-x-clause-value
returns-in_err-x-clause-value g c =
    let h = c.args.here.now in
    let front = c.loop-e.dims.items in
    λ m qs.
    let s = state_of c.args.frame.now c.loop-e.world qs in
    let k = context_at h m in
    let w = where_at h in
    let rest = bare_exprs (drop (c.loop-e.e-index + 1) c.args.es.now) in
    exit_gives _ _ _ _ c.from_residual.ensures.1
    (stops (λ es. behind front (E.dims_in k w h.shaded (bare_exprs es) s)) c.args.es.now
    c.loop-e.e-index c.e-item.result _ _ c.loop-e-test.true c.e-item.is
    (c.loop-e.invariant.value m qs)
    (dims_stops k w h.shaded front (bare c.e-item.result) rest s _ (c.in_err-x.ensures.value m qs)))

pub returns-in-None-clause-value : goal.returns-in-None-clause-value
returns-in-None-clause-value g c =
    let h = c.args.here.now in
    let front = c.loop-e.dims.items in
    λ m qs.
    let s = state_of c.args.frame.now c.loop-e.world qs in
    let k = context_at h m in
    let w = where_at h in
    let rest = bare_exprs (drop (c.loop-e.e-index + 1) c.args.es.now) in
    stops (λ es. behind front (E.dims_in k w h.shaded (bare_exprs es) s)) c.args.es.now
    c.loop-e.e-index c.e-item.result _ _ c.loop-e-test.true c.e-item.is
    (c.loop-e.invariant.value m qs)
    (dims_unknown k w h.shaded front (bare c.e-item.result) rest (meant c.in_ok-x.x) s
    (state_of c.args.frame.now c.number.new.world qs) _ (c.in_ok-x.ensures.value m qs)
    (sym c.number_told.ensures ∙ c.in-None.is) c.refused.ensures)

pub loop-e-preserved : goal.loop-e-preserved
loop-e-preserved g c =
    let h = c.args.here.now in
    let front = c.loop-e.dims.items in record {
      value = λ m qs.
          let s = state_of c.args.frame.now c.loop-e.world qs in
          let s1 = state_of c.args.frame.now c.number.new.world qs in
          let k = context_at h m in
          let w = where_at h in
          let rest = bare_exprs (drop (c.loop-e.e-index + 1) c.args.es.now) in
          turn (λ es. behind front (E.dims_in k w h.shaded (bare_exprs es) s)) c.args.es.now
          c.loop-e.e-index c.e-item.result _ _ c.loop-e-test.true c.e-item.is
          (c.loop-e.invariant.value m qs)
          (dims_more k w h.shaded front (bare c.e-item.result) rest (meant c.in_ok-x.x) c.in-Some.n
          s s1 (c.in_ok-x.ensures.value m qs) (sym c.number_told.ensures ∙ c.in-Some.is)
          ∙ ap (λ (list : List ℕ). behind list (E.dims_in k w h.shaded rest s1))
          (sym c.in_ok-push-in-Some.ensures.items));
      keeps = λ m. c.in_ok-x.ensures.keeps m ∙ c.loop-e.invariant.keeps m;
    }

pub returns-clause-value : goal.returns-clause-value
returns-clause-value g c =
    let h = c.args.here.now in
    λ m qs. dims_end (context_at h m) (where_at h) h.shaded c.loop-e.dims.items c.args.es.now
    c.loop-e.e-index (state_of c.args.frame.now c.loop-e.world qs) _ c.loop-e-test.false
    (c.loop-e.invariant.value m qs)
