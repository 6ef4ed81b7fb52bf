use Rattle.std.proofs.Common.{◌∙◌, subst, sym, option_map, ◌≡◌, ap}
use Rattle.cir_ast.specs.Tree.{bare}
use Rattle.cir_frame.specs.Shown.{state_of}
use Rattle.cir_meaning.proofs.Rows.{all_append}
use Rattle.cir_meaning.specs.Arrays.{Whole}
use Rattle.cir_meaning.specs.Evaluate.{value_in}
use Rattle.cir_meaning.specs.Frame.{State, uncounted}
use Rattle.cir_meaning.specs.Run.{known_value}
use Rattle.cir_evaluate.specs.Within.{context_at, where_at}
use Rattle.wit_sourced.specs.Loaded.{AreTold, Calls, called_of}
use Rattle.cir_make.proofs.calls.call_values.Goals as goal

pub loop-call-preserved : goal.loop-call-preserved
loop-call-preserved g c =
    let h = c.args.here.now in
    let loop = c.loop-call in
    record {
      told = λ m qs.
          let calls : State → Calls = λ s e.
          known_value (value_in (context_at h m) (where_at h) h.shaded Whole e (uncounted s)) in
          let before = state_of c.args.frame.now c.args.world.now qs in
          subst (AreTold (calls before)) (sym c.in_ok-push.ensures.items)
          (all_append (λ x. calls before (bare x.call.now) ≡ option_map called_of x.value)
          loop.values.items _ (loop.invariant.told m qs) (
            ap (λ s. calls s (bare c.call-item.result.now))
                (sym (loop.invariant.same m c.args.frame.now qs))
                ∙ sym (c.in_ok-value.ensures.value m qs),
            tt,
          ));
      same = λ m f qs. c.in_ok-value.ensures.same m f qs ∙ loop.invariant.same m f qs;
      keeps = λ m. c.in_ok-value.ensures.keeps m ∙ loop.invariant.keeps m;
    }
