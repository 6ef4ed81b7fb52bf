use Rattle.std.proofs.Common.{◌≡◌, ◌∙◌, ◌+◌, List, drop, [], ◌∷◌, ap, sym, refl}
use Rattle.std.specs.Prelude.{map}
use Rattle.std.proofs.lemmas.List.{map-append}
use Rattle.cir_ast.specs.Tree.{bare, bare_exprs}
use Rattle.cir_meaning.specs.Arrays.{Datum}
use Rattle.cir_meaning.specs.Evaluate as E
use Rattle.cir_meaning.specs.Evaluate.{value_in}
use Rattle.cir_meaning.specs.Arrays.{Whole}
use Rattle.cir_arrays.specs.Shown.{datum_of}
use Rattle.cir_frame.specs.Shown.{state_of}
use Rattle.cir_arrays.proofs.Exits.{exit_gives}
use Rattle.cir_evaluate.specs.Within.{context_at, where_at}
use Rattle.cir_evaluate.proofs.Steps.{refusal}
use Rattle.cir_evaluate.proofs.Turns.{behind, at_first, turn, stops, arguments_more, arguments_stop}
use Rattle.cir_evaluate.proofs.Turns.{arguments_unknown, arguments_end}
use Rattle.cir_evaluate.proofs.looking.arguments_in.Goals as goal

pub loop-e-init : goal.loop-e-init
loop-e-init g c =
    let h = c.args.here.now in record {
      value = λ m qs plain.
          let s = state_of c.args.frame.now c.args.world.now qs in
          let all = E.arguments_in (context_at h m) (where_at h) (bare_exprs c.args.es.now) s in
          at_first all
          ∙ ap (λ (list : List _). behind (map datum_of list) all) (sym c.in_ok-all.ensures.items);
      keeps = λ m. refl;
    }

pub returns-in_err-d-clause-value : goal.returns-in_err-d-clause-value
returns-in_err-d-clause-value g c =
    let h = c.args.here.now in
    let front = map datum_of c.loop-e.all.items in
    λ m qs plain.
    let s = state_of c.args.frame.now c.loop-e.world qs in
    let k = context_at h m in
    let w = where_at h in
    let rest = bare_exprs (drop (c.loop-e.e-index + 1) c.args.es.now) in
    exit_gives _ _ _ _ c.from_residual-in_err-d.ensures.1
    (stops (λ es. behind front (E.arguments_in k w (bare_exprs es) s)) c.args.es.now
    c.loop-e.e-index c.e-item.result _ _ c.loop-e-test.true c.e-item.is
    (c.loop-e.invariant.value m qs plain)
    (arguments_stop k w front (bare c.e-item.result) rest s _
    (refusal _ _ _
    (ap (λ shaded. value_in k w shaded Whole (bare c.e-item.result) s) (sym plain))
    (c.in_err-d.ensures.value m qs))))

pub returns-then-not-is_all_known-clause-value : goal.returns-then-not-is_all_known-clause-value
returns-then-not-is_all_known-clause-value g c =
    let h = c.args.here.now in
    let front = map datum_of c.loop-e.all.items in
    λ m qs plain.
    let s = state_of c.args.frame.now c.loop-e.world qs in
    let k = context_at h m in
    let w = where_at h in
    let rest = bare_exprs (drop (c.loop-e.e-index + 1) c.args.es.now) in
    stops (λ es. behind front (E.arguments_in k w (bare_exprs es) s)) c.args.es.now
    c.loop-e.e-index c.e-item.result _ _ c.loop-e-test.true c.e-item.is
    (c.loop-e.invariant.value m qs plain)
    (arguments_unknown k w front (bare c.e-item.result) rest (datum_of c.in_ok-d.d) s
    (state_of c.args.frame.now c.datum.new.world qs) _
    (ap (λ shaded. value_in k w shaded Whole (bare c.e-item.result) s) (sym plain)
    ∙ c.in_ok-d.ensures.value m qs) (sym c.if-not-is_all_known.ensures) c.refused.ensures)

pub loop-e-preserved : goal.loop-e-preserved
loop-e-preserved g c =
    let h = c.args.here.now in
    let front = map datum_of c.loop-e.all.items in
    let d = datum_of c.in_ok-d.d in
    let more : map datum_of c.push.new.self.items ≡ _ =
    ap (map datum_of) c.in_ok-push.ensures.items
    ∙ map-append datum_of c.loop-e.all.items (c.in_ok-d.d ∷ []) in record {
      value = λ m qs plain.
          let s = state_of c.args.frame.now c.loop-e.world qs in
          let s1 = state_of c.args.frame.now c.datum.new.world qs in
          let k = context_at h m in
          let w = where_at h in
          let rest = bare_exprs (drop (c.loop-e.e-index + 1) c.args.es.now) in
          turn (λ es. behind front (E.arguments_in k w (bare_exprs es) s)) c.args.es.now
          c.loop-e.e-index c.e-item.result _ _ c.loop-e-test.true c.e-item.is
          (c.loop-e.invariant.value m qs plain)
          (arguments_more k w front (bare c.e-item.result) rest d s s1
          (ap (λ shaded. value_in k w shaded Whole (bare c.e-item.result) s) (sym plain)
          ∙ c.in_ok-d.ensures.value m qs) (sym c.if-not-is_all_known.ensures)
          ∙ ap (λ (list : List Datum). behind list (E.arguments_in k w rest s1)) (sym more));
      keeps = λ m. c.in_ok-d.ensures.keeps m ∙ c.loop-e.invariant.keeps m;
    }

pub returns-clause-value : goal.returns-clause-value
returns-clause-value g c =
    let h = c.args.here.now in
    λ m qs plain. arguments_end (context_at h m) (where_at h) (map datum_of c.loop-e.all.items)
    c.args.es.now c.loop-e.e-index (state_of c.args.frame.now c.loop-e.world qs) _
    c.loop-e-test.false (c.loop-e.invariant.value m qs plain)
