use Rattle.std.proofs.Common.{◌∙◌, ℕ, ◌+◌, List, [], ◌∷◌, ◌++◌, drop, length, ap, sym, refl}
use Rattle.std.specs.Prelude.{Option}
use Rattle.std.proofs.lemmas.List.{length_push}
use Rattle.cir_ast.specs.Tree.{as_accessors}
use Rattle.cir_values.specs.Meant.{meant}
use Rattle.cir_meaning.specs.Evaluate as E
use Rattle.cir_frame.specs.Shown.{state_of}
use Rattle.cir_arrays.proofs.Exits.{exit_gives}
use Rattle.cir_evaluate.specs.Within.{context_at, where_at}
use Rattle.cir_evaluate.specs.Parts.{indexed}
use Rattle.cir_evaluate.proofs.Turns.{indices_turn, indices_stop, indices_member, indices_end}
use Rattle.cir_evaluate.proofs.looking.indices_in.Goals as goal

pub loop-accessor-init : goal.loop-accessor-init
loop-accessor-init g c =
    let h = c.args.here.now in record {
      value = λ m qs.
          ap (λ (list : List (Option ℕ)). E.indices_in (context_at h m) (where_at h) h.shaded list
          (as_accessors c.args.accessors.now) (state_of c.args.frame.now c.args.world.now qs)
          indexed) (sym c.new-indices.ensures.items);
      count = ap length c.new-indices.ensures.items;
      keeps = λ m. refl;
    }

pub returns-in_err-x-in-Index-clause-value : goal.returns-in_err-x-in-Index-clause-value
returns-in_err-x-in-Index-clause-value g c =
    let h = c.args.here.now in
    λ m qs. exit_gives _ _ _ _ c.from_residual.ensures.1
    (indices_stop (context_at h m) (where_at h) h.shaded indexed c.loop-accessor.indices.items
    c.args.accessors.now c.loop-accessor.accessor-index c.accessor-item.result c.in-Index.e
    (state_of c.args.frame.now c.loop-accessor.world qs) _ _ c.loop-accessor-test.true
    c.accessor-item.is c.in-Index.is (c.in_err-x-in-Index.ensures.value m qs)
    (c.loop-accessor.invariant.value m qs))

pub returns-in-Member-clause-value : goal.returns-in-Member-clause-value
returns-in-Member-clause-value g c =
    let h = c.args.here.now in
    λ m qs.
    let s = state_of c.args.frame.now c.loop-accessor.world qs in
    indices_member (context_at h m) (where_at h) h.shaded indexed c.loop-accessor.indices.items
    c.args.accessors.now c.loop-accessor.accessor-index c.accessor-item.result
    c.in-Member.field-0 s _ c.loop-accessor-test.true c.accessor-item.is c.in-Member.is
    (c.loop-accessor.invariant.value m qs)
    ∙ ap (λ n. indexed c.loop-accessor.indices.items (as_accessors (drop n c.args.accessors.now)) s)
    (sym c.loop-accessor.invariant.count)

pub loop-accessor-preserved : goal.loop-accessor-preserved
loop-accessor-preserved g c =
    let h = c.args.here.now in record {
      value = λ m qs.
          let s1 = state_of c.args.frame.now c.number.new.world qs in
          let k = context_at h m in
          let w = where_at h in
          let rest =
          as_accessors (drop (c.loop-accessor.accessor-index + 1) c.args.accessors.now) in
          indices_turn k w h.shaded indexed c.loop-accessor.indices.items c.args.accessors.now
          c.loop-accessor.accessor-index c.accessor-item.result c.in-Index.e
          (meant c.in_ok-x-in-Index.x) (state_of c.args.frame.now c.loop-accessor.world qs) s1 _
          c.loop-accessor-test.true c.accessor-item.is c.in-Index.is
          (c.in_ok-x-in-Index.ensures.value m qs) (c.loop-accessor.invariant.value m qs)
          ∙ ap (λ (o : Option ℕ). E.indices_in k w h.shaded
          (c.loop-accessor.indices.items ++ o ∷ []) rest s1 indexed) (sym c.number_told.ensures)
          ∙ ap (λ (list : List (Option ℕ)). E.indices_in k w h.shaded list rest s1 indexed)
          (sym c.in_ok-push-in-Index.ensures.items);
      count = ap length c.in_ok-push-in-Index.ensures.items
          ∙ length_push c.loop-accessor.indices.items c.number_told.result
          ∙ ap (λ n. n + 1) c.loop-accessor.invariant.count;
      keeps = λ m. c.in_ok-x-in-Index.ensures.keeps m ∙ c.loop-accessor.invariant.keeps m;
    }

pub returns-clause-value : goal.returns-clause-value
returns-clause-value g c =
    let h = c.args.here.now in
    λ m qs.
    let s = state_of c.args.frame.now c.loop-accessor.world qs in
    indices_end (context_at h m) (where_at h) h.shaded indexed c.loop-accessor.indices.items
    c.args.accessors.now c.loop-accessor.accessor-index s _ c.loop-accessor-test.false
    (c.loop-accessor.invariant.value m qs)
    ∙ ap (λ n. indexed c.loop-accessor.indices.items (as_accessors (drop n c.args.accessors.now)) s)
    (sym c.loop-accessor.invariant.count)
