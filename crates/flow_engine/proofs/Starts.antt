-- The start cells, listed with their values
use Rattle.std.proofs.Common.{◌≡◌, ℕ, zero, suc, ◌<◌, List, [], ◌∷◌, length, get_or, refl, sym, ◌∙◌}
use Rattle.std.proofs.Common.{ap, subst, inl, inr, arith, Option, Some, None, unwrap_or}
use Rattle.std.specs.Prelude.{slice_get}
use Rattle.std.proofs.lemmas.Bool.{cases_lt}
use Rattle.std.proofs.lemmas.List.{get_or_past}
use Rattle.std.proofs.lemmas.List.FromFn.{get_or-map-range_with_len}
use Rattle.std.proofs.lemmas.Option.{slice_get_within, slice_get_read}
use Rattle.flow_core.specs.Flow.{start_of}
use Rattle.flow_core.proofs.Totals.{is_in_at, place_of}
use Rattle.flow_board.specs.Seats.{ListsStarts}
use Rattle.wit_flow.specs.Cells.{no_values}
use Rattle.wit_flow.specs.Answers.{start_cells}
use Rattle.wit_flow.proofs.Values.{cases_in, with_values_at, with_values_else}
use Rattle.flow_engine.specs.Task.{Task, IsTask, answers_of}
use Rattle.flow_engine.proofs.Laws.{laws}

any_default : (ps : List (ℕ × ℕ)) (i : ℕ) (d e : ℕ × ℕ) → i < length ps
    → get_or ps i d ≡ get_or ps i e
any_default [] i d e h = absurd (omega arith)
any_default (p ∷ ps) zero d e h = refl
any_default (p ∷ ps) (suc i) d e h = any_default ps i d e (omega arith)

got : (ps : List (ℕ × ℕ)) (i : ℕ) → i < length ps → slice_get ps i ≡ Some (get_or ps i (0, 0))
got ps i h = slice_get_read ps (length ps) i (get_or ps i (0, 0)) refl h
    (any_default ps i (0, 0) (get_or ps i (0, 0)) h)

pair_same : (x y : ℕ × ℕ) → Some x ≡ Some y → x ≡ y
pair_same x y e = ap (λ (o : Option (ℕ × ℕ)). unwrap_or o x) e

some_none : (x : ℕ) → None ≡ Some x → ⊥
some_none x e = cc

module _ (t : Task) (ok : IsTask t) (ps : List (ℕ × ℕ)) (each : length ps ≡ length t.plan.starts)
    (at : (j : ℕ) → j < length t.plan.starts
    → get_or ps j (0, 0) ≡ (get_or t.plan.starts j 0, get_or t.start j 0)) where
  starts-here : (c : ℕ) → c < t.plan.graph.cells
      → start_of (answers_of t) c ≡ start_cells t.plan t.start c
  starts-here c near =
      get_or-map-range_with_len (start_cells t.plan t.start) 0 t.plan.graph.cells c c None near
      (omega arith)

  here : (i : ℕ) → i < length t.plan.starts
      → start_of (answers_of t) (get_or t.plan.starts i 0) ≡ Some (get_or t.start i 0)
  here i lt =
      starts-here (get_or t.plan.starts i 0)
      (ok.plan.can_cut.starts_near (get_or t.plan.starts i 0) (is_in_at t.plan.starts i lt))
      ∙ with_values_at no_values t.plan.starts t.start i (sym ok.starts_each) lt
      (ok.plan.can_cut.starts_once (get_or t.plan.starts i 0))

  pub lists_starts : ListsStarts (answers_of t) ps
  lists_starts = record {
    true_each = λ i c x e.
        let lt = slice_get_within ps i (c, x) e in
        let same = pair_same (get_or ps i (0, 0)) (c, x) (sym (got ps i lt) ∙ e) in
        let both = sym (at i (omega arith)) ∙ same in
        let P : ℕ × ℕ → Type 0 = λ p. start_of (answers_of t) p.0 ≡ Some p.1 in
        subst P both (here i (omega arith));
    all = λ c x e. elim (cases_lt c t.plan.graph.cells) [
      | inr far ↦ (
          let wide = (laws t ok).flow.start_each in
          let past : start_of (answers_of t) c ≡ None =
          get_or_past (answers_of t).start c None (omega arith) in
          absurd (some_none x (sym past ∙ e)))
      | inl near ↦ elim (cases_in c t.plan.starts) [
        | inr out ↦ absurd (some_none x
            (sym (starts-here c near ∙ with_values_else no_values t.plan.starts t.start c out) ∙ e))
        | inl listed ↦ (
            let p = place_of c t.plan.starts listed in
            let lt = p.1 in
            let S : ℕ → Type 0 = λ d. start_of (answers_of t) d ≡ Some (get_or t.start p.0 0) in
            let value = subst S p.2 (here p.0 lt) in
            let x-is : get_or t.start p.0 0 ≡ x =
            ap (λ (o : Option ℕ). unwrap_or o x) (sym value ∙ e) in
            (p.0, got ps p.0 (omega arith) ∙ ap Some (at p.0 lt ∙ (λ i. (p.2 i, x-is i)))))
      ]
    ];
  }
