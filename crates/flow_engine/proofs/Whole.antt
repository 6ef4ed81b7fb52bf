-- The outcome where every strand is done
use Rattle.std.proofs.Common.{◌≡◌, ℕ, ◌<◌, ◌⊎◌, List, map, length, get_or, refl, sym}
use Rattle.std.proofs.Common.{◌∙◌, ap, subst, inl, inr, arith, Option, Some, None, unwrap_or}
use Rattle.std.proofs.lemmas.Bool.{cases_lt}
use Rattle.std.proofs.lemmas.List.{get_or-map, get_or_past, length-map}
use Rattle.flow_core.specs.Counts.{IsIn}
use Rattle.flow_core.specs.Net.{writes_of}
use Rattle.flow_core.specs.Flow.{HasValue, start_of}
use Rattle.flow_core.specs.Quiet.{IsBelow}
use Rattle.flow_core.proofs.Totals.{is_in_at, place_of}
use Rattle.flow_core.proofs.Nets.{in_range}
use Rattle.flow_board.specs.Closed.{ClosedWords, cell_in, least_in, IsDoneBelow}
use Rattle.flow_board.specs.Closed.{HasOnlyAnswers}
use Rattle.flow_board.proofs.Last.{done_below, only_answers}
use Rattle.flow_board.proofs.Openings.{start_near}
use Rattle.wit_flow.specs.declared.Outcome.TheVariants.{Done}
use Rattle.wit_flow.specs.Cells.{Shows}
use Rattle.wit_flow.specs.OneThread.{Ending, IsOutcome, one_thread}
use Rattle.wit_flow.proofs.Shape.{held_value, value_at_end}
use Rattle.flow_engine.specs.Task.{Task, IsTask, answers_of, cells_at}
use Rattle.flow_engine.specs.Sweep.{GiveBelow, AreClosed, AreAllDone}
use Rattle.flow_engine.proofs.Laws.{laws}

cases_Option : (o : Option ℕ) → (o ≡ None) ⊎ ((x : ℕ) × (o ≡ Some x))
cases_Option None = inl refl
cases_Option (Some x) = inr (x, refl)

module _ (t : Task) (ok : IsTask t) (w : ClosedWords) (h : AreClosed (answers_of t) w)
    (all : AreAllDone w) where
  only : HasOnlyAnswers (answers_of t) w
  only = only_answers (answers_of t) h.0 h.1 w h.2

  done : (k : ℕ) → k < t.plan.graph.strands → IsDoneBelow (answers_of t) h.0 w k
  done k near =
      let same = h.2.strands_are in
      let below : IsBelow (least_in w) k =
      subst (λ (o : Option ℕ). IsBelow o k) (sym all.none_refused) tt in
      done_below (answers_of t) h.0 h.1 w h.2 k near below (all.done k (omega arith))

  give : GiveBelow t t.plan.graph.strands
  give k near = let d = done k near in (d.values, d.gives)

  -- every cell's word has a value
  filled : (c : ℕ) → c < t.plan.graph.cells → (x : ℕ) × (cell_in w c ≡ Some x)
  filled c near = elim (cases_Option (start_of (answers_of t) c)) [
    | inr begun ↦ (begun.0, only.starts c begun.0 begun.1)
    | inl none ↦ (
        let by = (laws t ok).flow.written_or_start c near none in
        let ws : List ℕ = writes_of t.plan.graph by.0 in
        let each = ok.plan.net.writes_each in
        let lt = in_range t.plan.graph.writes by.0 c by.1 in
        let d = done by.0 (omega arith) in
        let i = place_of c ws by.1 in (
          get_or d.values i.0 0,
          subst (λ e. cell_in w e ≡ Some (get_or d.values i.0 0)) i.2 (d.filled i.0 i.1),
        ))
  ]

  value_near : (c x : ℕ) → HasValue (answers_of t) c x → c < t.plan.graph.cells
  value_near c x v = elim v [
    | inl begun ↦ start_near (answers_of t) (laws t ok).flow c x begun
    | inr by ↦ (
        let ws : List ℕ = writes_of t.plan.graph by.0 in
        let here : IsIn c ws = subst (λ e. IsIn e ws) by.1.cell (is_in_at ws by.1.place by.1.near)
        in ok.plan.net.writes_near by.0 c here)
  ]

  -- the cells once all strands have answered are those of the words
  cell_is : (values : List ℕ) → length values ≡ t.plan.graph.cells
      → ((c : ℕ) → c < length values → get_or values c 0 ≡ unwrap_or (cell_in w c) 0)
      → (c : ℕ) → get_or (map Some values) c None ≡ cells_at t t.plan.graph.strands c
  cell_is values wide each c = elim (cases_lt c (length values)) [
    | inl near ↦ (
        let x = filled c (omega arith) in
        let v = only.values c x.0 (let e = h.2.cells_are in omega arith) x.1 in
        let e = value_at_end t.plan ok.plan t.start t.fuel ok.starts_each c x.0 v in
        get_or-map Some values c 0 None near
        ∙ ap Some (each c near ∙ ap (λ (o : Option ℕ). unwrap_or o 0) x.1) ∙ sym e)
    | inr far ↦ (
        let l = length-map values Some in
        let past = get_or_past (map Some values) c None (omega arith) in
        elim (cases_Option (cells_at t t.plan.graph.strands c)) [
          | inl none ↦ past ∙ sym none
          | inr some ↦ (
              let v = held_value t.plan ok.plan t.start t.fuel ok.starts_each
              t.plan.graph.strands c some.0 (omega arith) some.1 in
              let lt = value_near c some.0 v in absurd (omega arith))
        ])
  ]

  pub ends_done : (values : List ℕ) → length values ≡ t.plan.graph.cells
      → ((c : ℕ) → c < length values → get_or values c 0 ≡ unwrap_or (cell_in w c) 0)
      → IsOutcome t.plan.graph.cells (Done values) (one_thread t.plan t.start t.fuel)
  ends_done values wide each =
      let O : Ending → Type 0 = IsOutcome t.plan.graph.cells (Done values) in
      let shows : Shows t.plan.graph.cells (map Some values) (cells_at t t.plan.graph.strands) =
      (length-map values Some ∙ wide, cell_is values wide each) in
      subst O (sym ((laws t ok).one_ends give)) shows
