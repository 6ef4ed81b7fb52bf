-- A quiet state is settled, and a settled state shows the answer
use Rattle.std.proofs.Common.{◌≡◌, ◌≢◌, ℕ, zero, suc, ◌+◌, ◌<◌, ◌≤◌, ◌⊎◌, true, List, length, take}
use Rattle.std.proofs.Common.{get_or, refl, ◌∙◌, ap, inl, inr, arith, Option, Some, None, is_some}
use Rattle.std.proofs.Common.{nat_lt, MatchOption}
use Rattle.std.proofs.lemmas.List.{get_or_past}
use Rattle.std.proofs.lemmas.Bool.{cases_lt, lt-ltb}
use Rattle.flow_core.specs.declared.state.Phase.{Phase}
use Rattle.flow_core.specs.declared.state.Phase.TheVariants.{Waiting, Held, Done, Refused}
use Rattle.flow_core.specs.declared.state.State.{State}
use Rattle.flow_core.specs.Counts.{times}
use Rattle.flow_core.specs.Net.{Net, IsNet, writes_of, preds_of, succs_of}
use Rattle.flow_core.specs.Flow.{Flow, IsFlow, Refuses, Gives, answer_of}
use Rattle.flow_core.specs.Core.{cell_of, missing_of, phase_of, published_at, released_at, releases}
use Rattle.flow_core.specs.Core.{received, IsSound, IsKept}
use Rattle.flow_core.specs.Quiet.{IsAtRest, IsQuiet, IsBelow, IsSettled, IsFirstRefusal, IsAnswered}
use Rattle.flow_core.proofs.Totals.{total_ones, times_all}

rests_unheld : (p : Phase) (m w a b : ℕ) → IsAtRest p m → p ≢ Held w a b
rests_unheld Waiting m w a b h = λ e. cc
rests_unheld (Held v x y) m w a b h = absurd h
rests_unheld Done m w a b h = λ e. cc
rests_unheld Refused m w a b h = λ e. cc

rests_waiting : (p : Phase) (m : ℕ) → IsAtRest p m → (p ≡ Waiting) × (0 < m)
    ⊎ ((p ≡ Done) ⊎ (p ≡ Refused))
rests_waiting Waiting m h = inl (refl, h)
rests_waiting (Held v x y) m h = absurd h
rests_waiting Done m h = inr (inl refl)
rests_waiting Refused m h = inr (inr refl)

unrefused : (f : ℕ → Phase) (o : Option ℕ)
    → MatchOption o ((k : ℕ) → f k ≢ Refused) (λ l. (f l ≡ Refused)
    × ((k : ℕ) → f k ≡ Refused → l ≤ k)) → (k : ℕ) → IsBelow o k → f k ≢ Refused
unrefused f None h k below = h k
unrefused f (Some l) h k below = λ e. let le = h.1 k e in absurd (omega arith)

below_less : (o : Option ℕ) (j k : ℕ) → j < k → IsBelow o k → IsBelow o j
below_less None j k less h = tt
below_less (Some l) j k less h = omega arith

module _ (n : Net) (ok : IsNet n) (s : State) (h : IsSound n s) where
  unheld : IsQuiet n s → (k w a b : ℕ) → phase_of s k ≢ Held w a b
  unheld q k w a b = elim (cases_lt k n.strands) [
    | inl near ↦ rests_unheld (phase_of s k) (missing_of s k) w a b (q k near)
    | inr far ↦ λ e. let each = h.fits.phase_each in
        let w-is : phase_of s k ≡ Waiting = get_or_past s.phase k Waiting (omega arith) in cc
  ]

  -- every strand below k that is below `least` is done, where the state is quiet
  done_under : IsQuiet n s → (m k : ℕ) → k < m → k < n.strands → IsBelow s.least k
      → phase_of s k ≡ Done
  done_under q zero k under near below = absurd (omega arith)
  done_under q (suc m) k under near below =
      elim (rests_waiting (phase_of s k) (missing_of s k) (q k near)) [
        | inl waits ↦ (
            let all : received n s k ≡ length (preds_of n k) =
            total_ones (releases n s k) (preds_of n k) (λ p is-pred.
            let less = ok.preds_below p k is-pred in
            let done : phase_of s p ≡ Done = done_under q m p (omega arith) (omega arith)
            (below_less s.least p k less below) in
            let each : releases n s k p ≡ times k (succs_of n p) =
            ap (λ (f : Phase). times k (take (released_at n p f) (succs_of n p))) done
            ∙ times_all k (succs_of n p) in
            let inv = ok.inverse p k in let once = ok.preds_once p k in omega arith) in
            let c = h.counts_missing k waits.0 in let some = waits.1 in absurd (omega arith))
        | inr other ↦ elim other [
          | inl done ↦ done
          | inr stopped ↦
              absurd (unrefused (phase_of s) s.least h.least_refused k below stopped)
        ]
      ]

  pub quiet_settles : IsQuiet n s → IsSettled n s
  quiet_settles q = record {
    none_held = unheld q;
    done_below =
        λ k near below. done_under q (k + 1) k (omega arith) near below;
  }

is_given : (f : Flow) (k : ℕ) (xs : List ℕ) → answer_of f k ≡ Gives xs → answer_of f k ≢ Refuses
is_given f k xs e = λ r. cc

first_from : (f : Flow) (s : State) (o : Option ℕ)
    → MatchOption o ((k : ℕ) → phase_of s k ≢ Refused) (λ l. (phase_of s l ≡ Refused)
    × ((k : ℕ) → phase_of s k ≡ Refused → l ≤ k))
    → ((k : ℕ) → phase_of s k ≡ Refused → answer_of f k ≡ Refuses)
    → ((k : ℕ) → k < f.net.strands → IsBelow o k → answer_of f k ≢ Refuses)
    → ((k : ℕ) → phase_of s k ≡ Refused → k < f.net.strands) → IsFirstRefusal f o
first_from f s None h stopped below near = λ k lt. below k lt tt
first_from f s (Some l) h stopped below near = (
  stopped l h.0,
  λ k less. let lt = near l h.0 in
      below k (omega arith) less,
)

filled_some : (o : Option ℕ) → is_some o ≡ true → (x : ℕ) × (o ≡ Some x)
filled_some None e = cc
filled_some (Some x) e = (x, refl)

pub settled_answers : (f : Flow) → IsNet f.net → IsFlow f → (s : State) → IsKept f s
    → IsSettled f.net s → IsAnswered f s
settled_answers f ok flow s h st = record {
  first_refusal = first_from f s s.least h.sound.least_refused h.answers_kept.refused_refuses
      (λ k near below. let g = h.answers_kept.done_gives k (st.done_below k near below) in
      is_given f k g.0 g.1)
      (λ k e. elim (cases_lt k f.net.strands) [
        | inl near ↦ near
        | inr far ↦ let each = h.sound.fits.phase_each in
            let w-is : phase_of s k ≡ Waiting = get_or_past s.phase k Waiting (omega arith) in cc
      ]);
  values = λ k i near below lt. let done = st.done_below k near below in
      let c : ℕ = get_or (writes_of f.net k) i 0 in
      let full : is_some (cell_of s c) ≡ true = h.sound.fills_first.filled k i lt
      ∙ ap (λ (q : Phase). nat_lt i (published_at f.net k q)) done
      ∙ lt-ltb i (length (writes_of f.net k)) lt in
      let v = filled_some (cell_of s c) full in (v.0, v.1, h.holds_values.values c v.0 v.1);
}
