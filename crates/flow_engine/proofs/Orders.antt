-- A strand's answer where its reads are known, and the cells once one more strand has answered
use Rattle.std.proofs.Common.{◌≡◌, ◌≢◌, ℕ, suc, ◌+◌, ◌<◌, ◌≤◌, Bool, true, cond, List, [], ◌∷◌, map}
use Rattle.std.proofs.Common.{length, take, get_or, refl, sym, ◌∙◌, ap, subst, inl, inr, arith}
use Rattle.std.proofs.Common.{Option, Some, None, is_some, unwrap_or}
use Rattle.std.specs.Prelude.{Result, Ok, Err, IfOk}
use Rattle.std.proofs.lemmas.Bool.{and_from, cases_eq}
use Rattle.std.proofs.lemmas.List.FromFn.{get_or-map-range_with_len}
use Rattle.flow_core.specs.Counts.{IsIn}
use Rattle.flow_core.specs.Net.{Net, reads_of, writes_of}
use Rattle.flow_core.specs.Flow.{Unreached, Gives, answer_of}
use Rattle.flow_core.proofs.Totals.{is_in_at}
use Rattle.wit_flow.specs.declared.StrandOut.{StrandOut}
use Rattle.wit_flow.specs.declared.StrandOut.TheVariants.{Values, Refused}
use Rattle.wit_flow.specs.Cells.{Cells, with_value, numbers_at, have_values, with_values, held}
use Rattle.wit_flow.specs.Cells.{Shows}
use Rattle.wit_flow.specs.Run.{End, Ran, StopsAt}
use Rattle.wit_flow.specs.Answers.{answer_end, answer_at, with_answer}
use Rattle.wit_code.specs.declared.Stop.{Stop}
use Rattle.wit_code.specs.declared.Stop.TheVariants.{OutOfMemory}
use Rattle.wit_flow.specs.declared.Outcome.TheVariants.{Done, Refused as RefusedAt}
use Rattle.wit_flow.specs.OneThread.{IsStrandOut, IsOutcome, Ending, one_thread}
use Rattle.flow_core.specs.Quiet.{IsBelow}
use Rattle.flow_board.specs.Closed.{ClosedWords, cell_in, done_in, least_in}
use Rattle.flow_board.proofs.Last.{done_below}
use Rattle.flow_engine.specs.Task.{Task, IsTask, IsAnswer, answers_of, cells_at, end_at, read_at}
use Rattle.flow_engine.specs.Task.{AreRead}
use Rattle.flow_engine.specs.Sweep.{GiveBelow, AreClosed, HasCome}
use Rattle.flow_engine.proofs.Laws.{laws}

pub if_ok : {A E : Type 0} (P Q : A → Type 0) (r : Result A E) → ((x : A) → P x → Q x) → IfOk r P
    → IfOk r Q
if_ok P Q (Ok x) f h = f x h
if_ok P Q (Err e) f h = h

pub read_in : (cells : List ℕ) (g n : Net) (k i : ℕ) → cells ≡ reads_of g k → g ≡ n
    → i < length cells
    → IsIn (get_or cells i 0) (reads_of n k)
read_in cells g n k i e same near =
    let at : cells ≡ reads_of n k = e ∙ ap (λ (m : Net). reads_of m k) same in
    let P : List ℕ → Type 0 = λ cs. IsIn (get_or cells i 0) cs in subst P at (is_in_at cells i near)

-- numbers that are what cells hold
pub numbers_same : (a : Cells) (cs xs : List ℕ) → length xs ≡ length cs
    → ((i : ℕ) → i < length xs → a (get_or cs i 0) ≡ Some (get_or xs i 0))
    → (xs ≡ numbers_at a cs) × (have_values a cs ≡ true)
numbers_same a [] [] e h = (refl, refl)
numbers_same a [] (x ∷ xs) e h = absurd (omega arith)
numbers_same a (c ∷ cs) [] e h = absurd (omega arith)
numbers_same a (c ∷ cs) (x ∷ xs) e h =
    let r = numbers_same a cs xs (omega arith) (λ i lt. h (suc i) (omega arith)) in
    let here : a c ≡ Some x = h 0 (omega arith) in
    let first : x ≡ unwrap_or (a c) 0 = sym (ap (λ (o : Option ℕ). unwrap_or o 0) here) in
    ((λ i. first i ∷ r.0 i), and_from _ _ (ap is_some here) r.1)

-- values go no further than they reach
with_values_take : (a : Cells) (cs xs : List ℕ) → length xs ≤ length cs
    → with_values a (take (length xs) cs) xs ≡ with_values a cs xs
with_values_take a [] [] h = refl
with_values_take a [] (x ∷ xs) h = absurd (omega arith)
with_values_take a (c ∷ cs) [] h = refl
with_values_take a (c ∷ cs) (x ∷ xs) h = with_values_take (with_value a c x) cs xs (omega arith)

pub writes_are : (ws : List ℕ) (g n : Net) (k : ℕ) → ws ≡ writes_of g k → g ≡ n → ws ≡ writes_of n k
writes_are ws g n k e same = e ∙ ap (λ (m : Net). writes_of m k) same

pub is_answer : (o : StrandOut) (e : End) → IsStrandOut o e → IsAnswer o (answer_end e)
is_answer (Values xs) (Ran ys) h = ap Gives (sym h)
is_answer (Values xs) (StopsAt n stop ys) h = absurd h
is_answer (Refused s stop xs) (Ran ys) h = absurd h
is_answer (Refused s stop xs) (StopsAt n stop' ys) h = refl

module _ (t : Task) (ok : IsTask t) (k : ℕ) (near : k < t.plan.graph.strands) where
  pub answer_here : answer_of (answers_of t) k ≡ answer_at t.plan t.start t.fuel k
  answer_here = get_or-map-range_with_len (answer_at t.plan t.start t.fuel) 0 t.plan.graph.strands
      k k Unreached near (omega arith)

  pub answer_is : have_values (cells_at t k) (reads_of t.plan.graph k) ≡ true
      → answer_of (answers_of t) k ≡ answer_end (end_at t k)
  answer_is have = answer_here ∙ ap (λ (b : Bool). cond b (answer_end (end_at t k)) Unreached) have

  pub reads_are : (xs : List ℕ) → AreRead (answers_of t) k xs
      → (xs ≡ read_at t k) × (have_values (cells_at t k) (reads_of t.plan.graph k) ≡ true)
  reads_are xs h =
      let l = laws t ok in let cs : List ℕ = reads_of t.plan.graph k in
      numbers_same (cells_at t k) cs xs h.each
      (λ i lt. l.read k (get_or cs i 0) (get_or xs i 0) near (is_in_at cs i (let e = h.each in
      omega arith)) (h.has i lt))

  -- one more strand answers a list
  pub comes : (old new : List (Option ℕ)) (xs : List ℕ) → HasCome t k old
      → answer_of (answers_of t) k ≡ Gives xs
      → length new ≡ length old → held new ≡ with_values (held old) (writes_of t.plan.graph k) xs
      → HasCome t (k + 1) new
  comes old new xs h gives wide put =
      let a : held old ≡ cells_at t k = λ i c. h.shows.1 c i in
      let step : k + 1 ≡ suc k = omega arith in
      let next : cells_at t (k + 1) ≡ with_values (cells_at t k) (writes_of t.plan.graph k) xs =
      ap (cells_at t) step
      ∙ ap (with_answer (cells_at t k) (writes_of t.plan.graph k)) (sym answer_here ∙ gives) in
      let all : held new ≡ cells_at t (k + 1) =
      put ∙ ap (λ (b : Cells). with_values b (writes_of t.plan.graph k) xs) a ∙ sym next in record {
        give = λ j less. elim (cases_eq j k) [
          | inl e ↦ (
            xs,
            (let P : ℕ → Type 0 = λ i. answer_of (answers_of t) i ≡ Gives xs in
                subst P (sym e) gives),
          )
          | inr ne ↦ h.give j (omega arith)
        ];
        shows = (wide ∙ h.shows.0, λ c. ap (λ (b : Cells). b c) all);
      }

  ran_gives : GiveBelow t k → (xs : List ℕ) → IsStrandOut (Values xs) (end_at t k)
      → answer_of (answers_of t) k ≡ Gives xs
  ran_gives give xs h = answer_is ((laws t ok).reads_have k near give)
      ∙ is_answer (Values xs) (end_at t k) h

  pub ran_each : GiveBelow t k → (xs : List ℕ) → IsStrandOut (Values xs) (end_at t k)
      → length xs ≡ length (writes_of t.plan.graph k)
  ran_each give xs h = (laws t ok).flow.values_each k xs (ran_gives give xs h)

  -- the strand runs to its end
  pub ran_comes : (old new : List (Option ℕ)) (ws xs : List ℕ) → HasCome t k old
      → IsStrandOut (Values xs) (end_at t k)
      → ws ≡ writes_of t.plan.graph k → length new ≡ length old
      → held new ≡ with_values (held old) ws xs → HasCome t (k + 1) new
  ran_comes old new ws xs h out at wide put =
      comes old new xs h (ran_gives h.give xs out) wide
      (put ∙ ap (λ (cs : List ℕ). with_values (held old) cs xs) at)

  stop_known : (e : End) (s : ℕ) (stop : Stop) (xs : List ℕ) → IsStrandOut (Refused s stop xs) e
      → (e ≡ StopsAt s stop xs) × (stop ≢ OutOfMemory)
  stop_known (Ran ys) s stop xs h = absurd h
  stop_known (StopsAt n stop' ys) s stop xs h =
      ((λ i. StopsAt (sym h.0 i) (sym h.1 i) (sym h.3 i)), h.2)

  pub stop_few : GiveBelow t k → (s : ℕ) (stop : Stop) (xs ws : List ℕ)
      → IsStrandOut (Refused s stop xs) (end_at t k)
      → ws ≡ writes_of t.plan.graph k → length xs ≤ length ws
  stop_few give s stop xs ws h at =
      let le = (laws t ok).stops_within k s stop xs near give
      (stop_known (end_at t k) s stop xs h).0 in
      let e : length ws ≡ length (writes_of t.plan.graph k) = ap (λ (cs : List ℕ). length cs) at in
      omega arith

  -- the strand stops
  pub halts : (old new : List (Option ℕ)) (ws xs : List ℕ) (s : ℕ) (stop : Stop) → HasCome t k old
      → IsStrandOut (Refused s stop xs) (end_at t k) → ws ≡ writes_of t.plan.graph k
      → length new ≡ length old
      → held new ≡ with_values (held old) (take (length xs) ws) xs
      → IsOutcome t.plan.graph.cells (RefusedAt s stop new) (one_thread t.plan t.start t.fuel)
  halts old new ws xs s stop h out at wide put =
      let known = stop_known (end_at t k) s stop xs out in
      let few = stop_few h.give s stop xs ws out at in
      let a : held old ≡ cells_at t k = λ i c. h.shows.1 c i in
      let all : held new ≡ with_values (cells_at t k) (writes_of t.plan.graph k) xs =
      put ∙ with_values_take (held old) ws xs few ∙ (λ i. with_values (a i) (at i) xs) in
      let is = (laws t ok).one_halts k s stop xs near h.give known.0 in
      let O : Ending → Type 0 = IsOutcome t.plan.graph.cells (RefusedAt s stop new) in
      subst O (sym is) (refl, refl, known.1, (wide ∙ h.shows.0, λ c. ap (λ (b : Cells). b c) all))

  pub copied_near : (w : ClosedWords) → AreClosed (answers_of t) w → (ws : List ℕ)
      → ws ≡ writes_of t.plan.graph k
      → (i : ℕ) → i < length ws → get_or ws i 0 < w.cells
  copied_near w h ws at i lt =
      let e = h.2.cells_are in
      let N : List ℕ → Type 0 = λ cs. i < length cs → get_or cs i 0 < t.plan.graph.cells in
      let all : N (writes_of t.plan.graph k) =
      λ less. ok.plan.net.writes_near k (get_or (writes_of t.plan.graph k) i 0)
      (is_in_at (writes_of t.plan.graph k) i less) in
      let near-cell = subst N (sym at) all lt in omega arith

  pub writes_near : (ws : List ℕ) → ws ≡ writes_of t.plan.graph k → (c : ℕ) → IsIn c ws
      → c < t.plan.graph.cells
  writes_near ws at c here =
      let W : List ℕ → Type 0 = λ cs. IsIn c cs in ok.plan.net.writes_near k c (subst W at here)

  -- a done strand's values are copied
  pub done_comes : (w : ClosedWords) → AreClosed (answers_of t) w → IsBelow (least_in w) k
      → done_in w k ≡ true
      → (old new : List (Option ℕ)) (ws vs : List ℕ) → HasCome t k old
      → ws ≡ writes_of t.plan.graph k
      → vs ≡ map (λ c. unwrap_or (cell_in w c) 0) ws → length new ≡ length old
      → held new ≡ with_values (held old) ws vs → HasCome t (k + 1) new
  done_comes w h below word old new ws vs come at copied wide put =
      let d = done_below (answers_of t) h.0 h.1 w h.2 k near below word in
      let each = (laws t ok).flow.values_each k d.values d.gives in
      let own : List ℕ = writes_of t.plan.graph k in
      let same = (numbers_same (cell_in w) own d.values each (λ i lt. d.filled i (omega arith))).0
      in
      let M : List ℕ → Type 0 = λ cs. vs ≡ map (λ c. unwrap_or (cell_in w c) 0) cs in
      let copied' : M own = subst M at copied in
      let vs-are : vs ≡ d.values = copied' ∙ sym same in
      comes old new d.values come d.gives wide
      (put ∙ (λ i. with_values (held old) (at i) (vs-are i)))

all_some : (list : List (Option ℕ))
    → ((i : ℕ) → i < length list → (x : ℕ) × (get_or list i None ≡ Some x))
    → map Some (map (λ o. unwrap_or o 0) list) ≡ list
all_some [] h = refl
all_some (o ∷ os) h =
    let here = h 0 (omega arith) in let r = all_some os (λ i lt. h (suc i) (omega arith)) in
    let first : Some (unwrap_or o 0) ≡ o = ap (λ (p : Option ℕ). Some (unwrap_or p 0)) here.1
    ∙ sym here.1 in
    (λ i. first i ∷ r i)

pub ends : (t : Task) → IsTask t → (list : List (Option ℕ)) (values : List ℕ)
    → HasCome t t.plan.graph.strands list
    → values ≡ map (λ o. unwrap_or o 0) list
    → IsOutcome t.plan.graph.cells (Done values) (one_thread t.plan t.start t.fuel)
ends t ok list values h is =
    let l = laws t ok in
    let full = all_some list (λ i lt. let f = l.filled h.give i (let e = h.shows.0 in
    omega arith) in (f.0, h.shows.1 i ∙ f.1)) in
    let same : map Some values ≡ list = ap (λ (vs : List ℕ). map Some vs) is ∙ full in
    let S : List (Option ℕ) → Type 0 =
    λ os. Shows t.plan.graph.cells os (cells_at t t.plan.graph.strands) in
    let O : Ending → Type 0 = IsOutcome t.plan.graph.cells (Done values) in
    subst O (sym (l.one_ends h.give)) (subst S (sym same) h.shows)
