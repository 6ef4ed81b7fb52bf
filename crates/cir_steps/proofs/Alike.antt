-- A run beside steps: where the run ends, so do the steps, and where it stops for another cause
-- than a missing value, they stop alike.
use Rattle.std.proofs.Common.{◌≡◌, ◌≢◌, inl, inr, ℕ, Bool, cond, List, [], ◌∷◌, ◌++◌, Some, None}
use Rattle.std.proofs.Common.{Ok, Err, refl, sym, ap, subst, ◌∙◌}
use Rattle.std.specs.Prelude.{⊤}
use Rattle.std.proofs.lemmas.Bool.{eq-eqb, ne_eqb}
use Rattle.cir_meaning.specs.Tried.{Where, next}
use Rattle.cir_meaning.specs.RunValues.{Ran, missing, gives}
use Rattle.cir_meaning.specs.Run.{RunTried, Rejected, Stopped, Run, stepping}
use Rattle.cir_steps.specs.Step.{Step}
use Rattle.cir_steps.specs.RunSteps.{Cells, Calling, environment_at, store_at, work_numbers}
use Rattle.cir_steps.specs.RunSteps.{put_cell, put_cells, Progress, stopping, written, run_step}
use Rattle.cir_steps.specs.RunSteps.{run_steps}
use Rattle.cir_steps.proofs.Templates.{Apart, AreApart}
use Rattle.cir_steps.proofs.Unless.{Unless}

unfoldable pub Alike : {A : Type 0} → (A → Progress → Type 0) → RunTried A → RunTried Progress
    → Type 0
Alike Q (Ok a) s = (p : Progress) × (s ≡ Ok p) × Q a p
Alike Q (Err (Rejected e)) s = ⊤
Alike Q (Err (Stopped stop w log)) s = stop ≢ missing → s ≡ Err (Stopped stop w log)

pub alike_ok : {A : Type 0} (Q : A → Progress → Type 0) (a : A) (s : RunTried Progress)
    (p : Progress) → s ≡ Ok p → Q a p → Alike Q (Ok a) s
unfolding Alike
alike_ok Q a s p e h = (p, e, h)

pub alike_next : {A B : Type 0} (P : A → Progress → Type 0) (R : B → Progress → Type 0)
    (m : RunTried A) (s : RunTried Progress) (f : A → RunTried B)
    (g : Progress → RunTried Progress) → Alike P m s
    → ((a : A) (p : Progress) → s ≡ Ok p → P a p → Alike R (f a) (g p))
    → Alike R (next m f) (next s g)
unfolding Alike
alike_next P R (Ok a) s f g h i =
    subst (λ x. Alike R (f a) (next x g)) (sym h.1) (i a h.0 h.1 h.2)
alike_next P R (Err (Rejected e)) s f g h i = tt
alike_next P R (Err (Stopped stop w log)) s f g h i = λ ne. ap (λ x. next x g) (h ne)

pub alike_weaker : {A : Type 0} (P R : A → Progress → Type 0) (m : RunTried A)
    (s : RunTried Progress) → Alike P m s
    → ((a : A) (p : Progress) → s ≡ Ok p → P a p → R a p) → Alike R m s
unfolding Alike
alike_weaker P R (Ok a) s h i = (h.0, h.1, i a h.0 h.1 h.2)
alike_weaker P R (Err (Rejected e)) s h i = tt
alike_weaker P R (Err (Stopped stop w log)) s h i = h

pub alike_ends : {A B : Type 0} (P : A → Progress → Type 0) (R : B → Progress → Type 0)
    (m : RunTried A) (s : RunTried Progress) (f : A → B) → Alike P m s
    → ((a : A) (p : Progress) → s ≡ Ok p → P a p → R (f a) p)
    → Alike R (next m (λ a. Ok (f a))) s
unfolding Alike
alike_ends P R (Ok a) s f h i = (h.0, h.1, i a h.0 h.1 h.2)
alike_ends P R (Err (Rejected e)) s f h i = tt
alike_ends P R (Err (Stopped stop w log)) s f h i = h

-- where the run goes on to its end without a step
pub alike_then : {A B : Type 0} (P : A → Progress → Type 0) (R : B → Progress → Type 0)
    (m : RunTried A) (s : RunTried Progress) (f : A → RunTried B) → Alike P m s
    → ((a : A) (p : Progress) → s ≡ Ok p → P a p → (b : B) × (f a ≡ Ok b) × R b p)
    → Alike R (next m f) s
unfolding Alike
alike_then P R (Ok a) s f h i =
    let end : (b : _) × (f a ≡ Ok b) × R b h.0 = i a h.0 h.1 h.2 in
    subst (λ x. Alike R x s) (sym end.1) (h.0, h.1, end.2)
alike_then P R (Err (Rejected e)) s f h i = tt
alike_then P R (Err (Stopped stop w log)) s f h i = h

-- cells that have no number yet
abbrev pub AreFree : List ℕ → Cells → Type 0
AreFree [] cells = ⊤
AreFree (t ∷ ts) cells = (cells t ≡ None) × AreFree ts cells

abbrev pub Fresh : List Step → Cells → Type 0
Fresh [] cells = ⊤
Fresh (s ∷ ss) cells =
    AreApart s.targets × AreFree s.targets cells
    × ((values : List ℕ) → Fresh ss (put_cells s.targets values cells))

-- numbers that are there stay
abbrev pub Grows : Cells → Cells → Type 0
Grows old new = (c v : ℕ) → old c ≡ Some v → new c ≡ Some v

put_other : (t v c : ℕ) (cells : Cells) → t ≢ c → put_cell t v cells c ≡ cells c
put_other t v c cells ne = ap (λ (b : Bool). cond b (Some v) (cells c)) (ne_eqb t c ne)

pub put_here : (t v : ℕ) (cells : Cells) → put_cell t v cells t ≡ Some v
put_here t v cells = ap (λ (b : Bool). cond b (Some v) (cells t)) (eq-eqb t t refl)

-- a cell that isn't among the targets
pub put_aside : (ts values : List ℕ) (cells : Cells) (c : ℕ) → Apart c ts
    → put_cells ts values cells c ≡ cells c
put_aside [] values cells c h = refl
put_aside (t ∷ ts) [] cells c h = refl
put_aside (t ∷ ts) (v ∷ values) cells c h =
    put_aside ts values (put_cell t v cells) c h.1
    ∙ put_other t v c cells (λ e. h.0 (sym e))

filled_apart : (ts : List ℕ) (cells : Cells) (c v : ℕ) → AreFree ts cells → cells c ≡ Some v
    → Apart c ts
filled_apart [] cells c v h e = tt
filled_apart (t ∷ ts) cells c v h e = (
  (λ same. let no : Some v ≡ None = sym e ∙ ap cells same ∙ h.0 in cc),
  filled_apart ts cells c v h.1 e,
)

pub put_grows : (ts values : List ℕ) (cells : Cells) → AreFree ts cells
    → Grows cells (put_cells ts values cells)
put_grows ts values cells h c v e =
    put_aside ts values cells c (filled_apart ts cells c v h e) ∙ e

module _ (call : Calling) (fuel : ℕ) where
  pub run_more : (xs ys : List Step) (p : Progress)
      → run_steps call fuel (xs ++ ys) p
      ≡ next (run_steps call fuel xs p) (run_steps call fuel ys)
  run_more [] ys p = refl
  run_more (s ∷ xs) ys p = at (run_step call fuel s p) (run_more xs ys)
    where
      at : (m : RunTried Progress)
          → ((p : Progress) → run_steps call fuel (xs ++ ys) p
          ≡ next (run_steps call fuel xs p) (run_steps call fuel ys))
          → next m (run_steps call fuel (xs ++ ys))
          ≡ next (next m (run_steps call fuel xs)) (run_steps call fuel ys)
      at (Ok p) h = h p
      at (Err e) h = refl

  pub fresh_front : (xs ys : List Step) (cells : Cells) → Fresh (xs ++ ys) cells → Fresh xs cells
  fresh_front [] ys cells h = tt
  fresh_front (s ∷ xs) ys cells h = (h.0, h.1, λ values. fresh_front xs ys _ (h.2 values))

  -- the steps one by one
  ended_step : (s : Step) (p q : Progress) (m : RunTried (List ℕ))
      → next m (λ values. Ok (written s p values)) ≡ Ok q
      → (values : List ℕ) × (q ≡ written s p values)
  ended_step s p q (Ok values) e = (values, (let same : written s p values ≡ q = cc in sym same))
  ended_step s p q (Err f) e = cc

  pub fresh_back : (xs ys : List Step) (p q : Progress) → run_steps call fuel xs p ≡ Ok q
      → Fresh (xs ++ ys) p.cells → Fresh ys q.cells
  fresh_back [] ys p q e h =
      let same : p ≡ q = cc in subst (λ x. Fresh ys x.cells) same h
  fresh_back (s ∷ xs) ys p q e h = at (run_step call fuel s p) refl e (fresh_back xs ys)
    where
      at : (m : RunTried Progress) → run_step call fuel s p ≡ m
          → next m (run_steps call fuel xs) ≡ Ok q
          → ((p q : Progress) → run_steps call fuel xs p ≡ Ok q → Fresh (xs ++ ys) p.cells
          → Fresh ys q.cells) → Fresh ys q.cells
      at (Ok r) step rest go =
          let wrote : (values : List ℕ) × (r ≡ written s p values) = ended_step s p r _ step in
          go r q rest (subst (λ x. Fresh (xs ++ ys) x.cells) (sym wrote.1) (h.2 wrote.0))
      at (Err f) step rest go = cc

  pub steps_grow : (xs : List Step) (p q : Progress) → run_steps call fuel xs p ≡ Ok q
      → Fresh xs p.cells → Grows p.cells q.cells
  steps_grow [] p q e h c v there =
      let same : p ≡ q = cc in subst (λ x. x.cells c ≡ Some v) same there
  steps_grow (s ∷ xs) p q e h c v there =
      at (run_step call fuel s p) refl e (steps_grow xs)
    where
      at : (m : RunTried Progress) → run_step call fuel s p ≡ m
          → next m (run_steps call fuel xs) ≡ Ok q
          → ((p q : Progress) → run_steps call fuel xs p ≡ Ok q → Fresh xs p.cells
          → Grows p.cells q.cells) → q.cells c ≡ Some v
      at (Ok r) step rest go =
          let wrote : (values : List ℕ) × (r ≡ written s p values) = ended_step s p r _ step in
          go r q rest (subst (λ x. Fresh xs x.cells) (sym wrote.1) (h.2 wrote.0)) c v
          (subst (λ x. x.cells c ≡ Some v) (sym wrote.1)
          (put_grows s.targets wrote.0 p.cells h.1 c v there))
      at (Err f) step rest go = cc

  -- a step of the run, and one of the circuit, with others behind it
  pub alike_step : {A B : Type 0} (R : B → Progress → Type 0) (w : Where) (r : Run) (ran : Ran A)
      (f : A → List ℕ) (go : A → RunTried B) (step : Step) (ss : List Step) (p : Progress)
      → step.place ≡ w → p.log ≡ r.log
      → Unless (next ran (λ (a, u). gives (f a) u)) (work_numbers (environment_at call p.cells
      step.names) (store_at p.cells step.variables) step.work fuel)
      → ((a : A) (u : ℕ) → ran ≡ Ok (a, u)
      → Alike R (go a) (run_steps call fuel ss (written step p (f a))))
      → Alike R (next (stepping w r ran) go) (run_steps call fuel (step ∷ ss) p)
  unfolding Alike
  alike_step R w r (Ok (a, u)) f go step ss p place log (inl lost) i = cc
  alike_step R w r (Ok (a, u)) f go step ss p place log (inr e) i =
      subst (λ n. Alike R (go a) (next (next (stopping step p.log n)
      (λ values. Ok (written step p values))) (run_steps call fuel ss))) e (i a u refl)
  alike_step R w r (Err stop) f go step ss p place log (inl lost) i =
      λ ne. (let same : stop ≡ missing = cc in absurd (ne same))
  alike_step R w r (Err stop) f go step ss p place log (inr e) i =
      λ ne. ap (λ n. next (next (stopping step p.log n)
      (λ values. Ok (written step p values))) (run_steps call fuel ss)) (sym e)
      ∙ ap (λ x. Err (Stopped stop x p.log)) place ∙ ap (λ x. Err (Stopped stop w x)) log
