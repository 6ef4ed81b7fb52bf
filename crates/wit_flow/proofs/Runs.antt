-- Runs of steps: how many values they write, one step more, two runs behind one another, and runs
-- on cells that agree where the steps read
use Rattle.std.proofs.Common.{◌≡◌, ℕ, ◌+◌, ◌<◌, ◌≤◌, ◌⊎◌, List, [], ◌∷◌, ◌++◌, length, drop, refl}
use Rattle.std.proofs.Common.{sym, ◌∙◌, ap, subst, inl, inr, arith, append_assoc, length-append}
use Rattle.std.proofs.lemmas.List.{at_drop_more, at_drop_all}
use Rattle.wit_code.specs.declared.code.Proc.{Proc}
use Rattle.wit_code.specs.declared.code.Step.{Step}
use Rattle.wit_code.specs.declared.code.Stop.{Stop}
use Rattle.wit_code.specs.Table.{Outcome, Wrote, Stopped, outcome_of}
use Rattle.flow_core.specs.Counts.{IsIn}
use Rattle.wit_flow.specs.Cells.{Cells, with_values, numbers_at}
use Rattle.wit_flow.specs.Run.{no_step, step_at, reads_at, writes_at, writes_in, fitted, End, Ran}
use Rattle.wit_flow.specs.Run.{StopsAt, after_values, end_of, run_steps}
use Rattle.wit_flow.specs.OneThread.{Ending, Ended, Halted, ending}
use Rattle.wit_flow.proofs.Values.{HasOne, with_values_none, with_values-append, with_values_same}
use Rattle.wit_flow.proofs.Values.{with_values_has, with_values_keep, numbers_same}

pub length-fitted : (cs xs : List ℕ) → length (fitted cs xs) ≡ length cs
length-fitted [] xs = refl
length-fitted (c ∷ cs) [] = let r = length-fitted cs [] in omega arith
length-fitted (c ∷ cs) (x ∷ xs) = let r = length-fitted cs xs in omega arith

pub fitted_same : (cs xs : List ℕ) → length xs ≡ length cs → fitted cs xs ≡ xs
fitted_same [] [] e = refl
fitted_same [] (x ∷ xs) e = absurd (omega arith)
fitted_same (c ∷ cs) [] e = absurd (omega arith)
fitted_same (c ∷ cs) (x ∷ xs) e = ap (λ ys. x ∷ ys) (fitted_same cs xs (omega arith))

pub after_none : (e : End) → after_values [] e ≡ e
after_none (Ran ys) = refl
after_none (StopsAt n stop ys) = refl

pub after-append : (xs ys : List ℕ) (e : End) → after_values xs (after_values ys e)
    ≡ after_values (xs ++ ys) e
after-append xs ys (Ran zs) = ap Ran (sym (append_assoc xs ys zs))
after-append xs ys (StopsAt n stop zs) = ap (StopsAt n stop) (sym (append_assoc xs ys zs))

-- as many values as cells, or out more where a step stopped
abbrev pub Fills : ℕ → End → Type 0
Fills n (Ran xs) = length xs ≡ n
Fills n (StopsAt k stop xs) = length xs ≤ n

fills_after : (m n : ℕ) (xs : List ℕ) (e : End) → length xs ≡ m → Fills n e
    → Fills (m + n) (after_values xs e)
fills_after m n xs (Ran ys) l h = let a = length-append xs ys in omega arith
fills_after m n xs (StopsAt k stop ys) l h = let a = length-append xs ys in omega arith

pub ending_after : (a : Cells) (cs ds xs : List ℕ) (e : End) → length cs ≡ length xs
    → ending a (cs ++ ds) (after_values xs e) ≡ ending (with_values a cs xs) ds e
ending_after a cs ds xs (Ran ys) l = ap Ended (with_values-append a cs ds xs ys l)
ending_after a cs ds xs (StopsAt n stop ys) l =
    ap (Halted n stop) (with_values-append a cs ds xs ys l)

-- what follows a run that ended well
abbrev pub then_end : End → (List ℕ → End) → End
then_end (Ran xs) go = after_values xs (go xs)
then_end (StopsAt n stop xs) go = StopsAt n stop xs

-- cells that the steps read before they write them
abbrev pub Needs : ℕ → List Step → Type 0
Needs c [] = ⊥
Needs c (s ∷ ss) = IsIn c s.reads ⊎ ((IsIn c s.writes → ⊥) × Needs c ss)

module _ (procs : List Proc) (fuel : ℕ) where
  fills_out : (n : ℕ) (s : Step) (m : ℕ) (o : Outcome) (go : List ℕ → End)
      → ((ys : List ℕ) → Fills m (go ys))
      → Fills (length s.writes + m)
      (end_of o (λ ys. after_values (fitted s.writes ys) (go ys)) (λ stop. StopsAt n stop []))
  fills_out n s m (Wrote ys) go h =
      fills_after (length s.writes) m (fitted s.writes ys) (go ys) (length-fitted s.writes ys)
      (h ys)
  fills_out n s m (Stopped stop) go h = omega arith

  pub run_fills : (n : ℕ) (ss : List Step) (a : Cells)
      → Fills (length (writes_in ss)) (run_steps procs fuel n ss a)
  run_fills n [] a = refl
  run_fills n (s ∷ ss) a =
      let l : length (writes_in (s ∷ ss)) ≡ length s.writes + length (writes_in ss) =
      length-append s.writes (writes_in ss) in
      subst (λ k. Fills k (run_steps procs fuel n (s ∷ ss) a)) (sym l)
      (fills_out n s (length (writes_in ss)) (outcome_of procs s.code (numbers_at a s.reads) fuel)
      (λ ys. run_steps procs fuel (n + 1) ss (with_values a s.writes (fitted s.writes ys)))
      (λ ys. run_fills (n + 1) ss (with_values a s.writes (fitted s.writes ys))))

  -- steps run alike on cells that hold the same where the steps need it
  pub same_run : (n : ℕ) (ss : List Step) (a b : Cells) → ((c : ℕ) → Needs c ss → a c ≡ b c)
      → run_steps procs fuel n ss a ≡ run_steps procs fuel n ss b
  same_run n [] a b h = refl
  same_run n (s ∷ ss) a b h =
      let reads : numbers_at a s.reads ≡ numbers_at b s.reads =
      numbers_same a b s.reads (λ c here. h c (inl here)) in
      let rest : (ys : List ℕ)
      → run_steps procs fuel (n + 1) ss (with_values a s.writes (fitted s.writes ys))
      ≡ run_steps procs fuel (n + 1) ss (with_values b s.writes (fitted s.writes ys)) =
      λ ys. same_run (n + 1) ss (with_values a s.writes (fitted s.writes ys))
      (with_values b s.writes (fitted s.writes ys))
      (λ c needs. with_values_same a b s.writes (fitted s.writes ys) c
      (sym (length-fitted s.writes ys)) (λ out. h c (inr (out, needs)))) in
      λ i. end_of (outcome_of procs s.code (reads i) fuel)
      (λ ys. after_values (fitted s.writes ys) (rest ys i)) (λ stop. StopsAt n stop [])

  then_after : (xs : List ℕ) (e : End) (go go' : List ℕ → End)
      → ((ys : List ℕ) → go' ys ≡ go (xs ++ ys)) → then_end (after_values xs e) (λ ys. go ys)
      ≡ after_values xs (then_end e go')
  then_after xs (Ran ys) go go' h = sym (after-append xs ys (go (xs ++ ys)))
      ∙ ap (λ e. after_values xs (after_values ys e)) (sym (h ys))
  then_after xs (StopsAt n stop ys) go go' h = refl

  append_out : (n : ℕ) (s : Step) (o : Outcome) (first both : List ℕ → End) (go : List ℕ → End)
      → ((ys : List ℕ) → after_values (fitted s.writes ys) (both ys)
      ≡ then_end (after_values (fitted s.writes ys) (first ys)) go)
      → end_of o (λ ys. after_values (fitted s.writes ys) (both ys)) (λ stop. StopsAt n stop [])
      ≡ then_end
      (end_of o (λ ys. after_values (fitted s.writes ys) (first ys))
      (λ stop. StopsAt n stop [])) go
  append_out n s (Wrote ys) first both go h = h ys
  append_out n s (Stopped stop) first both go h = refl

  fits_then : (e : End) (n : ℕ) (go go' : List ℕ → End) → Fills n e
      → ((ys : List ℕ) → length ys ≡ n → go ys ≡ go' ys) → then_end e go ≡ then_end e go'
  fits_then (Ran ys) n go go' l h = ap (after_values ys) (h ys l)
  fits_then (StopsAt k stop ys) n go go' l h = refl

  -- two lists of steps run one after the other
  pub run-append : (n : ℕ) (ss ts : List Step) (a : Cells) → run_steps procs fuel n (ss ++ ts) a
      ≡ then_end (run_steps procs fuel n ss a)
      (λ xs. run_steps procs fuel (n + length ss) ts (with_values a (writes_in ss) xs))
  run-append n [] ts a =
      let z : n + 0 ≡ n = omega arith in
      sym (after_none (run_steps procs fuel (n + 0) ts a) ∙ ap (λ m. run_steps procs fuel m ts a) z)
  run-append n (s ∷ ss) ts a =
      append_out n s (outcome_of procs s.code (numbers_at a s.reads) fuel)
      (λ ys. run_steps procs fuel (n + 1) ss (with_values a s.writes (fitted s.writes ys)))
      (λ ys. run_steps procs fuel (n + 1) (ss ++ ts) (with_values a s.writes (fitted s.writes ys)))
      (λ xs. run_steps procs fuel (n + length (s ∷ ss)) ts (with_values a (writes_in (s ∷ ss)) xs))
      (λ ys. let v = fitted s.writes ys in let b = with_values a s.writes v in
      let go' : List ℕ → End =
      λ xs. run_steps procs fuel (n + 1 + length ss) ts (with_values b (writes_in ss) xs) in
      ap (after_values v) (run-append (n + 1) ss ts b)
      ∙ sym (then_after v (run_steps procs fuel (n + 1) ss b)
      (λ xs. run_steps procs fuel (n + length (s ∷ ss)) ts
      (with_values a (writes_in (s ∷ ss)) xs)) go'
      (λ xs. let m : n + 1 + length ss ≡ n + length (s ∷ ss) = omega arith in
      let w : with_values b (writes_in ss) xs ≡ with_values a (writes_in (s ∷ ss)) (v ++ xs) =
      sym (with_values-append a s.writes (writes_in ss) v xs
      (sym (length-fitted s.writes ys))) in
      λ i. run_steps procs fuel (m i) ts (w i))))

  -- the step i goes on
  pub step_goes : (i : ℕ) (steps : List Step) (a b : Cells) (ys : List ℕ) → i < length steps
      → outcome_of procs (step_at steps i).code (numbers_at a (reads_at steps i)) fuel ≡ Wrote ys
      → length ys ≡ length (writes_at steps i) → b ≡ with_values a (writes_at steps i) ys
      → ending a (writes_in (drop i steps)) (run_steps procs fuel i (drop i steps) a)
      ≡ ending b (writes_in (drop (i + 1) steps))
      (run_steps procs fuel (i + 1) (drop (i + 1) steps) b)
  step_goes i steps a b ys near o l e =
      let s = step_at steps i in let rest = drop (i + 1) steps in
      let fit = fitted_same s.writes ys l in
      at_drop_more (λ (ss : List Step). ending a (writes_in ss) (run_steps procs fuel i ss a)) steps
      i no_step near
      ∙ ap (λ (q : Outcome). ending a (s.writes ++ writes_in rest)
      (end_of q
      (λ zs. after_values (fitted s.writes zs)
      (run_steps procs fuel (i + 1) rest (with_values a s.writes (fitted s.writes zs))))
      (λ stop. StopsAt i stop []))) o
      ∙ ap (λ (zs : List ℕ). ending a (s.writes ++ writes_in rest)
      (after_values zs (run_steps procs fuel (i + 1) rest (with_values a s.writes zs)))) fit
      ∙ ending_after a s.writes (writes_in rest) ys
      (run_steps procs fuel (i + 1) rest (with_values a s.writes ys)) (sym l)
      ∙ ap (λ (d : Cells). ending d (writes_in rest) (run_steps procs fuel (i + 1) rest d)) (sym e)

  -- the step i stops
  pub step_stops : (i : ℕ) (steps : List Step) (a : Cells) (stop : Stop) → i < length steps
      → outcome_of procs (step_at steps i).code (numbers_at a (reads_at steps i)) fuel
      ≡ Stopped stop
      → ending a (writes_in (drop i steps)) (run_steps procs fuel i (drop i steps) a)
      ≡ Halted i stop a
  step_stops i steps a stop near o =
      let s = step_at steps i in let rest = drop (i + 1) steps in
      at_drop_more (λ (ss : List Step). ending a (writes_in ss) (run_steps procs fuel i ss a)) steps
      i no_step near
      ∙ ap (λ (q : Outcome). ending a (s.writes ++ writes_in rest)
      (end_of q
      (λ zs. after_values (fitted s.writes zs)
      (run_steps procs fuel (i + 1) rest (with_values a s.writes (fitted s.writes zs))))
      (λ t. StopsAt i t []))) o
      ∙ ap (Halted i stop) (with_values_none a (s.writes ++ writes_in rest))

  -- out step is left
  pub steps_end : (i : ℕ) (steps : List Step) (a : Cells) → length steps ≤ i
      → ending a (writes_in (drop i steps)) (run_steps procs fuel i (drop i steps) a) ≡ Ended a
  steps_end i steps a past =
      at_drop_all (λ (ss : List Step). ending a (writes_in ss) (run_steps procs fuel i ss a)) steps
      i past

cells_of : Ending → Cells → Cells
cells_of (Ended a) b = a
cells_of (Halted n stop a) b = b

-- where all steps ran, each cell that they write has a value, and each that had one has one
pub ended_has : (a : Cells) (cs : List ℕ) (e : End) (b : Cells) (c : ℕ) → Fills (length cs) e
    → ending a cs e ≡ Ended b → IsIn c cs ⊎ HasOne a c → HasOne b c
unfolding cells_of
ended_has a cs (Ran xs) b c l is h =
    let same : with_values a cs xs ≡ b = ap (λ (q : Ending). cells_of q b) is in
    subst (λ (d : Cells). HasOne d c) same
    (elim h [
      | inl here ↦ with_values_has a cs xs c (sym l) here
      | inr one ↦
          with_values_keep a cs xs c one
    ])
ended_has a cs (StopsAt n stop xs) b c l is h = absurd (halted is)
  where
    halted : Halted n stop (with_values a cs xs) ≡ Ended b → ⊥
    halted q = cc
