-- Log lines of a run beside their steps.
use Rattle.std.proofs.Common.{◌≡◌, inr, ℕ, suc, ◌+◌, cond, List, [], ◌∷◌, ◌++◌, map, length, Some}
use Rattle.std.proofs.Common.{Ok, Err, refl, sym, ap, subst, ◌∙◌, unwrap_or, arith}
use Rattle.std.specs.Prelude.{fold}
use Rattle.std.specs.Fmt.{decimal}
use Rattle.cir_ast.specs.declared.program.Meant.{Meant}
use Rattle.cir_ast.specs.Tree.{LogArgument, Words, LogValue}
use Rattle.cir_meaning.specs.Tried.{Where, next}
use Rattle.cir_meaning.specs.Places.{numbers_from}
use Rattle.cir_meaning.specs.Frame.{State, Context, is_fed}
use Rattle.cir_meaning.specs.Steps.{log_cost, is_value, logged_cells}
use Rattle.cir_meaning.specs.Statement.{log_values}
use Rattle.cir_meaning.specs.RunValues.{Ran, Numbers, Environment, Store, gives, number, number_in}
use Rattle.cir_meaning.specs.RunValues.{the_number}
use Rattle.cir_meaning.specs.Run.{Wires, Run, stepping, environment, store_of}
use Rattle.cir_meaning.specs.RunSimple.{Runner}
use Rattle.cir_meaning.specs.RunBodies as run'
use Rattle.cir_meaning.specs.RunBodies.{log_words, log_line}
use Rattle.cir_meaning.proofs.Good.{good_is}
use Rattle.cir_meaning.proofs.Likes.{CallKeeps}
use Rattle.cir_steps.specs.Step.{Logging, Step}
use Rattle.cir_steps.specs.RunSteps.{Cells, Calling, environment_at, log_numbers, put_cells}
use Rattle.cir_steps.specs.RunSteps.{part_text, Progress, written}
use Rattle.cir_steps.specs.Emission.{Emission, with_state, step_of}
use Rattle.cir_steps.specs.Making.{Caster, made, log_parts}
use Rattle.cir_steps.specs.Statements as emit'
use Rattle.cir_steps.proofs.Templates.{AreApart}
use Rattle.cir_steps.proofs.Unless.{Unless, unless_next, unless_number, value_unless, Richer}
use Rattle.cir_steps.proofs.Alike.{AreFree, put_grows}
use Rattle.cir_steps.proofs.Related.{Beside, Related}
use Rattle.cir_steps.proofs.Simulation.{Calm, running, emitting, Sim, beside_calm, sim_same}
use Rattle.cir_steps.proofs.Simulation.{sim_step, store_same, richer_at}
use Rattle.cir_steps.proofs.Calming.{log_calm}
use Rattle.cir_steps.proofs.SimSteps.{Placed, placed, unused, beside_grows}

-- how many values a line has
abbrev values_in : List (LogArgument Meant) → ℕ
values_in [] = 0
values_in (Words text ∷ rest) = values_in rest
values_in (LogValue e ∷ rest) = suc (values_in rest)

counted : (a : ℕ) (arguments : List (LogArgument Meant))
    → fold (λ n x. n + cond (is_value x) 1 0) a arguments ≡ a + values_in arguments
counted a [] = omega arith
counted a (Words text ∷ rest) =
    let number : a + 0 ≡ a = omega arith in
    ap (λ (n : ℕ). fold (λ n x. n + cond (is_value x) 1 0) n rest) number ∙ counted a rest
counted a (LogValue e ∷ rest) =
    let rest_is : fold (λ n x. n + cond (is_value x) 1 0) (a + 1) rest ≡ a + 1 + values_in rest =
    counted (a + 1) rest in
    let number : a + 1 + values_in rest ≡ a + suc (values_in rest) = omega arith in
    rest_is ∙ number

cells_are : (arguments : List (LogArgument Meant)) → logged_cells arguments ≡ values_in arguments
cells_are arguments =
    let number : 0 + values_in arguments ≡ values_in arguments = omega arith in
    counted 0 arguments ∙ number

front_is : (n : ℕ) (ms ns : List ℕ) (w v : ℕ)
    → ◌≡◌ {A = Ran (List ℕ)} (Ok (n ∷ ms, w)) (Ok (ns, v)) → n ∷ ms ≡ ns
front_is n ms ns w v e =
    let both : (n ∷ ms, w) ≡ (ns, v) = cc in ap (λ (x : List ℕ × ℕ). x.0) both

-- the words of a line, by the numbers of its values
abbrev words_of : List (LogArgument Meant) → List ℕ → List (List ℕ)
words_of [] ns = []
words_of (Words text ∷ rest) ns = text ∷ words_of rest ns
words_of (LogValue e ∷ rest) [] = decimal 0 ∷ words_of rest []
words_of (LogValue e ∷ rest) (n ∷ ns) = decimal n ∷ words_of rest ns

module _ (env : Environment) (store : Store) where
  words_are : (arguments : List (LogArgument Meant)) (u : ℕ)
      → log_words env store arguments u
      ≡ next (log_numbers env store arguments u) (λ (ns, v). gives (words_of arguments ns) v)
  words_are [] u = refl
  words_are (Words text ∷ rest) u =
      ap (λ m. next m (λ (ws, u1). gives (text ∷ ws) u1)) (words_are rest u)
      ∙ at (log_numbers env store rest u)
    where
      at : (m : Ran (List ℕ))
          → next (next m (λ (ns, v). gives (words_of rest ns) v)) (λ (ws, u1). gives (text ∷ ws) u1)
          ≡ next m (λ (ns, v). gives (text ∷ words_of rest ns) v)
      at (Ok (ns, v)) = refl
      at (Err stop) = refl
  words_are (LogValue e ∷ rest) u = at (number_in env store e u) (words_are rest)
    where
      at : (m : Ran Numbers)
          → ((v : ℕ) → log_words env store rest v
          ≡ next (log_numbers env store rest v) (λ (ns, v). gives (words_of rest ns) v))
          → number m (λ n u1. next (log_words env store rest u1)
          (λ (ws, u2). gives (decimal n ∷ ws) u2))
          ≡ next (number m (λ n u1. next (log_numbers env store rest u1)
          (λ (ns, u2). gives (n ∷ ns) u2))) (λ (ns, v). gives (words_of (LogValue e ∷ rest) ns) v)
      at (Err stop) h = refl
      at (Ok (d, u1)) h =
          ap (λ m. next m (λ (ws, u2). gives (decimal (the_number d) ∷ ws) u2)) (h u1)
          ∙ both (log_numbers env store rest u1)
        where
          both : (m : Ran (List ℕ))
              → next (next m (λ (ns, v). gives (words_of rest ns) v))
              (λ (ws, u2). gives (decimal (the_number d) ∷ ws) u2)
              ≡ next (next m (λ (ns, u2). gives (the_number d ∷ ns) u2))
              (λ (ns, v). gives (words_of (LogValue e ∷ rest) ns) v)
          both (Ok (ns, v)) = refl
          both (Err stop) = refl

  numbers_count : (arguments : List (LogArgument Meant)) (u : ℕ) (ns : List ℕ) (v : ℕ)
      → log_numbers env store arguments u ≡ Ok (ns, v) → length ns ≡ values_in arguments
  numbers_count [] u ns v e =
      let both : ([], u) ≡ (ns, v) = cc in
      sym (ap (λ (x : List ℕ × ℕ). length x.0) both)
  numbers_count (Words text ∷ rest) u ns v e = numbers_count rest u ns v e
  numbers_count (LogValue a ∷ rest) u ns v e =
      at (number_in env store a u) e (numbers_count rest)
    where
      at : (m : Ran Numbers)
          → number m (λ n u1. next (log_numbers env store rest u1)
          (λ (ns, u2). gives (n ∷ ns) u2)) ≡ Ok (ns, v)
          → ((u : ℕ) (ns : List ℕ) (v : ℕ) → log_numbers env store rest u ≡ Ok (ns, v)
          → length ns ≡ values_in rest)
          → length ns ≡ values_in (LogValue a ∷ rest)
      at (Err stop) h go = cc
      at (Ok (d, u1)) h go = both (log_numbers env store rest u1) refl h
        where
          both : (m : Ran (List ℕ)) → log_numbers env store rest u1 ≡ m
              → next m (λ (ns, u2). gives (the_number d ∷ ns) u2) ≡ Ok (ns, v)
              → length ns ≡ values_in (LogValue a ∷ rest)
          both (Err stop) is h = cc
          both (Ok (ms, w)) is h =
              let count : length ms ≡ values_in rest = go u1 ms w is in
              let same : the_number d ∷ ms ≡ ns = front_is (the_number d) ms ns w v h in
              let all : length ns ≡ suc (length ms) = ap length (sym same) in
              omega arith

module _ (env other : Environment) (store : Store) (richer : Richer env other) where
  numbers_unless : (arguments : List (LogArgument Meant)) (u : ℕ)
      → Unless (log_numbers env store arguments u) (log_numbers other store arguments u)
  numbers_unless [] u = inr refl
  numbers_unless (Words text ∷ rest) u = numbers_unless rest u
  numbers_unless (LogValue e ∷ rest) u =
      unless_number (number_in env store e u) (number_in other store e u) _ _
      (value_unless env other store richer e u) (λ n u1.
      unless_next (log_numbers env store rest u1) (log_numbers other store rest u1)
      (λ x. gives (n ∷ x.0) x.1) (λ x. gives (n ∷ x.0) x.1) (numbers_unless rest u1)
      (λ x. inr refl))

-- what is written in a line
texts_are : (arguments : List (LogArgument Meant)) (first : ℕ) (ns : List ℕ) (cells : Cells)
    → length ns ≡ values_in arguments
    → Placed (numbers_from first (values_in arguments)) ns cells
    → map (part_text cells) (log_parts first arguments) ≡ words_of arguments ns
texts_are [] first ns cells h g = refl
texts_are (Words text ∷ rest) first ns cells h g =
    ap (λ ws. text ∷ ws) (texts_are rest first ns cells h g)
texts_are (LogValue e ∷ rest) first [] cells h g =
    absurd (let none : 0 ≡ suc (values_in rest) = h in omega arith)
texts_are (LogValue e ∷ rest) first (n ∷ ns) cells h g =
    ap (λ o. decimal (unwrap_or o 0) ∷ map (part_text cells) (log_parts (first + 1) rest)) g.0
    ∙ ap (λ ws. decimal n ∷ ws) (texts_are rest (first + 1) ns cells
    (let all : suc (length ns) ≡ suc (values_in rest) = h in omega arith) g.1)

gives_same : {A : Type 0} (ran : Ran A) → next ran (λ (a, u). gives a u) ≡ ran
gives_same (Ok (a, u)) = refl
gives_same (Err stop) = refl

stepping_next : {A B : Type 0} (w : Where) (r : Run) (ran : Ran A) (h : A → B) (go : B → Run)
    → next (stepping w r (next ran (λ (a, u). gives (h a) u))) (λ b. Ok (go b))
    ≡ next (stepping w r ran) (λ a. Ok (go (h a)))
stepping_next w r (Ok (a, u)) h go = refl
stepping_next w r (Err stop) h go = refl

module _ (k : Context) (keeps : CallKeeps k.call) (fuel : ℕ) (call : Calling) (body : Runner)
    (cast : Caster) where
  module _ (w : Where) (arguments : List (LogArgument Meant)) (r : Run) (x : Emission)
      (s : State) (calm : Calm r.known s) where
    abbrev behind_run : List ℕ → Run
    behind_run ns =
        record r { known = s; log = r.log ++ log_line (words_of arguments ns) ∷ [] }

    abbrev behind_cells : Emission
    behind_cells = record (with_state s x) { next = x.next + logged_cells arguments }

    abbrev line : Step
    line =
        step_of k w r.known (log_cost k w arguments r.known) (Logging arguments)
        (numbers_from x.next (logged_cells arguments)) (Some (log_parts x.next arguments))
        (with_state r.known x)

    after_line : (final : Wires) (ns : List ℕ) (p : Progress)
        → length ns ≡ values_in arguments → Beside call fuel body final r x p
        → AreApart line.targets → AreFree line.targets p.cells
        → Beside call fuel body final (behind_run ns) behind_cells (written line p ns)
    after_line final ns p count b apart free = record {
      zero = after.zero;
      wired = after.wired;
      made = after.made;
      stored = after.stored;
      told = after.told;
      fine = after.fine;
      parts = after.parts;
      ports = after.ports;
      count = after.count;
      casts = after.casts;
      bodies = after.bodies;
      log = ap (λ l. l ++ log_line (map (part_text cells) (log_parts x.next arguments)) ∷ []) b.log
          ∙ ap (λ ws. r.log ++ log_line ws ∷ [])
          (texts_are arguments x.next ns cells count
          (subst (λ (n : ℕ). Placed (numbers_from x.next n) ns cells) (cells_are arguments)
          (placed line.targets ns p.cells apart)));
    }
      where
        cells : Cells
        cells = put_cells (numbers_from x.next (logged_cells arguments)) ns p.cells

        after : Related call fuel body (λ j part. is_fed part.signals) final s r.numbers r.own
            r.parts r.log x.cells.own x.sources x.cells.parts x.bodies
            record { cells = cells; log = p.log }
        after =
            beside_calm k fuel call body cast final r x record { cells = cells; log = p.log } s calm
            (beside_grows call fuel body (λ j part. is_fed part.signals) final r x p
            record { cells = cells; log = p.log }
            (put_grows (numbers_from x.next (logged_cells arguments)) ns p.cells free) refl b)

    line_sim : Sim k fuel call body cast r x
        (next (stepping w r (log_numbers (environment k w call r.known r)
        (store_of r.known r.numbers) arguments fuel)) (λ ns. Ok (behind_run ns)))
        (made line behind_cells)
    line_sim =
        sim_step k fuel call body cast r x w
        (log_numbers (environment k w call r.known r) (store_of r.known r.numbers) arguments fuel)
        (λ ns. ns) behind_run line behind_cells refl (λ n i c there. there)
        (λ final grows p h.
        subst (λ st. Unless (next (log_numbers (environment k w call r.known r)
        (store_of r.known r.numbers) arguments fuel) (λ (a, u). gives a u))
        (log_numbers (environment_at call p.cells (environment k w unused r.known x.cells)) st
        arguments fuel)) (sym (store_same k fuel call body cast final r x p h))
        (subst (λ m. Unless m (log_numbers (environment_at call p.cells
        (environment k w unused r.known x.cells)) (store_of r.known r.numbers) arguments fuel))
        (sym (gives_same (log_numbers (environment k w call r.known r)
        (store_of r.known r.numbers) arguments fuel)))
        (numbers_unless (environment k w call r.known r) (environment_at call p.cells
        (environment k w unused r.known x.cells)) (store_of r.known r.numbers)
        (richer_at k fuel call body cast final r x p h grows w r.known refl unused) arguments
        fuel)))
        (λ final grows ns u ran p h apart free. (
          refl,
          after_line final ns p (numbers_count (environment k w call r.known r)
              (store_of r.known r.numbers) arguments fuel ns u ran) h apart free,
        ))

  pub logged_sim : (w : Where) (arguments : List (LogArgument Meant)) (r : Run) (x : Emission)
      → Sim k fuel call body cast r x
      (run'.run_log (running k fuel call body cast) w arguments r)
      (emit'.emit_log (emitting k fuel call body cast) w arguments (with_state r.known x))
  logged_sim w arguments r x =
      sim_same k fuel call body cast r x (log_values k w arguments r.known) _ _ (λ s is.
      subst (λ m. Sim k fuel call body cast r x m (made
      (line w arguments r x s (calm s is)) (behind_cells w arguments r x s (calm s is))))
      (sym (ap (λ m. next (stepping w r m) (λ words.
      Ok record r { known = s; log = r.log ++ log_line words ∷ [] }))
      (words_are (environment k w call r.known r) (store_of r.known r.numbers) arguments fuel)
      ∙ stepping_next w r (log_numbers (environment k w call r.known r)
      (store_of r.known r.numbers) arguments fuel) (words_of arguments)
      (λ words. record r { known = s; log = r.log ++ log_line words ∷ [] })))
      (line_sim w arguments r x s (calm s is)))
    where
      calm : (s : State) → log_values k w arguments r.known ≡ Ok s → Calm r.known s
      calm s is =
          good_is (Calm r.known) (log_values k w arguments r.known) s is
          (log_calm k keeps w arguments r.known)
