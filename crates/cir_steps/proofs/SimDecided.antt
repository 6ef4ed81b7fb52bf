-- What a condition that isn't known left, in a run beside its step.
use Rattle.std.proofs.Common.{◌≡◌, ◌≢◌, ◌⊎◌, inl, inr, ℕ, zero, suc, ◌+◌, Bool, true, false, not}
use Rattle.std.proofs.Common.{cond, List, [], ◌∷◌, ◌++◌, map, length, Option, Some, None, Ok, refl}
use Rattle.std.proofs.Common.{sym, ap, subst, ◌∙◌, slice_get, slice_index, arith}
use Rattle.std.specs.Prelude.{unwrap_or, filter, nat_lt, ◌==◌, ◌||◌}
use Rattle.std.specs.List.{AllByRecursion, list_any}
use Rattle.std.proofs.lemmas.Bool.{eq-eqb}
use Rattle.cir_ast.specs.declared.program.Spot.{Spot}
use Rattle.cir_ast.specs.declared.program.Meant.{Meant}
use Rattle.cir_ast.specs.Tree.{Statement}
use Rattle.cir_meaning.specs.Tried.{Where, next}
use Rattle.cir_meaning.specs.Places.{numbers_from}
use Rattle.cir_meaning.specs.Arrays.{Datum, single, forgotten}
use Rattle.cir_meaning.specs.Values.{Known, Opaque}
use Rattle.cir_meaning.specs.Frame.{State, Context, at as place_at, variable_at, entry_at, is_fed}
use Rattle.cir_meaning.specs.Unknown.{Fault, declares, with_number, rising, writes, outer_assigned}
use Rattle.cir_meaning.specs.Scan.{forget_one, forget, undecided}
use Rattle.cir_meaning.specs.Steps.{undecided_cost}
use Rattle.cir_meaning.specs.RunValues.{Ran, Store, stored, gives}
use Rattle.cir_meaning.specs.RunStatements.{StepFlow, StepGoing, StepReturned, step_statement}
use Rattle.cir_meaning.specs.Run.{Wires, Run, stepping, store_of, environment, put_numbers}
use Rattle.cir_meaning.specs.RunSimple.{Runner}
use Rattle.cir_meaning.specs.RunBodies as run'
use Rattle.cir_meaning.specs.RunBodies.{store_in, taken}
use Rattle.cir_meaning.proofs.Good.{good_is}
use Rattle.cir_meaning.proofs.Likes.{CallKeeps}
use Rattle.cir_meaning.proofs.Fading.{IsOpaque}
use Rattle.cir_meaning.proofs.FineValues.{Fine}
use Rattle.cir_meaning.proofs.FineStatements.{undecided_fine}
use Rattle.cir_meaning.proofs.Rows.{all_map}
use Rattle.cir_meaning.proofs.Same.{Same, rows_count}
use Rattle.cir_meaning.proofs.ScopedQuiet.{everything}
use Rattle.cir_meaning.proofs.Settling.{settle_of, known_same, opaque_same, Variable, variable_of}
use Rattle.cir_meaning.proofs.Settling.{put_variables}
use Rattle.cir_meaning.proofs.UndecidedRuns.{variable_from, Behind, undecided_behind}
use Rattle.cir_steps.specs.Step.{Source, Cell, Step, Deciding}
use Rattle.cir_steps.specs.RunSteps.{Cells, Calling, environment_at, elements_of, Progress, written}
use Rattle.cir_steps.specs.Emission.{Emission, with_state, step_of}
use Rattle.cir_steps.specs.Making.{Caster, wanted_of, new_variables, count_of, with_variables}
use Rattle.cir_steps.specs.Making.{make_decision}
use Rattle.cir_steps.specs.Statements as emit'
use Rattle.cir_meaning.proofs.Reaching.{map_count}
use Rattle.cir_steps.proofs.InTurn.{range_count}
use Rattle.cir_steps.proofs.Templates.{IsPlain, Apart, AreApart}
use Rattle.cir_steps.proofs.Unless.{Unless, unless_next}
use Rattle.cir_steps.proofs.UnlessSteps.{statement_unless}
use Rattle.cir_steps.proofs.Alike.{AreFree, put_grows}
use Rattle.cir_steps.proofs.Related.{Nowhere, Knows, AllGive, Stored, Beside}
use Rattle.cir_steps.proofs.Simulation.{running, emitting, Sim, sim_same, sim_step, store_same}
use Rattle.cir_steps.proofs.Simulation.{richer_at}
use Rattle.cir_steps.proofs.SimSteps.{Placed, placed, unused, beside_grows}
use Rattle.cir_steps.proofs.Knowing.{IsSound}
use Rattle.cir_steps.proofs.Putting.{put_stored}
use Rattle.cir_steps.proofs.StepEnds.{on_is, FlowFits, statement_ends}

-- outer variables aren't declared in the statement
into_rising : (Q : ℕ → Type 0) (n : ℕ) (ns : List ℕ) → Q n → AllByRecursion Q ns
    → AllByRecursion Q (with_number n ns)
into_rising Q n [] q h = (q, tt)
into_rising Q n (m ∷ ms) q h = at (nat_lt n m) (n == m) (into_rising Q n ms q h.1)
  where
    at : (b c : Bool) → AllByRecursion Q (with_number n ms)
        → AllByRecursion Q (cond b (n ∷ (m ∷ ms)) (cond c (m ∷ ms) (m ∷ with_number n ms)))
    at true c g = (q, h)
    at false true g = h
    at false false g = (h.0, g)

pub all_rising : (Q : ℕ → Type 0) (ns : List ℕ) → AllByRecursion Q ns → AllByRecursion Q (rising ns)
all_rising Q [] h = tt
all_rising Q (n ∷ ns) h = into_rising Q n (rising ns) h.0 (all_rising Q ns h.1)

all_filter : (Q : ℕ → Type 0) (test : ℕ → Bool) (ns : List ℕ)
    → ((n : ℕ) → test n ≡ true → Q n) → AllByRecursion Q (filter test ns)
all_filter Q test [] h = tt
all_filter Q test (n ∷ ns) h = at (test n) refl (all_filter Q test ns h)
  where
    at : (b : Bool) → test n ≡ b → AllByRecursion Q (filter test ns)
        → AllByRecursion Q (cond b (n ∷ filter test ns) (filter test ns))
    at true e g = (h n e, g)
    at false e g = g

apart_from : (n : ℕ) (ns : List ℕ) → not (list_any (λ m. m == n) ns) ≡ true → Apart n ns
apart_from n [] h = tt
apart_from n (m ∷ ms) h = at (m == n) refl (list_any (λ i. i == n) ms) refl h (apart_from n ms)
  where
    at : (b : Bool) → (m == n) ≡ b → (c : Bool) → list_any (λ i. i == n) ms ≡ c
        → not (b || c) ≡ true → (not (list_any (λ i. i == n) ms) ≡ true → Apart n ms)
        → (n ≢ m) × Apart n ms
    at true e c f g go = cc
    at false e true f g go = cc
    at false e false f g go = (
      (λ same. let no : true ≡ false = sym (eq-eqb m n (sym same)) ∙ e in cc),
      go (ap not f),
    )

pub outer_apart : (a : Statement Spot Meant)
    → AllByRecursion (λ n. Apart n (declares a)) (outer_assigned a)
outer_apart a =
    all_rising (λ n. Apart n (declares a)) _
    (all_filter (λ n. Apart n (declares a)) (λ n. not (list_any (λ m. m == n) (declares a)))
    (writes a) (λ n. apart_from n (declares a)))

-- what is told of variables that may be assigned, and of those in the statement
forgotten_know : (ns : List ℕ) (new numbers : Store) (s : State)
    → Knows s.frame.variables numbers → Knows (forget ns s).frame.variables (taken ns new numbers)
forgotten_know [] new numbers s h = h
forgotten_know (n ∷ ns) new numbers s h =
    forgotten_know ns new (put_numbers n (stored new n) numbers) (forget_one n s)
    (put_variables Nowhere s.frame.variables numbers n (forgotten (variable_at s.frame n))
    (stored new n)
    (λ old there. opaque_same Nowhere (forgotten (variable_at s.frame n)) (Some (stored new n))
    (all_map (λ v. v ≡ Opaque) (λ v. Opaque) (variable_at s.frame n).items (λ v. refl))) h)

faded_know : (vs ws : List Datum) (numbers : Store) (m : ℕ) → Variable Nowhere vs numbers m
    → (unwrap_or (slice_get ws m) (single (Known 0)) ≡ unwrap_or (slice_get vs m)
    (single (Known 0))) ⊎ IsOpaque (unwrap_or (slice_get ws m) (single (Known 0)))
    → Variable Nowhere ws numbers m
faded_know vs ws numbers m h f = variable_from Nowhere ws numbers m (λ d there. at d there f)
  where
    is_d : (d : Datum) → slice_get ws m ≡ Some d
        → unwrap_or (slice_get ws m) (single (Known 0)) ≡ d
    is_d d there = ap (λ (o : Option Datum). unwrap_or o (single (Known 0))) there

    in_old : (o : Option Datum) → slice_get vs m ≡ o → (d : Datum)
        → d ≡ unwrap_or o (single (Known 0)) → Same Nowhere d (settle_of d (slice_get numbers m))
    in_old None e d same =
        subst (λ x. Same Nowhere x (settle_of x (slice_get numbers m))) (sym same)
        (known_same Nowhere (single (Known 0)) (slice_get numbers m) (refl, tt))
    in_old (Some x) e d same =
        subst (λ y. Same Nowhere y (settle_of y (slice_get numbers m))) (sym same)
        (variable_of Nowhere vs numbers m x e h)

    at : (d : Datum) → slice_get ws m ≡ Some d
        → (unwrap_or (slice_get ws m) (single (Known 0)) ≡ unwrap_or (slice_get vs m)
        (single (Known 0))) ⊎ IsOpaque (unwrap_or (slice_get ws m) (single (Known 0)))
        → Same Nowhere d (settle_of d (slice_get numbers m))
    at d there (inl e) = in_old (slice_get vs m) refl d (sym (is_d d there) ∙ e)
    at d there (inr o) =
        opaque_same Nowhere d (slice_get numbers m) (subst IsOpaque (is_d d there) o)

-- cells of a whole variable
range_gives : (cells : Cells) (ns : List ℕ) (first : ℕ)
    → Placed (numbers_from first (length ns)) ns cells
    → AllGive cells (map (λ c. Cell c) (numbers_from first (length ns))) ns
range_gives cells [] first h k = refl
range_gives cells (n ∷ ns) first h zero = h.0
range_gives cells (n ∷ ns) first h (suc k) = range_gives cells ns (first + 1) h.1 k

index_all : (xs ns : List ℕ) (first : ℕ) → ((k : ℕ) → slice_index xs (first + k) ≡ slice_index ns k)
    → map (slice_index xs) (numbers_from first (length ns)) ≡ ns
index_all xs [] first h = refl
index_all xs (n ∷ ns) first h =
    let same : first + 0 ≡ first = omega arith in
    ap (λ m. m ∷ map (slice_index xs) (numbers_from (first + 1) (length ns)))
    (ap (slice_index xs) (sym same) ∙ h 0)
    ∙ ap (λ ms. n ∷ ms) (index_all xs ns (first + 1) (λ k.
    let next : first + 1 + k ≡ first + suc k = omega arith in
    ap (slice_index xs) next ∙ h (suc k)))

placed_split : (first a b : ℕ) (xs ys : List ℕ) (cells : Cells) → length xs ≡ a
    → Placed (numbers_from first (a + b)) (xs ++ ys) cells
    → Placed (numbers_from first a) xs cells × Placed (numbers_from (first + a) b) ys cells
placed_split first zero b [] ys cells e h =
    let same : 0 + b ≡ b = omega arith in
    let start : first ≡ first + 0 = omega arith in (
      tt,
      subst (λ (m : ℕ). Placed (numbers_from m b) ys cells) start
          (subst (λ (m : ℕ). Placed (numbers_from first m) ys cells) same h),
    )
placed_split first zero b (x ∷ xs) ys cells e h = cc
placed_split first (suc a) b [] ys cells e h = cc
placed_split first (suc a) b (x ∷ xs) ys cells e h =
    let same : suc a + b ≡ suc (a + b) = omega arith in
    let all : Placed (numbers_from first (suc (a + b))) ((x ∷ xs) ++ ys) cells =
    subst (λ (m : ℕ). Placed (numbers_from first m) ((x ∷ xs) ++ ys) cells) same h in
    let rest : Placed (numbers_from (first + 1) a) xs cells
    × Placed (numbers_from (first + 1 + a) b) ys cells =
    placed_split (first + 1) a b xs ys cells
    (let less : suc (length xs) ≡ suc a = e in omega arith) all.1 in
    let place : first + 1 + a ≡ first + suc a = omega arith in
    ((all.0, rest.0), subst (λ (m : ℕ). Placed (numbers_from m b) ys cells) place rest.1)

wanted_stored : (cells : Cells) (new : Store) (s : State) (ns : List ℕ) (first : ℕ)
    (numbers : Store) (sources : List (List Source)) → Stored cells numbers sources
    → AllByRecursion (λ n. length (stored new n).items ≡ length (variable_at s.frame n).items) ns
    → Placed (numbers_from first (count_of (wanted_of ns s))) (elements_of new (wanted_of ns s))
    cells
    → Stored cells (taken ns new numbers) (new_variables (wanted_of ns s) first sources)
wanted_stored cells new s [] first numbers sources h same g = h
wanted_stored cells new s (n ∷ ns) first numbers sources h same g =
    wanted_stored cells new s ns (first + count) (put_numbers n (stored new n) numbers) _
    (put_stored cells numbers sources n (stored new n) _ h here) same.1 parts.1
  where
    count : ℕ
    count = length (variable_at s.frame n).items

    items : List ℕ
    items = (stored new n).items

    parts : Placed (numbers_from first count) (map (slice_index items) (numbers_from 0 count)) cells
        × Placed (numbers_from (first + count) (count_of (wanted_of ns s)))
        (elements_of new (wanted_of ns s)) cells
    parts =
        placed_split first count (count_of (wanted_of ns s))
        (map (slice_index items) (numbers_from 0 count)) (elements_of new (wanted_of ns s)) cells
        (map_count (slice_index items) (numbers_from 0 count) ∙ range_count 0 count) g

    all_items : map (slice_index items) (numbers_from 0 (length items)) ≡ items
    all_items =
        index_all items items 0 (λ k.
        let same : 0 + k ≡ k = omega arith in ap (slice_index items) same)

    whole : Placed (numbers_from first (length items)) items cells
    whole =
        subst (λ vs. Placed (numbers_from first (length items)) vs cells) all_items
        (subst (λ (m : ℕ). Placed (numbers_from first m)
        (map (slice_index items) (numbers_from 0 m)) cells) (sym same.0) parts.0)

    here : AllGive cells (map (λ c. Cell c) (numbers_from first count)) items
    here =
        subst (λ (m : ℕ). AllGive cells (map (λ c. Cell c) (numbers_from first m)) items) same.0
        (range_gives cells items first whole)

module _ (functions : ℕ) (k : Context) (keeps : CallKeeps k.call) (fuel : ℕ) (call : Calling)
    (body : Runner) (cast : Caster) (sound : IsSound functions k call) (spot : Spot)
    (fault : Option Fault) (a : Statement Spot Meant) (r : Run) (x : Emission)
    (plain : IsPlain a) where
  abbrev w : Where
  w = place_at k spot

  abbrev ns : List ℕ
  ns = outer_assigned a

  module _ (s : State) (is : undecided k spot fault a r.known ≡ Ok s) where
    behind : Behind ns r.known s
    behind =
        good_is (Behind ns r.known) (undecided k spot fault a r.known) s is
        (undecided_behind None (λ n k. None) record { world = r.known.world; size = 0 }
        (everything functions) (running k fuel call body cast) record {
          fine = sound.fine;
          both = sound.both;
          keeps = sound.keeps;
          calls = sound.calls;
          grows = sound.grows;
        } spot fault a r.known)

    abbrev ran : Ran StepFlow
    ran = step_statement (environment k w call s r) a (store_of r.known r.numbers) fuel

    abbrev values : StepFlow → List ℕ
    values flow =
        elements_of (store_in flow (store_of r.known r.numbers)) (wanted_of ns r.known)

    abbrev behind_run : StepFlow → Run
    behind_run flow =
        record r { known = s; numbers = taken ns (store_in flow r.numbers) r.numbers }

    abbrev behind_cells : Emission
    behind_cells = with_variables (wanted_of ns r.known) s (with_state r.known x)

    abbrev step : Step
    step =
        step_of k w s (undecided_cost k w a r.known s) (Deciding a (wanted_of ns r.known))
        (numbers_from x.next (count_of (wanted_of ns r.known))) None (with_state r.known x)

    -- the flow goes on, and each variable has as many numbers
    ends : (n : ℕ) → Apart n (declares a) → (flow : StepFlow) (u : ℕ) → ran ≡ Ok (flow, u)
        → FlowFits n (length (stored (store_of r.known r.numbers) n).items)
        (environment k w call s r) flow
    ends n apart flow u e =
        on_is (FlowFits n (length (stored (store_of r.known r.numbers) n).items)
        (environment k w call s r)) ran flow u
        (statement_ends n (length (stored (store_of r.known r.numbers) n).items)
        (environment k w call s r) a (store_of r.known r.numbers) fuel plain apart refl) e

    after_step : (final : Wires) (flow : StepFlow) (u : ℕ) → ran ≡ Ok (flow, u) → (p : Progress)
        → Beside call fuel body final r x p → AreApart step.targets → AreFree step.targets p.cells
        → Beside call fuel body final (behind_run flow) behind_cells
        (written step p (values flow))
    after_step final flow u e p h apart free = record {
      zero = up.zero;
      wired = up.wired;
      made = λ m d i there. up.made m d i (ap (λ xs. entry_at xs m) (sym behind.0.0) ∙ there);
      stored = stored_now flow e (placed step.targets (values flow) p.cells apart) up.stored;
      told = λ m. faded_know (forget ns r.known).frame.variables s.frame.variables
          (taken ns (store_in flow r.numbers) r.numbers) m
          (forgotten_know ns (store_in flow r.numbers) r.numbers r.known h.told m) (behind.1 m);
      fine = good_is Fine (undecided k spot fault a r.known) s is
          (undecided_fine k sound.fine spot fault a r.known h.fine);
      parts = λ j part there. up.parts j part (ap (λ ps. slice_get ps j) (sym behind.0.2)
          ∙ there);
      ports = up.ports;
      count = ap length behind.0.2 ∙ up.count;
      casts = up.casts;
      bodies = up.bodies;
      log = up.log;
    }
      where
        after : Progress
        after = written step p (values flow)

        up : Beside call fuel body final r x after
        up =
            beside_grows call fuel body (λ j part. is_fed part.signals) final r x p after
            (put_grows step.targets (values flow) p.cells free) refl h

        counts : (new : Store) → ran ≡ Ok (StepGoing new, u) → (ms : List ℕ)
            → AllByRecursion (λ n. Apart n (declares a)) ms
            → AllByRecursion (λ n. length (stored new n).items
            ≡ length (variable_at r.known.frame n).items) ms
        counts new e [] g = tt
        counts new e (n ∷ ms) g = (
          ends n g.0 (StepGoing new) u e ∙ rows_count Nowhere _ _ (h.told n).1,
          counts new e ms g.1,
        )

        stored_now : (flow : StepFlow) → ran ≡ Ok (flow, u)
            → Placed step.targets (values flow) after.cells
            → Stored after.cells r.numbers x.sources
            → Stored after.cells (taken ns (store_in flow r.numbers) r.numbers)
            (new_variables (wanted_of ns r.known) x.next x.sources)
        stored_now (StepGoing new) e g old =
            wanted_stored after.cells new r.known ns x.next r.numbers x.sources old
            (counts new e ns (outer_apart a)) g
        stored_now (StepReturned d) e g old = at ns (outer_apart a)
          where
            at : (ms : List ℕ) → AllByRecursion (λ n. Apart n (declares a)) ms
                → Stored after.cells (taken ms r.numbers r.numbers)
                (new_variables (wanted_of ms r.known) x.next x.sources)
            at [] g = old
            at (n ∷ ms) g = absurd (ends n g.0 (StepReturned d) u e)

    step_sim : Sim k fuel call body cast r x
        (next (stepping w r ran) (λ flow. Ok (behind_run flow)))
        (make_decision k w a s (with_state r.known x))
    step_sim =
        sim_step k fuel call body cast r x w ran values behind_run step behind_cells refl
        (λ n i c there. there)
        (λ final grows p h.
        subst (λ st. Unless (next ran (λ (flow, u). gives (values flow) u))
        (next (step_statement (environment_at call p.cells (environment k w unused s x.cells)) a st
        fuel) (λ (flow, u). gives (elements_of (store_in flow st) (wanted_of ns r.known)) u)))
        (sym (store_same k fuel call body cast final r x p h))
        (unless_next _ _ _ _ (statement_unless _ _
        (richer_at k fuel call body cast final r x p h grows w s behind.0.0 unused) a
        (store_of r.known r.numbers) fuel) (λ u. inr refl)))
        (λ final grows flow u e p h apart free.
        (refl, after_step final flow u e p h apart free))

  pub decided_sim : Sim k fuel call body cast r x
      (run'.run_undecided (running k fuel call body cast) spot fault a r)
      (emit'.emit_undecided (emitting k fuel call body cast) spot fault a (with_state r.known x))
  decided_sim =
      sim_same k fuel call body cast r x (undecided k spot fault a r.known) _ _
      (λ s is. step_sim s is)
