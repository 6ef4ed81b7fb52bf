-- A statement whose condition isn't known, in a run: what holds behind it, where its step misses no
-- value.
use Rattle.std.proofs.Common.{◌≡◌, ◌⊎◌, inl, inr, ℕ, zero, suc, List, [], ◌∷◌, Option, Some, None}
use Rattle.std.proofs.Common.{Ok, refl, sym, ap, subst, ◌∙◌, slice_get}
use Rattle.std.specs.Prelude.{unwrap_or}
use Rattle.cir_ast.specs.declared.program.Spot.{Spot}
use Rattle.cir_ast.specs.declared.program.Meant.{Meant}
use Rattle.cir_ast.specs.Tree.{Statement}
use Rattle.cir_lc.specs.Number.{Assignment}
use Rattle.cir_meaning.specs.Scoped.{Scope}
use Rattle.cir_meaning.specs.Tried.{Where}
use Rattle.cir_meaning.specs.Arrays.{Datum, single, forgotten}
use Rattle.cir_meaning.specs.Values.{Known, Opaque}
use Rattle.cir_meaning.specs.Frame.{Signals, Part, ComponentEntry, World, State, Maker, at, settle}
use Rattle.cir_meaning.specs.Frame.{variable_at}
use Rattle.cir_meaning.specs.Unknown.{Fault, outer_assigned}
use Rattle.cir_meaning.specs.Scan.{forget_one, forget, scan, undecided}
use Rattle.cir_meaning.specs.Steps.{stepped, undecided_cost, undecided_cells}
use Rattle.cir_meaning.specs.RunValues.{Store, stored}
use Rattle.cir_meaning.specs.RunStatements.{step_statement}
use Rattle.cir_meaning.specs.Run.{Wires, Run, store_of, environment, put_numbers}
use Rattle.cir_meaning.specs.RunSimple.{Running}
use Rattle.cir_meaning.specs.RunBodies.{store_in, taken, run_undecided}
use Rattle.cir_meaning.proofs.Good.{OnGood, good_ok, good_bad, good_next, good_on, good_is}
use Rattle.cir_meaning.proofs.Pairs.{good_both}
use Rattle.cir_meaning.proofs.FineValues.{Fine}
use Rattle.cir_meaning.proofs.FineStatements.{undecided_fine}
use Rattle.cir_meaning.proofs.Rows.{all_map}
use Rattle.cir_meaning.proofs.Same.{Same}
use Rattle.cir_meaning.proofs.RunFree.{NoMiss, Any}
use Rattle.cir_meaning.proofs.Fading.{IsOpaque, Faded, scan_faded, Rest, scan_rest}
use Rattle.cir_meaning.proofs.Holds.{Extends}
use Rattle.cir_meaning.proofs.Settling.{settle_of, known_same, opaque_same, Variable, variable_of}
use Rattle.cir_meaning.proofs.Settling.{put_variables}
use Rattle.cir_meaning.proofs.Goes.{Goes, goes_ok, goes_refusing, goes_step}
use Rattle.cir_meaning.proofs.Standing.{Stands, changed, stands_changed, Start}
use Rattle.cir_meaning.proofs.VariableRuns.{Soundly, IsAdded, stepped_adds, After}

-- the numbers of a variable, by what it is
pub variable_from : (E : Assignment → Type 0) (vs : List Datum) (ms : Store) (n : ℕ)
    → ((d : Datum) → slice_get vs n ≡ Some d → Same E d (settle_of d (slice_get ms n)))
    → Variable E vs ms n
variable_from E [] ms n h = (refl, (refl, tt))
variable_from E (v ∷ vs) [] zero h = h v refl
variable_from E (v ∷ vs) (m ∷ ms) zero h = h v refl
variable_from E (v ∷ vs) [] (suc n) h = variable_from E vs [] n h
variable_from E (v ∷ vs) (m ∷ ms) (suc n) h = variable_from E vs ms n h

-- variables that a statement may assign are opaque, whatever their numbers are
forgotten_variables : (E : Assignment → Type 0) (ns : List ℕ) (new ms : Store) (s : State)
    → ((m : ℕ) → Variable E s.frame.variables ms m)
    → (m : ℕ) → Variable E (forget ns s).frame.variables (taken ns new ms) m
forgotten_variables E [] new ms s h = h
forgotten_variables E (n ∷ ns) new ms s h =
    forgotten_variables E ns new (put_numbers n (stored new n) ms) (forget_one n s)
    (put_variables E s.frame.variables ms n (forgotten (variable_at s.frame n)) (stored new n)
    (λ old there. opaque_same E (forgotten (variable_at s.frame n)) (Some (stored new n))
    (all_map (λ v. v ≡ Opaque) (λ v. Opaque) (variable_at s.frame n).items (λ v. refl))) h)

-- a variable that a scan leaves as it is, or opaque
faded_variable : (E : Assignment → Type 0) (vs ws : List Datum) (ms : Store) (m : ℕ)
    → Variable E vs ms m
    → (unwrap_or (slice_get ws m) (single (Known 0)) ≡ unwrap_or (slice_get vs m)
    (single (Known 0))) ⊎ IsOpaque (unwrap_or (slice_get ws m) (single (Known 0)))
    → Variable E ws ms m
faded_variable E vs ws ms m h f =
    variable_from E ws ms m (λ d there. at d there f)
  where
    is_d : (d : Datum) → slice_get ws m ≡ Some d
        → unwrap_or (slice_get ws m) (single (Known 0)) ≡ d
    is_d d there = ap (λ (o : Option Datum). unwrap_or o (single (Known 0))) there

    in_old : (o : Option Datum) → slice_get vs m ≡ o → (d : Datum)
        → d ≡ unwrap_or o (single (Known 0)) → Same E d (settle_of d (slice_get ms m))
    in_old None e d same =
        subst (λ x. Same E x (settle_of x (slice_get ms m))) (sym same)
        (known_same E (single (Known 0)) (slice_get ms m) (refl, tt))
    in_old (Some x) e d same =
        subst (λ y. Same E y (settle_of y (slice_get ms m))) (sym same)
        (variable_of E vs ms m x e h)

    at : (d : Datum) → slice_get ws m ≡ Some d
        → (unwrap_or (slice_get ws m) (single (Known 0)) ≡ unwrap_or (slice_get vs m)
        (single (Known 0))) ⊎ IsOpaque (unwrap_or (slice_get ws m) (single (Known 0)))
        → Same E d (settle_of d (slice_get ms m))
    at d there (inl e) = in_old (slice_get vs m) refl d (sym (is_d d there) ∙ e)
    at d there (inr o) = opaque_same E d (slice_get ms m) (subst IsOpaque (is_d d there) o)

-- the state behind
pub forget_rest : (ns : List ℕ) (f s : State) → Rest f s → Rest f (forget ns s)
forget_rest [] f s h = h
forget_rest (n ∷ ns) f s h = forget_rest ns f (forget_one n s) h

abbrev pub Behind : List ℕ → State → State → Type 0
Behind ns f s = Rest f s × Faded (forget ns f).frame.variables s

behind_added : (ns : List ℕ) (f s t : State) → Behind ns f s → IsAdded s t → Behind ns f t
behind_added ns f s t h i = subst (Behind ns f) (sym i.1) h

behind_settled : (ns : List ℕ) (f : State) (w : Where) (s : State) → Behind ns f s
    → OnGood (Behind ns f) (settle w s)
behind_settled ns f w s h =
    good_on (Behind ns f) _ _ (λ c. good_ok (Behind ns f) _ (
      (
        h.0.0,
        h.0.1,
        h.0.2,
        ap (λ (v : World). record v { counts = record c { elements = 0 } })
            h.0.3,
      ),
      h.1,
    ))

pub rest_changed : (f s : State) → Rest f s
    → s ≡ changed f s.frame.variables s.frame.added s.world.counts
rest_changed f s l =
    ap (λ (x : Signals). whole x s.frame.components s.frame.parts s.world) l.0
    ∙ ap (λ (x : List (Option ComponentEntry)). whole f.frame.signals x s.frame.parts s.world) l.1
    ∙ ap (λ (x : List Part). whole f.frame.signals f.frame.components x s.world) l.2
    ∙ ap (λ (v : World). whole f.frame.signals f.frame.components f.frame.parts v) l.3
  where
    whole : Signals → List (Option ComponentEntry) → List Part → World → State
    whole signals components parts world = record {
      frame = record {
        variables = s.frame.variables;
        signals = signals;
        components = components;
        parts = parts;
        added = s.frame.added;
      };
      world = world;
    }

module _ (make : Option Maker) (given : Wires) (start : Start) (scope : Scope) (q : Running)
    (sound : Soundly scope q) where
  abbrev Then : State → Run → Type 0
  Then = After make given start scope q sound

  pub undecided_behind : (spot : Spot) (fault : Option Fault) (a : Statement Spot Meant) (s : State)
      → OnGood (Behind (outer_assigned a) s) (undecided q.context spot fault a s)
  undecided_behind spot (Some x) a s = good_bad (Behind (outer_assigned a) s) _
  undecided_behind spot None a s =
      good_next (Behind (outer_assigned a) s) (Behind (outer_assigned a) s)
      (scan q.context (at q.context spot) a (forget (outer_assigned a) s)) _
      (good_both (Rest s) (Faded (forget (outer_assigned a) s).frame.variables)
      (scan q.context (at q.context spot) a (forget (outer_assigned a) s))
      (scan_rest s q.context sound.keeps (at q.context spot) a (forget (outer_assigned a) s)
      (forget_rest (outer_assigned a) s s (refl, refl, refl, refl)))
      (scan_faded (forget (outer_assigned a) s).frame.variables q.context sound.keeps
      (at q.context spot) a (forget (outer_assigned a) s) (λ n. inl refl))) (λ s1 h.
      good_next (IsAdded s1) (Behind (outer_assigned a) s)
      (stepped q.context (at q.context spot)
      (undecided_cost q.context (at q.context spot) a s s1) (undecided_cells a s) s1)
      (settle (at q.context spot))
      (stepped_adds q.context (at q.context spot)
      (undecided_cost q.context (at q.context spot) a s s1) (undecided_cells a s) s1)
      (λ s2 i. behind_settled (outer_assigned a) s (at q.context spot) s2
      (behind_added (outer_assigned a) s s1 s2 h i)))

  pub undecided_goes : (spot : Spot) (fault : Option Fault) (a : Statement Spot Meant) (r : Run)
      → Stands make given start None r
      → ((s : State) → undecided q.context spot fault a r.known ≡ Ok s
      → NoMiss Any (step_statement (environment q.context (at q.context spot) q.call s r) a
      (store_of r.known r.numbers) q.fuel))
      → Goes Then (undecided q.context spot fault a r.known) (run_undecided q spot fault a r)
  undecided_goes spot fault a r h real =
      goes_refusing Then (undecided q.context spot fault a r.known) _ (λ s es.
      let behind : Behind (outer_assigned a) r.known s = good_is (Behind (outer_assigned a) r.known)
      (undecided q.context spot fault a r.known) s es (undecided_behind spot fault a r.known) in
      let fine : Fine s = good_is Fine (undecided q.context spot fault a r.known) s es
      (undecided_fine q.context sound.fine spot fault a r.known h.fine) in
      goes_step Any Then s (at q.context spot) r
      (step_statement (environment q.context (at q.context spot) q.call s r) a
      (store_of r.known r.numbers) q.fuel) _ (real s es) (λ y p.
      goes_ok Then s _ (
        refl,
        behind_stands s behind fine
            (taken (outer_assigned a) (store_in y.0 r.numbers) r.numbers)
            (λ m. faded_variable (Extends r)
            (forget (outer_assigned a) r.known).frame.variables s.frame.variables
            (taken (outer_assigned a) (store_in y.0 r.numbers) r.numbers) m
            (forgotten_variables (Extends r) (outer_assigned a) (store_in y.0 r.numbers) r.numbers
            r.known
            h.variables m) (behind.1 m)),
      )))
    where
      behind_stands : (s : State) → Behind (outer_assigned a) r.known s → Fine s
          → (numbers : Store)
          → ((m : ℕ) → Variable (Extends r) s.frame.variables numbers m)
          → Stands make given start None (record r { known = s; numbers = numbers })
      behind_stands s behind fine numbers variables =
          let same : s ≡ changed r.known s.frame.variables s.frame.added s.world.counts =
          rest_changed r.known s behind.0 in
          subst (λ t. Stands make given start None (record r { known = t; numbers = numbers }))
          (sym same)
          (stands_changed make given start None r s.frame.variables s.frame.added s.world.counts
          numbers h (subst Fine same fine) variables)
