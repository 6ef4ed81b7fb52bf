-- What a condition that isn't known left is a step that reads what is there already.
use Rattle.std.proofs.Common.{◌≡◌, ℕ, Bool, true, false, cond, List, [], ◌∷◌, ◌++◌, Option, None}
use Rattle.std.proofs.Common.{Ok, refl, sym, ap, slice_get}
use Rattle.std.specs.Prelude.{not, filter, unwrap_or}
use Rattle.std.specs.List.{AllByRecursion}
use Rattle.cir_ast.specs.declared.program.Spot.{Spot}
use Rattle.cir_ast.specs.declared.program.Meant.{Meant}
use Rattle.cir_ast.specs.Tree.{Expr, Statement}
use Rattle.cir_meaning.specs.Scoped.{Scope, IsScoped}
use Rattle.cir_meaning.specs.Tried.{Where}
use Rattle.cir_meaning.specs.Places.{elements, numbers_from}
use Rattle.cir_meaning.specs.Arrays.{Datum, is_known, item_at, single}
use Rattle.cir_meaning.specs.Values.{Known}
use Rattle.cir_meaning.specs.Frame.{World, State, at, uncounted, variable_at, Sizes}
use Rattle.cir_meaning.specs.Unknown.{Fault, outer_assigned}
use Rattle.cir_meaning.specs.Scan.{scan, undecided, forget}
use Rattle.cir_meaning.specs.Texts.{Wanted, wanted_in}
use Rattle.cir_meaning.specs.Costs.{Cell as Read, Element, cost_of, unknown_at}
use Rattle.cir_meaning.specs.Steps.{undecided_cost, start_reads, is_outer}
use Rattle.cir_meaning.proofs.UndecidedReal.{Scanned, scanned}
use Rattle.cir_meaning.proofs.Good.{good_ok, good_as, good_is}
use Rattle.cir_meaning.proofs.Rows.{all_append, all_map, all_joined}
use Rattle.cir_meaning.proofs.Likes.{CallKeeps}
use Rattle.cir_meaning.proofs.KnownCalls.{CallBoth}
use Rattle.cir_meaning.proofs.Fading.{Rest, rest_like, scan_rest}
use Rattle.cir_meaning.proofs.ScanStarts.{rest_between}
use Rattle.cir_meaning.proofs.UndecidedRuns.{forget_rest}
use Rattle.cir_meaning.proofs.ScopeLaws.{IsSound}
use Rattle.cir_meaning.proofs.NumberPlaces.{Roomy}
use Rattle.cir_steps.specs.Emission.{Emission, known_in}
use Rattle.cir_steps.specs.Making.{Emitting, wanted_of, count_of, with_variables, make_decision}
use Rattle.cir_steps.specs.Statements.{emit_undecided}
use Rattle.cir_steps.specs.Places.{HasPlaces}
use Rattle.cir_steps.proofs.ReadOrigins.{IsRead}
use Rattle.cir_steps.proofs.Still.{Still}
use Rattle.cir_steps.proofs.ReadWalk.{Leaf}
use Rattle.cir_steps.proofs.ReadCells.{In, in_left, in_right, Ready}
use Rattle.cir_steps.proofs.ReadSources.{in_from, variables_put}
use Rattle.cir_steps.proofs.ReadScans.{statement_told}
use Rattle.cir_steps.proofs.ReadLeaves.{Moves, Reads, one_moves, value_told, stays_clear, Good}

filtered : {A : Type 0} (P : A → Type 0) (test : A → Bool) (xs : List A) → AllByRecursion P xs
    → AllByRecursion P (filter test xs)
filtered P test [] h = tt
filtered P test (x ∷ xs) h = by (test x) (filtered P test xs h.1)
  where
    by : (b : Bool) → AllByRecursion P (filter test xs)
        → AllByRecursion P (cond b (x ∷ filter test xs) (filter test xs))
    by true g = (h.0, g)
    by false g = g

module _ (size : ℕ) (final : Sizes) (room : Roomy size final) (q : Emitting)
    (twice : CallBoth q.context.call) (keeps : CallKeeps q.context.call) (functions : ℕ) where
  module _ (scope : Scope) (spot : Spot) (fault : Option Fault) (a : Statement Spot Meant)
      (x : Emission) (sounds : IsSound functions scope) (is : IsScoped scope a)
      (places : HasPlaces a) (s : State)
      (es : undecided q.context spot fault a (known_in x) ≡ Ok s) where
    abbrev f : State
    f = known_in x

    abbrev place : Where
    place = at q.context spot

    its : Scanned q.context place a f s
    its = scanned q.context spot fault a f s es

    begun_rest : Rest f (forget (outer_assigned a) f)
    begun_rest = forget_rest (outer_assigned a) f f (refl, refl, refl, refl)

    after_rest : Rest f s
    after_rest =
        rest_like f its.after s its.like
        (good_is (Rest f) (scan q.context place a (forget (outer_assigned a) f)) its.after its.scans
        (scan_rest f q.context keeps place a (forget (outer_assigned a) f) begun_rest))

    rests : Still f s
    rests = (
      after_rest.0,
      after_rest.2,
      ap (λ (v : World). v.sizes) after_rest.3,
      ap (λ (v : World). v.instances) after_rest.3,
    )

    abbrev Tells : Expr Meant → Type 0
    Tells e =
        Reads size final room q.context twice keeps place s (cost_of q.context place true e s)

    wanted : AllByRecursion (λ (z : Wanted). Tells z.expr) (wanted_in a)
    wanted =
        statement_told q.context twice keeps place functions s Tells
        (λ want e z ez. value_told size final room q.context twice keeps place s true want e
        (uncounted s) z (refl, refl, refl, refl, refl) ez) scope a
        (forget (outer_assigned a) f) its.after sounds
        (rest_between f s (forget (outer_assigned a) f) after_rest begun_rest) is places its.scans
        (λ n less. ap (λ (vs : List Datum). unwrap_or (slice_get vs n) (single (Known 0)))
        (sym its.like.0))

    reads : Reads size final room q.context twice keeps place s
        (undecided_cost q.context place a f s)
    reads first before y holds roomy rest =
        all_append IsThere (start_reads (outer_assigned a) f) _ (starts (outer_assigned a))
        (filtered IsThere (is_outer a) _
        (all_joined IsThere (λ z. (cost_of q.context place true z.expr s).reads) (wanted_in a)
        (each (wanted_in a) wanted)))
      where
        IsThere : Read → Type 0
        IsThere = IsRead q.context twice keeps place s (Ready size first before y holds roomy)

        starts : (ns : List ℕ) → AllByRecursion IsThere (start_reads ns f)
        starts [] = tt
        starts (n ∷ ns) =
            all_append IsThere (unknown_at n (variable_at f.frame n)
            (numbers_from 0 (elements (variable_at f.frame n).dims))) (start_reads ns f)
            (all_map IsThere (λ p. Element n p)
            (filter (λ p. not (is_known (item_at (variable_at f.frame n).items p)))
            (numbers_from 0 (elements (variable_at f.frame n).dims))) (λ p. tt)) (starts ns)

        each : (zs : List Wanted) → AllByRecursion (λ (z : Wanted). Tells z.expr) zs
            → AllByRecursion (λ z. AllByRecursion IsThere
            (cost_of q.context place true z.expr s).reads) zs
        each [] h = tt
        each (z ∷ zs) h = (h.0 first before y holds roomy rest, each zs h.1)

    decision : Good size final room q twice keeps x (make_decision q.context place a s x)
    decision =
        good_ok (Leaf (Moves size final) x) _ (
          one_moves size final room q.context twice keeps place x
              (with_variables (wanted_of (outer_assigned a) f) s x) s
              (undecided_cost q.context place a f s) _
              (numbers_from x.next (count_of (wanted_of (outer_assigned a) f))) None rests reads
              rests refl refl refl (λ before sourced.
              variables_put (λ c. In c (before ++ numbers_from x.next
              (count_of (wanted_of (outer_assigned a) f)))) (wanted_of (outer_assigned a) f) x.next
              x.sources
              (λ c low high. in_right c before _ (in_from c x.next
              (count_of (wanted_of (outer_assigned a) f)) low high))
              (λ m i c e. in_left c before _ (sourced m i c e))),
          stays_clear f s rests,
        )

  pub undecided_leaf : (scope : Scope) (spot : Spot) (fault : Option Fault)
      (a : Statement Spot Meant) (x : Emission) → IsSound functions scope → IsScoped scope a
      → HasPlaces a → Good size final room q twice keeps x (emit_undecided q spot fault a x)
  undecided_leaf scope spot fault a x sounds is places =
      good_as (Leaf (Moves size final) x) (undecided q.context spot fault a (known_in x)) _
      (λ s es. decision scope spot fault a x sounds is places s es)
