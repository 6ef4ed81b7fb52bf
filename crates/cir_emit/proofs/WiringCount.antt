-- A signal that is written gets all elements of its value.
use Rattle.std.proofs.Common.{◌≡◌, ℕ, Bool, true, false, cond, List, [], length, map, Some, Ok, sym}
use Rattle.std.proofs.Common.{ap, ◌∙◌, Option, None, is_some}
use Rattle.std.specs.Prelude.{◌||◌}
use Rattle.cir_ast.specs.declared.program.Meant.{Meant}
use Rattle.cir_ast.specs.declared.program.Meant.TheVariants as meant
use Rattle.cir_ast.specs.declared.refusal.Kind.TheVariants.{ShapeDiffers, UnknownIndex, OutOfBounds}
use Rattle.cir_ast.specs.declared.refusal.Kind.TheVariants.{WrongKind, ReadBeforeWrite}
use Rattle.cir_ast.specs.Tree.{Expr, Accessors, done, index, member}
use Rattle.cir_meaning.specs.Tried.{Where, found}
use Rattle.cir_meaning.specs.Places.{elements, is_inside, all_known, left_of, places_of}
use Rattle.cir_meaning.specs.Arrays.{Want, Whole, Reach, reach, fits, same_dims}
use Rattle.cir_meaning.specs.Frame.{SignalEntry, State, Context, entry_at, is_input}
use Rattle.cir_meaning.specs.Evaluate.{value_in}
use Rattle.cir_meaning.specs.Reading.{named_signal, part_at}
use Rattle.cir_meaning.specs.Writing.{Target, SignalAssignment, signals_of, targeted, target_at}
use Rattle.cir_meaning.specs.Writing.{target_in, signal_assignment}
use Rattle.cir_meaning.proofs.Good.{OnGood, good_ok, good_bad, good_next, good_on, good_needed}
use Rattle.cir_meaning.proofs.Good.{good_needed_as, good_found_as, good_is}
use Rattle.cir_meaning.proofs.Reaching.{reached_count}
use Rattle.cir_meaning.proofs.ValueKeepings.{indices_any}
use Rattle.cir_steps.specs.Making.{written_elements}
use Rattle.cir_steps.proofs.Sized.{IsSized, SizedCall, known_are, value_sized}
use Rattle.wit_lower.specs.Homes.{slots_of}
use Rattle.cir_emit.proofs.Standing.{same_shapes}
use Rattle.cir_emit.proofs.Counts.{written_count}

abbrev IsCounted : Reach → Type 0
IsCounted r = length r.places ≡ elements r.left

reach_counted : (w : Where) (want : Want) (dims : List ℕ) (os : List (Option ℕ))
    → is_some (all_known os) ≡ true → OnGood IsCounted (reach w false want dims os)
reach_counted w want dims os sure =
    good_found_as IsCounted w ShapeDiffers (left_of dims os) _ (λ left there.
    good_needed_as IsCounted (is_inside dims os || false) w OutOfBounds _ (λ inside.
    good_needed IsCounted (fits want left) w ShapeDiffers _
    (good_ok IsCounted _ (at left there (is_inside dims os) inside))))
  where
    at : (left : List ℕ) → left_of dims os ≡ Some left → (b : Bool) → (b || false) ≡ true
        → IsCounted (cond b record {
          left = left;
          is_sure = is_some (all_known os);
          places = places_of dims os;
        } record { left = left; is_sure = false; places = [] })
    at left there true e =
        let are : (ns : List ℕ) × (os ≡ map Some ns) = known_are os sure in
        ap (λ is. length (places_of dims is)) are.1 ∙
        reached_count dims are.0 left (sym (ap (left_of dims) are.1) ∙ there)
    at left there false e = cc

abbrev CountedTarget : Target × State → Type 0
CountedTarget x = IsCounted x.0.reach

targeted_counted : (w : Where) (part : Option ℕ) (n : ℕ) (e : SignalEntry)
    (os : List (Option ℕ)) → OnGood (λ t. IsCounted t.reach) (targeted w part n e os)
targeted_counted w part n e os =
    good_needed_as (λ t. IsCounted t.reach) (is_some (all_known os)) w UnknownIndex _ (λ sure.
    good_next IsCounted (λ t. IsCounted t.reach) (reach w false Whole e.dims os) _
    (reach_counted w Whole e.dims os sure)
    (λ r h. good_ok (λ t. IsCounted t.reach) _ h))

module _ (k : Context) (w : Where) where
  at_counted : (n : ℕ) (os : List (Option ℕ)) (rest : Accessors Meant) (s : State)
      → OnGood CountedTarget (target_at k w n os rest s)
  at_counted n os done s = good_bad CountedTarget _
  at_counted n os (index e rest) s = good_bad CountedTarget _
  at_counted n os (member name rest) s =
      good_on CountedTarget (part_at w false n os s.frame) _ (λ j.
      good_on CountedTarget (named_signal w name (signals_of j s.frame)) _ (λ y.
      good_needed CountedTarget (is_input y.1.direction) w WrongKind _
      (indices_any CountedTarget k w false [] rest s _ (λ inner others s1.
      good_next (λ t. IsCounted t.reach) CountedTarget (targeted w j y.0 y.1 inner) _
      (targeted_counted w j y.0 y.1 inner) (λ t h. good_ok CountedTarget (t, s1) h)))))

  target_counted : (m : Meant) (accessors : Accessors Meant) (s : State)
      → OnGood CountedTarget (target_in k w m accessors s)
  target_counted (meant.Signal d n) accessors s =
      indices_any CountedTarget k w false [] accessors s _ (λ os rest s1.
      good_on CountedTarget (found w ReadBeforeWrite (entry_at s1.frame.signals n)) _ (λ e.
      good_next (λ t. IsCounted t.reach) CountedTarget (targeted w None n e os) _
      (targeted_counted w None n e os) (λ t h. good_ok CountedTarget (t, s1) h)))
  target_counted (meant.Component n) accessors s =
      indices_any CountedTarget k w false [] accessors s (target_at k w n)
      (λ os rest s1. at_counted n os rest s1)
  target_counted meant.Other accessors s = good_bad CountedTarget _
  target_counted (meant.Variable n) accessors s = good_bad CountedTarget _
  target_counted (meant.Template n) accessors s = good_bad CountedTarget _
  target_counted (meant.Function n) accessors s = good_bad CountedTarget _

  abbrev IsAll : SignalAssignment → Type 0
  IsAll a =
      length (written_elements a.target.reach.places a.value.items) ≡ slots_of a.value.dims

  pub all_written : SizedCall k.call → (m : Meant) (accessors : Accessors Meant) (e : Expr Meant)
      (f : State) (a : SignalAssignment) → signal_assignment k w m accessors e f ≡ Ok a
      → length (written_elements a.target.reach.places a.value.items) ≡ slots_of a.value.dims
  all_written sized m accessors e f a is =
      good_is IsAll (signal_assignment k w m accessors e f) a is
      (good_next (λ y. IsSized y.0) IsAll (value_in k w false Whole e f) _
      (value_sized k sized w false Whole e f) (λ y h.
      good_next CountedTarget IsAll (target_in k w m accessors y.1) _
      (target_counted m accessors y.1) (λ x c.
      good_needed_as IsAll (same_dims x.0.reach.left y.0.dims) w ShapeDiffers _ (λ same.
      good_ok IsAll _ (written_count x.0.reach.places y.0.dims y.0.items h
      (λ small. c ∙ ap elements (same_shapes x.0.reach.left y.0.dims same)))))))
