-- Targets of assignments.
use Rattle.std.proofs.Common.{◌≡◌, ℕ, Bool, true, false, List, Option, Some, is_some, Ok, Err, ap}
use Rattle.std.proofs.Common.{sym, subst, ◌∙◌, refl}
use Rattle.std.specs.Prelude.{Result, IsErrAnd}
use Rattle.cir_meaning.specs.Tried.{Where, Tried, next, needed, found}
use Rattle.cir_ast.specs.declared.refusal.Kind.TheVariants.{UnknownIndex, WrongKind}
use Rattle.cir_meaning.specs.Places.{all_known}
use Rattle.cir_meaning.specs.Arrays.{Whole, Reach, reach}
use Rattle.cir_meaning.specs.Frame.{SignalEntry, Frame, State, entry_at, is_input}
use Rattle.cir_meaning.specs.Reading.{part_at, named_signal}
use Rattle.cir_meaning.specs.Writing.{Target, signals_of, targeted, input_of}
use Rattle.cir_arrays.specs.declared.stop.Fault.{Fault}
use Rattle.cir_arrays.specs.declared.reach.Reach.{Reach as CodeReach}
use Rattle.cir_frame.specs.declared.writing.Target.{Target as CodeTarget}
use Rattle.cir_arrays.specs.Stopped.{IsRefusal}
use Rattle.cir_arrays.specs.Reached.{Reaches}
use Rattle.cir_frame.specs.Targets.{Targeted, Targets, FindsInput, target_at}
use Rattle.cir_arrays.proofs.Exits.{exits}

-- what is left behind the reach
abbrev targeted_at : Option ℕ → ℕ → Reach → Tried Target
targeted_at part n x = Ok record { part = part; number = n; reach = x }

-- where all indices are known
known_first : (w : Where) (part : Option ℕ) (n : ℕ) (e : SignalEntry) (indices : List (Option ℕ))
    → is_some (all_known indices) ≡ true → targeted w part n e indices
    ≡ next (reach w false Whole e.dims indices) (targeted_at part n)
known_first w part n e indices known =
    ap (λ (b : Bool). needed b w UnknownIndex
    (next (reach w false Whole e.dims indices) (targeted_at part n))) known

pub targeted_exit : (w : Where) (part : Option ℕ) (n : ℕ) (e : SignalEntry)
    (indices : List (Option ℕ)) (r : Result CodeTarget Fault) (f : Fault)
    → is_some (all_known indices) ≡ true → IsErrAnd r (λ x. x ≡ f)
    → IsRefusal f (reach w false Whole e.dims indices)
    → Targeted part n e.dims indices r (targeted w part n e indices)
targeted_exit w part n e indices (Ok t) f known is h = absurd is
targeted_exit w part n e indices (Err x) f known is h =
    let left : IsRefusal f (next (reach w false Whole e.dims indices) (targeted_at part n)) =
    exits f (reach w false Whole e.dims indices) (targeted_at part n) h in
    let all : IsRefusal f (targeted w part n e indices) =
    subst (λ (m : Tried Target). IsRefusal f m) (sym (known_first w part n e indices known)) left in
    subst (λ (g : Fault). IsRefusal g (targeted w part n e indices)) (sym is) all

pub targeted_ok : (w : Where) (part : Option ℕ) (n : ℕ) (e : SignalEntry)
    (indices : List (Option ℕ)) (r : CodeReach) → is_some (all_known indices) ≡ true
    → Reaches e.dims indices (Ok r) (reach w false Whole e.dims indices)
    → Targeted part n e.dims indices (Ok record { part = part; number = n; reach = r })
    (targeted w part n e indices)
targeted_ok w part n e indices r known t = (
  record { part = part; number = n; reach = t.0 },
  known_first w part n e indices known ∙ ap (λ (m : Tried Reach). next m (targeted_at part n)) t.1,
  record {
    same = refl;
    same_part = refl;
    same_number = refl;
    reach = t.2;
  },
)

pub targets_found : (f : Frame) (w : Where) (part : Option ℕ) (n : ℕ) (e : SignalEntry)
    (indices : List (Option ℕ)) (r : Result CodeTarget Fault)
    → entry_at (signals_of part f) n ≡ Some e
    → Targeted part n e.dims indices r (targeted w part n e indices)
    → Targets f indices r (target_at w part n indices f)
targets_found f w part n e indices (Err fault) there h = rw there h
targets_found f w part n e indices (Ok t) there h = (
  h.0,
  rw there h.1,
  record {
    same = h.2.same;
    entry = e;
    there = rw (h.2.same_part, h.2.same_number) there;
    reach = h.2.reach;
  },
)

-- an input that isn't found
finds_exit : (w : Where) (n : ℕ) (indices : List (Option ℕ)) (name : List ℕ) (s : State)
    (go : Option ℕ → ℕ → SignalEntry → Tried (Target × State)) (r : Result (Option ℕ × ℕ) Fault)
    (f : Fault) → IsErrAnd r (λ x. x ≡ f) → IsRefusal f (input_of w n indices name s go)
    → FindsInput w n indices name s go r
finds_exit w n indices name s go (Ok x) f is h = absurd is
finds_exit w n indices name s go (Err x) f is h = rw is h

abbrev input_by : Where → (ℕ → SignalEntry → Tried (Target × State)) → ℕ × SignalEntry
    → Tried (Target × State)
input_by w go (i, e) = needed (is_input e.direction) w WrongKind (go i e)

abbrev input_among : Where → List ℕ → Frame
    → (Option ℕ → ℕ → SignalEntry → Tried (Target × State)) → Option ℕ → Tried (Target × State)
input_among w name f go j = next (named_signal w name (signals_of j f)) (input_by w (go j))

pub no_component : (w : Where) (n : ℕ) (indices : List (Option ℕ)) (name : List ℕ) (s : State)
    (go : Option ℕ → ℕ → SignalEntry → Tried (Target × State)) (r : Result (Option ℕ × ℕ) Fault)
    (f : Fault) → IsErrAnd r (λ x. x ≡ f) → IsRefusal f (part_at w false n indices s.frame)
    → FindsInput w n indices name s go r
no_component w n indices name s go r f is h =
    finds_exit w n indices name s go r f is
    (exits f (part_at w false n indices s.frame) (input_among w name s.frame go) h)

pub no_input : (w : Where) (n : ℕ) (indices : List (Option ℕ)) (name : List ℕ) (s : State)
    (go : Option ℕ → ℕ → SignalEntry → Tried (Target × State)) (r : Result (Option ℕ × ℕ) Fault)
    (f : Fault) (j : Option ℕ) → IsErrAnd r (λ x. x ≡ f)
    → part_at w false n indices s.frame ≡ Ok j
    → IsRefusal f (named_signal w name (signals_of j s.frame))
    → FindsInput w n indices name s go r
no_input w n indices name s go r f j is found h =
    let left : IsRefusal f (input_among w name s.frame go j) =
    exits f (named_signal w name (signals_of j s.frame)) (input_by w (go j)) h in
    finds_exit w n indices name s go r f is (rw found left)
