-- The elements that are found to be written.
use Rattle.std.proofs.Common.{◌≡◌, ℕ, Bool, true, false, List, [], ◌∷◌, Option, Some}
use Rattle.std.proofs.Common.{None, Result, Ok, Err, refl, ap, sym, subst, ◌∙◌}
use Rattle.std.specs.Prelude.{IsErrAnd, is_some}
use Rattle.cir_ast.specs.declared.program.Meant.{Meant}
use Rattle.cir_ast.specs.declared.program.Meant.TheVariants as meant
use Rattle.cir_ast.specs.declared.operators.Direction.{Direction}
use Rattle.cir_ast.specs.declared.refusal.Kind.TheVariants.{ReadBeforeWrite, UnknownIndex}
use Rattle.cir_ast.specs.declared.refusal.Kind.TheVariants.{WrongKind}
use Rattle.cir_ast.specs.declared.marked.Accessor.{Accessor as CodeAccessor}
use Rattle.cir_ast.specs.declared.marked.Accessor.TheVariants.{Index, Member}
use Rattle.cir_ast.specs.Tree.{Accessors, as_accessors}
use Rattle.cir_meaning.specs.Tried.{Where, Tried, next, found, needed, refused}
use Rattle.cir_meaning.specs.Places.{all_known}
use Rattle.cir_meaning.specs.Limits.{Counts}
use Rattle.cir_meaning.specs.Arrays.{Whole, reach}
use Rattle.cir_meaning.specs.Frame.{SignalEntry, Frame, State, Context, entry_at}
use Rattle.cir_meaning.specs.Evaluate.{indices_in}
use Rattle.cir_meaning.specs.Writing.{Target, signals_of, targeted, target_in}
use Rattle.cir_meaning.specs.Writing as W
use Rattle.cir_frame.specs.declared.frame.Frame.{Frame as CodeFrame}
use Rattle.cir_arrays.specs.declared.stop.Fault.{Fault}
use Rattle.cir_frame.specs.declared.writing.Target.{Target as CodeTarget}
use Rattle.cir_frame.specs.Shown.{frame_of}
use Rattle.cir_arrays.specs.Stopped.{IsRefusal}
use Rattle.cir_frame.specs.Targets.{Targets, target_at}
use Rattle.cir_assign.specs.Finds.{Finds}
use Rattle.cir_evaluate.specs.Parts.{indexed}
use Rattle.cir_assign.proofs.Indexed.{indices_first}
use Rattle.cir_assign.proofs.Stepping.{next_next}
use Rattle.cir_arrays.proofs.Exits.{exits}

targeted_known : (w : Where) (part : Option ℕ) (n : ℕ) (e : SignalEntry)
    (indices : List (Option ℕ)) (x : Target) → targeted w part n e indices ≡ Ok x
    → is_some (all_known indices) ≡ true
targeted_known w part n e indices x h = at (is_some (all_known indices)) h
  where
    at : (b : Bool) → needed b w UnknownIndex (next (reach w false Whole e.dims indices)
        (λ r. Ok record { part = part; number = n; reach = r })) ≡ Ok x → b ≡ true
    at true h = refl
    at false h = absurd (cc)

target_known : (w : Where) (part : Option ℕ) (n : ℕ) (indices : List (Option ℕ)) (f : Frame)
    (x : Target) → target_at w part n indices f ≡ Ok x → is_some (all_known indices) ≡ true
target_known w part n indices f x h = at (entry_at (signals_of part f) n) h
  where
    at : (o : Option SignalEntry) → next (found w ReadBeforeWrite o)
        (λ e. targeted w part n e indices) ≡ Ok x → is_some (all_known indices) ≡ true
    at (Some e) h = targeted_known w part n e indices x h
    at None h = absurd (cc)

-- a signal of the body or of a part
pub finds_at : (w : Where) (part : Option ℕ) (n : ℕ) (indices : List (Option ℕ)) (s : State)
    (r : Result CodeTarget Fault)
    → Targets s.frame indices r (target_at w part n indices s.frame)
    → Finds s r (next (target_at w part n indices s.frame) (λ t. Ok (t, s)))
finds_at w part n indices s (Ok t) h = (
  h.0,
  ap (λ (z : Tried Target). next z (λ t. Ok (t, s))) h.1,
  record {
    indices = indices;
    known = target_known w part n indices s.frame h.0 h.1;
    target = h.2;
  },
)
finds_at w part n indices s (Err f) h =
    exits f (target_at w part n indices s.frame) (λ t. Ok (t, s)) h

-- an own signal
pub own_finds : (k : Context) (w : Where) (direction : Direction) (n : ℕ)
    (accessors rest : Accessors Meant) (s after : State) (is : List (Option ℕ))
    (r : Result CodeTarget Fault)
    → indices_in k w false [] accessors s indexed ≡ Ok (is, (rest, after))
    → Targets after.frame is r (target_at w None n is after.frame)
    → Finds after r (target_in k w (meant.Signal direction n) accessors s)
own_finds k w direction n accessors rest s after is r e h =
    subst (λ m. Finds after r m)
    (next_next (found w ReadBeforeWrite (entry_at after.frame.signals n))
    (λ e. targeted w None n e is) (λ t. Ok (t, after))
    ∙ sym (indices_first k w false [] accessors s _
    ∙ ap (λ (z : Tried (List (Option ℕ) × (Accessors Meant × State))). next z
    (λ (is, (rest, s1)). next (found w ReadBeforeWrite (entry_at s1.frame.signals n))
    (λ e. next (targeted w None n e is) (λ t. Ok (t, s1))))) e))
    (finds_at w None n is after r h)

-- the indices refuse
pub own_refused : (k : Context) (w : Where) (direction : Direction) (n : ℕ)
    (accessors : Accessors Meant) (s : State) (f : Fault)
    → IsRefusal f (indices_in k w false [] accessors s indexed)
    → IsRefusal f (target_in k w (meant.Signal direction n) accessors s)
own_refused k w direction n accessors s f h =
    subst (λ m. IsRefusal f m) (sym (indices_first k w false [] accessors s _))
    (exits f (indices_in k w false [] accessors s indexed) _ h)

pub part_refused : (k : Context) (w : Where) (n : ℕ)
    (accessors : Accessors Meant) (s : State) (f : Fault)
    → IsRefusal f (indices_in k w false [] accessors s indexed)
    → IsRefusal f (target_in k w (meant.Component n) accessors s)
part_refused k w n accessors s f h =
    subst (λ m. IsRefusal f m) (sym (indices_first k w false [] accessors s _))
    (exits f (indices_in k w false [] accessors s indexed) _ h)

-- behind the indices of a component
pub part_goes : (k : Context) (w : Where) (n : ℕ) (accessors rest : Accessors Meant)
    (s after : State) (is : List (Option ℕ))
    → indices_in k w false [] accessors s indexed ≡ Ok (is, (rest, after))
    → target_in k w (meant.Component n) accessors s ≡ W.target_at k w n is rest after
part_goes k w n accessors rest s after is e =
    indices_first k w false [] accessors s _
    ∙ ap (λ (z : Tried (List (Option ℕ) × (Accessors Meant × State))). next z
    (λ (is, (rest, s1)). W.target_at k w n is rest s1)) e

-- what follows the input that is found
abbrev pub behind : Context → Where → Accessors Meant → State → Option ℕ → ℕ
    → SignalEntry → Tried (Target × State)
behind k w rest s j i e =
    indices_in k w false [] rest s (λ inner more_rest s1.
    next (targeted w j i e inner) (λ t. Ok (t, s1)))

pub behind_refused : (k : Context) (w : Where) (rest : Accessors Meant) (s : State)
    (j : Option ℕ) (i : ℕ) (e : SignalEntry) (f : Fault)
    → IsRefusal f (indices_in k w false [] rest s indexed)
    → IsRefusal f (behind k w rest s j i e)
behind_refused k w rest s j i e f h =
    subst (λ m. IsRefusal f m) (sym (indices_first k w false [] rest s _))
    (exits f (indices_in k w false [] rest s indexed) _ h)

pub behind_finds : (k : Context) (w : Where) (rest more : Accessors Meant) (s after : State)
    (j : Option ℕ) (i : ℕ) (e : SignalEntry) (inner : List (Option ℕ))
    (r : Result CodeTarget Fault)
    → indices_in k w false [] rest s indexed ≡ Ok (inner, (more, after))
    → entry_at (signals_of j after.frame) i ≡ Some e
    → Targets after.frame inner r (target_at w j i inner after.frame)
    → Finds after r (behind k w rest s j i e)
behind_finds k w rest more s after j i e inner r got there h =
    subst (λ m. Finds after r m)
    (ap (λ (o : Option SignalEntry). next (next (found w ReadBeforeWrite o)
    (λ e. targeted w j i e inner)) (λ t. Ok (t, after))) there
    ∙ sym (indices_first k w false [] rest s _
    ∙ ap (λ (z : Tried (List (Option ℕ) × (Accessors Meant × State))). next z
    (λ (inner, (more, s1)). next (targeted w j i e inner) (λ t. Ok (t, s1)))) got))
    (finds_at w j i inner after r h)

-- evaluation leaves a frame as it is, but for what is counted
pub entry_counted : (f : CodeFrame) (c d : Counts) (j : Option ℕ) (i : ℕ) (e : SignalEntry)
    → entry_at (signals_of j (frame_of f c)) i ≡ Some e
    → entry_at (signals_of j (frame_of f d)) i ≡ Some e
entry_counted f c d None i e h = h
entry_counted f c d (Some j) i e h = h

pub finds_as : (s : State) (r : Result CodeTarget Fault) (m n : Tried (Target × State)) → m ≡ n
    → Finds s r n → Finds s r m
finds_as s r m n e h = subst (λ z. Finds s r z) (sym e) h

pub finds_refused : (s : State) (r : Result CodeTarget Fault) (e : Fault)
    (m : Tried (Target × State)) → IsErrAnd r (λ x. x ≡ e) → IsRefusal e m → Finds s r m
finds_refused s (Ok t) e m is h = absurd is
finds_refused s (Err x) e m is h = rw is h

-- behind the indices there stands a member, or nothing may be written
pub member_goes : (k : Context) (w : Where) (n : ℕ) (is : List (Option ℕ)) (name : List ℕ)
    (inner : List (CodeAccessor Meant)) (rest : List (CodeAccessor Meant)) (s : State)
    → rest ≡ Member name ∷ inner → W.target_at k w n is (as_accessors rest) s
    ≡ W.input_of w n is name s (behind k w (as_accessors inner) s)
member_goes k w n is name inner rest s h =
    ap (λ (l : List (CodeAccessor Meant)). W.target_at k w n is (as_accessors l) s) h

pub not_member : (k : Context) (w : Where) (n : ℕ) (is : List (Option ℕ))
    (rest : List (CodeAccessor Meant)) (s : State)
    → ((name : List ℕ) (inner : List (CodeAccessor Meant))
    → rest ≡ Member name ∷ inner → ⊥)
    → W.target_at k w n is (as_accessors rest) s ≡ refused w WrongKind
not_member k w n is [] s none = refl
not_member k w n is (Index e ∷ rest) s none = refl
not_member k w n is (Member name ∷ rest) s none = absurd (none name rest refl)
