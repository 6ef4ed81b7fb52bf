-- Steps that follow one another, and what the code's answers tell of them.
use Rattle.std.proofs.Common.{◌≡◌, ◌∙◌, ◌⊎◌, inl, inr, ℕ, Bool, true, List, [], ◌∷◌, length, Result}
use Rattle.std.proofs.Common.{Ok, Err, ap, sym, refl, subst, arith}
use Rattle.std.specs.Prelude.{Option, Some, None, IsErrAnd}
use Rattle.cir_arrays.specs.declared.arrays.Datum.{Datum as CodeDatum}
use Rattle.cir_arrays.specs.declared.stop.Fault.{Fault}
use Rattle.cir_frame.specs.declared.reading.Reading.{Reading as CodeReading}
use Rattle.cir_arrays.specs.Stopped.{IsRefusal, Gives, where_of}
use Rattle.cir_arrays.specs.Shown.{datum_of}
use Rattle.cir_arrays.proofs.Exits.{exits, exit_gives}
use Rattle.cir_meaning.specs.Tried.{Where, Tried, next}
use Rattle.cir_meaning.specs.Values.{Value}
use Rattle.cir_meaning.specs.Arrays.{Datum, Want, Scalar, fits, single, the_item, item_at}
use Rattle.cir_meaning.specs.Frame.{Frame, State}
use Rattle.cir_meaning.specs.Reading.{Root, inner_origin}
use Rattle.cir_meaning.specs.Evaluate.{scalar, answered, looked_at}
use Rattle.cir_evaluate.specs.declared.evaluate.Located.{Located}
use Rattle.cir_evaluate.specs.Parts.{Locates}
use Rattle.cir_evaluate.proofs.Literals.{sized_of}
use Rattle.cir_arrays.specs.Made.{made_count}

-- a fault that a first step hands on
pub leaves : {A B X : Type 0} (view : A → B) (r : Result A Fault) (e : Fault) (m : Tried X)
    (go : X → Tried B) → IsErrAnd r (λ f. f ≡ e) → IsRefusal e m → Gives view r (next m go)
leaves view r e m go is h = exit_gives view r e (next m go) is (exits e m go h)

-- a first step that is done
pub goes : {A B : Type 0} (m : Tried A) (go : A → Tried B) (a : A) (y : Tried B) → m ≡ Ok a
    → go a ≡ y → next m go ≡ y
goes m go a y h k = ap (λ x. next x go) h ∙ k

-- what an answer, or a fault, tells of an equal meaning
pub given : {A B : Type 0} (view : A → B) (r : Result A Fault) (m n : Tried B) → m ≡ n
    → Gives view r n → Gives view r m
given view r m n e h = let P : Tried _ → Type 0 = Gives view r in subst P (sym e) h

pub refusal : {A : Type 0} (f : Fault) (m n : Tried A) → m ≡ n → IsRefusal f n → IsRefusal f m
refusal f m n e h = let P : Tried _ → Type 0 = IsRefusal f in subst P (sym e) h

-- an answer that leaves the state as it is
pub with_state : {A : Type 0} (view : A → Datum) (r : Result A Fault) (m : Tried Datum) (s : State)
    → Gives view r m → Gives {B = Datum × State} (λ a. (view a, s)) r (next m (λ d. Ok (d, s)))
with_state view (Ok a) m s h = ap (λ x. next x (λ d. Ok (d, s))) h
with_state view (Err f) m s h = exits f m _ h

-- a value that is the answer
pub answers : {A : Type 0} (view : A → Value) (r : Result A Fault) (m : Tried Value) (s : State)
    → Gives view r m
    → Gives {B = Datum × State} (λ a. (single (view a), s)) r (next m (λ v. answered v s))
answers view (Ok a) m s h = ap (λ x. next x (λ v. answered v s)) h
answers view (Err f) m s h = exits f m _ h

-- a number is its one item
pub scalar_goes : {A : Type 0} (m : Tried (Datum × State)) (go : Value → State → Tried A)
    (v : Value) (s : State) (y : Tried A) → m ≡ Ok (single v, s) → go v s ≡ y → scalar m go ≡ y
scalar_goes m go v s y h k = ap (λ x. scalar x go) h ∙ k

pub scalar_answered : {A : Type 0} (view : A → Value) (r : Result A Fault)
    (m : Tried (Datum × State)) (s : State)
    → Gives {B = Datum × State} (λ a. (single (view a), s)) r m
    → Gives {B = Datum × State} (λ a. (single (view a), s)) r (scalar m answered)
scalar_answered view (Ok a) m s h = ap (λ x. scalar x answered) h
scalar_answered view (Err f) m s h = exits f m _ h

scalar_once : {A : Type 0} (m : Tried (Datum × State)) (go : Value → State → Tried A)
    → scalar m go ≡ scalar (scalar m answered) go
scalar_once (Ok (d, s)) go = refl
scalar_once (Err e) go = refl

-- an operand, and what follows it
pub looked_once : {A : Type 0} (look : Option Bool) (s : State)
    (value : Bool → Tried (Datum × State)) (go : Value → State → Tried A)
    → looked_at look s value go ≡ scalar (looked_at look s value answered) go
looked_once None s value go = refl
looked_once (Some shaded) s value go = scalar_once (value shaded) go

-- a place that isn't found
pub located_exits : (w : Where) (shaded : Bool) (s : State) (r : Result Located Fault) (e : Fault)
    (m : Want → Tried (Datum × State)) → IsErrAnd r (λ f. f ≡ e)
    → ((want : Want) → IsRefusal e (m want)) → Locates w shaded s r m
located_exits w shaded s (Ok x) e m h k = absurd h
located_exits w shaded s (Err f) e m h k = λ want. rw h (k want)

-- a signal of a component, by what the reading is made of
pub inner_is : (r : CodeReading) (w : Where) (shaded : Bool) (indices : List (Option ℕ))
    (root : Root) (name read : List ℕ) (f : Frame) → where_of r.site.now ≡ w → r.shaded ≡ shaded
    → r.indices.now ≡ indices → read ≡ name
    → inner_origin w shaded root indices name f
    ≡ inner_origin (where_of r.site.now) r.shaded root r.indices.now read f
inner_is r w shaded indices root name read f a b c d =
    ap (λ w. inner_origin w shaded root indices name f) (sym a)
    ∙ ap (λ shaded. inner_origin (where_of r.site.now) shaded root indices name f) (sym b)
    ∙ ap (λ indices. inner_origin (where_of r.site.now) r.shaded root indices name f) (sym c)
    ∙ ap (λ name. inner_origin (where_of r.site.now) r.shaded root r.indices.now name f) (sym d)

-- ---- one of five
pub one_of : {A B C D E R : Type 0} → A ⊎ (B ⊎ (C ⊎ (D ⊎ E))) → (A → R) → (B → R) → (C → R)
    → (D → R) → (E → R) → R
one_of (inl x) a b c d e = a x
one_of (inr (inl x)) a b c d e = b x
one_of (inr (inr (inl x))) a b c d e = c x
one_of (inr (inr (inr (inl x)))) a b c d e = d x
one_of (inr (inr (inr (inr x)))) a b c d e = e x

-- ---- an array where a number is wanted
single_at : (dims : List ℕ) (items : List Value) → fits Scalar dims ≡ true → length items ≡ 1
    → single (item_at items 0) ≡ record { dims = dims; items = items }
single_at [] [] h n = absurd (omega arith)
single_at [] (v ∷ []) h n = refl
single_at [] (v ∷ u ∷ vs) h n = absurd (omega arith)
single_at (d ∷ ds) items h n = absurd (cc)

no_dims : (dims : List ℕ) → fits Scalar dims ≡ true → dims ≡ []
no_dims [] h = refl
no_dims (d ∷ ds) h = absurd (cc)

pub one_number : (d : CodeDatum) → fits Scalar (datum_of d).dims ≡ true
    → single (the_item (datum_of d)) ≡ datum_of d
one_number d h =
    single_at (datum_of d).dims (datum_of d).items h
    (sized_of d ∙ ap made_count (no_dims (datum_of d).dims h))
