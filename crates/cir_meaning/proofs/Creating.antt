-- The creation of a component in a run.
use Rattle.std.proofs.Common.{◌≡◌, ◌≢◌, ◌⊎◌, inl, inr, ℕ, zero, suc, Bool, true, false, cond, List}
use Rattle.std.proofs.Common.{[], ◌∷◌, ◌++◌, length, replicate, Some, None, is_none, Ok, refl, sym}
use Rattle.std.proofs.Common.{ap, subst, slice_get, arith}
use Rattle.cir_ast.specs.declared.program.Meant.{Meant}
use Rattle.cir_ast.specs.declared.refusal.Form.TheVariants.{MixedComponents}
use Rattle.cir_ast.specs.declared.refusal.Kind.TheVariants.{UnknownIndex, ReadBeforeWrite}
use Rattle.cir_ast.specs.declared.refusal.Kind.TheVariants.{SecondWrite, TooDeep, NotInProfile}
use Rattle.cir_ast.specs.Tree.{Expr, Exprs, none, more, Accessors}
use Rattle.cir_meaning.specs.Tried.{Where, found}
use Rattle.cir_meaning.specs.Places.{all_known}
use Rattle.cir_meaning.specs.Arrays.{Datum, Scalar, Whole, reach, is_known, is_all_known}
use Rattle.cir_meaning.specs.Frame.{SignalEntry, Signals, World, State, Context, Maker, entry_at}
use Rattle.cir_meaning.specs.Frame.{is_input, in_frame}
use Rattle.cir_meaning.specs.Evaluate.{value_in, arguments_in}
use Rattle.cir_meaning.specs.Declaring.{template_of, may_be, opened, add_part, path_of, Creation}
use Rattle.cir_meaning.specs.Declaring.{creation, create_at}
use Rattle.cir_meaning.proofs.Good.{OnGood, good_ok, good_next, good_on, good_as, good_needed}
use Rattle.cir_meaning.proofs.Good.{good_needed_as, good_found_as}
use Rattle.cir_meaning.proofs.Likes.{CallKeeps, Like, valued_like}
use Rattle.cir_meaning.proofs.ValueKeepings.{arguments_kept, creation_kept, indices_any}
use Rattle.cir_meaning.proofs.ValueKeepings.{template_call_good}
use Rattle.cir_meaning.proofs.KnownValues.{KnownDatum, KnownStore, all_pass}
use Rattle.cir_meaning.proofs.Marking.{MarksOf}
use Rattle.cir_meaning.proofs.Standing.{SameEntry, SameShapes}

-- lists that are one longer
pub get_more : {A : Type 0} (xs ys : List A) (i : ℕ) (x : A) → slice_get xs i ≡ Some x
    → slice_get (xs ++ ys) i ≡ Some x
get_more [] ys i x e = cc
get_more (z ∷ zs) ys zero x e = e
get_more (z ∷ zs) ys (suc i) x e = get_more zs ys i x e

pub get_last : {A : Type 0} (xs : List A) (y : A) → slice_get (xs ++ y ∷ []) (length xs) ≡ Some y
get_last [] y = refl
get_last (x ∷ xs) y = get_last xs y

pub get_either : {A : Type 0} (xs : List A) (y : A) (i : ℕ) (x : A)
    → slice_get (xs ++ y ∷ []) i ≡ Some x
    → (slice_get xs i ≡ Some x) ⊎ ((length xs ≡ i) × (y ≡ x))
get_either [] y zero x e = let same : y ≡ x = cc in inr (refl, same)
get_either [] y (suc i) x e = cc
get_either (z ∷ zs) y zero x e = inl e
get_either (z ∷ zs) y (suc i) x e = behind (get_either zs y i x e)
  where
    behind : (slice_get zs i ≡ Some x) ⊎ ((length zs ≡ i) × (y ≡ x))
        → (slice_get zs i ≡ Some x) ⊎ ((suc (length zs) ≡ suc i) × (y ≡ x))
    behind (inl s) = inl s
    behind (inr s) = inr (ap (λ (n : ℕ). suc n) s.0, s.1)

pub one_longer : {A : Type 0} (xs : List A) (y : A) → length (xs ++ y ∷ []) ≡ suc (length xs)
one_longer [] y = refl
one_longer (x ∷ xs) y = ap (λ (n : ℕ). suc n) (one_longer xs y)

pub get_below : {A : Type 0} (xs : List A) (x : A) (i : ℕ) → slice_get xs i ≡ Some x → length xs ≢ i
get_below [] x i e = cc
get_below (z ∷ zs) x zero e = λ s. absurd (let no : suc (length zs) ≡ 0 = s in omega arith)
get_below (z ∷ zs) x (suc i) e = λ s. get_below zs x i e (pred s)
  where
    pred : suc (length zs) ≡ suc i → length zs ≡ i
    pred s = omega arith

-- the signals of a component as its parent sees them first
abbrev opened_as : Bool → SignalEntry → SignalEntry
opened_as c e = cond c record e { written = replicate (length e.written) false } e

abbrev opened_one : SignalEntry → SignalEntry
opened_one e = opened_as (is_input e.direction) e

same_count : (n : ℕ) → n ≡ length (replicate n false)
same_count zero = refl
same_count (suc n) = ap (λ (m : ℕ). suc m) (same_count n)

opened_same : (e : SignalEntry) → SameEntry e (opened_one e)
opened_same e = at (is_input e.direction)
  where
    at : (b : Bool)
        → SameEntry e (cond b record e { written = replicate (length e.written) false } e)
    at true = (refl, refl, same_count (length e.written))
    at false = (refl, refl, refl)

opened_entry : (xs : Signals) (n : ℕ) (e : SignalEntry) → entry_at xs n ≡ Some e
    → entry_at (opened xs) n ≡ Some (opened_one e)
opened_entry [] n e h = cc
opened_entry (None ∷ xs) zero e h = cc
opened_entry (None ∷ xs) (suc n) e h = opened_entry xs n e h
opened_entry (Some d ∷ xs) zero e h =
    let same : d ≡ e = cc in ap (λ (x : SignalEntry). Some (opened_one x)) same
opened_entry (Some d ∷ xs) (suc n) e h = opened_entry xs n e h

opened_back : (xs : Signals) (n : ℕ) (d : SignalEntry) → entry_at (opened xs) n ≡ Some d
    → (e : SignalEntry) × (entry_at xs n ≡ Some e) × (opened_one e ≡ d)
opened_back [] n d h = cc
opened_back (None ∷ xs) zero d h = cc
opened_back (None ∷ xs) (suc n) d h = opened_back xs n d h
opened_back (Some e ∷ xs) zero d h = let same : opened_one e ≡ d = cc in (e, refl, same)
opened_back (Some e ∷ xs) (suc n) d h = opened_back xs n d h

pub opened_shapes : (xs : Signals) → SameShapes xs (opened xs)
opened_shapes xs n e h = (opened_one e, opened_entry xs n e h, opened_same e)

pub opened_shapes_back : (xs : Signals) → SameShapes (opened xs) xs
opened_shapes_back xs n d h =
    let e : (e : SignalEntry) × (entry_at xs n ≡ Some e) × (opened_one e ≡ d) =
    opened_back xs n d h in
    let same : SameEntry e.0 d = subst (λ x. SameEntry e.0 x) e.2 (opened_same e.0) in
    (e.0, e.1, (sym same.0, sym same.1, sym same.2))

all_false : (m k : ℕ) (b : Bool) → slice_get (replicate m false) k ≡ Some b → false ≡ b
all_false zero k b e = cc
all_false (suc m) zero b e = let same : false ≡ b = cc in same
all_false (suc m) (suc k) b e = all_false m k b e

pub opened_marks : (xs : Signals) → MarksOf is_input (opened xs) (λ n k. None)
opened_marks xs n d h i k b at =
    let e : (e : SignalEntry) × (entry_at xs n ≡ Some e) × (opened_one e ≡ d) =
    opened_back xs n d h in
    of_one e.0 (subst (λ x. is_input x.direction ≡ true) (sym e.2) i)
    (subst (λ x. slice_get x.written k ≡ Some b) (sym e.2) at)
  where
    of_one : (e : SignalEntry) → is_input (opened_one e).direction ≡ true
        → slice_get (opened_one e).written k ≡ Some b → false ≡ b
    of_one e i at = by_input (is_input e.direction) refl i at
      where
        by_input : (c : Bool) → is_input e.direction ≡ c
            → is_input (opened_as c e).direction ≡ true
            → slice_get (opened_as c e).written k ≡ Some b → false ≡ b
        by_input true s i at = all_false (length e.written) k b at
        by_input false s i at = cc

-- what a creation evaluates changes nothing but what is counted
module _ (k : Context) (keeps : CallKeeps k.call) (f : State) (w : Where) where
  pub arguments_like : (es : Exprs Meant) (s : State) → Like f s
      → OnGood (λ x. Like f x.1) (arguments_in k w es s)
  arguments_like = arguments_kept k (Like f) (valued_like f k keeps false) w

  pub creation_like : (n : ℕ) (accessors : Accessors Meant) (e : Expr Meant) (s : State)
      → Like f s → OnGood (λ c. Like f c.state) (creation k w n accessors e s)
  creation_like = creation_kept k (Like f) (valued_like f k keeps false) w

-- the arguments of a template are known
known_of : (d : Datum) → is_all_known d ≡ true → KnownDatum d
known_of d e = all_pass is_known d.items e

pub arguments_known : (k : Context) (w : Where) (es : Exprs Meant) (s : State)
    → OnGood (λ x. KnownStore x.0) (arguments_in k w es s)
arguments_known k w none s = good_ok (λ x. KnownStore x.0) ([], s) tt
arguments_known k w (more e es) s =
    good_on (λ x. KnownStore x.0) (value_in k w false Whole e s) _ (λ x.
    good_needed_as (λ y. KnownStore y.0) (is_all_known x.0) w UnknownIndex _ (λ t.
    good_next (λ y. KnownStore y.0) (λ y. KnownStore y.0) (arguments_in k w es x.1) _
    (arguments_known k w es x.1)
    (λ y g. good_ok (λ z. KnownStore z.0) (x.0 ∷ y.0, y.1) (known_of x.0 t, g))))

pub creation_known : (k : Context) (w : Where) (n : ℕ) (accessors : Accessors Meant)
    (e : Expr Meant) (s : State)
    → OnGood (λ c. KnownStore c.arguments) (creation k w n accessors e s)
creation_known k w n accessors e s =
    template_call_good (λ c. KnownStore c.arguments) w e _ (λ t arguments.
    good_next (λ x. KnownStore x.0) (λ c. KnownStore c.arguments) (arguments_in k w arguments s) _
    (arguments_known k w arguments s) (λ x g.
    indices_any (λ c. KnownStore c.arguments) k w false [] accessors x.1 _ (λ os rest s2.
    good_on (λ c. KnownStore c.arguments) (found w ReadBeforeWrite (entry_at s2.frame.components n))
    _ (λ c.
    good_on (λ c. KnownStore c.arguments) (found w UnknownIndex (all_known os)) _ (λ ns.
    good_on (λ c. KnownStore c.arguments) (reach w false Scalar c.dims os) _
    (λ r. good_ok (λ c. KnownStore c.arguments) _ g))))))

-- a component that is created
pub record Created (k : Context) (w : Where) (c : Creation) (place : ℕ) (s : State) : Type 0 where
  pub make : Maker
  pub is_make : k.make ≡ Some make
  pub signals : Signals
  pub world : World
  pub made : make w c.template c.arguments (path_of k c.entry c.indices) c.state.world
      ≡ Ok (signals, world)
  pub state : s ≡ in_frame (add_part c.component c.entry place record {
    spot = w.spot;
    template = c.template;
    signals = opened signals;
  }) (record (c.state) { world = world })

pub create_at_is : (k : Context) (w : Where) (c : Creation) (place : ℕ)
    → OnGood (Created k w c place) (create_at k w c place)
create_at_is k w c place =
    good_needed (Created k w c place) (is_none (entry_at c.entry.parts place)) w SecondWrite _
    (good_found_as (Created k w c place) w TooDeep k.make _ (λ make is_make.
    good_needed (Created k w c place)
    (may_be c.template (template_of c.state.frame.parts c.entry.parts)) w
    (NotInProfile MixedComponents) _
    (good_as (Created k w c place)
    (make w c.template c.arguments (path_of k c.entry c.indices) c.state.world) _ (λ x made.
    good_ok (Created k w c place) _ record {
      make = make;
      is_make = is_make;
      signals = x.0;
      world = x.1;
      made = made;
      state = refl;
    }))))
