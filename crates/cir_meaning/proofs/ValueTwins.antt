-- An expression has the same value whatever is counted, and where it is shaded too, unless it is
-- refused.
use Rattle.std.proofs.Common.{◌≡◌, ℕ, ◌%◌, Bool, true, false, ◌||◌, cond, List, [], ◌∷◌, ◌++◌}
use Rattle.std.proofs.Common.{length, Option, Some, None, Ok, refl, sym, subst}
use Rattle.std.specs.Prelude.{⊤, is_some}
use Rattle.std.specs.List.{list_all}
use Rattle.gold_field.specs.declared.gold.TheConstants.{P}
use Rattle.cir_ast.specs.declared.program.Meant.{Meant}
use Rattle.cir_ast.specs.declared.program.Meant.TheVariants as meant
use Rattle.cir_ast.specs.declared.refusal.Form.TheVariants.{LiteralPlace}
use Rattle.cir_ast.specs.declared.refusal.Kind.TheVariants.{UnknownIndex, ReadBeforeWrite}
use Rattle.cir_ast.specs.declared.refusal.Kind.TheVariants.{OutOfBounds, ShapeDiffers, NotInProfile}
use Rattle.cir_ast.specs.Tree.{Expr, Number, Place, Call, Anonymous, Parentheses, Array, Unary}
use Rattle.cir_ast.specs.Tree.{Binary, Choice, Exprs, none, more, Accessors, done, index, member}
use Rattle.cir_meaning.specs.Tried.{Where, Tried, next, refused, needed, found}
use Rattle.cir_meaning.specs.Places.{left_of, is_inside, all_known}
use Rattle.cir_meaning.specs.Limits.{Counts, with_array}
use Rattle.cir_meaning.specs.Arrays.{Datum, Want, Scalar, Whole, Reach, fits, reach, the_item}
use Rattle.cir_meaning.specs.Arrays.{is_all_known, same_dims}
use Rattle.cir_meaning.specs.Values.{Value, Known, Opaque, Lazy, Decided, Right, Shaded, Side}
use Rattle.cir_meaning.specs.Values.{First, Second, Both, known_number, side_of, chosen}
use Rattle.cir_meaning.specs.Values.{unary_result, result_of}
use Rattle.cir_meaning.specs.Operators.{Operator, Strict, And, Or, operator_of, unary_of}
use Rattle.cir_meaning.specs.Operators.{left_tells, applied, divided_at, shading, first_shading}
use Rattle.cir_meaning.specs.Operators.{second_shading}
use Rattle.cir_meaning.specs.Frame.{Frame, World, State, Context, Caller, adding, entry_at}
use Rattle.cir_meaning.specs.Reading.{Origin, Stored, Wired, Lost, Root, Named, Found, is_readable}
use Rattle.cir_meaning.specs.Reading.{read_origin, origin_of, inner_origin, part_in, part_at}
use Rattle.cir_meaning.specs.Reading.{located}
use Rattle.cir_meaning.specs.Evaluate.{scalar, answered, looked_at, has_literal, gathered}
use Rattle.cir_meaning.specs.Evaluate.{call_known, called, value_in, all_in, read_in, dims_in}
use Rattle.cir_meaning.specs.Evaluate.{indices_in, known_at}
use Rattle.cir_meaning.proofs.Twins.{Twin, twin_ok, twin_bad, twin_next, twin_itself, twin_if}
use Rattle.cir_meaning.proofs.Twins.{twin_same, twin_needed, Below, below_with_array, counted_as}
use Rattle.cir_meaning.proofs.Twins.{IsTwin, at_twin, twin_of}

-- the second is shaded wherever the first is, and an array will do where it did
abbrev pub Darker : Bool → Bool → Type 0
Darker true deep = deep ≡ true
Darker false deep = ⊤

abbrev pub Wider : Want → Want → Type 0
Wider Whole Scalar = ⊥
Wider want other = ⊤

abbrev pub MayDarker : Option Bool → Option Bool → Type 0
MayDarker None None = ⊤
MayDarker (Some dark) (Some deep) = Darker dark deep
MayDarker _ _ = ⊥

pub dark_itself : (b : Bool) → Darker b b
dark_itself true = refl
dark_itself false = tt

or_darker : (a dark deep : Bool) → Darker dark deep → (a || dark) ≡ true → (a || deep) ≡ true
or_darker true dark deep h e = refl
or_darker false true deep h e = h
or_darker false false deep h e = cc

fits_wider : (want other : Want) (left : List ℕ) → Wider want other → fits want left ≡ true
    → fits other left ≡ true
fits_wider Whole Whole left h e = refl
fits_wider Whole Scalar left h e = absurd h
fits_wider Scalar Whole left h e = refl
fits_wider Scalar Scalar left h e = e

abbrev pub Equal : {A : Type 0} → A → A → Type 0
Equal a b = b ≡ a

-- the same answer, in states that differ in counts
abbrev pub Answers : {A : Type 0} → A × State → A × State → Type 0
Answers x y = (y.0 ≡ x.0) × IsTwin x.1 y.1

-- a function that is called with known arguments
abbrev pub WorldTwin : Datum × World → Datum × World → Type 0
WorldTwin x y =
    (y.0 ≡ x.0) × ((c : Counts) × (y.1 ≡ record (x.1) { counts = c }) × Below c x.1.counts)

abbrev pub CallTwin : Caller → Type 0
CallTwin call =
    (w : Where) (n : ℕ) (ds : List Datum) (world : World) (c : Counts)
    → list_all is_all_known ds ≡ true → Below c world.counts
    → Twin WorldTwin (call w n ds world) (call w n ds (record world { counts = c }))

-- a number that was wanted
pub scalar_twin : {A B : Type 0} (R : A → B → Type 0) (m r : Tried (Datum × State))
    (go : Value → State → Tried A) (on : Value → State → Tried B) → Twin Answers m r
    → ((v : Value) (s : State) (a c : Counts) → Below a s.frame.added → Below c s.world.counts
    → Twin R (go v s) (on v (counted_as s a c)))
    → Twin R (scalar m go) (scalar r on)
scalar_twin R m r go on h g =
    twin_next Answers R m r (λ (d, s). go (the_item d) s) (λ (d, s). on (the_item d) s) h
    (λ x y p.
    at_twin (λ t. Twin R (go (the_item x.0) x.1) (on (the_item y.0) t)) x.1 y.1 p.1 (λ a c i j.
    subst (λ d. Twin R (go (the_item x.0) x.1) (on (the_item d) (counted_as x.1 a c))) (sym p.0)
    (g (the_item x.0) x.1 a c i j)))

-- and an answer of any kind
pub then_twin : {A B C : Type 0} (R : B → C → Type 0) (m r : Tried (A × State))
    (go : A × State → Tried B) (on : A × State → Tried C) → Twin Answers m r
    → ((x : A) (s : State) (a c : Counts) → Below a s.frame.added → Below c s.world.counts
    → Twin R (go (x, s)) (on (x, counted_as s a c)))
    → Twin R (next m go) (next r on)
then_twin R m r go on h g =
    twin_next Answers R m r go on h (λ x y p.
    at_twin (λ t. Twin R (go x) (on (y.0, t))) x.1 y.1 p.1 (λ a c i j.
    subst (λ d. Twin R (go x) (on (d, counted_as x.1 a c))) (sym p.0) (g x.0 x.1 a c i j)))

pub answered_twin : (v : Value) (s : State) (a c : Counts) → Below a s.frame.added
    → Below c s.world.counts → Twin Answers (answered v s) (answered v (counted_as s a c))
answered_twin v s a c i j = twin_ok Answers _ _ (refl, twin_of s a c i j)

looked_twin : {A B : Type 0} (R : A → B → Type 0) (o p : Option Bool) (s : State) (a c : Counts)
    (value other : Bool → Tried (Datum × State)) (go : Value → State → Tried A)
    (on : Value → State → Tried B) → MayDarker o p → Below a s.frame.added
    → Below c s.world.counts
    → ((dark deep : Bool) → Darker dark deep → Twin Answers (value dark) (other deep))
    → ((v : Value) (s : State) (a c : Counts) → Below a s.frame.added → Below c s.world.counts
    → Twin R (go v s) (on v (counted_as s a c)))
    → Twin R (looked_at o s value go) (looked_at p (counted_as s a c) other on)
looked_twin R None None s a c value other go on d i j h g = g (Known 0) s a c i j
looked_twin R None (Some deep) s a c value other go on d i j h g = absurd d
looked_twin R (Some dark) None s a c value other go on d i j h g = absurd d
looked_twin R (Some dark) (Some deep) s a c value other go on d i j h g =
    scalar_twin R (value dark) (other deep) go on (h dark deep d) g

shading_darker : (l : Lazy) (dark deep : Bool) → Darker dark deep
    → MayDarker (shading l dark) (shading l deep)
shading_darker (Decided n) dark deep d = tt
shading_darker Right dark deep d = d
shading_darker Shaded dark deep d = refl

first_darker : (side : Side) (dark deep : Bool) → Darker dark deep
    → MayDarker (first_shading side dark) (first_shading side deep)
first_darker First dark deep d = d
first_darker Second dark deep d = tt
first_darker Both dark deep d = refl

second_darker : (side : Side) (dark deep : Bool) → Darker dark deep
    → MayDarker (second_shading side dark) (second_shading side deep)
second_darker First dark deep d = tt
second_darker Second dark deep d = d
second_darker Both dark deep d = refl

module _ (w : Where) (dark deep : Bool) (darker : Darker dark deep) where
  reach_twin : (want other : Want) (dims : List ℕ) (os : List (Option ℕ)) → Wider want other
      → Twin Equal (reach w dark want dims os) (reach w deep other dims os)
  reach_twin want other dims os wider =
      twin_same Equal (found w ShapeDiffers (left_of dims os)) _ _ (λ left.
      twin_needed Equal (is_inside dims os || dark) (is_inside dims os || deep) w OutOfBounds _ _
      (or_darker (is_inside dims os) dark deep darker) (λ e.
      twin_needed Equal (fits want left) (fits other left) w ShapeDiffers _ _
      (fits_wider want other left wider) (λ f. twin_ok Equal _ _ refl)))

  -- the same reach in both
  pub then_reach : {A B : Type 0} (R : A → B → Type 0) (want other : Want) (dims : List ℕ)
      (os : List (Option ℕ)) (go : Reach → Tried A) (on : Reach → Tried B) → Wider want other
      → ((r : Reach) → Twin R (go r) (on r))
      → Twin R (next (reach w dark want dims os) go) (next (reach w deep other dims os) on)
  then_reach R want other dims os go on wider h =
      twin_next Equal R (reach w dark want dims os) (reach w deep other dims os) go on
      (reach_twin want other dims os wider)
      (λ r q e. subst (λ a. Twin R (go r) (on a)) (sym e) (h r))

  read_origin_twin : (want other : Want) (os : List (Option ℕ)) (source : Origin)
      → Wider want other
      → Twin Equal (read_origin w dark want os source) (read_origin w deep other os source)
  read_origin_twin want other os (Stored d) wider =
      then_reach Equal want other d.dims os _ _ wider (λ r. twin_ok Equal _ _ refl)
  read_origin_twin want other os (Wired may e) wider =
      then_reach Equal want other e.dims os _ _ wider (λ r.
      twin_needed Equal (is_readable may e os r.places) (is_readable may e os r.places) w
      ReadBeforeWrite _ _ (λ t. t) (λ t. twin_ok Equal _ _ refl))
  read_origin_twin want other os Lost wider = twin_ok Equal _ _ refl

  -- the signal of a component
  part_twin : (n : ℕ) (os : List (Option ℕ)) (f : Frame)
      → Twin Equal (part_at w dark n os f) (part_at w deep n os f)
  part_twin n os f =
      twin_same Equal (found w ReadBeforeWrite (entry_at f.components n)) _ _ (λ c.
      twin_needed Equal (is_some (all_known os)) (is_some (all_known os)) w UnknownIndex _ _
      (λ t. t) (λ t. then_reach Equal Scalar Scalar c.dims os _ _ tt
      (λ r. twin_itself (part_in w c r.places))))

  inner_twin : (root : Root) (os : List (Option ℕ)) (name : List ℕ) (f : Frame) (a : Counts)
      → Twin Equal (inner_origin w dark root os name f)
      (inner_origin w deep root os name (record f { added = a }))
  inner_twin (Named (meant.Component n)) os name f a =
      twin_next Equal Equal (part_at w dark n os f) (part_at w deep n os f)
      (λ j. located w name j f.parts) (λ j. located w name j f.parts) (part_twin n os f)
      (λ j i e. subst (λ b. Twin Equal (located w name j f.parts) (located w name b f.parts))
      (sym e) (twin_itself (located w name j f.parts)))
  inner_twin (Named (meant.Variable n)) os name f a = twin_bad Equal _ _
  inner_twin (Named (meant.Signal direction n)) os name f a = twin_bad Equal _ _
  inner_twin (Named meant.Other) os name f a = twin_bad Equal _ _
  inner_twin (Named (meant.Template n)) os name f a = twin_bad Equal _ _
  inner_twin (Named (meant.Function n)) os name f a = twin_bad Equal _ _
  inner_twin (Found source) os name f a = twin_bad Equal _ _

  -- operators
  divided_twin : (o : Option Value) → Twin Equal (divided_at w dark o) (divided_at w deep o)
  divided_twin (Some v) = twin_ok Equal v v refl
  divided_twin None = at dark deep darker
    where
      at : (dark deep : Bool) → Darker dark deep
          → Twin Equal (divided_at w dark None) (divided_at w deep None)
      at true deep d =
          subst (λ b. Twin Equal (divided_at w true None) (divided_at w b None)) (sym d)
          (twin_ok Equal Opaque Opaque refl)
      at false deep d = twin_bad Equal _ _

  applied_twin : (op : Operator) (x y : Value)
      → Twin Equal (applied w dark op x y) (applied w deep op x y)
  applied_twin (Strict op) x y = divided_twin (result_of op x y)
  applied_twin And x y = twin_ok Equal _ _ refl
  applied_twin Or x y = twin_ok Equal _ _ refl

origin_same : (w : Where) (root : Root) (f : Frame) (a : Counts)
    → origin_of w root (record f { added = a }) ≡ origin_of w root f
origin_same w (Found source) f a = refl
origin_same w (Named (meant.Variable n)) f a = refl
origin_same w (Named (meant.Signal direction n)) f a = refl
origin_same w (Named meant.Other) f a = refl
origin_same w (Named (meant.Component n)) f a = refl
origin_same w (Named (meant.Template n)) f a = refl
origin_same w (Named (meant.Function n)) f a = refl

gathered_twin : (w : Where) (ds : List Datum) (s : State) (a c : Counts) → Below a s.frame.added
    → Below c s.world.counts → Twin Answers (gathered w ds s) (gathered w ds (counted_as s a c))
gathered_twin w [] s a c i j = answered_twin Opaque s a c i j
gathered_twin w (d ∷ ds) s a c i j =
    twin_needed Answers (list_all (λ e. same_dims e.dims d.dims) ds)
    (list_all (λ e. same_dims e.dims d.dims) ds) w ShapeDiffers _ _ (λ t. t) (λ t.
    twin_ok Answers _ _ (
      refl,
      twin_of (adding (with_array (length (d ∷ ds) ∷ d.dims)) s)
          (with_array (length (d ∷ ds) ∷ d.dims) a) c
          (below_with_array (length (d ∷ ds) ∷ d.dims) a s.frame.added i) j,
    ))

module _ (k : Context) (calls : CallTwin k.call) where
  call_known_twin : (w : Where) (want other : Want) (m : Meant) (ds : List Datum) (s : State)
      (a c : Counts) → Wider want other → list_all is_all_known ds ≡ true
      → Below a s.frame.added → Below c s.world.counts
      → Twin Answers (call_known k w want m ds s) (call_known k w other m ds (counted_as s a c))
  call_known_twin w want other (meant.Function n) ds s a c wider known i j =
      twin_next WorldTwin Answers (k.call w n ds s.world)
      (k.call w n ds (record (s.world) { counts = c })) _ _ (calls w n ds s.world c known j)
      (λ x y p.
      subst (λ world. Twin Answers (needed (fits want x.0.dims) w ShapeDiffers
      (Ok (x.0, record s { world = x.1 })))
      (needed (fits other y.0.dims) w ShapeDiffers
      (Ok (y.0, record (counted_as s a c) { world = world })))) (sym p.1.1)
      (subst (λ d. Twin Answers (needed (fits want x.0.dims) w ShapeDiffers
      (Ok (x.0, record s { world = x.1 })))
      (needed (fits other d.dims) w ShapeDiffers
      (Ok (d, record (counted_as s a c) { world = record (x.1) { counts = p.1.0 } }))))
      (sym p.0)
      (twin_needed Answers (fits want x.0.dims) (fits other x.0.dims) w ShapeDiffers _ _
      (fits_wider want other x.0.dims wider) (λ t.
      twin_ok Answers _ _ (refl, twin_of (record s { world = x.1 }) a p.1.0 i p.1.2)))))
  call_known_twin w want other meant.Other ds s a c wider known i j = twin_bad Answers _ _
  call_known_twin w want other (meant.Variable n) ds s a c wider known i j = twin_bad Answers _ _
  call_known_twin w want other (meant.Signal direction n) ds s a c wider known i j =
      twin_bad Answers _ _
  call_known_twin w want other (meant.Component n) ds s a c wider known i j = twin_bad Answers _ _
  call_known_twin w want other (meant.Template n) ds s a c wider known i j = twin_bad Answers _ _

  called_twin : (w : Where) (want other : Want) (m : Meant) (arguments : Exprs Meant)
      (ds : List Datum) (s : State) (a c : Counts) → Wider want other → Below a s.frame.added
      → Below c s.world.counts
      → Twin Answers (called k w want m arguments ds s)
      (called k w other m arguments ds (counted_as s a c))
  called_twin w want other m arguments ds s a c wider i j = at (list_all is_all_known ds) refl
    where
      at : (b : Bool) → list_all is_all_known ds ≡ b
          → Twin Answers (cond b (call_known k w want m ds s)
          (cond (has_literal arguments) (refused w (NotInProfile LiteralPlace))
          (answered Opaque s)))
          (cond b (call_known k w other m ds (counted_as s a c))
          (cond (has_literal arguments) (refused w (NotInProfile LiteralPlace))
          (answered Opaque (counted_as s a c))))
      at true e = call_known_twin w want other m ds s a c wider e i j
      at false e =
          twin_if Answers (has_literal arguments) _ _ _ _ (twin_bad Answers _ _)
          (answered_twin Opaque s a c i j)

  mutual
    pub value_twin : (w : Where) (dark deep : Bool) (want other : Want) (e : Expr Meant) (s : State)
        (a c : Counts) → Darker dark deep → Wider want other → Below a s.frame.added
        → Below c s.world.counts
        → Twin Answers (value_in k w dark want e s) (value_in k w deep other e (counted_as s a c))
    value_twin w dark deep want other (Number n) s a c d u i j =
        answered_twin (Known (n % P)) s a c i j
    value_twin w dark deep want other (Place name m accessors) s a c d u i j =
        read_twin w dark deep want other (Named m) [] accessors s a c d u i j
    value_twin w dark deep want other (Call parallel name m arguments) s a c d u i j =
        then_twin Answers (all_in k w dark arguments s)
        (all_in k w deep arguments (counted_as s a c)) _ _ (all_twin w dark deep arguments s a c d
        i j)
        (λ ds s1 a1 c1 i1 j1. called_twin w want other m arguments ds s1 a1 c1 u i1 j1)
    value_twin w dark deep want other (Anonymous parallel name m arguments inputs) s a c d u i j =
        twin_bad Answers _ _
    value_twin w dark deep want other (Parentheses e) s a c d u i j =
        value_twin w dark deep want other e s a c d u i j
    value_twin w dark deep Scalar other (Array items) s a c d u i j = twin_bad Answers _ _
    value_twin w dark deep Whole Scalar (Array items) s a c d u i j = absurd u
    value_twin w dark deep Whole Whole (Array items) s a c d u i j =
        then_twin Answers (all_in k w dark items s) (all_in k w deep items (counted_as s a c)) _ _
        (all_twin w dark deep items s a c d i j)
        (λ ds s1 a1 c1 i1 j1. gathered_twin w ds s1 a1 c1 i1 j1)
    value_twin w dark deep want other (Unary op x) s a c d u i j =
        scalar_twin Answers (value_in k w dark Scalar x s)
        (value_in k w deep Scalar x (counted_as s a c)) _
        (λ v s1. answered (unary_result (unary_of op) v) s1)
        (value_twin w dark deep Scalar Scalar x s a c d tt i j)
        (λ v s1 a1 c1 i1 j1. answered_twin (unary_result (unary_of op) v) s1 a1 c1 i1 j1)
    value_twin w dark deep want other (Binary op x y) s a c d u i j =
        scalar_twin Answers (value_in k w dark Scalar x s)
        (value_in k w deep Scalar x (counted_as s a c)) _ (λ v s1.
        looked_at (shading (left_tells (operator_of op) v) deep) s1
        (λ deep1. value_in k w deep1 Scalar y s1) (λ z s2.
        next (applied w deep (operator_of op) v z) (λ r. answered r s2)))
        (value_twin w dark deep Scalar Scalar x s a c d tt i j)
        (λ v s1 a1 c1 i1 j1.
        looked_twin Answers (shading (left_tells (operator_of op) v) dark)
        (shading (left_tells (operator_of op) v) deep) s1 a1 c1 _
        (λ deep1. value_in k w deep1 Scalar y (counted_as s1 a1 c1)) _
        (λ z s2. next (applied w deep (operator_of op) v z) (λ r. answered r s2))
        (shading_darker (left_tells (operator_of op) v) dark deep d) i1 j1
        (λ dark1 deep1 d1. value_twin w dark1 deep1 Scalar Scalar y s1 a1 c1 d1 tt i1 j1)
        (λ z s2 a2 c2 i2 j2.
        twin_next Equal Answers (applied w dark (operator_of op) v z)
        (applied w deep (operator_of op) v z) _ _
        (applied_twin w dark deep d (operator_of op) v z) (λ r q e.
        subst (λ b. Twin Answers (answered r s2) (answered b (counted_as s2 a2 c2))) (sym e)
        (answered_twin r s2 a2 c2 i2 j2))))
    value_twin w dark deep want other (Choice x y z) s a c d u i j =
        scalar_twin Answers (value_in k w dark Scalar x s)
        (value_in k w deep Scalar x (counted_as s a c)) _ (λ v s1.
        looked_at (first_shading (side_of v) deep) s1 (λ deep1. value_in k w deep1 Scalar y s1)
        (λ r s2.
        looked_at (second_shading (side_of v) deep) s2 (λ deep1. value_in k w deep1 Scalar z s2)
        (λ q s3. answered (chosen (side_of v) r q) s3)))
        (value_twin w dark deep Scalar Scalar x s a c d tt i j)
        (λ v s1 a1 c1 i1 j1.
        looked_twin Answers (first_shading (side_of v) dark) (first_shading (side_of v) deep) s1 a1
        c1 _ (λ deep1. value_in k w deep1 Scalar y (counted_as s1 a1 c1)) _ (λ r s2.
        looked_at (second_shading (side_of v) deep) s2 (λ deep1. value_in k w deep1 Scalar z s2)
        (λ q s3. answered (chosen (side_of v) r q) s3)) (first_darker (side_of v) dark deep d) i1 j1
        (λ dark1 deep1 d1. value_twin w dark1 deep1 Scalar Scalar y s1 a1 c1 d1 tt i1 j1)
        (λ r s2 a2 c2 i2 j2.
        looked_twin Answers (second_shading (side_of v) dark) (second_shading (side_of v) deep) s2
        a2 c2 _ (λ deep1. value_in k w deep1 Scalar z (counted_as s2 a2 c2)) _
        (λ q s3. answered (chosen (side_of v) r q) s3) (second_darker (side_of v) dark deep d) i2 j2
        (λ dark1 deep1 d1. value_twin w dark1 deep1 Scalar Scalar z s2 a2 c2 d1 tt i2 j2)
        (λ q s3 a3 c3 i3 j3. answered_twin (chosen (side_of v) r q) s3 a3 c3 i3 j3)))

    pub all_twin : (w : Where) (dark deep : Bool) (es : Exprs Meant) (s : State) (a c : Counts)
        → Darker dark deep → Below a s.frame.added → Below c s.world.counts
        → Twin Answers (all_in k w dark es s) (all_in k w deep es (counted_as s a c))
    all_twin w dark deep none s a c d i j = twin_ok Answers _ _ (refl, twin_of s a c i j)
    all_twin w dark deep (more e es) s a c d i j =
        then_twin Answers (value_in k w dark Whole e s) (value_in k w deep Whole e (counted_as s a
        c)) _ _ (value_twin w dark deep Whole Whole e s a c d tt i j) (λ x s1 a1 c1 i1 j1.
        then_twin Answers (all_in k w dark es s1) (all_in k w deep es (counted_as s1 a1 c1)) _ _
        (all_twin w dark deep es s1 a1 c1 d i1 j1)
        (λ xs s2 a2 c2 i2 j2. twin_ok Answers _ _ (refl, twin_of s2 a2 c2 i2 j2)))

    read_twin : (w : Where) (dark deep : Bool) (want other : Want) (root : Root)
        (os : List (Option ℕ)) (accessors : Accessors Meant) (s : State) (a c : Counts)
        → Darker dark deep → Wider want other → Below a s.frame.added → Below c s.world.counts
        → Twin Answers (read_in k w dark want root os accessors s)
        (read_in k w deep other root os accessors (counted_as s a c))
    read_twin w dark deep want other root os done s a c d u i j =
        subst (λ o. Twin Answers (next (origin_of w root s.frame)
        (λ source. next (read_origin w dark want os source) (λ x. Ok (x, s))))
        (next o (λ source. next (read_origin w deep other os source)
        (λ x. Ok (x, counted_as s a c))))) (sym (origin_same w root s.frame a))
        (twin_same Answers (origin_of w root s.frame) _ _ (λ source.
        twin_next Equal Answers (read_origin w dark want os source)
        (read_origin w deep other os source) _ _
        (read_origin_twin w dark deep d want other os source u)
        (λ x y e. twin_ok Answers _ _ (e, twin_of s a c i j))))
    read_twin w dark deep want other root os (index e rest) s a c d u i j =
        scalar_twin Answers (value_in k w dark Scalar e s)
        (value_in k w deep Scalar e (counted_as s a c)) _
        (λ v s1. read_in k w deep other root (os ++ known_number v ∷ []) rest s1)
        (value_twin w dark deep Scalar Scalar e s a c d tt i j)
        (λ v s1 a1 c1 i1 j1. read_twin w dark deep want other root (os ++ known_number v ∷ []) rest
        s1 a1 c1 d u i1 j1)
    read_twin w dark deep want other root os (member name rest) s a c d u i j =
        twin_next Equal Answers (inner_origin w dark root os name s.frame)
        (inner_origin w deep root os name (record (s.frame) { added = a })) _ _
        (inner_twin w dark deep d root os name s.frame a) (λ source q e.
        subst (λ b. Twin Answers (read_in k w dark want (Found source) [] rest s)
        (read_in k w deep other (Found b) [] rest (counted_as s a c))) (sym e)
        (read_twin w dark deep want other (Found source) [] rest s a c d u i j))

  -- dimensions, and the indices of a written place
  pub dims_twin : (w : Where) (dark : Bool) (es : Exprs Meant) (s : State) (a c : Counts)
      → Below a s.frame.added → Below c s.world.counts
      → Twin Answers (dims_in k w dark es s) (dims_in k w dark es (counted_as s a c))
  dims_twin w dark none s a c i j = twin_ok Answers _ _ (refl, twin_of s a c i j)
  dims_twin w dark (more e es) s a c i j =
      scalar_twin Answers (value_in k w dark Scalar e s)
      (value_in k w dark Scalar e (counted_as s a c)) (λ v s1.
      known_at w (known_number v) (λ n.
      next (dims_in k w dark es s1) (λ (ns, s2). Ok (n ∷ ns, s2)))) (λ v s1.
      known_at w (known_number v) (λ n.
      next (dims_in k w dark es s1) (λ (ns, s2). Ok (n ∷ ns, s2))))
      (value_twin w dark dark Scalar Scalar e s a c (dark_itself dark) tt i j)
      (λ v s1 a1 c1 i1 j1.
      twin_same Answers (found w UnknownIndex (known_number v)) _ _ (λ n.
      then_twin Answers (dims_in k w dark es s1) (dims_in k w dark es (counted_as s1 a1 c1)) _ _
      (dims_twin w dark es s1 a1 c1 i1 j1)
      (λ ns s2 a2 c2 i2 j2. twin_ok Answers _ _ (refl, twin_of s2 a2 c2 i2 j2))))

  pub indices_twin : {A B : Type 0} (R : A → B → Type 0) (w : Where) (dark : Bool)
      (os : List (Option ℕ)) (accessors : Accessors Meant) (s : State) (a c : Counts)
      (go : List (Option ℕ) → Accessors Meant → State → Tried A)
      (on : List (Option ℕ) → Accessors Meant → State → Tried B)
      → Below a s.frame.added → Below c s.world.counts
      → ((os : List (Option ℕ)) (rest : Accessors Meant) (s : State) (a c : Counts)
      → Below a s.frame.added → Below c s.world.counts
      → Twin R (go os rest s) (on os rest (counted_as s a c)))
      → Twin R (indices_in k w dark os accessors s go)
      (indices_in k w dark os accessors (counted_as s a c) on)
  indices_twin R w dark os done s a c go on i j h = h os done s a c i j
  indices_twin R w dark os (member name rest) s a c go on i j h =
      h os (member name rest) s a c i j
  indices_twin R w dark os (index e rest) s a c go on i j h =
      scalar_twin R (value_in k w dark Scalar e s) (value_in k w dark Scalar e (counted_as s a c))
      _ (λ v s1. indices_in k w dark (os ++ known_number v ∷ []) rest s1 on)
      (value_twin w dark dark Scalar Scalar e s a c (dark_itself dark) tt i j)
      (λ v s1 a1 c1 i1 j1. indices_twin R w dark (os ++ known_number v ∷ []) rest s1 a1 c1 go on i1
      j1 h)
