-- What is evaluated on numbers of the field when a program runs gives numbers of the field.
use Rattle.std.proofs.Common.{◌≡◌, ℕ, zero, suc, ◌<◌, refl, subst, replicate, Bool, true, false}
use Rattle.std.proofs.Common.{cond, List, [], ◌∷◌, ◌++◌, map, length, Option, Some, None, Result}
use Rattle.std.proofs.Common.{Ok, Err, slice_index, arith}
use Rattle.std.specs.Prelude.{⊤, ◌==◌, unwrap_or}
use Rattle.std.specs.List.{AllByRecursion}
use Rattle.gold_field.specs.declared.gold.TheConstants.{P}
use Rattle.gold_field.specs.Operators.{unary_of as number_by, binary_of}
use Rattle.gold_field.specs.declared.operators.Op2.{Op2}
use Rattle.gold_field.proofs.Answers.{unary_below, binary_below}
use Rattle.cir_ast.specs.declared.program.Meant.{Meant}
use Rattle.cir_ast.specs.declared.program.Meant.TheVariants as meant
use Rattle.cir_ast.specs.Tree.{Expr, Number, Place, Call, Anonymous, Parentheses, Array, Unary}
use Rattle.cir_ast.specs.Tree.{Binary, Choice, Exprs, none, more, Accessors, done, index, member}
use Rattle.cir_meaning.specs.Tried.{next}
use Rattle.cir_meaning.specs.Limits.{is_too_large}
use Rattle.cir_meaning.specs.Places.{elements, is_inside, left_of, places_of}
use Rattle.cir_meaning.specs.Arrays.{Shaped, single, made, filled}
use Rattle.cir_meaning.specs.Values.{truth_number, and_number, or_number}
use Rattle.cir_meaning.specs.Operators.{Operator, Strict, And, Or, operator_of, unary_of}
use Rattle.cir_meaning.specs.RunValues.{Ran, Numbers, Environment, Store, stored, number, number_in}
use Rattle.cir_meaning.specs.RunValues.{numbers_in, place_in, index_numbers, dims_numbers, bounded}
use Rattle.cir_meaning.specs.RunValues.{the_number, RunRoot, RunNamed, RunFound, read_root}
use Rattle.cir_meaning.specs.RunValues.{read_wired, read_stored, read_option, inner_root, all_there}
use Rattle.cir_meaning.specs.RunValues.{option_at, gathered_numbers, call_function, unless_known}
use Rattle.cir_meaning.specs.RunValues.{needs_right, result_number, unless_zero_divisor, when}
use Rattle.cir_meaning.specs.RunValues.{index_out}
use Rattle.cir_meaning.proofs.Good.{OnSome'}
use Rattle.cir_meaning.proofs.Rows.{all_replicate, all_map, all_joined}

abbrev pub Small : Numbers → Type 0
Small d = AllByRecursion (λ n. n < P) d.items

abbrev pub SmallAll : List Numbers → Type 0
SmallAll ds = AllByRecursion Small ds

abbrev pub SmallOption : Option ℕ → Type 0
SmallOption = OnSome' (λ n. n < P)

abbrev pub SmallWires : Shaped (Option ℕ) → Type 0
SmallWires d = AllByRecursion SmallOption d.items

-- what an answer is, unless it is a stop
unfoldable pub Gives : {A : Type 0} → (A → Type 0) → Result A ℕ → Type 0
Gives Q (Ok a) = Q a
Gives Q (Err stop) = ⊤

pub gives_ok : {A : Type 0} (Q : A → Type 0) (a : A) → Q a → Gives Q (Ok a)
unfolding Gives
gives_ok Q a h = h

pub gives_stop : {A : Type 0} (Q : A → Type 0) (stop : ℕ) → Gives Q (Err stop)
unfolding Gives
gives_stop Q stop = tt

pub gives_next : {A B : Type 0} (E : A → Type 0) (Q : B → Type 0) (m : Result A ℕ)
    (go : A → Result B ℕ) → Gives E m → ((a : A) → E a → Gives Q (go a)) → Gives Q (next m go)
unfolding Gives
gives_next E Q (Ok a) go h f = f a h
gives_next E Q (Err stop) go h f = tt

pub gives_if : {A : Type 0} (Q : A → Type 0) (b : Bool) (x y : Result A ℕ) → Gives Q x
    → Gives Q y → Gives Q (cond b x y)
gives_if Q true x y h g = h
gives_if Q false x y h g = g

pub gives_is : {A : Type 0} (Q : A → Type 0) (m : Result A ℕ) (a : A) → Gives Q m → m ≡ Ok a
    → Q a
unfolding Gives
gives_is Q (Ok b) a h e = let same : b ≡ a = cc in subst Q same h
gives_is Q (Err stop) a h e = cc

abbrev pub SmallAnswer : Numbers × ℕ → Type 0
SmallAnswer x = Small x.0

pub zero_small : 0 < P
zero_small = omega arith

pub single_small : (n : ℕ) → n < P → Small (single n)
single_small n h = (h, tt)

pub index_small : (xs : List ℕ) (k : ℕ) → AllByRecursion (λ n. n < P) xs
    → slice_index xs k < P
index_small [] k h = zero_small
index_small (x ∷ xs) zero h = h.0
index_small (x ∷ xs) (suc k) h = index_small xs k h.1

pub number_small : {A : Type 0} (Q : A → Type 0) (m : Ran Numbers) (go : ℕ → ℕ → Ran A)
    → Gives SmallAnswer m → ((n u : ℕ) → n < P → Gives (λ x. Q x.0) (go n u))
    → Gives (λ x. Q x.0) (number m go)
number_small Q m go h f =
    gives_next SmallAnswer (λ x. Q x.0) m _ h (λ x s.
    f (the_number x.0) x.1 (index_small x.0.items 0 s))

pub made_small : (dims : List ℕ) (xs : List ℕ) → AllByRecursion (λ n. n < P) xs
    → Small (made dims xs)
made_small dims xs h = at (is_too_large dims)
  where
    at : (b : Bool) → AllByRecursion (λ n. n < P) (cond b [] xs)
    at true = tt
    at false = h

pub filled_small : (dims : List ℕ) → Small (filled dims 0)
filled_small dims = at (is_too_large dims)
  where
    at : (b : Bool) → AllByRecursion (λ n. n < P) (cond b [] (replicate (elements dims) 0))
    at true = tt
    at false = all_replicate (λ n. n < P) (elements dims) 0 zero_small

pub bounded_gives : {A : Type 0} (Q : A → Type 0) (dims indices : List ℕ)
    (go : List ℕ → List ℕ → Result A ℕ) → ((left places : List ℕ) → Gives Q (go left places))
    → Gives Q (bounded dims indices go)
bounded_gives Q dims indices go h =
    gives_if Q (is_inside dims (map Some indices))
    (go (unwrap_or (left_of dims (map Some indices)) []) (places_of dims (map Some indices)))
    (Err index_out)
    (h (unwrap_or (left_of dims (map Some indices)) []) (places_of dims (map Some indices)))
    (gives_stop Q index_out)

pub stored_small : (store : Store) (n : ℕ) → SmallAll store → Small (stored store n)
stored_small [] n h = (zero_small, tt)
stored_small (d ∷ ds) zero h = h.0
stored_small (d ∷ ds) (suc n) h = stored_small ds n h.1

option_small : (xs : List (Option ℕ)) (k : ℕ) → AllByRecursion SmallOption xs
    → SmallOption (option_at xs k)
option_small [] k h = zero_small
option_small (x ∷ xs) zero h = h.0
option_small (x ∷ xs) (suc k) h = option_small xs k h.1

there_small : (xs : List (Option ℕ)) → AllByRecursion SmallOption xs
    → Gives (λ ns. AllByRecursion (λ n. n < P) ns) (all_there xs)
there_small [] h = gives_ok (λ ns. AllByRecursion (λ n. n < P) ns) [] tt
there_small (None ∷ xs) h = gives_stop (λ ns. AllByRecursion (λ n. n < P) ns) 0
there_small (Some n ∷ xs) h =
    gives_next (λ ns. AllByRecursion (λ n. n < P) ns) (λ ns. AllByRecursion (λ n. n < P) ns)
    (all_there xs) _ (there_small xs h.1)
    (λ ns s. gives_ok (λ ns. AllByRecursion (λ n. n < P) ns) (n ∷ ns) (h.0, s))

wired_small : (d : Shaped (Option ℕ)) (indices : List ℕ) (u : ℕ) → SmallWires d
    → Gives SmallAnswer (read_wired d indices u)
wired_small d indices u h =
    bounded_gives SmallAnswer d.dims indices _ (λ left places.
    gives_next (λ ns. AllByRecursion (λ n. n < P) ns) SmallAnswer
    (all_there (map (option_at d.items) places)) _
    (there_small (map (option_at d.items) places)
    (all_map SmallOption (option_at d.items) places (λ k. option_small d.items k h)))
    (λ items s. gives_ok SmallAnswer (made left items, u) (made_small left items s)))

read_small : (d : Numbers) (indices : List ℕ) (u : ℕ) → Small d
    → Gives SmallAnswer (read_stored d indices u)
read_small d indices u h =
    bounded_gives SmallAnswer d.dims indices _ (λ left places.
    gives_ok SmallAnswer (made left (map (slice_index d.items) places), u)
    (made_small left (map (slice_index d.items) places)
    (all_map (λ n. n < P) (slice_index d.items) places (λ k. index_small d.items k h))))

gathered_small : (ds : List Numbers) → SmallAll ds → Small (gathered_numbers ds)
gathered_small [] h = (zero_small, tt)
gathered_small (d ∷ ds) h =
    made_small (length (d ∷ ds) ∷ d.dims) _
    (all_joined (λ n. n < P) (λ (e : Numbers). e.items) (d ∷ ds) h)

truth_small : (n : ℕ) → truth_number n < P
truth_small n = at (n == 0)
  where
    at : (b : Bool) → cond b 0 1 < P
    at true = omega arith
    at false = omega arith

strict_small : (op : Op2) (m n : ℕ) → m < P
    → Gives (λ x. x < P) (unless_zero_divisor (binary_of op m n))
strict_small op m n h = at (binary_of op m n) refl
  where
    at : (o : Option ℕ) → binary_of op m n ≡ o → Gives (λ x. x < P) (unless_zero_divisor o)
    at None e = gives_stop (λ x. x < P) 3
    at (Some v) e = gives_ok (λ x. x < P) v (binary_below op m n v h e)

result_small : (op : Operator) (m n : ℕ) → m < P → Gives (λ x. x < P) (result_number op m n)
result_small (Strict op) m n h = strict_small op m n h
result_small And m n h = gives_ok (λ x. x < P) (and_number m n) (at (m == 0))
  where
    at : (b : Bool) → cond b 0 (truth_number n) < P
    at true = zero_small
    at false = truth_small n
result_small Or m n h = gives_ok (λ x. x < P) (or_number m n) (at (m == 0))
  where
    at : (b : Bool) → cond b (truth_number n) 1 < P
    at true = truth_small n
    at false = omega arith

when_small : (b : Bool) (u : ℕ) (m : Ran Numbers) → Gives SmallAnswer m
    → Gives SmallAnswer (when b u m)
when_small true u m h = h
when_small false u m h = gives_ok SmallAnswer (single 0, u) (zero_small, tt)

-- what names mean
pub record SmallEnvironment (env : Environment) : Type 0 where
  pub signal : (n : ℕ) (d : Shaped (Option ℕ)) → env.signal n ≡ Some d → SmallWires d
  pub part : (n : ℕ) (is name : List ℕ) → Gives SmallWires (env.part n is name)
  pub known : (e : Expr Meant) (d : Numbers) → env.known e ≡ Some d → Small d
  pub call : (f : ℕ) (ds : List Numbers) (u : ℕ) → SmallAll ds → Gives SmallAnswer (env.call f ds u)

abbrev pub SmallRoot : RunRoot → Type 0
SmallRoot (RunNamed m) = ⊤
SmallRoot (RunFound d) = SmallWires d

module _ (env : Environment) (small : SmallEnvironment env) where
  root_small : (store : Store) (root : RunRoot) (indices : List ℕ) (u : ℕ) → SmallAll store
      → SmallRoot root → Gives SmallAnswer (read_root env store root indices u)
  root_small store (RunFound d) indices u h r = wired_small d indices u r
  root_small store (RunNamed (meant.Variable n)) indices u h r =
      read_small (stored store n) indices u (stored_small store n h)
  root_small store (RunNamed (meant.Signal direction n)) indices u h r = at (env.signal n) refl
    where
      at : (o : Option (Shaped (Option ℕ))) → env.signal n ≡ o
          → Gives SmallAnswer (read_option o indices u)
      at None e = gives_stop SmallAnswer 0
      at (Some d) e = wired_small d indices u (small.signal n d e)
  root_small store (RunNamed meant.Other) indices u h r = gives_stop SmallAnswer 0
  root_small store (RunNamed (meant.Component n)) indices u h r = gives_stop SmallAnswer 0
  root_small store (RunNamed (meant.Template n)) indices u h r = gives_stop SmallAnswer 0
  root_small store (RunNamed (meant.Function n)) indices u h r = gives_stop SmallAnswer 0

  inner_small : (root : RunRoot) (indices name : List ℕ)
      → Gives SmallWires (inner_root env root indices name)
  inner_small (RunNamed (meant.Component n)) indices name = small.part n indices name
  inner_small (RunNamed meant.Other) indices name = gives_stop SmallWires 0
  inner_small (RunNamed (meant.Variable n)) indices name = gives_stop SmallWires 0
  inner_small (RunNamed (meant.Signal direction n)) indices name = gives_stop SmallWires 0
  inner_small (RunNamed (meant.Template n)) indices name = gives_stop SmallWires 0
  inner_small (RunNamed (meant.Function n)) indices name = gives_stop SmallWires 0
  inner_small (RunFound d) indices name = gives_stop SmallWires 0

  call_small : (m : Meant) (ds : List Numbers) (u : ℕ) → SmallAll ds
      → Gives SmallAnswer (call_function env m ds u)
  call_small (meant.Function f) ds u h = small.call f ds u h
  call_small meant.Other ds u h = gives_stop SmallAnswer 0
  call_small (meant.Variable n) ds u h = gives_stop SmallAnswer 0
  call_small (meant.Signal direction n) ds u h = gives_stop SmallAnswer 0
  call_small (meant.Component n) ds u h = gives_stop SmallAnswer 0
  call_small (meant.Template n) ds u h = gives_stop SmallAnswer 0

  known_small : (o : Option Numbers) (u : ℕ) (m : Ran Numbers)
      → ((d : Numbers) → o ≡ Some d → Small d) → Gives SmallAnswer m
      → Gives SmallAnswer (unless_known o u m)
  known_small None u m k h = h
  known_small (Some d) u m k h = gives_ok SmallAnswer (d, u) (k d refl)

  mutual
    pub value_small : (store : Store) (e : Expr Meant) (u : ℕ) → SmallAll store
        → Gives SmallAnswer (number_in env store e u)
    value_small store (Number n) u h = gives_ok SmallAnswer _ (single_small _ (omega arith))
    value_small store (Place name m accessors) u h =
        place_small store (RunNamed m) [] accessors u h tt
    value_small store (Call parallel name m arguments) u h =
        known_small (env.known (Call parallel name m arguments)) u _
        (λ d e. small.known (Call parallel name m arguments) d e)
        (gives_next (λ x. SmallAll x.0) SmallAnswer (numbers_in env store arguments u) _
        (values_small store arguments u h) (λ x s. call_small m x.0 x.1 s))
    value_small store (Anonymous parallel name m arguments inputs) u h = gives_stop SmallAnswer 0
    value_small store (Parentheses e) u h = value_small store e u h
    value_small store (Array es) u h =
        gives_next (λ x. SmallAll x.0) SmallAnswer (numbers_in env store es u) _
        (values_small store es u h)
        (λ x s. gives_ok SmallAnswer (gathered_numbers x.0, x.1) (gathered_small x.0 s))
    value_small store (Unary op a) u h =
        number_small Small (number_in env store a u) _ (value_small store a u h) (λ m u1 s.
        gives_ok SmallAnswer (single (number_by (unary_of op) m), u1)
        (single_small (number_by (unary_of op) m) (unary_below (unary_of op) m)))
    value_small store (Binary op a b) u h =
        number_small Small (number_in env store a u) _ (value_small store a u h) (λ m u1 s.
        number_small Small
        (when (needs_right (operator_of op) m) u1 (number_in env store b u1)) _
        (when_small (needs_right (operator_of op) m) u1 (number_in env store b u1)
        (value_small store b u1 h)) (λ n u2 t.
        gives_next (λ x. x < P) SmallAnswer (result_number (operator_of op) m n) _
        (result_small (operator_of op) m n s)
        (λ x l. gives_ok SmallAnswer (single x, u2) (single_small x l))))
    value_small store (Choice c a b) u h =
        number_small Small (number_in env store c u) _ (value_small store c u h) (λ m u1 s.
        number_small Small (cond (m == 0) (number_in env store b u1) (number_in env store a u1)) _
        (gives_if SmallAnswer (m == 0) (number_in env store b u1) (number_in env store a u1)
        (value_small store b u1 h) (value_small store a u1 h)) (λ n u2 l.
        gives_ok SmallAnswer (single n, u2) (single_small n l)))

    pub values_small : (store : Store) (es : Exprs Meant) (u : ℕ) → SmallAll store
        → Gives (λ (x : List Numbers × ℕ). SmallAll x.0) (numbers_in env store es u)
    values_small store none u h = gives_ok (λ (x : List Numbers × ℕ). SmallAll x.0) ([], u) tt
    values_small store (more e es) u h =
        gives_next SmallAnswer (λ (x : List Numbers × ℕ). SmallAll x.0)
        (number_in env store e u) _ (value_small store e u h) (λ x s.
        gives_next (λ (x : List Numbers × ℕ). SmallAll x.0)
        (λ (x : List Numbers × ℕ). SmallAll x.0) (numbers_in env store es x.1) _
        (values_small store es x.1 h) (λ y t.
        gives_ok (λ (x : List Numbers × ℕ). SmallAll x.0) (x.0 ∷ y.0, y.1) (s, t)))

    pub place_small : (store : Store) (root : RunRoot) (indices : List ℕ)
        (accessors : Accessors Meant) (u : ℕ) → SmallAll store → SmallRoot root
        → Gives SmallAnswer (place_in env store root indices accessors u)
    place_small store root indices done u h r = root_small store root indices u h r
    place_small store root indices (index e rest) u h r =
        number_small Small (number_in env store e u) _ (value_small store e u h) (λ n u1 s.
        place_small store root (indices ++ n ∷ []) rest u1 h r)
    place_small store root indices (member name rest) u h r =
        gives_next SmallWires SmallAnswer (inner_root env root indices name) _
        (inner_small root indices name) (λ d s.
        place_small store (RunFound d) [] rest u h s)

  -- indices, whatever their numbers are
  pub indices_gives : {A : Type 0} (Q : A → Type 0) (store : Store) (indices : List ℕ)
      (accessors : Accessors Meant) (u : ℕ) (go : List ℕ → ℕ → Ran A) → SmallAll store
      → ((is : List ℕ) (u : ℕ) → Gives (λ x. Q x.0) (go is u))
      → Gives (λ x. Q x.0) (index_numbers env store indices accessors u go)
  indices_gives Q store indices done u go h f = f indices u
  indices_gives Q store indices (member name rest) u go h f = f indices u
  indices_gives Q store indices (index e rest) u go h f =
      number_small Q (number_in env store e u) _ (value_small store e u h) (λ n u1 s.
      indices_gives Q store (indices ++ n ∷ []) rest u1 go h f)

  pub dims_give : (store : Store) (es : Exprs Meant) (u : ℕ) → SmallAll store
      → Gives (λ x. ⊤) (dims_numbers env store es u)
  dims_give store none u h = gives_ok (λ x. ⊤) ([], u) tt
  dims_give store (more e es) u h =
      number_small (λ x. ⊤) (number_in env store e u) _ (value_small store e u h) (λ n u1 s.
      gives_next (λ x. ⊤) (λ x. ⊤) (dims_numbers env store es u1) _ (dims_give store es u1 h)
      (λ x t. gives_ok (λ x. ⊤) (n ∷ x.0, x.1) tt))
