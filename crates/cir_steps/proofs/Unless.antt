-- Two answers of which the first may miss a value; and an environment that has more numbers.
use Rattle.std.proofs.Common.{◌≡◌, ◌⊎◌, inl, inr, ℕ, Bool, true, false, cond, List, [], ◌∷◌, ◌++◌}
use Rattle.std.proofs.Common.{map, Option, Some, None, Result, Ok, Err, refl, sym, ap, subst}
use Rattle.std.specs.Prelude.{⊤, ◌==◌, unwrap_or}
use Rattle.cir_ast.specs.declared.program.Meant.{Meant}
use Rattle.cir_ast.specs.declared.program.Meant.TheVariants as meant
use Rattle.cir_ast.specs.Tree.{Expr, Number, Place, Call, Anonymous, Parentheses, Array, Unary}
use Rattle.cir_ast.specs.Tree.{Binary, Choice, Exprs, none, more, Accessors, done, index, member}
use Rattle.cir_meaning.specs.Tried.{next}
use Rattle.cir_meaning.specs.Places.{left_of, is_inside, places_of}
use Rattle.cir_meaning.specs.Arrays.{Shaped, made, single}
use Rattle.cir_meaning.specs.Operators.{operator_of, unary_of}
use Rattle.gold_field.specs.Operators.{unary_of as number_by}
use Rattle.cir_meaning.specs.RunValues.{Ran, Numbers, Environment, Store, missing, index_out, gives}
use Rattle.cir_meaning.specs.RunValues.{number, bounded, all_there, option_at, read_wired, RunRoot}
use Rattle.cir_meaning.specs.RunValues.{RunNamed, RunFound, read_option, read_root, inner_root}
use Rattle.cir_meaning.specs.RunValues.{call_function, unless_known, needs_right, result_number}
use Rattle.cir_meaning.specs.RunValues.{when, number_in, numbers_in, place_in, index_numbers}
use Rattle.cir_meaning.specs.RunValues.{dims_numbers}

-- the same answer, unless the first one misses a value
abbrev pub Unless : {A : Type 0} → Result A ℕ → Result A ℕ → Type 0
Unless m n = (m ≡ Err missing) ⊎ (m ≡ n)

pub unless_next : {A B : Type 0} (m n : Result A ℕ) (f g : A → Result B ℕ) → Unless m n
    → ((a : A) → Unless (f a) (g a)) → Unless (next m f) (next n g)
unless_next m n f g (inl e) h = inl (ap (λ r. next r f) e)
unless_next m n f g (inr e) h = subst (λ r. Unless (next m f) (next r g)) e (at m)
  where
    at : (m : Result _ ℕ) → Unless (next m f) (next m g)
    at (Ok a) = h a
    at (Err stop) = inr refl

pub unless_if : {A : Type 0} (b : Bool) (m n r s : Result A ℕ) → Unless m r → Unless n s
    → Unless (cond b m n) (cond b r s)
unless_if true m n r s h g = h
unless_if false m n r s h g = g

pub unless_number : {A : Type 0} (m n : Ran Numbers) (f g : ℕ → ℕ → Ran A) → Unless m n
    → ((i u : ℕ) → Unless (f i u) (g i u)) → Unless (number m f) (number n g)
unless_number m n f g h i =
    unless_next m n _ _ h (λ x. i _ x.1)

-- where they go on alike
pub unless_then : {A : Type 0} (m n : Ran Numbers) (f : ℕ → ℕ → Ran A) → Unless m n
    → Unless (number m f) (number n f)
unless_then m n f h = unless_number m n f f h (λ i u. inr refl)

-- an array that has more numbers
abbrev pub More : Shaped (Option ℕ) → Shaped (Option ℕ) → Type 0
More d e =
    (d.dims ≡ e.dims)
    × ((k x : ℕ) → option_at d.items k ≡ Some x → option_at e.items k ≡ Some x)

abbrev pub MoreOf : Option (Shaped (Option ℕ)) → Option (Shaped (Option ℕ)) → Type 0
MoreOf None o = ⊤
MoreOf (Some d) None = ⊥
MoreOf (Some d) (Some e) = More d e

abbrev pub MoreFrom : Result (Shaped (Option ℕ)) ℕ → Result (Shaped (Option ℕ)) ℕ → Type 0
MoreFrom (Ok d) (Ok e) = More d e
MoreFrom (Ok d) (Err stop) = ⊥
MoreFrom (Err stop) r = (stop ≡ missing) ⊎ (r ≡ Err stop)

pub record Richer (env other : Environment) : Type 0 where
  pub signal : (n : ℕ) → MoreOf (env.signal n) (other.signal n)
  pub part : (n : ℕ) (indices name : List ℕ)
      → MoreFrom (env.part n indices name) (other.part n indices name)
  pub known : (e : Expr Meant) → env.known e ≡ other.known e
  pub call : (n : ℕ) (ds : List Numbers) (u : ℕ) → env.call n ds u ≡ other.call n ds u

there_unless : (d e : Shaped (Option ℕ)) → More d e → (places : List ℕ)
    → Unless (all_there (map (option_at d.items) places))
    (all_there (map (option_at e.items) places))
there_unless d e h [] = inr refl
there_unless d e h (p ∷ ps) =
    at (option_at d.items p) (option_at e.items p) (h.1 p) (there_unless d e h ps)
  where
    rest : List (Option ℕ)
    rest = map (option_at d.items) ps

    others : List (Option ℕ)
    others = map (option_at e.items) ps

    at : (o q : Option ℕ) → ((x : ℕ) → o ≡ Some x → q ≡ Some x)
        → Unless (all_there rest) (all_there others)
        → Unless (all_there (o ∷ rest)) (all_there (q ∷ others))
    at None q g i = inl refl
    at (Some x) q g i =
        subst (λ r. Unless (all_there (Some x ∷ rest)) (all_there (r ∷ others))) (sym (g x refl))
        (unless_next (all_there rest) (all_there others) (λ ns. Ok (x ∷ ns)) (λ ns. Ok (x ∷ ns)) i
        (λ ns. inr refl))

pub bounded_unless : {A : Type 0} (dims indices : List ℕ) (f g : List ℕ → List ℕ → Result A ℕ)
    → ((left places : List ℕ) → Unless (f left places) (g left places))
    → Unless (bounded dims indices f) (bounded dims indices g)
bounded_unless dims indices f g h = at (is_inside dims (map Some indices))
  where
    left : List ℕ
    left = unwrap_or (left_of dims (map Some indices)) []

    at : (b : Bool) → Unless (cond b (f left (places_of dims (map Some indices))) (Err index_out))
        (cond b (g left (places_of dims (map Some indices))) (Err index_out))
    at true = h left (places_of dims (map Some indices))
    at false = inr refl

wired_unless : (d e : Shaped (Option ℕ)) → More d e → (indices : List ℕ) (u : ℕ)
    → Unless (read_wired d indices u) (read_wired e indices u)
wired_unless d e h indices u =
    subst (λ dims. Unless (read_wired d indices u)
    (bounded dims indices (λ left places. next (all_there (map (option_at e.items) places))
    (λ items. gives (made left items) u)))) h.0
    (bounded_unless d.dims indices
    (λ left places. next (all_there (map (option_at d.items) places))
    (λ items. gives (made left items) u))
    (λ left places. next (all_there (map (option_at e.items) places))
    (λ items. gives (made left items) u))
    (λ left places. unless_next (all_there (map (option_at d.items) places))
    (all_there (map (option_at e.items) places)) _ _ (there_unless d e h places)
    (λ ns. inr refl)))

module _ (env other : Environment) (store : Store) (richer : Richer env other) where
  abbrev MoreRoot : RunRoot → RunRoot → Type 0
  MoreRoot (RunNamed m) (RunNamed n) = m ≡ n
  MoreRoot (RunNamed m) (RunFound e) = ⊥
  MoreRoot (RunFound d) (RunNamed n) = ⊥
  MoreRoot (RunFound d) (RunFound e) = More d e

  option_unless : (o q : Option (Shaped (Option ℕ))) → MoreOf o q → (indices : List ℕ) (u : ℕ)
      → Unless (read_option o indices u) (read_option q indices u)
  option_unless None q h indices u = inl refl
  option_unless (Some d) None h indices u = absurd h
  option_unless (Some d) (Some e) h indices u = wired_unless d e h indices u

  named_unless : (m : Meant) (indices : List ℕ) (u : ℕ)
      → Unless (read_root env store (RunNamed m) indices u)
      (read_root other store (RunNamed m) indices u)
  named_unless (meant.Variable n) indices u = inr refl
  named_unless (meant.Signal direction n) indices u =
      option_unless (env.signal n) (other.signal n) (richer.signal n) indices u
  named_unless meant.Other indices u = inr refl
  named_unless (meant.Component n) indices u = inr refl
  named_unless (meant.Template n) indices u = inr refl
  named_unless (meant.Function n) indices u = inr refl

  root_unless : (r s : RunRoot) → MoreRoot r s → (indices : List ℕ) (u : ℕ)
      → Unless (read_root env store r indices u) (read_root other store s indices u)
  root_unless (RunNamed m) (RunNamed n) h indices u =
      subst (λ a. Unless (read_root env store (RunNamed m) indices u)
      (read_root other store (RunNamed a) indices u)) h (named_unless m indices u)
  root_unless (RunNamed m) (RunFound e) h indices u = absurd h
  root_unless (RunFound d) (RunNamed n) h indices u = absurd h
  root_unless (RunFound d) (RunFound e) h indices u = wired_unless d e h indices u

  named_more : (m : Meant) (indices name : List ℕ)
      → MoreFrom (inner_root env (RunNamed m) indices name)
      (inner_root other (RunNamed m) indices name)
  named_more (meant.Component n) indices name = richer.part n indices name
  named_more meant.Other indices name = inl refl
  named_more (meant.Variable n) indices name = inl refl
  named_more (meant.Signal direction n) indices name = inl refl
  named_more (meant.Template n) indices name = inl refl
  named_more (meant.Function n) indices name = inl refl

  inner_more : (r s : RunRoot) → MoreRoot r s → (indices name : List ℕ)
      → MoreFrom (inner_root env r indices name) (inner_root other s indices name)
  inner_more (RunNamed m) (RunNamed n) h indices name =
      subst (λ a. MoreFrom (inner_root env (RunNamed m) indices name)
      (inner_root other (RunNamed a) indices name)) h (named_more m indices name)
  inner_more (RunNamed m) (RunFound e) h indices name = absurd h
  inner_more (RunFound d) s h indices name = inl refl

  found_unless : (r s : Result (Shaped (Option ℕ)) ℕ) → MoreFrom r s
      → (go on : Shaped (Option ℕ) → Ran Numbers)
      → ((d e : Shaped (Option ℕ)) → More d e → Unless (go d) (on e))
      → Unless (next r go) (next s on)
  found_unless (Ok d) (Ok e) h go on f = f d e h
  found_unless (Ok d) (Err stop) h go on f = absurd h
  found_unless (Err stop) s (inl e) go on f = inl (ap Err e)
  found_unless (Err stop) s (inr e) go on f = inr (sym (ap (λ r. next r on) e))

  made_unless : (m : Meant) (ds : List Numbers) (u : ℕ)
      → Unless (call_function env m ds u) (call_function other m ds u)
  made_unless (meant.Function n) ds u = inr (richer.call n ds u)
  made_unless meant.Other ds u = inr refl
  made_unless (meant.Variable n) ds u = inr refl
  made_unless (meant.Signal direction n) ds u = inr refl
  made_unless (meant.Component n) ds u = inr refl
  made_unless (meant.Template n) ds u = inr refl

  known_unless : (o q : Option Numbers) → o ≡ q → (u : ℕ) (m n : Ran Numbers) → Unless m n
      → Unless (unless_known o u m) (unless_known q u n)
  known_unless None q e u m n h =
      subst (λ r. Unless (unless_known None u m) (unless_known r u n)) e h
  known_unless (Some d) q e u m n h =
      subst (λ r. Unless (unless_known (Some d) u m) (unless_known r u n)) e (inr refl)

  when_unless : (b : Bool) (u : ℕ) (m n : Ran Numbers) → Unless m n
      → Unless (when b u m) (when b u n)
  when_unless true u m n h = h
  when_unless false u m n h = inr refl

  mutual
    pub value_unless : (e : Expr Meant) (u : ℕ)
        → Unless (number_in env store e u) (number_in other store e u)
    value_unless (Number n) u = inr refl
    value_unless (Place name m accessors) u =
        place_unless (RunNamed m) (RunNamed m) [] accessors u refl
    value_unless (Call parallel name m arguments) u =
        known_unless _ _ (richer.known (Call parallel name m arguments)) u _ _
        (unless_next (numbers_in env store arguments u) (numbers_in other store arguments u) _ _
        (values_unless arguments u) (λ x. made_unless m x.0 x.1))
    value_unless (Anonymous parallel name m arguments inputs) u = inr refl
    value_unless (Parentheses e) u = value_unless e u
    value_unless (Array elements) u =
        unless_next (numbers_in env store elements u) (numbers_in other store elements u) _ _
        (values_unless elements u) (λ x. inr refl)
    value_unless (Unary op a) u =
        unless_then (number_in env store a u) (number_in other store a u)
        (λ m u1. gives (single (number_by (unary_of op) m)) u1) (value_unless a u)
    value_unless (Binary op a b) u =
        unless_number (number_in env store a u) (number_in other store a u) _ _ (value_unless a u)
        (λ m u1. unless_then (when (needs_right (operator_of op) m) u1 (number_in env store b u1))
        (when (needs_right (operator_of op) m) u1 (number_in other store b u1))
        (λ n u2. next (result_number (operator_of op) m n) (λ x. gives (single x) u2))
        (when_unless (needs_right (operator_of op) m) u1 _ _ (value_unless b u1)))
    value_unless (Choice c a b) u =
        unless_number (number_in env store c u) (number_in other store c u) _ _ (value_unless c u)
        (λ m u1. unless_then
        (cond (m == 0) (number_in env store b u1) (number_in env store a u1))
        (cond (m == 0) (number_in other store b u1) (number_in other store a u1))
        (λ n u2. gives (single n) u2)
        (unless_if (m == 0) (number_in env store b u1) (number_in env store a u1)
        (number_in other store b u1) (number_in other store a u1) (value_unless b u1)
        (value_unless a u1)))

    pub values_unless : (es : Exprs Meant) (u : ℕ)
        → Unless (numbers_in env store es u) (numbers_in other store es u)
    values_unless none u = inr refl
    values_unless (more e es) u =
        unless_next (number_in env store e u) (number_in other store e u) _ _ (value_unless e u)
        (λ x. unless_next (numbers_in env store es x.1) (numbers_in other store es x.1) _ _
        (values_unless es x.1) (λ y. inr refl))

    place_unless : (r s : RunRoot) (indices : List ℕ) (accessors : Accessors Meant) (u : ℕ)
        → MoreRoot r s
        → Unless (place_in env store r indices accessors u)
        (place_in other store s indices accessors u)
    place_unless r s indices done u h = root_unless r s h indices u
    place_unless r s indices (index e rest) u h =
        unless_number (number_in env store e u) (number_in other store e u) _ _ (value_unless e u)
        (λ n u1. place_unless r s (indices ++ n ∷ []) rest u1 h)
    place_unless r s indices (member name rest) u h =
        found_unless (inner_root env r indices name) (inner_root other s indices name)
        (inner_more r s h indices name) _ _
        (λ d e i. place_unless (RunFound d) (RunFound e) [] rest u i)

  pub indices_unless : {A : Type 0} (indices : List ℕ) (accessors : Accessors Meant) (u : ℕ)
      (f g : List ℕ → ℕ → Ran A) → ((is : List ℕ) (v : ℕ) → Unless (f is v) (g is v))
      → Unless (index_numbers env store indices accessors u f)
      (index_numbers other store indices accessors u g)
  indices_unless indices done u f g h = h indices u
  indices_unless indices (member name rest) u f g h = h indices u
  indices_unless indices (index e rest) u f g h =
      unless_number (number_in env store e u) (number_in other store e u) _ _ (value_unless e u)
      (λ n u1. indices_unless (indices ++ n ∷ []) rest u1 f g h)

  pub dims_unless : (es : Exprs Meant) (u : ℕ)
      → Unless (dims_numbers env store es u) (dims_numbers other store es u)
  dims_unless none u = inr refl
  dims_unless (more e es) u =
      unless_number (number_in env store e u) (number_in other store e u) _ _ (value_unless e u)
      (λ n u1. unless_next (dims_numbers env store es u1) (dims_numbers other store es u1)
      (λ x. gives (n ∷ x.0) x.1) (λ x. gives (n ∷ x.0) x.1) (dims_unless es u1) (λ x. inr refl))
