-- The code of expressions asks for the values of the calls that stand in them, and of no others.
use Rattle.std.proofs.Common.{◌≡◌, ◌∙◌, ℕ, suc, ◌+◌, List, [], ◌∷◌, ◌++◌, length, refl, ap}
use Rattle.std.specs.Prelude.{◌==◌, if◌then◌else◌, Option, Some, None}
use Rattle.std.specs.List.{list_any, AllByRecursion}
use Rattle.wit_code.specs.declared.code.Op.TheVariants as op
use Rattle.cir_ast.specs.declared.program.Meant.{Meant}
use Rattle.cir_ast.specs.declared.program.Meant.TheVariants as meant
use Rattle.cir_ast.specs.Tree.{Expr, Number, Place, Call, Anonymous, Parentheses, Array, Unary}
use Rattle.cir_ast.specs.Tree.{Binary, Choice, Exprs, none, more, Accessors, done, index, member}
use Rattle.gold_field.specs.Operators.{unary_of as number_by}
use Rattle.cir_meaning.specs.Costs.{Made}
use Rattle.cir_meaning.specs.Operators.{operator_of, unary_of}
use Rattle.cir_meaning.specs.Places.{all_known}
use Rattle.wit_lower.specs.Homes as L
use Rattle.wit_lower.specs.Known as K
use Rattle.wit_lower.specs.Pieces as P
use Rattle.wit_lower.specs.Sources as R
use Rattle.wit_lower.specs.Values as V
use Rattle.wit_sourced.specs.Loaded.{Calls}
use Rattle.wit_emit.specs.Asked.{asked, all_asked, place_asked}

pub all_front : {A : Type 0} (P : A → Type 0) (xs ys : List A) → AllByRecursion P (xs ++ ys)
    → AllByRecursion P xs
all_front P [] ys h = tt
all_front P (x ∷ xs) ys h = (h.0, all_front P xs ys h.1)

pub all_back : {A : Type 0} (P : A → Type 0) (xs ys : List A) → AllByRecursion P (xs ++ ys)
    → AllByRecursion P ys
all_back P [] ys h = h
all_back P (x ∷ xs) ys h = all_back P xs ys h.1

-- two grounds of a step, which differ in the values of calls
module _ (keys : List Made) (shapes : List R.Shape) (components : ℕ → List ℕ)
    (list : List R.Source) (changed : List ℕ) (one two : Calls) where
  abbrev pub sources_with : Calls → R.Sources
  sources_with called =
      record { shapes = shapes; components = components; called = called; list = list }

  abbrev pub ground_with : Calls → L.Ground
  ground_with called = record {
    keys = keys;
    known = K.number_known (sources_with called) changed;
    called = called;
    components = components;
  }

  abbrev pub Agree : List (Expr Meant) → Type 0
  Agree calls = AllByRecursion (λ c. one c ≡ two c) calls

  pub front : (xs ys : List (Expr Meant)) → Agree (xs ++ ys) → Agree xs
  front xs ys h = all_front (λ c. one c ≡ two c) xs ys h

  pub back : (xs ys : List (Expr Meant)) → Agree (xs ++ ys) → Agree ys
  back xs ys h = all_back (λ c. one c ≡ two c) xs ys h

  element_same : (n : ℕ) (home : Option L.Home) (is : List ℕ)
      → K.element_known (sources_with one) n home is
      ≡ K.element_known (sources_with two) n home is
  element_same n None is = refl
  element_same n (Some h) is = refl

  variable_same : (m : Meant) (is : Option (List ℕ))
      → K.variable_known (sources_with one) changed m is
      ≡ K.variable_known (sources_with two) changed m is
  variable_same (meant.Variable n) (Some is) =
      ap (λ k. if list_any (λ m. m == n) changed then None else k)
      (element_same n (L.find (L.Variable n) (R.scope_of (sources_with one)).homes) is)
  variable_same (meant.Variable n) None = refl
  variable_same meant.Other is = refl
  variable_same (meant.Signal direction n) is = refl
  variable_same (meant.Component n) is = refl
  variable_same (meant.Template n) is = refl
  variable_same (meant.Function n) is = refl

  mutual
    pub known_same : (e : Expr Meant) → Agree (asked e)
        → K.number_known (sources_with one) changed e
        ≡ K.number_known (sources_with two) changed e
    known_same (Number n) h = refl
    known_same (Place name m accessors) h = place_known_same m [] accessors h
    known_same (Call parallel name m arguments) h = ap K.called_known h.0
    known_same (Anonymous parallel name m arguments inputs) h = refl
    known_same (Parentheses e) h = known_same e h
    known_same (Array elements) h = refl
    known_same (Unary o a) h = ap (K.unary_known (number_by (unary_of o))) (known_same a h)
    known_same (Binary o a b) h = λ i.
        K.binary_known (operator_of o) (known_same a (front (asked a) (asked b) h) i)
        (known_same b (back (asked a) (asked b) h) i)
    known_same (Choice c a b) h =
        let rest = back (asked c) (asked a ++ asked b) h in λ i.
        K.choice_known (known_same c (front (asked c) (asked a ++ asked b) h) i)
        (known_same a (front (asked a) (asked b) rest) i)
        (known_same b (back (asked a) (asked b) rest) i)

    place_known_same : (m : Meant) (indices : List (Option ℕ)) (accessors : Accessors Meant)
        → Agree (place_asked accessors)
        → K.place_known (sources_with one) changed m indices accessors
        ≡ K.place_known (sources_with two) changed m indices accessors
    place_known_same m indices done h = variable_same m (all_known indices)
    place_known_same m indices (index e rest) h =
        ap (λ n. K.place_known (sources_with one) changed m (indices ++ n ∷ []) rest)
        (known_same e (front (asked e) (place_asked rest) h))
        ∙ place_known_same m
        (indices ++ K.number_known (sources_with two) changed e ∷ []) rest
        (back (asked e) (place_asked rest) h)
    place_known_same m indices (member name rest) h = refl

  pub port_same : (homes : L.Homes) (front : L.Front) (indices : List (Option ℕ)) (name : List ℕ)
      → L.port_of (ground_with one) homes front indices name
      ≡ L.port_of (ground_with two) homes front indices name
  port_same homes (L.Named meant.Other) indices name = refl
  port_same homes (L.Named (meant.Variable n)) indices name = refl
  port_same homes (L.Named (meant.Signal direction n)) indices name = refl
  port_same homes (L.Named (meant.Component n)) indices name = refl
  port_same homes (L.Named (meant.Template n)) indices name = refl
  port_same homes (L.Named (meant.Function n)) indices name = refl
  port_same homes (L.Found home) indices name = refl
  port_same homes L.Lost indices name = refl

  dims_same : (front : L.Front) → L.component_dims (ground_with one) front
      ≡ L.component_dims (ground_with two) front
  dims_same (L.Named meant.Other) = refl
  dims_same (L.Named (meant.Variable n)) = refl
  dims_same (L.Named (meant.Signal direction n)) = refl
  dims_same (L.Named (meant.Component n)) = refl
  dims_same (L.Named (meant.Template n)) = refl
  dims_same (L.Named (meant.Function n)) = refl
  dims_same (L.Found home) = refl
  dims_same L.Lost = refl

  -- ---- dimensions
  place_shape_same : (homes : L.Homes) (front_is : L.Front) (indices : List (Option ℕ))
      (accessors : Accessors Meant) → Agree (place_asked accessors)
      → V.place_shape (ground_with one) homes front_is indices accessors
      ≡ V.place_shape (ground_with two) homes front_is indices accessors
  place_shape_same homes f indices done h = refl
  place_shape_same homes f indices (index e rest) h =
      ap (λ n. V.place_shape (ground_with one) homes f (indices ++ n ∷ []) rest)
      (known_same e (front (asked e) (place_asked rest) h))
      ∙ place_shape_same homes f (indices ++ K.number_known (sources_with two) changed e ∷ [])
      rest (back (asked e) (place_asked rest) h)
  place_shape_same homes f indices (member name rest) h =
      ap (λ g. V.place_shape (ground_with one) homes g [] rest)
      (port_same homes f indices name)
      ∙ place_shape_same homes (L.port_of (ground_with two) homes f indices name) [] rest h

  pub shape_same : (homes : L.Homes) (e : Expr Meant) → Agree (asked e)
      → V.shape_of (ground_with one) homes e ≡ V.shape_of (ground_with two) homes e
  shape_same homes (Number n) h = refl
  shape_same homes (Place name m accessors) h =
      place_shape_same homes (L.Named m) [] accessors h
  shape_same homes (Call parallel name m arguments) h = ap V.called_shape h.0
  shape_same homes (Anonymous parallel name m arguments inputs) h = refl
  shape_same homes (Parentheses e) h = shape_same homes e h
  shape_same homes (Array none) h = refl
  shape_same homes (Array (more e es)) h =
      ap (λ ds. suc (V.count_of es) ∷ ds)
      (shape_same homes e (front (asked e) (all_asked es) h))
  shape_same homes (Unary o a) h = refl
  shape_same homes (Binary o a b) h = refl
  shape_same homes (Choice c a b) h = refl

  pub shapes_same : (homes : L.Homes) (es : Exprs Meant) → Agree (all_asked es)
      → V.shapes_of (ground_with one) homes es ≡ V.shapes_of (ground_with two) homes es
  shapes_same homes none h = refl
  shapes_same homes (more e es) h = λ i.
      shape_same homes e (front (asked e) (all_asked es) h) i
      ∷ shapes_same homes es (back (asked e) (all_asked es) h) i

  -- ---- code
  call_same : (top : ℕ) (m : Meant) (homes : L.Homes) (es : Exprs Meant) → Agree (all_asked es)
      → V.call_code keys top m (V.shapes_of (ground_with one) homes es)
      ≡ V.call_code keys top m (V.shapes_of (ground_with two) homes es)
  call_same top m homes es h = ap (V.call_code keys top m) (shapes_same homes es h)

  mutual
    pub code_same : (homes : L.Homes) (top at : ℕ) (e : Expr Meant) → Agree (asked e)
        → V.expr_code (ground_with one) homes top at e
        ≡ V.expr_code (ground_with two) homes top at e
    code_same homes top at (Number n) h = refl
    code_same homes top at (Place name m accessors) h =
        place_code_same homes top at (L.Named m) [] accessors h
    code_same homes top at (Call parallel name m arguments) h = λ i.
        V.unless_called (h.0 i) top (all_code_same homes top at arguments h.1 i
        ++ call_same top m homes arguments h.1 i)
    code_same homes top at (Anonymous parallel name m arguments inputs) h = refl
    code_same homes top at (Parentheses e) h = code_same homes top at e h
    code_same homes top at (Array elements) h = all_code_same homes top at elements h
    code_same homes top at (Unary o a) h =
        ap (λ (k : P.Code). k ++ op.Un (unary_of o) top top ∷ []) (code_same homes top at a h)
    code_same homes top at (Binary o a b) h =
        let left = front (asked a) (asked b) h in
        let right = back (asked a) (asked b) h in λ i.
        P.lazy_code (P.decided (operator_of o) (known_same a left i)) top
        (code_same homes top at a left i)
        (P.binary_code (operator_of o) top at (code_same homes top at a left i)
        (λ slot p. code_same homes slot p b right i))
    code_same homes top at (Choice c a b) h =
        let test = front (asked c) (asked a ++ asked b) h in
        let rest = back (asked c) (asked a ++ asked b) h in
        let first = front (asked a) (asked b) rest in
        let second = back (asked a) (asked b) rest in λ i.
        P.followed at (code_same homes top at c test i) (λ p. P.choice_code (known_same c test i)
        top p (λ q. code_same homes top q a first i) (λ q. code_same homes top q b second i))

    pub all_code_same : (homes : L.Homes) (top at : ℕ) (es : Exprs Meant)
        → Agree (all_asked es)
        → V.exprs_code (ground_with one) homes top at es
        ≡ V.exprs_code (ground_with two) homes top at es
    all_code_same homes top at none h = refl
    all_code_same homes top at (more e es) h =
        let first = front (asked e) (all_asked es) h in
        let rest = back (asked e) (all_asked es) h in λ i.
        P.followed at (code_same homes top at e first i)
        (λ p. all_code_same homes (top + L.slots_of (shape_same homes e first i)) p es rest i)

    pub place_code_same : (homes : L.Homes) (top at : ℕ) (f : L.Front)
        (indices : List (Option ℕ)) (accessors : Accessors Meant)
        → Agree (place_asked accessors)
        → V.place_code (ground_with one) homes top at f indices accessors
        ≡ V.place_code (ground_with two) homes top at f indices accessors
    place_code_same homes top at f indices done h = refl
    place_code_same homes top at f indices (index e rest) h =
        let first = front (asked e) (place_asked rest) h in
        let more_h = back (asked e) (place_asked rest) h in
        (λ i. P.followed at (code_same homes (top + length indices) at e first i)
        (λ p. V.place_code (ground_with one) homes top p f
        (indices ++ known_same e first i ∷ []) rest))
        ∙ (λ i. P.followed at (V.expr_code (ground_with two) homes (top + length indices) at e)
        (λ p. place_code_same homes top p f
        (indices ++ K.number_known (sources_with two) changed e ∷ []) rest more_h i))
    place_code_same homes top at f indices (member name rest) h =
        (λ i. P.followed at (P.bounds top (dims_same f i) (length indices))
        (λ p. V.place_code (ground_with one) homes top p (port_same homes f indices name i) []
        rest))
        ∙ (λ i. P.followed at (P.bounds top (L.component_dims (ground_with two) f)
        (length indices)) (λ p. place_code_same homes top p
        (L.port_of (ground_with two) homes f indices name) [] rest h i))

  pub indices_code_same : (homes : L.Homes) (top at : ℕ) (accessors : Accessors Meant)
      → Agree (place_asked accessors)
      → V.indices_code (ground_with one) homes top at accessors
      ≡ V.indices_code (ground_with two) homes top at accessors
  indices_code_same homes top at done h = refl
  indices_code_same homes top at (member name rest) h = refl
  indices_code_same homes top at (index e rest) h =
      let first = front (asked e) (place_asked rest) h in
      let more_h = back (asked e) (place_asked rest) h in λ i.
      P.followed at (code_same homes top at e first i)
      (λ p. indices_code_same homes (top + 1) p rest more_h i)
