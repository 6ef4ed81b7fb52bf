-- What an expression reads and the number that is known of it are the same over two lists of
-- sources that agree at what it reads, and for values of calls that agree at those in it.
use Rattle.std.proofs.Common.{◌≡◌, ◌∙◌, ℕ, zero, suc, Bool, true, false, cond, List, [], ◌∷◌, ◌++◌}
use Rattle.std.proofs.Common.{length, map, drop, Option, Some, None, refl, ap, ap₂, sym, subst}
use Rattle.std.proofs.Common.{arith}
use Rattle.std.specs.Prelude.{◌==◌, ◌&&◌, if◌then◌else◌}
use Rattle.std.specs.List.{list_any, AllByRecursion}
use Rattle.std.proofs.lemmas.Bool.{eqb-true, ne_eqb}
use Rattle.cir_ast.specs.declared.program.Meant.{Meant}
use Rattle.cir_ast.specs.declared.program.Meant.TheVariants as meant
use Rattle.cir_ast.specs.Tree.{Expr, Number, Place, Call, Anonymous, Parentheses, Array, Unary}
use Rattle.cir_ast.specs.Tree.{Binary, Choice, Exprs, none, more, Accessors, done, index, member}
use Rattle.gold_field.specs.Operators.{unary_of as number_by}
use Rattle.cir_meaning.specs.Costs.{Made}
use Rattle.cir_meaning.specs.Operators.{Operator, Strict, And, Or, operator_of, unary_of}
use Rattle.cir_meaning.specs.Places.{elements, all_known, is_inside, places_of}
use Rattle.cir_meaning.specs.RunValues.{Numbers}
use Rattle.cir_meaning.specs.Values.{truth_number}
use Rattle.wit_lower.specs.Homes as L
use Rattle.wit_lower.specs.Known as K
use Rattle.wit_lower.specs.Pieces.{decided}
use Rattle.wit_lower.specs.Sources as R
use Rattle.cir_emit.specs.Reads as E
use Rattle.cir_emit.proofs.Lists.{all_front, all_back}
use Rattle.cir_emit.proofs.Reached.{one_place}
use Rattle.cir_emit.proofs.Tasks.{all_known_are}
use Rattle.wit_sourced.specs.Loaded.{Calls}
use Rattle.wit_emit.specs.Asked.{asked, all_asked, place_asked}

-- an operand that is skipped doesn't count
pub skipped_same : (o : Operator) (l a b : Option ℕ) → (decided o l ≡ None → a ≡ b)
    → K.binary_known o l a ≡ K.binary_known o l b
skipped_same (Strict o) l a b e = ap (K.strict_known o l) (e refl)
skipped_same And None a b e = refl
skipped_same And (Some m) a b e = at (m == 0) e
  where
    at : (t : Bool) → (cond {A = Option ℕ} t (Some 0) None ≡ None → a ≡ b)
        → cond {A = Option ℕ} t (Some 0) (K.unary_known truth_number a)
        ≡ cond {A = Option ℕ} t (Some 0) (K.unary_known truth_number b)
    at true e = refl
    at false e = ap (K.unary_known truth_number) (e refl)
skipped_same Or None a b e = refl
skipped_same Or (Some m) a b e = at (m == 0) e
  where
    at : (t : Bool) → (cond {A = Option ℕ} t None (Some 1) ≡ None → a ≡ b)
        → cond t (K.unary_known truth_number a) (Some 1)
        ≡ cond t (K.unary_known truth_number b) (Some 1)
    at true e = ap (K.unary_known truth_number) (e refl)
    at false e = refl

-- of `?:` with a known condition only the chosen side counts
chosen_same : (o : Option ℕ) (a b c d : Option ℕ) (P : List E.Reading → Type 0)
    (first second : List E.Reading) → (P first → a ≡ c) → (P second → b ≡ d)
    → ((xs ys : List E.Reading) → P (xs ++ ys) → P xs × P ys) → P (E.sides o first second)
    → K.choice_known o a b ≡ K.choice_known o c d
chosen_same None a b c d P first second f s parts h = refl
chosen_same (Some zero) a b c d P first second f s parts h = s h
chosen_same (Some (suc m)) a b c d P first second f s parts h =
    let never : (suc m == 0) ≡ false = ne_eqb (suc m) 0 (λ z. cc) in
    ap (λ (t : Bool). cond t b a) never ∙ f h ∙ sym (ap (λ (t : Bool). cond t d c) never)

sides_same : (o : Option ℕ) (P : List E.Reading → Type 0)
    (first second third fourth : List E.Reading)
    → (P first → first ≡ third) → (P second → second ≡ fourth)
    → ((xs ys : List E.Reading) → P (xs ++ ys) → P xs × P ys) → P (E.sides o first second)
    → E.sides o first second ≡ E.sides o third fourth
sides_same None P first second third fourth f s parts h =
    let both : P first × P second = parts first second h in
    ap₂ (λ x y. x ++ y) (f both.0) (s both.1)
sides_same (Some zero) P first second third fourth f s parts h = s h
sides_same (Some (suc m)) P first second third fourth f s parts h = f h

unless_same : (o : Option ℕ) (P : List E.Reading → Type 0) (a b : List E.Reading) → (P a → a ≡ b)
    → P (E.unless_skipped o a) → E.unless_skipped o a ≡ E.unless_skipped o b
unless_same None P a b f h = f h
unless_same (Some n) P a b f h = refl

call_same : (o : Option Numbers) (P : List E.Reading → Type 0) (a b : List E.Reading)
    → (P a → a ≡ b) → P (E.unless_called o a) → E.unless_called o a ≡ E.unless_called o b
call_same None P a b f h = f h
call_same (Some d) P a b f h = refl

drop_whole : (dims is : List ℕ) → length is ≡ length dims → drop (length is) dims ≡ []
drop_whole [] [] e = refl
drop_whole [] (i ∷ is) e = absurd (omega (arith, e))
drop_whole (d ∷ ds) [] e = absurd (omega (arith, e))
drop_whole (d ∷ ds) (i ∷ is) e = drop_whole ds is (omega (arith, e))

module _ (shapes : List R.Shape) (components : ℕ → List ℕ) (changed : List ℕ)
    (keys others : List Made) (one two : Calls) (xs ys : List R.Source) where
  abbrev before : R.Sources
  before = record { shapes = shapes; components = components; called = one; list = xs }

  abbrev after : R.Sources
  after = record { shapes = shapes; components = components; called = two; list = ys }

  abbrev pub homes : L.Homes
  homes = (R.scope_of before).homes

  abbrev pub g : L.Ground
  g = record {
    keys = keys;
    known = K.number_known before changed;
    called = one;
    components = components;
  }

  abbrev pub h : L.Ground
  h = record {
    keys = others;
    known = K.number_known after changed;
    called = two;
    components = components;
  }

  abbrev pub Agree : List (Expr Meant) → Type 0
  Agree calls = AllByRecursion (λ c. one c ≡ two c) calls

  abbrev pub Alike : List E.Reading → Type 0
  Alike reads =
      AllByRecursion (λ r. R.input_of r.name xs r.element ≡ R.input_of r.name ys r.element) reads

  pub front : (a b : List (Expr Meant)) → Agree (a ++ b) → Agree a
  front a b c = all_front (λ c. one c ≡ two c) a b c

  pub back : (a b : List (Expr Meant)) → Agree (a ++ b) → Agree b
  back a b c = all_back (λ c. one c ≡ two c) a b c

  pub parts : (a b : List E.Reading) → Alike (a ++ b) → Alike a × Alike b
  parts a b all = (
    all_front (λ r. R.input_of r.name xs r.element ≡ R.input_of r.name ys r.element) a b all,
    all_back (λ r. R.input_of r.name xs r.element ≡ R.input_of r.name ys r.element) a b all,
  )

  -- ---- places
  element_same : (n : ℕ) (home : Option L.Home) (is : List ℕ)
      → Alike (E.part_of (L.Variable n) home (map Some is))
      → K.element_known before n home is ≡ K.element_known after n home is
  element_same n None is all = refl
  element_same n (Some home) is all =
      at (length is == length home.dims) (is_inside home.dims (map Some is)) refl all
    where
      at : (b c : Bool) → (length is == length home.dims) ≡ b
          → Alike (cond c (E.elements_of (L.Variable n) (places_of home.dims (map Some is))) [])
          → cond (b && c)
          (K.constant_of (R.input_of (L.Variable n) xs (L.offset home.dims is))) None
          ≡ cond (b && c)
          (K.constant_of (R.input_of (L.Variable n) ys (L.offset home.dims is))) None
      at false c e all = refl
      at true false e all = refl
      at true true e all =
          let full : length is ≡ length home.dims = eqb-true (length is) (length home.dims) e in
          let here : Alike (E.elements_of (L.Variable n) (L.offset home.dims is ∷ [])) =
          subst (λ places. Alike (E.elements_of (L.Variable n) places))
          (one_place home.dims is full (drop_whole home.dims is full)) all in
          ap K.constant_of here.0

  variable_same : (m : Meant) (indices : List (Option ℕ))
      → Alike (E.named_part homes (E.name_of (E.Written m)) indices)
      → K.variable_known before changed m (all_known indices)
      ≡ K.variable_known after changed m (all_known indices)
  variable_same (meant.Variable n) indices all = at (all_known indices) refl
    where
      at : (known : Option (List ℕ)) → all_known indices ≡ known
          → K.variable_known before changed (meant.Variable n) known
          ≡ K.variable_known after changed (meant.Variable n) known
      at None e = refl
      at (Some is) e =
          ap (λ k. if list_any (λ m. m == n) changed then None else k)
          (element_same n (L.find (L.Variable n) homes) is
          (subst (λ os. Alike (E.part_of (L.Variable n) (L.find (L.Variable n) homes) os))
          (all_known_are indices is e) all))
  variable_same meant.Other indices all = refl
  variable_same (meant.Signal direction n) indices all = refl
  variable_same (meant.Component n) indices all = refl
  variable_same (meant.Template n) indices all = refl
  variable_same (meant.Function n) indices all = refl

  port_same : (f : E.Front) (indices : List (Option ℕ)) (name : List ℕ)
      → E.port_of g f indices name ≡ E.port_of h f indices name
  port_same (E.Written meant.Other) indices name = refl
  port_same (E.Written (meant.Variable n)) indices name = refl
  port_same (E.Written (meant.Signal direction n)) indices name = refl
  port_same (E.Written (meant.Component n)) indices name = refl
  port_same (E.Written (meant.Template n)) indices name = refl
  port_same (E.Written (meant.Function n)) indices name = refl
  port_same (E.Reached x) indices name = refl

  -- ---- expressions
  mutual
    pub known_same : (e : Expr Meant) → Agree (asked e) → Alike (E.expr_reads g homes e)
        → K.number_known before changed e ≡ K.number_known after changed e
    known_same (Number n) c all = refl
    known_same (Place name m accessors) c all = place_known_same m [] accessors c all
    known_same (Call parallel name m arguments) c all = ap K.called_known c.0
    known_same (Anonymous parallel name m arguments inputs) c all = refl
    known_same (Parentheses e) c all = known_same e c all
    known_same (Array elements) c all = refl
    known_same (Unary o a) c all =
        ap (K.unary_known (number_by (unary_of o))) (known_same a c all)
    known_same (Binary o a b) c all =
        let op : Operator = operator_of o in
        let left = parts (E.expr_reads g homes a)
        (E.unless_skipped (decided op (g.known a)) (E.expr_reads g homes b)) all in
        skipped_same op (g.known a) (g.known b) (h.known b)
        (λ none. known_same b (back (asked a) (asked b) c)
        (subst (λ d. Alike (E.unless_skipped d (E.expr_reads g homes b))) none left.1))
        ∙ ap (λ k. K.binary_known op k (h.known b))
        (known_same a (front (asked a) (asked b) c) left.0)
    known_same (Choice t a b) c all =
        let rest = back (asked t) (asked a ++ asked b) c in
        let both = parts (E.expr_reads g homes t) (E.sides (g.known t) (E.expr_reads g homes a)
        (E.expr_reads g homes b)) all in
        chosen_same (g.known t) (g.known a) (g.known b) (h.known a) (h.known b) Alike
        (E.expr_reads g homes a) (E.expr_reads g homes b)
        (known_same a (front (asked a) (asked b) rest))
        (known_same b (back (asked a) (asked b) rest)) parts both.1
        ∙ ap (λ k. K.choice_known k (h.known a) (h.known b))
        (known_same t (front (asked t) (asked a ++ asked b) c) both.0)

    place_known_same : (m : Meant) (indices : List (Option ℕ)) (accessors : Accessors Meant)
        → Agree (place_asked accessors)
        → Alike (E.place_reads g homes (E.Written m) indices accessors)
        → K.place_known before changed m indices accessors
        ≡ K.place_known after changed m indices accessors
    place_known_same m indices done c all = variable_same m indices all
    place_known_same m indices (index e rest) c all =
        let both = parts (E.expr_reads g homes e)
        (E.place_reads g homes (E.Written m) (indices ++ g.known e ∷ []) rest) all in
        let here = known_same e (front (asked e) (place_asked rest) c) both.0 in
        ap (λ n. K.place_known before changed m (indices ++ n ∷ []) rest) here
        ∙ place_known_same m (indices ++ h.known e ∷ []) rest (back (asked e) (place_asked rest) c)
        (subst (λ n. Alike (E.place_reads g homes (E.Written m) (indices ++ n ∷ []) rest)) here
        both.1)
    place_known_same m indices (member name rest) c all = refl

  mutual
    pub reads_same : (e : Expr Meant) → Agree (asked e) → Alike (E.expr_reads g homes e)
        → E.expr_reads g homes e ≡ E.expr_reads h homes e
    reads_same (Number n) c all = refl
    reads_same (Place name m accessors) c all =
        place_reads_same (E.Written m) [] accessors c all
    reads_same (Call parallel name m arguments) c all =
        let e : Expr Meant = Call parallel name m arguments in
        call_same (one e) Alike (E.exprs_reads g homes arguments) (E.exprs_reads h homes arguments)
        (exprs_reads_same arguments c.1) all
        ∙ ap (λ o. E.unless_called o (E.exprs_reads h homes arguments)) c.0
    reads_same (Anonymous parallel name m arguments inputs) c all = refl
    reads_same (Parentheses e) c all = reads_same e c all
    reads_same (Array elements) c all = exprs_reads_same elements c all
    reads_same (Unary o a) c all = reads_same a c all
    reads_same (Binary o a b) c all =
        let op : Operator = operator_of o in
        let both = parts (E.expr_reads g homes a)
        (E.unless_skipped (decided op (g.known a)) (E.expr_reads g homes b)) all in
        let left = front (asked a) (asked b) c in
        ap₂ (λ x y. x ++ y) (reads_same a left both.0)
        (unless_same (decided op (g.known a)) Alike (E.expr_reads g homes b)
        (E.expr_reads h homes b) (reads_same b (back (asked a) (asked b) c)) both.1
        ∙ ap (λ k. E.unless_skipped (decided op k) (E.expr_reads h homes b))
        (known_same a left both.0))
    reads_same (Choice t a b) c all =
        let rest = back (asked t) (asked a ++ asked b) c in
        let both = parts (E.expr_reads g homes t) (E.sides (g.known t) (E.expr_reads g homes a)
        (E.expr_reads g homes b)) all in
        let test = front (asked t) (asked a ++ asked b) c in
        ap₂ (λ x y. x ++ y) (reads_same t test both.0)
        (sides_same (g.known t) Alike (E.expr_reads g homes a) (E.expr_reads g homes b)
        (E.expr_reads h homes a) (E.expr_reads h homes b)
        (reads_same a (front (asked a) (asked b) rest))
        (reads_same b (back (asked a) (asked b) rest)) parts both.1
        ∙ ap (λ k. E.sides k (E.expr_reads h homes a) (E.expr_reads h homes b))
        (known_same t test both.0))

    pub exprs_reads_same : (es : Exprs Meant) → Agree (all_asked es)
        → Alike (E.exprs_reads g homes es)
        → E.exprs_reads g homes es ≡ E.exprs_reads h homes es
    exprs_reads_same none c all = refl
    exprs_reads_same (more e es) c all =
        let both = parts (E.expr_reads g homes e) (E.exprs_reads g homes es) all in
        ap₂ (λ x y. x ++ y) (reads_same e (front (asked e) (all_asked es) c) both.0)
        (exprs_reads_same es (back (asked e) (all_asked es) c) both.1)

    pub place_reads_same : (f : E.Front) (indices : List (Option ℕ)) (accessors : Accessors Meant)
        → Agree (place_asked accessors) → Alike (E.place_reads g homes f indices accessors)
        → E.place_reads g homes f indices accessors ≡ E.place_reads h homes f indices accessors
    place_reads_same f indices done c all = refl
    place_reads_same f indices (index e rest) c all =
        let both = parts (E.expr_reads g homes e)
        (E.place_reads g homes f (indices ++ g.known e ∷ []) rest) all in
        let first = front (asked e) (place_asked rest) c in
        let here = known_same e first both.0 in
        ap₂ (λ x y. x ++ y) (reads_same e first both.0)
        (ap (λ n. E.place_reads g homes f (indices ++ n ∷ []) rest) here
        ∙ place_reads_same f (indices ++ h.known e ∷ []) rest (back (asked e) (place_asked rest) c)
        (subst (λ n. Alike (E.place_reads g homes f (indices ++ n ∷ []) rest)) here both.1))
    place_reads_same f indices (member name rest) c all =
        let same = port_same f indices name in
        ap (λ x. E.place_reads g homes (E.Reached x) [] rest) same
        ∙ place_reads_same (E.Reached (E.port_of h f indices name)) [] rest c
        (subst (λ x. Alike (E.place_reads g homes (E.Reached x) [] rest)) same all)
