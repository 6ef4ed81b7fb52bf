-- What it tells of expressions that the rules give them a shape.
use Rattle.std.proofs.Common.{◌≡◌, ◌∙◌, ℕ, suc, ◌≤◌, List, [], ◌∷◌, ◌++◌, length, drop, refl, ap}
use Rattle.std.proofs.Common.{sym}
use Rattle.std.specs.Prelude.{Bool, true, false, if◌then◌else◌, nat_lt, is_some, Option, Some, None}
use Rattle.std.specs.List.{list_all, AllByRecursion}
use Rattle.std.specs.Cmp.Lexicographic.{bytes_decides}
use Rattle.std.proofs.lemmas.Bool.{ltb-false}
use Rattle.cir_ast.specs.declared.program.Meant.{Meant}
use Rattle.cir_ast.specs.declared.program.Meant.TheVariants as meant
use Rattle.cir_ast.specs.Tree.{Expr, Number, Place, Call, Anonymous, Parentheses, Array, Unary}
use Rattle.cir_ast.specs.Tree.{Binary, Choice, Exprs, none, more}
use Rattle.cir_meaning.specs.Arrays.{Want, Scalar, Whole, fits, same_dims}
use Rattle.cir_meaning.specs.Functions as F
use Rattle.cir_meaning.specs.Reached.{indices_count}
use Rattle.cir_meaning.specs.SignalFree.{IsVariable, IsFunction}
use Rattle.cir_rules.proofs.Shaping.{place_shape_is}

-- ---- parts of lists
pub all_front : {A : Type 0} (P : A → Type 0) (xs ys : List A) → AllByRecursion P (xs ++ ys)
    → AllByRecursion P xs
all_front P [] ys h = tt
all_front P (x ∷ xs) ys h = (h.0, all_front P xs ys h.1)

pub all_back : {A : Type 0} (P : A → Type 0) (xs ys : List A) → AllByRecursion P (xs ++ ys)
    → AllByRecursion P ys
all_back P [] ys h = h
all_back P (x ∷ xs) ys h = all_back P xs ys h.1

-- ---- names that mean variables and functions
pub of_variable : (Q : Meant → Type 0) → ((n : ℕ) → Q (meant.Variable n)) → (m : Meant)
    → IsVariable m → Q m
of_variable Q go meant.Other v = absurd v
of_variable Q go (meant.Variable n) v = go n
of_variable Q go (meant.Signal direction n) v = absurd v
of_variable Q go (meant.Component n) v = absurd v
of_variable Q go (meant.Template n) v = absurd v
of_variable Q go (meant.Function n) v = absurd v

pub of_function : (functions : ℕ) (Q : Meant → Type 0) → ((n : ℕ) → Q (meant.Function n))
    → (m : Meant) → IsFunction functions m → Q m
of_function functions Q go meant.Other v = absurd v
of_function functions Q go (meant.Variable n) v = absurd v
of_function functions Q go (meant.Signal direction n) v = absurd v
of_function functions Q go (meant.Component n) v = absurd v
of_function functions Q go (meant.Template n) v = absurd v
of_function functions Q go (meant.Function n) v = go n

-- ---- shapes
pub record GivenBy {A : Type 0} (o : Option (List ℕ)) (go : List ℕ → Option A)
    (x : A) : Type 0 where
  pub shape : List ℕ
  pub is : o ≡ Some shape
  pub rest : go shape ≡ Some x

pub given_by : {A : Type 0} (o : Option (List ℕ)) (go : List ℕ → Option A) (x : A)
    → F.with_shape o go ≡ Some x → GivenBy o go x
given_by None go x h = cc
given_by (Some shape) go x h = record { shape = shape; is = refl; rest = h }

pub record IsGiven (o : Option (List ℕ)) : Type 0 where
  pub shape : List ℕ
  pub is : o ≡ Some shape

pub is_given : (o : Option (List ℕ)) → is_some o ≡ true → IsGiven o
is_given None h = cc
is_given (Some shape) h = record { shape = shape; is = refl }

pub same_given : {A : Type 0} (a b : A) → Some a ≡ Some b → a ≡ b
same_given a b h = cc

pub fitting_is : (want : Want) (dims d : List ℕ) → F.if_fits want dims ≡ Some d → dims ≡ d
fitting_is want dims d h = at (fits want dims) h
  where
    at : (b : Bool) → (if b then Some dims else None) ≡ Some d → dims ≡ d
    at true e = same_given dims d e
    at false e = cc

number_fits : (dims d : List ℕ) → F.if_fits Scalar dims ≡ Some d → d ≡ []
number_fits [] d h = sym (same_given [] d h)
number_fits (n ∷ ns) d h = cc

pub record BothAre (a b : Option (List ℕ)) : Type 0 where
  pub shape : List ℕ
  pub first : a ≡ Some shape
  pub second : b ≡ Some shape

pub both_are : (a b : Option (List ℕ)) → F.same_shape a b ≡ true → BothAre a b
both_are None b h = cc
both_are (Some dims) None h = cc
both_are (Some dims) (Some others) h =
    record { shape = others; first = ap Some ((bytes_decides dims others).0 h); second = refl }

-- ---- what is left behind indices
pub record Left (dims : List ℕ) (count : ℕ) (d : List ℕ) : Type 0 where
  pub rank : count ≤ length dims
  pub is : d ≡ drop count dims

pub left_is : (dims : ℕ → List ℕ) (n count : ℕ) (d : List ℕ)
    → F.place_shape dims (meant.Variable n) count ≡ Some d → Left (dims n) count d
left_is dims n count d h =
    at (nat_lt (length (dims n)) count) refl (sym (place_shape_is dims n count) ∙ h)
  where
    at : (b : Bool) → nat_lt (length (dims n)) count ≡ b
        → (if b then None else Some (drop count (dims n))) ≡ Some d → Left (dims n) count d
    at true e h = cc
    at false e h = record {
      rank = ltb-false (length (dims n)) count e;
      is = sym (same_given (drop count (dims n)) d h);
    }

-- ---- array literals
module _ (dims : ℕ → List ℕ) where
  abbrev pub EachShape : Exprs Meant → List (List ℕ) → Type 0
  EachShape none [] = Unit {0}
  EachShape none (s ∷ ss) = ⊥
  EachShape (more e es) [] = ⊥
  EachShape (more e es) (s ∷ ss) = (F.shape_in dims Whole e ≡ Some s) × EachShape es ss

  pub record Elements (es : Exprs Meant) (go : List (List ℕ) → Option (List ℕ))
      (d : List ℕ) : Type 0 where
    pub shapes : List (List ℕ)
    pub each : EachShape es shapes
    pub rest : go shapes ≡ Some d

  pub elements_given : (es : Exprs Meant) (go : List (List ℕ) → Option (List ℕ)) (d : List ℕ)
      → F.element_shapes dims es go ≡ Some d → Elements es go d
  elements_given none go d h = record { shapes = []; each = tt; rest = h }
  elements_given (more e es) go d h =
      let one = given_by (F.shape_in dims Whole e)
      (λ shape. F.element_shapes dims es (λ shapes. go (shape ∷ shapes))) d h in
      let others = elements_given es (λ shapes. go (one.shape ∷ shapes)) d one.rest in
      record {
        shapes = one.shape ∷ others.shapes;
        each = (one.is, others.each);
        rest = others.rest;
      }

pub record Literal (shapes : List (List ℕ)) (d : List ℕ) : Type 0 where
  pub first : List ℕ
  pub others : List (List ℕ)
  pub are : shapes ≡ first ∷ others
  pub same : list_all (same_dims first) others ≡ true
  pub is : d ≡ suc (length others) ∷ first

pub literal_given : (want : Want) (shapes : List (List ℕ)) (d : List ℕ)
    → F.with_shape (F.literal_shape shapes) (F.if_fits want) ≡ Some d → Literal shapes d
literal_given want [] d h = cc
literal_given want (first ∷ others) d h = at (list_all (same_dims first) others) refl h
  where
    at : (b : Bool) → list_all (same_dims first) others ≡ b
        → F.with_shape (if b then Some (suc (length others) ∷ first) else None) (F.if_fits want)
        ≡ Some d → Literal (first ∷ others) d
    at true e h = record {
      first = first;
      others = others;
      are = refl;
      same = e;
      is = sym (fitting_is want (suc (length others) ∷ first) d h);
    }
    at false e h = cc

-- ---- a number is wanted
pub number_shape : (dims : ℕ → List ℕ) (e : Expr Meant) (d : List ℕ)
    → F.shape_in dims Scalar e ≡ Some d → d ≡ []
number_shape dims (Number n) d h = sym (same_given [] d h)
number_shape dims (Place name m accessors) d h =
    let one = given_by (F.index_shapes dims accessors)
    (λ u. F.with_shape (F.place_shape dims m (indices_count accessors)) (F.if_fits Scalar)) d h in
    let two = given_by (F.place_shape dims m (indices_count accessors)) (F.if_fits Scalar) d
    one.rest in
    number_fits two.shape d two.rest
number_shape dims (Call parallel name m arguments) d h =
    let one = given_by (F.shapes_fit dims arguments) (λ u. Some []) d h in
    sym (same_given [] d one.rest)
number_shape dims (Anonymous parallel name m arguments inputs) d h = cc
number_shape dims (Parentheses e) d h = number_shape dims e d h
number_shape dims (Array elements) d h =
    let one = elements_given dims elements
    (λ shapes. F.with_shape (F.literal_shape shapes) (F.if_fits Scalar)) d h in
    let two = given_by (F.literal_shape one.shapes) (F.if_fits Scalar) d one.rest in
    number_fits two.shape d two.rest
number_shape dims (Unary op a) d h = number_shape dims a d h
number_shape dims (Binary op a b) d h =
    let one = given_by (F.shape_in dims Scalar a) (λ u. F.shape_in dims Scalar b) d h in
    number_shape dims b d one.rest
number_shape dims (Choice c a b) d h =
    let one = given_by (F.shape_in dims Scalar c)
    (λ u. F.with_shape (F.shape_in dims Scalar a) (λ v. F.shape_in dims Scalar b)) d h in
    let two = given_by (F.shape_in dims Scalar a) (λ v. F.shape_in dims Scalar b) d one.rest in
    number_shape dims b d two.rest
