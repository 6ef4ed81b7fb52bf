-- What is known of the numbers of a step holds, whatever it reads.
use Rattle.std.proofs.Common.{◌≡◌, ℕ, zero, suc, ◌+◌, ◌%◌, ◌^◌, ◌<◌, ◌≤◌, Bool, true, false, cond}
use Rattle.std.proofs.Common.{not, List, [], ◌∷◌, ◌++◌, length, map, drop, Option, Some, None}
use Rattle.std.proofs.Common.{Result, Ok, Err, refl, sym, ap, ap₂, subst, ◌∙◌, arith, inl, inr, ◌⊎◌}
use Rattle.std.specs.Prelude.{slice_index, unwrap_or, ◌==◌, ◌&&◌}
use Rattle.std.proofs.Math.Nat.{pow-zero}
use Rattle.std.specs.List.{list_any}
use Rattle.std.proofs.lemmas.Bool.{and_parts, eqb-true}
use Rattle.gold_field.specs.declared.gold.TheConstants.{P}
use Rattle.gold_field.specs.declared.operators.Op2.{Op2}
use Rattle.gold_field.specs.declared.operators.Op2.TheVariants.{Add, Sub, Mul, Div, Quot, Rem, Pow}
use Rattle.gold_field.specs.declared.operators.Op2.TheVariants.{Shl, Shr, And as BitAnd, Xor}
use Rattle.gold_field.specs.declared.operators.Op2.TheVariants.{Or as BitOr, Lt, Le, Gt, Ge, Eq, Ne}
use Rattle.gold_field.specs.Operators.{unary_of as number_by, binary_of}
use Rattle.cir_ast.specs.declared.program.Meant.{Meant}
use Rattle.cir_ast.specs.declared.program.Meant.TheVariants as meant
use Rattle.cir_ast.specs.Tree.{Expr, Number, Place, Call, Anonymous, Parentheses, Array, Unary}
use Rattle.cir_ast.specs.Tree.{Binary, Choice, Accessors, done, index, member}
use Rattle.cir_meaning.specs.Tried.{next}
use Rattle.cir_meaning.specs.Places.{elements, is_inside, all_known, left_of, places_of}
use Rattle.cir_meaning.specs.Places.{numbers_from}
use Rattle.cir_meaning.specs.Arrays.{single, made}
use Rattle.cir_meaning.specs.Operators.{Operator, Strict, And, Or, operator_of, unary_of}
use Rattle.cir_meaning.specs.Values.{truth_number}
use Rattle.cir_meaning.specs.RunValues.{Ran, Numbers, Environment, Store, stored, gives, number}
use Rattle.cir_meaning.specs.RunValues.{number_in, place_in, RunNamed, read_stored, read_root}
use Rattle.cir_meaning.specs.RunValues.{the_number, when, needs_right, result_number}
use Rattle.cir_meaning.specs.RunValues.{unless_zero_divisor, index_out, unless_known, numbers_in}
use Rattle.cir_meaning.specs.RunValues.{call_function}
use Rattle.wit_lower.specs.Homes.{Variable, Home, find, offset, slots_of}
use Rattle.wit_lower.specs.Sources.{Input, Constant, Cell, Sources, scope_of, input_of, number_from}
use Rattle.wit_lower.specs.Sources.{read_at, environment_of, all_numbers, store_of}
use Rattle.wit_lower.specs.Known.{constant_of, element_known, variable_known, unary_known}
use Rattle.wit_lower.specs.Known.{both_known, power_known, strict_known, binary_known, choice_known}
use Rattle.wit_lower.specs.Known.{one_known, called_known, number_known, place_known}
use Rattle.wit_lower.specs.Steps.{ShapesFit, SourcesFit}
use Rattle.wit_lower.proofs.Places.{checked, checked_is, checked_fits, left_is, places_are}
use Rattle.wit_lower.proofs.Shows.{Lies, lies}
use Rattle.wit_lower.proofs.Parts.{slots_are}
use Rattle.wit_lower.proofs.Exprs.{Agree, agree_more, agree_all}
use Rattle.wit_lower.proofs.Shown.{shapes_laid, shapes_below, stored_is}

-- a result of two steps is one of each
record Both {A B : Type 0} (m : Result A ℕ) (go : A → Result B ℕ) (x : B) : Type 0 where
  pub first : A
  pub is : m ≡ Ok first
  pub rest : go first ≡ Ok x

both : {A B : Type 0} (m : Result A ℕ) (go : A → Result B ℕ) (x : B) → next m go ≡ Ok x
    → Both m go x
both (Ok a) go x e = record { first = a; is = refl; rest = e }
both (Err s) go x e = cc

given : (n v : ℕ) (x : Numbers × ℕ) → ◌≡◌ {A = Ran Numbers} (gives (single n) v) (Ok x)
    → the_number x.0 ≡ n
given n v x e = let same : (single n, v) ≡ x = cc in ap (λ y. the_number y.0) (sym same)

-- a call that has its value
called_is : (o : Option Numbers) (n u : ℕ) (x : Numbers × ℕ) (call : Ran Numbers)
    → called_known o ≡ Some n → unless_known o u call ≡ Ok x → the_number x.0 ≡ n
called_is None n u x call e ran = cc
called_is (Some d) n u x call e ran =
    let same : (d, u) ≡ x = cc in ap (λ y. the_number y.0) (sym same) ∙ one d.dims e
  where
    one : (dims : List ℕ) → one_known dims (the_number d) ≡ Some n → the_number d ≡ n
    one [] e = cc
    one (m ∷ ms) e = cc

-- the operands that are known where a result is
record UnaryKnown (f : ℕ → ℕ) (a : Option ℕ) (n : ℕ) : Type 0 where
  pub number : ℕ
  pub told : a ≡ Some number
  pub is : f number ≡ n

unary_some : (f : ℕ → ℕ) (a : Option ℕ) (n : ℕ) → unary_known f a ≡ Some n → UnaryKnown f a n
unary_some f None n e = cc
unary_some f (Some m) n e = record { number = m; told = refl; is = cc }

record BothKnown (o : Op2) (a b : Option ℕ) (n : ℕ) : Type 0 where
  pub left : ℕ
  pub right : ℕ
  pub left_told : a ≡ Some left
  pub right_told : b ≡ Some right
  pub is : binary_of o left right ≡ Some n

both_some : (o : Op2) (a b : Option ℕ) (n : ℕ) → both_known o a b ≡ Some n → BothKnown o a b n
both_some o None b n e = cc
both_some o (Some j) None n e = cc
both_some o (Some j) (Some k) n e =
    record { left = j; right = k; left_told = refl; right_told = refl; is = e }

-- the power by 0
record PowerOfZero (o : Op2) (b : Option ℕ) (n : ℕ) : Type 0 where
  pub power : o ≡ Pow
  pub told : b ≡ Some 0
  pub one : n ≡ 1

abbrev StrictKnown : Op2 → (a b : Option ℕ) → ℕ → Type 0
StrictKnown o a b n = PowerOfZero o b n ⊎ BothKnown o a b n

power_some : (a b : Option ℕ) (n : ℕ) → power_known a b ≡ Some n → StrictKnown Pow a b n
power_some a None n e = inr (both_some Pow a None n e)
power_some a (Some zero) n e = inl record { power = refl; told = refl; one = cc }
power_some a (Some (suc k)) n e = inr (both_some Pow a (Some (suc k)) n e)

strict_some : (o : Op2) (a b : Option ℕ) (n : ℕ) → strict_known o a b ≡ Some n
    → StrictKnown o a b n
strict_some Pow a b n e = power_some a b n e
strict_some Add a b n e = inr (both_some Add a b n e)
strict_some Sub a b n e = inr (both_some Sub a b n e)
strict_some Mul a b n e = inr (both_some Mul a b n e)
strict_some Div a b n e = inr (both_some Div a b n e)
strict_some Quot a b n e = inr (both_some Quot a b n e)
strict_some Rem a b n e = inr (both_some Rem a b n e)
strict_some Shl a b n e = inr (both_some Shl a b n e)
strict_some Shr a b n e = inr (both_some Shr a b n e)
strict_some BitAnd a b n e = inr (both_some BitAnd a b n e)
strict_some Xor a b n e = inr (both_some Xor a b n e)
strict_some BitOr a b n e = inr (both_some BitOr a b n e)
strict_some Lt a b n e = inr (both_some Lt a b n e)
strict_some Le a b n e = inr (both_some Le a b n e)
strict_some Gt a b n e = inr (both_some Gt a b n e)
strict_some Ge a b n e = inr (both_some Ge a b n e)
strict_some Eq a b n e = inr (both_some Eq a b n e)
strict_some Ne a b n e = inr (both_some Ne a b n e)

-- a result of a strict operator is that of its known operands
strict_is : (o : Op2) (a b : Option ℕ) (n j k y : ℕ) → strict_known o a b ≡ Some n
    → ((m : ℕ) → a ≡ Some m → j ≡ m) → ((m : ℕ) → b ≡ Some m → k ≡ m)
    → unless_zero_divisor (binary_of o j k) ≡ Ok y → y ≡ n
strict_is o a b n j k y e left right ran =
    elim (strict_some o a b n e) [
      | inl z ↦
          let zero_right : k ≡ 0 = right 0 z.told in
          let at : unless_zero_divisor (Some (j ^ 0 % P)) ≡ Ok y =
          sym (ap₂ (λ p i. unless_zero_divisor (binary_of p j i)) z.power zero_right) ∙ ran in
          let power : j ^ 0 % P ≡ y = cc in
          let one : j ^ 0 % P ≡ 1 = ap (λ m. m % P) (pow-zero j) in
          sym power ∙ one ∙ sym z.one
      | inr z ↦
          let at : unless_zero_divisor (Some n) ≡ Ok y =
          sym (ap₂ (λ x i. unless_zero_divisor (binary_of o x i)) (left z.left z.left_told)
          (right z.right z.right_told) ∙ ap unless_zero_divisor z.is) ∙ ran in
          cc
    ]

-- elements of an array that is read
items_at : {A : Type 0} (f : A → ℕ) (F : ℕ → A) (o m k : ℕ) → k < m
    → slice_index (map f (map F (numbers_from o m))) k ≡ f (F (o + k))
items_at f F o zero k l = absurd (omega (arith, l))
items_at f F o (suc m) zero l = let e : o ≡ o + 0 = omega arith in ap (λ i. f (F i)) e
items_at f F o (suc m) (suc k) l =
    let e : o + 1 + k ≡ o + suc k = omega arith in
    items_at f F (o + 1) m k (omega (arith, l)) ∙ ap (λ i. f (F i)) e

drop_all : (xs : List ℕ) → drop (length xs) xs ≡ []
drop_all [] = refl
drop_all (x ∷ xs) = drop_all xs

element_read : (d : Numbers) (is : List ℕ) (u : ℕ) (x : Numbers × ℕ) → length is ≡ length d.dims
    → is_inside d.dims (map Some is) ≡ true → read_stored d is u ≡ Ok x
    → the_number x.0 ≡ slice_index d.items (offset d.dims is)
element_read d is u x len inside e =
    let go : (List ℕ → List ℕ → Ran Numbers) =
    λ left places. gives (made left (map (slice_index d.items) places)) u in
    let left : left_of d.dims (map Some is) ≡ Some [] =
    left_is d.dims is (omega (arith, len)) ∙
    ap Some (ap (λ n. drop n d.dims) len ∙ drop_all d.dims) in
    let places : places_of d.dims (map Some is) ≡ numbers_from (offset d.dims is) 1 =
    places_are d.dims is (omega (arith, len)) ∙
    ap (λ ds. numbers_from (offset d.dims is) (elements ds))
    (ap (λ n. drop n d.dims) len ∙ drop_all d.dims) in
    let at : go [] (numbers_from (offset d.dims is) 1) ≡ Ok x =
    sym (ap₂ (λ l ps. go (unwrap_or l []) ps) left places) ∙
    sym (ap (λ b. cond b (go (unwrap_or (left_of d.dims (map Some is)) [])
    (places_of d.dims (map Some is))) (Err index_out)) inside) ∙ e in
    given (slice_index d.items (offset d.dims is)) u x at

constant_from : (cells : ℕ → ℕ) (o : Option Input) (n : ℕ) → constant_of o ≡ Some n
    → number_from cells o ≡ Some n
constant_from cells None n e = cc
constant_from cells (Some (Constant v)) n e = e
constant_from cells (Some (Cell c)) n e = cc

-- lazy operators
lazy_is : (o : Operator) (a b : Option ℕ) (n m y : ℕ) (u : ℕ) (mb : Ran Numbers)
    (r : Numbers × ℕ) → binary_known o a b ≡ Some n → ((j : ℕ) → a ≡ Some j → m ≡ j)
    → ((j : ℕ) (z : Numbers × ℕ) → b ≡ Some j → mb ≡ Ok z → the_number z.0 ≡ j)
    → when (needs_right o m) u mb ≡ Ok r → result_number o m (the_number r.0) ≡ Ok y → y ≡ n
lazy_is (Strict o) a b n m y u mb r e left right ran result =
    strict_is o a b n m (the_number r.0) y e left (λ j ej. right j r ej ran) result
lazy_is And None b n m y u mb r e left right ran result = cc
lazy_is Or None b n m y u mb r e left right ran result = cc
lazy_is And (Some j) b n m y u mb r e left right ran result =
    at (j == 0) (ap (λ i. i == 0) (left j refl)) e
  where
    at : (t : Bool) → (m == 0) ≡ t → cond t (Some 0) (unary_known truth_number b) ≡ Some n
        → y ≡ n
    at true em e =
        let zero_is : 0 ≡ n = cc in
        let x : ◌≡◌ {A = Result ℕ ℕ} (Ok 0) (Ok y) =
        sym (ap (λ t. Ok (cond t 0 (truth_number (the_number r.0)))) em) ∙ result in
        let same : 0 ≡ y = cc in
        sym same ∙ zero_is
    at false em e =
        let k : UnaryKnown truth_number b n = unary_some truth_number b n e in
        let ran1 : mb ≡ Ok r = sym (ap (λ t. when (not t) u mb) em) ∙ ran in
        let x : ◌≡◌ {A = Result ℕ ℕ} (Ok (truth_number (the_number r.0))) (Ok y) =
        sym (ap (λ t. Ok (cond t 0 (truth_number (the_number r.0)))) em) ∙ result in
        let same : truth_number (the_number r.0) ≡ y = cc in
        sym same ∙ ap truth_number (right k.number r k.told ran1) ∙ k.is
lazy_is Or (Some j) b n m y u mb r e left right ran result =
    at (j == 0) (ap (λ i. i == 0) (left j refl)) e
  where
    at : (t : Bool) → (m == 0) ≡ t → cond t (unary_known truth_number b) (Some 1) ≡ Some n
        → y ≡ n
    at true em e =
        let k : UnaryKnown truth_number b n = unary_some truth_number b n e in
        let ran1 : mb ≡ Ok r = sym (ap (λ t. when t u mb) em) ∙ ran in
        let x : ◌≡◌ {A = Result ℕ ℕ} (Ok (truth_number (the_number r.0))) (Ok y) =
        sym (ap (λ t. Ok (cond t (truth_number (the_number r.0)) 1)) em) ∙ result in
        let same : truth_number (the_number r.0) ≡ y = cc in
        sym same ∙ ap truth_number (right k.number r k.told ran1) ∙ k.is
    at false em e =
        let one_is : 1 ≡ n = cc in
        let x : ◌≡◌ {A = Result ℕ ℕ} (Ok 1) (Ok y) =
        sym (ap (λ t. Ok (cond t (truth_number (the_number r.0)) 1)) em) ∙ result in
        let same : 1 ≡ y = cc in
        sym same ∙ one_is

-- the side that is chosen
side_is : (c a b : Option ℕ) (n m : ℕ) (ma mb : Ran Numbers) (r : Numbers × ℕ)
    → choice_known c a b ≡ Some n → ((j : ℕ) → c ≡ Some j → m ≡ j)
    → ((j : ℕ) → a ≡ Some j → ma ≡ Ok r → the_number r.0 ≡ j)
    → ((j : ℕ) → b ≡ Some j → mb ≡ Ok r → the_number r.0 ≡ j)
    → cond (m == 0) mb ma ≡ Ok r → the_number r.0 ≡ n
side_is None a b n m ma mb r e tells first second ran = cc
side_is (Some j) a b n m ma mb r e tells first second ran =
    at (j == 0) (ap (λ i. i == 0) (tells j refl)) e
  where
    at : (t : Bool) → (m == 0) ≡ t → cond t b a ≡ Some n → the_number r.0 ≡ n
    at true em e = second n e (sym (ap (λ t. cond t mb ma) em) ∙ ran)
    at false em e = first n e (sym (ap (λ t. cond t mb ma) em) ∙ ran)

-- variables that the step leaves alone have the numbers with which it begins
abbrev pub Keeps : (changed : List ℕ) → (first store : Store) → Type 0
Keeps changed first store =
    (n : ℕ) → list_any (λ m. m == n) changed ≡ false → stored store n ≡ stored first n

module _ (sources : Sources) (cells : ℕ → ℕ) (call : ℕ → List Numbers → ℕ → Ran Numbers)
    (variables : ℕ) (shapes : ShapesFit variables sources.shapes)
    (fits : SourcesFit (scope_of sources).homes sources.list) (changed : List ℕ) (store : Store)
    (keeps : Keeps changed (store_of sources cells variables) store) where
  abbrev env : Environment
  env = environment_of sources cells call

  variable_is : (n : ℕ) (o : Option Home) (is : List ℕ) (v u : ℕ) (x : Numbers × ℕ)
      → find (Variable n) (scope_of sources).homes ≡ o
      → list_any (λ m. m == n) changed ≡ false → element_known sources n o is ≡ Some v
      → read_stored (stored store n) is u ≡ Ok x → the_number x.0 ≡ v
  variable_is n None is v u x eh free e ran = cc
  variable_is n (Some h) is v u x eh free e ran =
      at ((length is == length h.dims) && is_inside h.dims (map Some is)) refl e
    where
      from : ℕ → Option ℕ
      from k = number_from cells (input_of (Variable n) sources.list k)

      d : Numbers
      d = record {
        dims = h.dims;
        items = map (λ o. unwrap_or o 0) (map from (numbers_from 0 (slots_of h.dims)));
      }

      below : n < variables
      below = shapes_below variables sources.shapes record { homes = []; top = 0 } shapes
          (λ m j e. cc) n h eh

      held : stored store n ≡ d
      held =
          keeps n free ∙ stored_is sources cells variables n below ∙
          ap (λ o. all_numbers (read_at sources cells (Variable n) o)) eh

      l : Lies (scope_of sources).top h
      l = lies (scope_of sources).homes (scope_of sources).top (Variable n) h
          (shapes_laid variables sources.shapes record { homes = []; top = 0 } shapes tt) eh

      at : (t : Bool) → ((length is == length h.dims) && is_inside h.dims (map Some is)) ≡ t
          → cond t (constant_of (input_of (Variable n) sources.list (offset h.dims is))) None
          ≡ Some v → the_number x.0 ≡ v
      at false et e = cc
      at true et e =
          let parts : ((length is == length h.dims) ≡ true) ×
          (is_inside h.dims (map Some is) ≡ true) =
          and_parts (length is == length h.dims) (is_inside h.dims (map Some is)) et in
          let len : length is ≡ length h.dims =
          eqb-true (length is) (length h.dims) parts.0 in
          let o : ℕ = offset h.dims is in
          let tested : checked h.dims is ≡ Ok o =
          checked_is h.dims is ∙ ap (λ b. cond b (Ok o) (Err index_out)) parts.1 in
          let rest : drop (length is) h.dims ≡ [] =
          ap (λ n. drop n h.dims) len ∙ drop_all h.dims in
          let few : o + 1 ≤ elements h.dims =
          subst (λ ds. o + elements ds ≤ elements h.dims) rest
          (checked_fits h.dims is o (omega (arith, len)) tested) in
          let room : o < slots_of h.dims = omega (arith, few, slots_are h.dims l.fits) in
          element_read d is u x len parts.1
          (ap (λ z. read_stored z is u) (sym held) ∙ ran) ∙
          items_at (λ o. unwrap_or o 0) from 0 (slots_of h.dims) o room ∙
          (let z : 0 + o ≡ o = omega arith in ap (λ i. unwrap_or (from i) 0) z) ∙
          ap (λ z. unwrap_or z 0) (constant_from cells (input_of (Variable n) sources.list o) v e)

  end_is : (m : Meant) (known : List (Option ℕ)) (is : List ℕ) (n u : ℕ) (x : Numbers × ℕ)
      → Agree known is → variable_known sources changed m (all_known known) ≡ Some n
      → read_root env store (RunNamed m) is u ≡ Ok x → the_number x.0 ≡ n
  end_is (meant.Variable k) known is n u x agree e ran =
      by (all_known known) (λ ns h. agree_all known is ns agree h) e
    where
      of : (ns : List ℕ) (t : Bool) → list_any (λ m. m == k) changed ≡ t → is ≡ ns
          → cond t None (element_known sources k (find (Variable k) (scope_of sources).homes) ns)
          ≡ Some n → the_number x.0 ≡ n
      of ns true et same e = cc
      of ns false et same e =
          variable_is k (find (Variable k) (scope_of sources).homes) ns n u x refl et e
          (ap (λ z. read_stored (stored store k) z u) (sym same) ∙ ran)

      by : (o : Option (List ℕ)) → ((ns : List ℕ) → o ≡ Some ns → is ≡ ns)
          → variable_known sources changed (meant.Variable k) o ≡ Some n → the_number x.0 ≡ n
      by None h e = cc
      by (Some ns) h e = of ns (list_any (λ m. m == k) changed) refl (h ns refl) e
  end_is meant.Other known is n u x agree e ran = cc
  end_is (meant.Signal direction k) known is n u x agree e ran = cc
  end_is (meant.Component k) known is n u x agree e ran = cc
  end_is (meant.Template k) known is n u x agree e ran = cc
  end_is (meant.Function k) known is n u x agree e ran = cc

  mutual
    pub number_is : (e : Expr Meant) (n u : ℕ) (x : Numbers × ℕ)
        → number_known sources changed e ≡ Some n → number_in env store e u ≡ Ok x
        → the_number x.0 ≡ n
    number_is (Number m) n u x e ran =
        let same : m % P ≡ n = cc in
        given (m % P) u x ran ∙ same
    number_is (Place name m accessors) n u x e ran =
        place_is accessors m [] [] n u x tt e ran
    number_is (Call parallel name m arguments) n u x e ran =
        called_is (sources.called (Call parallel name m arguments)) n u x
        (next (numbers_in env store arguments u) (λ (ds, u1). call_function env m ds u1)) e ran
    number_is (Anonymous parallel name m arguments inputs) n u x e ran = cc
    number_is (Parentheses a) n u x e ran = number_is a n u x e ran
    number_is (Array elements) n u x e ran = cc
    number_is (Unary o a) n u x e ran =
        let k : UnaryKnown (number_by (unary_of o)) (number_known sources changed a) n =
        unary_some (number_by (unary_of o)) (number_known sources changed a) n e in
        let r = both (number_in env store a u)
        (λ y. gives (single (number_by (unary_of o) (the_number y.0))) y.1) x ran in
        given (number_by (unary_of o) (the_number r.first.0)) r.first.1 x r.rest ∙
        ap (number_by (unary_of o)) (number_is a k.number u r.first k.told r.is) ∙ k.is
    number_is (Binary o a b) n u x e ran =
        let op : Operator = operator_of o in
        let r = both (number_in env store a u)
        (λ y. number (when (needs_right op (the_number y.0)) y.1 (number_in env store b y.1))
        (λ k w. next (result_number op (the_number y.0) k) (λ z. gives (single z) w))) x ran in
        let m : ℕ = the_number r.first.0 in
        let v : ℕ = r.first.1 in
        let s = both (when (needs_right op m) v (number_in env store b v))
        (λ y. next (result_number op m (the_number y.0)) (λ z. gives (single z) y.1)) x r.rest in
        let t = both (result_number op m (the_number s.first.0))
        (λ z. gives (single z) s.first.1) x s.rest in
        let value : the_number x.0 ≡ t.first = given t.first s.first.1 x t.rest in
        let same : t.first ≡ n =
        lazy_is op (number_known sources changed a) (number_known sources changed b) n m t.first v
        (number_in env store b v) s.first e (λ j ej. number_is a j u r.first ej r.is)
        (λ j z ej ez. number_is b j v z ej ez) s.is t.is in
        ◌∙◌ {b = t.first} value same
    number_is (Choice c a b) n u x e ran =
        let r = both (number_in env store c u)
        (λ y. number (cond (the_number y.0 == 0) (number_in env store b y.1)
        (number_in env store a y.1)) (λ k w. gives (single k) w)) x ran in
        let m : ℕ = the_number r.first.0 in
        let v : ℕ = r.first.1 in
        let s = both (cond (m == 0) (number_in env store b v) (number_in env store a v))
        (λ y. gives (single (the_number y.0)) y.1) x r.rest in
        given (the_number s.first.0) s.first.1 x s.rest ∙
        side_is (number_known sources changed c) (number_known sources changed a)
        (number_known sources changed b) n m (number_in env store a v) (number_in env store b v)
        s.first e (λ j ej. number_is c j u r.first ej r.is)
        (λ j ej ez. number_is a j v s.first ej ez) (λ j ej ez. number_is b j v s.first ej ez) s.is

    place_is : (rest : Accessors Meant) (m : Meant) (known : List (Option ℕ)) (is : List ℕ)
        (n u : ℕ) (x : Numbers × ℕ) → Agree known is
        → place_known sources changed m known rest ≡ Some n
        → place_in env store (RunNamed m) is rest u ≡ Ok x → the_number x.0 ≡ n
    place_is done m known is n u x agree e ran = end_is m known is n u x agree e ran
    place_is (index a rest) m known is n u x agree e ran =
        let r = both (number_in env store a u)
        (λ y. place_in env store (RunNamed m) (is ++ the_number y.0 ∷ []) rest y.1) x ran in
        place_is rest m (known ++ number_known sources changed a ∷ [])
        (is ++ the_number r.first.0 ∷ []) n r.first.1 x
        (agree_more known is (number_known sources changed a) (the_number r.first.0) agree
        (λ j ej. number_is a j u r.first ej r.is)) e r.rest
    place_is (member name rest) m known is n u x agree e ran = cc
