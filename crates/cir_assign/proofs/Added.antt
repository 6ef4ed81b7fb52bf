-- What is added to a variable, and where it is written.
use Rattle.std.proofs.Common.{◌≡◌, ℕ, Bool, true, false, List, [], ◌∷◌, Option, Ok}
use Rattle.std.proofs.Common.{refl, ap, sym, subst, ◌∙◌, Result, Err}
use Rattle.std.specs.Prelude.{count_by, not, IsErrAnd}
use Rattle.gold_field.specs.declared.operators.Op2.TheVariants as op2
use Rattle.cir_ast.specs.declared.program.Meant.{Meant}
use Rattle.cir_ast.specs.declared.program.Meant.TheVariants.{Variable}
use Rattle.cir_ast.specs.declared.operators.Binary.TheVariants as binary
use Rattle.cir_ast.specs.declared.marked.Accessor.{Accessor as CodeAccessor}
use Rattle.cir_ast.specs.declared.marked.Place.{Place as CodePlace}
use Rattle.cir_ast.specs.Tree.{Expr, Place, Parentheses, Binary, as_accessors, bare_place, done}
use Rattle.cir_lc.specs.Number.{Number}
use Rattle.cir_values.specs.declared.value.Value.{Value as CodeValue}
use Rattle.cir_values.specs.Meant.{meant}
use Rattle.cir_meaning.specs.Tried.{Where, Tried, next}
use Rattle.cir_meaning.specs.Values.{Value, Known, Linear, Quadratic, Opaque, sum_of}
use Rattle.cir_meaning.specs.Arrays.{Datum, Reach, Scalar, Whole, is_all_known, is_known, reach}
use Rattle.cir_meaning.specs.Arrays.{single, the_item}
use Rattle.cir_meaning.specs.Frame.{Context, State, variable_at}
use Rattle.cir_meaning.specs.Reading.{Stored, read_origin}
use Rattle.cir_meaning.specs.Evaluate.{value_in}
use Rattle.cir_meaning.specs.Writing.{written_datum}
use Rattle.cir_arrays.specs.declared.arrays.Datum.{Datum as CodeDatum}
use Rattle.cir_arrays.specs.declared.stop.Fault.{Fault}
use Rattle.cir_arrays.specs.Stopped.{IsRefusal}
use Rattle.cir_arrays.specs.Shown.{datum_of}
use Rattle.cir_arrays.proofs.Exits.{exits}
use Rattle.cir_assign.specs.declared.growing.NewValue.{NewValue}
use Rattle.cir_assign.specs.declared.growing.NewValue.TheVariants as new
use Rattle.cir_assign.specs.Grows.{AddsTo, GivesNew, IsNew, IsWhole, IsWritten}
use Rattle.cir_assign.proofs.Placing.{place_is}
use Rattle.cir_assign.proofs.Strict.{strict_left}

-- ---- a new value by what it is
pub whole_is : (v : NewValue) (d : CodeDatum) (old value : Datum) → v ≡ new.Whole d
    → IsNew old v value → value ≡ datum_of d
whole_is v d old value e h = subst (λ (z : NewValue). IsNew old z value) e h

pub sum_is : (v : NewValue) (y : CodeValue) (old value : Datum) → v ≡ new.Added y
    → IsNew old v value
    → (f : Number) × (old ≡ single (Linear f))
    × (value ≡ single (sum_of (Linear f) (meant y)))
sum_is v y old value e h = subst (λ (z : NewValue). IsNew old z value) e h

-- a sum with a linear number isn't known
sum_unknown : (f : Number) (y : Value) → is_all_known (single (sum_of (Linear f) y)) ≡ false
sum_unknown f (Known k) = refl
sum_unknown f (Linear g) = refl
sum_unknown f (Quadratic a b c) = refl
sum_unknown f Opaque = refl

pub sum_known : (f : Number) (y : Value) → is_known (sum_of (Linear f) y) ≡ false
sum_known f (Known k) = refl
sum_known f (Linear g) = refl
sum_known f (Quadratic a b c) = refl
sum_known f Opaque = refl

sum_counts : (f : Number) (y : Value)
    → count_by (λ v. not (is_known v)) (single (sum_of (Linear f) y)).items ≡ 1
sum_counts f (Known k) = refl
sum_counts f (Linear g) = refl
sum_counts f (Quadratic a b c) = refl
sum_counts f Opaque = refl

module _ (v : NewValue) (y : CodeValue) (old value : Datum) (e : v ≡ new.Added y)
    (h : IsNew old v value) where
  pub sum_dims : [] ≡ value.dims
  sum_dims = ap (λ (d : Datum). d.dims) (sym (sum_is v y old value e h).2)

  pub sum_not_known : false ≡ is_all_known value
  sum_not_known =
      let s = sum_is v y old value e h in
      sym (ap (λ (d : Datum). is_all_known d) s.2 ∙ sum_unknown s.0 (meant y))

  pub sum_count : 1 ≡ count_by (λ v. not (is_known v)) value.items
  sum_count =
      let s = sum_is v y old value e h in
      sym (ap (λ (d : Datum). count_by (λ v. not (is_known v)) d.items) s.2
      ∙ sum_counts s.0 (meant y))

-- ---- where a sum is written
same_ok : {A : Type 0} (a b : A) → ◌≡◌ {A = Tried A} (Ok a) (Ok b) → a ≡ b
same_ok a b e = cc

number_reached : (w : Where) (dark : Bool) (indices : List (Option ℕ)) (r : Reach)
    → reach w dark Whole [] indices ≡ Ok r → (r.is_sure ≡ true) × (r.places ≡ 0 ∷ [])
number_reached w dark [] r e =
    let same = same_ok (record { left = []; is_sure = true; places = 0 ∷ [] }) r e in
    (ap (λ (x : Reach). x.is_sure) (sym same), ap (λ (x : Reach). x.places) (sym same))
number_reached w dark (i ∷ is) r e = absurd (cc)

pub reach_written : (w : Where) (dark : Bool) (old value : Datum) (v : NewValue)
    (indices : List (Option ℕ)) (r : Reach) → IsNew old v value
    → reach w dark Whole old.dims indices ≡ Ok r → IsWritten v r
reach_written w dark old value (new.Whole d) indices r h e = tt
reach_written w dark old value (new.Added y) indices r h e =
    number_reached w dark indices r
    (ap (λ (d : Datum). reach w dark Whole d.dims indices) (sym h.1) ∙ e)

written_number : (x y : Value) (r : Reach) → r.is_sure ≡ true → r.places ≡ 0 ∷ []
    → written_datum (single x) r (single y) ≡ single y
written_number x y r e h = rw (e, h) refl

pub sum_stands : (old value : Datum) (v : NewValue) (r : Reach) (y : CodeValue)
    → v ≡ new.Added y
    → IsNew old v value → IsWritten v r → written_datum old r value ≡ value
sum_stands old value v r y e h w =
    let s = sum_is v y old value e h in
    let at = subst (λ (u : NewValue). IsWritten u r) e w in
    ap (λ (d : Datum). written_datum d r value) s.1
    ∙ ap (λ (d : Datum). written_datum (single (Linear s.0)) r d) s.2
    ∙ written_number (Linear s.0) (sum_of (Linear s.0) (meant y)) r at.0 at.1 ∙ sym s.2

-- .. also where the new number is told by itself
pub sum_written : (old value : Datum) (v : NewValue) (r : Reach) (y : CodeValue) (x z : Value)
    → v ≡ new.Added y → IsNew old v value → IsWritten v r → x ≡ the_item old
    → z ≡ sum_of x (meant y) → single z ≡ written_datum old r value
sum_written old value v r y x z e h w number sum =
    let s = sum_is v y old value e h in
    ap (λ (u : Value). single u) (sum ∙ ap (λ (u : Value). sum_of u (meant y))
    (number ∙ ap the_item s.1))
    ∙ sym s.2 ∙ sym (sum_stands old value v r y e h w)

-- ---- the form of a sum
pub whole_place : (q : CodePlace Meant) (n : ℕ) → q.meant ≡ Variable n → q.accessors ≡ []
    → IsWhole n (bare_place q)
whole_place q n e h = (
  q.name,
  place_is q
      ∙ ap (λ (m : Meant). Place q.name m (as_accessors q.accessors)) e
      ∙ ap (λ (l : List (CodeAccessor Meant)). Place q.name (Variable n) (as_accessors l)) h,
)

pub sum_whole : (n : ℕ) (whole a b : Expr Meant) → whole ≡ Binary binary.Add a b
    → IsWhole n a → AddsTo n whole b
sum_whole n whole a b e h = (
  h.0,
  λ k w dark want s. ap (λ (x : Expr Meant). value_in k w dark want x s)
      (e ∙ ap (λ (y : Expr Meant). Binary binary.Add y b) h.1),
)

pub sum_compound : (n : ℕ) (whole a b : Expr Meant)
    → whole ≡ Binary binary.Add a (Parentheses b) → IsWhole n a → AddsTo n whole b
sum_compound n whole a b e h = (
  h.0,
  λ k w dark want s. ap (λ (x : Expr Meant). value_in k w dark want x s)
      (e ∙ ap (λ (y : Expr Meant). Binary binary.Add y (Parentheses b)) h.1),
)

-- ---- the value of a sum
pub new_refused : (n : ℕ) (s : State) (r : Result NewValue Fault) (e : Fault)
    (m : Tried (Datum × State)) → IsErrAnd r (λ x. x ≡ e) → IsRefusal e m
    → GivesNew n s r m
new_refused n s (Ok v) e m err h = absurd err
new_refused n s (Err x) e m err h = rw err h

module _ (k : Context) (w : Where) (dark : Bool) (n : ℕ) (e part : Expr Meant) (s : State)
    (f : Number) (adds : AddsTo n e part) (is : variable_at s.frame n ≡ single (Linear f)) where
  number_read : value_in k w dark Scalar (Place adds.0 (Variable n) done) s
      ≡ Ok (single (Linear f), s)
  number_read =
      ap (λ (d : Datum). next (read_origin w dark Scalar [] (Stored d)) (λ d. Ok (d, s))) is

  abbrev sum : Datum × State → Tried (Datum × State)
  sum (d, s2) = Ok (single (sum_of (Linear f) (the_item d)), s2)

  pub sum_first : value_in k w dark Whole e s ≡ next (value_in k w dark Scalar part s) sum
  sum_first =
      adds.1 k w dark Whole s
      ∙ strict_left k w dark Whole binary.Add op2.Add (Place adds.0 (Variable n) done) part s s
      (Linear f) refl number_read

  pub sum_refused : (t : State) (r : Result NewValue Fault) (y : Fault)
      → IsErrAnd r (λ x. x ≡ y) → IsRefusal y (value_in k w dark Scalar part s)
      → GivesNew n t r (value_in k w dark Whole e s)
  sum_refused t r y err h =
      new_refused n t r y (value_in k w dark Whole e s) err
      (subst (λ (z : Tried (Datum × State)). IsRefusal y z) (sym sum_first)
      (exits y (value_in k w dark Scalar part s) sum h))

  pub sum_goes : (y : Value) (s2 : State) → value_in k w dark Scalar part s ≡ Ok (single y, s2)
      → value_in k w dark Whole e s ≡ Ok (single (sum_of (Linear f) y), s2)
  sum_goes y s2 h = sum_first ∙ ap (λ (z : Tried (Datum × State)). next z sum) h
