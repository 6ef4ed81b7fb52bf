-- Assignments by their places, and what they give.
use Rattle.std.proofs.Common.{◌≡◌, Bool, List, [], Bor, Ok, refl, ap, sym, subst, ◌∙◌}
use Rattle.gold_field.specs.declared.operators.Op2.{Op2}
use Rattle.gold_field.specs.declared.operators.Op2.TheVariants as op2
use Rattle.cir_ast.specs.declared.program.Meant.{Meant}
use Rattle.cir_ast.specs.declared.operators.Compound.{Compound as CompoundOperator}
use Rattle.cir_ast.specs.declared.operators.Compound.TheVariants as compound
use Rattle.cir_ast.specs.declared.marked.Accessor.{Accessor as CodeAccessor}
use Rattle.cir_ast.specs.declared.marked.Expr.{Expr as CodeExpr}
use Rattle.cir_ast.specs.declared.marked.Place.{Place as CodePlace}
use Rattle.cir_ast.specs.declared.marked.Assign.{Assign as CodeAssign}
use Rattle.cir_ast.specs.declared.marked.Assign.TheVariants as assign
use Rattle.cir_ast.specs.Tree.{Place, Parentheses, Accessors, Assign, Set, Compound, Increment}
use Rattle.cir_ast.specs.Tree.{Decrement, bare, bare_assign, bare_place, as_accessors}
use Rattle.cir_ast.specs.Tree.{place_accessors}
use Rattle.cir_ast.proofs.Rows.{accessors_are}
use Rattle.cir_meaning.specs.Tried.{Where, Tried, next}
use Rattle.cir_meaning.specs.Arrays.{Datum, Scalar, Whole, single, the_item}
use Rattle.cir_meaning.specs.Values.{Value, result_of}
use Rattle.cir_meaning.specs.Operators.{Strict, operator_of, compound_of, divided_at}
use Rattle.cir_meaning.specs.Reading.{Named}
use Rattle.cir_meaning.specs.Frame.{State, Context}
use Rattle.cir_meaning.specs.Evaluate.{scalar, answered, value_in, read_in}
use Rattle.cir_assign.specs.declared.assigning.Given.{Given}
use Rattle.cir_assign.specs.declared.assigning.Given.TheVariants as given
use Rattle.cir_assign.specs.declared.assigning.Placed.{Placed}
use Rattle.cir_assign.specs.Given.{IsPlaceOf, IsPlaced, given_by, written_by}
use Rattle.cir_assign.proofs.Strict.{strict_first, strict_left, strict_goes}

pub place_is : (q : CodePlace Meant) → bare_place q ≡ Place q.name q.meant (as_accessors
    q.accessors)
place_is q = ap (Place q.name q.meant) (accessors_are Meant q.accessors)

-- an assignment that stands at this place
abbrev AtPlace : CodePlace Meant → Placed → Type 0
AtPlace q p = (p.meant ≡ q.meant) × (p.accessors.now ≡ q.accessors)

written_at : (q : CodePlace Meant) (p : Placed) → AtPlace q p
    → (f : Meant → Accessors Meant → Assign Meant)
    → f q.meant (place_accessors q) ≡ f p.meant (as_accessors p.accessors.now)
written_at q p at f =
    ap (f q.meant) (accessors_are Meant q.accessors)
    ∙ ap (λ (m : Meant). f m (as_accessors q.accessors)) (sym at.0)
    ∙ ap (λ (l : List (CodeAccessor Meant)). f p.meant (as_accessors l)) (sym at.1)

place_at : (q : CodePlace Meant) (p : Placed) → AtPlace q p
    → bare_place q ≡ Place q.name p.meant (as_accessors p.accessors.now)
place_at q p at =
    place_is q
    ∙ ap (λ (m : Meant). Place q.name m (as_accessors q.accessors)) (sym at.0)
    ∙ ap (λ (l : List (CodeAccessor Meant)). Place q.name p.meant (as_accessors l)) (sym at.1)

abbrev shown_by : CodePlace Meant → Placed → Given → Assign Meant
shown_by q p g = written_by q.name p.meant p.accessors.now g

-- an assignment by its place that gives so
placed_as : (q : CodePlace Meant) (p : Placed) (g : Given) (a : Assign Meant)
    → a ≡ shown_by q p g
    → IsPlaceOf q.name p.meant p.accessors.now g → p.given ≡ g → IsPlaced a p
placed_as q p g a written place is = record {
  name = q.name;
  written = written ∙ ap (shown_by q p) (sym is);
  place = subst (λ (x : Given). IsPlaceOf q.name p.meant p.accessors.now x) (sym is) place;
}

-- the place of which a new value is made
same_place : (q : CodePlace Meant) (p : Placed) (r : Bor (CodePlace Meant)) → AtPlace q p
    → r.now ≡ q → bare_place r.now ≡ Place q.name p.meant (as_accessors p.accessors.now)
same_place q p r at is = ap (λ (x : CodePlace Meant). bare_place x) is ∙ place_at q p at

pub set_placed : (a : CodeAssign Meant) (q : CodePlace Meant) (e : CodeExpr Meant) (p : Placed)
    (b : Bor (CodeExpr Meant)) → a ≡ assign.Set q e → p.meant ≡ q.meant
    → p.accessors.now ≡ q.accessors → p.given ≡ given.Plain b → b.now ≡ e
    → IsPlaced (bare_assign a) p
set_placed a q e p b h m l g is =
    placed_as q p (given.Plain b) (bare_assign a)
    (ap bare_assign h ∙ written_at q p (m, l) (λ m acc. Set q.name m acc (bare e))
    ∙ ap (λ (x : CodeExpr Meant). Set q.name p.meant (as_accessors p.accessors.now) (bare x))
    (sym is)) tt g

pub compound_placed : (a : CodeAssign Meant) (q : CodePlace Meant) (op : CompoundOperator)
    (e : CodeExpr Meant) (p : Placed) (r : Bor (CodePlace Meant)) (b : Bor (CodeExpr Meant))
    → a ≡ assign.Compound q op e → p.meant ≡ q.meant → p.accessors.now ≡ q.accessors
    → p.given ≡ given.Compound op r b → r.now ≡ q → b.now ≡ e
    → IsPlaced (bare_assign a) p
compound_placed a q op e p r b h m l g place is =
    placed_as q p (given.Compound op r b) (bare_assign a)
    (ap bare_assign h ∙ written_at q p (m, l) (λ m acc. Compound q.name m acc op (bare e))
    ∙ ap (λ (x : CodeExpr Meant). Compound q.name p.meant (as_accessors p.accessors.now) op
    (bare x)) (sym is)) (same_place q p r (m, l) place) g

pub increment_placed : (a : CodeAssign Meant) (q : CodePlace Meant) (p : Placed)
    (r : Bor (CodePlace Meant)) → a ≡ assign.Increment q → p.meant ≡ q.meant
    → p.accessors.now ≡ q.accessors → p.given ≡ given.Increment r → r.now ≡ q
    → IsPlaced (bare_assign a) p
increment_placed a q p r h m l g place =
    placed_as q p (given.Increment r) (bare_assign a)
    (ap bare_assign h ∙ written_at q p (m, l) (Increment q.name))
    (same_place q p r (m, l) place) g

pub decrement_placed : (a : CodeAssign Meant) (q : CodePlace Meant) (p : Placed)
    (r : Bor (CodePlace Meant)) → a ≡ assign.Decrement q → p.meant ≡ q.meant
    → p.accessors.now ≡ q.accessors → p.given ≡ given.Decrement r → r.now ≡ q
    → IsPlaced (bare_assign a) p
decrement_placed a q p r h m l g place =
    placed_as q p (given.Decrement r) (bare_assign a)
    (ap bare_assign h ∙ written_at q p (m, l) (Decrement q.name))
    (same_place q p r (m, l) place) g

pub strict_of : (op : CompoundOperator) → (o : Op2) × (operator_of (compound_of op) ≡ Strict o)
strict_of compound.Pow = (op2.Pow, refl)
strict_of compound.ShiftLeft = (op2.Shl, refl)
strict_of compound.ShiftRight = (op2.Shr, refl)
strict_of compound.Add = (op2.Add, refl)
strict_of compound.Sub = (op2.Sub, refl)
strict_of compound.Mul = (op2.Mul, refl)
strict_of compound.Div = (op2.Div, refl)
strict_of compound.Quotient = (op2.Quot, refl)
strict_of compound.Remainder = (op2.Rem, refl)
strict_of compound.And = (op2.And, refl)
strict_of compound.Or = (op2.Or, refl)
strict_of compound.Xor = (op2.Xor, refl)

-- a compound assignment, in parts
module _ (k : Context) (w : Where) (dark : Bool) (g : Given) (op : CompoundOperator)
    (r : Bor (CodePlace Meant)) (b : Bor (CodeExpr Meant)) (s : State)
    (is : g ≡ given.Compound op r b) where
  abbrev place : Tried (Datum × State)
  place = read_in k w dark Scalar (Named r.now.meant) [] (place_accessors r.now) s

  pub compound_first : value_in k w dark Whole (given_by g) s
      ≡ next place (λ (x, s1). scalar (value_in k w dark Scalar (bare b.now) s1)
      (λ y s2. next (divided_at w dark (result_of (strict_of op).0 (the_item x) y))
      (λ v. answered v s2)))
  compound_first =
      ap (λ (x : Given). value_in k w dark Whole (given_by x) s) is
      ∙ strict_first k w dark Whole (compound_of op) (strict_of op).0 (bare_place r.now)
      (Parentheses (bare b.now)) s (strict_of op).1

  pub compound_left : (o : Op2) (x : Value) (s1 : State)
      → operator_of (compound_of op) ≡ Strict o
      → place ≡ Ok (single x, s1) → value_in k w dark Whole (given_by g) s
      ≡ next (value_in k w dark Scalar (bare b.now) s1) (λ (d, s2).
      next (divided_at w dark (result_of o x (the_item d))) (λ v. answered v s2))
  compound_left o x s1 h e =
      ap (λ (x : Given). value_in k w dark Whole (given_by x) s) is
      ∙ strict_left k w dark Whole (compound_of op) o (bare_place r.now)
      (Parentheses (bare b.now)) s s1 x h e

  pub compound_both : (o : Op2) (x y : Value) (s1 s2 : State)
      → operator_of (compound_of op) ≡ Strict o → place ≡ Ok (single x, s1)
      → value_in k w dark Scalar (bare b.now) s1 ≡ Ok (single y, s2)
      → value_in k w dark Whole (given_by g) s
      ≡ next (divided_at w dark (result_of o x y)) (λ v. answered v s2)
  compound_both o x y s1 s2 h e f =
      ap (λ (x : Given). value_in k w dark Whole (given_by x) s) is
      ∙ strict_goes k w dark Whole (compound_of op) o (bare_place r.now)
      (Parentheses (bare b.now)) s s1 s2 x y h e f
