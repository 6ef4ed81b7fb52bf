-- What the code's texts stand for.
use Rattle.std.specs.Prelude.{◌≡◌, map, Option, Some, None}
use Rattle.cir_ast.specs.declared.program.Spot.{Spot}
use Rattle.cir_ast.specs.declared.program.Meant.{Meant}
use Rattle.cir_ast.specs.declared.marked.Place.{Place as CodePlace}
use Rattle.cir_ast.specs.Tree.{Expr, Binary, Number, Parentheses, Assign, Set, Compound, Left}
use Rattle.cir_ast.specs.Tree.{Increment, Decrement, Statements, bare, bare_place, bare_variable}
use Rattle.cir_ast.specs.Tree.{bare_assign, place_accessors}
use Rattle.cir_meaning.specs.Arrays.{Scalar, Whole}
use Rattle.cir_meaning.specs.Texts as T
use Rattle.cir_meaning.specs.Writing.{plain}
use Rattle.cir_texts.specs.declared.texts.Wanted.{Wanted}
use Rattle.cir_texts.specs.declared.texts.Wanted.TheVariants as wanted
use Rattle.cir_texts.specs.declared.texts.Called.{Called}
use Rattle.cir_texts.specs.declared.texts.Assigned.{Assigned}
use Rattle.cir_texts.specs.declared.texts.Texts.{Texts}

abbrev pub wanted_of : Wanted → T.Wanted
wanted_of (wanted.Number e) = record { want = Scalar; expr = bare e.now }
wanted_of (wanted.Whole e) = record { want = Whole; expr = bare e.now }
wanted_of (wanted.Compound op place e) =
    record { want = Whole; expr = Binary op (bare_place place.now) (Parentheses (bare e.now)) }
wanted_of (wanted.Step op place) =
    record { want = Whole; expr = Binary op (bare_place place.now) (Number 1) }

abbrev pub called_of : Called → T.Called
called_of c = record { function = c.function; arguments = map bare c.arguments.now }

-- an assignment to a place
abbrev pub set_at : CodePlace Meant → Expr Meant → Assign Meant
set_at p e = Set p.name p.meant (place_accessors p) e

abbrev pub set_of : Assigned → Assign Meant
set_of a = set_at a.place.now (wanted_of a.value).expr

abbrev pub found_set : Option Assigned → Option (Assign Meant)
found_set None = None
found_set (Some a) = Some (set_of a)

-- what assigns to a place, and not to a signal
abbrev pub set_in : Assign Meant → Option (Assign Meant)
set_in (Set name m accessors e) = Some (Set name m accessors e)
set_in (Compound name m accessors op e) = None
set_in (Left name m accessors arrow e) = None
set_in (Increment name m accessors) = None
set_in (Decrement name m accessors) = None

-- what stands in a body
pub record Shows (t : Texts) (body : Statements Spot Meant) : Type 0 where
  pub wanted : map wanted_of t.wanted.items ≡ T.all_wanted body
  pub returned : map (λ e. bare e.now) t.returned.items ≡ T.all_returned body
  pub variables : map (λ v. bare_variable v.now) t.variables.items ≡ T.all_variables body
  pub assigns : map (λ a. plain (bare_assign a.now)) t.assigns.items ≡ T.all_assigns body
