-- What the definitions say of an expression that holds a list.
use Rattle.std.proofs.Common.{◌≡◌, ◌∙◌, ℕ, List, [], ◌∷◌, ◌++◌, refl, ap, sym}
use Rattle.std.specs.Prelude.{map, Bool, true, false, ◌||◌}
use Rattle.cir_ast.specs.declared.marked.Expr.{Expr as CodeExpr}
use Rattle.cir_ast.specs.declared.marked.Expr.TheVariants as expr
use Rattle.cir_ast.specs.declared.marked.Place.{Place as CodePlace}
use Rattle.cir_ast.specs.declared.operators.Binary.{Binary as BinaryOp}
use Rattle.cir_ast.specs.declared.program.Meant.{Meant}
use Rattle.cir_ast.specs.Tree.{Set, place_accessors, Number, Place, Call, Parentheses, Array}
use Rattle.cir_ast.specs.Tree.{Binary, bare, bare_place, bare_exprs, as_accessors}
use Rattle.cir_ast.proofs.Rows.{exprs_are, accessors_are}
use Rattle.cir_meaning.specs.Arrays.{Want, Scalar, Whole}
use Rattle.cir_meaning.specs.Texts.{Wanted, list_of, numbers_wanted, indices_of, plain_wanted}
use Rattle.cir_meaning.specs.Texts.{calls_of, all_calls, place_calls, call_of}
use Rattle.cir_meaning.specs.Reached.{is_misplaced, any_misplaced}
use Rattle.cir_meaning.specs.Reached.{argument_misplaced, index_misplaced}

pub listed : (es : List (CodeExpr Meant)) → list_of (bare_exprs es) ≡ map bare es
listed [] = refl
listed (e ∷ es) = ap (λ rest. bare e ∷ rest) (listed es)

pub assigned_wanted : (w : Wanted) (p : CodePlace Meant) → w.want ≡ Whole
    → w ∷ numbers_wanted (indices_of (as_accessors p.accessors))
    ≡ plain_wanted (Set p.name p.meant (place_accessors p) w.expr)
assigned_wanted w p e =
    ap (λ want. record { want = want; expr = w.expr }
    ∷ numbers_wanted (indices_of (as_accessors p.accessors))) e
    ∙ ap (λ a. record { want = Whole; expr = w.expr } ∷ numbers_wanted (indices_of a))
    (sym (accessors_are Meant p.accessors))

pub misplaced_place : (want : Want) (p : CodePlace Meant)
    → is_misplaced want (bare (expr.Place p)) ≡ index_misplaced (as_accessors p.accessors)
misplaced_place want p =
    ap (λ a. is_misplaced want (Place p.name p.meant a)) (accessors_are Meant p.accessors)

pub misplaced_call : (want : Want) (parallel : Bool) (name : List ℕ) (m : Meant)
    (es : List (CodeExpr Meant))
    → is_misplaced want (bare (expr.Call parallel name m es)) ≡ argument_misplaced (bare_exprs es)
misplaced_call want parallel name m es =
    ap (λ a. is_misplaced want (Call parallel name m a)) (exprs_are Meant es)

pub misplaced_array : (es : List (CodeExpr Meant))
    → is_misplaced Whole (bare (expr.Array es)) ≡ any_misplaced (bare_exprs es)
misplaced_array es = ap (λ a. is_misplaced Whole (Array a)) (exprs_are Meant es)

pub calls_place : (p : CodePlace Meant)
    → calls_of (bare (expr.Place p)) ≡ place_calls (as_accessors p.accessors)
calls_place p = ap place_calls (accessors_are Meant p.accessors)

pub calls_call : (parallel : Bool) (name : List ℕ) (m : Meant) (es : List (CodeExpr Meant))
    → calls_of (bare (expr.Call parallel name m es))
    ≡ all_calls (bare_exprs es) ++ call_of m (bare_exprs es)
calls_call parallel name m es =
    ap (λ a. all_calls a ++ call_of m a) (exprs_are Meant es)

pub calls_array : (es : List (CodeExpr Meant))
    → calls_of (bare (expr.Array es)) ≡ all_calls (bare_exprs es)
calls_array es = ap all_calls (exprs_are Meant es)

pub misplaced_compound : (op : BinaryOp) (p : CodePlace Meant) (e : CodeExpr Meant)
    → is_misplaced Whole (Binary op (bare_place p) (Parentheses (bare e)))
    ≡ (index_misplaced (as_accessors p.accessors) || is_misplaced Scalar (bare e))
misplaced_compound op p e = ap (λ b. b || is_misplaced Scalar (bare e)) (misplaced_place Scalar p)

or_false : (b : Bool) → (b || false) ≡ b
or_false true = refl
or_false false = refl

pub misplaced_step : (op : BinaryOp) (p : CodePlace Meant)
    → is_misplaced Whole (Binary op (bare_place p) (Number 1))
    ≡ index_misplaced (as_accessors p.accessors)
misplaced_step op p = ap (λ b. b || false) (misplaced_place Scalar p) ∙ or_false _

pub ruleset misplaced_wanted = (misplaced_compound, misplaced_step)

pub ruleset misplaced_lists = (misplaced_place, misplaced_call, misplaced_array)
