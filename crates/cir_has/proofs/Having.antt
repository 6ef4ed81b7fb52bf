-- What a tree needs, by the needs of its parts.
use Rattle.std.proofs.Common.{◌≡◌, ℕ, zero, suc, true, Bool, List, [], ◌∷◌, length, refl, sym}
use Rattle.std.proofs.Common.{subst}
use Rattle.std.specs.Prelude.{Option, Some, None, is_some}
use Rattle.cir_ast.specs.declared.marked.Expr.{Expr as CodeExpr}
use Rattle.cir_ast.specs.declared.marked.Expr.TheVariants as expr
use Rattle.cir_ast.specs.declared.marked.Place.{Place as CodePlace}
use Rattle.cir_ast.specs.declared.program.Meant.{Meant}
use Rattle.cir_ast.specs.Tree.{Array, as_accessors, bare, bare_exprs}
use Rattle.cir_ast.proofs.Rows.{exprs_are, accessors_are}
use Rattle.cir_meaning.specs.RunValues.{Numbers}
use Rattle.wit_lower.specs.Fits.{UnlessSkipped, Sides}
use Rattle.wit_lower.specs.Homes as L
use Rattle.wit_lower.specs.Values as V
use Rattle.cir_emit.specs.Sourced.{HasAll, EachHas, PlaceHas, KeyHas, UnlessKnown}

pub unless_known : (o : Option Numbers) (A : Type 0) → is_some o ≡ true → UnlessKnown o A
unless_known None A e = cc
unless_known (Some d) A e = tt

pub unless_made : (o : Option Numbers) (A : Type 0) → A → UnlessKnown o A
unless_made None A h = h
unless_made (Some d) A h = tt

pub unless_skipped : (o : Option ℕ) (A : Type 0) → is_some o ≡ true → UnlessSkipped o A
unless_skipped None A e = cc
unless_skipped (Some n) A e = tt

pub first_side : (n : ℕ) (A B : Type 0) → (n ≡ 0 → ⊥) → A → Sides (Some n) A B
first_side zero A B other h = absurd (other refl)
first_side (suc n) A B other h = h

module _ (There : L.Name → Type 0) (g : L.Ground) (homes : L.Homes) where
  pub place_has : (p : CodePlace Meant)
      → PlaceHas There g homes (L.Named p.meant) [] (as_accessors p.accessors)
      → HasAll There g homes (bare (expr.Place p))
  place_has p h =
      subst (PlaceHas There g homes (L.Named p.meant) [])
      (sym (accessors_are Meant p.accessors)) h

  pub call_has : (parallel : Bool) (name : List ℕ) (m : Meant) (es : List (CodeExpr Meant))
      → UnlessKnown (g.called (bare (expr.Call parallel name m es)))
      (EachHas There g homes (bare_exprs es)
      × KeyHas g.keys m (V.shapes_of g homes (bare_exprs es)))
      → HasAll There g homes (bare (expr.Call parallel name m es))
  call_has parallel name m es h =
      subst (λ row. UnlessKnown (g.called (bare (expr.Call parallel name m es)))
      (EachHas There g homes row × KeyHas g.keys m (V.shapes_of g homes row)))
      (sym (exprs_are Meant es)) h

  filled : (es : List (CodeExpr Meant)) → (length es ≡ 0 → ⊥)
      → EachHas There g homes (bare_exprs es) → HasAll There g homes (Array (bare_exprs es))
  filled [] some h = absurd (some refl)
  filled (e ∷ es) some h = h

  pub array_has : (es : List (CodeExpr Meant)) → (length es ≡ 0 → ⊥)
      → EachHas There g homes (bare_exprs es) → HasAll There g homes (bare (expr.Array es))
  array_has es some h =
      subst (λ row. HasAll There g homes (Array row)) (sym (exprs_are Meant es))
      (filled es some h)
