-- A call that is listed has the value that is told of it.
use Rattle.std.proofs.Common.{◌≡◌, ◌∙◌, Bool, true, false, List, [], ◌∷◌, ap, refl, sym}
use Rattle.std.specs.Prelude.{◌||◌, if◌then◌else◌, option_map}
use Rattle.std.specs.List.{AllByRecursion, list_all}
use Rattle.std.proofs.lemmas.Bool.{and_parts}
use Rattle.cir_ast.specs.declared.program.Meant.{Meant}
use Rattle.cir_ast.specs.Tree.{Expr, bare}
use Rattle.wit_sourced.specs.declared.loaded.CallValue.{CallValue}
use Rattle.wit_sourced.specs.Loaded.{AreTold, Calls, called_in, called_of, has_call}
use Rattle.wit_sourced.specs.Same.{same_expr}
use Rattle.wit_sourced.proofs.SameTrees.{same_is}

pub listed : (called : Calls) (calls : List CallValue) (e : Expr Meant) → AreTold called calls
    → has_call calls e ≡ true → called_in calls e ≡ called e
listed called [] e told there = cc
listed called (c ∷ cs) e told there =
    at (listed called cs e told.1) (same_expr (bare c.call.now) e) refl there
  where
    at : (has_call cs e ≡ true → called_in cs e ≡ called e) → (b : Bool)
        → same_expr (bare c.call.now) e ≡ b → (b || has_call cs e) ≡ true
        → (if same_expr (bare c.call.now) e then option_map called_of c.value
        else called_in cs e) ≡ called e
    at rest true is there =
        ap (λ t. if t then option_map called_of c.value else called_in cs e) is
        ∙ sym told.0 ∙ ap called (same_is (bare c.call.now) e is)
    at rest false is there =
        ap (λ t. if t then option_map called_of c.value else called_in cs e) is ∙ rest there

pub all_listed : (called : Calls) (calls : List CallValue) (es : List (Expr Meant))
    → AreTold called calls → list_all (has_call calls) es ≡ true
    → AllByRecursion (λ c. called_in calls c ≡ called c) es
all_listed called calls [] told there = tt
all_listed called calls (e ∷ es) told there =
    let parts = and_parts (has_call calls e) (list_all (has_call calls) es) there in (
      listed called calls e told parts.0,
      all_listed called calls es told parts.1,
    )
