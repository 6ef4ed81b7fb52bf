-- The body of a definition, behind its parameters.
use Rattle.std.proofs.Common.{◌≡◌, ℕ, ◌+◌, Bool, List, [], ◌∷◌, length, None, refl, sym, subst}
use Rattle.std.proofs.Common.{arith}
use Rattle.std.specs.Prelude.{nat_lt}
use Rattle.std.proofs.lemmas.Bool.{ltb-true, lt-ltb}
use Rattle.cir_ast.specs.declared.program.Spot.{Spot}
use Rattle.cir_ast.specs.declared.program.Meant.{Meant}
use Rattle.cir_ast.specs.declared.program.Meant.TheVariants as meant
use Rattle.cir_ast.specs.Tree.{Statements}
use Rattle.cir_ast.specs.Plain.{plain_statements}
use Rattle.cir_ast.specs.Shape.{AreShapedStatements}
use Rattle.cir_resolve.specs.Steps.{made, in_turn}
use Rattle.cir_resolve.specs.Scope.{Lookup, State, opening, counted, with_name, declared}
use Rattle.cir_resolve.specs.Naming.{named_statements}
use Rattle.cir_resolve.specs.Definitions.{Definition, Numbers, defined_by, named_parameter}
use Rattle.cir_resolve.specs.Definitions.{named_body}
use Rattle.cir_checks.specs.declared.positions.Position.TheVariants.{InFunction, Outermost}
use Rattle.cir_checks.specs.Heads.{Table}
use Rattle.cir_checks.specs.Checked.{AreStatements}
use Rattle.cir_names.proofs.Unnamed.{statements_same}
use Rattle.cir_meaning.specs.SignalFree.{AreFreeStatements}
use Rattle.cir_meaning.specs.Scoped.{AreScoped, behind_all}
use Rattle.cir_scope.specs.Runnable.{AllMayRun, body_scope}
use Rattle.cir_checks.specs.declared.positions.Position.{Position}
use Rattle.cir_scope.proofs.Given.{OnGiven, given_behind, given_made, given_declared, given_less}
use Rattle.cir_scope.proofs.Given.{given_both}
use Rattle.cir_scope.proofs.TemplateStatements.{are_scoped}
use Rattle.cir_scope.proofs.Agreement.{IsCovered, Covers, Agrees, wider_covered, covers_more}
use Rattle.cir_scope.proofs.Lookups.{of_definitions}
use Rattle.cir_scope.proofs.FreeNames.{IsFreeName, AreFreeNames, IsFreeState, free_variable}
use Rattle.cir_scope.proofs.ScopedStatements as scoped
use Rattle.cir_scope.proofs.FreeStatements as free

-- no definition's name means what a body declares
pub record AreDefined (names : Lookup) : Type 0 where
  pub covered : (seen : ℕ → Bool) → Covers seen names
  pub free : AreFreeNames names

pub are_defined : (names : Lookup) (n : Numbers) (ds : List Definition)
    → ((name : List ℕ) → names name ≡ None) → AreDefined (defined_by names n ds)
are_defined names n ds none = record {
  covered = λ seen. of_definitions (IsCovered seen) (λ k. tt) (λ k. tt) names n ds
      (λ name. subst (IsCovered seen) (sym (none name)) tt);
  free = of_definitions IsFreeName (λ k. tt) (λ k. tt) names n ds
      (λ name. subst IsFreeName (sym (none name)) tt);
}

-- ---- parameters
wider : (names : Lookup) (n : ℕ) → Covers (λ k. nat_lt k n) names
    → Covers (λ k. nat_lt k (n + 1)) names
wider names n h name =
    wider_covered (λ k. nat_lt k n) (λ k. nat_lt k (n + 1))
    (λ k e. lt-ltb k (n + 1) (omega (arith, ltb-true k n e))) (names name) (h name)

parameter_agrees : (t : Table) (functions : ℕ) (st : State) (name : List ℕ)
    → Agrees t (body_scope functions st.variables) st
    → Agrees t (body_scope functions (st.variables + 1))
    (with_name (counted st (meant.Variable st.variables)) name (meant.Variable st.variables))
parameter_agrees t functions st name a =
    record {
      functions = a.functions;
      variables = refl;
      signals = omega (arith, a.signals);
      defined = a.defined;
      outer = wider st.outer st.variables a.outer;
      inner =
          covers_more (λ k. nat_lt k (st.variables + 1)) st.inner name
          (meant.Variable st.variables)
          (lt-ltb st.variables (st.variables + 1) (omega arith))
          (wider st.inner st.variables a.inner);
    }

abbrev Counts : {A : Type 0} → Table → ℕ → ℕ → A → State → Type 0
Counts t functions n x st =
    Agrees t (body_scope functions st.variables) st × (st.variables ≡ n)

given_parameters : (t : Table) (functions : ℕ) (spot : Spot) (names : List (List ℕ)) (st : State)
    (n : ℕ) → Agrees t (body_scope functions st.variables) st → n ≡ st.variables + length names
    → OnGiven (Counts t functions n) (in_turn (named_parameter spot) st names)
given_parameters t functions spot [] st n a e = (a, omega (arith, e))
given_parameters t functions spot (name ∷ names) st n a e =
    given_behind (Counts t functions (st.variables + 1)) (Counts t functions n)
    (named_parameter spot st name)
    (λ b y. made (λ bs. b ∷ bs) (in_turn (named_parameter spot) y names))
    (given_made (Counts t functions (st.variables + 1)) (Counts t functions (st.variables + 1))
    (λ m. name) (declared spot st name (meant.Variable st.variables))
    (given_declared (Counts t functions (st.variables + 1)) spot st name
    (meant.Variable st.variables) (parameter_agrees t functions st name a, refl))
    (λ m y c. c))
    (λ b y c. given_made (Counts t functions n) (Counts t functions n) (λ bs. b ∷ bs)
    (in_turn (named_parameter spot) y names)
    (given_parameters t functions spot names y n c.0 (omega (arith, e, c.1)))
    (λ bs z d. d))

free_parameters : (spot : Spot) (names : List (List ℕ)) (st : State) → IsFreeState st
    → OnGiven (λ bs after. IsFreeState after) (in_turn (named_parameter spot) st names)
free_parameters spot [] st s = s
free_parameters spot (name ∷ names) st s =
    given_behind (λ b after. IsFreeState after) (λ bs after. IsFreeState after)
    (named_parameter spot st name)
    (λ b y. made (λ bs. b ∷ bs) (in_turn (named_parameter spot) y names))
    (given_made (λ m after. IsFreeState after) (λ b after. IsFreeState after) (λ m. name)
    (declared spot st name (meant.Variable st.variables))
    (given_declared (λ m after. IsFreeState after) spot st name (meant.Variable st.variables)
    (free_variable st st.variables name s))
    (λ m y f. f))
    (λ b y f. given_made (λ bs after. IsFreeState after) (λ bs after. IsFreeState after)
    (λ bs. b ∷ bs) (in_turn (named_parameter spot) y names) (free_parameters spot names y f)
    (λ bs z g. g))

-- ---- bodies
abbrev pub BodyFits : Table → Position → (functions parameters : ℕ) → Statements Spot Meant → State
    → Type 0
BodyFits t p functions n xs st =
    (AreStatements t p xs → AllMayRun (body_scope functions n) xs)
    × ((behind_all (body_scope functions n) xs).variables ≡ st.variables)

pub given_body : (t : Table) (p : Position) (functions : ℕ) (names : Lookup) (spot : Spot)
    (parameters : List (List ℕ)) (xs : Statements Spot Meant) → functions ≡ length t.functions
    → AreDefined names
    → OnGiven (BodyFits t p functions (length parameters)) (named_body names spot parameters xs)
given_body t p functions names spot parameters xs all d =
    given_behind (Counts t functions (length parameters))
    (BodyFits t p functions (length parameters))
    (in_turn (named_parameter spot) (opening names) parameters) (λ bs st. named_statements st xs)
    (given_parameters t functions spot parameters (opening names) (length parameters) record {
      functions = all;
      variables = refl;
      signals = refl;
      defined = d.covered;
      outer = λ name. tt;
      inner = λ name. tt;
    } (omega arith))
    (λ bs st c. given_less
    (scoped.StatementsFit t p (body_scope functions (length parameters)))
    (BodyFits t p functions (length parameters)) (named_statements st xs)
    (scoped.given_statements t p (body_scope functions (length parameters)) st
    (subst (λ n. Agrees t (body_scope functions n) st) c.1 c.0) xs)
    (λ ys after f. (f.0, sym f.1.variables)))

abbrev pub TemplateFits : Table → (functions parameters : ℕ) → Statements Spot Meant → State
    → Type 0
TemplateFits t functions n xs st =
    (AreStatements t Outermost xs → AreScoped (body_scope functions n) xs)
    × ((behind_all (body_scope functions n) xs).variables ≡ st.variables)

pub given_template : (t : Table) (functions : ℕ) (names : Lookup) (spot : Spot)
    (parameters : List (List ℕ)) (xs : Statements Spot Meant) → functions ≡ length t.functions
    → AreDefined names
    → OnGiven (TemplateFits t functions (length parameters)) (named_body names spot parameters xs)
given_template t functions names spot parameters xs all d =
    given_less (BodyFits t Outermost functions (length parameters))
    (TemplateFits t functions (length parameters)) (named_body names spot parameters xs)
    (given_body t Outermost functions names spot parameters xs all d)
    (λ ys after f. (
      λ h. are_scoped t Outermost (body_scope functions (length parameters)) ys tt h (f.0 h),
      f.1,
    ))

abbrev FreeFits : Table → ℕ → Statements Spot Meant → State → Type 0
FreeFits t functions xs st = AreStatements t InFunction xs → AreFreeStatements functions xs

given_free : (t : Table) (functions : ℕ) (names : Lookup) (spot : Spot)
    (parameters : List (List ℕ)) (xs : Statements Spot Meant) → functions ≡ length t.functions
    → AreDefined names → AreShapedStatements (plain_statements xs)
    → OnGiven (FreeFits t functions) (named_body names spot parameters xs)
given_free t functions names spot parameters xs all d shaped =
    given_behind (λ bs after. IsFreeState after) (FreeFits t functions)
    (in_turn (named_parameter spot) (opening names) parameters) (λ bs st. named_statements st xs)
    (free_parameters spot parameters (opening names) record {
      defined = d.free;
      outer = λ name. tt;
      inner = λ name. tt;
    })
    (λ bs st s. subst (OnGiven (FreeFits t functions)) (statements_same st xs)
    (given_less (free.StatementsFit t functions all st) (FreeFits t functions)
    (named_statements st (plain_statements xs))
    (free.given_statements t functions all st (plain_statements xs) shaped)
    (λ ys after f. λ h. (f s h).0)))

abbrev pub FunctionFits : Table → (functions parameters : ℕ) → Statements Spot Meant → State
    → Type 0
FunctionFits t functions n xs st =
    FreeFits t functions xs st × BodyFits t InFunction functions n xs st

pub given_function : (t : Table) (functions : ℕ) (names : Lookup) (spot : Spot)
    (parameters : List (List ℕ)) (xs : Statements Spot Meant) → functions ≡ length t.functions
    → AreDefined names → AreShapedStatements (plain_statements xs)
    → OnGiven (FunctionFits t functions (length parameters)) (named_body names spot parameters xs)
given_function t functions names spot parameters xs all d shaped =
    given_both (FreeFits t functions) (BodyFits t InFunction functions (length parameters))
    (named_body names spot parameters xs)
    (given_free t functions names spot parameters xs all d shaped)
    (given_body t InFunction functions names spot parameters xs all d)
