-- Keys that keep the rules, with parameters, arrays and loops that are plain, may be made.
use Rattle.std.proofs.Common.{◌≡◌, ◌∙◌, ℕ, Bool, true, List, [], ◌∷◌, map, ap, sym, refl, Some}
use Rattle.std.proofs.Common.{None, Ok, Err, Result, IfOk, IsTrue, Option}
use Rattle.std.specs.Prelude.{slice_get, unwrap_or}
use Rattle.std.specs.List.{list_all}
use Rattle.cir_ast.specs.declared.marked.Expr.{Expr as CodeExpr}
use Rattle.cir_ast.specs.declared.program.Meant.{Meant}
use Rattle.cir_ast.specs.Program.{Program, Function}
use Rattle.cir_ast.specs.Tree.{bare, bare_exprs}
use Rattle.cir_meaning.specs.Costs.{Made}
use Rattle.cir_meaning.specs.Functions as F
use Rattle.cir_meaning.specs.Texts.{list_of, literal_number}
use Rattle.wit_procs.specs.Rules.{is_plain, is_found_plain, is_key_plain, MayBeMadeAll}
use Rattle.wit_procs.proofs.FittingBodies.{all_true}
use Rattle.wit_procs.proofs.JudgedKeys.{keeps_rules, each_at}

pub written_is : (es : List (CodeExpr Meant))
    → map (λ e. unwrap_or (literal_number (bare e)) 0) es
    ≡ map (λ e. unwrap_or (literal_number e) 0) (list_of (bare_exprs es))
written_is [] = refl
written_is (e ∷ es) =
    ap (λ ds. unwrap_or (literal_number (bare e)) 0 ∷ ds) (written_is es)

record IsFound (shapes : List (List ℕ)) (o : Option Function) : Type 0 where
  function : Function
  there : o ≡ Some function
  plain : is_plain function shapes ≡ true

is_found : (shapes : List (List ℕ)) (o : Option Function) → is_found_plain shapes o ≡ true
    → IsFound shapes o
is_found shapes None h = cc
is_found shapes (Some f) h = record { function = f; there = refl; plain = h }

all_made : (p : Program) (keys : List Made) → F.function_fault p keys ≡ None
    → list_all (is_key_plain p) keys ≡ true → MayBeMadeAll p keys
all_made p keys fine plain = λ n key there.
    let found : IsFound key.shapes (slice_get p.functions key.function) =
    is_found key.shapes (slice_get p.functions key.function)
    (each_at (λ k. is_key_plain p k ≡ true) keys n key (all_true (is_key_plain p) keys plain)
    there) in
    record {
      function = found.function;
      there = found.there;
      rules = keeps_rules p keys fine n key there found.function found.there;
      plain = found.plain;
    }

pub fine_made : {E : Type 0} (p : Program) (keys : List Made) → F.function_fault p keys ≡ None
    → (r : Result Bool E) → IfOk r (λ plain. plain ≡ list_all (is_key_plain p) keys)
    → IfOk r (λ may. IsTrue may → MayBeMadeAll p keys)
fine_made p keys fine (Ok b) h = λ t. all_made p keys fine (sym h ∙ t)
fine_made p keys fine (Err e) h = tt
