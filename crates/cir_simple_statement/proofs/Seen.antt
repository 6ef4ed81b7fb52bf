-- Lists of trees whose names lose their meanings.
use Rattle.std.proofs.Common.{◌≡◌, List, map, ap, ◌∙◌}
use Rattle.std.proofs.lemmas.Simd.{map-map}
use Rattle.cir_ast.specs.declared.marked.DeclaredVariable.{DeclaredVariable as CodeVariable}
use Rattle.cir_ast.specs.Tree.{bare_variable}
use Rattle.cir_ast.specs.Plain.{plain_variable}
use Rattle.cir_simple_statement.specs.Answers.{seen_variable}
pub use Rattle.cir_ast.proofs.Rows.{anonymous_is as alone}
pub use Rattle.cir_expression.proofs.Lists.{listed_seen as lists}

pub seen_map : {A B C : Type 0} (g : B → C) (f : A → B) (list items : List A) → list ≡ items
    → map g (map f list) ≡ map (λ x. g (f x)) items
seen_map g f list items same = map-map g f list ∙ ap (map (λ x. g (f x))) same

pub vars : {N : Type 0} (list items : List (CodeVariable N)) → list ≡ items
    → map plain_variable (map bare_variable list) ≡ map seen_variable items
vars = seen_map plain_variable bare_variable
