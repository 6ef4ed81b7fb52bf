use Rattle.std.proofs.Common.{◌≡◌, ◌∙◌, ℕ, ◌+◌, List, ◌∷◌, true, drop, ap, sym, refl}
use Rattle.std.specs.Prelude.{map, ◌==◌}
use Rattle.std.specs.List.{list_any}
use Rattle.std.proofs.lemmas.List.{drop_more}
use Rattle.cir_ast.specs.declared.program.Meant.{Meant}
use Rattle.cir_ast.specs.Tree.{Variable, bare, bare_variable}
use Rattle.cir_meaning.specs.Reached.{declaration_of}
use Rattle.cir_meaning.specs.Texts.{list_of}
use Rattle.cir_meaning.specs.Unknown.{variable_of}
use Rattle.cir_texts.proofs.Lists.{listed}
use Rattle.cir_texts.proofs.bodies.declaration_of.Goals as goal

declared : (n : ℕ) (v : Variable Meant) (vs : List (Variable Meant))
    → list_any (λ m. m == n) (variable_of v.meant) ≡ true
    → declaration_of n (v ∷ vs) ≡ list_of v.dimensions
declared n v vs h = rw h refl

pub returns-then-is_variable : goal.returns-then-is_variable
returns-then-is_variable c =
    let n = c.args.n in
    let vs = c.args.variables.now in
    let i = c.loop-variable.variable-index in
    let item = c.variable-item.result in
    ap (map bare) c.as_slice.ensures ∙ sym (listed item.now.dimensions)
    ∙ sym (declared n (bare_variable item.now) (map (λ v. bare_variable v.now) (drop (i + 1) vs))
    (sym c.is_variable.ensures ∙ c.if-is_variable.true))
    ∙ ap (λ v. declaration_of n (bare_variable v.now
    ∷ map (λ v. bare_variable v.now) (drop (i + 1) vs))) c.variable-item.is
    ∙ ap (λ vs. declaration_of n (map (λ v. bare_variable v.now) vs))
    (sym (drop_more vs i item c.loop-variable-test.true))
    ∙ c.loop-variable.invariant
