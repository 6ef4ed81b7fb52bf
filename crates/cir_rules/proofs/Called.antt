-- The calls that the code lists are those of the definition.
use Rattle.std.proofs.Common.{◌≡◌, ◌∙◌, ap}
use Rattle.std.specs.Prelude.{map, flat_map}
use Rattle.cir_ast.specs.Program.{Program}
use Rattle.cir_ast.specs.Tree.{bare_variable}
use Rattle.cir_meaning.specs.Costs.{Made}
use Rattle.cir_meaning.specs.Functions as F
use Rattle.cir_meaning.specs.Reached.{body_of}
use Rattle.cir_meaning.specs.Texts.{calls_of, calls_in}
use Rattle.cir_texts.specs.Shown.{wanted_of, Shows}
use Rattle.cir_texts.specs.declared.texts.Texts.{Texts}
use Rattle.cir_rules.specs.Shaped.{shaped}

pub calls_are : (p : Program) (m : Made) (t : Texts) → Shows t (body_of p m.function)
    → shaped (F.variable_dims m.shapes (map (λ v. bare_variable v.now) t.variables.items))
    (flat_map (λ x. calls_of x.expr) (map wanted_of t.wanted.items)) ≡ F.shaped_calls p m
calls_are p m t s =
    ap (λ ws. shaped (F.variable_dims m.shapes (map (λ v. bare_variable v.now) t.variables.items))
    (flat_map (λ x. calls_of x.expr) ws)) s.wanted
    ∙ ap (λ vs. shaped (F.variable_dims m.shapes vs) (calls_in (body_of p m.function)))
    s.variables
