use Rattle.std.proofs.Common.{◌∙◌, ap, sym, refl}
use Rattle.std.specs.Prelude.{map, unwrap_or}
use Rattle.cir_ast.specs.Tree.{bare_variable}
use Rattle.cir_meaning.specs.Reached.{declaration_of}
use Rattle.cir_meaning.specs.Texts.{literal_number}
use Rattle.cir_rules.proofs.Reaching.{not_found}
use Rattle.cir_rules.proofs.Shaping.{gives, map_bare}
use Rattle.cir_rules.proofs.shapes.Shapes.variable_dims.Goals as goal

pub returns-in-None : goal.returns-in-None
returns-in-None c =
    let self = c.args.self.now in
    gives c.written_dims.result (λ v. v.items) _ _ c.written_dims.ensures
    (sym (map_bare (λ e. unwrap_or (literal_number e) 0) c.declaration_of.result.now)
    ∙ ap (map (λ e. unwrap_or (literal_number e) 0)) (c.declaration_of.ensures
    ∙ ap (λ vs. declaration_of c.args.n (map (λ v. bare_variable v.now) vs))
    c.as_slice-in-None.ensures.value)
    ∙ ap (λ o. unwrap_or o (map (λ e. unwrap_or (literal_number e) 0)
    (declaration_of c.args.n (map (λ v. bare_variable v.now) self.texts.now.variables.items))))
    (sym (not_found (λ d. d.items) self.arguments.now self.arguments.now c.args.n refl
    c.in-None.ensures.lookup.3)))
