use Rattle.std.proofs.Common.{◌≡◌, ◌++◌, drop}
use Rattle.std.specs.Prelude.{map, flat_map}
use Rattle.cir_ast.specs.Tree.{bare_variable}
use Rattle.cir_meaning.specs.Texts.{variable_wanted}
use Rattle.cir_texts.specs.Shown.{wanted_of}
use Rattle.cir_texts.proofs.texts.Texts.add_vars.Given as goal

abbrev pub invariant-loop-variable : goal.invariant-loop-variable
invariant-loop-variable l = record {
  wanted : map wanted_of l.self.wanted.items
      ++ flat_map variable_wanted (map bare_variable (drop l.variable-index l.variables))
      ≡ map wanted_of l.fn.self.wanted.items
      ++ flat_map variable_wanted (map bare_variable l.variables);
  returned : l.self.returned ≡ l.fn.self.returned;
  variables : map (λ v. bare_variable v.now) l.self.variables.items
      ++ map bare_variable (drop l.variable-index l.variables)
      ≡ map (λ v. bare_variable v.now) l.fn.self.variables.items ++ map bare_variable l.variables;
  assigns : l.self.assigns ≡ l.fn.self.assigns;
}
