use Rattle.std.proofs.Common.{◌≡◌, ◌++◌, drop}
use Rattle.std.specs.Prelude.{map}
use Rattle.cir_ast.specs.Tree.{bare_exprs}
use Rattle.cir_meaning.specs.Texts.{numbers_wanted, list_of}
use Rattle.cir_texts.specs.Shown.{wanted_of}
use Rattle.cir_texts.proofs.texts.Texts.want_numbers.Given as goal

abbrev pub invariant-loop-e : goal.invariant-loop-e
invariant-loop-e l = record {
  wanted : map wanted_of l.self.wanted.items
      ++ numbers_wanted (list_of (bare_exprs (drop l.e-index l.es)))
      ≡ map wanted_of l.fn.self.wanted.items ++ numbers_wanted (list_of (bare_exprs l.es));
  returned : l.self.returned ≡ l.fn.self.returned;
  variables : l.self.variables ≡ l.fn.self.variables;
  assigns : l.self.assigns ≡ l.fn.self.assigns;
}
