use Rattle.std.proofs.Common.{◌≡◌, ◌++◌, drop}
use Rattle.std.specs.Prelude.{map}
use Rattle.cir_ast.specs.Tree.{as_accessors}
use Rattle.cir_meaning.specs.Texts.{numbers_wanted, indices_of}
use Rattle.cir_texts.specs.Shown.{wanted_of}
use Rattle.cir_texts.proofs.texts.Texts.want_indices.Given as goal

abbrev pub invariant-loop-accessor : goal.invariant-loop-accessor
invariant-loop-accessor l = record {
  wanted : map wanted_of l.self.wanted.items
      ++ numbers_wanted (indices_of (as_accessors (drop l.accessor-index l.accessors)))
      ≡ map wanted_of l.fn.self.wanted.items
      ++ numbers_wanted (indices_of (as_accessors l.accessors));
  returned : l.self.returned ≡ l.fn.self.returned;
  variables : l.self.variables ≡ l.fn.self.variables;
  assigns : l.self.assigns ≡ l.fn.self.assigns;
}
