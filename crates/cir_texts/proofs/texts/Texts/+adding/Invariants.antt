use Rattle.std.proofs.Common.{◌≡◌, ◌++◌, drop}
use Rattle.std.specs.Prelude.{map}
use Rattle.cir_ast.specs.Tree.{bare, bare_variable, bare_assign, bare_statement, bare_block}
use Rattle.cir_ast.specs.Tree.{as_statements}
use Rattle.cir_meaning.specs.Texts as T
use Rattle.cir_meaning.specs.Writing.{plain}
use Rattle.cir_texts.specs.Shown.{wanted_of}
use Rattle.cir_texts.proofs.texts.Texts.+adding.Given as goal

-- what is found, and what stands in the statements to come, is the whole
abbrev pub invariant-add_block-loop-statement : goal.invariant-add_block-loop-statement
invariant-add_block-loop-statement l =
    let rest = as_statements (map bare_statement (drop l.statement-index l.statement-items)) in
    record {
      wanted : map wanted_of l.self.wanted.items ++ T.all_wanted rest
          ≡ map wanted_of l.fn.self.wanted.items ++ T.all_wanted (bare_block l.fn.block);
      returned : map (λ e. bare e.now) l.self.returned.items ++ T.all_returned rest
          ≡ map (λ e. bare e.now) l.fn.self.returned.items
          ++ T.all_returned (bare_block l.fn.block);
      variables : map (λ v. bare_variable v.now) l.self.variables.items ++ T.all_variables rest
          ≡ map (λ v. bare_variable v.now) l.fn.self.variables.items
          ++ T.all_variables (bare_block l.fn.block);
      assigns : map (λ a. plain (bare_assign a.now)) l.self.assigns.items ++ T.all_assigns rest
          ≡ map (λ a. plain (bare_assign a.now)) l.fn.self.assigns.items
          ++ T.all_assigns (bare_block l.fn.block);
    }
