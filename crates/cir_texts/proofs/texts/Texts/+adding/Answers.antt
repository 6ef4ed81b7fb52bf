use Rattle.std.proofs.Common.{◌∙◌, ◌++◌, ap, sym}
use Rattle.std.specs.Prelude.{map}
use Rattle.cir_ast.specs.Tree.{bare, bare_variable, bare_assign, bare_statement, as_statements}
use Rattle.cir_ast.proofs.Rows.{block_is}
use Rattle.cir_meaning.specs.Texts as T
use Rattle.cir_meaning.specs.Writing.{plain}
use Rattle.cir_texts.specs.Shown.{wanted_of}
use Rattle.cir_texts.proofs.texts.Texts.+adding.Goals as goal

pub add_block-loop-statement-init : goal.add_block-loop-statement-init
add_block-loop-statement-init t c =
    let self = c.args.self.now in
    let e = ap (λ ss. as_statements (map bare_statement ss)) c.as_slice-statement-items.ensures
    ∙ sym (block_is _ _ c.args.block.now) in
    record {
      wanted = ap (λ ss. map wanted_of self.wanted.items ++ T.all_wanted ss) e;
      returned = ap (λ ss. map (λ e. bare e.now) self.returned.items ++ T.all_returned ss) e;
      variables = ap (λ ss. map (λ v. bare_variable v.now) self.variables.items
          ++ T.all_variables ss) e;
      assigns = ap (λ ss. map (λ a. plain (bare_assign a.now)) self.assigns.items
          ++ T.all_assigns ss) e;
    }
