use Rattle.std.proofs.Common.{refl}
use Rattle.cir_ast.specs.Program.{bare_main, bare_program}
use Rattle.cir_meaning.specs.Bodies.{call_at, most_open}
use Rattle.cir_meaning.specs.Compile.{group_size}
use Rattle.cir_body.proofs.MainCasts.{executed_in}
use Rattle.cir_body.proofs.mains.execute_main.Goals as goal

pub returns : goal.returns
unfolding most_open
returns c =
    executed_in _ _ _ (bare_main c.args.main.now) _ c.context_in-context.ensures
    c.execute_in.ensures (call_at (bare_program c.args.program.now) group_size most_open) refl
    (λ spot f ds old new r h. record {
      gives = λ qs. rw c.context_in-context.ensures at (h.2.0 qs);
      added = h.2.1.0;
      keeps = h.2.1.1;
    })
