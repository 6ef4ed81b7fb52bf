use Rattle.std.proofs.Common.{length}
use Rattle.cir_ast.specs.Tree.{bare, done}
use Rattle.wit_lower.specs.Values as V
use Rattle.wit_statements.specs.Parts as E
use Rattle.wit_sourced.specs.Shown.{scope_of}
use Rattle.wit_emit.specs.Grounds.{ground_of}
use Rattle.wit_emit.proofs.Chained.{then_made}
use Rattle.wit_statements.proofs.declaring.emit_value.Goals as goal

pub returns : goal.returns
returns c =
    let g = ground_of c.args.ground.now in
    let s = scope_of c.args.scope.now in
    let old = c.args.code.now in
    let e = bare c.in-Some.e in
    rw c.in-Some.is (then_made old c.emit.new.code c.write.new.code
    (V.expr_code g s.homes s.top (length old) e)
    (λ p. E.write_behind g s p (V.size_of g s.homes e) c.args.meant done) c.in_ok-emit.ensures
    (rw (c.home-home.ensures, c.in_ok-behind.ensures.ok, c.in_ok-size.ensures)
    at c.in_ok-write.ensures))
