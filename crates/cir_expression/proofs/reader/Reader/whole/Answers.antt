use Rattle.std.proofs.Common.{◌≡◌, ◌<◌, arith}
use Rattle.cir_ast.specs.Height.{height_of}
use Rattle.cir_expression.specs.Answers.{kinds, seen}
use Rattle.cir_expression.proofs.Steps.{whole_read}
use Rattle.cir_expression.proofs.reader.Reader.whole.Goals as goal

pub returns : goal.returns
returns g c =
    let measured : c.in-Some.inner.height ≡ height_of (seen c.in-Some.inner.tree) =
    rw c.in-Some.is at c.requires.measured in
    let low : height_of (seen c.in-Some.inner.tree) < c.args.room = omega arith in
    rw (c.in-Some.is, c.into_tree.ensures)
    (whole_read c.args.room (seen c.in-Some.inner.tree) _ _ _
    (kinds c.args.self.now.rest.now) _ _ low
    c.in_ok-left.ensures.tree c.in_ok-whole.ensures.read.0 c.in_ok-found.ensures.read.0)
