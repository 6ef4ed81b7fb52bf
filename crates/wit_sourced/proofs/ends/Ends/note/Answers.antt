use Rattle.std.proofs.Common.{◌≡◌, ◌+◌, arith}
use Rattle.wit_sourced.proofs.Ending.{another, first}
use Rattle.wit_sourced.proofs.ends.Ends.note.Goals as goal

pub returns-then-place-lt-FEW-clause-more : goal.returns-then-place-lt-FEW-clause-more
returns-then-place-lt-FEW-clause-more g c =
    λ keys are is. first g.K.Ord.cmp c.args.self.now keys c.args.key are
    (omega (arith, is, c.if-place-lt-FEW.true))

pub returns-clause-more : goal.returns-clause-more
returns-clause-more g c =
    λ keys are is.
    let next : c.in-Some.end ≡ c.args.place + 1 =
    (rw c.in-Some.is at c.checked_add.ensures).1 in
    another g.K.Ord.cmp c.args.self.now _ keys c.args.key c.in-Some.end are
    (omega (arith, is, c.if-place-lt-FEW.false)) (omega (arith, is, next))
    c.in_ok-insert.ensures.updates
