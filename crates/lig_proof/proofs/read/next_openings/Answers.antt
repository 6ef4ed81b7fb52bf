use Rattle.std.proofs.Common.{◌∙◌}
use Rattle.std.proofs.lemmas.Result.{err_from_is_err_and}
use Rattle.lig_proof.specs.Reading.{next_openings}
use Rattle.lig_proof.proofs.Loops.{column_fails, path_fails, opening_read, all_opened}
use Rattle.lig_proof.proofs.read.next_openings.Goals as goal

pub returns-in_err-column-clause-read : goal.returns-in_err-column-clause-read
returns-in_err-column-clause-read c =
    let q = err_from_is_err_and c.from_residual-in_err-column.result
    c.from_residual-in_err-column.ensures.1 in
    let end = c.args.fields.now.end in
    let read = rw c.loop.invariant.ends at c.in_err-column.ensures.read in
    rw (q.1, q.2)
    (column_fails c.args.params.now end c.args.count c.loop.counter c.loop.columns.items
    c.loop.paths.items c.loop.fields.rest.now
    (next_openings c.args.params.now end c.args.count c.args.fields.now.rest.now)
    c.loop.invariant.so_far c.in_err-column.field-0.0 c.loop-test.true read)

pub returns-in_err-path-clause-read : goal.returns-in_err-path-clause-read
returns-in_err-path-clause-read c =
    let q = err_from_is_err_and c.from_residual-in_err-path.result
    c.from_residual-in_err-path.ensures.1 in
    let end = c.args.fields.now.end in
    let first = rw c.loop.invariant.ends at c.in_ok-column.ensures.read in
    let second =
    rw (c.in_ok-column.ensures.end ∙ c.loop.invariant.ends) at c.in_err-path.ensures.read in
    rw (q.1, q.2)
    (path_fails c.args.params.now end c.args.count c.loop.counter c.loop.columns.items
    c.loop.paths.items c.loop.fields.rest.now
    (next_openings c.args.params.now end c.args.count c.args.fields.now.rest.now)
    c.loop.invariant.so_far c.in_err-path.field-0.0 c.in_ok-column.column.items
    c.next_values.new.fields.rest.now c.loop-test.true first second)

pub loop-preserved : goal.loop-preserved
loop-preserved c =
    let end = c.args.fields.now.end in
    let inv = c.loop.invariant in
    let first = rw inv.ends at c.in_ok-column.ensures.read in
    let second = rw (c.in_ok-column.ensures.end ∙ inv.ends) at c.in_ok-path.ensures.read in
    record {
      ends = c.in_ok-path.ensures.end ∙ c.in_ok-column.ensures.end ∙ inv.ends;
      so_far = rw (
        c.in_ok-push.ensures.items,
        c.in_ok-push-2.ensures.items,
        c.of.ensures,
        c.of-in-loop.ensures,
      )
          (opening_read c.args.params.now end c.args.count c.loop.counter c.loop.columns.items
          c.loop.paths.items c.loop.fields.rest.now
          (next_openings c.args.params.now end c.args.count c.args.fields.now.rest.now) inv.so_far
          c.in_ok-column.column.items c.in_ok-path.path.items c.next_values.new.fields.rest.now
          c.next_hashes.new.fields.rest.now c.loop-test.true first second);
    }

pub returns-clause-read : goal.returns-clause-read
returns-clause-read c =
    let end = c.args.fields.now.end in
    all_opened c.args.params.now end c.args.count c.loop.counter c.loop.columns.items
    c.loop.paths.items c.loop.fields.rest.now
    (next_openings c.args.params.now end c.args.count c.args.fields.now.rest.now)
    c.loop.invariant.so_far c.loop-test.false
