use Rattle.std.proofs.Common.{◌∙◌, arith, ap, length}
use Rattle.std.proofs.lemmas.Result.{err_from_is_err_and}
use Rattle.std.proofs.lemmas.List.{length_push}
use Rattle.binary_format.specs.Reading.{repeated}
use Rattle.binary_format.proofs.Loop.{goes_on}
use Rattle.iden_files.specs.ReadR1cs.{label_at}
use Rattle.iden_files.proofs.FieldLoop.{field_fails}
use Rattle.iden_files.proofs.labels.repeated_labels.Goals as goal

pub returns-in_err-label-clause-read : goal.returns-in_err-label-clause-read
returns-in_err-label-clause-read c =
    let p = err_from_is_err_and c.from_residual-in_err-label.result
    c.from_residual-in_err-label.ensures.1 in
    let field = label_at c.args.fields.now.end in
    let read = rw c.loop.invariant.ends at c.in_err-label.ensures.taken in
    rw (p.1, p.2)
    (field_fails field c.in_err-label.field-0.0 c.loop.labels.items c.args.count c.loop.counter
    c.loop.fields.rest.now (repeated field c.args.count c.args.fields.now.rest.now)
    c.loop-test.true read c.loop.invariant.so_far)

pub loop-preserved : goal.loop-preserved
loop-preserved c =
    let field = label_at c.args.fields.now.end in
    let inv = c.loop.invariant in
    let read = rw inv.ends at c.in_ok-label.ensures.taken in
    record {
      ends = c.in_ok-label.ensures.end ∙ inv.ends;
      so_far = rw c.in_ok-push.ensures.items
          (goes_on field c.loop.labels.items c.args.count c.loop.counter c.loop.fields.rest.now
          c.in_ok-label.label c.next_u64.new.fields.rest.now
          (repeated field c.args.count c.args.fields.now.rest.now) c.loop-test.true read
          inv.so_far);
      counted =
          omega (
            arith,
            inv.counted,
            ap length c.in_ok-push.ensures.items,
            length_push c.loop.labels.items c.in_ok-label.label,
          );
    }
