use Rattle.std.proofs.Common.{◌∙◌, arith, ap, length}
use Rattle.std.proofs.lemmas.Result.{err_from_is_err_and}
use Rattle.std.proofs.lemmas.List.{length_push}
use Rattle.binary_format.specs.Reading.{repeated}
use Rattle.binary_format.proofs.Loop.{goes_on}
use Rattle.iden_files.specs.Values.{number_at}
use Rattle.iden_files.proofs.FieldLoop.{field_fails}
use Rattle.iden_files.proofs.wtns_reading.repeated_values.Goals as goal

pub returns-in_err-v-clause-read : goal.returns-in_err-v-clause-read
returns-in_err-v-clause-read c =
    let p = err_from_is_err_and c.from_residual-in_err-v.result
    c.from_residual-in_err-v.ensures.1 in
    let field = number_at c.args.fields.now.end in
    let read = rw c.loop.invariant.ends at c.in_err-v.ensures.read in
    rw (p.1, p.2)
    (field_fails field c.in_err-v.field-0.0 c.loop.values.items c.args.count c.loop.counter
    c.loop.fields.rest.now (repeated field c.args.count c.args.fields.now.rest.now)
    c.loop-test.true read c.loop.invariant.so_far)

pub loop-preserved : goal.loop-preserved
loop-preserved c =
    let field = number_at c.args.fields.now.end in
    let inv = c.loop.invariant in
    let read = rw inv.ends at c.in_ok-v.ensures.read in
    record {
      ends = c.in_ok-v.ensures.end ∙ inv.ends;
      so_far = rw c.in_ok-push.ensures.items
          (goes_on field c.loop.values.items c.args.count c.loop.counter c.loop.fields.rest.now
          c.in_ok-v.v c.next_value.new.fields.rest.now
          (repeated field c.args.count c.args.fields.now.rest.now) c.loop-test.true read
          inv.so_far);
      counted =
          omega (
            arith,
            inv.counted,
            ap length c.in_ok-push.ensures.items,
            length_push c.loop.values.items c.in_ok-v.v,
          );
    }
