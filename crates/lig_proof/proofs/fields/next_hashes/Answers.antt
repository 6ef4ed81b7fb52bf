use Rattle.std.proofs.Common.{◌∙◌}
use Rattle.std.proofs.lemmas.Result.{err_from_is_err_and}
use Rattle.binary_format.specs.Reading.{repeated}
use Rattle.binary_format.proofs.Loop.{goes_on}
use Rattle.lig_proof.specs.Reading.{next_hash}
use Rattle.lig_proof.proofs.Loops.{field_fails}
use Rattle.lig_proof.proofs.fields.next_hashes.Goals as goal

pub returns-in_err-hash-clause-read : goal.returns-in_err-hash-clause-read
returns-in_err-hash-clause-read c =
    let p = err_from_is_err_and c.from_residual-in_err-hash.result
    c.from_residual-in_err-hash.ensures.1 in
    let field = next_hash c.args.fields.now.end in
    let read = rw c.loop.invariant.ends at c.in_err-hash.ensures.read in
    rw (p.1, p.2)
    (field_fails field c.in_err-hash.field-0.0 c.loop.hashes.items c.args.count c.loop.counter
    c.loop.fields.rest.now (repeated field c.args.count c.args.fields.now.rest.now)
    c.loop-test.true read c.loop.invariant.so_far)

pub loop-preserved : goal.loop-preserved
loop-preserved c =
    let field = next_hash c.args.fields.now.end in
    let inv = c.loop.invariant in
    let read = rw inv.ends at c.in_ok-hash.ensures.read in
    record {
      ends = c.in_ok-hash.ensures.end ∙ inv.ends;
      so_far = rw c.in_ok-push.ensures.items
          (goes_on field c.loop.hashes.items c.args.count c.loop.counter c.loop.fields.rest.now
          c.in_ok-hash.hash c.next_hash.new.fields.rest.now
          (repeated field c.args.count c.args.fields.now.rest.now) c.loop-test.true read
          inv.so_far);
    }
