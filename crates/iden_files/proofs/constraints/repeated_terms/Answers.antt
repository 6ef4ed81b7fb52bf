use Rattle.std.proofs.Common.{sym, ◌∙◌, subst, arith, ap, length, List, All}
use Rattle.std.proofs.lemmas.Result.{err_from_is_err_and}
use Rattle.std.proofs.lemmas.List.{length_push}
use Rattle.std.proofs.lemmas.List.Elements.{All-push}
use Rattle.gold_field.specs.declared.form.Term.{Term}
use Rattle.binary_format.specs.Reading.{repeated}
use Rattle.binary_format.proofs.Loop.{goes_on}
use Rattle.iden_files.specs.Meaning.{IsTermOver}
use Rattle.iden_files.specs.ReadR1cs.{term_at}
use Rattle.iden_files.proofs.FieldLoop.{field_fails}
use Rattle.iden_files.proofs.constraints.repeated_terms.Goals as goal

pub returns-in_err-t-clause-read : goal.returns-in_err-t-clause-read
returns-in_err-t-clause-read c =
    let p = err_from_is_err_and c.from_residual-in_err-t.result
    c.from_residual-in_err-t.ensures.1 in
    let field = term_at c.args.wires c.args.fields.now.end in
    let read = rw c.loop.invariant.ends at c.in_err-t.ensures.read in
    rw (p.1, p.2)
    (field_fails field c.in_err-t.field-0.0 c.loop.terms.items c.args.count c.loop.counter
    c.loop.fields.rest.now (repeated field c.args.count c.args.fields.now.rest.now)
    c.loop-test.true read c.loop.invariant.so_far)

pub loop-preserved : goal.loop-preserved
loop-preserved c =
    let field = term_at c.args.wires c.args.fields.now.end in
    let inv = c.loop.invariant in
    let read = rw inv.ends at c.in_ok-t.ensures.read in
    record {
      ends = c.in_ok-t.ensures.end ∙ inv.ends;
      so_far = rw c.in_ok-push.ensures.items
          (goes_on field c.loop.terms.items c.args.count c.loop.counter c.loop.fields.rest.now
          c.in_ok-t.t c.term.new.fields.rest.now
          (repeated field c.args.count c.args.fields.now.rest.now) c.loop-test.true read
          inv.so_far);
      over = let P : List Term → Type 0 = λ ts. All (IsTermOver c.args.wires) ts
          in subst P (sym c.in_ok-push.ensures.items)
          (All-push (IsTermOver c.args.wires) c.loop.terms.items c.in_ok-t.t inv.over
          c.in_ok-t.ensures.over);
      counted = c.in_ok-push.ensures.len ∙ omega (arith, inv.counted);
      len = c.in_ok-push.ensures.len
          ∙ omega (
            arith,
            inv.len,
            ap length c.in_ok-push.ensures.items,
            length_push c.loop.terms.items c.in_ok-t.t,
          );
    }
