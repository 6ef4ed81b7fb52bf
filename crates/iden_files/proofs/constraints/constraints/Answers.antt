use Rattle.std.proofs.Common.{◌≡◌, ◌-◌, ◌+◌, ◌≤◌, sym, ◌∙◌, subst, arith, ap, length, List, All}
use Rattle.std.proofs.Common.{sum_by}
use Rattle.std.proofs.lemmas.Result.{err_from_is_err_and}
use Rattle.std.proofs.lemmas.List.{length_push}
use Rattle.std.proofs.lemmas.List.Elements.{All-push}
use Rattle.std.proofs.lemmas.List.Sums.{sum_by_push}
use Rattle.gold_field.specs.Form.{ConstraintBelow}
use Rattle.gold_field.specs.declared.form.Constraint.{Constraint}
use Rattle.iden_files.specs.Limits.{most_terms}
use Rattle.iden_files.specs.File.{term_count}
use Rattle.iden_files.specs.ReadR1cs.{constraints_at, meant}
use Rattle.iden_files.specs.Views.{written}
use Rattle.iden_files.proofs.FieldLoop.{goes_on, constraint_fails, all_read}
use Rattle.iden_files.proofs.FormLaws.{meaning_below, meaning_len}
use Rattle.iden_files.proofs.constraints.constraints.Goals as goal

pub returns-in_err-w-clause-read : goal.returns-in_err-w-clause-read
returns-in_err-w-clause-read c =
    let p = err_from_is_err_and c.from_residual.result c.from_residual.ensures.1 in
    let total =
    meant c.args.wires
    (constraints_at c.args.wires c.args.fields.now.end most_terms c.args.count
    c.args.fields.now.rest.now) in
    let read = rw c.loop.invariant.ends at c.in_err-w.ensures.read in
    rw (p.1, p.2)
    (constraint_fails c.args.wires c.args.fields.now.end c.args.count c.loop.counter c.loop.room
    c.loop.all.items c.loop.fields.rest.now total c.loop.invariant.so_far c.in_err-w.field-0.0
    c.loop-test.true read)

pub loop-preserved : goal.loop-preserved
loop-preserved c =
    let inv = c.loop.invariant in
    let w = c.in_ok-w.w in
    let k = c.in_ok-k.k in
    let total =
    meant c.args.wires
    (constraints_at c.args.wires c.args.fields.now.end most_terms c.args.count
    c.args.fields.now.rest.now) in
    let read = rw inv.ends at c.in_ok-w.ensures.read in
    let less : c.loop.room - (c.len.result + c.len-in-loop.result + c.len-in-loop-2.result)
    ≡ c.loop.room - length w.a.items - length w.b.items - length w.c.items =
    omega (
      arith,
      c.len.ensures,
      c.len-in-loop.ensures,
      c.len-in-loop-2.ensures,
      w.a.ok.0,
      w.b.ok.0,
      w.c.ok.0,
    ) in
    let below : ConstraintBelow c.args.wires k = let P : Constraint
    → Type 0 = ConstraintBelow c.args.wires
    in subst P (sym c.in_ok-k.ensures) (meaning_below c.args.wires (written w)) in
    let shorter : term_count k ≤ length w.a.items + length w.b.items + length w.c.items =
    let P : Constraint → Type 0 = λ j. term_count j ≤ length w.a.items + length w.b.items
    + length w.c.items
    in subst P (sym c.in_ok-k.ensures) (meaning_len c.args.wires (written w)) in
    record {
      ends = c.in_ok-w.ensures.end ∙ inv.ends;
      so_far = rw c.in_ok-push.ensures.items
          (goes_on c.args.wires c.args.fields.now.end c.args.count c.loop.counter c.loop.room
          c.loop.all.items c.loop.fields.rest.now total inv.so_far
          (written w) k c.next_written.new.fields.rest.now _ c.loop-test.true read c.in_ok-k.ensures
          less);
      wired = let P : List Constraint → Type 0 = λ ks. All (ConstraintBelow c.args.wires) ks
          in subst P (sym c.in_ok-push.ensures.items)
          (All-push (ConstraintBelow c.args.wires) c.loop.all.items k inv.wired below);
      counted =
          omega (
            arith,
            inv.counted,
            ap length c.in_ok-push.ensures.items,
            length_push c.loop.all.items k,
          );
      few = omega (
        arith,
        inv.few,
        shorter,
        c.in_ok-w.ensures.few,
        c.len.ensures,
        c.len-in-loop.ensures,
        c.len-in-loop-2.ensures,
        w.a.ok.0,
        w.b.ok.0,
        w.c.ok.0,
        ap (sum_by term_count) c.in_ok-push.ensures.items,
        sum_by_push term_count c.loop.all.items k,
      );
    }

pub returns-clause-read : goal.returns-clause-read
returns-clause-read c =
    let total =
    meant c.args.wires
    (constraints_at c.args.wires c.args.fields.now.end most_terms c.args.count
    c.args.fields.now.rest.now) in
    all_read c.args.wires c.args.fields.now.end c.args.count c.loop.counter c.loop.room
    c.loop.all.items c.loop.fields.rest.now total c.loop.invariant.so_far c.loop-test.false
