use Rattle.std.proofs.Common.{◌≡◌, ◌+◌, ◌≤◌, ℕ, Bool, true, false, cond, Option}
use Rattle.std.proofs.Common.{List, length, subst}
use Rattle.std.proofs.Common.{sym, arith}
use Rattle.std.specs.Option.{is_some}
use Rattle.sym_file.specs.Table.{HasWritten, IsLineOf, IsSplit, wire_among}
use Rattle.sym_file.proofs.Table.{split_first, text_first, text_more, text_done, text_back}
use Rattle.sym_file.proofs.writing.write_sym.Goals as goal

step_within : (b : Bool) (next most after : ℕ) → after ≡ cond b (next + 1) next
    → next ≤ most
    → after ≤ most + 1
step_within true next most after e h = omega (arith, e)
step_within false next most after e h = omega (arith, e)

pub loop-place-init : goal.loop-place-init
loop-place-init c = record {
  within = omega arith;
  split = split_first c.args.signals.now c.args.wires.now c.requires.kept;
  text = subst (HasWritten c.args.signals.now c.args.instances.now c.args.wires.now 0)
      (sym c.new-text.ensures.items)
      (text_first c.args.signals.now c.args.instances.now c.args.wires.now);
}

pub loop-place-preserved : goal.loop-place-preserved
loop-place-preserved c =
    let n : ℕ = c.loop-place.place + 1 in
    let wire : c.wire_at-wire.result ≡ wire_among c.args.wires.now n =
    c.wire_at-wire.ensures.wire in
    let line : IsLineOf c.args.signals.now c.args.instances.now n
    (wire_among c.args.wires.now n) c.in_ok-line.line =
    subst (λ (w : Option ℕ).
    IsLineOf c.args.signals.now c.args.instances.now n w c.in_ok-line.line)
    wire c.in_ok-line.ensures.line in record {
      within = step_within (is_some c.wire_at-wire.result) c.loop-place.next n
          c.behind-next.result c.behind-next.ensures c.loop-place.invariant.within;
      split = subst (λ (k : ℕ). IsSplit c.args.wires.now k (n + 1)) (sym c.behind-next.ensures)
          c.wire_at-wire.ensures.behind;
      text = text_more c.args.signals.now c.args.instances.now c.args.wires.now
          c.loop-place.place c.loop-place.text.items c.put_line.new.out.items
          c.in_ok-line.line c.loop-place.invariant.text line c.in_ok-line.ensures.narrow
          c.in_ok-put_line.ensures;
    }

pub returns-clause-text : goal.returns-clause-text
returns-clause-text c =
    let all : c.loop-place.place ≡ length c.args.signals.now.names =
    omega (arith, c.len-place-end.ensures) in
    text_done c.args.signals.now c.args.instances.now c.args.wires.now c.loop-place.text.items
    (subst (λ (n : ℕ). HasWritten c.args.signals.now c.args.instances.now c.args.wires.now n
    c.loop-place.text.items) all c.loop-place.invariant.text)

pub returns-clause-read_back : goal.returns-clause-read_back
returns-clause-read_back c =
    let all : c.loop-place.place ≡ length c.args.signals.now.names =
    omega (arith, c.len-place-end.ensures) in
    text_back c.args.signals.now c.args.instances.now c.args.wires.now c.requires.named
    c.requires.few c.loop-place.text.items
    (subst (λ (n : ℕ). HasWritten c.args.signals.now c.args.instances.now c.args.wires.now n
    c.loop-place.text.items) all c.loop-place.invariant.text)
