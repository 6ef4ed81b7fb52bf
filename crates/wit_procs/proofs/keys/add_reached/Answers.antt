use Rattle.std.proofs.Common.{◌+◌, ◌<◌, length, map, subst, sym, arith, [], append-nil}
use Rattle.std.proofs.lemmas.List.{length-map}
use Rattle.std.proofs.lemmas.Option.{slice_get_within}
use Rattle.cir_ast.specs.Program.{bare_program}
use Rattle.cir_rules.specs.Shown.{made_of}
use Rattle.wit_procs.proofs.KeyLists.{Visited, visited_more}
use Rattle.wit_procs.proofs.keys.add_reached.Goals as goal

pub visits-init : goal.visits-init
visits-init c = record {
  grows = record { later = []; is = sym (append-nil (map made_of c.args.keys.now.calls.items)) };
  closed = λ n key le lt there. absurd (omega (arith, le, lt));
}

pub visits-preserved : goal.visits-preserved
visits-preserved c =
    let p = bare_program c.args.program.now in
    let known = map made_of c.visits.keys.calls.items in
    let at = c.visits.at in
    let lt : at < length known =
    let size = length-map c.visits.keys.calls.items made_of in
    omega (arith, size, c.len.ensures, c.visits-test.true) in
    subst (Visited p c.args.from (at + 1) (map made_of c.args.keys.now.calls.items))
    (sym c.in_ok-add_called.ensures)
    (visited_more p c.args.from at (map made_of c.args.keys.now.calls.items) known lt
    c.visits.invariant)

pub returns-clause-closed : goal.returns-clause-closed
returns-clause-closed c =
    let known = map made_of c.visits.keys.calls.items in
    λ n key le there.
    let within : n < length known = slice_get_within known n key there in
    let size = length-map c.visits.keys.calls.items made_of in
    c.visits.invariant.closed n key le
    (omega (arith, within, size, c.len.ensures, c.visits-test.false)) there
