use Rattle.std.proofs.Common.{◌≡◌, ◌∙◌, ◌+◌, ◌<◌, ap, sym, subst, map, length, arith, Some}
use Rattle.std.specs.Prelude.{slice_get, option_map}
use Rattle.std.proofs.lemmas.List.{length-map}
use Rattle.std.proofs.lemmas.Option.{slice_get-map}
use Rattle.cir_ast.specs.Program.{bare_program}
use Rattle.cir_rules.specs.Shown.{made_of}
use Rattle.wit_procs.proofs.Adding.{AddedTo, one_added, all_added, read_at}
use Rattle.wit_procs.proofs.procs.add_procedures.Goals as goal

pub loop-at-preserved : goal.loop-at-preserved
loop-at-preserved c =
    let p = bare_program c.args.program.now in
    let keys = c.args.keys.now.calls.items in
    let key = c.index.result.now in
    let within : c.loop-at.at < length keys =
    omega (arith, c.loop-at-test.true, c.len-at-end.ensures) in
    let here : slice_get (map made_of keys) c.loop-at.at ≡ Some (made_of key) =
    slice_get-map made_of keys c.loop-at.at
    ∙ ap (option_map made_of) (read_at keys c.loop-at.at key within c.index.ensures) in
    subst (λ l. AddedTo p (map made_of keys) c.args.procs.now.items l (c.loop-at.at + 1))
    (sym c.in_ok-push.ensures.items)
    (one_added p (map made_of keys) c.args.procs.now.items c.loop-at.procs.items c.loop-at.at
    (made_of key) c.in_ok-code.code c.loop-at.invariant here c.in_ok-code.ensures)

pub returns : goal.returns
returns c =
    let keys = c.args.keys.now.calls.items in
    let size = length-map keys made_of in
    let end = c.loop-at.auto.at-end (omega (arith, c.requires, c.len-from.ensures)) in
    all_added (bare_program c.args.program.now) (map made_of keys) c.args.procs.now.items
    c.loop-at.procs.items c.loop-at.at c.loop-at.invariant
    (omega (arith, size, c.loop-at-test.false, end))
