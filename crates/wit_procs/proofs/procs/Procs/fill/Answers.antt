use Rattle.std.proofs.Common.{◌≡◌, ◌∙◌, ◌-◌, ap, true, subst, map, length, take, drop, arith}
use Rattle.std.proofs.lemmas.List.{length-map, length-drop, take_all}
use Rattle.cir_ast.specs.Program.{bare_program}
use Rattle.cir_rules.specs.Shown.{made_of}
use Rattle.wit_procs.specs.Promised.{Refuses}
use Rattle.wit_procs.specs.Rules.{MayBeMadeAll}
use Rattle.wit_procs.specs.Table.{Grows, AreAdded}
use Rattle.wit_procs.proofs.Tables.{table_filled, made_from, mapped_drop, err_is}
use Rattle.wit_procs.proofs.procs.Procs.fill.Goals as goal

pub returns-clause-whole : goal.returns-clause-whole
returns-clause-whole c = λ can.
    let p = bare_program c.args.self.now.program.now in
    let old = c.args.self.now.keys.calls.items in
    let new = c.add_reached.new.keys.calls.items in
    let procs = c.args.self.now.procs.items in
    let after = c.add_procedures.new.procs.items in
    let from = c.len-from.result in
    let new_size = length-map new made_of in
    let grows : Grows (map made_of old) (map made_of new) =
    c.in_ok-add_reached.ensures.grows in
    let added : AreAdded p (map made_of new) procs after =
    c.in_ok-add_procedures.ensures in
    let yes : c.in_ok-may_be_made.field-0 ≡ true =
    c.if-not-branch.false in
    let list = c.deref-2.result.now in
    let part : take (length list - from) (drop from list) ≡ drop from list =
    take_all (length list - from) (drop from list) (omega (arith, length-drop from list)) in
    let may : MayBeMadeAll p (map made_of (drop from new)) =
    subst (λ ks. MayBeMadeAll p (map made_of (drop from ks))) c.deref-2.ensures.value
    (subst (λ ks. MayBeMadeAll p (map made_of ks)) part (c.in_ok-may_be_made.ensures yes)) in
    record {
      count = omega (arith, added.count, new_size);
      table = table_filled p can.before can.later (map made_of new) procs after from can.runnable
          can.count can.table (subst (λ ks. Grows ks (map made_of new)) can.is grows)
          (omega (arith, c.len-from.ensures, can.count)) c.in_ok-add_reached.ensures.closed
          (made_from made_of p new from may) added;
    }

pub returns-in_err-test-clause-refused : goal.returns-in_err-test-clause-refused
returns-in_err-test-clause-refused c =
    let p = bare_program c.args.self.now.program.now in
    let old = c.args.self.now.keys.calls.items in
    let from = c.len-from.result in
    let list = c.deref.result.now in
    let part : take (length list - from) (drop from list) ≡ drop from list =
    take_all (length list - from) (drop from list) (omega (arith, length-drop from list)) in
    let start : from ≡ length c.args.self.now.procs.items =
    omega (arith, c.len-from.ensures) in
    let same : map made_of (take (length list - from) (drop from list))
    ≡ drop (length c.args.self.now.procs.items) (map made_of old) =
    ap (map made_of) part ∙ ap (λ ks. map made_of (drop from ks)) c.deref.ensures.value
    ∙ mapped_drop made_of from old
    ∙ ap (λ n. drop n (map made_of old)) start in
    err_is c.from_residual.result c.in_err-test.field-0.0
    (Refuses p (drop (length c.args.self.now.procs.items) (map made_of old)))
    c.from_residual.ensures.1
    (subst (λ ks. Refuses p ks c.in_err-test.field-0.0) same c.in_err-test.ensures)
