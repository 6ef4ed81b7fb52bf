use Rattle.std.proofs.Common.{◌≡◌, Some, None, sym, ap, refl, ◌∙◌, arith}
use Rattle.cir_simplify.specs.Shape.{pivot}
use Rattle.cir_simplify.specs.Index.{row}
use Rattle.cir_simplify.proofs.Picks.{first_at, none_more, ready_behind, all_none}
use Rattle.cir_simplify.proofs.turn.first_behind.Goals as goal

pub returns-in-Some-clause-found : goal.returns-in-Some-clause-found
returns-in-Some-clause-found c =
    let here : pivot c.args.rules (row c.args.rows.now.items c.loop-ready.ready.next)
    ≡ Some c.in-Some.term =
    sym (c.in-Some.ensures ∙ ap (pivot c.args.rules) c.at.ensures) in
    record {
      inside = omega arith;
      here = here;
      first = first_at c.args.rules c.args.rows.now.items _ _ (omega arith)
          c.loop-ready.invariant.before here;
    }

pub loop-ready-preserved : goal.loop-ready-preserved
loop-ready-preserved c =
    let none : pivot c.args.rules (row c.args.rows.now.items c.loop-ready.ready.next) ≡ None =
    ap (pivot c.args.rules) (sym c.at.ensures) ∙ sym c.pivot.ensures ∙ c.in_default.is in
    record {
      ready = ready_behind c.args.rules c.args.rows.now.items c.loop-ready.ready _
          c.loop-ready.invariant.ready none refl refl;
      before = none_more c.args.rules c.args.rows.now.items _ c.loop-ready.invariant.before none;
    }

pub returns-clause-found : goal.returns-clause-found
returns-clause-found c =
    all_none c.args.rules c.args.rows.now.items c.loop-ready.ready.next (omega arith)
    c.loop-ready.invariant.before
