use Rattle.std.proofs.Common.{◌∙◌, [], Ok, ap, refl, subst}
use Rattle.cir_ast.specs.Program.{Template, bare_template}
use Rattle.cir_ast.specs.Tree.{Statements}
use Rattle.cir_meaning.specs.Frame.{World}
use Rattle.cir_arrays.specs.Stopped.{IsRefusal}
use Rattle.cir_frame.specs.Shown.{signals_of}
use Rattle.cir_inst.proofs.Openings.{statements_are}
use Rattle.cir_steps.specs.Emission.{known_in}
use Rattle.cir_steps.specs.Statements.{emit_all}
use Rattle.cir_body.specs.Bodies.{emission_at}
use Rattle.cir_homes.specs.Homed.{part_homes}
use Rattle.cir_make.specs.Emits.{Emits, go_on}
use Rattle.cir_make.specs.Means.{emitting_in}
use Rattle.cir_make.specs.Shows.{Shows}
use Rattle.cir_body.proofs.Casting.{body_stops, casts_refused, end_casts, end_stops}
use Rattle.cir_body.proofs.bodies.cast_body.Goals as goal

pub returns-in_err-execute_all : goal.returns-in_err-execute_all
returns-in_err-execute_all g c = λ m qs s is first listed follows.
    let t : Template = bare_template c.args.template.now in
    let q = emitting_in c.args.body.now m in
    let w = c.args.whole.now in
    let e = c.in_err-execute_all.field-0.0 in
    casts_refused qs w c.execute_all.new.whole _ e _ c.from_residual-in_err-execute_all.ensures.1
    (body_stops q t.body s w.made.next follows e
    (subst (λ (b : Statements _ _). IsRefusal e
    (go_on record { state = emission_at s w.made.next; steps = [] } (emit_all q b)))
    (statements_are c.args.template.now.body _ c.as_slice.ensures)
    (c.in_err-execute_all.ensures m record { state = emission_at s w.made.next; steps = [] }
    (c.in_ok-inside.ensures m.first w qs s is first c.requires.added listed))))

pub returns-in_err-all_ended : goal.returns-in_err-all_ended
returns-in_err-all_ended g c = λ m qs s is first listed follows.
    let t : Template = bare_template c.args.template.now in
    let q = emitting_in c.args.body.now m in
    let w = c.args.whole.now in
    let i = c.execute_all.new.inside in
    let v = c.execute_all.new.whole in
    let done = subst (λ (b : Statements _ _). Emits m.first i v (Ok (tt {0}))
    (go_on record { state = emission_at s w.made.next; steps = [] } (emit_all q b)))
    (statements_are c.args.template.now.body _ c.as_slice.ensures)
    (c.in_ok-execute_all.ensures m record { state = emission_at s w.made.next; steps = [] }
    (c.in_ok-inside.ensures m.first w qs s is first c.requires.added listed)) in
    let e = c.in_err-all_ended.field-0.0 in
    casts_refused qs w v _ e _ c.from_residual-in_err-all_ended.ensures.1
    (end_stops q t.body s w.made.next follows done.0 done.1 e
    (c.in_err-all_ended.ensures m.means.call m.means.make (known_in done.0.state)
    (ap (λ z. z.frame.signals) done.2.state) (ap (λ z. z.frame.parts) done.2.state)))

pub returns : goal.returns
returns g c = λ m qs s is first listed follows.
    let t : Template = bare_template c.args.template.now in
    let q = emitting_in c.args.body.now m in
    let w = c.args.whole.now in
    let i = c.execute_all.new.inside in
    let v = c.execute_all.new.whole in
    let done = subst (λ (b : Statements _ _). Emits m.first i v (Ok (tt {0}))
    (go_on record { state = emission_at s w.made.next; steps = [] } (emit_all q b)))
    (statements_are c.args.template.now.body _ c.as_slice.ensures)
    (c.in_ok-execute_all.ensures m record { state = emission_at s w.made.next; steps = [] }
    (c.in_ok-inside.ensures m.first w qs s is first c.requires.added listed)) in
    let shows = subst (λ l. Shows l i v done.0) first done.2 in
    rw c.into_signals.ensures
    (end_casts q t.body s w.made.next follows done.0 done.1 qs w v i _ shows
    (c.in_ok-all_ended.ensures m.means.call m.means.make (known_in done.0.state)
    (ap (λ z. z.frame.signals) done.2.state) (ap (λ z. z.frame.parts) done.2.state)
    ∙ ap (λ (w : World). Ok (signals_of i.frame.signals.items, w))
    (ap (λ z. z.world) done.2.state)) refl
    (c.in_ok-inside-2.ensures
    ∙ ap (λ ps. part_homes ps c.as_slice-2.result.now) c.as_slice-parts.ensures.value
    ∙ ap (λ cs. part_homes i.frame.parts.items cs) c.as_slice-2.ensures.value) refl)
