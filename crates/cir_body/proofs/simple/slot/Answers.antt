use Rattle.std.proofs.Common.{◌∙◌, ap, sym}
use Rattle.cir_ast.specs.declared.program.Meant.{Meant}
use Rattle.cir_ast.specs.Tree.{Left, as_accessors, bare, bare_slot}
use Rattle.cir_ast.proofs.Rows.{accessors_are}
use Rattle.cir_evaluate.specs.Within.{at_spot}
use Rattle.cir_steps.specs.Emit.{emit_set_signal, emit_slot}
use Rattle.cir_make.specs.Emits.{go_on}
use Rattle.cir_make.specs.Means.{emitting_in}
use Rattle.cir_make.proofs.Going.{emits_as}
use Rattle.cir_body.proofs.simple.slot.Goals as goal

pub returns-in-Place : goal.returns-in-Place
returns-in-Place g c = λ m d shows.
    let b = c.args.body.now in
    let q = emitting_in b m in
    let w = at_spot b.context.now c.args.spot in
    let e = bare c.args.value.now in
    let p = c.in-Place.place in
    emits_as m.first c.set_signal.new.inside c.set_signal.new.whole c.set_signal.result _ _
    (ap (λ x. go_on d (emit_slot q w c.args.arrow (bare_slot x) e)) c.in-Place.is
    ∙ ap (λ a. go_on d (emit_set_signal q w (Left p.name p.meant a c.args.arrow e) p.meant a
    c.args.arrow e))
    (accessors_are Meant p.accessors ∙ ap (λ l. as_accessors l) (sym c.as_slice.ensures)))
    (c.set_signal.ensures m p.name d shows)

pub returns-in-Discard : goal.returns-in-Discard
returns-in-Discard g c = λ m d shows.
    let b = c.args.body.now in
    let q = emitting_in b m in
    let w = at_spot b.context.now c.args.spot in
    let e = bare c.args.value.now in
    emits_as m.first c.dropped.new.inside c.dropped.new.whole c.dropped.result _ _
    (ap (λ x. go_on d (emit_slot q w c.args.arrow (bare_slot x) e)) c.in-Discard.is)
    (c.dropped.ensures m d shows)
