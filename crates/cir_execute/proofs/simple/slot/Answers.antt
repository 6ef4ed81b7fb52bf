use Rattle.std.proofs.Common.{◌∙◌, ap, sym}
use Rattle.cir_ast.specs.declared.program.Meant.{Meant}
use Rattle.cir_ast.specs.Tree.{Left, as_accessors, bare, bare_slot}
use Rattle.cir_ast.proofs.Rows.{accessors_are}
use Rattle.cir_meaning.specs.Simple as S
use Rattle.cir_frame.specs.Shown.{state_of}
use Rattle.cir_evaluate.specs.Within.{context_at, where_at}
use Rattle.cir_assign.proofs.Stepping.{leads_as}
use Rattle.cir_execute.proofs.simple.slot.Goals as goal

pub returns-in-Place : goal.returns-in-Place
returns-in-Place g c =
    let h = c.args.here.now in
    let e = bare c.args.value.now in
    let p = c.in-Place.place in
    λ m qs shaded.
    let k = context_at h m in
    let w = where_at h in
    let s = state_of c.args.frame.now c.args.world.now qs in
    leads_as qs c.args.world.now c.set_signal.new.frame c.set_signal.new.world _ _ _
    (ap (λ x. S.slot k w c.args.arrow (bare_slot x) e s) c.in-Place.is
    ∙ ap (λ a. S.set_signal k w (Left p.name p.meant a c.args.arrow e) p.meant a c.args.arrow e s)
    (accessors_are Meant p.accessors ∙ ap (λ l. as_accessors l) (sym c.as_slice.ensures)))
    (c.set_signal.ensures m p.name qs shaded)

pub returns-in-Discard : goal.returns-in-Discard
returns-in-Discard g c =
    let h = c.args.here.now in
    λ m qs shaded.
    leads_as qs c.args.world.now c.args.frame.now c.dropped.new.world _ _ _
    (ap (λ x. S.slot (context_at h m) (where_at h) c.args.arrow (bare_slot x)
    (bare c.args.value.now) (state_of c.args.frame.now c.args.world.now qs)) c.in-Discard.is)
    (c.dropped.ensures m qs shaded)
