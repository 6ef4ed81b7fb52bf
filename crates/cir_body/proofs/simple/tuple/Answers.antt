use Rattle.std.proofs.Common.{◌∙◌, ◌∷◌, [], Ok, ap, map, sym}
use Rattle.cir_ast.specs.Tree.{Discard, Slots, bare, bare_slot, bare_source, bare_target}
use Rattle.cir_meaning.specs.Simple.{values_of}
use Rattle.cir_evaluate.specs.Within.{at_spot}
use Rattle.cir_steps.specs.Emit.{emit_slots, emit_tuple}
use Rattle.cir_make.specs.Emits.{go_on}
use Rattle.cir_make.specs.Means.{emitting_in}
use Rattle.cir_make.proofs.Going.{emits_as, quiet_is}
use Rattle.cir_body.proofs.Slots.{first_for_one, none_for_one}
use Rattle.cir_body.proofs.simple.tuple.Goals as goal

pub returns-in-Discard-Tuple : goal.returns-in-Discard-Tuple
returns-in-Discard-Tuple g c = λ m d shows.
    let b = c.args.body.now in
    let q = emitting_in b m in
    let w = at_spot b.context.now c.args.spot in
    emits_as m.first c.all_dropped.new.inside c.all_dropped.new.whole c.all_dropped.result _ _
    (ap (λ x. go_on d (emit_tuple q w c.args.arrow (bare_target x)
    (values_of (bare_source c.args.source.now)))) c.in-Discard-Tuple.is-0
    ∙ ap (λ x. go_on d (emit_tuple q w c.args.arrow Discard (values_of (bare_source x))))
    c.in-Discard-Tuple.is-1
    ∙ ap (λ xs. go_on d (emit_tuple q w c.args.arrow Discard (map bare xs)))
    (sym c.as_slice.ensures))
    (c.all_dropped.ensures m d shows)

pub returns-in-empty : goal.returns-in-empty
returns-in-empty g c = λ m d shows.
    let b = c.args.body.now in
    let q = emitting_in b m in
    let w = at_spot b.context.now c.args.spot in
    let t = c.in-Tuple-One in
    emits_as m.first c.args.inside.now c.args.whole.now (Ok (tt {0})) _ _
    (ap (λ x. go_on d (emit_tuple q w c.args.arrow (bare_target x)
    (values_of (bare_source c.args.source.now)))) t.is-0
    ∙ ap (λ x. go_on d (emit_tuple q w c.args.arrow (Slots (map bare_slot t.slots))
    (values_of (bare_source x)))) t.is-1
    ∙ ap (λ xs. go_on d (emit_slots q w c.args.arrow (map bare_slot xs) (bare t.e ∷ [])))
    (sym c.as_slice-in-Tuple-One.ensures)
    ∙ ap (λ z. go_on d (λ x. z)) (none_for_one q w c.args.arrow
    c.as_slice-in-Tuple-One.result.now (bare t.e) d.state c.in-empty.len_below))
    (d, quiet_is d, shows)

pub returns-in-len1-up : goal.returns-in-len1-up
returns-in-len1-up g c = λ m d shows.
    let b = c.args.body.now in
    let q = emitting_in b m in
    let w = at_spot b.context.now c.args.spot in
    let t = c.in-Tuple-One in
    emits_as m.first c.slot.new.inside c.slot.new.whole c.slot.result _ _
    (ap (λ x. go_on d (emit_tuple q w c.args.arrow (bare_target x)
    (values_of (bare_source c.args.source.now)))) t.is-0
    ∙ ap (λ x. go_on d (emit_tuple q w c.args.arrow (Slots (map bare_slot t.slots))
    (values_of (bare_source x)))) t.is-1
    ∙ ap (λ xs. go_on d (emit_slots q w c.args.arrow (map bare_slot xs) (bare t.e ∷ [])))
    (sym c.as_slice-in-Tuple-One.ensures)
    ∙ ap (λ z. go_on d (λ x. z)) (first_for_one q w c.args.arrow
    c.as_slice-in-Tuple-One.result.now c.first-item.result (bare t.e) d.state
    c.in-len1-up.len_at_least c.first-item.is))
    (c.slot.ensures m d shows)
