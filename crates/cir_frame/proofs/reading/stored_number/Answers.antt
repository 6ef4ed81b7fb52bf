use Rattle.std.proofs.Common.{ap, ◌∙◌}
use Rattle.cir_meaning.specs.Arrays.{item_at, single}
use Rattle.cir_arrays.specs.Shown.{datum_of}
use Rattle.cir_arrays.proofs.PartsRead.{single_read, unmade}
use Rattle.cir_frame.proofs.reading.stored_number.Goals as goal

pub returns-in_ok-v-in-Known-Some : goal.returns-in_ok-v-in-Known-Some
returns-in_ok-v-in-Known-Some c =
    let d = datum_of c.in-Known-Some.d.now in
    rw c.in-Known-Some.is-1 (λ indices m r none. ap single c.in_ok-v-in-Known-Some.ensures
    ∙ single_read (item_at d.items) d.dims indices c.args.reach.now c.in-Known-Some.first
    c.in-Known-Some.count-0 m c.in-Known-Some.is-0 r (unmade c.in-Known-Some.d.now) (r.left ∙ none))
