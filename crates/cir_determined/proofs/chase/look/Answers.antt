use Rattle.std.proofs.Common.{ℕ, map, length, ap, sym, ◌∙◌, refl}
use Rattle.std.specs.Option.{option_map}
use Rattle.std.proofs.lemmas.Bool.{ltb-true}
use Rattle.std.proofs.lemmas.Option.{slice_get-map, slice_get_read}
use Rattle.cir_determined.specs.Circuit.{normalized}
use Rattle.cir_determined.specs.Marks.{marks_of}
use Rattle.cir_determined.proofs.Found.{adds_visit}
use Rattle.cir_determined.proofs.Verdicts.{below_at}
use Rattle.cir_determined.proofs.chase.look.Goals as goal

pub visit-requires : goal.visit-requires
visit-requires c =
    below_at (length c.args.marks.now) c.args.constraints.now c.args.place c.in-Some.k.now
    c.requires c.in-Some.ensures.lookup.0 c.in-Some.ensures.lookup.1

pub returns-in_ok-tell_constraint : goal.returns-in_ok-tell_constraint
returns-in_ok-tell_constraint c =
    let n : ℕ = length c.args.marks.now in
    adds_visit (map (normalized n) c.args.constraints.now) c.args.place (marks_of c.args.marks.now)
    (marks_of c.visit.new.marks) c.args.rules.now.items c.visit.new.rules.items
    c.in_ok-taken.taken (normalized n c.in-Some.k.now)
    (slice_get-map (normalized n) c.args.constraints.now c.args.place
    ∙ ap (option_map (normalized n))
    (slice_get_read c.args.constraints.now (length c.args.constraints.now) c.args.place
    c.in-Some.k.now refl (ltb-true c.args.place (length c.args.constraints.now)
    (sym c.in-Some.ensures.lookup.0)) c.in-Some.ensures.lookup.1))
    c.in_ok-taken.ensures
