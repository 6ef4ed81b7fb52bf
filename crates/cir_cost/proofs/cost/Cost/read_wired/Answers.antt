use Rattle.std.proofs.Common.{◌∙◌, ◌+◌, sym, ap}
use Rattle.std.specs.Prelude.{map, true}
use Rattle.std.proofs.lemmas.Result.{on_ok_weaker}
use Rattle.cir_frame.specs.Shown.{signal_of}
use Rattle.cir_meaning.specs.Arrays.{Whole, reach}
use Rattle.cir_meaning.specs.Costs as M
use Rattle.cir_evaluate.specs.Within.{where_at}
use Rattle.cir_cost.proofs.Adding.{adds_reads}
use Rattle.cir_cost.proofs.Cells.{one_read, reads_wired}
use Rattle.cir_cost.proofs.cost.Cost.read_wired.Goals as goal

pub returns-in-Some : goal.returns-in-Some
returns-in-Some g c =
    let e = signal_of c.args.entry.now in
    let w = where_at c.args.here.now in
    let wires = map (λ k. M.Wire (e.first + k)) in
    λ may_read. on_ok_weaker c.add_wires.result
    (λ h. adds_reads c.args.self.now c.add_wires.new.reads _ _ h
    (ap wires (sym (one_read w c.as_slice-dims.result.now c.args.indices.now c.in-Some.place
    c.in-Some.ensures.whole c.in-Some.ensures.inside c.in-Some.ensures.place)
    ∙ ap (λ dims. M.places_in (reach w true Whole dims c.args.indices.now))
    c.as_slice-dims.ensures.value)
    ∙ sym (reads_wired w c.args.meant c.args.indices.now may_read e))) c.add_wires.ensures

pub returns : goal.returns
returns g c =
    let e = signal_of c.args.entry.now in
    let w = where_at c.args.here.now in
    let wires = map (λ k. M.Wire (e.first + k)) in
    λ may_read. on_ok_weaker c.add_wires-2.result
    (λ h. adds_reads c.args.self.now c.add_wires-2.new.reads _ _ h
    (ap wires (c.as_slice.ensures.value ∙ c.in_ok-places.ensures
    ∙ ap (λ dims. M.places_in (reach w true Whole dims c.args.indices.now))
    c.as_slice-dims.ensures.value)
    ∙ sym (reads_wired w c.args.meant c.args.indices.now may_read e))) c.add_wires-2.ensures
