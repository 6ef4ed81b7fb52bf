use Rattle.std.proofs.Common.{◌∙◌, List, ap, subst, sym}
use Rattle.std.specs.Prelude.{true}
use Rattle.std.proofs.lemmas.Result.{on_ok_weaker}
use Rattle.cir_arrays.specs.Shown.{datum_of}
use Rattle.cir_meaning.specs.Arrays.{Whole, reach}
use Rattle.cir_meaning.specs.Costs as M
use Rattle.cir_evaluate.specs.Within.{where_at}
use Rattle.cir_cost.specs.Adds.{Adds, read_alone}
use Rattle.cir_cost.proofs.Adding.{adds_none, adds_reads}
use Rattle.cir_cost.proofs.Cells.{one_read, unmade_none}
use Rattle.cir_cost.proofs.cost.Cost.read_numbered.Goals as goal

pub returns-then-item_count-eq0 : goal.returns-then-item_count-eq0
returns-then-item_count-eq0 g c =
    let places = M.places_in (reach (where_at c.args.here.now) true Whole
    (datum_of c.args.d.now).dims c.args.indices.now) in
    let none = unmade_none c.in-Variable.n (datum_of c.args.d.now) places
    (sym c.item_count.ensures ∙ c.if-item_count-eq0.true) in
    rw c.in-Variable.is (subst (λ (cells : List M.Cell). Adds c.args.self.now c.args.self.now
    (read_alone cells)) (sym none) (adds_none c.args.self.now))

pub returns-in-Some : goal.returns-in-Some
returns-in-Some g c =
    let w = where_at c.args.here.now in
    let d = datum_of c.args.d.now in
    rw c.in-Variable.is (on_ok_weaker c.add_unknown.result
    (λ h. adds_reads c.args.self.now c.add_unknown.new.reads _ _ h
    (ap (M.unknown_at c.in-Variable.n d) (sym (one_read w c.dims-dims.result.now c.args.indices.now
    c.in-Some.place c.in-Some.ensures.whole c.in-Some.ensures.inside c.in-Some.ensures.place)
    ∙ ap (λ dims. M.places_in (reach w true Whole dims c.args.indices.now)) c.dims-dims.ensures)))
    c.add_unknown.ensures)

pub returns-in_ok-places-in-Variable : goal.returns-in_ok-places-in-Variable
returns-in_ok-places-in-Variable g c =
    let w = where_at c.args.here.now in
    let d = datum_of c.args.d.now in
    rw c.in-Variable.is (on_ok_weaker c.add_unknown-in-Variable.result
    (λ h. adds_reads c.args.self.now c.add_unknown-in-Variable.new.reads _ _ h
    (ap (M.unknown_at c.in-Variable.n d) (c.as_slice.ensures.value
    ∙ c.in_ok-places-in-Variable.ensures
    ∙ ap (λ dims. M.places_in (reach w true Whole dims c.args.indices.now)) c.dims-dims.ensures)))
    c.add_unknown-in-Variable.ensures)
