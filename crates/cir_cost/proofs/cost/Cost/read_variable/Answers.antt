use Rattle.std.proofs.Common.{◌≡◌, ◌∙◌, ap, sym, subst}
use Rattle.std.specs.Prelude.{unwrap_or}
use Rattle.std.proofs.lemmas.Result.{on_ok_weaker}
use Rattle.cir_arrays.specs.Shown.{datum_of}
use Rattle.cir_frame.specs.Shown.{frame_of}
use Rattle.cir_meaning.specs.Arrays.{Datum, single}
use Rattle.cir_meaning.specs.Values.{Known}
use Rattle.cir_meaning.specs.Places.{elements, numbers_from}
use Rattle.cir_meaning.specs.Frame.{variable_at}
use Rattle.cir_meaning.specs.Costs as M
use Rattle.cir_cost.specs.Adds.{Adds, read_alone}
use Rattle.cir_cost.proofs.Adding.{adds_none, adds_reads}
use Rattle.cir_cost.proofs.Cells.{unknown_zero}
use Rattle.cir_cost.proofs.cost.Cost.read_variable.Goals as goal

pub returns-in-Some : goal.returns-in-Some
returns-in-Some c =
    λ counts.
    let f = frame_of c.args.frame.now counts in
    let is : datum_of c.in-Some.d.now ≡ variable_at f c.args.n =
    ap (λ o. unwrap_or o (single (Known 0))) (rw c.in-Some.is at (c.variable.ensures counts)) in
    on_ok_weaker c.add_all_unknown.result
    (λ h. adds_reads c.args.self.now c.add_all_unknown.new.reads _ _ h
    (ap (λ d. M.unknown_at c.args.n d (numbers_from 0 (elements d.dims))) is))
    c.add_all_unknown.ensures

pub returns-in-None : goal.returns-in-None
returns-in-None c =
    λ counts.
    let f = frame_of c.args.frame.now counts in
    let is : single (Known 0) ≡ variable_at f c.args.n =
    ap (λ o. unwrap_or o (single (Known 0))) (rw c.in-None.is at (c.variable.ensures counts)) in
    let all : Datum → _ = λ d. M.unknown_at c.args.n d (numbers_from 0 (elements d.dims)) in
    subst (λ cells. Adds c.args.self.now c.args.self.now (read_alone cells))
    (sym (unknown_zero c.args.n (numbers_from 0 1)) ∙ ap all is) (adds_none c.args.self.now)
