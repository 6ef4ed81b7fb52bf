use Rattle.std.proofs.Common.{◌≡◌, ◌∙◌, ap, subst, sym}
use Rattle.std.specs.Prelude.{IfOk}
use Rattle.cir_ast.specs.Tree.{bare_assign}
use Rattle.cir_meaning.specs.Writing.{plain}
use Rattle.cir_texts.specs.Shown.{found_set, set_of, wanted_of}
use Rattle.cir_emit.specs.Reads as E
use Rattle.wit_sources.specs.Collected.{ground_with, homes_in, seen, shapes_in}
use Rattle.wit_sources.specs.Runs.{in_run}
use Rattle.wit_sources.proofs.Written.{set_is}
use Rattle.wit_sources.proofs.kept.written_by.Goals as goal

pub returns : goal.returns
returns c =
    let found = c.args.found.now in
    let g = ground_with c.args.setting.now (shapes_in found) (seen found).list in
    let a = c.in-Some.assigned in
    let is : plain (bare_assign c.args.a.now) ≡ set_of a =
    set_is (plain (bare_assign c.args.a.now)) (set_of a)
    (sym (ap found_set c.in-Some.is) ∙ c.value_of.ensures.set) in
    subst (λ x. IfOk c.place_run.result
    (λ run. (t : _) → in_run run t ≡ E.is_written g (homes_in found) x t)) (sym is)
    (c.place_run.ensures a.place.now.name (wanted_of a.value).expr)
