use Rattle.std.proofs.Common.{◌≡◌, ◌∙◌, List, ap, map, subst, sym}
use Rattle.std.specs.Prelude.{Some}
use Rattle.std.specs.List.{AllByRecursion}
use Rattle.cir_meaning.specs.Costs.{Made as Key}
use Rattle.cir_rules.specs.Shown.{made_of}
use Rattle.wit_lower.specs.Sources.{Source}
use Rattle.wit_sourced.specs.Loads.{shape_of, source_of}
use Rattle.wit_statements.specs.Asked.{task_of}
use Rattle.cir_make.specs.declared.arrays.StepArray.{StepArray}
use Rattle.cir_make.specs.Arrays.{input_in}
use Rattle.cir_make.proofs.Codes.{coded}
use Rattle.cir_make.proofs.told.code_named.Goals as goal

pub returns-clause-code : goal.returns-clause-code
returns-clause-code c = λ of told are shapes is targets.
    let keys : List Key = map made_of c.add_keys.new.keys.calls.items in
    let t = c.args.told.now in
    let known = of.names.known in
    let step = c.args.step.now in
    coded keys t.frame.now of t.arrays.now step.components.now c.in_ok-found.found.sources are
    (ap (map shape_of) c.in_ok-found.ensures.shapes ∙ shapes)
    c.in_ok-found.ensures.fit
    (subst (λ (arrays : List StepArray). AllByRecursion
    (λ (x : Source). input_in arrays x.name x.element ≡ Some x.input)
    (map source_of c.in_ok-found.found.sources.list))
    c.in_ok-offered.ensures c.in_ok-found.ensures.given)
    (task_of step.task) _ is record {
      has = c.in_ok-add_keys.ensures.has known told c.if-not-branch.false;
      loaded = c.in_ok-found.ensures.whole keys known told c.if-not-is_whole.false;
      few = c.in_ok-found.ensures.few keys known told;
    } (c.in_ok-code.ensures.code known told) c.in_ok-code.ensures.reads (sym targets)
