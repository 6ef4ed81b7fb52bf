use Rattle.std.proofs.Common.{◌∙◌, ◌+◌, ◌++◌, ◌∷◌, map, ap, sym, arith}
use Rattle.std.proofs.lemmas.Result.{on_ok_weaker}
use Rattle.cir_ast.specs.Tree.{bare, bare_argument}
use Rattle.cir_meaning.specs.Places.{numbers_from}
use Rattle.cir_meaning.specs.Steps.{logged_cells}
use Rattle.cir_steps.specs.Making.{log_parts}
use Rattle.wit_circuit.specs.declared.code.LogPart.TheVariants as part
use Rattle.wit_circuit.specs.Whole.{part_of}
use Rattle.cir_assert.proofs.LogSteps.{more_listed, value_cells, words_cells}
use Rattle.cir_assert.proofs.leaves.Line.add.Goals as goal

pub returns-in-Words-clause-parts : goal.returns-in-Words-clause-parts
returns-in-Words-clause-parts c = λ rest.
    let old = c.args.self.now in
    let new = c.add_words.new.self in
    on_ok_weaker c.add_words.result (λ e.
    ap (λ a. old.parts ++ map part_of (log_parts old.next (bare_argument a ∷ rest))) c.in-Words.is
    ∙ more_listed old.parts (part.Words c.in-Words.text) (map part_of (log_parts old.next rest))
    ∙ ap (λ ps. ps ++ map part_of (log_parts old.next rest)) (sym e)
    ∙ ap (λ n. new.parts ++ map part_of (log_parts n rest)) (sym c.add_words.ensures.next))
    c.add_words.ensures.parts

pub returns-in-Words-clause-targets : goal.returns-in-Words-clause-targets
returns-in-Words-clause-targets c = λ rest.
    let old = c.args.self.now in
    let new = c.add_words.new.self in
    on_ok_weaker c.add_words.result (λ e.
    ap (λ a. old.targets ++ numbers_from old.next (logged_cells (bare_argument a ∷ rest)))
    c.in-Words.is
    ∙ ap (λ n. old.targets ++ numbers_from old.next n) (words_cells c.in-Words.text rest)
    ∙ ap (λ ts. ts ++ numbers_from old.next (logged_cells rest))
    (sym c.add_words.ensures.targets)
    ∙ ap (λ n. new.targets ++ numbers_from n (logged_cells rest)) (sym c.add_words.ensures.next))
    c.add_words.ensures.parts

pub returns-in-Words-clause-next : goal.returns-in-Words-clause-next
returns-in-Words-clause-next c = λ rest.
    let old = c.args.self.now in
    on_ok_weaker c.add_words.result (λ e.
    ap (λ a. old.next + logged_cells (bare_argument a ∷ rest)) c.in-Words.is
    ∙ ap (λ n. old.next + n) (words_cells c.in-Words.text rest)
    ∙ ap (λ n. n + logged_cells rest) (sym c.add_words.ensures.next)) c.add_words.ensures.parts

pub returns-in-Value-clause-parts : goal.returns-in-Value-clause-parts
returns-in-Value-clause-parts c = λ rest.
    let old = c.args.self.now in
    let new = c.add_value.new.self in
    on_ok_weaker c.add_value.result (λ e.
    ap (λ a. old.parts ++ map part_of (log_parts old.next (bare_argument a ∷ rest))) c.in-Value.is
    ∙ more_listed old.parts (part.Cell old.next) (map part_of (log_parts (old.next + 1) rest))
    ∙ ap (λ ps. ps ++ map part_of (log_parts (old.next + 1) rest)) (sym e.0)
    ∙ ap (λ n. new.parts ++ map part_of (log_parts n rest)) (sym e.2)) c.add_value.ensures

pub returns-in-Value-clause-targets : goal.returns-in-Value-clause-targets
returns-in-Value-clause-targets c = λ rest.
    let old = c.args.self.now in
    let new = c.add_value.new.self in
    let value = bare c.in-Value.field-0 in
    on_ok_weaker c.add_value.result (λ e.
    ap (λ a. old.targets ++ numbers_from old.next (logged_cells (bare_argument a ∷ rest)))
    c.in-Value.is
    ∙ ap (λ n. old.targets ++ numbers_from old.next n) (value_cells value rest)
    ∙ more_listed old.targets old.next (numbers_from (old.next + 1) (logged_cells rest))
    ∙ ap (λ ts. ts ++ numbers_from (old.next + 1) (logged_cells rest)) (sym e.1)
    ∙ ap (λ n. new.targets ++ numbers_from n (logged_cells rest)) (sym e.2)) c.add_value.ensures

pub returns-in-Value-clause-next : goal.returns-in-Value-clause-next
returns-in-Value-clause-next c = λ rest.
    let old = c.args.self.now in
    let value = bare c.in-Value.field-0 in
    on_ok_weaker c.add_value.result (λ e.
    let same = ap (λ a. old.next + logged_cells (bare_argument a ∷ rest)) c.in-Value.is
    ∙ ap (λ n. old.next + n) (value_cells value rest) in
    omega (arith, same, e.2)) c.add_value.ensures
