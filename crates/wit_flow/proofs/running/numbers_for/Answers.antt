use Rattle.std.proofs.Common.{◌≡◌, List, [], length, map, subst, sym, ap, ◌∙◌, arith}
use Rattle.std.proofs.lemmas.List.{get_or_read}
use Rattle.wit_flow.specs.declared.flow.Source.{Source}
use Rattle.wit_flow.specs.Plan.{Plan}
use Rattle.wit_flow.specs.Sources.{IsKept, AreThere, number_of, sources_of}
use Rattle.wit_flow.proofs.PartRuns.{in_steps, numbers_are, all_there}
use Rattle.wit_flow.proofs.running.numbers_for.Goals as goal

pub bounds-sources-at : goal.bounds-sources-at
bounds-sources-at c =
    let p = c.args.flow.now in
    let kept =
    subst (λ (q : Plan). IsKept q c.flow.inside.sources) c.flow.view_is c.flow.invariant in
    let here = in_steps p c.flow.inside.sources kept c.args.strand c.requires.near c.args.reads.now
    c.requires.each c.args.at c.args.written.now c.requires.within in
    let wide = ap length c.as_slice-sources.ensures ∙ kept.sources_each in omega arith

pub offset_bounds-sources-at : goal.offset_bounds-sources-at
offset_bounds-sources-at c =
    let p = c.args.flow.now in
    let kept =
    subst (λ (q : Plan). IsKept q c.flow.inside.sources) c.flow.view_is c.flow.invariant in
    let here = in_steps p c.flow.inside.sources kept c.args.strand c.requires.near c.args.reads.now
    c.requires.each c.args.at c.args.written.now c.requires.within in
    let few = kept.plan.can_cut.few in omega arith

pub gather-requires : goal.gather-requires
gather-requires c =
    let p = c.args.flow.now in let reads = c.args.reads.now in let written = c.args.written.now in
    let kept =
    subst (λ (q : Plan). IsKept q c.flow.inside.sources) c.flow.view_is c.flow.invariant in
    let here = in_steps p c.flow.inside.sources kept c.args.strand c.requires.near reads
    c.requires.each c.args.at written c.requires.within in
    let wide = ap length c.as_slice-sources.ensures ∙ kept.sources_each in
    let row : c.as_slice-own.result.now ≡ sources_of c.flow.inside.sources c.args.at =
    c.as_slice-own.ensures
    ∙ get_or_read c.as_slice-sources.result.now c.args.at c.index-sources-at.result
    (omega arith) c.index-sources-at.is []
    ∙ ap (λ (l : List (List Source)). sources_of l c.args.at) c.as_slice-sources.ensures in
    let B : List Source → Type 0 = λ l. AreThere (length reads) (length written) l in
    subst B (sym row)
    (all_there p c.flow.inside.sources kept c.args.strand c.requires.near reads
    c.requires.each c.args.at written c.requires.within)

pub returns-clause-numbers : goal.returns-clause-numbers
returns-clause-numbers c =
    let p = c.args.flow.now in let reads = c.args.reads.now in let written = c.args.written.now in
    let kept =
    subst (λ (q : Plan). IsKept q c.flow.inside.sources) c.flow.view_is c.flow.invariant in
    let here = in_steps p c.flow.inside.sources kept c.args.strand c.requires.near reads
    c.requires.each c.args.at written c.requires.within in
    let wide = ap length c.as_slice-sources.ensures ∙ kept.sources_each in
    let row : c.as_slice-own.result.now ≡ sources_of c.flow.inside.sources c.args.at =
    c.as_slice-own.ensures
    ∙ get_or_read c.as_slice-sources.result.now c.args.at c.index-sources-at.result
    (omega arith) c.index-sources-at.is []
    ∙ ap (λ (l : List (List Source)). sources_of l c.args.at) c.as_slice-sources.ensures in
    c.in_ok-numbers.ensures.numbers
    ∙ ap (λ (l : List Source). map (number_of reads written) l) row
    ∙ numbers_are p c.flow.inside.sources kept c.args.strand c.requires.near reads
    c.requires.each c.args.at written c.requires.within
