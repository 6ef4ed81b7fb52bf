use Rattle.std.proofs.Common.{◌≡◌, ◌+◌, List, ℕ, length, ap, subst, ◌∙◌}
use Rattle.std.proofs.lemmas.List.{get_or_read}
use Rattle.wit_code.specs.declared.code.Step.{Step}
use Rattle.wit_flow.specs.Run.{no_step, reads_at, writes_at}
use Rattle.wit_flow.specs.Sources.{AreSources}
use Rattle.wit_flow.specs.Draft.{ReadsMore, WritesMore, next_of}
use Rattle.wit_flow.proofs.Strands.{added}
use Rattle.wit_flow.proofs.drafting.Draft.add.Goals as goal

pub returns : goal.returns
returns c =
    let a = c.args.self.now in let b = c.find.new.self in let d = c.write.new.self in
    let steps = c.args.steps.now in let found = c.in_ok-sources.sources in
    let step =
    get_or_read steps (next_of a) c.index-steps-self.result c.requires.at c.index-steps-self.is
    no_step in
    let reads : c.as_slice.result.now ≡ reads_at steps (next_of a) =
    c.as_slice.ensures ∙ ap (λ (s : Step). s.reads) step in
    let writes : c.as_slice-2.result.now ≡ writes_at steps (next_of a) =
    c.as_slice-2.ensures ∙ ap (λ (s : Step). s.writes) step in
    let A : List ℕ → Type 0 =
    λ cs. AreSources b.open_reads b.open_writes (length b.open_writes) found cs in
    added steps a b d _ found c.requires.draft c.requires.first c.requires.at c.requires.joins
    (subst (ReadsMore a b) reads c.in_ok-sources.ensures.reads)
    (subst A reads c.in_ok-sources.ensures.sources)
    (subst (WritesMore b d) writes c.in_ok-write.ensures)
    (λ i. record d { sources = c.in_ok-push.ensures.ok i; count = d.count + 1 })
