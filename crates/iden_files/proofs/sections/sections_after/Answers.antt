use Rattle.std.proofs.Common.{◌≡◌, true, false, [], length, sym, ◌∙◌, eqb}
use Rattle.std.proofs.lemmas.Result.{err_from_is_err_and}
use Rattle.iden_files.specs.Sections.{sections_after}
use Rattle.iden_files.specs.Views.{section, sections}
use Rattle.iden_files.proofs.SectionLoop.{goes_on, no_section, not_kept, is_done, more_bytes}
use Rattle.iden_files.proofs.sections.sections_after.Goals as goal

pub returns-in_err-s : goal.returns-in_err-s
returns-in_err-s c =
    let p = err_from_is_err_and c.from_residual.result c.from_residual.ensures.1 in
    let at = rw c.loop.invariant.0 at c.in_err-s.ensures.taken in
    rw (p.1, p.2)
    (no_section c.args.format c.args.file.now.end c.args.count c.loop.counter
    (sections c.loop.found.items) c.loop.file.rest.now
    (sections_after c.args.format c.args.file.now.end c.args.count [] c.args.file.now.rest.now)
    c.loop.invariant.1 c.in_err-s.field-0.0 c.loop-test.true at)

pub returns-in_err-keep : goal.returns-in_err-keep
returns-in_err-keep c =
    let p = err_from_is_err_and c.from_residual-in_err-keep.result
    c.from_residual-in_err-keep.ensures.1 in
    let at = rw c.loop.invariant.0 at c.in_ok-s.ensures.taken in
    let kept = rw (c.offset-place.ensures.place, c.loop.invariant.0) at c.in_err-keep.ensures in
    rw (p.1, p.2)
    (not_kept c.args.format c.args.file.now.end c.args.count c.loop.counter
    (sections c.loop.found.items) c.loop.file.rest.now
    (sections_after c.args.format c.args.file.now.end c.args.count [] c.args.file.now.rest.now)
    c.loop.invariant.1 (section c.in_ok-s.s) c.next_section.new.file.rest.now
    c.in_err-keep.field-0.0 c.loop-test.true at kept)

pub loop-preserved : goal.loop-preserved
loop-preserved c =
    let at = rw c.loop.invariant.0 at c.in_ok-s.ensures.taken in
    let kept = rw (c.offset-place.ensures.place, c.loop.invariant.0) at c.in_ok-keep.ensures in (
      c.in_ok-s.ensures.end ∙ c.loop.invariant.0,
      goes_on c.args.format c.args.file.now.end c.args.count c.loop.counter
          (sections c.loop.found.items) c.loop.file.rest.now
          (sections_after c.args.format c.args.file.now.end c.args.count []
          c.args.file.now.rest.now) c.loop.invariant.1
          (section c.in_ok-s.s) c.next_section.new.file.rest.now (sections c.keep.new.found.items)
          c.loop-test.true at kept,
    )

pub returns-then-not-is_empty : goal.returns-then-not-is_empty
returns-then-not-is_empty c =
    let left : eqb (length c.loop.file.rest.now) 0 ≡ false =
    sym c.is_empty.ensures ∙ c.if-not-is_empty.true in
    rw (c.offset.ensures.place, c.loop.invariant.0)
    (more_bytes c.args.format c.args.file.now.end c.args.count c.loop.counter
    (sections c.loop.found.items) c.loop.file.rest.now
    (sections_after c.args.format c.args.file.now.end c.args.count [] c.args.file.now.rest.now)
    c.loop.invariant.1 c.loop-test.false left)

pub returns : goal.returns
returns c =
    let empty : eqb (length c.loop.file.rest.now) 0 ≡ true =
    sym c.is_empty.ensures ∙ c.if-not-is_empty.false in
    is_done c.args.format c.args.file.now.end c.args.count c.loop.counter
    (sections c.loop.found.items) c.loop.file.rest.now
    (sections_after c.args.format c.args.file.now.end c.args.count [] c.args.file.now.rest.now)
    c.loop.invariant.1 c.loop-test.false empty
