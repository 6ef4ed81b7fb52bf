use Rattle.std.proofs.Common.{◌≡◌, ◌≤◌, [], ◌∷◌, ◌++◌, map, length, refl, arith}
use Rattle.std.specs.Prelude.{fold}
use Rattle.std.proofs.lemmas.List.{drop_all}
use Rattle.cir_sources.specs.Names.{keep_folder}
use Rattle.cir_sources.specs.Steps.{last_first}
use Rattle.cir_sources.proofs.Paths.{all_kept_now}
use Rattle.cir_sources.proofs.path.kept_of.Goals as goal

pub returns : goal.returns
returns c =
    let parts : c.args.segments.now ≡ c.in-Some.folders.now ++ c.in-Some.file.now ∷ [] =
    c.in-Some.ensures.cases.0 in
    let past : length c.in-Some.folders.now ≤ c.loop-segment.segment-index =
    omega (arith, c.loop-segment-test.false) in
    let kept : last_first c.loop-segment.kept.items
    ≡ fold keep_folder [] (map (λ s. s.now) c.in-Some.folders.now) =
    rw (drop_all c.loop-segment.segment-index c.in-Some.folders.now past)
    at c.loop-segment.invariant in
    rw (c.in_ok-keep.ensures, parts, all_kept_now c.in-Some.folders.now c.in-Some.file.now, kept)
    refl
