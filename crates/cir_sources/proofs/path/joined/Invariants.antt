use Rattle.std.proofs.Common.{◌≡◌, ◌++◌, drop, map}
use Rattle.std.specs.List.{join_with_byte}
use Rattle.cir_sources.proofs.Paths.{further}
use Rattle.cir_sources.proofs.path.joined.Given as goal

-- what is written, and what is left, are the whole
abbrev pub invariant-loop-segment : goal.invariant-loop-segment
invariant-loop-segment l =
    l.name.items ++ further (map (λ s. s.now) (drop l.segment-index l.others))
    ≡ join_with_byte 47 (map (λ s. s.now) l.fn.segments)
