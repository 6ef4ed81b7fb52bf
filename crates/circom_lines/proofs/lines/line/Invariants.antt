use Rattle.std.proofs.Common.{◌≡◌, ◌++◌, drop, map}
use Rattle.circom_lines.specs.Lines.{line}
use Rattle.circom_lines.proofs.lines.line.Given as goal

-- what is made, and the line of the parts that are left, is the line of all parts
abbrev pub invariant-loop-part : goal.invariant-loop-part
invariant-loop-part l =
    l.bytes.items ++ line (map (λ part. part.now) (drop l.part-index l.parts))
    ≡ line (map (λ part. part.now) l.parts)
