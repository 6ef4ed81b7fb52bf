use Rattle.std.proofs.Common.{drop}
use Rattle.circom_named.proofs.Wired.{Marks}
use Rattle.circom_named.proofs.naming.mark.Given as goal

-- what is marked, and the terms that are left, mark what all terms do
abbrev pub invariant-loop-term : goal.invariant-loop-term
invariant-loop-term l =
    Marks l.marks.items l.initial.marks.items (drop l.term-index l.terms) l.terms
