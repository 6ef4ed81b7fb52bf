use Rattle.std.proofs.Common.{◌≡◌, take}
use Rattle.lig_merkle.proofs.Known.{missing_in}
use Rattle.lig_merkle.proofs.opened.missing.Given as goal

-- what is missing beside the places so far
abbrev pub invariant-loop-place : goal.invariant-loop-place
invariant-loop-place l = l.beside.items ≡ missing_in l.known (take l.place-index l.known)
