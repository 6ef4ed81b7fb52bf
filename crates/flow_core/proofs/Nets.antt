-- How long a graph's lists are
use Rattle.std.proofs.Common.{ℕ, ◌<◌, ◌≤◌, List, [], length, get_or, ap, inl, inr, arith}
use Rattle.std.proofs.lemmas.List.{get_or_past}
use Rattle.std.proofs.lemmas.Bool.{cases_lt}
use Rattle.flow_core.specs.Counts.{times, IsIn}
use Rattle.flow_core.specs.Net.{Net, IsNet, writes_of, preds_of, succs_of}
use Rattle.flow_core.proofs.Totals.{length_le}

pub writes_few : (n : Net) → IsNet n → (k : ℕ) → length (writes_of n k) ≤ n.cells
writes_few n ok k = length_le n.cells (writes_of n k) (λ c. ok.writes_once k c)
    (λ c h. ok.writes_near k c h)

-- a strand with an entry in its list is in range
pub in_range : (lists : List (List ℕ)) (k x : ℕ) → IsIn x (get_or lists k []) → k < length lists
in_range lists k x h = elim (cases_lt k (length lists)) [
  | inl less ↦ less
  | inr ge ↦ let e = ap (times x) (get_or_past lists k [] ge) in absurd (omega arith)
]

pub succs_near : (n : Net) → IsNet n → (p k : ℕ) → IsIn k (succs_of n p) → k < n.strands
succs_near n ok p k h = let inv = ok.inverse p k in let each = ok.preds_each in
    let r = in_range n.preds k p (let z : 0 < times p (preds_of n k) = omega arith in z) in
    omega arith

pub succs_few : (n : Net) → IsNet n → (p : ℕ) → length (succs_of n p) ≤ n.strands
succs_few n ok p = length_le n.strands (succs_of n p) (λ k. let inv = ok.inverse p k in
    let once = ok.preds_once p k in omega arith) (λ k h. succs_near n ok p k h)

pub preds_few : (n : Net) → IsNet n → (k : ℕ) → length (preds_of n k) ≤ k
preds_few n ok k = length_le k (preds_of n k) (λ p. ok.preds_once p k) (λ p h. ok.preds_below p k h)
