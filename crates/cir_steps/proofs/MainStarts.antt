-- Where a circuit starts: cell 0 has 1, and no cell has a number that a step writes.
use Rattle.std.proofs.Common.{◌≡◌, ℕ, ◌+◌, ◌≤◌, Bool, true, false, cond, nat_lt, List, ◌∷◌, ◌++◌}
use Rattle.std.proofs.Common.{Some, None, ap, ◌∙◌, arith}
use Rattle.cir_steps.specs.Written.{times, targets_of, EachCellOnce}
use Rattle.cir_steps.specs.RunSteps.{put_cell, put_cells}
use Rattle.cir_steps.specs.Circuit.{Circuit, at_start}
use Rattle.cir_steps.proofs.Counting.{times_more}
use Rattle.cir_steps.proofs.Alike.{Fresh, put_aside, put_here}
use Rattle.cir_steps.proofs.FreshSteps.{none_apart, here_once, fresh_steps}

module _ (b : Circuit) (once : EachCellOnce b) (inputs : List ℕ) where
  pub at_most : (c : ℕ) → times c (b.starts ++ targets_of b.steps) ≤ 1
  at_most c = at (nat_lt c b.cells) (once c)
    where
      at : (f : Bool) → times c (b.starts ++ targets_of b.steps) ≡ cond f 1 0
          → times c (b.starts ++ targets_of b.steps) ≤ 1
      at true e = omega arith
      at false e = omega arith

  pub start_fresh : Fresh b.steps (at_start b inputs).cells
  start_fresh =
      fresh_steps b.steps (at_start b inputs).cells (λ c.
      let all : times c (b.starts ++ targets_of b.steps)
      ≡ times c b.starts + times c (targets_of b.steps) =
      times_more c b.starts (targets_of b.steps) in
      let most : times c (b.starts ++ targets_of b.steps) ≤ 1 = at_most c in omega arith)
      (λ c some.
      let all : times c (b.starts ++ targets_of b.steps)
      ≡ times c b.starts + times c (targets_of b.steps) =
      times_more c b.starts (targets_of b.steps) in
      let most : times c (b.starts ++ targets_of b.steps) ≤ 1 = at_most c in
      put_aside b.starts (1 ∷ inputs) (λ cell. None) c (none_apart c b.starts (omega arith)))

  pub start_zero : (ts : List ℕ) → b.starts ≡ 0 ∷ ts → (at_start b inputs).cells 0 ≡ Some 1
  start_zero ts is =
      ap (λ xs. put_cells xs (1 ∷ inputs) (λ cell. None) 0) is
      ∙ put_aside ts inputs (put_cell 0 1 (λ cell. None)) 0 (none_apart 0 ts (
      let all : times 0 (b.starts ++ targets_of b.steps)
      ≡ times 0 b.starts + times 0 (targets_of b.steps) =
      times_more 0 b.starts (targets_of b.steps) in
      let most : times 0 (b.starts ++ targets_of b.steps) ≤ 1 = at_most 0 in
      let same : times 0 b.starts ≡ times 0 (0 ∷ ts) = ap (times 0) is in
      let first : times 0 (0 ∷ ts) ≡ 1 + times 0 ts = here_once 0 ts in omega arith))
      ∙ put_here 0 1 (λ cell. None)
