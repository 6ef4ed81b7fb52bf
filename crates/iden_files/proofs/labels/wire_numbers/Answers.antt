use Rattle.std.proofs.Common.{◌≡◌, ℕ, zero, suc, ◌+◌, List, [], ◌∷◌, ◌++◌, ap, arith, add-one}
use Rattle.std.specs.List.{range_with_len}
use Rattle.iden_files.proofs.labels.wire_numbers.Goals as goal

range_push : (a n m : ℕ) → a + n ≡ m → range_with_len a (suc n) ≡ range_with_len a n ++ m ∷ []
range_push a zero m e = ap (λ (x : ℕ). x ∷ []) (omega (arith, e))
range_push a (suc n) m e = ap (λ (xs : List ℕ). a ∷ xs) (range_push (a + 1) n m (omega (arith, e)))

pub loop-i-preserved : goal.loop-i-preserved
loop-i-preserved c =
    rw (
      c.in_ok-push.ensures.items,
      c.from.ensures,
      c.loop-i.invariant,
      add-one,
      range_push 0 c.loop-i.i c.loop-i.i (omega arith),
    )
