-- Turns over constraints that keep their places.
use Rattle.std.proofs.Common.{◌≡◌, ℕ, suc, ◌<◌, ◌≤◌, Bool, cond, List, [], ◌∷◌, ◌++◌, sum_by, Some}
use Rattle.std.proofs.Common.{None, Result}
use Rattle.std.proofs.Common.{Ok, Err, arith, ap, sym, ◌∙◌}
use Rattle.gold_field.specs.declared.form.Constraint.{Constraint}
use Rattle.cir_simplify.specs.declared.types.Rules.{Rules}
use Rattle.cir_simplify.specs.declared.types.Solved.{Solved}
use Rattle.cir_simplify.specs.Shape.{terms_in}
use Rattle.cir_simplify.specs.Turn.{Simplified, dropped, limited, turn, turns}
use Rattle.cir_simplify.specs.Index.{IsTurn, shown}
use Rattle.cir_simplify.proofs.Holes.{few, many, first_shown, sum_shown, after_shown}

abbrev seen : Rules → List Constraint → List Solved → Simplified
seen r rows es = shown r (record { list = rows; solved = es })

module _ (r : Rules) (n m : ℕ) (before now : List Constraint) (es : List Solved)
    (more : n ≡ suc m) where
  -- no constraint is solved
  pub turn_none : IsTurn r before now None → turns r n (seen r before es) ≡ Ok (seen r now es)
  turn_none h =
      ap (λ (k : ℕ). turns r k (seen r before es)) more
      ∙ ap (turn (turns r m) r (seen r before es)) (first_shown r r.level before ∙ h.0)
      ∙ ap (λ (v : List Constraint). Ok (seen r v es)) (sym h.1)

  module _ (e : Solved) (made : IsTurn r before now (Some e)) where
    turn_made : turns r n (seen r before es) ≡ limited (turns r m) (seen r now (es ++ e ∷ []))
    turn_made = let (p, first, is, rows) = made in
        ap (λ (k : ℕ). turns r k (seen r before es)) more
        ∙ ap (turn (turns r m) r (seen r before es)) (first_shown r r.level before ∙ first)
        ∙ ap (limited (turns r m)) (after_shown r (record { list = before; solved = es }) p
        ∙ sym (λ i. seen r (rows i) (es ++ is i ∷ [])))

    abbrev by_count : Bool → Result Simplified ℕ
    by_count b = cond b (turns r m (seen r now (es ++ e ∷ [])))
        (Err (sum_by terms_in (dropped r.level now)))

    pub turn_some : (fs : List Solved) → fs ≡ es ++ e ∷ [] → sum_by terms_in now ≤ 8388608
        → turns r n (seen r before es) ≡ turns r m (seen r now fs)
    turn_some fs f l =
        let s = sum_shown r.level now in
        turn_made ∙ ap by_count (few (sum_by terms_in (dropped r.level now)) 8388608 (omega arith))
        ∙ ap (λ (v : List Solved). turns r m (seen r now v)) (sym f)

    pub turn_over : 8388608 < sum_by terms_in now
        → turns r n (seen r before es) ≡ Err (sum_by terms_in now)
    turn_over l =
        let s = sum_shown r.level now in
        turn_made ∙ ap by_count (many (sum_by terms_in (dropped r.level now)) 8388608 (omega arith))
        ∙ ap (λ (k : ℕ). Err k) s
