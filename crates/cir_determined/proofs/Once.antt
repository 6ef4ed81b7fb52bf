-- A list of rules has one verdict, and a circuit has one answer but for the rules.
use Rattle.std.proofs.Common.{◌≡◌, ℕ, zero, suc, ◌<◌, ◌⊎◌, inl, inr, List, [], ◌∷◌, take, Some}
use Rattle.std.proofs.Common.{refl, ap, ◌∙◌, subst, arith}
use Rattle.std.specs.Prelude.{slice_get}
use Rattle.std.proofs.lemmas.Bool.{both_ways, cases_order}
use Rattle.std.proofs.lemmas.List.{take-take}
use Rattle.gold_field.specs.declared.form.Constraint.{Constraint}
use Rattle.cir_determined.specs.declared.rule.Rule.{Rule}
use Rattle.cir_determined.specs.declared.rule.Confirm.{Confirm}
use Rattle.cir_determined.specs.declared.rule.Confirm.TheVariants.{Confirmed, BadRule, Short}
use Rattle.cir_determined.specs.declared.rule.Answer.{Answer}
use Rattle.cir_determined.specs.declared.rule.Answer.TheVariants.{Shown, NotShown}
use Rattle.cir_determined.specs.Circuit.{Circuit}
use Rattle.cir_determined.specs.Marks.{Marks, opening}
use Rattle.cir_determined.specs.Rules.{Applies, shown}
use Rattle.cir_determined.specs.Certificate.{AllApply, shown_by, IsCertificate, IsFirstBad, IsShort}
use Rattle.cir_determined.specs.Certificate.{IsVerdict, IsLeastUnshown, IsAnswer, IsShown}

-- each rule applies to what those before it have shown
applies_there : (ks : List Constraint) (m : Marks) (rs : List Rule) (i : ℕ) (r : Rule)
    → AllApply ks m rs → slice_get rs i ≡ Some r → Applies ks (shown_by ks m (take i rs)) r
applies_there ks m [] i r a there = cc
applies_there ks m (q ∷ rs) zero r a there =
    let same : q ≡ r = cc in
    subst (Applies ks m) same a.0
applies_there ks m (q ∷ rs) (suc i) r a there =
    applies_there ks (shown ks m q) rs i r a.1 there

get_front : (rs : List Rule) (i j : ℕ) → i < j → slice_get (take j rs) i ≡ slice_get rs i
get_front [] i zero h = absurd (omega arith)
get_front [] i (suc j) h = refl
get_front (r ∷ rs) i zero h = absurd (omega arith)
get_front (r ∷ rs) zero (suc j) h = refl
get_front (r ∷ rs) (suc i) (suc j) h = get_front rs i j (omega arith)

none_bad : (c : Circuit) (rs : List Rule) (i : ℕ) → AllApply c.constraints (opening c) rs
    → IsFirstBad c rs i → ⊥
none_bad c rs i a bad =
    bad.not_here (applies_there c.constraints (opening c) rs i bad.rule a bad.there)

none_before : (c : Circuit) (rs : List Rule) (i j : ℕ) → i < j → IsFirstBad c rs i
    → IsFirstBad c rs j → ⊥
none_before c rs i j low first second =
    let there : slice_get (take j rs) i ≡ Some first.rule = get_front rs i j low ∙ first.there in
    let applies = applies_there c.constraints (opening c) (take j rs) i first.rule second.before
    there in
    first.not_here (subst
    (λ (qs : List Rule). Applies c.constraints (shown_by c.constraints (opening c) qs) first.rule)
    (take-take i j rs (omega arith)) applies)

none_shorter : (c : Circuit) (rs : List Rule) (v w : ℕ) → v < w → IsShort c rs v → IsShort c rs w
    → ⊥
none_shorter c rs v w low first second =
    both_ways ((shown_by c.constraints (opening c) rs).known v) first.not_known
    (second.least v first.output low)

none_short : (c : Circuit) (rs : List Rule) (w : ℕ) → IsCertificate c rs → IsShort c rs w → ⊥
none_short c rs w certificate short =
    both_ways ((shown_by c.constraints (opening c) rs).known w) short.not_known
    (certificate.outputs w short.output)

-- numbers of which neither is less are one
same_number : (i j : ℕ) → (i < j → ⊥) → (j < i → ⊥) → i ≡ j
same_number i j low high = cases (cases_order i j)
  where
    cases : (i ≡ j) ⊎ ((i < j) ⊎ (j < i)) → i ≡ j
    cases (inl same) = same
    cases (inr (inl less)) = absurd (low less)
    cases (inr (inr more)) = absurd (high more)

pub verdicts_are_one : (c : Circuit) (rs : List Rule) (a b : Confirm) → IsVerdict c rs a
    → IsVerdict c rs b → a ≡ b
verdicts_are_one c rs Confirmed Confirmed x y = refl
verdicts_are_one c rs Confirmed (BadRule j) x y = absurd (none_bad c rs j x.apply y)
verdicts_are_one c rs Confirmed (Short w) x y = absurd (none_short c rs w x y)
verdicts_are_one c rs (BadRule i) Confirmed x y = absurd (none_bad c rs i y.apply x)
verdicts_are_one c rs (BadRule i) (BadRule j) x y =
    ap BadRule (same_number i j (λ low. none_before c rs i j low x y)
    (λ high. none_before c rs j i high y x))
verdicts_are_one c rs (BadRule i) (Short w) x y = absurd (none_bad c rs i y.apply x)
verdicts_are_one c rs (Short v) Confirmed x y = absurd (none_short c rs v y x)
verdicts_are_one c rs (Short v) (BadRule j) x y = absurd (none_bad c rs j x.apply y)
verdicts_are_one c rs (Short v) (Short w) x y =
    ap Short (same_number v w (λ low. none_shorter c rs v w low x y)
    (λ high. none_shorter c rs w v high y x))

pub never_both : (c : Circuit) (rs : List Rule) (w : ℕ)
    → IsCertificate c rs → IsLeastUnshown c w → ⊥
never_both c rs w certificate unshown =
    unshown.never (record {
      rules = rs;
      apply = certificate.apply;
      known = certificate.outputs w unshown.output;
    })

none_less : (c : Circuit) (v w : ℕ) → v < w → IsLeastUnshown c v → IsLeastUnshown c w → ⊥
none_less c v w low first second = first.never (second.least v first.output low)

pub least_is_one : (c : Circuit) (v w : ℕ) → IsLeastUnshown c v → IsLeastUnshown c w → v ≡ w
least_is_one c v w x y =
    same_number v w (λ low. none_less c v w low x y) (λ high. none_less c w v high y x)

pub one_answer : (c : Circuit) (a b : Answer) → IsAnswer c a → IsAnswer c b
    → (a ≡ b) ⊎ (IsShown a × IsShown b)
one_answer c (Shown rs) (Shown qs) x y = inr (tt, tt)
one_answer c (Shown rs) (NotShown w) x y = absurd (never_both c rs.items w x.0 y)
one_answer c (NotShown v) (Shown qs) x y = absurd (never_both c qs.items v y.0 x)
one_answer c (NotShown v) (NotShown w) x y = inl (ap NotShown (least_is_one c v w x y))
