-- Where the two sides of equations are equal, and where their source list holds.
use Rattle.std.proofs.Common.{◌≡◌, ℕ, ◌+◌, ◌%◌, ◌<◌, ◌↔◌, List, [], ◌∷◌, All, ap, sym, ◌∙◌, arith}
use Rattle.std.proofs.Common.{mod-lt, lit<}
use Rattle.std.specs.List.{AllByRecursion}
use Rattle.std.proofs.lemmas.List.Elements.{All-from_recursion, recursion_from_All}
use Rattle.gold_field.specs.declared.form.Constraint.{Constraint}
use Rattle.gold_field.specs.declared.gold.TheConstants.{P}
use Rattle.gold_field.specs.Form.{Holds}
use Rattle.cir_lc.specs.Number.{Assignment, added}
use Rattle.cir_lc.specs.Normal.{value_of_quad}
use Rattle.cir_lc.proofs.Normals.{normal_means}
use Rattle.cir_meaning.specs.Values.{Parts}
use Rattle.cir_meaning.specs.Source.{Equation, IsEqualAt, IsDifference, IsConstraintOf, IsSource}
use Rattle.cir_meaning.specs.Source.{number_of_parts}

-- one equation, and its constraint
balance : (v r l : ℕ) → v < P → r < P → (v + r) % P ≡ l → (v ≡ 0) ↔ (l ≡ r)
balance v r l hv hr h = (λ z. omega arith, λ z. omega arith)

holds_as : (n : ℕ) (e : Equation) (k : Constraint) (s : Assignment) → IsDifference e
    → IsConstraintOf n e k → Holds s.at k ↔ IsEqualAt s e
unfolding added
holds_as n e k s d c =
    let same : number_of_parts e.parts s ≡ value_of_quad c.quad s =
    ap (λ (p : Parts). number_of_parts p s) c.numbers in
    let zero_is : Holds s.at k ↔ (value_of_quad c.quad s ≡ 0) = normal_means c.quad k c.normal s in
    let equal : (number_of_parts e.parts s ≡ 0) ↔ (e.left s ≡ e.right s) =
    balance (number_of_parts e.parts s) (e.right s) (e.left s) (mod-lt _ (lit< tt)) (d.small s)
    (d.sum s) in
    (λ h. equal.0 (same ∙ zero_is.0 h), λ h. zero_is.1 (sym same ∙ equal.1 h))

all_hold_as : (n : ℕ) (es : List Equation) (ks : List Constraint) (s : Assignment)
    → AllByRecursion IsDifference es → IsSource n es ks → AllByRecursion (IsEqualAt s) es
    ↔ AllByRecursion (Holds s.at) ks
all_hold_as n [] [] s d h = (λ _. tt, λ _. tt)
all_hold_as n [] (k ∷ ks) s d h = absurd h
all_hold_as n (e ∷ es) [] s d h = absurd h
all_hold_as n (e ∷ es) (k ∷ ks) s d h =
    let first : Holds s.at k ↔ IsEqualAt s e = holds_as n e k s d.0 h.0 in
    let rest : AllByRecursion (IsEqualAt s) es ↔ AllByRecursion (Holds s.at) ks =
    all_hold_as n es ks s d.1 h.1 in
    (λ g. (first.1 g.0, rest.0 g.1), λ g. (first.0 g.0, rest.1 g.1))

pub all_hold : (n : ℕ) (es : List Equation) (ks : List Constraint) (s : Assignment)
    → All IsDifference es → IsSource n es ks → All (IsEqualAt s) es ↔ All (Holds s.at) ks
all_hold n es ks s d h =
    let each : AllByRecursion (IsEqualAt s) es ↔ AllByRecursion (Holds s.at) ks =
    all_hold_as n es ks s (recursion_from_All IsDifference es d) h in (
      λ g. All-from_recursion (Holds s.at) ks (each.0 (recursion_from_All (IsEqualAt s) es g)),
      λ g. All-from_recursion (IsEqualAt s) es (each.1 (recursion_from_All (Holds s.at) ks g)),
    )
