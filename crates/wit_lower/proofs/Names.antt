-- Names that are the same, and homes of names that differ.
use Rattle.std.proofs.Common.{◌≡◌, ℕ, ◌+◌, ◌≤◌, Bool, true, false, cond, [], ◌∷◌, Some, refl, sym}
use Rattle.std.proofs.Common.{ap, ap₂, subst, ◌∙◌, inl, inr, ◌⊎◌}
use Rattle.std.specs.Prelude.{◌==◌, ◌&&◌, bytes_eq}
use Rattle.std.specs.Cmp.Lexicographic.{bytes_decides}
use Rattle.std.proofs.lemmas.Bool.{and_parts, and_from, eqb-true, eq-eqb}
use Rattle.wit_lower.specs.Homes.{Name, Variable, Signal, Port, same_name, Home, Homes, find}
use Rattle.wit_lower.specs.Homes.{slots_of}
use Rattle.wit_lower.specs.Fits.{AreLaid}
use Rattle.wit_lower.proofs.Shows.{Lies, lies}

pub same_name_is : (x y : Name) → same_name x y ≡ true → x ≡ y
same_name_is (Variable n) (Variable m) e = ap Variable (eqb-true n m e)
same_name_is (Variable n) (Signal m) e = cc
same_name_is (Variable n) (Port m k b) e = cc
same_name_is (Signal n) (Variable m) e = cc
same_name_is (Signal n) (Signal m) e = ap Signal (eqb-true n m e)
same_name_is (Signal n) (Port m k b) e = cc
same_name_is (Port n j a) (Variable m) e = cc
same_name_is (Port n j a) (Signal m) e = cc
same_name_is (Port n j a) (Port m k b) e =
    let first : ((n == m) ≡ true) × (((j == k) && bytes_eq a b) ≡ true) =
    and_parts (n == m) ((j == k) && bytes_eq a b) e in
    let rest : ((j == k) ≡ true) × (bytes_eq a b ≡ true) =
    and_parts (j == k) (bytes_eq a b) first.1 in
    ap₂ (λ x y. Port x y a) (eqb-true n m first.0) (eqb-true j k rest.0) ∙
    ap (λ z. Port m k z) ((bytes_decides a b).0 rest.1)

pub same_name_itself : (x : Name) → same_name x x ≡ true
same_name_itself (Variable n) = eq-eqb n n refl
same_name_itself (Signal n) = eq-eqb n n refl
same_name_itself (Port n j a) =
    and_from (n == n) ((j == j) && bytes_eq a a) (eq-eqb n n refl)
    (and_from (j == j) (bytes_eq a a) (eq-eqb j j refl) ((bytes_decides a a).1 refl))

-- homes of two names lie apart
abbrev pub Apart : Home → Home → Type 0
Apart j h = (j.base + slots_of j.dims ≤ h.base) ⊎ (h.base + slots_of h.dims ≤ j.base)

pub apart : (homes : Homes) (top : ℕ) (x y : Name) (j h : Home) → AreLaid homes top
    → find x homes ≡ Some j → find y homes ≡ Some h → (x ≡ y → ⊥) → Apart j h
apart [] top x y j h l ex ey other = cc
apart (p ∷ ps) top x y j h (a, b, l) ex ey other =
    at (λ e1 e2. apart ps p.home.base x y j h l e1 e2 other) (same_name x p.name)
    (same_name y p.name) refl refl ex ey
  where
    at : (find x ps ≡ Some j → find y ps ≡ Some h → Apart j h) → (t r : Bool)
        → same_name x p.name ≡ t → same_name y p.name ≡ r
        → cond t (Some p.home) (find x ps) ≡ Some j
        → cond r (Some p.home) (find y ps) ≡ Some h → Apart j h
    at earlier true true et er e1 e2 =
        absurd (other (same_name_is x p.name et ∙ sym (same_name_is y p.name er)))
    at earlier true false et er e1 e2 =
        let same : p.home ≡ j = cc in
        let r : Lies p.home.base h = lies ps p.home.base y h l e2 in
        inr (subst (λ z. h.base + slots_of h.dims ≤ z.base) same r.below)
    at earlier false true et er e1 e2 =
        let same : p.home ≡ h = cc in
        let r : Lies p.home.base j = lies ps p.home.base x j l e1 in
        inl (subst (λ z. j.base + slots_of j.dims ≤ z.base) same r.below)
    at earlier false false et er e1 e2 = earlier e1 e2
