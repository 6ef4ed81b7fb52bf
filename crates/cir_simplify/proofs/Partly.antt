-- A substitution at some places after the other.
use Rattle.std.proofs.Common.{◌≡◌, ℕ, zero, suc, ◌+◌, ◌<◌, ◌≤◌, Bool, true, false, List, [], ◌∷◌}
use Rattle.std.proofs.Common.{◌++◌, length, get_or, set, take, map, arith, refl, ap, sym, subst}
use Rattle.std.proofs.Common.{◌∙◌, inl, inr, length-set}
use Rattle.std.proofs.lemmas.Bool.{cases_eq}
use Rattle.std.proofs.lemmas.List.{take_more, take_all, get_or_past}
use Rattle.std.proofs.lemmas.List.Elements.{Contains-append_left, Contains-push}
use Rattle.std.proofs.lemmas.List.Elements.{Contains-push_cases}
use Rattle.std.proofs.lemmas.List.{get_or-take, length-take}
use Rattle.std.proofs.lemmas.Grind.{get_or_default_zero}
use Rattle.std.proofs.lemmas.List.Kept.{AllPairs-from_increasing}
use Rattle.std.specs.List.Sorted.{IsStrictlyIncreasing}
use Rattle.std.specs.List.{Contains}
use Rattle.gold_field.specs.declared.form.Term.{Term}
use Rattle.gold_field.specs.declared.form.Constraint.{Constraint}
use Rattle.cir_lc.specs.Substitution.{substitute}
use Rattle.cir_simplify.specs.Shape.{names_in}
use Rattle.cir_simplify.specs.Index.{row, held, empty, IsGood, IsNoted, IsPartly}
use Rattle.cir_simplify.proofs.Linear.{unnamed, empty_good}
use Rattle.cir_simplify.proofs.Noting.{row_set}

pub partly_none : (n x : ℕ) (by : List Term) (rows : List Constraint) (ns : List ℕ)
    → IsPartly n x by rows rows (take 0 ns)
partly_none n x by rows ns = record {
  same = refl;
  done = λ i c. absurd (omega (arith, c.1));
  others = λ i. inl refl;
  fresh = λ i c. refl;
}

-- one place more
pub partly_step : (n x : ℕ) (by : List Term) (before now new : List Constraint) (ns : List ℕ)
    (k i : ℕ) → k < length ns → i ≡ get_or ns k 0 → (Contains (take k ns) i → ⊥)
    → length new ≡ length now → row new i ≡ substitute n x by (row now i)
    → ((j : ℕ) → (j ≡ i → ⊥) → row new j ≡ row now j) → IsPartly n x by before now (take k ns)
    → IsPartly n x by before new (take (k + 1) ns)
partly_step n x by before now new ns k i l e f same here apart p = record {
  same = same ∙ p.same;
  done = λ j c.
      elim (Contains-push_cases (take k ns) i j (subst (λ (v : List ℕ). Contains v j) more c)) [
        | inl d ↦ elim (cases_eq j i) [
          | inl g ↦ absurd (f (subst (Contains (take k ns)) g d))
          | inr g ↦ apart j g ∙ p.done j d
        ]
        | inr g ↦ sym (ap (row new) g) ∙ made ∙ ap (λ (z : ℕ). substitute n x by (row before z)) g
      ];
  others = λ j.
      elim (cases_eq j i) [
        | inl g ↦
            inr (ap (row new) g ∙ made ∙ ap (λ (z : ℕ). substitute n x by (row before z)) (sym g))
        | inr g ↦ elim (p.others j) [ inl a ↦ inl (apart j g ∙ a) | inr a ↦ inr (apart j g ∙ a) ]
      ];
  fresh = λ j c.
      let other : j ≡ i
      → ⊥ = λ g. c
      (subst (λ (v : List ℕ). Contains v j) (sym more)
      (subst (Contains (take k ns ++ i ∷ [])) (sym g) (Contains-push (take k ns) i))) in
      apart j other
      ∙ p.fresh j
      (λ d. c (subst (λ (v : List ℕ). Contains v j) (sym more)
      (Contains-append_left (take k ns) (i ∷ []) j d)));
}
  where
    more : take (k + 1) ns ≡ take k ns ++ i ∷ []
    more = take_more ns k 0 l ∙ ap (λ (z : ℕ). take k ns ++ z ∷ []) (sym e)

    made : row new i ≡ substitute n x by (row before i)
    made = here ∙ ap (substitute n x by) (p.fresh i f)

pub partly_set : (n x : ℕ) (by : List Term) (before now new : List Constraint) (ns : List ℕ)
    (k i : ℕ) → k < length ns → i ≡ get_or ns k 0 → (Contains (take k ns) i → ⊥) → i < length now
    → new ≡ set now i (substitute n x by (row now i)) → IsPartly n x by before now (take k ns)
    → IsPartly n x by before new (take (k + 1) ns)
partly_set n x by before now new ns k i l e f inside is p =
    subst (λ (v : List Constraint). IsPartly n x by before v (take (k + 1) ns)) (sym is)
    (partly_step n x by before now (set now i (substitute n x by (row now i))) ns k i l e f
    (length-set now i (substitute n x by (row now i)))
    (elim (row_set now i (substitute n x by (row now i)) i inside) [
      | inl (a, b) ↦ b
      | inr (a, b) ↦
          absurd (a refl)
    ])
    (λ j g. elim (row_set now i (substitute n x by (row now i)) j inside) [
      | inl (a, b) ↦
          absurd (g a)
      | inr (a, b) ↦ b
    ]) p)

pub row_past : (rows : List Constraint) (i : ℕ) → length rows ≤ i → row rows i ≡ empty
row_past rows i l = get_or_past rows i empty l

pub partly_past : (n x : ℕ) (by : List Term) (before now : List Constraint) (ns : List ℕ) (k i : ℕ)
    → k < length ns → i ≡ get_or ns k 0 → (Contains (take k ns) i → ⊥) → length now ≤ i
    → IsPartly n x by before now (take k ns) → IsPartly n x by before now (take (k + 1) ns)
partly_past n x by before now ns k i l e f past p =
    partly_step n x by before now now ns k i l e f refl
    (row_past now i past ∙ sym (unnamed n x by empty (empty_good n) refl)
    ∙ ap (substitute n x by) (sym (row_past now i past))) (λ j g. refl) p

-- lists with equal elements
pub same_rows : (xs ys : List Constraint) → length xs ≡ length ys
    → ((i : ℕ) → i < length xs → row xs i ≡ row ys i) → xs ≡ ys
same_rows [] [] l h = refl
same_rows [] (y ∷ ys) l h = absurd (omega arith)
same_rows (x ∷ xs) [] l h = absurd (omega arith)
same_rows (x ∷ xs) (y ∷ ys) l h =
    ap (λ (z : Constraint). z ∷ xs) (h 0 (omega arith))
    ∙ ap (λ (zs : List Constraint). y ∷ zs)
    (same_rows xs ys (omega arith) (λ i q. h (suc i) (omega arith)))

pub row_map : (f : Constraint → Constraint) (rows : List Constraint) (i : ℕ) → i < length rows
    → row (map f rows) i ≡ f (row rows i)
row_map f [] i l = absurd (omega arith)
row_map f (k ∷ ks) zero l = refl
row_map f (k ∷ ks) (suc i) l = row_map f ks i (omega arith)

pub same_length : (f : Constraint → Constraint) (rows : List Constraint)
    → length (map f rows) ≡ length rows
same_length f [] = refl
same_length f (k ∷ ks) = omega (arith, same_length f ks)

-- all places that name the signal
pub partly_end : (n x : ℕ) (by : List Term) (before now : List Constraint) (holders : List (List ℕ))
    (ns : List ℕ) → ((i : ℕ) → IsGood n (row before i)) → IsNoted before holders
    → ((i : ℕ) → Contains (held holders x) i → Contains ns i) → IsPartly n x by before now ns
    → now ≡ map (substitute n x by) before
partly_end n x by before now holders ns g h all p =
    same_rows now (map (substitute n x by) before)
    (p.same ∙ sym (same_length (substitute n x by) before)) each
  where
    by_name : (i : ℕ) (b : Bool) → names_in x (row before i) ≡ b
        → row now i ≡ substitute n x by (row before i)
    by_name i true e = p.done i (all i (h i x e))
    by_name i false e =
        elim (p.others i) [ inl a ↦ a ∙ sym (unnamed n x by (row before i) (g i) e) | inr a ↦ a ]

    each : (i : ℕ) → i < length now → row now i ≡ row (map (substitute n x by) before) i
    each i l = by_name i (names_in x (row before i)) refl
        ∙ sym (row_map (substitute n x by) before i (omega (arith, p.same)))

-- a place that stands in a rising list stands there once
pub not_before : (ns : List ℕ) (k i : ℕ) → IsStrictlyIncreasing ns → k < length ns
    → i ≡ get_or ns k 0 → Contains (take k ns) i → ⊥
not_before ns k i h l e (a, b, c) =
    let inside : a < k = omega (arith, b, length-take k ns) in
    let there : get_or ns a i ≡ i = sym (get_or-take k ns a i inside) ∙ c in
    let less : get_or ns a i < get_or ns k i = AllPairs-from_increasing ns h a k i inside l in
    let here : get_or ns k i ≡ get_or ns k 0 = get_or_default_zero ns k i l in
    omega arith

pub partly_whole : (n x : ℕ) (by : List Term) (before now : List Constraint) (ns : List ℕ) (k : ℕ)
    → length ns ≤ k → IsPartly n x by before now (take k ns) → IsPartly n x by before now ns
partly_whole n x by before now ns k l p = subst (IsPartly n x by before now) (take_all k ns l) p
