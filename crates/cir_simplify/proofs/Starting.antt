-- The index of a list.
use Rattle.std.proofs.Common.{◌≡◌, ℕ, zero, suc, ◌+◌, ◌<◌, ◌&&◌, nat_le, Bool, true, false, cond}
use Rattle.std.proofs.Common.{List, [], ◌∷◌, ◌++◌, length, sum_by, set, get_or, All, Option, Some}
use Rattle.std.proofs.Common.{None, IsSome, arith, refl, ap, sym, subst, ◌∙◌, inl, inr}
use Rattle.std.proofs.Common.{length-append}
use Rattle.std.proofs.lemmas.List.Sums.{sum_by-cons}
use Rattle.gold_field.specs.declared.form.Term.{Term}
use Rattle.gold_field.specs.declared.form.Constraint.{Constraint}
use Rattle.cir_lc.specs.Normal.{IsConstraintWithin}
use Rattle.cir_lc.specs.Sparse.{IsNormalForm, IsRising}
use Rattle.cir_simplify.specs.declared.types.Rules.{Rules}
use Rattle.cir_simplify.specs.declared.state.Ready.{Ready}
use Rattle.cir_simplify.specs.Shape.{names_in, pivot, terms_in, fits}
use Rattle.cir_simplify.specs.Index.{row, empty, IsGood, IsIndexed}
use Rattle.cir_simplify.proofs.Linear.{empty_good}
use Rattle.cir_simplify.proofs.Noting.{row_set}

row_last : (xs : List Constraint) (x : Constraint) → x ≡ empty → ((i : ℕ) → row xs i ≡ empty)
    → (i : ℕ) → row (xs ++ x ∷ []) i ≡ empty
row_last [] x e h zero = e
row_last [] x e h (suc i) = refl
row_last (k ∷ ks) x e h zero = h 0
row_last (k ∷ ks) x e h (suc i) = row_last ks x e (λ j. h (suc j)) i

pub row_more : (xs ys : List Constraint) (x : Constraint) → ys ≡ xs ++ x ∷ [] → x ≡ empty
    → ((i : ℕ) → row xs i ≡ empty) → (i : ℕ) → row ys i ≡ empty
row_more xs ys x e f h i = ap (λ (v : List Constraint). row v i) e ∙ row_last xs x f h i

pub length_more : (xs ys : List Constraint) (x : Constraint) (n : ℕ) → ys ≡ xs ++ x ∷ []
    → length xs ≡ n → length ys ≡ n + 1
length_more xs ys x n e h =
    ap (λ (v : List Constraint). length v) e ∙ length-append xs (x ∷ []) ∙ ap (λ (m : ℕ). m + 1) h

either_same : (b : Bool) (o : Option Term) → cond b o o ≡ o
either_same true o = refl
either_same false o = refl

pub pivot_empty : (r : Rules) → pivot r empty ≡ None
pivot_empty r = either_same (nat_le 0 1024 && fits r.level []) None

pub some_none : (o : Option Term) → o ≡ None → IsSome o → ⊥
some_none None e h = cc
some_none (Some t) e h = cc

sum_empty : (rows : List Constraint) → ((i : ℕ) → row rows i ≡ empty) → sum_by terms_in rows ≡ 0
sum_empty [] h = refl
sum_empty (k ∷ ks) h =
    sum_by-cons terms_in k ks ∙ omega (arith, ap terms_in (h 0), sum_empty ks (λ i. h (suc i)))

pub blank_indexed : (r : Rules) (rows : List Constraint) (holders : List (List ℕ))
    (queue : Ready) → queue.next ≡ 0 → ((i : ℕ) → row rows i ≡ empty) → length holders ≡ r.bound
    → IsIndexed r rows holders queue 0
blank_indexed r rows holders queue z h l = record {
  noted = λ i x e. let none : names_in x (row rows i) ≡ false = ap (names_in x) (h i) in cc;
  ready = λ i e. inl (omega (arith, z));
  counted = sym (sum_empty rows h);
  good = λ i. subst (IsGood r.bound) (sym (h i)) (empty_good r.bound);
  signals = l;
}

-- a copy of a constraint of the list
pub good_copy : (n : ℕ) (list : List Constraint) (i : ℕ) (x q : Constraint) → x ≡ get_or list i x
    → q ≡ x → i < length list → All (λ k. IsNormalForm k) list
    → All (λ k. IsConstraintWithin n k) list → IsRising q → IsGood n q
good_copy n list i x q e f l a b h =
    let g : get_or list i x ≡ q = sym e ∙ sym f in
    record {
      normal = subst (λ (k : Constraint). IsNormalForm k) g (a i x l);
      rises = h;
      within =
          subst (IsConstraintWithin n) g (b i x l);
    }

-- one more is copied
pub copied_more : (now new list : List Constraint) (i : ℕ) (q : Constraint) → i < length now
    → new ≡ set now i q → q ≡ row list i → ((j : ℕ) → j < i → row now j ≡ row list j) → (j : ℕ)
    → j < i + 1 → row new j ≡ row list j
copied_more now new list i q l e f h j k =
    ap (λ (v : List Constraint). row v j) e
    ∙ elim (row_set now i q j l) [
      | inl (same, is) ↦ is ∙ f ∙ ap (row list) (sym same)
      | inr (apart, is) ↦ is ∙ h j (omega arith)
    ]
