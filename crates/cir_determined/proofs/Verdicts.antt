-- What the rules so far have shown, and the verdicts.
use Rattle.std.proofs.Common.{◌≡◌, ℕ, ◌+◌, ◌<◌, Bool, true, List, [], ◌∷◌}
use Rattle.std.proofs.Common.{◌++◌, map, length}
use Rattle.std.proofs.Common.{get_or, take, All, Option, Some, None, refl, ap, sym, ◌∙◌}
use Rattle.std.proofs.Common.{subst, ◌↔◌, IsTrue, ltb, Result, Ok, Err}
use Rattle.std.specs.Prelude.{slice_get, IfOk}
use Rattle.std.specs.Option.{option_map}
use Rattle.std.proofs.lemmas.Bool.{ltb-true}
use Rattle.std.proofs.lemmas.List.{take_more}
use Rattle.std.proofs.lemmas.Option.{slice_get-map, slice_get_read, slice_get-get_or}
use Rattle.gold_field.specs.declared.form.Constraint.{Constraint}
use Rattle.gold_field.specs.Form.{ConstraintBelow}
use Rattle.cir_determined.specs.declared.rule.Rule.{Rule}
use Rattle.cir_determined.specs.declared.rule.Confirm.TheVariants.{BadRule}
use Rattle.cir_determined.specs.declared.marks.Mark.{Mark}
use Rattle.cir_determined.specs.Circuit.{Circuit, in_normal_form, normalized}
use Rattle.cir_determined.specs.Marks.{Marks, opening, marks_of}
use Rattle.cir_determined.specs.Rules.{Applies, AppliesTo, shown, shown_at, shown_from, place_of}
use Rattle.cir_determined.specs.Certificate.{AllApply, shown_by, IsVerdict}

-- the rules apply one after the other to the normal form, and the list says what they have shown
pub record HasShown (c : Circuit) (rs : List Rule) (marks : List Mark) : Type 0 where
  pub apply : AllApply (in_normal_form c).constraints (opening (in_normal_form c)) rs
  pub marks_are : marks_of marks
      ≡ shown_by (in_normal_form c).constraints (opening (in_normal_form c)) rs
  pub long : length marks ≡ c.wires

apply_more : (ks : List Constraint) (m : Marks) (rs : List Rule) (r : Rule) → AllApply ks m rs
    → Applies ks (shown_by ks m rs) r → AllApply ks m (rs ++ r ∷ [])
apply_more ks m [] r a h = (h, tt)
apply_more ks m (q ∷ rs) r a h = (a.0, apply_more ks (shown ks m q) rs r a.1 h)

shown_more : (ks : List Constraint) (m : Marks) (rs : List Rule) (r : Rule)
    → shown_by ks m (rs ++ r ∷ []) ≡ shown ks (shown_by ks m rs) r
shown_more ks m [] r = refl
shown_more ks m (q ∷ rs) r = shown_more ks (shown ks m q) rs r

pub rule_more : (c : Circuit) (rs : List Rule) (i : ℕ) (d : Rule) (marks new : List Mark)
    → i < length rs → HasShown c (take i rs) marks
    → Applies (in_normal_form c).constraints (marks_of marks) (get_or rs i d)
    → marks_of new ≡ shown (in_normal_form c).constraints (marks_of marks) (get_or rs i d)
    → length new ≡ length marks → HasShown c (take (i + 1) rs) new
rule_more c rs i d marks new l h a s long =
    subst (λ (qs : List Rule). HasShown c qs new) (sym (take_more rs i d l)) (record {
      apply = apply_more (in_normal_form c).constraints (opening (in_normal_form c)) (take i rs)
          (get_or rs i d) h.apply
          (subst (λ (m : Marks). Applies (in_normal_form c).constraints m (get_or rs i d))
          h.marks_are a);
      marks_are = s
          ∙ ap (λ (m : Marks). shown (in_normal_form c).constraints m (get_or rs i d)) h.marks_are
          ∙ sym (shown_more (in_normal_form c).constraints (opening (in_normal_form c)) (take i rs)
          (get_or rs i d));
      long = long ∙ h.long;
    })

-- the verdicts
pub bad_rule : (c : Circuit) (rs : List Rule) (i : ℕ) (d : Rule) (marks : List Mark) (index : ℕ)
    → index ≡ i → i < length rs → HasShown c (take i rs) marks
    → (Applies (in_normal_form c).constraints (marks_of marks) (get_or rs i d) → ⊥)
    → IsVerdict (in_normal_form c) rs (BadRule index)
bad_rule c rs i d marks index same l h a =
    subst (λ (j : ℕ). IsVerdict (in_normal_form c) rs (BadRule j)) (sym same) (record {
      rule = get_or rs i d;
      there = slice_get-get_or rs i d l;
      before = h.apply;
      not_here = λ b. a (subst
          (λ (m : Marks). Applies (in_normal_form c).constraints m (get_or rs i d))
          (sym h.marks_are) b);
    })

-- the same rule for the same constraints and marks
pub applies_same : (ks : List Constraint) (n j : ℕ) (xs ys : List Mark) (r : Rule) → n ≡ j → xs ≡ ys
    → Applies (map (normalized n) ks) (marks_of xs) r
    → Applies (map (normalized j) ks) (marks_of ys) r
applies_same ks n j xs ys r e f a =
    subst (λ (zs : List Mark). Applies (map (normalized j) ks) (marks_of zs) r) f
    (subst (λ (i : ℕ). Applies (map (normalized i) ks) (marks_of xs) r) e a)

pub shown_same : (ks : List Constraint) (n j : ℕ) (xs ys : List Mark) (r : Rule) → n ≡ j → xs ≡ ys
    → shown (map (normalized n) ks) (marks_of xs) r ≡ shown (map (normalized j) ks) (marks_of ys) r
shown_same ks n j xs ys r e f =
    ap (λ (i : ℕ). shown (map (normalized i) ks) (marks_of xs) r) e
    ∙ ap (λ (zs : List Mark). shown (map (normalized j) ks) (marks_of zs) r) f

pub ok_weaker : {T E : Type 0} (P Q : T → Type 0) → ((v : T) → P v → Q v) → (r : Result T E)
    → IfOk r P → IfOk r Q
ok_weaker P Q f (Ok v) h = f v h
ok_weaker P Q f (Err e) h = h

-- the constraint that was read
pub found : (ks : List Constraint) (p : ℕ) (r : Rule) (k : Constraint) → p ≡ place_of r
    → true ≡ ltb p (length ks) → k ≡ get_or ks p k → slice_get ks (place_of r) ≡ Some k
found ks p r k e l f =
    ap (slice_get ks) (sym e)
    ∙ slice_get_read ks (length ks) p k refl (ltb-true p (length ks) (sym l)) f

pub below_at : (n : ℕ) (ks : List Constraint) (p : ℕ) (k : Constraint)
    → All (ConstraintBelow n) ks → true ≡ ltb p (length ks) → k ≡ get_or ks p k
    → ConstraintBelow n k
below_at n ks p k h l f =
    subst (ConstraintBelow n) (sym f) (h p k (ltb-true p (length ks) (sym l)))

-- a rule at its place
pub at_place : (n : ℕ) (ks : List Constraint) (r : Rule) (k : Constraint)
    → slice_get ks (place_of r) ≡ Some k
    → slice_get (map (normalized n) ks) (place_of r) ≡ Some (normalized n k)
at_place n ks r k e =
    slice_get-map (normalized n) ks (place_of r) ∙ ap (option_map (normalized n)) e

pub nothing_at : (n : ℕ) (ks : List Constraint) (r : Rule) (m : Marks)
    → slice_get ks (place_of r) ≡ None → Applies (map (normalized n) ks) m r → ⊥
nothing_at n ks r m e a =
    subst (λ (o : Option Constraint). AppliesTo o m r)
    (slice_get-map (normalized n) ks (place_of r) ∙ ap (option_map (normalized n)) e) a

pub applies_at : (n : ℕ) (ks : List Constraint) (r : Rule) (m : Marks) (k j : Constraint) (b : Bool)
    → slice_get ks (place_of r) ≡ Some k → j ≡ normalized n k
    → IsTrue b ↔ AppliesTo (Some j) m r → IsTrue b ↔ Applies (map (normalized n) ks) m r
applies_at n ks r m k j b e f h =
    subst (λ (o : Option Constraint). IsTrue b ↔ AppliesTo o m r)
    (ap (λ (x : Constraint). Some x) f ∙ sym (at_place n ks r k e)) h

pub shown_at_place : (n : ℕ) (ks : List Constraint) (r : Rule) (m new : Marks) (k j : Constraint)
    → slice_get ks (place_of r) ≡ Some k → j ≡ normalized n k → new ≡ shown_at j m r
    → new ≡ shown (map (normalized n) ks) m r
shown_at_place n ks r m new k j e f h =
    h ∙ ap (λ (o : Option Constraint). shown_from o m r)
    (ap (λ (x : Constraint). Some x) f ∙ sym (at_place n ks r k e))
