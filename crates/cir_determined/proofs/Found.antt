-- What a search has found so far.
use Rattle.std.proofs.Common.{◌≡◌, ℕ, ◌+◌, ◌*◌, ◌<◌, ◌≤◌, ◌||◌, ◌==◌, ◌⊎◌, Bool, true, false, List}
use Rattle.std.proofs.Common.{[], ◌∷◌}
use Rattle.std.proofs.Common.{◌++◌, map, length, All, Option, Some, None, arith, refl, ap, sym, ◌∙◌}
use Rattle.std.proofs.Common.{inl, inr, subst, append_assoc, length-append}
use Rattle.std.specs.Prelude.{slice_get}
use Rattle.std.proofs.lemmas.Bool.{cases_lt, eqb-true, or_cases, or_right, false≢true}
use Rattle.std.proofs.lemmas.List.{append-nil}
use Rattle.std.proofs.lemmas.Option.{slice_get_past}
use Rattle.std.proofs.lemmas.List.Elements.{All-nil, All-head, All-tail, All-map, All-weaker}
use Rattle.gold_field.specs.declared.form.Term.{Term}
use Rattle.gold_field.specs.declared.form.Constraint.{Constraint}
use Rattle.gold_field.specs.Form.{SignalsBelow, ConstraintBelow}
use Rattle.cir_lc.specs.Normal.{constant_of, kept_of}
use Rattle.cir_lc.proofs.Forms.{naming_within}
use Rattle.cir_determined.specs.declared.rule.Rule.{Rule}
use Rattle.cir_determined.specs.declared.marks.Mark.{Mark}
use Rattle.cir_determined.specs.Circuit.{Circuit, in_normal_form, normalized}
use Rattle.cir_determined.specs.Marks.{Marks, opening, marks_of}
use Rattle.cir_determined.specs.Rules.{Applies, AppliesTo, shown, shown_from, place_of}
use Rattle.cir_determined.specs.Rules.{Solves, SaysBoolean, ShowsBoolean, IsMultiple}
use Rattle.cir_determined.specs.Rules.{IsMultipleLessOne, is_named}
use Rattle.cir_determined.specs.Certificate.{AllApply, shown_by, IsClosed, IsCertificate}
use Rattle.cir_determined.specs.Certificate.{IsLeastUnshown}
use Rattle.cir_determined.specs.Search.{Visits, AddsRules}
use Rattle.cir_determined.proofs.Closed.{closed_knows}
use Rattle.cir_determined.proofs.Counting.{few_rules}
use Rattle.cir_determined.proofs.Normals.{normalized-within}
use Rattle.cir_determined.proofs.Verdicts.{HasShown}

-- the places below i were visited: where nothing was added, no rule applies there
pub record HasSwept (ks : List Constraint) (i : ℕ) (m n : Marks) (old new : List Rule)
    (more : Bool) : Type 0 where
  pub steps : AddsRules ks m n old new
  pub longer : more ≡ true → length old < length new
  pub none : more ≡ false → (r : Rule) → place_of r < i → Applies ks n r → ⊥
  pub same : more ≡ false → n ≡ m

apply_append : (ks : List Constraint) (m : Marks) (rs qs : List Rule) → AllApply ks m rs
    → AllApply ks (shown_by ks m rs) qs → AllApply ks m (rs ++ qs)
apply_append ks m [] qs a b = b
apply_append ks m (r ∷ rs) qs a b = (a.0, apply_append ks (shown ks m r) rs qs a.1 b)

shown_append : (ks : List Constraint) (m : Marks) (rs qs : List Rule)
    → shown_by ks m (rs ++ qs) ≡ shown_by ks (shown_by ks m rs) qs
shown_append ks m [] qs = refl
shown_append ks m (r ∷ rs) qs = shown_append ks (shown ks m r) rs qs

pub swept_none : (ks : List Constraint) (m : Marks) (old : List Rule)
    → HasSwept ks 0 m m old old false
swept_none ks m old = record {
  steps = record {
    added = [];
    rules_are = sym (append-nil old);
    apply = tt;
    marks_are = refl;
  };
  longer = λ e. absurd (false≢true e);
  none = λ e r l. absurd (omega arith);
  same = λ e. refl;
}

-- a rule more
pub added_more : (ks : List Constraint) (m n k : Marks) (old mid new : List Rule) (r : Rule)
    → AddsRules ks m n old mid → Applies ks n r → k ≡ shown ks n r → new ≡ mid ++ r ∷ []
    → AddsRules ks m k old new
added_more ks m n k old mid new r h a e f = record {
  added = h.added ++ r ∷ [];
  rules_are = f ∙ ap (λ (xs : List Rule). xs ++ r ∷ []) h.rules_are
      ∙ append_assoc old h.added (r ∷ []);
  apply = apply_append ks m h.added (r ∷ []) h.apply
      (subst (λ (x : Marks). Applies ks x r) h.marks_are a, tt);
  marks_are = e ∙ ap (λ (x : Marks). shown ks x r) h.marks_are
      ∙ sym (shown_append ks m h.added (r ∷ []));
}

pub swept_more : (ks : List Constraint) (i : ℕ) (m n k : Marks) (old mid new : List Rule)
    (more taken : Bool) (c : Constraint) → slice_get ks i ≡ Some c
    → HasSwept ks i m n old mid more → Visits c i n k mid new taken
    → HasSwept ks (i + 1) m k old new (more || taken)
swept_more ks i m n k old mid new more true c e h v = record {
  steps = added_more ks m n k old mid new v.rule h.steps
      (subst (λ (o : Option Constraint). AppliesTo o n v.rule)
      (sym e ∙ ap (slice_get ks) (sym v.at)) v.applies)
      (v.marks_are ∙ ap (λ (o : Option Constraint). shown_from o n v.rule)
      (sym e ∙ ap (slice_get ks) (sym v.at)))
      v.rules_are;
  longer = λ _. omega (
    arith,
    ap length v.rules_are,
    length-append mid (v.rule ∷ []),
    ap length h.steps.rules_are,
    length-append old h.steps.added,
  );
  none = λ q. absurd (false≢true (sym q ∙ or_right more true refl));
  same = λ q. absurd (false≢true (sym q ∙ or_right more true refl));
}
swept_more ks i m n k old mid new true false c e h v = record {
  steps = record {
    added = h.steps.added;
    rules_are = v.rules_are ∙ h.steps.rules_are;
    apply = h.steps.apply;
    marks_are = v.marks_are ∙ h.steps.marks_are;
  };
  longer = λ q. omega (arith, h.longer refl, ap length v.rules_are);
  none = λ q. absurd (false≢true (sym q));
  same = λ q. absurd (false≢true (sym q));
}
swept_more ks i m n k old mid new false false c e h v = record {
  steps = record {
    added = h.steps.added;
    rules_are = v.rules_are ∙ h.steps.rules_are;
    apply = h.steps.apply;
    marks_are = v.marks_are ∙ h.steps.marks_are;
  };
  longer = λ q. absurd (false≢true q);
  none = λ q r l a. at r l (subst (λ (x : Marks). Applies ks x r) v.marks_are a);
  same = λ q. v.marks_are ∙ h.same refl;
}
  where
    at : (r : Rule) → place_of r < i + 1 → Applies ks n r → ⊥
    at r l a =
        elim (cases_lt (place_of r) i) [
          | inl s ↦ h.none refl r s a
          | inr s ↦
              let same : place_of r ≡ i = omega arith in
              v.none r same (subst (λ (o : Option Constraint). AppliesTo o n r)
              (ap (slice_get ks) same ∙ e) a)
        ]

pub swept_closed : (ks : List Constraint) (i : ℕ) (m n : Marks) (old new : List Rule) (more : Bool)
    → length ks ≤ i → HasSwept ks i m n old new more → more ≡ false → IsClosed ks n
swept_closed ks i m n old new more l h e r a =
    elim (cases_lt (place_of r) (length ks)) [
      | inl s ↦ h.none e r (omega arith) a
      | inr s ↦
          absurd (subst (λ (o : Option Constraint). AppliesTo o n r)
          (slice_get_past ks (place_of r) s) a)
    ]

-- the rules of a sweep behind those before it
pub shown_further : (c : Circuit) (rs qs : List Rule) (marks new : List Mark) → HasShown c rs marks
    → AddsRules (in_normal_form c).constraints (marks_of marks) (marks_of new) rs qs
    → length new ≡ length marks → HasShown c qs new
shown_further c rs qs marks new h a l =
    subst (λ (xs : List Rule). HasShown c xs new) (sym a.rules_are) (record {
      apply = apply_append (in_normal_form c).constraints (opening (in_normal_form c)) rs a.added
          h.apply
          (subst (λ (x : Marks). AllApply (in_normal_form c).constraints x a.added) h.marks_are
          a.apply);
      marks_are = a.marks_are
          ∙ ap (λ (x : Marks). shown_by (in_normal_form c).constraints x a.added) h.marks_are
          ∙ sym (shown_append (in_normal_form c).constraints (opening (in_normal_form c)) rs
          a.added);
      long = l ∙ h.long;
    })

-- the answers
pub all_known : (c : Circuit) (rs : List Rule) (marks : List Mark) → HasShown c rs marks
    → ((w : ℕ) → 1 ≤ w → w ≤ c.outputs → (marks_of marks).known w ≡ true)
    → IsCertificate (in_normal_form c) rs
all_known c rs marks h all = record {
  apply = h.apply;
  outputs = λ w o. sym (ap (λ (m : Marks). m.known w) h.marks_are) ∙ all w o.0 o.1;
}

pub least_unshown : (c : Circuit) (rs : List Rule) (marks : List Mark) (wire : ℕ)
    → HasShown c rs marks → IsClosed (in_normal_form c).constraints (marks_of marks) → 1 ≤ wire
    → wire ≤ c.outputs → (marks_of marks).known wire ≡ false
    → ((w : ℕ) → 1 ≤ w → w < wire → (marks_of marks).known w ≡ true)
    → IsLeastUnshown (in_normal_form c) wire
least_unshown c rs marks wire h closed low high unknown least = record {
  output = (low, high);
  never = λ s. false≢true (sym unknown ∙ ap (λ (m : Marks). m.known wire) h.marks_are
      ∙ closed_knows (in_normal_form c).constraints (opening (in_normal_form c)) s.rules rs s.apply
      h.apply
      (subst (λ (m : Marks). IsClosed (in_normal_form c).constraints m) h.marks_are closed) wire
      s.known);
  least = λ w o l. record {
    rules = rs;
    apply = h.apply;
    known = sym (ap (λ (m : Marks). m.known w) h.marks_are) ∙ least w o.0 l;
  };
}

-- what holds of each wire of the terms holds of one that is named
pub named_all : (Q : ℕ → Type 0) (us : List Term) (w : ℕ) → All (λ t. Q t.signal) us
    → is_named w us ≡ true → Q w
named_all Q [] w h e = absurd (false≢true e)
named_all Q (t ∷ us) w h e =
    elim (or_cases (t.signal == w) (is_named w us) e) [
      | inl a ↦ subst Q (eqb-true t.signal w a) (All-head (λ (t : Term). Q t.signal) t us h)
      | inr b ↦ named_all Q us w (All-tail (λ (t : Term). Q t.signal) t us h) b
    ]

pub no_solve : (m : Marks) (k : Constraint) (w : ℕ) → All (λ t. m.known t.signal ≡ true) k.c
    → Solves m k w → ⊥
no_solve m k w h s =
    false≢true (sym s.fresh ∙ named_all (λ (v : ℕ). m.known v ≡ true) k.c w h s.named)

-- only the unknown wire can be solved for
pub solve_here : (m : Marks) (k : Constraint) (w v : ℕ) → is_named v k.c ≡ true
    → m.known v ≡ false → Solves m k w → Solves m k v
solve_here m k w v named unknown s =
    by (named_all (λ (x : ℕ). (x ≡ w) ⊎ (m.known x ≡ true)) k.c v s.rest named)
  where
    by : (v ≡ w) ⊎ (m.known v ≡ true) → Solves m k v
    by (inl e) = subst (Solves m k) (sym e) s
    by (inr e) = absurd (false≢true (sym unknown ∙ e))

pub left_form : (k : Constraint) (w : ℕ) → SaysBoolean k w
    → IsMultiple w k.a ⊎ IsMultipleLessOne w k.a
left_form k w s = by s.factors
  where
    by : (IsMultiple w k.a × IsMultipleLessOne w k.b) ⊎ (IsMultipleLessOne w k.a × IsMultiple w k.b)
        → IsMultiple w k.a ⊎ IsMultipleLessOne w k.a
    by (inl f) = inl f.0
    by (inr f) = inr f.0

some_same : (v w : ℕ) → Some v ≡ Some w → v ≡ w
some_same v w e = cc

pub boolean_here : (m : Marks) (k : Constraint) (w v : ℕ) → Some v ≡ Some w
    → ShowsBoolean m k w → ShowsBoolean m k v
boolean_here m k w v e s = subst (ShowsBoolean m k) (sym (some_same v w e)) s

-- the same rules for the same constraints and marks
pub adds_same : (ks : List Constraint) (n j : ℕ) (xs ys : List Mark) (m : Marks)
    (old new : List Rule) → n ≡ j → xs ≡ ys
    → AddsRules (map (normalized n) ks) (marks_of xs) m old new
    → AddsRules (map (normalized j) ks) (marks_of ys) m old new
adds_same ks n j xs ys m old new e f a =
    subst (λ (zs : List Mark). AddsRules (map (normalized j) ks) (marks_of zs) m old new) f
    (subst (λ (i : ℕ). AddsRules (map (normalized i) ks) (marks_of xs) m old new) e a)

-- normal forms name no other wires
kept_below : (n : ℕ) (o p : Option ℕ) (ts : List Term) → SignalsBelow n ts
    → SignalsBelow n (kept_of o p ts)
kept_below n None None ts h = h
kept_below n None (Some k) ts h = All-nil (λ (t : Term). t.signal < n)
kept_below n (Some k) p ts h = All-nil (λ (t : Term). t.signal < n)

normal_below : (n : ℕ) (k : Constraint) → ConstraintBelow n k → ConstraintBelow n (normalized n k)
normal_below n k h = record {
  a = kept_below n (constant_of k.a) (constant_of k.b) k.a h.a;
  b = kept_below n (constant_of k.a) (constant_of k.b) k.b h.b;
  c = naming_within n (normalized n k).c (normalized-within n k h);
}

pub few_shown : (c : Circuit) (rs : List Rule) (marks : List Mark)
    → All (ConstraintBelow c.wires) c.constraints → HasShown c rs marks
    → length rs ≤ 2 * c.wires
few_shown c rs marks h s =
    few_rules c.wires (in_normal_form c).constraints (opening (in_normal_form c)) rs
    (All-map (ConstraintBelow c.wires) (normalized c.wires) c.constraints
    (All-weaker (ConstraintBelow c.wires)
    (λ (k : Constraint). ConstraintBelow c.wires (normalized c.wires k)) (normal_below c.wires)
    c.constraints h)) s.apply

-- a look at a place
pub adds_none : (ks : List Constraint) (m : Marks) (rs : List Rule) → AddsRules ks m m rs rs
adds_none ks m rs = (swept_none ks m rs).steps

pub adds_visit : (ks : List Constraint) (i : ℕ) (m k : Marks) (old new : List Rule) (taken : Bool)
    (c : Constraint) → slice_get ks i ≡ Some c → Visits c i m k old new taken
    → AddsRules ks m k old new
adds_visit ks i m k old new true c e v =
    added_more ks m m k old old new v.rule (adds_none ks m old)
    (subst (λ (o : Option Constraint). AppliesTo o m v.rule)
    (sym e ∙ ap (slice_get ks) (sym v.at)) v.applies)
    (v.marks_are ∙ ap (λ (o : Option Constraint). shown_from o m v.rule)
    (sym e ∙ ap (slice_get ks) (sym v.at))) v.rules_are
adds_visit ks i m k old new false c e v =
    subst (λ (x : Marks). AddsRules ks m x old new) (sym v.marks_are)
    (subst (λ (xs : List Rule). AddsRules ks m m old xs) (sym v.rules_are) (adds_none ks m old))

-- rules behind rules
pub adds_further : (ks : List Constraint) (m n k : Marks) (old mid new : List Rule)
    → AddsRules ks m n old mid → AddsRules ks n k mid new → AddsRules ks m k old new
adds_further ks m n k old mid new h g = record {
  added = h.added ++ g.added;
  rules_are = g.rules_are ∙ ap (λ (xs : List Rule). xs ++ g.added) h.rules_are
      ∙ append_assoc old h.added g.added;
  apply = apply_append ks m h.added g.added h.apply
      (subst (λ (x : Marks). AllApply ks x g.added) h.marks_are g.apply);
  marks_are = g.marks_are ∙ ap (λ (x : Marks). shown_by ks x g.added) h.marks_are
      ∙ sym (shown_append ks m h.added g.added);
}
