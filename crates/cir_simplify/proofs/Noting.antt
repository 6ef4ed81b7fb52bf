-- One constraint in place of another, in the index.
use Rattle.std.proofs.Common.{◌≡◌, ℕ, ◌+◌, ◌<◌, ◌==◌, ◌||◌, Bool, true, false, List, [], ◌∷◌, ◌++◌}
use Rattle.std.proofs.Common.{length, get_or, set, take, IsSome, arith, refl, ap, sym, subst, ◌∙◌}
use Rattle.std.proofs.Common.{inl, inr, ◌⊎◌, length-set}
use Rattle.std.proofs.lemmas.Bool.{cases_eq, eqb-true}
use Rattle.std.proofs.lemmas.List.{get_or-set_same, get_or-set_other}
use Rattle.std.proofs.lemmas.List.Folds.{list_any_more}
use Rattle.std.proofs.lemmas.List.Sums.{sum_by-set}
use Rattle.std.proofs.lemmas.List.Elements.{Contains-append_left, Contains-push, All-get_or}
use Rattle.std.proofs.lemmas.List.Elements.{All-same}
use Rattle.std.specs.List.{Contains}
use Rattle.gold_field.specs.declared.form.Term.{Term}
use Rattle.gold_field.specs.declared.form.Constraint.{Constraint}
use Rattle.cir_lc.proofs.Forms.{IsNaming}
use Rattle.cir_simplify.specs.declared.types.Rules.{Rules}
use Rattle.cir_simplify.specs.declared.state.Ready.{Ready}
use Rattle.cir_simplify.specs.Shape.{names, names_in, pivot, terms_in}
use Rattle.cir_simplify.specs.Index.{row, held, empty, IsGood, IsIndexed, NotesForm, Notes, Queues}
use Rattle.cir_simplify.specs.Index.{IsWaiting}

pub or_cases : (a b : Bool) → a || b ≡ true → (a ≡ true) ⊎ (b ≡ true)
or_cases true b h = inl refl
or_cases false b h = inr h

or_left : (a b : Bool) → a ≡ true → a || b ≡ true
or_left true b h = refl
or_left false b h = cc

or_right : (a b : Bool) → b ≡ true → a || b ≡ true
or_right true b h = refl
or_right false b h = h

pub names_more : (x : ℕ) (ts : List Term) (i : ℕ) (t : Term) → i < length ts → t ≡ get_or ts i t
    → names x (take (i + 1) ts) ≡ (names x (take i ts) || (t.signal == x))
names_more x ts i t l e = list_any_more (λ (t : Term). t.signal == x) ts i t l
    ∙ ap (λ (u : Term). names x (take i ts) || (u.signal == x)) (sym e)

pub notes_none : (old new : List Term) (i : ℕ) (h : List (List ℕ))
    → NotesForm old (take 0 new) i h h
notes_none old new i h = record { same = refl; grows = λ x j c. c; notes = λ x e. cc }

-- one term more of the new form
pub notes_skip : (old new : List Term) (i n : ℕ) (h k : List (List ℕ)) (t : Term) → n < length new
    → t ≡ get_or new n t → names t.signal old ≡ true → NotesForm old (take n new) i h k
    → NotesForm old (take (n + 1) new) i h k
notes_skip old new i n h k t l g o f = record {
  same = f.same;
  grows = f.grows;
  notes = λ x e.
      elim (or_cases (names x (take n new)) (t.signal == x) (sym (names_more x new n t l g) ∙ e)) [
        | inl b ↦ f.notes x b
        | inr b ↦ inr (subst (λ (y : ℕ). names y old ≡ true) (eqb-true t.signal x b) o)
      ];
}

held_set : (k : List (List ℕ)) (x : ℕ) (v : List ℕ) (y : ℕ) → x < length k
    → ((y ≡ x) × (held (set k x v) y ≡ v)) ⊎ ((y ≡ x → ⊥) × (held (set k x v) y ≡ held k y))
held_set k x v y l =
    elim (cases_eq y x) [
      | inl e ↦ inl (e, ap (held (set k x v)) e ∙ get_or-set_same k x v [] l)
      | inr e ↦ inr (e, get_or-set_other k x y v [] e)
    ]

pushed : (k : List (List ℕ)) (x i j y : ℕ) → x < length k → Contains (held k y) j
    → Contains (held (set k x (held k x ++ i ∷ [])) y) j
pushed k x i j y l c =
    elim (held_set k x (held k x ++ i ∷ []) y l) [
      | inl (e, f) ↦
          let old : Contains (held k x) j = subst (λ (z : ℕ). Contains (held k z) j) e c in
          subst (λ (v : List ℕ). Contains v j) (sym f)
          (Contains-append_left (held k x) (i ∷ []) j old)
      | inr (e, f) ↦ subst (λ (v : List ℕ). Contains v j) (sym f) c
    ]

pub notes_push : (old new : List Term) (i n : ℕ) (h k m : List (List ℕ)) (t : Term) → n < length new
    → t ≡ get_or new n t → t.signal < length k → m ≡ set k t.signal (held k t.signal ++ i ∷ [])
    → NotesForm old (take n new) i h k → NotesForm old (take (n + 1) new) i h m
notes_push old new i n h k m t l g b e f = subst (NotesForm old (take (n + 1) new) i h) (sym e) now
  where
    now : NotesForm old (take (n + 1) new) i h (set k t.signal (held k t.signal ++ i ∷ []))
    now = record {
      same = length-set k t.signal (held k t.signal ++ i ∷ []) ∙ f.same;
      grows = λ x j c. pushed k t.signal i j x b (f.grows x j c);
      notes = λ x e.
          elim (or_cases (names x (take n new)) (t.signal == x) (sym (names_more x new n t l g)
          ∙ e)) [
            | inl d ↦
                elim (f.notes x d) [ inl c ↦ inl (pushed k t.signal i i x b c) | inr o ↦ inr o ]
            | inr d ↦
                let same : t.signal ≡ x = eqb-true t.signal x d in
                let here : held (set k t.signal (held k t.signal ++ i ∷ [])) t.signal
                ≡ held k t.signal ++ i ∷ [] =
                get_or-set_same k t.signal (held k t.signal ++ i ∷ []) [] b in
                inl (subst
                (λ (y : ℕ). Contains (held (set k t.signal (held k t.signal ++ i ∷ [])) y) i)
                same (subst (λ (v : List ℕ). Contains v i) (sym here)
                (Contains-push (held k t.signal) i)))
          ];
    }

-- the three forms of a constraint
pub notes_all : (old new : Constraint) (i : ℕ) (h j k m : List (List ℕ))
    → NotesForm old.a new.a i h j → NotesForm old.b new.b i j k → NotesForm old.c new.c i k m
    → Notes old new i h m
notes_all old new i h j k m a b c = record {
  same = c.same ∙ b.same ∙ a.same;
  grows = λ x p d. c.grows x p (b.grows x p (a.grows x p d));
  notes = λ x e.
      elim (or_cases (names x new.a || names x new.b) (names x new.c) e) [
        | inl ab ↦ elim (or_cases (names x new.a) (names x new.b) ab) [
          | inl d ↦ elim (a.notes x d) [
            | inl p ↦ inl (c.grows x i (b.grows x i p))
            | inr o ↦
                inr (or_left (names x old.a || names x old.b) (names x old.c)
                (or_left (names x old.a) (names x old.b) o))
          ]
          | inr d ↦ elim (b.notes x d) [
            | inl p ↦ inl (c.grows x i p)
            | inr o ↦
                inr (or_left (names x old.a || names x old.b) (names x old.c)
                (or_right (names x old.a) (names x old.b) o))
          ]
        ]
        | inr d ↦ elim (c.notes x d) [
          | inl p ↦ inl p
          | inr o ↦ inr (or_right (names x old.a || names x old.b) (names x old.c) o)
        ]
      ];
}

pub row_set : (rows : List Constraint) (i : ℕ) (q : Constraint) (j : ℕ) → i < length rows
    → ((j ≡ i) × (row (set rows i q) j ≡ q)) ⊎ ((j ≡ i → ⊥) × (row (set rows i q) j ≡ row rows j))
row_set rows i q j l =
    elim (cases_eq j i) [
      | inl e ↦ inl (e, ap (row (set rows i q)) e ∙ get_or-set_same rows i q empty l)
      | inr e ↦ inr (e, get_or-set_other rows i j q empty e)
    ]

pub set_indexed : (r : Rules) (rows : List Constraint) (i : ℕ) (q : Constraint)
    (h k : List (List ℕ)) (queue now : Ready) (count n : ℕ) → i < length rows
    → IsGood r.bound q → Notes (row rows i) q i h k → Queues r q i queue now
    → n + terms_in (row rows i) ≡ count + terms_in q → IsIndexed r rows h queue count
    → IsIndexed r (set rows i q) k now n
set_indexed r rows i q h k queue now count n l g f u c x = record {
  noted = λ j y e.
      elim (row_set rows i q j l) [
        | inl (same, is) ↦
            let here : names_in y q ≡ true = sym (ap (names_in y) is) ∙ e in
            let all : Contains (held k y) i =
            elim (f.notes y here) [ inl p ↦ p | inr o ↦ f.grows y i (x.noted i y o) ] in
            subst (λ (z : ℕ). Contains (held k y) z) (sym same) all
        | inr (apart, is) ↦ f.grows y j (x.noted j y (sym (ap (names_in y) is) ∙ e))
      ];
  ready = λ j e.
      elim (row_set rows i q j l) [
        | inl (same, is) ↦
            let here : IsSome (pivot r q) = subst (λ (z : Constraint). IsSome (pivot r z)) is e in
            subst (IsWaiting now) (sym same) (u.adds here)
        | inr (apart, is) ↦
            u.keeps j (x.ready j (subst (λ (z : Constraint). IsSome (pivot r z)) is e))
      ];
  counted = omega (arith, sum_by-set terms_in rows i q empty l, x.counted);
  good = λ j.
      elim (row_set rows i q j l) [
        | inl (same, is) ↦ subst (IsGood r.bound) (sym is) g
        | inr (apart, is) ↦ subst (IsGood r.bound) (sym is) (x.good j)
      ];
  signals = f.same ∙ x.signals;
}

pub naming_at : (n : ℕ) (ts us : List Term) (i : ℕ) (t : Term) → ts ≡ us → IsNaming n us
    → i < length ts → t ≡ get_or ts i t → t.signal < n
naming_at n ts us i t e w l g =
    let here : (get_or ts i t).signal < n =
    All-get_or (λ (t : Term). t.signal < n) ts i t l
    (All-same (λ (t : Term). t.signal < n) ts us e w) in
    omega (arith, here, ap (λ (x : Term). x.signal) g)
