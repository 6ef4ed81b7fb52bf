-- Lists of marks, and walks over terms.
use Rattle.std.proofs.Common.{◌≡◌, ◌⊎◌, ℕ, zero, suc, ◌+◌, ◌<◌, ◌≤◌, ◌==◌, ◌||◌, ◌&&◌, nat_lt}
use Rattle.std.proofs.Common.{nat_le, Bool, true, false}
use Rattle.std.proofs.Common.{not, cond, List, [], ◌∷◌, ◌++◌, map, length, get_or, take, All}
use Rattle.std.proofs.Common.{arith, refl, ap, sym, ◌∙◌, inl, inr, subst}
use Rattle.std.proofs.lemmas.Bool.{cases_Bool, eqb-true, eqb-false, eq-eqb}
use Rattle.std.proofs.lemmas.Bool.{ne_eqb}
use Rattle.std.proofs.lemmas.Bool.{false≢true}
use Rattle.std.proofs.lemmas.List.{append-nil, take_all, take_more}
use Rattle.std.proofs.lemmas.List.{map-append}
use Rattle.std.proofs.lemmas.List.Elements.{filter-append}
use Rattle.std.proofs.lemmas.List.Elements.{All-head, All-tail, All-push}
use Rattle.std.proofs.lemmas.List.Folds.{list_any-append}
use Rattle.gold_field.specs.declared.form.Term.{Term}
use Rattle.cir_determined.specs.declared.marks.Mark.{Mark}
use Rattle.cir_determined.specs.Marks.{Marks, no_mark}
use Rattle.cir_determined.specs.Rules.{is_named, unknown, unknown_coefs, with_known}
use Rattle.cir_determined.specs.Rules.{with_all_known}

-- marks are the same where they agree at each wire
pub same_marks : (m n : Marks) → ((w : ℕ) → m.known w ≡ n.known w)
    → ((w : ℕ) → m.boolean w ≡ n.boolean w) → m ≡ n
same_marks m n e f = λ i. record { known = λ w. e w i; boolean = λ w. f w i }

-- the first wires have the marks of the opening
pub record AreOpening (last_output last_input n : ℕ) (marks : List Mark) : Type 0 where
  pub long : length marks ≡ n
  pub known : (w : ℕ) → w < n → (get_or marks w no_mark).known
      ≡ ((w == 0) || (nat_lt last_output w && nat_le w last_input))
  pub boolean : (w : ℕ) → w < n → (get_or marks w no_mark).boolean ≡ false

-- one more term whose wire is marked
or_turned : (a b c : Bool) → (a || (b || c)) ≡ ((b || (a || false)) || c)
or_turned true true c = refl
or_turned true false c = refl
or_turned false true c = refl
or_turned false false c = refl

pub all_known_more : (us : List Term) (t : Term) (m : Marks)
    → with_known t.signal (with_all_known us m) ≡ with_all_known (us ++ t ∷ []) m
all_known_more us t m =
    same_marks (with_known t.signal (with_all_known us m)) (with_all_known (us ++ t ∷ []) m) known
    (λ w. refl)
  where
    turned : (w : ℕ) (a : Bool) → (w == t.signal) ≡ (t.signal == w)
    turned w a =
        elim (cases_Bool (t.signal == w)) [
          | inl e ↦ eq-eqb w t.signal (sym (eqb-true t.signal w e)) ∙ sym e
          | inr e ↦ ne_eqb w t.signal (λ q. eqb-false t.signal w e (sym q)) ∙ sym e
        ]

    known : (w : ℕ) → ((w == t.signal) || (is_named w us || m.known w))
        ≡ (is_named w (us ++ t ∷ []) || m.known w)
    known w =
        ap (λ (b : Bool). b || (is_named w us || m.known w)) (turned w true)
        ∙ or_turned (t.signal == w) (is_named w us) (m.known w)
        ∙ sym (ap (λ (b : Bool). b || m.known w)
        (list_any-append (λ (u : Term). u.signal == w) us (t ∷ [])))

-- the unknown terms, one by one
abbrev pub AreBoolean : Marks → List Term → Type 0
AreBoolean m us = All (λ t. m.boolean t.signal ≡ true) us

unknown_last : (m : Marks) (us : List Term) (t : Term) → unknown m (us ++ t ∷ [])
    ≡ unknown m us ++ cond (not (m.known t.signal)) (t ∷ []) []
unknown_last m us t = filter-append (λ (u : Term). not (m.known u.signal)) us (t ∷ [])

pub unknown_known : (m : Marks) (us : List Term) (t : Term) → m.known t.signal ≡ true
    → unknown m (us ++ t ∷ []) ≡ unknown m us
unknown_known m us t e =
    unknown_last m us t ∙ ap (λ (b : Bool). unknown m us ++ cond (not b) (t ∷ []) []) e
    ∙ append-nil (unknown m us)

pub unknown_more : (m : Marks) (us : List Term) (t : Term) → m.known t.signal ≡ false
    → unknown m (us ++ t ∷ []) ≡ unknown m us ++ t ∷ []
unknown_more m us t e =
    unknown_last m us t ∙ ap (λ (b : Bool). unknown m us ++ cond (not b) (t ∷ []) []) e

pub coefs_known : (m : Marks) (us : List Term) (t : Term) → m.known t.signal ≡ true
    → unknown_coefs m (us ++ t ∷ []) ≡ unknown_coefs m us
coefs_known m us t e = ap (λ (vs : List Term). map (λ u. u.coef) vs) (unknown_known m us t e)

pub coefs_more : (m : Marks) (us : List Term) (t : Term) → m.known t.signal ≡ false
    → unknown_coefs m (us ++ t ∷ []) ≡ unknown_coefs m us ++ t.coef ∷ []
coefs_more m us t e =
    ap (λ (vs : List Term). map (λ u. u.coef) vs) (unknown_more m us t e)
    ∙ map-append (λ (u : Term). u.coef) (unknown m us) (t ∷ [])

-- an unknown wire that isn't boolean
pub none_boolean : (m : Marks) (us : List Term) (i : ℕ) (d : Term) → i < length us
    → m.known (get_or us i d).signal ≡ false → m.boolean (get_or us i d).signal ≡ false
    → All (λ t. m.boolean t.signal ≡ true) (unknown m us) → ⊥
none_boolean m [] i d l k b h = omega arith
none_boolean m (u ∷ us) zero d l k b h =
    let here : unknown m (u ∷ us) ≡ u ∷ unknown m us =
    ap (λ (x : Bool). cond (not x) (u ∷ unknown m us) (unknown m us)) k in
    false≢true (sym b ∙ All-head (λ (t : Term). m.boolean t.signal ≡ true) u (unknown m us)
    (subst (λ (vs : List Term). All (λ t. m.boolean t.signal ≡ true) vs) here h))
none_boolean m (u ∷ us) (suc i) d l k b h =
    none_boolean m us i d (omega arith) k b (rest (cases_Bool (m.known u.signal)))
  where
    rest : (m.known u.signal ≡ true) ⊎ (m.known u.signal ≡ false)
        → All (λ t. m.boolean t.signal ≡ true) (unknown m us)
    rest (inl e) =
        subst (λ (vs : List Term). All (λ t. m.boolean t.signal ≡ true) vs)
        (ap (λ (x : Bool). cond (not x) (u ∷ unknown m us) (unknown m us)) e) h
    rest (inr e) =
        All-tail (λ (t : Term). m.boolean t.signal ≡ true) u (unknown m us)
        (subst (λ (vs : List Term). All (λ t. m.boolean t.signal ≡ true) vs)
        (ap (λ (x : Bool). cond (not x) (u ∷ unknown m us) (unknown m us)) e) h)

-- walks over the terms, one by one
pub next_take : (us : List Term) (i : ℕ) (t : Term) → i < length us → t ≡ get_or us i t
    → take (i + 1) us ≡ take i us ++ t ∷ []
next_take us i t l e = take_more us i t l ∙ ap (λ (u : Term). take i us ++ u ∷ []) (sym e)

pub boolean_more : (m : Marks) (us : List Term) (i : ℕ) (t : Term) → i < length us
    → t ≡ get_or us i t → (m.known t.signal ≡ true) ⊎ (m.boolean t.signal ≡ true)
    → AreBoolean m (unknown m (take i us)) → AreBoolean m (unknown m (take (i + 1) us))
boolean_more m us i t l e h all =
    subst (λ (vs : List Term). AreBoolean m (unknown m vs)) (sym (next_take us i t l e))
    (by (cases_Bool (m.known t.signal)) h)
  where
    by : (m.known t.signal ≡ true) ⊎ (m.known t.signal ≡ false)
        → (m.known t.signal ≡ true) ⊎ (m.boolean t.signal ≡ true)
        → AreBoolean m (unknown m (take i us ++ t ∷ []))
    by (inl k) _ =
        subst (λ (vs : List Term). AreBoolean m vs) (sym (unknown_known m (take i us) t k)) all
    by (inr k) (inl q) = absurd (false≢true (sym k ∙ q))
    by (inr k) (inr b) =
        subst (λ (vs : List Term). AreBoolean m vs) (sym (unknown_more m (take i us) t k))
        (All-push (λ (u : Term). m.boolean u.signal ≡ true) (unknown m (take i us)) t all b)

pub boolean_all : (m : Marks) (us : List Term) (i : ℕ) → length us ≤ i
    → AreBoolean m (unknown m (take i us)) → AreBoolean m (unknown m us)
boolean_all m us i l h = subst (λ (vs : List Term). AreBoolean m (unknown m vs)) (take_all i us l) h

pub coefs_next_known : (m : Marks) (us : List Term) (i : ℕ) (t : Term) → i < length us
    → t ≡ get_or us i t → m.known t.signal ≡ true
    → unknown_coefs m (take (i + 1) us) ≡ unknown_coefs m (take i us)
coefs_next_known m us i t l e k =
    ap (unknown_coefs m) (next_take us i t l e) ∙ coefs_known m (take i us) t k

pub coefs_next_more : (m : Marks) (us : List Term) (i : ℕ) (t : Term) → i < length us
    → t ≡ get_or us i t → m.known t.signal ≡ false
    → unknown_coefs m (take (i + 1) us) ≡ unknown_coefs m (take i us) ++ t.coef ∷ []
coefs_next_more m us i t l e k =
    ap (unknown_coefs m) (next_take us i t l e) ∙ coefs_more m (take i us) t k
