-- Before a statement under an unknown condition is scanned, the variables that it may assign are
-- forgotten. What it runs as misses no value.
use Rattle.std.proofs.Common.{◌≡◌, ◌⊎◌, inl, inr, ℕ, zero, suc, Bool, true, false, not, cond, List}
use Rattle.std.proofs.Common.{[], ◌∷◌, length, Option, Some, None, refl, sym, ap, subst, ◌∙◌}
use Rattle.std.proofs.Common.{slice_get, slice_set}
use Rattle.std.specs.Prelude.{◌==◌, ◌||◌, unwrap_or, nat_lt, filter}
use Rattle.std.specs.List.{list_any}
use Rattle.std.proofs.lemmas.Bool.{eqb-true, eq-eqb}
use Rattle.cir_ast.specs.declared.program.Spot.{Spot}
use Rattle.cir_ast.specs.declared.program.Meant.{Meant}
use Rattle.cir_ast.specs.Tree.{Statement}
use Rattle.cir_lc.specs.Number.{Assignment}
use Rattle.cir_meaning.specs.Arrays.{Datum, single, forgotten}
use Rattle.cir_meaning.specs.Values.{Known, Opaque}
use Rattle.cir_meaning.specs.Frame.{World, State, variable_at}
use Rattle.cir_meaning.specs.Unknown.{with_number, rising, outer_assigned, writes, declares}
use Rattle.cir_meaning.specs.Scan.{forget_one, forget}
use Rattle.cir_meaning.specs.RunValues.{Numbers, Store}
use Rattle.cir_meaning.specs.Run.{settled_store}
use Rattle.cir_meaning.proofs.Rows.{all_map}
use Rattle.cir_meaning.proofs.Same.{Same, rows_count}
use Rattle.cir_meaning.proofs.Assigning.{rows_forgotten}
use Rattle.cir_meaning.proofs.Fading.{IsOpaque, Rest}
use Rattle.cir_meaning.proofs.PartWrites.{get_other, same_or_not, set_count}
use Rattle.cir_meaning.proofs.Writing.{get_set}
use Rattle.cir_meaning.proofs.ScanPoints.{get_there}

abbrev pub Contains : ℕ → List ℕ → Type 0
Contains n ns = list_any (λ m. m == n) ns ≡ true

or_left : (a b : Bool) → a ≡ true → (a || b) ≡ true
or_left true b e = refl
or_left false b e = cc

or_right : (a b : Bool) → b ≡ true → (a || b) ≡ true
or_right true b e = refl
or_right false b e = e

-- numbers in a rising list
with_itself : (n i : ℕ) (ms : List ℕ) → (i == n) ≡ true → Contains n (with_number i ms)
with_itself n i [] e = or_left (i == n) false e
with_itself n i (m ∷ ms) e =
    below (nat_lt i m) (same (i == m) refl) (with_itself n i ms e)
  where
    same : (b : Bool) → (i == m) ≡ b → b ≡ true → (m == n) ≡ true
    same b f g =
        let one : i ≡ m = eqb-true i m (f ∙ g) in
        let two : i ≡ n = eqb-true i n e in
        eq-eqb m n (sym one ∙ two)

    equal : (b : Bool) → (b ≡ true → (m == n) ≡ true) → Contains n (with_number i ms)
        → Contains n (cond b (m ∷ ms) (m ∷ with_number i ms))
    equal true f rest = or_left (m == n) (list_any (λ j. j == n) ms) (f refl)
    equal false f rest = or_right (m == n) (list_any (λ j. j == n) (with_number i ms)) rest

    below : (b : Bool) → ((i == m) ≡ true → (m == n) ≡ true) → Contains n (with_number i ms)
        → Contains n (cond b (i ∷ (m ∷ ms)) (cond (i == m) (m ∷ ms) (m ∷ with_number i ms)))
    below true f rest = or_left (i == n) (list_any (λ j. j == n) (m ∷ ms)) e
    below false f rest = equal (i == m) f rest

with_others : (n i : ℕ) (ms : List ℕ) → Contains n ms → Contains n (with_number i ms)
with_others n i [] h = cc
with_others n i (m ∷ ms) h =
    below (nat_lt i m) (rest (m == n) h (with_others n i ms))
  where
    rest : (b : Bool) → (b || list_any (λ j. j == n) ms) ≡ true
        → (Contains n ms → Contains n (with_number i ms))
        → (b || list_any (λ j. j == n) (with_number i ms)) ≡ true
    rest true g go = refl
    rest false g go = go g

    equal : (b : Bool) → Contains n (m ∷ with_number i ms)
        → Contains n (cond b (m ∷ ms) (m ∷ with_number i ms))
    equal true g = h
    equal false g = g

    below : (b : Bool) → Contains n (m ∷ with_number i ms)
        → Contains n (cond b (i ∷ (m ∷ ms)) (cond (i == m) (m ∷ ms) (m ∷ with_number i ms)))
    below true g = or_right (i == n) (list_any (λ j. j == n) (m ∷ ms)) h
    below false g = equal (i == m) g

rising_has : (n : ℕ) (ns : List ℕ) → Contains n ns → Contains n (rising ns)
rising_has n [] h = cc
rising_has n (m ∷ ms) h = at (m == n) refl h (rising_has n ms)
  where
    at : (b : Bool) → (m == n) ≡ b → (b || list_any (λ j. j == n) ms) ≡ true
        → (Contains n ms → Contains n (rising ms)) → Contains n (with_number m (rising ms))
    at true e g go = with_itself n m (rising ms) e
    at false e g go = with_others n m (rising ms) (go g)

filter_has : (p : ℕ → Bool) (n : ℕ) (ns : List ℕ) → p n ≡ true → Contains n ns
    → Contains n (filter p ns)
filter_has p n [] t h = cc
filter_has p n (m ∷ ms) t h = at (m == n) refl h (filter_has p n ms t)
  where
    kept : (b : Bool) → p m ≡ b → (m == n) ≡ true
        → Contains n (cond b (m ∷ filter p ms) (filter p ms))
    kept true e f = or_left (m == n) (list_any (λ j. j == n) (filter p ms)) f
    kept false e f =
        let same : m ≡ n = eqb-true m n f in
        let no : p m ≡ true = subst (λ i. p i ≡ true) (sym same) t in cc

    later_one : (b : Bool) → Contains n (filter p ms)
        → Contains n (cond b (m ∷ filter p ms) (filter p ms))
    later_one true g = or_right (m == n) (list_any (λ j. j == n) (filter p ms)) g
    later_one false g = g

    at : (b : Bool) → (m == n) ≡ b → (b || list_any (λ j. j == n) ms) ≡ true
        → (Contains n ms → Contains n (filter p ms)) → Contains n (filter p (m ∷ ms))
    at true e g go = kept (p m) refl e
    at false e g go = later_one (p m) (go g)

pub assigned_outside : (n : ℕ) (a : Statement Spot Meant)
    → list_any (λ m. m == n) (declares a) ≡ false → Contains n (writes a)
    → Contains n (outer_assigned a)
assigned_outside n a none h =
    rising_has n (filter (λ m. not (list_any (λ i. i == m) (declares a))) (writes a))
    (filter_has (λ m. not (list_any (λ i. i == m) (declares a))) n (writes a)
    (ap not none) h)

-- what is forgotten
forgotten_opaque : (d : Datum) → IsOpaque (forgotten d)
forgotten_opaque d = all_map (λ v. v ≡ Opaque) (λ v. Opaque) d.items (λ v. refl)

one_other : (m n : ℕ) (t : State) → (m ≡ n → ⊥)
    → variable_at (forget_one m t).frame n ≡ variable_at t.frame n
one_other m n t ne =
    ap (λ (o : Option Datum). unwrap_or o (single (Known 0)))
    (get_other t.frame.variables m n (forgotten (variable_at t.frame m)) ne)

one_there : (n : ℕ) (t : State) (x : Datum) → slice_get t.frame.variables n ≡ Some x
    → variable_at (forget_one n t).frame n ≡ forgotten (variable_at t.frame n)
one_there n t x e =
    ap (λ (o : Option Datum). unwrap_or o (single (Known 0)))
    (get_set t.frame.variables n x (forgotten (variable_at t.frame n)) e)

set_absent : {A : Type 0} (xs : List A) (n : ℕ) (x : A) → slice_get xs n ≡ None
    → slice_set xs n x ≡ xs
set_absent [] n x e = refl
set_absent (y ∷ ys) zero x e = cc
set_absent (y ∷ ys) (suc n) x e = ap (λ (zs : List _). y ∷ zs) (set_absent ys n x e)

pub forget_count : (ns : List ℕ) (t : State)
    → length (forget ns t).frame.variables ≡ length t.frame.variables
forget_count [] t = refl
forget_count (n ∷ ns) t =
    forget_count ns (forget_one n t)
    ∙ set_count t.frame.variables n (forgotten (variable_at t.frame n))

opaque_stays : (ns : List ℕ) (t : State) (n : ℕ) → IsOpaque (variable_at t.frame n)
    → IsOpaque (variable_at (forget ns t).frame n)
opaque_stays [] t n h = h
opaque_stays (m ∷ ms) t n h = opaque_stays ms (forget_one m t) n (at (same_or_not m n))
  where
    in_range : (o : Option Datum) → slice_get t.frame.variables n ≡ o
        → IsOpaque (variable_at (forget_one n t).frame n)
    in_range None e =
        subst (λ vs. IsOpaque (unwrap_or (slice_get vs n) (single (Known 0))))
        (sym (set_absent t.frame.variables n (forgotten (variable_at t.frame n)) e)) h
    in_range (Some x) e =
        subst IsOpaque (sym (one_there n t x e)) (forgotten_opaque (variable_at t.frame n))

    at : (m ≡ n) ⊎ (m ≡ n → ⊥) → IsOpaque (variable_at (forget_one m t).frame n)
    at (inl e) =
        subst (λ i. IsOpaque (variable_at (forget_one i t).frame n)) (sym e)
        (in_range (slice_get t.frame.variables n) refl)
    at (inr ne) = subst IsOpaque (sym (one_other m n t ne)) h

pub forget_opaque : (ns : List ℕ) (t : State) (n : ℕ) (x : Datum)
    → slice_get t.frame.variables n ≡ Some x → Contains n ns
    → IsOpaque (variable_at (forget ns t).frame n)
forget_opaque [] t n x e h = cc
forget_opaque (m ∷ ms) t n x e h =
    at (m == n) refl h (λ y f g. forget_opaque ms (forget_one m t) n y f g)
  where
    at : (b : Bool) → (m == n) ≡ b → (b || list_any (λ i. i == n) ms) ≡ true
        → ((y : Datum) → slice_get (forget_one m t).frame.variables n ≡ Some y → Contains n ms
        → IsOpaque (variable_at (forget ms (forget_one m t)).frame n))
        → IsOpaque (variable_at (forget ms (forget_one m t)).frame n)
    at true f g go =
        let same : m ≡ n = eqb-true m n f in
        opaque_stays ms (forget_one m t) n
        (subst (λ i. IsOpaque (variable_at (forget_one i t).frame n)) (sym same)
        (subst IsOpaque (sym (one_there n t x e)) (forgotten_opaque (variable_at t.frame n))))
    at false f g go =
        let there : (y : Datum) × (slice_get (forget_one m t).frame.variables n ≡ Some y) =
        get_there t.frame.variables (forget_one m t).frame.variables n x
        (sym (set_count t.frame.variables m (forgotten (variable_at t.frame m)))) e in
        go there.0 there.1 g

-- whatever numbers it had
pub forget_same : (E : Assignment → Type 0) (ns : List ℕ) (t : State) (n : ℕ) (x : Numbers)
    → Same E (variable_at t.frame n) x → Same E (variable_at (forget ns t).frame n) x
forget_same E [] t n x h = h
forget_same E (m ∷ ms) t n x h =
    forget_same E ms (forget_one m t) n x (at (same_or_not m n))
  where
    in_range : (o : Option Datum) → slice_get t.frame.variables n ≡ o
        → Same E (variable_at (forget_one n t).frame n) x
    in_range None e =
        subst (λ vs. Same E (unwrap_or (slice_get vs n) (single (Known 0))) x)
        (sym (set_absent t.frame.variables n (forgotten (variable_at t.frame n)) e)) h
    in_range (Some y) e =
        subst (λ d. Same E d x) (sym (one_there n t y e)) (
          h.0,
          rows_forgotten E (variable_at t.frame n).items x.items
              (rows_count E (variable_at t.frame n).items x.items h.1),
        )

    at : (m ≡ n) ⊎ (m ≡ n → ⊥) → Same E (variable_at (forget_one m t).frame n) x
    at (inl e) =
        subst (λ i. Same E (variable_at (forget_one i t).frame n) x) (sym e)
        (in_range (slice_get t.frame.variables n) refl)
    at (inr ne) = subst (λ d. Same E d x) (sym (one_other m n t ne)) h

pub settled_count : (vs : List Datum) (ms : Store) → length (settled_store vs ms) ≡ length vs
settled_count [] ms = refl
settled_count (v ∷ vs) [] = ap (λ (n : ℕ). suc n) (settled_count vs [])
settled_count (v ∷ vs) (m ∷ ms) = ap (λ (n : ℕ). suc n) (settled_count vs ms)

-- two states that differ from a third one in variables and counts
pub rest_between : (f s t : State) → Rest f s → Rest f t → Rest s t
rest_between f s t h g = (
  g.0 ∙ sym h.0,
  g.1 ∙ sym h.1,
  g.2 ∙ sym h.2,
  g.3 ∙ sym (ap (λ (v : World). record v { counts = t.world.counts }) h.3),
)
