-- A statement is scanned from a state in which the variables that it may assign are opaque.
use Rattle.std.proofs.Common.{◌≡◌, ℕ, zero, suc, ◌<◌, ◌≤◌, Bool, true, false, cond, List, [], ◌∷◌}
use Rattle.std.proofs.Common.{◌++◌, length, map, Some, None, refl, sym, ap, subst, ◌∙◌, arith}
use Rattle.std.proofs.Common.{length-set, inl, inr, ◌⊎◌}
use Rattle.std.specs.Prelude.{slice_get, slice_set, unwrap_or, filter, not, nat_lt, ◌==◌, ◌||◌}
use Rattle.std.specs.List.{list_any}
use Rattle.std.proofs.lemmas.Bool.{cases_lt, cases_eq, eqb-true, or_left, or_right}
use Rattle.std.proofs.lemmas.List.{get_or_past}
use Rattle.std.proofs.lemmas.Option.{unwrap_or-slice_get}
use Rattle.cir_ast.specs.declared.program.Spot.{Spot}
use Rattle.cir_ast.specs.declared.program.Meant.{Meant}
use Rattle.cir_ast.specs.Tree.{Statement}
use Rattle.cir_meaning.specs.Arrays.{Datum, single, item_at, forgotten}
use Rattle.cir_meaning.specs.Values.{Value, Known, Opaque}
use Rattle.cir_meaning.specs.Frame.{State, variable_at}
use Rattle.cir_meaning.specs.Scan.{forget_one, forget}
use Rattle.cir_meaning.specs.Unknown.{writes, declares, with_number, rising, outer_assigned}
use Rattle.cir_steps.specs.Emission.{Emission, known_in}
use Rattle.wit_lower.specs.Homes.{Variable, Home, Homes, find, slots_of}
use Rattle.wit_lower.proofs.Listed.{In}
use Rattle.cir_emit.proofs.Scanned.{set_here, set_there}
use Rattle.cir_emit.proofs.Emitted.{IsFrom}

opaque_past : (xs : List Value) (i v : ℕ) → item_at (map (λ x. Opaque) xs) i ≡ Known v
    → item_at xs i ≡ Known v
opaque_past [] i v e = e
opaque_past (x ∷ xs) zero v e = cc
opaque_past (x ∷ xs) (suc i) v e = opaque_past xs i v e

opaque_in : (xs : List Value) (i v : ℕ) → i < length xs
    → item_at (map (λ x. Opaque) xs) i ≡ Known v → ⊥
opaque_in [] i v l e = omega (arith, l)
opaque_in (x ∷ xs) zero v l e = cc
opaque_in (x ∷ xs) (suc i) v l e = opaque_in xs i v (omega (arith, l)) e

-- one variable that is forgotten
past : (xs : List Datum) (n : ℕ) (d : Datum) → length xs ≤ n
    → unwrap_or (slice_get (slice_set xs n d) n) (single (Known 0))
    ≡ unwrap_or (slice_get xs n) (single (Known 0))
past xs n d le =
    unwrap_or-slice_get (slice_set xs n d) n (single (Known 0)) ∙
    get_or_past (slice_set xs n d) n (single (Known 0)) (omega (arith, le, length-set xs n d)) ∙
    sym (unwrap_or-slice_get xs n (single (Known 0)) ∙ get_or_past xs n (single (Known 0)) le)

one_forgotten : (n m : ℕ) (s : State)
    → ((m ≡ n) × (variable_at (forget_one n s).frame m ≡ forgotten (variable_at s.frame m)))
    ⊎ (variable_at (forget_one n s).frame m ≡ variable_at s.frame m)
one_forgotten n m s =
    elim (cases_eq m n) [
      | inl same ↦
          elim (cases_lt n (length s.frame.variables)) [
            | inl l ↦ inl (
              same,
              subst (λ i. variable_at (forget_one n s).frame i
                  ≡ forgotten (variable_at s.frame i))
                  (sym same) (set_here s.frame.variables n (forgotten (variable_at s.frame n)) l),
            )
            | inr le ↦
                inr (subst (λ i. variable_at (forget_one n s).frame i ≡ variable_at s.frame i)
                (sym same) (past s.frame.variables n (forgotten (variable_at s.frame n)) le))
          ]
      | inr differ ↦
          inr (set_there s.frame.variables n m (forgotten (variable_at s.frame n)) differ)
    ]

forget_dims : (ns : List ℕ) (s : State) (m : ℕ)
    → (variable_at (forget ns s).frame m).dims ≡ (variable_at s.frame m).dims
forget_dims [] s m = refl
forget_dims (n ∷ ns) s m =
    forget_dims ns (forget_one n s) m ∙
    elim (one_forgotten n m s) [
      | inl x ↦ ap (λ d. d.dims) x.1
      | inr x ↦ ap (λ d. d.dims) x
    ]

forget_known : (ns : List ℕ) (s : State) (m i v : ℕ)
    → item_at (variable_at (forget ns s).frame m).items i ≡ Known v
    → item_at (variable_at s.frame m).items i ≡ Known v
forget_known [] s m i v e = e
forget_known (n ∷ ns) s m i v e =
    let e1 : item_at (variable_at (forget_one n s).frame m).items i ≡ Known v =
    forget_known ns (forget_one n s) m i v e in
    elim (one_forgotten n m s) [
      | inl x ↦
          opaque_past (variable_at s.frame m).items i v
          (sym (ap (λ d. item_at d.items i) x.1) ∙ e1)
      | inr x ↦ sym (ap (λ d. item_at d.items i) x) ∙ e1
    ]

-- an element of a variable that is forgotten isn't known
forget_opaque : (ns : List ℕ) (s : State) (m i v : ℕ) → In m ns → m < length s.frame.variables
    → i < length (variable_at s.frame m).items
    → item_at (variable_at (forget ns s).frame m).items i ≡ Known v → ⊥
forget_opaque [] s m i v h room l e = cc
forget_opaque (n ∷ ns) s m i v h room l e =
    at (one_forgotten n m s) (n == m) refl h
    (λ j long. forget_opaque ns (forget_one n s) m i v j
    (omega (arith, room, length-set s.frame.variables n (forgotten (variable_at s.frame n)))) long
    e)
  where
    known : item_at (variable_at (forget_one n s).frame m).items i ≡ Known v
    known = forget_known ns (forget_one n s) m i v e

    at : ((m ≡ n) × (variable_at (forget_one n s).frame m ≡ forgotten (variable_at s.frame m)))
        ⊎ (variable_at (forget_one n s).frame m ≡ variable_at s.frame m) → (b : Bool)
        → (n == m) ≡ b → (b || list_any (λ j. j == m) ns) ≡ true
        → (In m ns → i < length (variable_at (forget_one n s).frame m).items → ⊥) → ⊥
    at (inl x) b eb h later =
        opaque_in (variable_at s.frame m).items i v l
        (sym (ap (λ d. item_at d.items i) x.1) ∙ known)
    at (inr x) false eb h later = later h (omega (arith, l, ap (λ d. length d.items) x))
    at (inr x) true eb h later =
        let same : m ≡ n = sym (eqb-true n m eb) in
        let here : variable_at (forget_one n s).frame m ≡ forgotten (variable_at s.frame m) =
        subst (λ j. variable_at (forget_one n s).frame j ≡ forgotten (variable_at s.frame j))
        (sym same) (set_here s.frame.variables n (forgotten (variable_at s.frame n))
        (omega (arith, room, same))) in
        opaque_in (variable_at s.frame m).items i v l
        (sym (ap (λ d. item_at d.items i) here) ∙ known)

-- what a statement assigns and doesn't declare is forgotten
in_with : (m n : ℕ) (ns : List ℕ) → ((n == m) || list_any (λ j. j == m) ns) ≡ true
    → In m (with_number n ns)
in_with m n [] h = h
in_with m n (k ∷ ks) h = at (λ j. in_with m n ks j) (nat_lt n k) (n == k) refl h
  where
    swap : (a b c d : Bool) → (a || (b || c)) ≡ true → ((a || c) ≡ true → d ≡ true)
        → (c ≡ true → d ≡ true)
        → (b || d) ≡ true
    swap a true c d h f g = refl
    swap true false c d h f g = f refl
    swap false false c d h f g = g h

    at : (((n == m) || list_any (λ j. j == m) ks) ≡ true → In m (with_number n ks))
        → (a b : Bool) → (n == k) ≡ b
        → ((n == m) || ((k == m) || list_any (λ j. j == m) ks)) ≡ true
        → In m (cond a (n ∷ (k ∷ ks)) (cond b (k ∷ ks) (k ∷ with_number n ks)))
    at later true b eb h = h
    at later false true eb h = merged (n == m) (k == m) (list_any (λ j. j == m) ks)
        (ap (λ z. z == m) (eqb-true n k eb)) h
      where
        merged : (a b c : Bool) → a ≡ b → (a || (b || c)) ≡ true → (b || c) ≡ true
        merged true b c e h = or_left b c (sym e)
        merged false b c e h = h
    at later false false eb h =
        swap (n == m) (k == m) (list_any (λ j. j == m) ks)
        (list_any (λ j. j == m) (with_number n ks)) h later
        (λ c. later (or_right (n == m) (list_any (λ j. j == m) ks) c))

pub in_rising : (m : ℕ) (ns : List ℕ) → In m ns → In m (rising ns)
in_rising m [] h = h
in_rising m (n ∷ ns) h = at (n == m) refl h (λ j. in_rising m ns j)
  where
    at : (b : Bool) → (n == m) ≡ b → (b || list_any (λ j. j == m) ns) ≡ true
        → (In m ns → In m (rising ns)) → In m (with_number n (rising ns))
    at true eb h later = in_with m n (rising ns) (or_left (n == m) _ eb)
    at false eb h later = in_with m n (rising ns) (or_right (n == m) _ (later h))

pub in_either : (m : ℕ) (xs ys : List ℕ) → In m (xs ++ ys) → In m xs ⊎ In m ys
in_either m [] ys h = inr h
in_either m (x ∷ xs) ys h = at (x == m) refl h (λ j. in_either m xs ys j)
  where
    at : (b : Bool) → (x == m) ≡ b → (b || list_any (λ j. j == m) (xs ++ ys)) ≡ true
        → (In m (xs ++ ys) → In m xs ⊎ In m ys) → In m (x ∷ xs) ⊎ In m ys
    at true eb h later = inl (or_left (x == m) _ eb)
    at false eb h later =
        elim (later h) [
          | inl j ↦ inl (or_right (x == m) _ j)
          | inr j ↦ inr j
        ]

pub in_filter : (p : ℕ → Bool) (m : ℕ) (xs : List ℕ) → In m xs → p m ≡ true → In m (filter p xs)
in_filter p m [] h e = h
in_filter p m (x ∷ xs) h e = at (x == m) (p x) refl refl h (λ j. in_filter p m xs j e)
  where
    at : (b c : Bool) → (x == m) ≡ b → p x ≡ c → (b || list_any (λ j. j == m) xs) ≡ true
        → (In m xs → In m (filter p xs)) → In m (cond c (x ∷ filter p xs) (filter p xs))
    at true true eb ec h later = or_left (x == m) _ eb
    at true false eb ec h later =
        absurd (differ (sym e ∙ ap p (sym (eqb-true x m eb)) ∙ ec))
      where
        differ : true ≡ false → ⊥
        differ e = cc
    at false true eb ec h later = or_right (x == m) _ (later h)
    at false false eb ec h later = later h

forget_signals : (ns : List ℕ) (s : State) → (forget ns s).frame.signals ≡ s.frame.signals
forget_signals [] s = refl
forget_signals (n ∷ ns) s = forget_signals ns (forget_one n s)

forget_components : (ns : List ℕ) (s : State)
    → (forget ns s).frame.components ≡ s.frame.components
forget_components [] s = refl
forget_components (n ∷ ns) s = forget_components ns (forget_one n s)

forget_parts : (ns : List ℕ) (s : State) → (forget ns s).frame.parts ≡ s.frame.parts
forget_parts [] s = refl
forget_parts (n ∷ ns) s = forget_parts ns (forget_one n s)

-- from the state in which the step of an undecided statement is made, which is behind its scan
pub from_scan : (x : Emission) (s : State) (a : Statement Spot Meant) (homes : Homes)
    → s.frame.signals ≡ (known_in x).frame.signals
    → s.frame.components ≡ (known_in x).frame.components
    → s.frame.parts ≡ (known_in x).frame.parts
    → ((m : ℕ) → In m (declares a) → find (Variable m) homes ≡ None)
    → ((m : ℕ) (h : Home) → find (Variable m) homes ≡ Some h
    → (m < length (known_in x).frame.variables)
    × (length (variable_at (known_in x).frame m).items ≡ slots_of h.dims))
    → IsFrom x s (forget (outer_assigned a) (known_in x)) (writes a ++ declares a) homes
from_scan x s a homes signals components parts fresh whole = record {
  signals = signals ∙ sym (forget_signals (outer_assigned a) f);
  components = components ∙ sym (forget_components (outer_assigned a) f);
  parts = parts ∙ sym (forget_parts (outer_assigned a) f);
  dims = λ n. forget_dims (outer_assigned a) f n;
  known = λ n h i v e l known. (
    free n h i v e l known (list_any (λ m. m == n) (writes a ++ declares a)) refl,
    forget_known (outer_assigned a) f n i v known,
  );
}
  where
    f : State
    f = known_in x

    free : (n : ℕ) (h : Home) (i v : ℕ) → find (Variable n) homes ≡ Some h → i < slots_of h.dims
        → item_at (variable_at (forget (outer_assigned a) f).frame n).items i ≡ Known v → (b : Bool)
        → list_any (λ m. m == n) (writes a ++ declares a) ≡ b → b ≡ false
    free n h i v e l known false eb = refl
    free n h i v e l known true eb =
        absurd (elim (in_either n (writes a) (declares a) eb) [
          | inl j ↦ assigned j (list_any (λ m. m == n) (declares a)) refl
          | inr j ↦ homeless j
        ])
      where
        homeless : In n (declares a) → ⊥
        homeless j = let there : None ≡ Some h = sym (fresh n j) ∙ e in cc

        assigned : In n (writes a) → (c : Bool) → list_any (λ m. m == n) (declares a) ≡ c → ⊥
        assigned j true ec = homeless ec
        assigned j false ec =
            let w = whole n h e in
            forget_opaque (outer_assigned a) f n i v
            (in_rising n _
            (in_filter (λ n. not (list_any (λ m. m == n) (declares a))) n (writes a) j
            (ap not ec))) w.0 (omega (arith, l, w.1)) known
