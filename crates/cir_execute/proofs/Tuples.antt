-- Slots with their values, in turn.
use Rattle.std.proofs.Common.{◌≡◌, ◌∙◌, ℕ, ◌+◌, ◌<◌, ◌≤◌, List, [], ◌∷◌, length, get_or, drop, map}
use Rattle.std.proofs.Common.{Ok, Err, ap, sym, refl, ◌⊎◌, inl, inr, arith}
use Rattle.std.proofs.lemmas.List.{drop_all, drop_more}
use Rattle.cir_ast.specs.declared.program.Meant.{Meant}
use Rattle.cir_ast.specs.declared.operators.Arrow.{Arrow}
use Rattle.cir_ast.specs.declared.marked.Expr.{Expr as CodeExpr}
use Rattle.cir_ast.specs.declared.marked.Slot.{Slot as CodeSlot}
use Rattle.cir_ast.specs.Tree.{Expr, Slot, Target, Source, One, Values, bare, bare_slot}
use Rattle.cir_meaning.specs.Tried.{Where, Tried, next}
use Rattle.cir_meaning.specs.Frame.{State, Context}
use Rattle.cir_meaning.specs.Simple.{slot, slots, tuple, values_of}
use Rattle.cir_lift.specs.Turned.{as_values}

module _ (k : Context) (w : Where) (arrow : Arrow) where
  no_slots : (xs : List (Slot Meant)) (s : State) → slots k w arrow xs [] s ≡ Ok s
  no_slots [] s = refl
  no_slots (x ∷ xs) s = refl

  -- the values are the same as a list
  pub tuple_of : (target : Target Meant) (source : Source Meant) (s : State)
      → tuple k w arrow target (values_of (as_values source)) s
      ≡ tuple k w arrow target (values_of source) s
  tuple_of target (One e) s = refl
  tuple_of target (Values es) s = refl

  -- slots for one value
  slots_one : (x : Slot Meant) (xs : List (Slot Meant)) (e : Expr Meant) (s : State)
      → slots k w arrow (x ∷ xs) (e ∷ []) s ≡ slot k w arrow x e s
  slots_one x xs e s = at (slot k w arrow x e s)
    where
      at : (m : Tried State) → next m (slots k w arrow xs []) ≡ m
      at (Ok s1) = no_slots xs s1
      at (Err e) = refl

  pub one_for_none : (xs : List (CodeSlot Meant)) (e : Expr Meant) (s : State) → length xs < 1
      → slots k w arrow (map bare_slot xs) (e ∷ []) s ≡ Ok s
  one_for_none [] e s h = refl
  one_for_none (x ∷ xs) e s h = absurd (omega (arith, h))

  pub one_for_first : (xs : List (CodeSlot Meant)) (x : CodeSlot Meant) (e : Expr Meant) (s : State)
      → 1 ≤ length xs → x ≡ get_or xs 0 x
      → slots k w arrow (map bare_slot xs) (e ∷ []) s ≡ slot k w arrow (bare_slot x) e s
  one_for_first [] x e s h is = absurd (omega (arith, h))
  one_for_first (y ∷ ys) x e s h is =
      slots_one (bare_slot y) (map bare_slot ys) e s
      ∙ ap (λ z. slot k w arrow (bare_slot z) e s) (sym is)

  module _ (xs : List (CodeSlot Meant)) (es : List (CodeExpr Meant)) where
    abbrev pub slots_from : ℕ → State → Tried State
    slots_from i s = slots k w arrow (map bare_slot (drop i xs)) (map bare (drop i es)) s

    pub slots_more : (i : ℕ) (x : CodeSlot Meant) (e : CodeExpr Meant) (s : State)
        → i < length xs → i < length es → x ≡ get_or xs i x → e ≡ get_or es i e
        → slots_from i s
        ≡ next (slot k w arrow (bare_slot x) (bare e) s) (slots_from (i + 1))
    slots_more i x e s h g is it =
        ap (λ ys. slots k w arrow (map bare_slot ys) (map bare (drop i es)) s) (drop_more xs i x h)
        ∙ ap (λ ys. slots k w arrow (bare_slot (get_or xs i x) ∷ map bare_slot (drop (i + 1) xs))
        (map bare ys) s) (drop_more es i e g)
        ∙ ap (λ y. next (slot k w arrow (bare_slot y) (bare (get_or es i e)) s)
        (slots_from (i + 1))) (sym is)
        ∙ ap (λ y. next (slot k w arrow (bare_slot x) (bare y) s) (slots_from (i + 1))) (sym it)

    pub slots_end : (i : ℕ) (s : State) → (length xs ≤ i) ⊎ (length es ≤ i)
        → slots_from i s ≡ Ok s
    slots_end i s (inl h) =
        ap (λ ys. slots k w arrow (map bare_slot ys) (map bare (drop i es)) s) (drop_all i xs h)
    slots_end i s (inr h) =
        ap (λ ys. slots k w arrow (map bare_slot (drop i xs)) (map bare ys) s) (drop_all i es h)
        ∙ no_slots (map bare_slot (drop i xs)) s
