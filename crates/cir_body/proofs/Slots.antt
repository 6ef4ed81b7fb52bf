-- Slots with their values, in turn, with their steps.
use Rattle.std.proofs.Common.{◌≡◌, ◌∙◌, ℕ, ◌+◌, ◌<◌, ◌≤◌, List, [], ◌∷◌, length, get_or, drop, map}
use Rattle.std.proofs.Common.{Ok, Err, ap, sym, refl, ◌⊎◌, inl, inr, arith}
use Rattle.std.proofs.lemmas.List.{drop_all, drop_more}
use Rattle.cir_ast.specs.declared.program.Meant.{Meant}
use Rattle.cir_ast.specs.declared.operators.Arrow.{Arrow}
use Rattle.cir_ast.specs.declared.marked.Expr.{Expr as CodeExpr}
use Rattle.cir_ast.specs.declared.marked.Slot.{Slot as CodeSlot}
use Rattle.cir_ast.specs.Tree.{Expr, Slot, Target, Source, One, Values, bare, bare_slot}
use Rattle.cir_meaning.specs.Tried.{Where, Tried}
use Rattle.cir_meaning.specs.Simple.{values_of}
use Rattle.cir_lift.specs.Turned.{as_values}
use Rattle.cir_steps.specs.Emission.{Emission, Emitted, quiet, then_emit}
use Rattle.cir_steps.specs.Making.{Emitting}
use Rattle.cir_steps.specs.Emit.{emit_slot, emit_slots, emit_tuple}
use Rattle.cir_make.specs.Emits.{go_on}
use Rattle.cir_make.proofs.Going.{append_none}

module _ (q : Emitting) (w : Where) (arrow : Arrow) where
  no_slots : (xs : List (Slot Meant)) (x : Emission) → emit_slots q w arrow xs [] x ≡ quiet x
  no_slots [] x = refl
  no_slots (a ∷ xs) x = refl

  -- the values are the same as a list
  pub tuple_emits : (target : Target Meant) (source : Source Meant) (x : Emission)
      → emit_tuple q w arrow target (values_of (as_values source)) x
      ≡ emit_tuple q w arrow target (values_of source) x
  tuple_emits target (One e) x = refl
  tuple_emits target (Values es) x = refl

  then_no_slots : (xs : List (Slot Meant)) (m : Tried Emitted)
      → then_emit m (emit_slots q w arrow xs []) ≡ m
  then_no_slots xs (Ok y) =
      ap (λ z. then_emit (Ok y) (λ x. z)) (no_slots xs y.state)
      ∙ ap (λ l. Ok record { state = y.state; steps = l }) (append_none y.steps)
  then_no_slots xs (Err e) = refl

  -- slots for one value
  pub none_for_one : (xs : List (CodeSlot Meant)) (e : Expr Meant) (x : Emission) → length xs < 1
      → emit_slots q w arrow (map bare_slot xs) (e ∷ []) x ≡ quiet x
  none_for_one [] e x h = refl
  none_for_one (a ∷ xs) e x h = absurd (omega (arith, h))

  pub first_for_one : (xs : List (CodeSlot Meant)) (a : CodeSlot Meant) (e : Expr Meant)
      (x : Emission) → 1 ≤ length xs → a ≡ get_or xs 0 a
      → emit_slots q w arrow (map bare_slot xs) (e ∷ []) x ≡ emit_slot q w arrow (bare_slot a) e x
  first_for_one [] a e x h is = absurd (omega (arith, h))
  first_for_one (y ∷ ys) a e x h is =
      then_no_slots (map bare_slot ys) (emit_slot q w arrow (bare_slot y) e x)
      ∙ ap (λ z. emit_slot q w arrow (bare_slot z) e x) (sym is)

  module _ (xs : List (CodeSlot Meant)) (es : List (CodeExpr Meant)) where
    abbrev pub slots_from : ℕ → Emission → Tried Emitted
    slots_from i x = emit_slots q w arrow (map bare_slot (drop i xs)) (map bare (drop i es)) x

    pub slots_more : (i : ℕ) (a : CodeSlot Meant) (e : CodeExpr Meant) (d : Emitted)
        → i < length xs → i < length es → a ≡ get_or xs i a → e ≡ get_or es i e
        → go_on d (slots_from i) ≡ go_on d (λ x. then_emit
        (emit_slot q w arrow (bare_slot a) (bare e) x) (slots_from (i + 1)))
    slots_more i a e d h g is it =
        ap (λ ys. go_on d (emit_slots q w arrow (map bare_slot ys) (map bare (drop i es))))
        (drop_more xs i a h)
        ∙ ap (λ ys. go_on d (emit_slots q w arrow
        (bare_slot (get_or xs i a) ∷ map bare_slot (drop (i + 1) xs)) (map bare ys)))
        (drop_more es i e g)
        ∙ ap (λ y. go_on d (λ x. then_emit (emit_slot q w arrow (bare_slot y)
        (bare (get_or es i e)) x) (slots_from (i + 1)))) (sym is)
        ∙ ap (λ y. go_on d (λ x. then_emit (emit_slot q w arrow (bare_slot a) (bare y) x)
        (slots_from (i + 1)))) (sym it)

    pub slots_end : (i : ℕ) (d : Emitted) → (length xs ≤ i) ⊎ (length es ≤ i)
        → go_on d (slots_from i) ≡ go_on d quiet
    slots_end i d (inl h) =
        ap (λ ys. go_on d (emit_slots q w arrow (map bare_slot ys) (map bare (drop i es))))
        (drop_all i xs h)
    slots_end i d (inr h) =
        ap (λ ys. go_on d (emit_slots q w arrow (map bare_slot (drop i xs)) (map bare ys)))
        (drop_all i es h)
        ∙ ap (λ z. go_on d (λ x. z)) (no_slots (map bare_slot (drop i xs)) d.state)
