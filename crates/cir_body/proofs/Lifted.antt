-- Statements whose anonymous components are lifted, with their steps.
use Rattle.std.proofs.Common.{◌≡◌, ◌∙◌, ℕ, List, [], ◌∷◌, length, map, Ok, Err, ap, sym, refl}
use Rattle.std.specs.Prelude.{option_map}
use Rattle.std.proofs.lemmas.List.{length-map}
use Rattle.cir_ast.specs.declared.program.Spot.{Spot}
use Rattle.cir_ast.specs.declared.program.Meant.{Meant}
use Rattle.cir_ast.specs.Program.{Program}
use Rattle.cir_ast.specs.Tree.{One, Values, Simple, Vars, Signals, Declared, Created, Assigned}
use Rattle.cir_ast.specs.Tree.{Constrain, Right, TargetLeft, TargetRight, Alone, bare_simple}
use Rattle.cir_ast.specs.declared.marked.Simple.{Simple as CodeSimple}
use Rattle.cir_meaning.specs.Tried.{Tried}
use Rattle.cir_meaning.specs.Anonymous.{Lifted, lift_simple, same}
use Rattle.cir_lift.specs.declared.lifting.Lifted.{Lifted as CodeLifted}
use Rattle.cir_lift.specs.Lifts.{IsLifted}
use Rattle.cir_lift.specs.Turned.{turned}
use Rattle.cir_frame.specs.declared.frame.Frame.{Frame}
use Rattle.cir_frame.specs.Shown.{component_of}
use Rattle.cir_execute.specs.Turned.{turned_all}
use Rattle.cir_execute.proofs.Lifting.{AreLeft, IsLeft, before_left, map_both, value_is_left}
use Rattle.cir_steps.specs.Emission.{Emission, Emitted, behind, known_in, then_emit}
use Rattle.cir_steps.specs.Making.{Emitting}
use Rattle.cir_steps.specs.Emit.{emit_counted, emit_each, emit_execute, emit_execute_counted}
use Rattle.cir_steps.specs.Emit.{emit_lifted, emit_simple}

next_same : (f g : Emission → Tried Emitted) (m : Tried Emitted) → ((x : Emission) → f x ≡ g x)
    → then_emit m f ≡ then_emit m g
next_same f g (Ok y) h = ap (behind y.steps) (h y.state)
next_same f g (Err e) h = refl

module _ (q : Emitting) (spot : Spot) where
  executed : (a : Simple Meant) (x : Emission) → IsLeft a
      → emit_execute q spot (turned a) x ≡ emit_execute q spot a x
  executed (Right e arrow name m accessors) x h = absurd h
  executed (TargetRight source arrow target) x h = absurd h
  executed (TargetLeft target arrow (One e)) x h = refl
  executed (TargetLeft target arrow (Values es)) x h = refl
  executed (Vars vs) x h = refl
  executed (Signals d signals) x h = refl
  executed (Declared cs) x h = refl
  executed (Created name m e) x h = refl
  executed (Assigned a) x h = refl
  executed (Constrain a b) x h = refl
  executed (Alone parallel name m arguments inputs) x h = refl

  executed_counted : (a : Simple Meant) (x : Emission) → IsLeft a
      → emit_execute_counted q spot (turned a) x ≡ emit_execute_counted q spot a x
  executed_counted a x h = ap (λ m. then_emit m (emit_counted q spot)) (executed a x h)

  each_executed : (xs : List (Simple Meant)) (x : Emission) → AreLeft xs
      → emit_each (emit_execute_counted q spot) (map turned xs) x
      ≡ emit_each (emit_execute_counted q spot) xs x
  each_executed [] x h = refl
  each_executed (a ∷ xs) x h =
      ap (λ m. then_emit m (emit_each (emit_execute_counted q spot) (map turned xs)))
      (executed_counted a x h.0)
      ∙ next_same _ _ (emit_execute_counted q spot a x) (λ y. each_executed xs y h.1)

  lifted_left : (l : Lifted (Simple Meant)) (x : Emission) → AreLeft l.before → IsLeft l.value
      → emit_lifted q spot (turned_all l) x ≡ emit_lifted q spot l x
  lifted_left l x h v =
      ap (λ m. then_emit m (emit_execute_counted q spot (turned l.value)))
      (each_executed l.before x h)
      ∙ next_same _ _ (emit_each (emit_execute_counted q spot) l.before x)
      (λ y. executed_counted l.value y v)

  -- what holds none is executed as it stands
  pub plain_emits : (a b : Simple Meant) (x : Emission)
      → ((p : Program) (first n : ℕ) → lift_simple p first a n ≡ same b n)
      → emit_simple q spot a x ≡ emit_execute_counted q spot b x
  plain_emits a b x h =
      ap (λ l. emit_lifted q spot l x) (h q.context.program q.context.named_components
      (length (known_in x).frame.components))
      ∙ at (emit_execute_counted q spot b x)
    where
      at : (m : Tried Emitted) → behind [] m ≡ m
      at (Ok y) = refl
      at (Err e) = refl

  -- a statement whose components are lifted, numbered behind those that are there
  pub lifting_emits : (a : Simple Meant) (f : Frame) (x : Emission) (n : ℕ)
      → n ≡ length f.components.items
      → (known_in x).frame.components ≡ map (option_map component_of) f.components.items
      → emit_simple q spot a x ≡ emit_lifted q spot (turned_all
      (lift_simple q.context.program q.context.named_components a n)) x
  lifting_emits a f x n is at =
      ap (λ i. emit_lifted q spot (lift_simple q.context.program q.context.named_components a i)
      x) (ap length at ∙ length-map f.components.items (option_map component_of) ∙ sym is)
      ∙ sym (lifted_left (lift_simple q.context.program q.context.named_components a n) x
      (before_left q.context.program q.context.named_components a n)
      (value_is_left q.context.program q.context.named_components a n))

  -- the code's statements that are lifted, one by one, and then the statement
  pub lifted_emits : (l : Lifted (Simple Meant)) (c : CodeLifted) (items : List (CodeSimple Meant))
      (x : Emission) → IsLifted l c → items ≡ c.before.items
      → emit_lifted q spot (turned_all l) x
      ≡ then_emit (emit_each (emit_execute_counted q spot)
      (map (λ y. turned (bare_simple y)) items) x)
      (emit_execute_counted q spot (turned (bare_simple c.value)))
  lifted_emits l c items x is it =
      ap (λ xs. all (map turned xs) l.value) (sym is.before)
      ∙ ap (λ xs. all (map turned (map bare_simple xs)) l.value) (sym it)
      ∙ ap (λ xs. all xs l.value) (map_both turned bare_simple items)
      ∙ ap (λ v. all (map (λ y. turned (bare_simple y)) items) v) (sym is.value)
    where
      all : List (Simple Meant) → Simple Meant → Tried Emitted
      all xs v =
          then_emit (emit_each (emit_execute_counted q spot) xs x)
          (emit_execute_counted q spot (turned v))
