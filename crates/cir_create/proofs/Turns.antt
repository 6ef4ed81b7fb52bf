-- Declarations in turn.
use Rattle.std.proofs.Common.{◌≡◌, ℕ, ◌+◌, ◌<◌, ◌≤◌, List, length, get_or}
use Rattle.std.proofs.Common.{drop, map, Result, Ok, ap, sym, subst, ◌∙◌}
use Rattle.std.specs.Prelude.{IsErrAnd}
use Rattle.std.proofs.lemmas.List.{drop_all, drop_more}
use Rattle.cir_meaning.specs.Tried.{Tried, next}
use Rattle.cir_meaning.specs.Source.{Equation}
use Rattle.cir_meaning.specs.Frame.{State}
use Rattle.cir_meaning.specs.Simple.{each}
use Rattle.cir_frame.specs.declared.frame.Frame.{Frame}
use Rattle.cir_frame.specs.declared.world.World.{World}
use Rattle.cir_arrays.specs.declared.stop.Fault.{Fault}
use Rattle.cir_arrays.specs.Stopped.{IsRefusal}
use Rattle.cir_frame.specs.Shown.{state_of}
use Rattle.cir_assign.specs.Leads.{Leads, Lists}
use Rattle.cir_assign.proofs.Stepping.{lists_next, leads_refused}
use Rattle.cir_arrays.proofs.Exits.{exits}

-- what is left of the whole
abbrev pub Left : List Equation → World → Frame → World → Tried State
    → (State → Tried State) → Type 0
Left qs old f mid whole rest =
    (es : List Equation) × (whole ≡ rest (state_of f mid es)) × Lists qs old es mid

abbrev pub Went : List Equation → World → Frame → World → Tried State → Type 0
Went qs old f new m = (es : List Equation) × (m ≡ Ok (state_of f new es)) × Lists qs old es new

module _ {A B : Type 0} (go : B → State → Tried State) (view : A → B) (xs : List A) where
  each_more : (i : ℕ) (d : A) (s : State) → i < length xs → each go (map view (drop i xs)) s
      ≡ next (go (view (get_or xs i d)) s) (each go (map view (drop (i + 1) xs)))
  each_more i d s h = ap (λ (ys : List A). each go (map view ys) s) (drop_more xs i d h)

  pub turn_goes : (i : ℕ) (x : A) (qs : List Equation) (old mid new : World) (f g : Frame)
      (whole : Tried State) → i < length xs → x ≡ get_or xs i x
      → Left qs old f mid whole (each go (map view (drop i xs)))
      → ((es : List Equation) → Went es mid g new (go (view x) (state_of f mid es)))
      → Left qs old g new whole (each go (map view (drop (i + 1) xs)))
  turn_goes i x qs old mid new f g whole h is left step =
      let went = step left.0 in (
        went.0,
        left.1 ∙ each_more i x (state_of f mid left.0) h
            ∙ ap (λ (y : A). next (go (view y) (state_of f mid left.0))
            (each go (map view (drop (i + 1) xs)))) (sym is)
            ∙ ap (λ (z : Tried State). next z (each go (map view (drop (i + 1) xs)))) went.1,
        lists_next qs left.0 went.0 old mid new left.2 went.2,
      )

  pub turn_refused : {C : Type 0} (i : ℕ) (x : A) (qs : List Equation) (old mid new : World)
      (f g : Frame) (whole : Tried State) (r : Result C Fault) (e : Fault) → i < length xs
      → x ≡ get_or xs i x → Left qs old f mid whole (each go (map view (drop i xs)))
      → IsErrAnd r (λ y. y ≡ e)
      → ((es : List Equation) → IsRefusal e (go (view x) (state_of f mid es)))
      → Leads qs old g new r whole
  turn_refused i x qs old mid new f g whole r e h is left err refuses =
      let s : State = state_of f mid left.0 in
      leads_refused qs old g new r e whole err
      (subst (λ (m : Tried State). IsRefusal e m)
      (sym (left.1 ∙ each_more i x s h ∙ ap (λ (y : A). next (go (view y) s)
      (each go (map view (drop (i + 1) xs)))) (sym is)))
      (exits e (go (view x) s) (each go (map view (drop (i + 1) xs))) (refuses left.0)))

  pub turns_end : (i : ℕ) (qs : List Equation) (old mid : World) (f : Frame)
      (whole : Tried State) → length xs ≤ i
      → Left qs old f mid whole (each go (map view (drop i xs))) → Went qs old f mid whole
  turns_end i qs old mid f whole h left = (
    left.0,
    left.1 ∙ ap (λ (ys : List A). each go (map view ys) (state_of f mid left.0))
        (drop_all i xs h),
    left.2,
  )
