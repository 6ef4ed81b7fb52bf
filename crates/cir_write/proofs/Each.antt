-- What is done to each of a list in turn, with its steps.
use Rattle.std.proofs.Common.{◌≡◌, ◌∙◌, ℕ, ◌+◌, ◌<◌, ◌≤◌, List, length, get_or, drop, map, Result}
use Rattle.std.proofs.Common.{Ok, ap, sym}
use Rattle.std.specs.Prelude.{IsErrAnd}
use Rattle.std.proofs.lemmas.List.{drop_all, drop_more}
use Rattle.cir_meaning.specs.Costs.{Made as Key}
use Rattle.cir_meaning.specs.Tried.{Tried}
use Rattle.cir_arrays.specs.declared.stop.Fault.{Fault}
use Rattle.cir_arrays.specs.Stopped.{IsRefusal}
use Rattle.cir_steps.specs.Emission.{Emission, Emitted, quiet, then_emit}
use Rattle.cir_steps.specs.Emit.{emit_each}
use Rattle.cir_make.specs.declared.whole.Inside.{Inside}
use Rattle.cir_make.specs.declared.whole.Whole.{Whole}
use Rattle.cir_make.specs.Emits.{Emits, go_on}
use Rattle.cir_make.specs.Shows.{Shows}
use Rattle.cir_make.proofs.Going.{Emitted_by, Rests, emits_as, emits_exit, quiet_is, rests_emit}
use Rattle.cir_make.proofs.Going.{rests_more, rests_then}

module _ {A B : Type 0} (f : A → Emission → Tried Emitted) (g : B → A) (xs : List B) where
  abbrev pub each_from : ℕ → Emission → Tried Emitted
  each_from i x = emit_each f (map g (drop i xs)) x

  first_of : (i : ℕ) (b : B) (d : Emitted) → i < length xs → b ≡ get_or xs i b
      → go_on d (each_from i) ≡ go_on d (λ x. then_emit (f (g b) x) (each_from (i + 1)))
  first_of i b d h is =
      ap (λ ys. go_on d (emit_each f (map g ys))) (drop_more xs i b h)
      ∙ ap (λ y. go_on d (λ x. then_emit (f (g y) x) (each_from (i + 1)))) (sym is)

  last_of : (i : ℕ) (d : Emitted) → length xs ≤ i → go_on d (each_from i) ≡ go_on d quiet
  last_of i d h = ap (λ ys. go_on d (emit_each f (map g ys))) (drop_all i xs h)

  module _ (p : List Key) (i : Inside) (w : Whole) (m : Tried Emitted) (n : ℕ)
      (left : Rests p i w m (each_from n)) where
    -- one more
    pub each_goes : (b : B) (j : Inside) (v : Whole) → n < length xs → b ≡ get_or xs n b
        → ((y : Emitted) → Shows p i w y → Emitted_by p j v (go_on y (f (g b))))
        → Rests p j v m (each_from (n + 1))
    each_goes b j v h is k =
        rests_more p i j w v m (each_from n) (each_from (n + 1)) left
        (λ y here.
        let z = rests_then p j v y (f (g b)) (each_from (n + 1)) (k y here) in (
          z.0,
          first_of n b y h is ∙ z.1,
          z.2,
        ))

    -- one that is refused
    pub each_stops : {R : Type 0} (b : B) (j : Inside) (v : Whole) (r : Result R Fault) (e : Fault)
        → n < length xs → b ≡ get_or xs n b → IsErrAnd r (λ x. x ≡ e)
        → ((y : Emitted) → Shows p i w y → IsRefusal e (go_on y (f (g b)))) → Emits p j v r m
    each_stops b j v r e h is stops k =
        rests_emit p i j w v r m (each_from n) left
        (λ y here. emits_as p j v r _ _ (first_of n b y h is)
        (emits_exit p j v r e y (f (g b)) (each_from (n + 1)) stops (k y here)))

    -- the end
    pub each_ends : length xs ≤ n → Emits p i w (Ok (tt {0})) m
    each_ends h =
        rests_emit p i i w w (Ok (tt {0})) m (each_from n) left
        (λ y here. (y, last_of n y h ∙ quiet_is y, here))
