-- One more constraint.
use Rattle.std.proofs.Common.{◌≡◌, ℕ, ◌+◌, ◌*◌, ◌++◌, List, [], ◌∷◌, Some}
use Rattle.std.proofs.Common.{Vec, Global, Ok, refl, ap, ◌∙◌}
use Rattle.gold_field.specs.declared.form.Constraint.{Constraint}
use Rattle.cir_meaning.specs.Tried.{Where}
use Rattle.cir_meaning.specs.Compile.{group_size}
use Rattle.cir_meaning.specs.Limits.{standing}
use Rattle.cir_meaning.specs.Values.{Value, Parts, difference_of, number_of, parts_of}
use Rattle.cir_meaning.specs.Source.{Equation, IsConstraintOf, IsSource, terms_of}
use Rattle.cir_meaning.specs.Frame.{Context, State}
use Rattle.cir_meaning.specs.Writing.{appended, constrained}
use Rattle.cir_frame.specs.declared.frame.Frame.{Frame}
use Rattle.cir_frame.specs.declared.world.World.{World}
use Rattle.cir_frame.specs.Shown.{state_of}

pub source_push : (n : ℕ) (es : List Equation) (ks : List Constraint) (e : Equation)
    (k : Constraint) → IsSource n es ks → IsConstraintOf n e k
    → IsSource n (es ++ e ∷ []) (ks ++ k ∷ [])
source_push n [] [] e k s one = (one, tt)
source_push n [] (j ∷ ks) e k s one = absurd s
source_push n (d ∷ es) [] e k s one = absurd s
source_push n (d ∷ es) (j ∷ ks) e k s one = (s.0, source_push n es ks e k s.1 one)

abbrev pub equation_of : Value → Value → Parts → Equation
equation_of x y p = record { left = number_of x; right = number_of y; parts = p }

-- the world with it
abbrev pub with_constraint : World → Vec Constraint Global → (constraints terms : ℕ) → World
with_constraint w ks n t =
    record w { constraints = ks; added = record (w.added) { constraints = n; terms = t } }

pub recorded : (k : Context) (w : Where) (x y : Value) (f : Frame) (old : World)
    (qs : List Equation) (p : Parts) (ks : Vec Constraint Global) (n t : ℕ)
    → k.group_size ≡ group_size → parts_of (difference_of x y) ≡ Some p
    → n ≡ standing (old.added.constraints + 1)
    → t ≡ standing (old.added.terms + terms_of (4 * group_size) p)
    → constrained k w x y (state_of f old qs)
    ≡ Ok (state_of f (with_constraint old ks n t) (qs ++ equation_of x y p ∷ []))
recorded k w x y f old qs p ks n t size parts en et =
    let s : State = state_of f old qs in
    ap (appended k w x y s) parts
    ∙ rw (size, en, et) refl
