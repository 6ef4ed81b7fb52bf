-- The groups of signals grow as statements are executed.
use Rattle.std.proofs.Common.{◌≡◌, ℕ, sym, ap, subst}
use Rattle.cir_ast.specs.declared.operators.Arrow.{Arrow}
use Rattle.cir_ast.specs.declared.operators.Arrow.TheVariants.{Assign as AssignArrow}
use Rattle.cir_ast.specs.declared.operators.Arrow.TheVariants.{Constrain as ConstrainArrow}
use Rattle.cir_meaning.specs.Tried.{Where}
use Rattle.cir_meaning.specs.Places.{elements}
use Rattle.cir_meaning.specs.Values.{Value}
use Rattle.cir_meaning.specs.Frame.{Sizes, World, State, Context, more_in}
use Rattle.cir_meaning.specs.Writing.{constrained_by}
use Rattle.cir_meaning.specs.Declaring.{Creation}
use Rattle.cir_meaning.proofs.Good.{OnGood, good_ok, good_weaker, OnSome'}
use Rattle.cir_meaning.proofs.EqualRuns.{Constrains, constrained_adds}
use Rattle.cir_meaning.proofs.Creating.{Created}
use Rattle.cir_meaning.proofs.GroupSizes.{Less, Fits, less_then, more_less, more_fits, IsGrowing}
use Rattle.cir_meaning.proofs.Keeping.{Closed}

-- constraints change no sizes
pub constrained_kept : (Q : State → Type 0)
    → ((x y : Value) (s t : State) → Constrains x y s t → Q s → Q t) → (k : Context) (w : Where)
    (arrow : Arrow) (x y : Value) (s : State) → Q s → OnGood Q (constrained_by k w arrow x y s)
constrained_kept Q f k w AssignArrow x y s h = good_ok Q s h
constrained_kept Q f k w ConstrainArrow x y s h =
    good_weaker (Constrains x y s) Q _ (constrained_adds k w x y s) (λ t c. f x y s t c h)

-- from some sizes on
abbrev pub From : Sizes → State → Type 0
From sizes s = Fits s.world.sizes × Less sizes s.world.sizes

from_same : (sizes : Sizes) (s t : State) → t.world.sizes ≡ s.world.sizes → From sizes s
    → From sizes t
from_same sizes s t e h = subst (λ x. Fits x × Less sizes x) (sym e) h

pub from_made : (sizes : Sizes) (k : Context) (makes : OnSome' IsGrowing k.make) (w : Where)
    (c : Creation) (place : ℕ) (s : State) → Created k w c place s → From sizes c.state
    → From sizes s
from_made sizes k makes w c place s made h =
    let grown : Fits made.world.sizes × Less c.state.world.sizes made.world.sizes =
    (subst (λ o. OnSome' IsGrowing o) made.is_make makes) w c.template c.arguments _
    c.state.world made.signals made.world made.made h.0 in
    subst (From sizes) (sym made.state)
    (grown.0, less_then sizes c.state.world.sizes made.world.sizes h.1 grown.1)

pub from_closed : (sizes : Sizes) (k : Context) (makes : OnSome' IsGrowing k.make) (n : ℕ)
    → Closed k n (From sizes)
from_closed sizes k makes n = record {
  like = λ f s l h. from_same sizes f s (ap (λ (v : World). v.sizes) l.4) h;
  added = λ s t i h. subst (From sizes) (sym i.1) h;
  variable = λ i d s h. h;
  array = λ dims s h. h;
  component = λ i c s h. h;
  written = λ part number place e s there h. h;
  equation = constrained_kept (From sizes)
      (λ x y s t c h. subst (From sizes) (sym c.adds.1) h) k;
  signal = λ spot direction i name dims s apart h. (
    more_fits (k.group direction name) (elements dims) s.world.sizes h.0,
    less_then sizes s.world.sizes (more_in (k.group direction name) (elements dims) s.world.sizes)
        h.1 (more_less (k.group direction name) (elements dims) s.world.sizes h.0),
  );
  created = from_made sizes k makes;
}
