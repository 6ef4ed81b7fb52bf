-- A call that is made, in parts.
use Rattle.std.proofs.Common.{◌≡◌, ◌∙◌, ℕ, Bool, true, false, List, Result, Ok, Err, ap, sym, subst}
use Rattle.cir_ast.specs.declared.program.Meant.TheVariants.{Function}
use Rattle.cir_ast.specs.declared.refusal.Kind.{Kind}
use Rattle.cir_ast.specs.declared.refusal.Kind.TheVariants.{ShapeDiffers}
use Rattle.cir_meaning.specs.Tried.{Where, Tried, next, needed}
use Rattle.cir_meaning.specs.Arrays.{Datum, Want, fits}
use Rattle.cir_meaning.specs.Source.{Equation}
use Rattle.cir_meaning.specs.Frame.{Context, State, World}
use Rattle.cir_meaning.specs.Evaluate.{call_known}
use Rattle.cir_arrays.specs.declared.arrays.Datum.{Datum as CodeDatum}
use Rattle.cir_frame.specs.declared.frame.Frame.{Frame}
use Rattle.cir_frame.specs.declared.world.World.{World as CodeWorld}
use Rattle.cir_arrays.specs.declared.stop.Fault.{Fault}
use Rattle.cir_arrays.specs.Counted.{counts_of}
use Rattle.cir_arrays.specs.Stopped.{Gives}
use Rattle.cir_arrays.specs.Shown.{datum_of}
use Rattle.cir_frame.specs.Shown.{frame_of, state_of, world_of}

-- only the world of a state is another one
pub same_state : (f : Frame) (old new : CodeWorld) (qs : List Equation) → new.added ≡ old.added
    → record (state_of f old qs) { world = world_of new qs } ≡ state_of f new qs
same_state f old new qs e =
    ap (λ c. record { frame = frame_of f (counts_of c); world = world_of new qs }) (sym e)

tested : (r : Result CodeDatum Fault) (test : Bool) (w : Where) (kind : Kind) (d : Datum)
    (s : State) → Gives datum_of r (needed test w kind (Ok d))
    → Gives {B = Datum × State} (λ x. (datum_of x, s)) r (needed test w kind (Ok (d, s)))
tested (Ok x) true w kind d s h = cc
tested (Ok x) false w kind d s h = absurd (cc)
tested (Err f) true w kind d s h = h
tested (Err f) false w kind d s h = h

pub called_gives : (r : Result CodeDatum Fault) (k : Context) (w : Where) (want : Want) (f : ℕ)
    (ds : List Datum) (s s2 : State) (d : CodeDatum) (world : World)
    → k.call w f ds s.world ≡ Ok (datum_of d, world) → record s { world = world } ≡ s2
    → Gives datum_of r (needed (fits want (datum_of d).dims) w ShapeDiffers (Ok (datum_of d)))
    → Gives {B = Datum × State} (λ x. (datum_of x, s2)) r (call_known k w want (Function f) ds s)
called_gives r k w want f ds s s2 d world e same h =
    let test : Bool = fits want (datum_of d).dims in
    let go : Datum × World → Tried (Datum × State) =
    λ (x, world). needed (fits want x.dims) w ShapeDiffers (Ok (x, record s { world = world })) in
    let step : call_known k w want (Function f) ds s
    ≡ needed test w ShapeDiffers (Ok (datum_of d, s2)) =
    ap (λ x. next x go) e ∙ ap (λ z. needed test w ShapeDiffers (Ok (datum_of d, z))) same in
    let P : Tried (Datum × State) → Type 0 = Gives {B = Datum × State} (λ x. (datum_of x, s2)) r in
    subst P (sym step) (tested r test w ShapeDiffers (datum_of d) s2 h)
