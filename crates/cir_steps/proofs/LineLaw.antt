-- The numbers of each log line of a circuit are in cells that its step writes.
use Rattle.std.proofs.Common.{◌≡◌, ℕ, Bool, false, List, [], ◌∷◌, ◌++◌, Option, Some, None, Ok}
use Rattle.std.proofs.Common.{refl, sym, subst, slice_get, length}
use Rattle.std.specs.Prelude.{not, ◌&&◌}
use Rattle.std.specs.List.{AllByRecursion}
use Rattle.cir_ast.specs.declared.program.Meant.{Meant}
use Rattle.cir_ast.specs.Tree.{Expr, Accessors, Assign}
use Rattle.cir_ast.specs.Program.{Program}
use Rattle.cir_meaning.specs.Tried.{Where}
use Rattle.cir_meaning.specs.Frame.{Signals, Part, World, State, is_fed}
use Rattle.cir_meaning.specs.Writing.{SignalAssignment, signals_of}
use Rattle.cir_meaning.specs.Declaring.{Creation}
use Rattle.cir_meaning.proofs.Good.{either}
use Rattle.cir_meaning.proofs.KnownCalls.{all_get}
use Rattle.cir_meaning.proofs.Rows.{all_append}
use Rattle.cir_steps.specs.Step.{Step}
use Rattle.cir_steps.specs.Emission.{Emission, Emitted, known_in, with_state, waiting_steps}
use Rattle.cir_steps.specs.Emission.{steps_in}
use Rattle.cir_steps.specs.Making.{Cast, Emitting, wiring, freed, freed_at}
use Rattle.cir_steps.specs.Emit.{make_wiring}
use Rattle.cir_steps.specs.Circuit.{Circuit, circuit_with}
use Rattle.cir_steps.specs.Lines.{AreLinesOf}
use Rattle.cir_steps.proofs.Templates.{AreTemplates}
use Rattle.cir_steps.proofs.Following.{still_at}
use Rattle.cir_steps.proofs.Casting.{Bodies, cast_made}
use Rattle.cir_steps.proofs.Wiring.{wired_to}
use Rattle.cir_steps.proofs.CircuitGives.{circuit_has}

-- steps behind each other
lines_more : (xs ys : List Step) → AreLinesOf xs → AreLinesOf ys → AreLinesOf (xs ++ ys)
lines_more [] ys h g = g
lines_more (x ∷ xs) ys h g = (h.0, lines_more xs ys h.1 g)

-- and those that wait
abbrev AreWaiting : Emission → Type 0
AreWaiting x = AllByRecursion AreLinesOf x.bodies

freed_lines : (part : Option ℕ) (was : Bool) (x : Emission) → AreWaiting x
    → AreLinesOf (freed_at part was x)
freed_lines None was x h = tt
freed_lines (Some j) was x h = at (slice_get (known_in x).frame.parts j)
  where
    waiting : (o : Option (List Step)) → slice_get x.bodies j ≡ o → AreLinesOf (steps_in o)
    waiting None is = tt
    waiting (Some steps) is = all_get AreLinesOf x.bodies j steps h is

    at : (o : Option Part) → AreLinesOf (freed j was o x)
    at None = tt
    at (Some p) =
        either AreLinesOf (not was && is_fed p.signals) (waiting_steps x j) []
        (waiting (slice_get x.bodies j) refl) tt

abbrev Keeps : Emission → Emitted → Type 0
Keeps x y = AreWaiting x → AreLinesOf y.steps × AreWaiting y.state

abbrev Gives : (start : ℕ) → World → Signals × World → Cast → Type 0
Gives start world z o = AreLinesOf o.steps

wiring_lines : (q : Emitting) (w : Where) (written : Assign Meant) (accessors : Accessors Meant)
    (e : Expr Meant) (x : Emission) (b : SignalAssignment) (s : State) (y : Emitted)
    (places : List ℕ) → make_wiring q w written accessors e b s places x ≡ Ok y → Keeps x y
wiring_lines q w written accessors e x b s y [] made h =
    let same : still_at s x ≡ y = cc in subst (λ y. AreLinesOf y.steps × AreWaiting y.state) same
    (tt, h)
wiring_lines q w written accessors e x b s y (place ∷ places) made h =
    let same : wired_to q w written accessors e x b s ≡ y = cc in
    subst (λ y. AreLinesOf y.steps × AreWaiting y.state) same (
      lines_more (wiring q.context w written accessors e b x ∷ steps) [] (
        tt,
        freed_lines
            b.target.part (is_fed (signals_of b.target.part (known_in x).frame)) (with_state s x) h,
      ) tt,
      h,
    )
  where
    steps : List Step
    steps =
        freed_at b.target.part (is_fed (signals_of b.target.part (known_in x).frame))
        (with_state s x)

creating_lines : (q : Emitting) (w : Where) (d : Creation) (place : ℕ) (a : Signals × World)
    (o : Cast) (x : Emission) → AreLinesOf o.steps → Keeps x (cast_made q w d place a o x)
creating_lines q w d place a o x made h = (
  lines_more (freed_at (Some (length x.bodies)) false y) []
      (freed_lines (Some (length x.bodies)) false y waits) tt,
  waits,
)
  where
    y : Emission
    y = (cast_made q w d place a o x).state

    waits : AreWaiting y
    waits = all_append AreLinesOf x.bodies (o.steps ∷ []) h (made, tt)

lines : (size : ℕ) → Bodies size Keeps Gives
lines size = record {
  keeps = record {
    still = λ x s moves h. (tt, h);
    joins = λ x y z f g h. (lines_more y.steps z.steps (f h).0 (g (f h).1).0, (g (f h).1).1);
  };
  fresh = λ x y step f h. ((f.line, tt), subst (AllByRecursion AreLinesOf) (sym f.bodies) h);
  declared = λ k sized spot direction n name dims x clear h. (tt, h);
  wiring = λ q calls w written m accessors a e x b s y is set made.
      wiring_lines q w written accessors e x b s y b.target.reach.places made;
  creating = λ q w c place a o x moves given. creating_lines q w c place a o x given;
  ends = λ k t ds path world start y z h sized empty is. (h tt).0;
}

pub circuit_lines : (size : ℕ) (p : Program) → AreTemplates p → (b : Circuit)
    → circuit_with size p ≡ Ok b → AreLinesOf b.steps
circuit_lines size p plain b is =
    circuit_has size Keeps Gives (lines size) p plain (λ b. AreLinesOf b.steps)
    (λ m z o h. h.gives) b is
