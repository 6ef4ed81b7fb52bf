-- The step of what a condition that isn't known leaves.
use Rattle.std.proofs.Common.{◌≡◌, ◌∙◌, ℕ, List, None, ap, map, sym}
use Rattle.cir_ast.specs.declared.program.Spot.{Spot}
use Rattle.cir_ast.specs.declared.program.Meant.{Meant}
use Rattle.cir_ast.specs.Tree.{Statement}
use Rattle.cir_meaning.specs.Tried.{Where}
use Rattle.cir_meaning.specs.Arrays.{Datum}
use Rattle.cir_meaning.specs.Frame.{Context, State}
use Rattle.cir_meaning.specs.Places.{numbers_from}
use Rattle.cir_meaning.specs.Source.{Equation}
use Rattle.cir_meaning.specs.Steps.{undecided_cost}
use Rattle.cir_meaning.specs.Unknown.{outer_assigned}
use Rattle.cir_arrays.specs.Shown.{datum_of}
use Rattle.cir_frame.specs.declared.frame.Frame.{Frame}
use Rattle.cir_frame.specs.declared.world.World.{World}
use Rattle.cir_frame.specs.Shown.{state_of}
use Rattle.cir_steps.specs.Emission.{Emission, known_in, step_of}
use Rattle.cir_steps.specs.Making.{count_of, wanted_of}
use Rattle.cir_steps.specs.Step as S
use Rattle.cir_steps.specs.Step.{Deciding}
use Rattle.cir_make.specs.declared.make.Before.{Before}
use Rattle.cir_make.specs.Steps.{StandsBehind, put_before}
use Rattle.cir_body.specs.Undone.{left_step, put_back}
use Rattle.cir_body.proofs.Scanning.{Moved, touched_in}
use Rattle.cir_body.proofs.Undoing.{undone}

-- it stands behind the execution, and its variables did before it
pub stands_left : (f g : Frame) (old new : World) (qs : List Equation) (x : Emission) (s : State)
    (a : Statement Spot Meant) (befores : List Before) → known_in x ≡ state_of f old qs
    → Moved (state_of f old qs).frame (touched_in a) (state_of g new qs)
    → s.frame.variables ≡ map datum_of g.variables.items
    → s.frame.signals ≡ (state_of g new qs).frame.signals
    → s.frame.parts ≡ (state_of g new qs).frame.parts
    → ((ds : List Datum) → put_before befores ds
    ≡ put_back (touched_in a) (map datum_of f.variables.items) ds)
    → StandsBehind f x s befores
stands_left f g old new qs x s a befores known moved variables signals parts back = record {
  shown = ap (λ (z : State). z.frame.variables) known;
  variables = ap (λ (z : State). z.frame.variables) known
      ∙ sym (undone (touched_in a) (map datum_of f.variables.items)
      (map datum_of g.variables.items) moved.0)
      ∙ sym (back (map datum_of g.variables.items))
      ∙ ap (put_before befores) (sym variables);
  signals = ap (λ (z : State). z.frame.signals) known ∙ sym (signals ∙ moved.1);
  parts = ap (λ (z : State). z.frame.parts) known ∙ sym (parts ∙ moved.2);
}

pub step_left : (k : Context) (w : Where) (a : Statement Spot Meant) (s : State) (x : Emission)
    (wanted : List S.Elements) (targets : List ℕ) (next : ℕ)
    → wanted ≡ wanted_of (outer_assigned a) (known_in x)
    → targets ≡ numbers_from next (count_of (wanted_of (outer_assigned a) (known_in x)))
    → x.next ≡ next
    → step_of k w s (undecided_cost k w a (known_in x) s) (Deciding a wanted) targets None x
    ≡ left_step k w a s x
step_left k w a s x wanted targets next is are from =
    ap (λ (l : List S.Elements). step_of k w s (undecided_cost k w a (known_in x) s)
    (Deciding a l) targets None x) is
    ∙ ap (λ (l : List ℕ). step_of k w s (undecided_cost k w a (known_in x) s)
    (Deciding a (wanted_of (outer_assigned a) (known_in x))) l None x)
    (are ∙ ap (λ (n : ℕ). numbers_from n
    (count_of (wanted_of (outer_assigned a) (known_in x)))) (sym from))
