-- What assignments, declarations and creations leave is fine too.
use Rattle.std.proofs.Common.{◌≡◌, ℕ, ◌+◌, false, not, is_none, List, [], ◌∷◌, Option, Some, None}
use Rattle.std.proofs.Common.{refl, slice_get}
use Rattle.std.specs.List.{AllByRecursion}
use Rattle.cir_ast.specs.declared.program.Meant.{Meant}
use Rattle.cir_ast.specs.declared.operators.Arrow.{Arrow}
use Rattle.cir_ast.specs.declared.operators.Arrow.TheVariants.{Assign as AssignArrow}
use Rattle.cir_ast.specs.declared.operators.Arrow.TheVariants.{Constrain as ConstrainArrow}
use Rattle.cir_ast.specs.declared.refusal.Kind.{Kind}
use Rattle.cir_ast.specs.declared.refusal.Form.TheVariants.{MixedComponents}
use Rattle.cir_ast.specs.declared.refusal.Kind.TheVariants.{UnknownIndex, ReadBeforeWrite}
use Rattle.cir_ast.specs.declared.refusal.Kind.TheVariants.{SecondWrite, ShapeDiffers, TooDeep}
use Rattle.cir_ast.specs.declared.refusal.Kind.TheVariants.{NotInProfile}
use Rattle.cir_ast.specs.Tree.{Expr, Accessors}
use Rattle.cir_lc.specs.Number.{signal}
use Rattle.cir_meaning.specs.Tried.{Where, Tried, next, found}
use Rattle.cir_meaning.specs.Limits.{limits, tested, plus}
use Rattle.cir_meaning.specs.Places.{all_known}
use Rattle.cir_meaning.specs.Arrays.{Datum, Scalar, Whole, Reach, reach, same_dims, put_items}
use Rattle.cir_meaning.specs.Arrays.{forgotten}
use Rattle.cir_meaning.specs.Values.{Value, Linear, Opaque, IsValue, Parts, difference_of, parts_of}
use Rattle.cir_meaning.specs.Source.{IsDifference}
use Rattle.cir_meaning.specs.Frame.{Signals, Part, Frame, State, Context, Maker, is_written}
use Rattle.cir_meaning.specs.Frame.{entry_at, variable_at, adding, settle, counted, one_statement}
use Rattle.cir_meaning.specs.Evaluate.{value_in, arguments_in}
use Rattle.cir_meaning.specs.Writing.{put_variable, written_datum, VariableAssignment}
use Rattle.cir_meaning.specs.Writing.{variable_assignment, write_variable, Target}
use Rattle.cir_meaning.specs.Writing.{with_part_signals, with_signals, target_in, write_element}
use Rattle.cir_meaning.specs.Writing.{appended, constrained, constrained_by, write_elements}
use Rattle.cir_meaning.specs.Writing.{SignalAssignment, signal_assignment, write_signal}
use Rattle.cir_meaning.specs.Declaring.{Creation, creation, may_be, template_of, path_of, create_at}
use Rattle.cir_meaning.specs.Declaring.{create_each, create}
use Rattle.cir_meaning.specs.Costs.{Cost}
use Rattle.cir_meaning.specs.Functions.{function_fault, function_elements}
use Rattle.cir_meaning.specs.Steps.{unless_faulty, with_step, stepped}
use Rattle.cir_meaning.proofs.Difference.{difference_is}
use Rattle.cir_meaning.proofs.Good.{OnGood, good_ok, good_bad, good_next, good_on, good_needed}
use Rattle.cir_meaning.proofs.Good.{either, OnSome'}
use Rattle.cir_meaning.proofs.Rows.{all_map, all_set, all_append, all_put}
use Rattle.cir_meaning.proofs.FineValues.{IsDatum, FineFrame, FineWorld, Fine, FineAnswer}
use Rattle.cir_meaning.proofs.FineValues.{FineAnswers, FineMake, FineContext, variable_datum}
use Rattle.cir_meaning.proofs.FineValues.{known_fine, signal_value, value_fine, arguments_fine}
use Rattle.cir_meaning.proofs.FineValues.{indices_fine}
use Rattle.cir_meaning.proofs.ValueKeepings.{target_kept, template_call_good}

-- counting changes nothing else
pub settle_fine : (w : Where) (s : State) → Fine s → OnGood Fine (settle w s)
settle_fine w s g =
    good_on Fine (tested limits w (plus s.world.counts s.frame.added)) _ (λ c. good_ok Fine _ g)

pub counted_fine : (w : Where) (s : State) → Fine s → OnGood Fine (counted w s)
counted_fine w s g = settle_fine w (adding one_statement s) g

unless_fine : (w : Where) (o : Option Kind) (go : Tried State) → OnGood Fine go
    → OnGood Fine (unless_faulty w o go)
unless_fine w (Some kind) go h = good_bad Fine _
unless_fine w None go h = h

pub stepped_fine : (k : Context) (w : Where) (cost : Cost) (cells : ℕ) (s : State) → Fine s
    → OnGood Fine (stepped k w cost cells s)
stepped_fine k w cost cells s g =
    unless_fine w (function_fault k.program cost.calls) _
    (good_ok Fine (adding (with_step cost cells (function_elements k.program cost.calls)) s) g)

-- variables
pub set_fine : (n : ℕ) (d : Datum) (s : State) → IsDatum d → Fine s → Fine (put_variable n d s)
set_fine n d s h g = (all_set IsDatum s.frame.variables n d g.0 h, g.1)

pub forgotten_fine : (d : Datum) → IsDatum (forgotten d)
forgotten_fine d = all_map IsValue (λ v. Opaque) d.items (λ v. tt)

written_fine : (old : Datum) (r : Reach) (d : Datum) → IsDatum old → IsDatum d
    → IsDatum (written_datum old r d)
written_fine old r d h i =
    either IsDatum r.is_sure record {
      dims = old.dims;
      items = put_items r.places d.items
          old.items;
    }
    (forgotten old) (all_put IsValue r.places d.items old.items i h) (forgotten_fine old)

abbrev pub FineAssignment : VariableAssignment → Type 0
FineAssignment a = IsDatum a.value × Fine a.state

abbrev pub FineSignal : SignalAssignment → Type 0
FineSignal a = IsDatum a.value × Fine a.state

abbrev pub FineCreation : Creation → Type 0
FineCreation c = AllByRecursion IsDatum c.arguments × Fine c.state

pub write_fine : (n : ℕ) (a : VariableAssignment) → FineAssignment a → Fine (write_variable n a)
write_fine n a h =
    set_fine n _ a.state (written_fine (variable_at a.state.frame n) a.reach a.value
    (variable_datum a.state.frame n h.1.0) h.0) h.1

-- signals hold no values
part_signals_fine : (j : ℕ) (signals : Signals) (p : Option Part) (f : Frame) → FineFrame f
    → FineFrame (with_part_signals j signals p f)
part_signals_fine j signals None f g = g
part_signals_fine j signals (Some p) f g = g

signals_fine : (part : Option ℕ) (signals : Signals) (f : Frame) → FineFrame f
    → FineFrame (with_signals part signals f)
signals_fine None signals f g = g
signals_fine (Some j) signals f g = part_signals_fine j signals (slice_get f.parts j) f g

write_element_fine : (w : Where) (t : Target) (place : ℕ) (s : State) → Fine s
    → OnGood (λ x. Fine x.1) (write_element w t place s)
write_element_fine w t place s g =
    good_on (λ x. Fine x.1) _ _ (λ e. good_needed (λ x. Fine x.1) (not (is_written e place)) w
    SecondWrite _
    (good_ok (λ x. Fine x.1) _ (signals_fine t.part _ s.frame g.0, g.1)))

-- equations are of differences
appended_fine : (k : Context) (w : Where) (x y : Value) (s : State) (o : Option Parts)
    → parts_of (difference_of x y) ≡ o → IsValue x → IsValue y → Fine s
    → OnGood Fine (appended k w x y s o)
appended_fine k w x y s None e h i g = good_bad Fine _
appended_fine k w x y s (Some p) e h i g =
    good_ok Fine _ (
      g.0,
      all_append IsDifference s.world.equations _ g.1
          (difference_is x y p h i e, tt),
    )

pub constrained_fine : (k : Context) (w : Where) (x y : Value) (s : State) → IsValue x → IsValue y
    → Fine s → OnGood Fine (constrained k w x y s)
constrained_fine k w x y s h i g = appended_fine k w x y s (parts_of (difference_of x y)) refl h i g

constrained_by_fine : (k : Context) (w : Where) (arrow : Arrow) (x y : Value) (s : State)
    → IsValue x → IsValue y → Fine s
    → OnGood Fine (constrained_by k w arrow x y s)
constrained_by_fine k w AssignArrow x y s h i g = good_ok Fine s g
constrained_by_fine k w ConstrainArrow x y s h i g = constrained_fine k w x y s h i g

elements_fine : (k : Context) (w : Where) (arrow : Arrow) (t : Target) (places : List ℕ)
    (vs : List Value) (s : State)
    → AllByRecursion IsValue vs → Fine s
    → OnGood Fine (write_elements k w arrow t places vs s)
elements_fine k w arrow t [] vs s h g = good_ok Fine s g
elements_fine k w arrow t (place ∷ places) [] s h g = good_ok Fine s g
elements_fine k w arrow t (place ∷ places) (v ∷ vs) s h g =
    good_next (λ x. Fine x.1) Fine (write_element w t place s) _ (write_element_fine w t place s g)
    (λ x g1.
    good_next Fine Fine (constrained_by k w arrow (Linear (signal (x.0.first + place))) v x.1) _
    (constrained_by_fine k w arrow (Linear (signal (x.0.first + place))) v x.1
    (signal_value (x.0.first + place)) h.0 g1) (λ s2 g2.
    elements_fine k w arrow t places vs s2 h.1 g2))

pub write_signal_fine : (k : Context) (w : Where) (arrow : Arrow) (a : SignalAssignment)
    → FineSignal a → OnGood Fine (write_signal k w arrow a)
write_signal_fine k w arrow a h =
    elements_fine k w arrow a.target a.target.reach.places a.value.items a.state h.0 h.1

module _ (k : Context) (fine : FineContext k) where
  pub assignment_fine : (w : Where) (n : ℕ) (accessors : Accessors Meant) (e : Expr Meant)
      (s : State)
      → Fine s → OnGood FineAssignment (variable_assignment k w n accessors e s)
  assignment_fine w n accessors e s g =
      good_next FineAnswer FineAssignment (value_in k w false Whole e s) _
      (value_fine k fine w false Whole e s g) (λ x p.
      indices_fine k fine FineAssignment w false [] accessors x.1 _ p.1 (λ indices rest s2 g2.
      good_on FineAssignment (reach w false Whole (variable_at s2.frame n).dims indices) _ (λ r.
      good_needed FineAssignment (same_dims r.left x.0.dims) w ShapeDiffers _
      (good_ok FineAssignment record { value = x.0; reach = r; state = s2 } (p.0, g2)))))

  pub signal_assignment_fine : (w : Where) (m : Meant) (accessors : Accessors Meant)
      (e : Expr Meant) (s : State)
      → Fine s
      → OnGood FineSignal (signal_assignment k w m accessors e s)
  signal_assignment_fine w m accessors e s g =
      good_next FineAnswer FineSignal (value_in k w false Whole e s) _
      (value_fine k fine w false Whole e s g) (λ x p.
      good_next (λ x. Fine x.1) FineSignal (target_in k w m accessors x.1) _
      (target_kept k Fine (known_fine k fine false) w m accessors x.1 p.1) (λ t q.
      good_needed FineSignal (same_dims t.0.reach.left x.0.dims) w ShapeDiffers _
      (good_ok FineSignal record { value = x.0; target = t.0; state = t.1 } (p.0, q))))

  pub creation_fine : (w : Where) (n : ℕ) (accessors : Accessors Meant) (e : Expr Meant) (s : State)
      → Fine s → OnGood FineCreation (creation k w n accessors e s)
  creation_fine w n accessors e s g =
      template_call_good FineCreation w e _ (λ t arguments.
      good_next FineAnswers FineCreation (arguments_in k w arguments s) _
      (arguments_fine k fine w arguments s g) (λ x p.
      indices_fine k fine FineCreation w false [] accessors x.1 _ p.1 (λ indices rest s2 g2.
      good_on FineCreation (found w ReadBeforeWrite (entry_at s2.frame.components n)) _ (λ c.
      good_on FineCreation (found w UnknownIndex (all_known indices)) _ (λ numbers.
      good_on FineCreation (reach w false Scalar c.dims indices) _ (λ r.
      good_ok FineCreation record {
        component = n;
        entry = c;
        indices = numbers;
        places = r.places;
        template = t;
        arguments = x.0;
        state = s2;
      } (p.0, g2)))))))

  with_make : {B : Type 0} (Q : B → Type 0) (w : Where) (o : Option Maker) (go : Maker → Tried B)
      → OnSome' FineMake o
      → ((make : Maker) → FineMake make → OnGood Q (go make)) → OnGood Q
      (next (found w TooDeep o) go)
  with_make Q w None go h f = good_bad Q _
  with_make Q w (Some make) go h f = f make h

  create_at_fine : (w : Where) (c : Creation) (place : ℕ) → FineCreation c
      → OnGood Fine (create_at k w c place)
  create_at_fine w c place h =
      good_needed Fine (is_none (entry_at c.entry.parts place)) w SecondWrite _
      (with_make Fine w k.make _ fine.make (λ make m.
      good_needed Fine (may_be c.template (template_of c.state.frame.parts c.entry.parts)) w
      (NotInProfile MixedComponents) _
      (good_next (λ x. FineWorld x.1) Fine (make w c.template c.arguments
      (path_of k c.entry c.indices) c.state.world) _
      (m w c.template c.arguments (path_of k c.entry c.indices) c.state.world h.0 h.1.1)
      (λ x p. good_ok Fine _ (h.1.0, p)))))

  create_each_fine : (w : Where) (c : Creation) (places : List ℕ) → FineCreation c
      → OnGood Fine (create_each k w c places)
  create_each_fine w c [] h = good_ok Fine c.state h.1
  create_each_fine w c (place ∷ places) h = create_at_fine w c place h

  pub create_fine : (w : Where) (c : Creation) → FineCreation c → OnGood Fine (create k w c)
  create_fine w c h = create_each_fine w c c.places h
