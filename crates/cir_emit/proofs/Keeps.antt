-- The execution of a body keeps values of the field, and room for its variables.
use Rattle.std.proofs.Common.{◌≡◌, ℕ, Bool, List, [], ◌∷◌, length, Option, Some, None, refl, ap}
use Rattle.std.proofs.Common.{slice_get, ◌≤◌, ◌+◌, Ok, arith, false}
use Rattle.std.specs.Prelude.{⊤, not, is_none}
use Rattle.cir_ast.specs.declared.operators.Arrow.{Arrow}
use Rattle.cir_ast.specs.declared.operators.Arrow.TheVariants as arrow
use Rattle.cir_ast.specs.declared.program.Meant.{Meant}
use Rattle.cir_ast.specs.declared.refusal.Form.TheVariants.{MixedComponents}
use Rattle.cir_ast.specs.declared.refusal.Kind.{Kind}
use Rattle.cir_ast.specs.declared.refusal.Kind.TheVariants.{NotInProfile, SecondWrite, TooDeep}
use Rattle.cir_ast.specs.Tree.{Expr, Accessors, Assign}
use Rattle.cir_lc.specs.Number.{signal}
use Rattle.cir_meaning.specs.Tried.{Where, next, found}
use Rattle.cir_meaning.specs.Arrays.{Datum, Whole, filled, forgotten}
use Rattle.cir_meaning.specs.Values.{Value, Known, Linear, Opaque, Parts, difference_of, parts_of}
use Rattle.cir_meaning.specs.Costs.{Cost}
use Rattle.cir_meaning.specs.Frame.{Signals, Part, Frame, State, Context, variable_at, settle}
use Rattle.cir_meaning.specs.Frame.{entry_at, is_written, counted, adding, put_at}
use Rattle.cir_meaning.specs.Functions.{function_fault, function_elements}
use Rattle.cir_meaning.specs.Evaluate.{value_in}
use Rattle.cir_meaning.specs.Simple as simple
use Rattle.cir_meaning.specs.Statement.{Returned}
use Rattle.cir_meaning.specs.Declaring.{Creation, creation, create, create_each, may_be}
use Rattle.cir_meaning.specs.Declaring.{template_of, path_of}
use Rattle.cir_meaning.specs.Writing.{variable_assignment, is_unknown, write_variable}
use Rattle.cir_meaning.specs.Writing.{with_part_signals, with_signals, Target, write_element}
use Rattle.cir_meaning.specs.Writing.{appended, constrained_by, write_elements, signal_assignment}
use Rattle.cir_meaning.specs.Writing.{write_signal, put_variable, marked, signals_of, constrained}
use Rattle.cir_meaning.specs.Steps.{stepped, unless_faulty, with_step, new_cells, variable_cost}
use Rattle.cir_meaning.specs.Steps.{signal_cost, equal_cost}
use Rattle.cir_meaning.proofs.Good.{OnGood, good_ok, good_bad, good_next, good_on, good_needed}
use Rattle.cir_meaning.proofs.Good.{either}
use Rattle.cir_meaning.proofs.Keepings.{Keeping, FlowIs}
use Rattle.cir_meaning.proofs.Likes.{CallKeeps, Like}
use Rattle.cir_meaning.proofs.PartWrites.{set_count}
use Rattle.cir_meaning.proofs.ValueKeepings.{Valued, scalar_kept, assignment_kept, creation_kept}
use Rattle.cir_meaning.proofs.ValueKeepings.{signal_assignment_kept}
use Rattle.cir_meaning.specs.Limits.{limits, tested, plus}
use Rattle.cir_meaning.proofs.Pairs.{good_both}
use Rattle.cir_meaning.proofs.Scans.{like_valued}
use Rattle.cir_meaning.proofs.FineValues.{Fine, FineContext, known_fine, filled_datum, zero_value}
use Rattle.cir_meaning.proofs.FineWriting.{settle_fine, stepped_fine, set_fine, forgotten_fine}
use Rattle.cir_meaning.proofs.FineWriting.{FineCreation, creation_fine, create_fine}
use Rattle.cir_meaning.proofs.FineStatements.{set_variable_fine, set_signal_fine, equal_fine}

abbrev pub HasRoom : (room : ℕ) → State → Type 0
HasRoom room s = room ≤ length s.frame.variables

signals_count : (part : Option ℕ) (signals : Signals) (f : Frame)
    → length (with_signals part signals f).variables ≡ length f.variables
signals_count None signals f = refl
signals_count (Some j) signals f = at (slice_get f.parts j)
  where
    at : (o : Option Part) → length (with_part_signals j signals o f).variables
        ≡ length f.variables
    at None = refl
    at (Some p) = refl

module _ (room : ℕ) where
  abbrev Room : State → Type 0
  Room = HasRoom room

  pub room_set : (n : ℕ) (d : Datum) (s : State) → Room s → Room (put_variable n d s)
  room_set n d s h = omega (arith, set_count s.frame.variables n d, h)

  pub room_settle : (w : Where) (s : State) → Room s → OnGood Room (settle w s)
  room_settle w s h =
      good_on Room (tested limits w (plus s.world.counts s.frame.added)) _ (λ c. good_ok Room _ h)

  pub room_step : (k : Context) (w : Where) (cost : Cost) (cells : ℕ) (s : State) → Room s
      → OnGood Room (stepped k w cost cells s)
  room_step k w cost cells s h = at (function_fault k.program cost.calls)
    where
      at : (o : Option Kind) → OnGood Room (unless_faulty w o
          (Ok (adding (with_step cost cells (function_elements k.program cost.calls)) s)))
      at None = good_ok Room _ h
      at (Some kind) = good_bad Room _

  module _ (k : Context) (keeps : CallKeeps k.call) where
    room_like : (f s : State) → Like f s → Room f → Room s
    room_like f s l h = omega (arith, ap (λ (vs : List Datum). length vs) l.0, h)

    pub value_room : (shaded : Bool) → Valued k Room shaded
    value_room shaded = like_valued k keeps Room room_like shaded

    pub set_variable_room : (w : Where) (written : Assign Meant) (n : ℕ)
        (accessors : Accessors Meant)
        (e : Expr Meant) (s : State) → Room s
        → OnGood Room (simple.set_variable k w written n accessors e s)
    set_variable_room w written n accessors e s h =
        good_next (λ a. Room a.state) Room (variable_assignment k w n accessors e s) _
        (assignment_kept k Room (value_room false) w n accessors e s h) (λ a g.
        either (OnGood Room) (is_unknown n a) _ _
        (room_step k w (variable_cost k w written n accessors e a s) (new_cells n a)
        (write_variable n a) (room_set n _ a.state g))
        (good_ok Room (write_variable n a) (room_set n _ a.state g)))

    element_room : (w : Where) (t : Target) (place : ℕ) (s : State) → Room s
        → OnGood (λ x. Room x.1) (write_element w t place s)
    element_room w t place s h =
        good_on (λ x. Room x.1) _ _ (λ e.
        good_needed (λ x. Room x.1) (not (is_written e place)) w SecondWrite _
        (good_ok (λ x. Room x.1) _ (omega (
          arith,
          signals_count t.part (put_at t.number (marked e place) (signals_of t.part s.frame))
              s.frame,
          h,
        ))))

    constrained_room : (w : Where) (x y : Value) (s : State) → Room s
        → OnGood Room (constrained k w x y s)
    constrained_room w x y s h = at (parts_of (difference_of x y))
      where
        at : (o : Option Parts) → OnGood Room (appended k w x y s o)
        at None = good_bad Room _
        at (Some p) = good_ok Room _ h

    constrained_by_room : (w : Where) (a : Arrow) (x y : Value) (s : State) → Room s
        → OnGood Room (constrained_by k w a x y s)
    constrained_by_room w arrow.Assign x y s h = good_ok Room s h
    constrained_by_room w arrow.Constrain x y s h = constrained_room w x y s h

    elements_room : (w : Where) (a : Arrow) (t : Target) (places : List ℕ) (vs : List Value)
        (s : State) → Room s → OnGood Room (write_elements k w a t places vs s)
    elements_room w a t [] vs s h = good_ok Room s h
    elements_room w a t (place ∷ places) [] s h = good_ok Room s h
    elements_room w a t (place ∷ places) (v ∷ vs) s h =
        good_next (λ x. Room x.1) Room (write_element w t place s) _ (element_room w t place s h)
        (λ x g.
        good_next Room Room (constrained_by k w a (Linear (signal (x.0.first + place))) v x.1) _
        (constrained_by_room w a (Linear (signal (x.0.first + place))) v x.1 g)
        (λ s2 i. elements_room w a t places vs s2 i))

    wired_room : (w : Where) (cost : Cost) (places : List ℕ) (s : State) → Room s
        → OnGood Room (simple.wired k w cost places s)
    wired_room w cost [] s h = good_ok Room s h
    wired_room w cost (place ∷ places) s h = room_step k w cost 0 s h

    pub set_signal_room : (w : Where) (written : Assign Meant) (m : Meant)
        (accessors : Accessors Meant)
        (a : Arrow) (e : Expr Meant) (s : State) → Room s
        → OnGood Room (simple.set_signal k w written m accessors a e s)
    set_signal_room w written m accessors a e s h =
        good_next (λ b. Room b.state) Room (signal_assignment k w m accessors e s) _
        (signal_assignment_kept k Room (value_room false) w m accessors e s h) (λ b g.
        good_next Room Room (write_signal k w a b) _
        (elements_room w a b.target b.target.reach.places b.value.items b.state g)
        (λ t i. wired_room w (signal_cost k w written accessors e s) b.target.reach.places t i))

    pub equal_room : (w : Where) (a b : Expr Meant) (s : State) → Room s
        → OnGood Room (simple.equal k w a b s)
    equal_room w a b s h =
        scalar_kept k Room false (value_room false) Room w a s _ h (λ x s1 g.
        scalar_kept k Room false (value_room false) Room w b s1 _ g (λ y s2 i.
        good_next Room Room (constrained k w x y s2) _ (constrained_room w x y s2 i)
        (λ s3 j. room_step k w (equal_cost k w a b s) 0 s3 j)))

    pub create_room : (w : Where) (c : Creation) → Room c.state → OnGood Room (create k w c)
    create_room w c h = at c.places
      where
        at : (places : List ℕ) → OnGood Room (create_each k w c places)
        at [] = good_ok Room c.state h
        at (place ∷ places) =
            good_needed Room (is_none (entry_at c.entry.parts place)) w SecondWrite _
            (good_on Room (found w TooDeep k.make) _ (λ make.
            good_needed Room (may_be c.template (template_of c.state.frame.parts c.entry.parts)) w
            (NotInProfile MixedComponents) _
            (good_on Room (make w c.template c.arguments (path_of k c.entry c.indices)
            c.state.world) _ (λ a. good_ok Room _ h))))

    -- with values of the field
    module _ (fine : FineContext k) where
      abbrev pub Kept : State → Type 0
      Kept s = Fine s × Room s

      pub returns_kept : (w : Where) (e : Expr Meant) (s : State) → Kept s
          → OnGood (FlowIs Kept (λ d world. ⊤)) (next (value_in k w false Whole e s)
          (λ (d, s1). next (counted w s1) (λ s2. Ok (Returned d s2.world))))
      returns_kept w e s h =
          good_on (FlowIs Kept (λ d world. ⊤)) (value_in k w false Whole e s) _ (λ x.
          good_on (FlowIs Kept (λ d world. ⊤)) (counted w x.1) _
          (λ s2. good_ok (FlowIs Kept (λ d world. ⊤)) (Returned x.0 s2.world) tt))

      abbrev pub keeping : Keeping k
      keeping = record {
        Kept = Kept;
        Done = Kept;
        Gone = λ d world. ⊤;
        done = λ s h. h;
        value = λ w shaded want e s h.
            good_both (λ x. Fine x.1) (λ x. Room x.1) (value_in k w shaded want e s)
            (known_fine k fine shaded w want e s h.0) (value_room shaded w want e s h.1);
        settle = λ w s h. good_both Fine Room (settle w s) (settle_fine w s h.0)
            (room_settle w s h.1);
        statement = λ s h. h;
        step = λ w cost cells s h.
            good_both Fine Room (stepped k w cost cells s) (stepped_fine k w cost cells s h.0)
            (room_step k w cost cells s h.1);
        variable = λ n dims s h. (
          set_fine n (filled dims (Known 0)) s (filled_datum dims (Known 0) zero_value) h.0,
          room_set n (filled dims (Known 0)) s h.1,
        );
        scanned = λ n dims s h. (
          set_fine n (filled dims Opaque) s (filled_datum dims Opaque tt) h.0,
          room_set n (filled dims Opaque) s h.1,
        );
        forgotten = λ n s h. (
          set_fine n (forgotten (variable_at s.frame n)) s
              (forgotten_fine (variable_at s.frame n)) h.0,
          room_set n (forgotten (variable_at s.frame n)) s h.1,
        );
        signal = λ spot direction n name dims s h. h;
        component = λ n name dims s h. h;
        set_variable = λ w written n accessors e s h.
            good_both Fine Room (simple.set_variable k w written n accessors e s)
            (set_variable_fine k fine w written n accessors e s h.0)
            (set_variable_room w written n accessors e s h.1);
        set_signal = λ w written m accessors a e s h.
            good_both Fine Room (simple.set_signal k w written m accessors a e s)
            (set_signal_fine k fine w written m accessors a e s h.0)
            (set_signal_room w written m accessors a e s h.1);
        equal = λ w a b s h.
            good_both Fine Room (simple.equal k w a b s) (equal_fine k fine w a b s h.0)
            (equal_room w a b s h.1);
        create = λ w n accessors e s h.
            good_both Fine Room (next (creation k w n accessors e s) (create k w))
            (good_next FineCreation Fine (creation k w n accessors e s) (create k w)
            (creation_fine k fine w n accessors e s h.0) (create_fine k fine w))
            (good_next (λ c. Room c.state) Room (creation k w n accessors e s) (create k w)
            (creation_kept k Room (value_room false) w n accessors e s h.1) (create_room w));
        returns = returns_kept;
      }
