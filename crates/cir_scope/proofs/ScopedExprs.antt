-- In an expression that is used as it may be, each variable is in scope, and each call means a
-- function.
use Rattle.std.proofs.Common.{List, [], ◌∷◌, Option, Some, None}
use Rattle.std.specs.Prelude.{map}
use Rattle.std.specs.List.{AllByRecursion}
use Rattle.cir_ast.specs.declared.operators.Direction.{Direction}
use Rattle.cir_ast.specs.declared.operators.Direction.TheVariants as direction
use Rattle.cir_ast.specs.declared.program.Meant.{Meant}
use Rattle.cir_ast.specs.declared.program.Meant.TheVariants as meant
use Rattle.cir_ast.specs.Tree.{Expr, Number, Place, Call, Anonymous, Parentheses, Array, Unary}
use Rattle.cir_ast.specs.Tree.{Binary, Choice, Exprs, none, more, Accessors, done, index, member}
use Rattle.cir_ast.specs.Tree.{Inputs, Listed, Named, NamedInputs, unnamed, named, SignalValue}
use Rattle.cir_ast.specs.Tree.{Nothing, Given, Assign, Set, Compound, Left, Increment, Decrement}
use Rattle.cir_ast.specs.Tree.{LogArgument, Words, LogValue, Slot, SlotPlace, SlotDiscard, Target}
use Rattle.cir_ast.specs.Tree.{Source, One, Values}
use Rattle.cir_resolve.specs.Scope.{State, read_at, called_at}
use Rattle.cir_resolve.specs.Naming.{named_expr, named_exprs, named_accessors, named_inputs}
use Rattle.cir_resolve.specs.Naming.{named_each, named_value, named_signal_value, named_assign}
use Rattle.cir_resolve.specs.Naming.{named_argument, named_source}
use Rattle.cir_checks.specs.declared.positions.Room.{Room}
use Rattle.cir_checks.specs.declared.positions.Position.{Position}
use Rattle.cir_checks.specs.Faults.{Names, no_names, and_name}
use Rattle.cir_checks.specs.Heads.{Head, Table}
use Rattle.cir_checks.specs.Uses.{inward, on_the_right, count}
use Rattle.cir_checks.specs.Statements.{value_room, other_room, first_slot, other_slots, slots_of}
use Rattle.cir_checks.specs.Checked.{Each, IsValue, AreValues, AreIndices, AreInputs, AreNamed}
use Rattle.cir_checks.specs.Checked.{IsWhole, IsGiven, IsAssign, IsOptional, IsSignalValue}
use Rattle.cir_checks.specs.Checked.{IsArgument, IsSlotValue, AreSlotValues, IsSource}
use Rattle.cir_meaning.specs.Scoped.{Scope, IsSeen, AreCallsMeant, AreAllMeant, AreIndicesMeant}
use Rattle.cir_meaning.specs.Scoped.{AreInputsMeant, AreNamedMeant, IsSetMeant, IsAssignMeant}
use Rattle.cir_meaning.specs.Scoped.{IsOptionMeant, IsSignalValueMeant, IsSourceMeant}
use Rattle.cir_meaning.specs.Scoped.{IsArgumentMeant}
use Rattle.cir_scope.proofs.Agreement.{Agrees, is_seen, is_function}

module _ (t : Table) (s : Scope) (st : State) (a : Agrees t s st) where
  mutual
    pub meant_expr : {N : Type 0} (room : Room) (e : Expr N) → IsValue t room (named_expr st e)
        → AreCallsMeant s (named_expr st e)
    meant_expr room (Number n) h = tt
    meant_expr room (Place name m accessors) h =
        (is_seen t s st name a, meant_accessors room accessors h.1)
    meant_expr room (Call parallel name m arguments) h = (
      is_function t s.functions (called_at st name) (count (named_exprs st arguments)) a.functions
          h.0,
      meant_exprs (inward room) arguments h.1,
    )
    meant_expr room (Anonymous parallel name m arguments inputs) h =
        meant_inputs h.2.0 room inputs h.2.2
    meant_expr room (Parentheses e) h = meant_expr room e h
    meant_expr room (Array elements) h = meant_exprs room elements h
    meant_expr room (Unary op e) h = meant_expr room e h
    meant_expr room (Binary op e f) h =
        (meant_expr room e h.0, meant_expr (on_the_right op room) f h.1)
    meant_expr room (Choice c e f) h = (
      meant_expr room c h.0,
      meant_expr (inward room) e h.1,
      meant_expr (inward room) f h.2,
    )

    pub meant_exprs : {N : Type 0} (room : Room) (es : Exprs N)
        → AreValues t room (named_exprs st es) → AreAllMeant s (named_exprs st es)
    meant_exprs room none h = tt
    meant_exprs room (more e es) h = (meant_expr room e h.0, meant_exprs room es h.1)

    pub meant_accessors : {N : Type 0} (room : Room) (accessors : Accessors N)
        → AreIndices t room (named_accessors st accessors)
        → AreIndicesMeant s (named_accessors st accessors)
    meant_accessors room done h = tt
    meant_accessors room (index e rest) h =
        (meant_expr (inward room) e h.0, meant_accessors room rest h.1)
    meant_accessors room (member name rest) h = meant_accessors room rest h

    pub meant_inputs : {N : Type 0} (head : Head) (room : Room) (inputs : Inputs N)
        → AreInputs t head room (named_inputs st inputs) → AreInputsMeant s (named_inputs st inputs)
    meant_inputs head room (Listed es) h = meant_exprs room es h
    meant_inputs head room (Named is) h = meant_named head.is_input no_names room is h

    meant_named : {N : Type 0} (inputs earlier : Names) (room : Room) (is : NamedInputs N)
        → AreNamed t inputs earlier room (named_each st is) → AreNamedMeant s (named_each st is)
    meant_named inputs earlier room unnamed h = tt
    meant_named inputs earlier room (named name arrow e rest) h =
        (meant_expr room e h.2, meant_named inputs (and_name earlier name) room rest h.3)

  pub meant_option : {N : Type 0} (room : Room) (v : Option (Expr N))
      → IsOptional t room (named_value st v) → IsOptionMeant s (named_value st v)
  meant_option room None h = tt
  meant_option room (Some e) h = meant_expr room e h

  pub meant_signal_value : {N : Type 0} (p : Position) (d : Direction) (v : SignalValue N)
      → IsSignalValue t p d (named_signal_value st v)
      → IsSignalValueMeant s (named_signal_value st v)
  meant_signal_value p d Nothing h = tt
  meant_signal_value p direction.Input (Given arrow e) h = absurd h
  meant_signal_value p direction.Inner (Given arrow e) h = meant_expr (value_room p) e h
  meant_signal_value p direction.Output (Given arrow e) h = meant_expr (value_room p) e h

  pub meant_whole : {N : Type 0} (room : Room) (e : Expr N) → IsWhole t room (named_expr st e)
      → AreCallsMeant s (named_expr st e)
  meant_whole room (Anonymous parallel name m arguments inputs) h =
      meant_inputs h.2.0 room inputs h.2.2
  meant_whole room (Parentheses e) h = meant_whole room e h
  meant_whole room (Number n) h = tt
  meant_whole room (Place name m accessors) h = meant_expr room (Place name m accessors) h
  meant_whole room (Call parallel name m arguments) h =
      meant_expr room (Call parallel name m arguments) h
  meant_whole room (Array elements) h = meant_exprs room elements h
  meant_whole room (Unary op e) h = meant_expr room e h
  meant_whole room (Binary op e f) h = meant_expr room (Binary op e f) h
  meant_whole room (Choice c e f) h = meant_expr room (Choice c e f) h

  -- what `=` gives
  meant_set : {N : Type 0} (p : Position) (m : Meant) (accessors : Accessors N) (e : Expr N)
      → IsSeen s m → IsGiven t p m (named_accessors st accessors) (named_expr st e)
      → IsSetMeant s m (named_accessors st accessors) (named_expr st e)
  meant_set p (meant.Component n) accessors e k h = tt
  meant_set p (meant.Variable n) accessors e k h =
      (k, meant_accessors (other_room p) accessors h.0.1, meant_expr (other_room p) e h.1)
  meant_set p meant.Other accessors e k h = absurd h.0.0
  meant_set p (meant.Signal d n) accessors e k h = absurd h.0.0
  meant_set p (meant.Template n) accessors e k h = absurd h.0.0
  meant_set p (meant.Function n) accessors e k h = absurd h.0.0

  pub meant_assign : {N : Type 0} (p : Position) (x : Assign N) → IsAssign t p (named_assign st x)
      → IsAssignMeant s (named_assign st x)
  meant_assign p (Set name m accessors e) h =
      meant_set p (read_at st name) accessors e (is_seen t s st name a) h
  meant_assign p (Compound name m accessors op e) h = (
    is_seen t s st name a,
    meant_accessors (other_room p) accessors h.0.1,
    meant_expr (other_room p) e h.1,
  )
  meant_assign p (Left name m accessors arrow e) h = meant_expr (value_room p) e h.1
  meant_assign p (Increment name m accessors) h =
      (is_seen t s st name a, meant_accessors (other_room p) accessors h.1)
  meant_assign p (Decrement name m accessors) h =
      (is_seen t s st name a, meant_accessors (other_room p) accessors h.1)

  pub meant_arguments : {N : Type 0} (p : Position) (xs : List (LogArgument N))
      → Each (IsArgument t p) (map (named_argument st) xs)
      → AllByRecursion (IsArgumentMeant s) (map (named_argument st) xs)
  meant_arguments p [] h = tt
  meant_arguments p (Words w ∷ xs) h = (tt, meant_arguments p xs h.1)
  meant_arguments p (LogValue e ∷ xs) h =
      (meant_expr (other_room p) e h.0, meant_arguments p xs h.1)

  meant_slot_value : {N : Type 0} (p : Position) (slot : Option (Slot Meant)) (e : Expr N)
      → IsSlotValue t p slot (named_expr st e) → AreCallsMeant s (named_expr st e)
  meant_slot_value p None e h = meant_expr (value_room p) e h
  meant_slot_value p (Some SlotDiscard) e h = meant_whole (value_room p) e h
  meant_slot_value p (Some (SlotPlace name m accessors)) e h = meant_expr (value_room p) e h

  meant_slot_values : {N : Type 0} (p : Position) (slots : List (Slot Meant)) (es : List (Expr N))
      → AreSlotValues t p slots (map (named_expr st) es)
      → AllByRecursion (AreCallsMeant s) (map (named_expr st) es)
  meant_slot_values p slots [] h = tt
  meant_slot_values p slots (e ∷ es) h = (
    meant_slot_value p (first_slot slots) e h.0,
    meant_slot_values p (other_slots slots) es h.1,
  )

  pub meant_source : {N : Type 0} (p : Position) (target : Target Meant) (x : Source N)
      → IsSource t p target (named_source st x) → IsSourceMeant s (named_source st x)
  meant_source p target (One e) h = meant_whole (value_room p) e h
  meant_source p target (Values es) h = meant_slot_values p (slots_of target) es h
