-- In a program that is checked members stand behind components alone, where a place is assigned.
use Rattle.std.proofs.Common.{◌≡◌, List, [], ◌∷◌, arith}
use Rattle.std.specs.List.{AllByRecursion}
use Rattle.cir_ast.specs.declared.program.Spot.{Spot}
use Rattle.cir_ast.specs.declared.program.Meant.{Meant}
use Rattle.cir_ast.specs.declared.program.Meant.TheVariants as meant
use Rattle.cir_ast.specs.declared.operators.Direction.TheVariants as direction
use Rattle.cir_ast.specs.Program.{Program, Template}
use Rattle.cir_ast.specs.Tree.{Expr, Accessors, done, index, member, Assign, Set, Compound, Left}
use Rattle.cir_ast.specs.Tree.{Increment, Decrement, First, FirstVars, FirstAssign, Slot, SlotPlace}
use Rattle.cir_ast.specs.Tree.{SlotDiscard, Target, Discard, Slots, Simple, Vars, Signals, Declared}
use Rattle.cir_ast.specs.Tree.{Created, Assigned, Constrain, Right, TargetLeft, TargetRight, Alone}
use Rattle.cir_ast.specs.Tree.{Statement, Block, If, IfElse, While, For, Return, Assert, Log, Ended}
use Rattle.cir_ast.specs.Tree.{Statements, empty, then_more}
use Rattle.cir_checks.specs.Heads.{Table}
use Rattle.cir_checks.specs.declared.positions.Position.{Position}
use Rattle.cir_checks.specs.Uses.{members}
use Rattle.cir_checks.specs.Checked.{Each, IsWritten, IsDriven, IsGiven, IsAssign, IsSlot, IsTarget}
use Rattle.cir_checks.specs.Checked.{IsSimple, IsHead, IsStatement, AreStatements, IsTemplate}
use Rattle.cir_checks.specs.Checked.{IsChecked}
use Rattle.cir_steps.specs.Places.{HasNoMember, HasFewMembers, IsSetPlace, IsWiredPlace}
use Rattle.cir_steps.specs.Places.{IsAssignPlace, IsFirstPlace, IsSlotPlace, IsTargetPlace}
use Rattle.cir_steps.specs.Places.{IsSimplePlace, HasPlaces, AllHavePlaces, ArePlacesMeant}

none_counted : (accessors : Accessors Meant) → members accessors ≡ 0 → HasNoMember accessors
none_counted done h = tt
none_counted (index e rest) h = none_counted rest h
none_counted (member name rest) h = absurd (omega arith)

one_counted : (accessors : Accessors Meant) → members accessors ≡ 1 → HasFewMembers accessors
one_counted done h = tt
one_counted (index e rest) h = one_counted rest h
one_counted (member name rest) h = none_counted rest (omega arith)

written_place : (m : Meant) (accessors : Accessors Meant) → IsWritten m (members accessors)
    → IsSetPlace m accessors
written_place (meant.Variable n) accessors h = none_counted accessors h
written_place meant.Other accessors h = absurd h
written_place (meant.Signal d n) accessors h = absurd h
written_place (meant.Component n) accessors h = tt
written_place (meant.Template n) accessors h = absurd h
written_place (meant.Function n) accessors h = absurd h

driven_place : (m : Meant) (accessors : Accessors Meant) → IsDriven m (members accessors)
    → IsWiredPlace m accessors
driven_place (meant.Signal direction.Inner n) accessors h = none_counted accessors h
driven_place (meant.Signal direction.Output n) accessors h = none_counted accessors h
driven_place (meant.Signal direction.Input n) accessors h = absurd h
driven_place (meant.Component n) accessors h = one_counted accessors h
driven_place (meant.Variable n) accessors h = absurd h
driven_place meant.Other accessors h = absurd h
driven_place (meant.Template n) accessors h = absurd h
driven_place (meant.Function n) accessors h = absurd h

module _ (t : Table) where
  given_place : (p : Position) (m : Meant) (accessors : Accessors Meant) (e : Expr Meant)
      → IsGiven t p m accessors e → IsSetPlace m accessors
  given_place p (meant.Component n) accessors e h = tt
  given_place p (meant.Variable n) accessors e h =
      written_place (meant.Variable n) accessors h.0.0
  given_place p meant.Other accessors e h = absurd h.0.0
  given_place p (meant.Signal d n) accessors e h = absurd h.0.0
  given_place p (meant.Template n) accessors e h = absurd h.0.0
  given_place p (meant.Function n) accessors e h = absurd h.0.0

  assign_place : (p : Position) (a : Assign Meant) → IsAssign t p a → IsAssignPlace a
  assign_place p (Set name m accessors e) h = given_place p m accessors e h
  assign_place p (Compound name m accessors op e) h = written_place m accessors h.0.0
  assign_place p (Left name m accessors arrow e) h = driven_place m accessors h.0.0
  assign_place p (Increment name m accessors) h = written_place m accessors h.0
  assign_place p (Decrement name m accessors) h = written_place m accessors h.0

  head_place : (p : Position) (f : First Meant) → IsHead t p f → IsFirstPlace f
  head_place p (FirstVars vs) h = tt
  head_place p (FirstAssign a) h = assign_place p a h

  slots_place : (p : Position) (slots : List (Slot Meant)) → Each (IsSlot t p) slots
      → AllByRecursion IsSlotPlace slots
  slots_place p [] h = tt
  slots_place p (SlotPlace name m accessors ∷ slots) h =
      (driven_place m accessors h.0.0, slots_place p slots h.1)
  slots_place p (SlotDiscard ∷ slots) h = (tt, slots_place p slots h.1)

  target_place : (p : Position) (target : Target Meant) → IsTarget t p target
      → IsTargetPlace target
  target_place p Discard h = tt
  target_place p (Slots slots) h = slots_place p slots h

  simple_place : (p : Position) (x : Simple Meant) → IsSimple t p x → IsSimplePlace x
  simple_place p (Assigned a) h = assign_place p a h
  simple_place p (Right e arrow name m accessors) h = driven_place m accessors h.1.0
  simple_place p (TargetLeft target arrow source) h = target_place p target h.2
  simple_place p (TargetRight source arrow target) h = target_place p target h.2
  simple_place p (Vars vs) h = tt
  simple_place p (Signals d ds) h = tt
  simple_place p (Declared cs) h = tt
  simple_place p (Created name m e) h = tt
  simple_place p (Constrain a b) h = tt
  simple_place p (Alone parallel name m arguments inputs) h = tt

  mutual
    statement_places : (p : Position) (a : Statement Spot Meant) → IsStatement t p a → HasPlaces a
    statement_places p (Block spot ss) h = all_places _ ss h
    statement_places p (If spot c a) h = statement_places _ a h.1
    statement_places p (IfElse spot c a b) h =
        (statement_places _ a h.1, statement_places _ b h.2)
    statement_places p (While spot c a) h = statement_places _ a h.1
    statement_places p (For spot first_spot f c step_spot a body) h =
        (head_place p f h.0, assign_place p a h.2, statement_places _ body h.3)
    statement_places p (Return spot e) h = tt
    statement_places p (Assert spot e) h = tt
    statement_places p (Log spot arguments) h = tt
    statement_places p (Ended spot x) h = simple_place p x h

    all_places : (p : Position) (ss : Statements Spot Meant) → AreStatements t p ss
        → AllHavePlaces ss
    all_places p empty h = tt
    all_places p (then_more a rest) h = (statement_places p a h.0, all_places p rest h.1)

  templates_place : (ts : List Template) → Each (IsTemplate t) ts
      → AllByRecursion (λ (d : Template). AllHavePlaces d.body) ts
  templates_place [] h = tt
  templates_place (d ∷ ds) h = (all_places _ d.body h.0, templates_place ds h.1)

pub checked_places : (p : Program) → IsChecked p → ArePlacesMeant p
checked_places p h = templates_place _ p.templates h.used.templates
