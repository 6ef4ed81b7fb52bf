-- Which members stand in places that are assigned, as in every program that is checked: at most one
-- behind a component whose signal is written, and none behind a variable or a signal.
use Rattle.std.specs.Prelude.{⊤}
use Rattle.std.specs.List.{AllByRecursion}
use Rattle.cir_ast.specs.declared.program.Spot.{Spot}
use Rattle.cir_ast.specs.declared.program.Meant.{Meant}
use Rattle.cir_ast.specs.declared.program.Meant.TheVariants as meant
use Rattle.cir_ast.specs.Program.{Program, Template}
use Rattle.cir_ast.specs.Tree.{Accessors, done, index, member, Assign, Set, Compound, Left}
use Rattle.cir_ast.specs.Tree.{Increment, Decrement, First, FirstVars, FirstAssign, Slot, SlotPlace}
use Rattle.cir_ast.specs.Tree.{SlotDiscard, Target, Discard, Slots, Simple, Assigned, Right}
use Rattle.cir_ast.specs.Tree.{TargetLeft, TargetRight, Statement, Block, If, IfElse, While, For}
use Rattle.cir_ast.specs.Tree.{Return, Assert, Log, Ended, Statements, empty, then_more}

abbrev pub HasNoMember : Accessors Meant → Type 0
HasNoMember done = ⊤
HasNoMember (index e rest) = HasNoMember rest
HasNoMember (member name rest) = ⊥

abbrev pub HasFewMembers : Accessors Meant → Type 0
HasFewMembers done = ⊤
HasFewMembers (index e rest) = HasFewMembers rest
HasFewMembers (member name rest) = HasNoMember rest

-- what creates a component is no step
abbrev pub IsSetPlace : Meant → Accessors Meant → Type 0
IsSetPlace (meant.Component n) accessors = ⊤
IsSetPlace _ accessors = HasNoMember accessors

abbrev pub IsWiredPlace : Meant → Accessors Meant → Type 0
IsWiredPlace (meant.Component n) accessors = HasFewMembers accessors
IsWiredPlace _ accessors = HasNoMember accessors

abbrev pub IsAssignPlace : Assign Meant → Type 0
IsAssignPlace (Set name m accessors e) = IsSetPlace m accessors
IsAssignPlace (Compound name m accessors op e) = IsSetPlace m accessors
IsAssignPlace (Left name m accessors arrow e) = IsWiredPlace m accessors
IsAssignPlace (Increment name m accessors) = IsSetPlace m accessors
IsAssignPlace (Decrement name m accessors) = IsSetPlace m accessors

abbrev pub IsFirstPlace : First Meant → Type 0
IsFirstPlace (FirstVars vs) = ⊤
IsFirstPlace (FirstAssign a) = IsAssignPlace a

abbrev pub IsSlotPlace : Slot Meant → Type 0
IsSlotPlace (SlotPlace name m accessors) = IsWiredPlace m accessors
IsSlotPlace SlotDiscard = ⊤

abbrev pub IsTargetPlace : Target Meant → Type 0
IsTargetPlace Discard = ⊤
IsTargetPlace (Slots ts) = AllByRecursion IsSlotPlace ts

abbrev pub IsSimplePlace : Simple Meant → Type 0
IsSimplePlace (Assigned a) = IsAssignPlace a
IsSimplePlace (Right e arrow name m accessors) = IsWiredPlace m accessors
IsSimplePlace (TargetLeft target arrow source) = IsTargetPlace target
IsSimplePlace (TargetRight source arrow target) = IsTargetPlace target
IsSimplePlace _ = ⊤

abbrev mutual
  pub HasPlaces : Statement Spot Meant → Type 0
  HasPlaces (Block spot ss) = AllHavePlaces ss
  HasPlaces (If spot c a) = HasPlaces a
  HasPlaces (IfElse spot c a b) = HasPlaces a × HasPlaces b
  HasPlaces (While spot c a) = HasPlaces a
  HasPlaces (For spot first_spot f c step_spot a body) =
      IsFirstPlace f × IsAssignPlace a × HasPlaces body
  HasPlaces (Return spot e) = ⊤
  HasPlaces (Assert spot e) = ⊤
  HasPlaces (Log spot arguments) = ⊤
  HasPlaces (Ended spot x) = IsSimplePlace x

  pub AllHavePlaces : Statements Spot Meant → Type 0
  AllHavePlaces empty = ⊤
  AllHavePlaces (then_more a rest) = HasPlaces a × AllHavePlaces rest

-- in all templates
abbrev pub ArePlacesMeant : Program → Type 0
ArePlacesMeant p = AllByRecursion (λ (t : Template). AllHavePlaces t.body) p.templates
