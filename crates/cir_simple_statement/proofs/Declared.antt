-- What is read prints its tokens, is shaped and low enough.
use Rattle.std.proofs.Common.{◌≡◌, ◌≢◌, ℕ, zero, suc, ◌≤◌, List, [], ◌∷◌, ◌++◌, length, Option}
use Rattle.std.proofs.Common.{Some, None, refl, ◌∙◌, arith, append_assoc}
use Rattle.cir_token.specs.declared.token.TokenKind.TheVariants as token
use Rattle.cir_token.specs.declared.token.Reserved.TheVariants as word
use Rattle.cir_token.specs.declared.token.Symbol.{Symbol}
use Rattle.cir_token.specs.declared.token.Symbol.TheVariants as symbol
use Rattle.cir_ast.specs.declared.operators.Arrow.{Arrow}
use Rattle.cir_ast.specs.Tree as tree
use Rattle.cir_ast.specs.Plain.{PlainExpr as Expr, PlainAccessors as Accessors}
use Rattle.cir_ast.specs.Plain.{PlainVariable as Variable, PlainAssign as Assign}
use Rattle.cir_ast.specs.Plain.{PlainSimple as Simple, PlainSlot as Slot, PlainTarget as Target}
use Rattle.cir_ast.specs.Plain.{PlainSource as Source}
use Rattle.cir_ast.specs.Print as print
use Rattle.cir_ast.specs.Shape as shape
use Rattle.cir_ast.specs.Height as height
use Rattle.cir_expression.specs.Front.{Tokens, tail}
use Rattle.cir_expression.specs.Combinators.{made, parted_by}
use Rattle.cir_expression.specs.Reading.{Grouped, Whole, Tuple}
use Rattle.cir_expression.proofs.Combinators.{Sound, nothing, gives, Of, reads, sound_map, and_then}
use Rattle.cir_expression.proofs.Combinators.{or_else, if_symbol, if_word, if_underscore}
use Rattle.cir_expression.proofs.Combinators.{name_sound, IsMeant, meaning_sound, closed_sound}
use Rattle.cir_expression.proofs.Combinators.{Extends, one_behind, more_behind, whole_list}
use Rattle.cir_expression.proofs.Combinators.{enclosed_sound, listed_sound, several_sound}
use Rattle.cir_expression.proofs.Combinators.{each_shaped, each_low}
use Rattle.cir_expression.proofs.Front.{arrow_sound}
use Rattle.cir_expression.proofs.Sound.{IsLow, AreLow, IsLowPlace, expression_sound, place_sound}
use Rattle.cir_expression.proofs.Groups.{element_tokens, FitsElement, IsTuple, IsGrouped}
use Rattle.cir_expression.proofs.Groups.{group_sound}
use Rattle.cir_simple_statement.specs.Reading as reading

-- expressions in brackets
abbrev bracketed : List Expr → Tokens
bracketed es = print.dimension_tokens (tree.as_exprs es)

-- behind the first bracket
dimensions_by_sound : (room n : ℕ) (before : List Expr) (ts : Tokens)
    → Sound (Extends bracketed (AreLow room) before (token.Symbol symbol.OpenBracket ∷ ts))
    (parted_by symbol.OpenBracket n (reading.dimension room) before ts)
dimensions_by_sound room zero before ts = nothing
dimensions_by_sound room (suc n) before ts =
    and_then (closed_sound symbol.CloseBracket (expression_sound room ts)) (λ e first.
    if_symbol symbol.OpenBracket e.1
    (λ opens. more_behind (dimensions_by_sound room n (before ++ e.0 ∷ []) (tail e.1))
    (λ es rest h. record {
      prints = rw (append_assoc, h.prints, opens, first.prints) refl;
      fine = ((first.fine.0, h.fine.0), omega (arith, first.fine.1, h.fine.1));
    }))
    (one_behind e.0 (rw (append_assoc, first.prints) refl)
    ((first.fine.0, tt), omega (arith, first.fine.1))))

dimensions_sound : (room : ℕ) (ts : Tokens)
    → Sound (Of bracketed (AreLow room) ts) (reading.dimensions room ts)
unfolding reading.dimensions
dimensions_sound room ts =
    if_symbol symbol.OpenBracket ts
    (λ opens. whole_list (dimensions_by_sound room (length (tail ts)) [] (tail ts))
    (λ es rest h. record { prints = h.prints ∙ opens; fine = h.fine }))
    (reads refl (tt, omega arith))

value_sound : (room : ℕ) (ts : Tokens)
    → Sound (Of print.value_tokens (λ v. shape.FitsValue v × (height.value_height v ≤ room)) ts)
    (reading.value room ts)
value_sound room ts =
    if_symbol symbol.Equal ts
    (λ is. and_then (expression_sound room (tail ts)) (λ e h.
    reads (rw (h.prints, is) refl) h.fine))
    (reads refl (tt, omega arith))

abbrev pub IsLowVariable : ℕ → Variable → Type 0
IsLowVariable room v = shape.IsShapedVariable v × (height.variable_height v ≤ room)

pub variable_sound : (room : ℕ) (ts : Tokens)
    → Sound (Of print.variable_tokens (IsLowVariable room) ts) (reading.variable room ts)
unfolding reading.variable
variable_sound room ts =
    and_then (name_sound ts) (λ name named. and_then (dimensions_sound room name.1) (λ found d.
    and_then (value_sound room found.1) (λ v h.
    reads (rw (append_assoc, h.prints, d.prints, named) refl)
    ((d.fine.0, h.fine.0), omega (arith, d.fine.1, h.fine.1)))))

signal_value_sound : (room : ℕ) (ts : Tokens)
    → Sound (Of print.signal_value_tokens
    (λ v. shape.FitsSignalValue v × (height.signal_value_height v ≤ room)) ts)
    (reading.signal_value room ts)
signal_value_sound room ts =
    or_else (arrow_sound ts) (reads refl (tt, omega arith)) (λ arrow is.
    and_then (expression_sound room (tail ts)) (λ e h. reads (rw (h.prints, is) refl) h.fine))

signal_sound : (room : ℕ) (ts : Tokens)
    → Sound
    (Of print.signal_tokens (λ x. shape.IsShapedSignal x × (height.signal_height x ≤ room)) ts)
    (reading.signal room ts)
unfolding reading.signal
signal_sound room ts =
    and_then (name_sound ts) (λ name named. and_then (dimensions_sound room name.1) (λ found d.
    and_then (signal_value_sound room found.1) (λ v h.
    reads (rw (append_assoc, h.prints, d.prints, named) refl)
    ((d.fine.0, h.fine.0), omega (arith, d.fine.1, h.fine.1)))))

component_sound : (room : ℕ) (ts : Tokens)
    → Sound
    (Of print.component_tokens
    (λ x. shape.IsShapedComponent x × (height.component_height x ≤ room)) ts)
    (reading.component room ts)
unfolding reading.component
component_sound room ts =
    and_then (name_sound ts) (λ name named. and_then (dimensions_sound room name.1) (λ found d.
    reads (rw (d.prints, named) refl) d.fine))

abbrev pub IsLowSimple : ℕ → Simple → Type 0
IsLowSimple room s = shape.IsShapedSimple s × (height.simple_height s ≤ room)

-- a simple statement was read from all these tokens
abbrev pub IsSimple : ℕ → Tokens → Simple × Tokens → Type 0
IsSimple room all = Of print.simple_tokens (IsLowSimple room) all

-- elements that are shaped and low enough are so as a list
pub list_low : {A : Type 0} (P : A → Type 0) (h : A → ℕ) (room : ℕ) (Q : Type 0) (xs : List A)
    → Q × shape.Each (λ x. P x × (h x ≤ room)) xs
    → (Q × shape.Each P xs) × (height.highest h xs ≤ room)
list_low P h room Q xs fine =
    ((fine.0, each_shaped P h room xs fine.1), each_low P h room xs fine.1)

-- the word behind `signal` and what stands behind it are all
direction_print : (ts : Tokens)
    → print.direction_tokens (reading.direction_at ts).0 ++ (reading.direction_at ts).1 ≡ ts
direction_print (token.Reserved word.Input ∷ ts) = refl
direction_print (token.Reserved _ ∷ ts) = refl
direction_print _ = refl

pub signals_sound : (room : ℕ) (all ts : Tokens) → token.Reserved word.Signal ∷ ts ≡ all
    → Sound (IsSimple room all) (reading.signals room ts)
unfolding reading.signals
signals_sound room all ts is =
    and_then (listed_sound (signal_sound room) (reading.direction_at ts).1) (λ found h.
    reads (rw (append_assoc, h.prints, direction_print ts) is)
    (list_low shape.IsShapedSignal height.signal_height room (found.0 ≢ []) found.0 h.fine))

pub components_sound : (room : ℕ) (all ts : Tokens) → token.Reserved word.Component ∷ ts ≡ all
    → Sound (IsSimple room all) (reading.components room ts)
unfolding reading.components
components_sound room all ts is =
    and_then (name_sound ts) (λ name named. if_symbol symbol.Equal name.1
    (λ equal. and_then (expression_sound room (tail name.1)) (λ e h.
    reads (rw (h.prints, equal, named) is) h.fine))
    (and_then (listed_sound (component_sound room) ts) (λ found h.
    reads (rw h.prints is)
    (list_low shape.IsShapedComponent height.component_height room (found.0 ≢ []) found.0 h.fine))))

compound_symbol_is : (s : Symbol) → IsMeant print.compound_symbol s (reading.compound_of s)
compound_symbol_is symbol.StarStarEqual = refl
compound_symbol_is _ = search

abbrev pub IsLowAssign : ℕ → Assign → Type 0
IsLowAssign room a = shape.IsShapedAssign a × (height.assign_height a ≤ room)

-- a place that fits and is low enough, read before these tokens
abbrev pub IsWritten : ℕ → List ℕ → Accessors → Tokens → Tokens → Type 0
IsWritten room name accessors all ts =
    Of (λ p. print.place_tokens p.0 p.1) (IsLowPlace room) all ((name, accessors), ts)

operation_sound : (room : ℕ) (name : List ℕ) (accessors : Accessors) (all ts : Tokens)
    → IsWritten room name accessors all ts
    → Sound (Of print.assign_tokens (IsLowAssign room) all)
    (reading.operation room name accessors ts)
operation_sound room name accessors all ts w =
    if_symbol symbol.PlusPlus ts (λ is. reads (rw (append_assoc, is) w.prints) w.fine)
    (if_symbol symbol.MinusMinus ts (λ is. reads (rw (append_assoc, is) w.prints) w.fine)
    (and_then (meaning_sound print.compound_symbol reading.compound_of compound_symbol_is ts)
    (λ op is. and_then (expression_sound room (tail ts)) (λ e h.
    reads (rw (append_assoc, h.prints, is) w.prints)
    ((w.fine.0, h.fine.0), omega (arith, w.fine.1, h.fine.1))))))

pub assignment_sound : (room : ℕ) (name : List ℕ) (accessors : Accessors) (all ts : Tokens)
    → IsWritten room name accessors all ts
    → Sound (Of print.assign_tokens (IsLowAssign room) all)
    (reading.assignment room name accessors ts)
unfolding reading.assignment
assignment_sound room name accessors all ts w =
    if_symbol symbol.Equal ts
    (λ is. and_then (expression_sound room (tail ts)) (λ e h.
    reads (rw (append_assoc, h.prints, is) w.prints)
    ((w.fine.0, h.fine.0), omega (arith, w.fine.1, h.fine.1))))
    (or_else (arrow_sound ts) (operation_sound room name accessors all ts w)
    (λ arrow is. and_then (expression_sound room (tail ts)) (λ e h.
    reads (rw (append_assoc, h.prints, is) w.prints)
    ((w.fine.0, h.fine.0), omega (arith, w.fine.1, h.fine.1)))))

pub assign_sound : (room : ℕ) (ts : Tokens)
    → Sound (Of print.assign_tokens (IsLowAssign room) ts) (reading.assign room ts)
unfolding reading.assign
assign_sound room ts =
    and_then (place_sound room ts) (λ p is. assignment_sound room p.0.0 p.0.1 ts p.1 is)

right_symbol_is : (s : Symbol) → IsMeant print.right_symbol s (reading.right_arrow_of s)
right_symbol_is symbol.AssignRight = refl
right_symbol_is symbol.ConstrainRight = refl
right_symbol_is _ = tt

-- the arrow to the right at the front
right_sound : (ts : Tokens)
    → Sound (λ a. token.Symbol (print.right_symbol a) ∷ tail ts ≡ ts) (reading.right_arrow_at ts)
right_sound = meaning_sound print.right_symbol reading.right_arrow_of right_symbol_is

abbrev IsLowSlot : ℕ → Slot → Type 0
IsLowSlot room s = shape.IsShapedSlot s × (height.slot_height s ≤ room)

slot_sound : (room : ℕ) (ts : Tokens)
    → Sound (Of print.slot_tokens (IsLowSlot room) ts) (reading.slot room ts)
unfolding reading.slot
slot_sound room ts =
    if_underscore ts (λ is. reads is (tt, omega arith))
    (and_then (place_sound room ts) (λ p h. reads h.prints h.fine))

abbrev IsLowTarget : ℕ → Target → Type 0
IsLowTarget room t = shape.IsShapedTarget t × (height.target_height t ≤ room)

target_sound : (room : ℕ) (ts : Tokens)
    → Sound (Of print.target_tokens (IsLowTarget room) ts) (reading.target room ts)
unfolding reading.target
target_sound room ts =
    if_underscore ts (λ is. reads is (tt, omega arith))
    (and_then (enclosed_sound (several_sound (slot_sound room)) ts) (λ found h.
    reads (rw append_assoc h.prints)
    (list_low shape.IsShapedSlot height.slot_height room (2 ≤ length found.0) found.0 h.fine)))

-- what is made of the elements of a tuple, one by one, prints as they do and is fine
record AreMade {B : Type 0} (print_one : B → Tokens) (Fine : B → Type 0) (xs : List (Option Expr))
    (ys : List B) : Type 0 where
  further : print.further_tokens print_one ys ≡ print.further_tokens element_tokens xs
  list : print.list_tokens print_one ys ≡ print.list_tokens element_tokens xs
  many : length ys ≡ length xs
  fine : shape.Each Fine ys

each_made : {B : Type 0} {print_one : B → Tokens} {Fine : B → Type 0} {room : ℕ} {f : Option Expr
    → Option B} → ((x : Option Expr) → FitsElement room x
    → Sound (λ y. (print_one y ≡ element_tokens x) × Fine y) (f x))
    → (xs : List (Option Expr)) → shape.Each (FitsElement room) xs
    → Sound (AreMade print_one Fine xs) (reading.each_of f xs)
each_made one [] fits = gives (record { further = refl; list = refl; many = refl; fine = tt })
each_made one (x ∷ xs) fits =
    and_then (one x fits.0) (λ y first. and_then (each_made one xs fits.1) (λ ys more.
    gives (record {
      further = rw (first.0, more.further) refl;
      list = rw (first.0, more.further) refl;
      many = rw more.many refl;
      fine = (first.1, more.fine);
    })))

-- as values, and as slots
element_value : (room : ℕ) (x : Option Expr) → FitsElement room x
    → Sound (λ e. (print.tokens_of e ≡ element_tokens x) × IsLow room e) x
element_value room None fits = nothing
element_value room (Some e) fits = gives (refl, fits)

element_slot : (room : ℕ) (x : Option Expr) → FitsElement room x
    → Sound (λ s. (print.slot_tokens s ≡ element_tokens x) × IsLowSlot room s) (reading.slot_of x)
element_slot room None fits = gives (refl, (tt, omega arith))
element_slot room (Some (tree.Place name _ accessors)) fits = gives (refl, fits)
element_slot room (Some _) fits = nothing

-- so is a tuple that was read behind its `(`
tuple_sound : {B : Type 0} {print_one : B → Tokens} {f : Option Expr → Option B} {room : ℕ}
    {ts rest all : Tokens} (P : B → Type 0) (h : B → ℕ)
    → ((x : Option Expr) → FitsElement room x
    → Sound (λ y. (print_one y ≡ element_tokens x) × (P y × (h y ≤ room))) (f x))
    → (xs : List (Option Expr)) → token.Symbol symbol.OpenParenthesis ∷ ts ≡ all
    → IsTuple room ts xs rest
    → Sound (λ ys. Of (λ ys. print.enclosed (print.list_tokens print_one ys))
    (λ ys. ((2 ≤ length ys) × shape.Each P ys) × (height.highest h ys ≤ room)) all (ys, rest))
    (reading.each_of f xs)
tuple_sound {room = room} P h one xs is t =
    sound_map (each_made one xs t.fine.1) (λ ys made. record {
      prints = rw (append_assoc, made.list, t.prints) is;
      fine = list_low P h room (2 ≤ length ys) ys (rw made.many t.fine.0, made.fine);
    })

abbrev IsLowSource : ℕ → Source → Type 0
IsLowSource room s = shape.IsShapedSource s × (height.source_height s ≤ room)

sourced_sound : (room : ℕ) (ts rest all : Tokens) (g : Grouped)
    → token.Symbol symbol.OpenParenthesis ∷ ts ≡ all → IsGrouped room ts g rest
    → Sound (Of print.source_tokens (IsLowSource room) all) (reading.sourced g rest)
sourced_sound room ts rest all (Whole e) is h = reads (h.prints ∙ is) h.fine
sourced_sound room ts rest all (Tuple xs) is t =
    and_then (tuple_sound (shape.Fits 1) height.height_of (element_value room) xs is t)
    (λ es h. reads h.prints h.fine)

source_sound : (room : ℕ) (ts : Tokens)
    → Sound (Of print.source_tokens (IsLowSource room) ts) (reading.source room ts)
unfolding reading.source
source_sound room ts =
    if_symbol symbol.OpenParenthesis ts
    (λ opens. and_then (group_sound room (tail ts)) (λ g h.
    sourced_sound room (tail ts) g.1 ts g.0 opens h))
    (and_then (expression_sound room ts) (λ e h. reads h.prints h.fine))

-- a target, an arrow and a source, or the other way round
target_left : (room : ℕ) (t : Target) (arrow : Arrow) (all ts : Tokens)
    → Of print.target_tokens (IsLowTarget room) all (t, ts)
    → token.Symbol (print.left_symbol arrow) ∷ tail ts ≡ ts
    → Sound (IsSimple room all) (made (tree.TargetLeft t arrow) (reading.source room (tail ts)))
target_left room t arrow all ts left is =
    and_then (source_sound room (tail ts)) (λ s right.
    reads (rw (append_assoc, right.prints, is) left.prints)
    ((left.fine.0, right.fine.0), omega (arith, left.fine.1, right.fine.1)))

target_right : (room : ℕ) (s : Source) (arrow : Arrow) (all ts : Tokens)
    → Of print.source_tokens (IsLowSource room) all (s, ts)
    → token.Symbol (print.right_symbol arrow) ∷ tail ts ≡ ts
    → Sound (IsSimple room all) (made (tree.TargetRight s arrow) (reading.target room (tail ts)))
target_right room s arrow all ts left is =
    and_then (target_sound room (tail ts)) (λ t right.
    reads (rw (append_assoc, right.prints, is) left.prints)
    ((left.fine.0, right.fine.0), omega (arith, left.fine.1, right.fine.1)))

-- what stands behind a first expression that was read
abbrev IsLeft : ℕ → Tokens → Expr × Tokens → Type 0
IsLeft room all = Of print.tokens_of (IsLow room) all

rightwards_sound : (room : ℕ) (left : Expr) (arrow : Arrow) (all ts : Tokens)
    → IsLeft room all (left, ts) → token.Symbol (print.right_symbol arrow) ∷ tail ts ≡ ts
    → Sound (IsSimple room all) (reading.rightwards room left arrow (tail ts))
rightwards_sound room left arrow all ts h is =
    let to_target =
    target_right room (tree.One left) arrow all ts (record { prints = h.prints; fine = h.fine }) is
    in if_underscore (tail ts) (λ discards. to_target)
    (if_symbol symbol.OpenParenthesis (tail ts) (λ opens. to_target)
    (and_then (place_sound room (tail ts)) (λ p right.
    reads (rw (append_assoc, right.prints, is) h.prints)
    ((h.fine.0, right.fine.0), omega (arith, h.fine.1, right.fine.1)))))

leftwards_sound : (room : ℕ) (left : Expr) (all ts : Tokens) → IsLeft room all (left, ts)
    → Sound (IsSimple room all) (reading.leftwards room left ts)
leftwards_sound room (tree.Place name _ accessors) all ts h =
    and_then (assignment_sound room name accessors all ts
    (record { prints = h.prints; fine = h.fine })) (λ a is. reads is.prints is.fine)
leftwards_sound room (tree.Anonymous parallel name _ arguments inputs) all ts h =
    reads h.prints h.fine
leftwards_sound room _ all ts h = nothing

equation_sound : (room : ℕ) (left : Expr) (all ts : Tokens) → IsLeft room all (left, ts)
    → Sound (IsSimple room all) (reading.equation room left ts)
unfolding reading.equation
equation_sound room left all ts h =
    if_symbol symbol.Constrain ts
    (λ is. and_then (expression_sound room (tail ts)) (λ e right.
    reads (rw (append_assoc, right.prints, is) h.prints)
    ((h.fine.0, right.fine.0), omega (arith, h.fine.1, right.fine.1))))
    (or_else (right_sound ts) (leftwards_sound room left all ts h)
    (λ arrow is. rightwards_sound room left arrow all ts h is))

tupled_sound : (room : ℕ) (xs : List (Option Expr)) (ts rest all : Tokens)
    → token.Symbol symbol.OpenParenthesis ∷ ts ≡ all → IsTuple room ts xs rest
    → Sound (IsSimple room all) (reading.tupled room xs rest)
unfolding reading.tupled
tupled_sound room xs ts rest all is t =
    or_else (arrow_sound rest)
    (and_then (right_sound rest) (λ arrow ahead.
    and_then (tuple_sound (shape.Fits 1) height.height_of (element_value room) xs is t)
    (λ es h. target_right room (tree.Values es) arrow all rest
    (record { prints = h.prints; fine = h.fine }) ahead)))
    (λ arrow ahead.
    and_then (tuple_sound shape.IsShapedSlot height.slot_height (element_slot room) xs is t)
    (λ ss h. target_left room (tree.Slots ss) arrow all rest
    (record { prints = h.prints; fine = h.fine }) ahead))

behind_group_sound : (room : ℕ) (g : Grouped) (ts rest all : Tokens)
    → token.Symbol symbol.OpenParenthesis ∷ ts ≡ all → IsGrouped room ts g rest
    → Sound (IsSimple room all) (reading.behind_group room g rest)
behind_group_sound room (Whole e) ts rest all is h =
    equation_sound room e all rest (record { prints = h.prints ∙ is; fine = h.fine })
behind_group_sound room (Tuple xs) ts rest all is t = tupled_sound room xs ts rest all is t

pub simple_sound : (room : ℕ) (ts : Tokens) → Sound (IsSimple room ts) (reading.simple room ts)
unfolding reading.simple
simple_sound room ts =
    if_word word.Var ts
    (λ is. and_then (listed_sound (variable_sound room) (tail ts)) (λ found h.
    reads (rw (h.prints, is) refl)
    (list_low shape.IsShapedVariable height.variable_height room (found.0 ≢ []) found.0 h.fine)))
    (if_word word.Signal ts (λ is. signals_sound room ts (tail ts) is)
    (if_word word.Component ts (λ is. components_sound room ts (tail ts) is)
    (if_underscore ts
    (λ is. and_then (arrow_sound (tail ts)) (λ arrow ahead.
    target_left room tree.Discard arrow ts (tail ts)
    (record { prints = is; fine = (tt, omega arith) }) ahead))
    (if_symbol symbol.OpenParenthesis ts
    (λ opens. and_then (group_sound room (tail ts)) (λ g h.
    behind_group_sound room g.0 (tail ts) g.1 ts opens h))
    (and_then (expression_sound room ts) (λ left h. equation_sound room left.0 ts left.1 h))))))
