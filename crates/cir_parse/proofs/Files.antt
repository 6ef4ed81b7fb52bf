-- Files: the tree that prints the tokens is one, an item's tokens tell where it ends, and where an
-- item isn't read there is no tree.
use Rattle.std.proofs.Common.{◌≡◌, ℕ, ◌+◌, ◌-◌, ◌≤◌, ◌<◌, max, List, [], ◌∷◌, ◌++◌, length, take}
use Rattle.std.proofs.Common.{drop, Option, Some, None, refl, ap, ◌∙◌, sym, arith, append_assoc}
use Rattle.std.proofs.Common.{append-nil, length-append}
use Rattle.std.proofs.lemmas.List.{length-drop, length-map, take-append-drop}
use Rattle.std.proofs.Math.Seq.{take-append_seam, drop-append_seam}
use Rattle.cir_ast.specs.Tree as tree
use Rattle.cir_ast.specs.Plain.{PlainStatement as Statement, PlainStatements as Statements}
use Rattle.cir_ast.specs.Plain.{PlainItem as Item, PlainFile as File}
use Rattle.cir_ast.specs.Print.{item_tokens, file_tokens}
use Rattle.cir_ast.specs.Shape.{IsShapedItem, IsShaped}
use Rattle.cir_ast.specs.Height.{item_height, height}
use Rattle.cir_token.specs.declared.token.Token.{Token}
use Rattle.cir_expression.specs.Answers.{kinds}
use Rattle.cir_expression.specs.Front.{Tokens}
use Rattle.cir_parse.specs.Limits.{most_height, inner_height}
use Rattle.cir_parse.specs.Contract.{IsTree, NoItem, IsFirstUnread}
use Rattle.cir_parse.specs.Marking.{marked, all_marked, marked_item, marked_items, marked_file}
use Rattle.cir_parse.specs.Reading.{item}
use Rattle.cir_expression.proofs.Combinators.{Sound, nothing, gives, at}
use Rattle.cir_parse.proofs.Whole.{IsItem, item_sound, item_undo}

-- trees without marks
abbrev Bare : Type 0
Bare = Unit {0}

abbrev unmark : Tokens → Bare
unmark ts = tt

-- they keep what they carry
mutual
  unmarked : (s : Statement Bare) (rest : Tokens) → marked unmark s rest ≡ s
  unmarked (tree.Block _ ss) rest = simp (all_unmarked ss)
  unmarked (tree.If _ c s) rest = simp (unmarked s)
  unmarked (tree.IfElse _ c s t) rest = simp (unmarked s, unmarked t)
  unmarked (tree.While _ c s) rest = simp (unmarked s)
  unmarked (tree.For _ _ f c _ a s) rest = simp (unmarked s)
  unmarked _ rest = refl

  all_unmarked : (ss : Statements Bare) (rest : Tokens) → all_marked unmark ss rest ≡ ss
  all_unmarked tree.empty rest = refl
  all_unmarked (tree.then_more s ss) rest = simp (unmarked s, all_unmarked ss)

item_unmarked : (i : Item Bare) (rest : Tokens) → marked_item unmark i rest ≡ i
item_unmarked (tree.Template _ parallel name ps ss) rest = simp (all_unmarked ss)
item_unmarked (tree.Function _ name ps ss) rest = simp (all_unmarked ss)
item_unmarked _ rest = refl

items_unmarked : (f : File Bare) (rest : Tokens) → marked_items unmark f rest ≡ f
items_unmarked [] rest = refl
items_unmarked (i ∷ is) rest = simp (item_unmarked i, items_unmarked is)

-- what stands behind an item at the front of tokens is one, and with its marks the item is
same_items : {R Q S : Type 0} (mark : Tokens → S) (i : Item R) (j : Item Q) (x y : Tokens)
    → IsShapedItem i → IsShapedItem j → item_tokens i ++ x ≡ item_tokens j ++ y
    → (marked_item mark i x ≡ marked_item mark j y) × (x ≡ y)
same_items {S = S} mark i j x y si sj h =
    let room : ℕ = max (item_height i) (item_height j) in
    let e : Some (marked_item mark i x, x) ≡ Some (marked_item mark j y, y) =
    sym (item_undo mark i room x si (omega arith)) ∙ ap (item mark room) h
    ∙ item_undo mark j room y sj (omega arith) in
    let same : (marked_item mark i x, x) ≡ (marked_item mark j y, y) = cc e in
    (ap (λ (r : Item S × Tokens). r.0) same, ap (λ (r : Item S × Tokens). r.1) same)

-- where no item is read none begins
unbegun : {R S : Type 0} (mark : Tokens → S) (room : ℕ) (i : Item R) (rest ts : Tokens)
    → IsShapedItem i → item_height i ≤ room + 2 → item mark room ts ≡ None
    → item_tokens i ++ rest ≡ ts → ⊥
unbegun mark room i rest ts shaped low none h =
    let same = ap (item mark room) h in
    let read = item_undo mark i room rest shaped low in
    absurd (cc (read, same, none))

end_unread : (room : ℕ) → item unmark room [] ≡ None
unfolding item
end_unread room = refl

-- two files at the front of the same tokens up to where no item is read are one with their marks,
-- and so is what stands behind them
same_files : {R Q S : Type 0} (mark : Tokens
    → S) (room : ℕ) (f : File R) (g : File Q) (x y : Tokens)
    → IsShaped f → IsShaped g → height f ≤ room + 2 → height g ≤ room + 2
    → item unmark room x ≡ None
    → item unmark room y ≡ None → file_tokens f ++ x ≡ file_tokens g ++ y
    → (marked_items mark f x ≡ marked_items mark g y) × (x ≡ y)
same_files mark room [] [] x y sf sg lf lg none nor h = (refl, h)
same_files mark room [] (j ∷ js) x y sf sg lf lg none nor h =
    absurd (unbegun unmark room j _ x sg.0 (omega arith) none
    (sym (h ∙ append_assoc (item_tokens j) (file_tokens js) y)))
same_files mark room (i ∷ is) [] x y sf sg lf lg none nor h =
    absurd (unbegun unmark room i _ y sf.0 (omega arith) nor
    (sym (append_assoc (item_tokens i) (file_tokens is) x) ∙ h))
same_files mark room (i ∷ is) (j ∷ js) x y sf sg lf lg none nor h =
    let s = same_items mark i j (file_tokens is ++ x) (file_tokens js ++ y) sf.0 sg.0
    (sym (append_assoc (item_tokens i) (file_tokens is) x) ∙ h
    ∙ append_assoc (item_tokens j) (file_tokens js) y) in
    let t = same_files mark room is js x y sf.1 sg.1 (omega arith) (omega arith) none nor s.1 in
    (cc (s.0, t.0), t.1)

-- with their marks, two trees of a file's tokens are equal
pub same_marked : (R Q S : Type 0) (mark : Tokens → S) (f : File R) (g : File Q) → IsShaped f
    → IsShaped g → file_tokens f ≡ file_tokens g
    → marked_items mark f [] ≡ marked_items mark g []
same_marked R Q S mark f g sf sg h =
    let room : ℕ = max (height f) (height g) in
    (same_files mark room f g [] [] sf sg (omega arith) (omega arith) (end_unread room)
    (end_unread room) (simp append-nil h)).0

-- the tree of a file's tokens is one
pub one_tree : (f g : File Bare) → IsShaped f → IsShaped g → file_tokens f ≡ file_tokens g → f ≡ g
one_tree f g sf sg h =
    sym (items_unmarked f []) ∙ same_marked Bare Bare Bare unmark f g sf sg h ∙ items_unmarked g []

-- no item goes on where another ends
pub item_ends : (i j : Item Bare) (rest : Tokens) → IsShapedItem i → IsShapedItem j
    → item_tokens i ++ rest ≡ item_tokens j → rest ≡ []
item_ends i j rest si sj h =
    (same_items unmark i j rest [] si sj (h ∙ sym (append-nil (item_tokens j)))).1

unread : (ts : Tokens) → NoItem ts → item unmark inner_height ts ≡ None
unread ts none = from (item_sound unmark inner_height ts)
  where
    from : {o : Option (Item Bare × Tokens)} → Sound (IsItem inner_height ts) o → o ≡ None
    from nothing = refl
    from (gives {x = r} h) = absurd (none r.0 r.1 h.shaped h.low h.prints)

-- these items were read before these tokens
pub record IsPart {S : Type 0} (mark : Tokens → S) (all : Tokens) (items : File S)
    (rest : Tokens) : Type 0 where
  pub prints : file_tokens items ++ rest ≡ all
  pub shaped : IsShaped items
  pub low : height items ≤ most_height
  pub marks : marked_items mark items rest ≡ items

-- what is read next stands behind these items
abbrev pub IsSoFar : {S : Type 0} → (Tokens → S) → Tokens → File S → Tokens → Type 0
IsSoFar mark all before rest = (items : File _) (end : Tokens) → IsPart mark rest items end
    → IsPart mark all (before ++ items) end

-- what is read carries its marks
marks_read : {S : Type 0} (mark : Tokens → S) (ts rest : Tokens) (i : Item S)
    → item mark inner_height ts ≡ Some (i, rest) → marked_item mark i rest ≡ i
marks_read {S = S} mark ts rest i read =
    let r = at (item_sound mark inner_height ts) read in
    let again = item_undo mark i inner_height rest r.shaped r.low in
    let same = ap (item mark inner_height) r.prints in
    let pair : (marked_item mark i rest, rest) ≡ (i, rest) = cc (again, same, read) in
    ap (λ (p : Item S × Tokens). p.0) pair

pub one_more : {S : Type 0} (mark : Tokens → S) (all : Tokens) (before : File S) (ts rest : Tokens)
    (i : Item S) → IsSoFar mark all before ts → item mark inner_height ts ≡ Some (i, rest)
    → IsSoFar mark all (before ++ i ∷ []) rest
one_more mark all before ts rest i so_far read items end h =
    let r = at (item_sound mark inner_height ts) read in
    rw append_assoc (so_far (i ∷ items) end (record {
      prints = append_assoc (item_tokens i) (file_tokens items) end ∙ rw h.prints r.prints;
      shaped = (r.shaped, h.shaped);
      low = omega (arith, r.low, h.low);
      marks = rw (h.prints, h.marks, marks_read mark ts rest i read) refl;
    }))

-- an item takes a token at least
pub shorter : {S : Type 0} (mark : Tokens → S) (ts rest : List Token) (i : Item S)
    → item mark inner_height (kinds ts) ≡ Some (i, kinds rest) → length rest < length ts
shorter mark ts rest i read =
    let r = at (item_sound mark inner_height (kinds ts)) read in
    omega (
      arith,
      some i,
      ap length r.prints,
      length-append (item_tokens i) (kinds rest),
      length-map ts (λ t. t.kind),
      length-map rest (λ t. t.kind),
    )
  where
    some : {S : Type 0} (i : Item S) → 1 ≤ length (item_tokens i)
    some (tree.Include r name) = omega arith
    some _ = omega arith

pub so_far_read : {S : Type 0} (mark : Tokens → S) (all : Tokens) (before : File S) (rest : Tokens)
    → IsSoFar mark all before rest → IsPart mark all before rest
so_far_read mark all before rest so_far =
    rw append-nil at (so_far [] rest
    (record { prints = refl; shaped = tt; low = omega arith; marks = refl }))

pub ended : {S : Type 0} (mark : Tokens → S) (all : Tokens) (before : File S) (rest : Tokens)
    → IsSoFar mark all before rest → rest ≡ []
    → IsTree all before × (marked_file mark before ≡ before)
ended mark all before rest so_far none =
    let part = rw none at (so_far_read mark all before rest so_far) in
    let prints = sym (append-nil (file_tokens before)) ∙ part.prints in
    (record { prints = prints; shaped = part.shaped; low = part.low }, part.marks)

unread_prints : {S : Type 0} (tokens : Tokens) (token : ℕ) (u : IsFirstUnread S tokens token)
    → file_tokens u.before ++ drop token tokens ≡ tokens
unread_prints tokens token u = rw u.tree.prints (take-append-drop token tokens)

-- no tree has these tokens, whatever its marks
pub unread_no_tree : (S Q : Type 0) (tokens : Tokens) (token : ℕ) (f : File Q)
    → IsFirstUnread S tokens token → IsTree tokens f → ⊥
unread_no_tree S Q tokens token f u t =
    let all = unread_prints tokens token u ∙ sym t.prints ∙ sym (append-nil (file_tokens f)) in
    let same = same_files unmark inner_height u.before f (drop token tokens) [] u.tree.shaped
    t.shaped u.tree.low t.low (unread (drop token tokens) u.unread)
    (end_unread inner_height) all in
    omega (arith, u.within, ap length same.1, length-drop token tokens)

-- the first token that isn't read is one
pub one_first_unread : (S : Type 0) (tokens : Tokens) (a b : ℕ) → IsFirstUnread S tokens a
    → IsFirstUnread S tokens b → a ≡ b
one_first_unread S tokens a b p q =
    let same = same_files unmark inner_height p.before q.before (drop a tokens)
    (drop b tokens) p.tree.shaped q.tree.shaped p.tree.low q.tree.low
    (unread (drop a tokens) p.unread) (unread (drop b tokens) q.unread)
    (unread_prints tokens a p ∙ sym (unread_prints tokens b q)) in
    omega (arith, p.within, q.within, ap length same.1, length-drop a tokens, length-drop b tokens)

pub first_unread : {S : Type 0} (mark : Tokens → S) (all rest : List Token) (before : File S)
    → IsSoFar mark (kinds all) before (kinds rest) → 0 < length rest
    → item mark inner_height (kinds rest) ≡ None
    → IsFirstUnread S (kinds all) (length all - length rest)
    × ((f : File Bare) → IsTree (kinds all) f → ⊥)
first_unread {S = S} mark all rest before so_far some none =
    let part = so_far_read mark (kinds all) before (kinds rest) so_far in
    let whole = part.prints in
    let token : ℕ = length all - length rest in
    let many : length (kinds all) ≡ length all = length-map all (λ t. t.kind) in
    let left : length (kinds rest) ≡ length rest = length-map rest (λ t. t.kind) in
    let is : token ≡ length (file_tokens before) =
    omega (arith, length-append (file_tokens before) (kinds rest), ap length whole) in
    let first : take token (kinds all) ≡ file_tokens before =
    rw (is, ← whole) (take-append_seam (file_tokens before) (kinds rest)) in
    let second : drop token (kinds all) ≡ kinds rest =
    rw (is, ← whole) (drop-append_seam (file_tokens before) (kinds rest)) in
    let u : IsFirstUnread S (kinds all) token = record {
      within = omega (arith, length-append (file_tokens before) (kinds rest), ap length whole);
      before = before;
      tree = record { prints = sym first; shaped = part.shaped; low = part.low };
      unread = λ i behind shaped low h.
          unbegun mark inner_height i behind (kinds rest) shaped low none (h ∙ second);
    } in (u, (λ f t. unread_no_tree S Bare (kinds all) token f u t))
