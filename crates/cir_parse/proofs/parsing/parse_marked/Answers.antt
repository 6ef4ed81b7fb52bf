use Rattle.std.proofs.Common.{rules, ◌≡◌, ◌<◌, List, [], length, map, ap, sym, subst, arith}
use Rattle.std.proofs.lemmas.Bool.Decides.{nat_tests}
use Rattle.std.proofs.lemmas.List.{map-append, nil_from_length}
use Rattle.cir_ast.specs.declared.marked.Item.{Item as CodeItem}
use Rattle.cir_ast.specs.Tree.{bare_item}
use Rattle.cir_ast.specs.Plain.{PlainFile as File, plain_item}
use Rattle.cir_expression.specs.Front.{Tokens}
use Rattle.cir_expression.specs.Answers.{kinds}
use Rattle.cir_simple_statement.proofs.Seen.{seen_map}
use Rattle.cir_parse.specs.Answers.{seen_item}
use Rattle.cir_parse.specs.Contract.{IsTree}
use Rattle.cir_parse.specs.Marking.{marked_file}
use Rattle.cir_parse.proofs.Files.{IsSoFar, ended, first_unread, one_more, shorter}
use Rattle.cir_parse.proofs.parsing.parse_marked.Goals as goal

pub loop-reader-smaller : goal.loop-reader-smaller
loop-reader-smaller g c = shorter (g.M.Marks.mark c.args.marks.now) _ _ _ c.in-Ok.ensures

pub loop-reader-preserved : goal.loop-reader-preserved
loop-reader-preserved g c =
    let less = shorter (g.M.Marks.mark c.args.marks.now) _ _ _ c.in-Ok.ensures in
    let before = c.loop-reader.invariant.1 in (
      rw (c.in_ok-push-in-Ok.ensures.items, map-append)
          (one_more (g.M.Marks.mark c.args.marks.now) _ _ _ _ _ c.loop-reader.invariant.0
          c.in-Ok.ensures),
      omega arith,
    )

pub returns-in-Err-NoTree : goal.returns-in-Err-NoTree
returns-in-Err-NoTree g c =
    let some : 0 < length c.loop-reader.reader.rest.now =
    first_of (search rules, grind (arith, nat_tests)) in
    let unread = first_unread (g.M.Marks.mark c.args.marks.now) c.args.tokens.now
    c.loop-reader.reader.rest.now _ c.loop-reader.invariant.0 some
    (rw c.in-Err-NoTree.field-0-is at c.in-Err-NoTree.ensures) in
    (search rules, unread.0, unread.1)

-- a tree that its marks leave as it is
abbrev IsMarkedTree : {S : Type 0} → (Tokens → S) → Tokens → File S → Type 0
IsMarkedTree mark all file = IsTree all file × (marked_file mark file ≡ file)

-- all items were read
all_read : (S N : Type 0) (mark : Tokens → S) (all : Tokens) (items list : List (CodeItem S N))
    (rest : Tokens) → IsSoFar mark all (map seen_item items) rest → rest ≡ [] → list ≡ items
    → IsMarkedTree mark all (map plain_item (map bare_item list))
all_read S N mark all items list rest so_far none same =
    subst (λ (file : File S). IsMarkedTree mark all file)
    (sym (seen_map (plain_item {S = S} {N = N}) (bare_item {S = S} {N = N}) list items same))
    (ended mark all (map seen_item items) rest so_far none)

pub returns : goal.returns
returns g c =
    let none : length c.loop-reader.reader.rest.now ≡ 0 =
    first_of (search rules, grind (arith, nat_tests)) in
    let read = all_read g.row.S.Denot g.row.N.Denot (g.M.Marks.mark c.args.marks.now) _ _ _ _
    c.loop-reader.invariant.0 (ap kinds (nil_from_length c.loop-reader.reader.rest.now none))
    c.tight.ensures in
    (search rules, read.0, read.1)
