-- What `parse` answers.
use Rattle.std.specs.Prelude.{◌≡◌, ◌≤◌, ◌<◌, ℕ, ◌++◌, length, take, drop, Some, None, Result, Ok}
use Rattle.std.specs.Prelude.{Err, ⊤}
use Rattle.cir_ast.specs.declared.marked.File.{File as CodeFile}
use Rattle.cir_ast.specs.Tree.{File, bare_file}
use Rattle.cir_ast.specs.Plain.{PlainFile, PlainItem, plain_file}
use Rattle.cir_ast.specs.Print.{file_tokens, item_tokens}
use Rattle.cir_ast.specs.Shape.{IsShaped, IsShapedItem}
use Rattle.cir_ast.specs.Height.{height, item_height}
use Rattle.cir_expression.specs.Front.{Tokens}
use Rattle.cir_parse.specs.Marking.{marked_file}
use Rattle.cir_parse.specs.LeftOut.{first_left_out}
use Rattle.cir_parse.specs.declared.fault.ParseFault.{ParseFault}
use Rattle.cir_parse.specs.declared.fault.ParseFault.TheVariants as fault
use Rattle.cir_parse.specs.Limits.{most_height}

-- the file prints the tokens, is shaped, and is no higher than a tree may be
pub record IsTree {S N : Type 0} (tokens : Tokens) (file : File S N) : Type 0 where
  pub prints : file_tokens file ≡ tokens
  pub shaped : IsShaped file
  pub low : height file ≤ most_height

-- no such item begins these tokens
abbrev pub NoItem : Tokens → Type 0
NoItem tokens = (item : PlainItem (Unit {0})) (rest : Tokens) → IsShapedItem item
    → item_height item ≤ most_height → item_tokens item ++ rest ≡ tokens → ⊥

-- the tokens before this one are of a tree, and from it on there is no item
pub record IsFirstUnread (S : Type 0) (tokens : Tokens) (token : ℕ) : Type 0 where
  pub within : token < length tokens
  pub before : PlainFile S
  pub tree : IsTree (take token tokens) before
  pub unread : NoItem (drop token tokens)

-- The tree, of which this is said; or the first form that is left out of the language; or, exactly
-- where there is neither, the first token of the first item that has no reading. Want of memory is
-- free.
abbrev pub ParsesTo : {S N : Type 0} → (CodeFile S N → Type 0) → Tokens
    → Result (CodeFile S N) ParseFault → Type 0
ParsesTo Tree tokens (Ok file) = Tree file
ParsesTo Tree tokens (Err (fault.Form token form)) = first_left_out 0 tokens ≡ Some (token, form)
ParsesTo {S = S} Tree tokens (Err (fault.Syntax token)) =
    (first_left_out 0 tokens ≡ None) × IsFirstUnread S tokens token
    × ((file : PlainFile (Unit {0})) → IsTree tokens file → ⊥)
ParsesTo Tree tokens (Err fault.OutOfMemory) = ⊤

-- a tree of the tokens
abbrev pub Parses : Tokens → Result (CodeFile (Unit {0}) (Unit {0})) ParseFault → Type 0
Parses tokens result =
    ParsesTo (λ file. (first_left_out 0 tokens ≡ None) × IsTree tokens (bare_file file)) tokens
    result

-- the same, where each item and statement carries the mark of the tokens from it on; what a name
-- carries is free
abbrev pub ParsesMarked : {S N : Type 0} → (Tokens → S) → Tokens → Result (CodeFile S N) ParseFault
    → Type 0
ParsesMarked mark tokens result =
    ParsesTo (λ file. (first_left_out 0 tokens ≡ None) × IsTree tokens (plain_file (bare_file file))
    × (marked_file mark (plain_file (bare_file file)) ≡ plain_file (bare_file file))) tokens result
