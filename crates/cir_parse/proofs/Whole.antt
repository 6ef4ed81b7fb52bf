-- Items: what is read prints its tokens, is shaped and low enough; and an item is read from the
-- tokens that it prints, whatever stands behind it.
use Rattle.std.proofs.Common.{◌≡◌, ◌≢◌, ℕ, ◌+◌, ◌≤◌, List, [], ◌∷◌, ◌++◌, Some, true, false, refl}
use Rattle.std.proofs.Common.{ap, ◌∙◌, sym, arith, append_assoc}
use Rattle.std.specs.Prelude.{codes}
use Rattle.std.specs.Str.{bytes_eq}
use Rattle.std.proofs.lemmas.Slice.Eq.{bytes_eq-Decides}
use Rattle.cir_token.specs.declared.token.TokenKind.TheVariants as token
use Rattle.cir_token.specs.declared.token.Reserved.TheVariants as word
use Rattle.cir_token.specs.declared.token.Symbol.TheVariants as symbol
use Rattle.cir_ast.specs.Tree as tree
use Rattle.cir_ast.specs.Plain.{PlainExprs as Exprs, PlainStatements as Statements}
use Rattle.cir_ast.specs.Plain.{PlainItem as Item}
use Rattle.cir_ast.specs.Print.{listed, list_tokens, name_tokens, block_tokens, public_tokens}
use Rattle.cir_ast.specs.Print.{enclosed as enclosed_tokens, item_tokens}
use Rattle.cir_ast.specs.Shape.{AllFit, Each, AreShapedStatements, IsShapedItem}
use Rattle.cir_ast.specs.Height.{exprs_height, statements_height, item_height}
use Rattle.cir_expression.specs.Front.{Tokens, tail, name_at}
use Rattle.cir_expression.specs.Reading.{arguments}
use Rattle.cir_expression.proofs.Combinators.{Sound, nothing, gives, Of, sound_map, and_then}
use Rattle.cir_expression.proofs.Combinators.{if_test, if_symbol, if_word, symbol_sound, word_sound}
use Rattle.cir_expression.proofs.Combinators.{name_sound, words_sound, number_sound, closed_sound}
use Rattle.cir_expression.proofs.Combinators.{after_sound, enclosed_sound, listed_sound, Undoes}
use Rattle.cir_expression.proofs.Combinators.{any_number_sound, ends_bracket, separated_undo}
use Rattle.cir_expression.proofs.Combinators.{any_number_undo}
use Rattle.cir_expression.proofs.Sound.{arguments_sound}
use Rattle.cir_expression.proofs.Undo.{arguments_undo}
use Rattle.cir_simple_statement.proofs.Undone.{exprs_list, exprs_same}
use Rattle.cir_parse.specs.Marking.{all_marked, marked_item}
use Rattle.cir_parse.specs.Reading.{parameters, language_at, pragma, definition, public_names}
use Rattle.cir_parse.specs.Reading.{main, item}
use Rattle.cir_parse.proofs.Nested.{block_sound}
use Rattle.cir_parse.proofs.Unnested.{statements_same, enough, statements_undo}

abbrev Any : {A : Type 0} → A → Type 0
Any x = Unit {0}

one_name : (ts : Tokens) → Sound (Of name_tokens Any ts) (name_at ts)
one_name ts = sound_map (name_sound ts) λ name is. record { prints = is; fine = tt }

language_sound : (ts : Tokens)
    → Sound (λ rest. token.Name (codes "circom") ∷ rest ≡ ts) (language_at ts)
language_sound ts =
    and_then (one_name ts) λ name h. if_test (bytes_eq name.0 (codes "circom"))
    (λ e. gives (ap (λ (n : List ℕ). token.Name n ∷ name.1)
    (sym ((bytes_eq-Decides name.0 (codes "circom")).0 e)) ∙ h.prints)) (λ e. nothing)

-- the parentheses behind the name of a definition
parameters_sound : (ts : Tokens)
    → Sound (λ r. Of (λ ps. token.Symbol symbol.OpenParenthesis ∷ list_tokens name_tokens ps)
    (Each Any) ts (r.0, token.Symbol symbol.CloseParenthesis ∷ r.1)) (parameters ts)
unfolding parameters
parameters_sound ts = enclosed_sound (any_number_sound one_name) ts

-- a name, parameters and a block
abbrev definition_tokens : {S : Type 0} → List ℕ → List (List ℕ) → Statements S → Tokens
definition_tokens name ps ss =
    token.Name name ∷ (enclosed_tokens (list_tokens name_tokens ps) ++ block_tokens ss)

record IsDefinition {S : Type 0} (room : ℕ) (ts : Tokens)
    (r : (List ℕ × List (List ℕ) × Statements S) × Tokens) : Type 0 where
  prints : definition_tokens r.0.0 r.0.1 r.0.2 ++ r.1 ≡ ts
  shaped : AreShapedStatements r.0.2
  low : statements_height r.0.2 ≤ room

definition_sound : {S : Type 0} (mark : Tokens → S) (room : ℕ) (ts : Tokens)
    → Sound (IsDefinition room ts) (definition mark room ts)
unfolding definition
definition_sound mark room ts =
    and_then (one_name ts) λ name is. and_then (parameters_sound name.1) λ ps ep.
    and_then (block_sound mark room ps.1) λ ss eb.
    gives record {
      prints = simp (append_assoc, eb.prints, ep.prints) is.prints;
      shaped = eb.fine.0;
      low = eb.fine.1;
    }

public_is : (names : List (List ℕ)) → names ≢ []
    → token.Symbol symbol.OpenBrace ∷ token.Reserved word.Public ∷ token.Symbol symbol.OpenBracket
    ∷ (list_tokens name_tokens names ++ token.Symbol symbol.CloseBracket
    ∷ token.Symbol symbol.CloseBrace ∷ []) ≡ public_tokens names
public_is [] some = absurd (some refl)
public_is (name ∷ names) some = refl

public_sound : (ts : Tokens) → Sound (λ r. public_tokens r.0 ++ r.1 ≡ ts) (public_names ts)
unfolding public_names
public_sound ts =
    if_symbol symbol.OpenBrace ts
    (λ is. and_then (word_sound word.Public (tail ts)) λ a ea.
    sound_map (closed_sound symbol.CloseBrace (closed_sound symbol.CloseBracket
    (after_sound (listed_sound one_name) symbol.OpenBracket a))) λ r e.
    rw (← public_is r.0 e.fine.0) (simp (append_assoc, e.prints, ea) is))
    (gives refl)

-- an item was read
pub record IsItem {S : Type 0} (room : ℕ) (ts : Tokens) (r : Item S × Tokens) : Type 0 where
  pub prints : item_tokens r.0 ++ r.1 ≡ ts
  pub shaped : IsShapedItem r.0
  pub low : item_height r.0 ≤ room + 2

taken : {S : Type 0} {room : ℕ} {ts rest : Tokens} {i : Item S}
    → item_tokens i ++ rest ≡ ts → IsShapedItem i → item_height i ≤ room + 2
    → Sound (IsItem room ts) (Some (i, rest))
taken prints shaped low = gives record { prints = prints; shaped = shaped; low = low }

pub item_sound : {S : Type 0} (mark : Tokens → S) (room : ℕ) (ts : Tokens)
    → Sound (IsItem room ts) (item mark room ts)
unfolding item pragma main
item_sound mark room ts =
    if_word word.Pragma ts
    (λ is. and_then (language_sound (tail ts)) λ a ea.
    and_then (closed_sound symbol.Dot (number_sound a)) λ major e1.
    and_then (closed_sound symbol.Dot (number_sound major.1)) λ minor e2.
    and_then (closed_sound symbol.Semicolon (number_sound minor.1)) λ patch e3.
    taken (rw (e3, e2, e1, ea) is) tt (omega arith))
    (if_word word.Include ts
    (λ is. and_then (closed_sound symbol.Semicolon (words_sound (tail ts))) λ name e.
    taken (rw e is) tt (omega arith))
    (if_word word.Template ts
    (λ is. if_word word.Parallel (tail ts)
    (λ parallel. and_then (definition_sound mark room (tail (tail ts))) λ d h.
    taken (rw (h.prints, parallel) is) h.shaped (omega (arith, h.low)))
    (and_then (definition_sound mark room (tail ts)) λ d h.
    taken (rw h.prints is) h.shaped (omega (arith, h.low))))
    (if_word word.Function ts
    (λ is. and_then (definition_sound mark room (tail ts)) λ d h.
    taken (rw h.prints is) h.shaped (omega (arith, h.low)))
    (and_then (word_sound word.Component ts) λ a ea.
    and_then (word_sound word.Main a) λ b eb. and_then (public_sound b) λ names en.
    and_then (after_sound one_name symbol.Equal names.1) λ name eq.
    and_then (symbol_sound symbol.OpenParenthesis name.1) λ c ec.
    and_then (closed_sound symbol.Semicolon (arguments_sound (room + 1) c)) λ es h.
    taken (simp (append_assoc, h.prints, ec, eq.prints, en, eb) ea) h.fine.0
    (omega (arith, h.fine.1))))))

-- names are read from what they print
names_each : (names : List (List ℕ)) → Each (Undoes name_tokens name_at) names
names_each [] = tt
names_each (name ∷ names) = ((λ rest ends. refl), names_each names)

definition_undo : {R S : Type 0} (mark : Tokens → S) (name : List ℕ) (ps : List (List ℕ))
    (ss : Statements R) (room : ℕ) (rest : Tokens) → AreShapedStatements ss
    → statements_height ss ≤ room
    → definition mark room (definition_tokens name ps ss ++ rest)
    ≡ Some ((name, ps, all_marked mark ss (token.Symbol symbol.CloseBrace ∷ rest)), rest)
unfolding definition parameters
definition_undo mark name ps ss room rest shaped low =
    simp append_assoc (rw (
      any_number_undo name_tokens name_at ps _ (names_each ps) (λ name after. refl),
      statements_undo mark ss room _ [] rest shaped low (enough ss rest),
      statements_same (all_marked mark ss (token.Symbol symbol.CloseBrace ∷ rest)),
    ) refl)

public_undo : (names : List (List ℕ)) (rest : Tokens)
    → public_names (public_tokens names ++ token.Symbol symbol.Equal ∷ rest)
    ≡ Some (names, token.Symbol symbol.Equal ∷ rest)
unfolding public_names
public_undo [] rest = refl
public_undo (name ∷ names) rest =
    let after : Tokens = token.Symbol symbol.CloseBrace ∷ token.Symbol symbol.Equal ∷ rest in
    simp append_assoc (rw (separated_undo name_tokens name_at (name ∷ names)
    (token.Symbol symbol.CloseBracket) after (λ e. absurd (cc e)) (names_each (name ∷ names))
    (ends_bracket after) refl) refl)

arguments_read : (es : Exprs) (room : ℕ) (rest : Tokens) → AllFit es → exprs_height es ≤ room
    → arguments room (listed es ++ token.Symbol symbol.CloseParenthesis ∷ rest)
    ≡ Some (exprs_list es, rest)
arguments_read es room rest fits low =
    let same = exprs_same es in
    rw same at (arguments_undo (exprs_list es) room rest (rw same fits) (rw same low))

-- an item is read with its marks, whatever stands behind it
pub item_undo : {R S : Type 0} (mark : Tokens → S) (i : Item R) (room : ℕ) (rest : Tokens)
    → IsShapedItem i → item_height i ≤ room + 2
    → item mark room (item_tokens i ++ rest) ≡ Some (marked_item mark i rest, rest)
unfolding item pragma main
item_undo mark (tree.Template r true name ps ss) room rest shaped low =
    rw (definition_undo mark name ps ss room rest shaped (omega arith)) refl
item_undo mark (tree.Template r false name ps ss) room rest shaped low =
    rw (definition_undo mark name ps ss room rest shaped (omega arith)) refl
item_undo mark (tree.Function r name ps ss) room rest shaped low =
    rw (definition_undo mark name ps ss room rest shaped (omega arith)) refl
item_undo mark (tree.Main r names name _ es) room rest shaped low =
    simp append_assoc (rw (
      public_undo names _,
      arguments_read es (room + 1) (token.Symbol symbol.Semicolon ∷ rest) shaped (omega arith),
      exprs_same es,
    ) refl)
item_undo mark _ room rest shaped low = refl
