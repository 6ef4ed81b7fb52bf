-- The turns of reading a list, and the indices and members behind a name.
use Rattle.std.proofs.Common.{◌≡◌, ℕ, suc, ◌+◌, ◌-◌, ◌<◌, max, Bool, List, [], ◌∷◌, ◌++◌, Option}
use Rattle.std.proofs.Common.{Some, None, true, false, refl, ap, sym, ◌∙◌, arith}
use Rattle.cir_token.specs.declared.token.Symbol.{Symbol}
use Rattle.cir_token.specs.declared.token.Symbol.TheVariants.{Comma, OpenParenthesis, OpenBracket}
use Rattle.cir_token.specs.declared.token.Symbol.TheVariants.{CloseBracket, Dot}
use Rattle.cir_ast.specs.declared.marked.Expr.{Expr as CodeExpr}
use Rattle.cir_ast.specs.declared.marked.Accessor.{Accessor as CodeAccessor}
use Rattle.cir_ast.specs.declared.marked.Accessor.TheVariants.{Index, Member}
use Rattle.cir_ast.specs.declared.marked.NamedInput.{NamedInput as CodeInput}
use Rattle.cir_ast.specs.declared.operators.Arrow.{Arrow}
use Rattle.cir_ast.specs.declared.marked.Inputs.{Inputs as CodeInputs}
use Rattle.cir_ast.specs.Tree as tree
use Rattle.cir_ast.specs.Tree.{as_exprs, as_named, bare_exprs, bare_inputs}
use Rattle.cir_ast.specs.Plain.{PlainExpr as Expr, PlainAccessors as Accessors}
use Rattle.cir_ast.specs.Plain.{PlainInputs as Inputs, plain_exprs, plain_named}
use Rattle.cir_ast.specs.Height.{height_of, exprs_height, accessors_height, named_height, highest}
use Rattle.cir_expression.specs.declared.measured.Reading.{Reading}
use Rattle.cir_expression.specs.declared.reader.Stop.{Stop}
use Rattle.cir_expression.specs.Front.{Tokens, tail, begins, behind, name_at}
use Rattle.cir_expression.specs.Combinators.{next, listed_to}
use Rattle.cir_expression.specs.Reading.{Found, Input, input_at, as_inputs, inputs_by, called_by}
use Rattle.cir_expression.specs.Reading.{named_input, named_inputs_by, arguments_by, accessors_by}
use Rattle.cir_expression.specs.Answers.{Stops, seen, seen_exprs, seen_accessors, seen_named}
use Rattle.cir_expression.specs.Answers.{seen_inputs, begins_input}
use Rattle.cir_expression.specs.Measured.{IsAbove}
use Rattle.cir_expression.proofs.Front.{split}
use Rattle.cir_expression.proofs.Steps.{stops_next}

-- a list is what is read from here on in so many turns, behind what was read before
pub record Onward {A : Type 0} (close : Symbol) (read : Tokens → Option (A × Tokens)) (n : ℕ)
    (before : List A) (ts : Tokens) (all : Option (List A × Tokens)) : Type 0 where
  pub is : all ≡ listed_to close n read before ts

module _ {A : Type 0} {close : Symbol} {read : Tokens → Option (A × Tokens)} {n : ℕ}
    {before : List A} {ts : Tokens} {all : Option (List A × Tokens)}
    (so_far : Onward close read n before ts all) (some : 0 < n) where
  turn : n ≡ suc (n - 1)
  turn = omega arith

  pub no_item : (stop : Stop) → Stops stop (read ts) → Stops stop all
  no_item stop s = rw (so_far.is, turn) (stops_next _ _ stop (stops_next _ _ stop s))

  pub no_end : (stop : Stop) (rest : Tokens) (x : A) → read ts ≡ Some (x, rest)
      → begins Comma rest ≡ false → Stops stop (behind close rest) → Stops stop all
  no_end stop rest x r comma s = rw (so_far.is, turn, r, comma) (stops_next _ _ stop s)

  pub last_item : (rest after : Tokens) (x : A) → read ts ≡ Some (x, rest)
      → begins Comma rest ≡ false → behind close rest ≡ Some after
      → all ≡ Some (before ++ x ∷ [], after)
  last_item rest after x r comma ends = rw (so_far.is, turn, r, comma, ends) refl

  pub more_items : (m : ℕ) (rest : Tokens) (x : A) → n ≡ suc m → read ts ≡ Some (x, rest)
      → begins Comma rest ≡ true → Onward close read m (before ++ x ∷ []) (tail rest) all
  more_items m rest x fuel r comma = record { is = rw (so_far.is, fuel, r, comma) refl }

pub no_item_left : {A : Type 0} (close : Symbol) (n : ℕ) (read : Tokens → Option (A × Tokens))
    (before : List A) (ts : Tokens) (all : Option (List A × Tokens))
    → Onward close read n before ts all → n ≡ 0 → all ≡ None
no_item_left close n read before ts all so_far h = rw (so_far.is, h) refl

pub one_value : (read : Tokens → Found) (ts inner rest : Tokens) (i : List ℕ × Arrow) (x : Expr)
    → input_at ts ≡ Some (i, inner) → read inner ≡ Some (x, rest)
    → named_input read ts ≡ Some ((i, x), rest)
one_value read ts inner rest i x r s = rw (r, s) refl

highest_last : {A : Type 0} (high : A → ℕ) (xs : List A) (x : A)
    → highest high (xs ++ x ∷ []) ≡ max (high x) (highest high xs)
highest_last high [] x = refl
highest_last high (y ∷ xs) x = rw (highest_last high xs x) (omega arith)

-- the height of a list with one item more
pub one_higher : {A : Type 0} (high : A → ℕ) (before after : List A) (x : A) (h m : ℕ)
    → after ≡ before ++ x ∷ [] → h ≡ highest high before → m ≡ max (high x) h
    → m ≡ highest high after
one_higher high before after x h m is below made = rw (made, below, is, highest_last) refl

-- the heights of what a list holds
abbrev pub height_seen : {N : Type 0} → CodeExpr N → ℕ
height_seen e = height_of (seen e)

abbrev pub accessor_height : {N : Type 0} → CodeAccessor N → ℕ
accessor_height (Index e) = height_seen e
accessor_height (Member name) = 0

abbrev pub input_height : {N : Type 0} → CodeInput N → ℕ
input_height i = height_seen i.value

-- are those of the lists in trees
pub exprs_high : {N : Type 0} (es : List (CodeExpr N))
    → highest height_seen es ≡ exprs_height (seen_exprs es)
exprs_high [] = refl
exprs_high (e ∷ es) = ap (max (height_seen e)) (exprs_high es)

pub named_high : {N : Type 0} (is : List (CodeInput N))
    → highest input_height is ≡ named_height (seen_named is)
named_high [] = refl
named_high (i ∷ is) = ap (max (input_height i)) (named_high is)

pub accessors_high : {N : Type 0} (list : List (CodeAccessor N))
    → highest accessor_height list ≡ accessors_height (seen_accessors list)
accessors_high [] = refl
accessors_high (Index e ∷ list) = ap (max (height_seen e)) (accessors_high list)
accessors_high (Member name ∷ list) = omega (arith, accessors_high list)

-- indices and members in front of others
abbrev pub onto : {N : Type 0} → List (CodeAccessor N) → Accessors → Accessors
onto [] a = a
onto (Index e ∷ list) a = tree.index (seen e) (onto list a)
onto (Member name ∷ list) a = tree.member name (onto list a)

onto_last : {N : Type 0} (list : List (CodeAccessor N)) (x : CodeAccessor N) (a : Accessors)
    → onto (list ++ x ∷ []) a ≡ onto list (onto (x ∷ []) a)
onto_last [] x a = refl
onto_last (Index e ∷ list) x a = ap (tree.index (seen e)) (onto_last list x a)
onto_last (Member name ∷ list) x a = ap (tree.member name) (onto_last list x a)

onto_pushed : {N : Type 0} (list : List (CodeAccessor N)) (x : CodeAccessor N)
    → onto (list ++ x ∷ []) ≡ (λ a. onto list (onto (x ∷ []) a))
onto_pushed list x = λ i a. onto_last list x a i

pub onto_done : {N : Type 0} (list : List (CodeAccessor N))
    → onto list tree.done ≡ seen_accessors list
onto_done [] = refl
onto_done (Index e ∷ list) = ap (tree.index (seen e)) (onto_done list)
onto_done (Member name ∷ list) = ap (tree.member name) (onto_done list)

-- a path is what is read from here on in so many turns, behind what was read before
pub record PathOnward {N : Type 0} (read : Tokens → Found) (n : ℕ) (before : List (CodeAccessor N))
    (ts : Tokens) (all : Option (Accessors × Tokens)) : Type 0 where
  pub is : all ≡ accessors_by n read (onto before) ts

module _ {N : Type 0} {read : Tokens → Found} {n : ℕ} {before : List (CodeAccessor N)} {ts : Tokens}
    {all : Option (Accessors × Tokens)} (so_far : PathOnward read n before ts all) (some : 0 < n)
  where
    path_turn : n ≡ suc (n - 1)
    path_turn = omega arith

    pub no_index : (stop : Stop) → begins OpenBracket ts ≡ true → Stops stop (read (tail ts))
        → Stops stop all
    no_index stop opens s = rw (so_far.is, path_turn, opens) (stops_next _ _ stop s)

    pub no_close : (stop : Stop) (rest : Tokens) (x : Expr) → begins OpenBracket ts ≡ true
        → read (tail ts) ≡ Some (x, rest) → Stops stop (behind CloseBracket rest) → Stops stop all
    no_close stop rest x opens r s =
        rw (so_far.is, path_turn, opens, r) (stops_next _ _ stop s)

    pub no_member : (stop : Stop) → begins OpenBracket ts ≡ false → begins Dot ts ≡ true
        → Stops stop (name_at (tail ts)) → Stops stop all
    no_member stop shut dot s = rw (so_far.is, path_turn, shut, dot) (stops_next _ _ stop s)

    -- where no index and no member follows
    pub no_more : begins OpenBracket ts ≡ false → begins Dot ts ≡ false
        → all ≡ Some (seen_accessors before, ts)
    no_more shut dot = rw (so_far.is, path_turn, shut, dot, onto_done before) refl

    pub one_index : (m : ℕ) (rest after : Tokens) (e : CodeExpr N) (now : List (CodeAccessor N))
        → n ≡ suc m → begins OpenBracket ts ≡ true → read (tail ts) ≡ Some (seen e, rest)
        → behind CloseBracket rest ≡ Some after → now ≡ before ++ Index e ∷ []
        → PathOnward read m now after all
    one_index m rest after e now fuel opens r ends pushed = record {
      is = rw (so_far.is, fuel, opens, r, ends, pushed, onto_pushed before (Index e)) refl;
    }

    pub one_member : (m : ℕ) (rest : Tokens) (name : List ℕ) (now : List (CodeAccessor N))
        → n ≡ suc m → begins OpenBracket ts ≡ false → begins Dot ts ≡ true
        → name_at (tail ts) ≡ Some (name, rest) → now ≡ before ++ Member name ∷ []
        → PathOnward read m now rest all
    one_member m rest name now fuel shut dot r pushed = record {
      is = rw (so_far.is, fuel, shut, dot, r, pushed, onto_pushed before (Member name)) refl;
    }

pub path_begun : {N : Type 0} (read : Tokens → Found) (n m : ℕ) (list : List (CodeAccessor N))
    (ts : Tokens) → n ≡ m → list ≡ []
    → PathOnward read n list ts (accessors_by m read (λ a. a) ts)
path_begun read n m list ts same empty = rw (same, empty) record { is = refl }

-- where no turn is left
pub no_turn : {N : Type 0} (read : Tokens → Found) (n : ℕ) (before : List (CodeAccessor N))
    (ts : Tokens) (all : Option (Accessors × Tokens)) → PathOnward read n before ts all → n ≡ 0
    → all ≡ None
no_turn read n before ts all so_far h = rw (so_far.is, h) refl

-- arguments and inputs by their code's trees
plain_list : {N : Type 0} (es : List (CodeExpr N)) → plain_exprs (bare_exprs es) ≡ seen_exprs es
plain_list [] = refl
plain_list (e ∷ es) = ap (tree.more (seen e)) (plain_list es)

pub listed_seen : {N : Type 0} (list es : List (CodeExpr N)) → list ≡ es
    → plain_exprs (bare_exprs list) ≡ seen_exprs es
listed_seen list es same = plain_list list ∙ ap seen_exprs same

pub named_seen : {N : Type 0} (is : List (CodeInput N)) → plain_named (as_named is) ≡ seen_named is
named_seen [] = refl
named_seen (i ∷ is) = ap (tree.named i.name i.arrow (seen i.value)) (named_seen is)

-- inputs by their code's trees
pub listed_inputs : {N : Type 0} (inputs : CodeInputs N) (list es : List (CodeExpr N))
    → bare_inputs inputs ≡ tree.Listed (bare_exprs list) → list ≡ es
    → seen_inputs inputs ≡ tree.Listed (seen_exprs es)
listed_inputs inputs list es is same = rw (is, listed_seen list es same) refl

pub named_inputs : {N : Type 0} (inputs : CodeInputs N) (list is : List (CodeInput N))
    → bare_inputs inputs ≡ tree.Named (as_named list) → list ≡ is
    → seen_inputs inputs ≡ tree.Named (seen_named is)
named_inputs inputs list is e same = rw (e, named_seen list, same) refl

-- a tree's height, by that of what it was made of
pub is_above : {N : Type 0} (r : Reading N) (e : Expr) (height : ℕ) → seen r.tree ≡ e
    → height + 1 ≡ height_of e → r.height ≡ height + 1 → IsAbove r e height
is_above r e height is high up =
    record { tree = is; measured = up ∙ high ∙ ap height_of (sym is); height = up }

-- a component, from what is read of it
pub given_is : (read : Tokens → Found) (parallel : Bool) (name : List ℕ) (arguments : List Expr)
    (given : Inputs) (whole : Expr) (ts rest inner after : Tokens)
    → arguments_by read ts ≡ Some (arguments, rest) → begins OpenParenthesis rest ≡ true
    → inner ≡ tail rest → inputs_by read inner ≡ Some (given, after)
    → whole ≡ tree.Anonymous parallel name tt (as_exprs arguments) given
    → next (arguments_by read ts) (λ found. called_by read parallel name found.0 found.1)
    ≡ Some (whole, after)
given_is read parallel name arguments given whole ts rest inner after r opens same n is =
    rw (r, opens, ← same, n, is) refl

pub named_given : (read : Tokens → Found) (list : List Input) (given : Inputs) (ts rest : Tokens)
    → begins_input ts ≡ true → named_inputs_by read ts ≡ Some (list, rest)
    → given ≡ tree.Named (as_inputs list) → inputs_by read ts ≡ Some (given, rest)
named_given read list given ts rest begin n is =
    split (input_at ts) (λ e. absurd (cc (rw e at begin))) (λ i e. rw (e, n, is) refl)

pub listed_given : (read : Tokens → Found) (list : List Expr) (given : Inputs) (ts rest : Tokens)
    → begins_input ts ≡ false → arguments_by read ts ≡ Some (list, rest)
    → given ≡ tree.Listed (as_exprs list) → inputs_by read ts ≡ Some (given, rest)
listed_given read list given ts rest begin n is =
    split (input_at ts) (λ e. rw (e, n, is) refl) (λ i e. absurd (cc (rw e at begin)))
