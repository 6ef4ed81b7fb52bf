-- What holds of what is read by readings that are made of others, and that they undo printing.
use Rattle.std.proofs.Common.{◌≡◌, ◌≢◌, ℕ, zero, suc, ◌≤◌, max, List, [], ◌∷◌, ◌++◌, length}
use Rattle.std.proofs.Common.{Option, Some, None, Bool, true, false, refl, ap, ◌∙◌, sym, subst}
use Rattle.std.proofs.Common.{arith, append_assoc, append-nil, length-append}
use Rattle.std.specs.Prelude.{if◌then◌else◌}
use denote.Enum.Bare.{same_true}
use Rattle.cir_token.specs.declared.token.TokenKind.{TokenKind}
use Rattle.cir_token.specs.declared.token.TokenKind.TheVariants as token
use Rattle.cir_token.specs.declared.token.Reserved.{Reserved}
use Rattle.cir_token.specs.contracts.token.Reserved.{the_type as reserved_type}
use Rattle.cir_token.specs.declared.token.Symbol.{Symbol}
use Rattle.cir_token.specs.declared.token.Symbol.TheVariants as symbol
use Rattle.cir_token.specs.contracts.token.Symbol.{the_type as symbol_type}
use Rattle.cir_ast.specs.Print.{further_tokens, list_tokens}
use Rattle.cir_ast.specs.Shape.{Each}
use Rattle.cir_ast.specs.Height.{highest}
use Rattle.cir_expression.specs.Front.{Tokens, tail, begins, begins_word, begins_underscore, behind}
use Rattle.cir_expression.specs.Front.{behind_word, name_at, words_at, number_at, symbol_at}
use Rattle.cir_expression.specs.Combinators.{next, otherwise, after, closed, enclosed, separated_by}
use Rattle.cir_expression.specs.Combinators.{separated, listed_to, several, any_number}
use Rattle.cir_expression.specs.Reading.{goes_on, arrow_at}

-- this holds of what is read, if anything is: as data, so that a proof shows what it speaks of
pub data Sound {A : Type 0} (P : A → Type 0) : Option A → Type 0 where
  nothing : Sound P None
  gives : {x : A} → P x → Sound P (Some x)

-- what was read prints the tokens that were taken, and is fine
pub record Of {A : Type 0} (print : A → Tokens) (Fine : A → Type 0) (ts : Tokens)
    (r : A × Tokens) : Type 0 where
  pub prints : print r.0 ++ r.1 ≡ ts
  pub fine : Fine r.0

pub reads : {A : Type 0} {print : A → Tokens} {Fine : A → Type 0} {ts rest : Tokens} {x : A}
    → print x ++ rest ≡ ts → Fine x → Sound (Of print Fine ts) (Some (x, rest))
reads prints fine = gives (record { prints = prints; fine = fine })

pub at : {A : Type 0} {P : A → Type 0} {o : Option A} {x : A} → Sound P o → o ≡ Some x → P x
at nothing e = absurd (cc e)
at {P = P} {x = x} (gives {x = y} p) e = let same : y ≡ x = cc e in subst P same p

pub sound_map : {A : Type 0} {P Q : A → Type 0} {o : Option A} → Sound P o
    → ((x : A) → P x → Q x) → Sound Q o
sound_map nothing go = nothing
sound_map (gives {x = x} p) go = gives (go x p)

-- in order
pub and_then : {A B : Type 0} {P : A → Type 0} {Q : B → Type 0} {o : Option A} {go : A → Option B}
    → Sound P o → ((x : A) → P x → Sound Q (go x)) → Sound Q (next o go)
and_then nothing go = nothing
and_then (gives {x = x} p) go = go x p

-- this if it can be read, or that
pub or_else : {A B : Type 0} {P : A → Type 0} {Q : B → Type 0} {o : Option A} {end : Option B}
    {go : A → Option B}
    → Sound P o → Sound Q end → ((x : A) → P x → Sound Q (go x)) → Sound Q (otherwise o end go)
or_else nothing end go = end
or_else (gives {x = x} p) end go = go x p

-- the same, where the proof needs to know which
pub or_else_is : {A B : Type 0} {Q : B → Type 0} {end : Option B} {go : A → Option B} (o : Option A)
    → (o ≡ None → Sound Q end) → ((x : A) → o ≡ Some x → Sound Q (go x))
    → Sound Q (otherwise o end go)
or_else_is None end go = end refl
or_else_is (Some x) end go = go x refl

pub if_test : {B : Type 0} {Q : B → Type 0} {x y : Option B} (b : Bool) → (b ≡ true → Sound Q x)
    → (b ≡ false → Sound Q y) → Sound Q (if b then x else y)
if_test true there other = there refl
if_test false there other = other refl

-- by what stands at the front
pub begins_is : (s : Symbol) (ts : Tokens) → begins s ts ≡ true → ts ≡ token.Symbol s ∷ tail ts
begins_is s (token.Symbol t ∷ ts) h =
    ap (λ (s : Symbol). token.Symbol s ∷ ts) (same_true symbol_type tt t s h)
begins_is s _ h = absurd (cc h)

pub begins_word_is : (w : Reserved) (ts : Tokens) → begins_word w ts ≡ true
    → ts ≡ token.Reserved w ∷ tail ts
begins_word_is w (token.Reserved t ∷ ts) h =
    ap (λ (w : Reserved). token.Reserved w ∷ ts) (same_true reserved_type tt t w h)
begins_word_is w _ h = absurd (cc h)

underscore_is : (ts : Tokens) → begins_underscore ts ≡ true → ts ≡ token.Underscore ∷ tail ts
underscore_is (token.Underscore ∷ ts) h = refl
underscore_is _ h = absurd (cc h)

pub if_symbol : {B : Type 0} {Q : B → Type 0} {x y : Option B} (s : Symbol) (ts : Tokens)
    → (token.Symbol s ∷ tail ts ≡ ts → Sound Q x) → Sound Q y
    → Sound Q (if begins s ts then x else y)
if_symbol s ts there other =
    if_test (begins s ts) (λ e. there (sym (begins_is s ts e))) (λ e. other)

pub if_word : {B : Type 0} {Q : B → Type 0} {x y : Option B} (w : Reserved) (ts : Tokens)
    → (token.Reserved w ∷ tail ts ≡ ts → Sound Q x) → Sound Q y
    → Sound Q (if begins_word w ts then x else y)
if_word w ts there other =
    if_test (begins_word w ts) (λ e. there (sym (begins_word_is w ts e))) (λ e. other)

pub if_underscore : {B : Type 0} {Q : B → Type 0} {x y : Option B} (ts : Tokens)
    → (token.Underscore ∷ tail ts ≡ ts → Sound Q x) → Sound Q y
    → Sound Q (if begins_underscore ts then x else y)
if_underscore ts there other =
    if_test (begins_underscore ts) (λ e. there (sym (underscore_is ts e))) (λ e. other)

pub symbol_sound : (s : Symbol) (ts : Tokens)
    → Sound (λ rest. token.Symbol s ∷ rest ≡ ts) (behind s ts)
symbol_sound s ts = if_symbol s ts gives nothing

pub word_sound : (w : Reserved) (ts : Tokens)
    → Sound (λ rest. token.Reserved w ∷ rest ≡ ts) (behind_word w ts)
word_sound w ts = if_word w ts gives nothing

pub name_sound : (ts : Tokens) → Sound (λ r. token.Name r.0 ∷ r.1 ≡ ts) (name_at ts)
name_sound (token.Name name ∷ ts) = gives refl
name_sound _ = nothing

pub words_sound : (ts : Tokens) → Sound (λ r. token.Str r.0 ∷ r.1 ≡ ts) (words_at ts)
words_sound (token.Str words ∷ ts) = gives refl
words_sound _ = nothing

pub number_sound : (ts : Tokens) → Sound (λ r. token.Number r.0 ∷ r.1 ≡ ts) (number_at ts)
number_sound (token.Number n ∷ ts) = gives refl
number_sound _ = nothing

-- what a symbol means, if it means one thing alone
abbrev pub IsMeant : {A : Type 0} → (A → Symbol) → Symbol → Option A → Type 0
IsMeant of s None = Unit {0}
IsMeant of s (Some a) = s ≡ of a

pub meaning_sound : {A : Type 0} (of : A → Symbol) (meaning : Symbol → Option A)
    → ((s : Symbol) → IsMeant of s (meaning s)) → (ts : Tokens)
    → Sound (λ a. token.Symbol (of a) ∷ tail ts ≡ ts) (symbol_at meaning ts)
meaning_sound of meaning h (token.Symbol s ∷ ts) = from (meaning s) (h s)
  where
    from : (o : Option _) → IsMeant of s o
        → Sound (λ a. token.Symbol (of a) ∷ ts ≡ token.Symbol s ∷ ts) o
    from None e = nothing
    from (Some a) e = gives (ap (λ (s : Symbol). token.Symbol s ∷ ts) (sym e))
meaning_sound of meaning h _ = nothing

-- with a symbol behind it
pub closed_sound : {A : Type 0} {P : A × Tokens → Type 0} {o : Option (A × Tokens)} (s : Symbol)
    → Sound P o → Sound (λ r. P (r.0, token.Symbol s ∷ r.1)) (closed s o)
closed_sound {P = P} s h =
    and_then h (λ x first. and_then (symbol_sound s x.1) (λ rest is.
    gives (subst (λ (ts : Tokens). P (x.0, ts)) (sym is) first)))

-- a list was read behind what was read before
pub record Extends {A : Type 0} (print : List A → Tokens) (Fine : List A → Type 0)
    (before : List A) (ts : Tokens) (r : List A × Tokens) : Type 0 where
  pub found : List A
  pub behind : r.0 ≡ before ++ found
  pub read : Of print Fine ts (found, r.1)

-- one element
pub one_behind : {A : Type 0} {print : List A → Tokens} {Fine : List A → Type 0} {before : List A}
    {ts rest : Tokens} (x : A) → print (x ∷ []) ++ rest ≡ ts → Fine (x ∷ [])
    → Sound (Extends print Fine before ts) (Some (before ++ x ∷ [], rest))
one_behind x prints fine = gives (record {
  found = x ∷ [];
  behind = refl;
  read = record { prints = prints; fine = fine };
})

-- one element, and what was read behind it
pub more_behind : {A : Type 0} {print : List A → Tokens} {Fine : List A → Type 0}
    {before : List A} {ts inner : Tokens} {x : A} {o : Option (List A × Tokens)}
    → Sound (Extends print Fine (before ++ x ∷ []) inner) o
    → ((xs : List A) (rest : Tokens) → Of print Fine inner (xs, rest)
    → Of print Fine ts (x ∷ xs, rest))
    → Sound (Extends print Fine before ts) o
more_behind {before = before} {x = x} h k = sound_map h (λ r e. record {
  found = x ∷ e.found;
  behind = e.behind ∙ append_assoc before (x ∷ []) e.found;
  read = k e.found r.1 e.read;
})

-- what was read before, and the list behind it
pub whole_list : {A : Type 0} {print : List A → Tokens} {Fine Good : List A → Type 0}
    {before : List A} {ts inner : Tokens} {o : Option (List A × Tokens)}
    → Sound (Extends print Fine before inner) o
    → ((xs : List A) (rest : Tokens) → Of print Fine inner (xs, rest)
    → Of print Good ts (before ++ xs, rest))
    → Sound (Of print Good ts) o
whole_list {A = A} {print = print} {Good = Good} {ts = ts} h k = sound_map h (λ r e.
    subst (λ (xs : List A). Of print Good ts (xs, r.1)) (sym e.behind) (k e.found r.1 e.read))

further_is : {A : Type 0} (print : A → Tokens) (xs : List A) → xs ≢ []
    → further_tokens print xs ≡ token.Symbol symbol.Comma ∷ list_tokens print xs
further_is print [] h = absurd (h refl)
further_is print (x ∷ xs) h = refl

-- one or more
abbrev pub AreSome : {A : Type 0} → (A → Type 0) → List A → Type 0
AreSome Fine xs = (xs ≢ []) × Each Fine xs

-- two or more
abbrev pub AreSeveral : {A : Type 0} → (A → Type 0) → List A → Type 0
AreSeveral Fine xs = (2 ≤ length xs) × Each Fine xs

two_or_more : {A : Type 0} (x : A) (xs : List A) → xs ≢ [] → 2 ≤ length (x ∷ xs)
two_or_more x [] some = absurd (some refl)
two_or_more x (y ∷ xs) some = omega arith

-- by what each reading gives
module _ {A : Type 0} {print : A → Tokens} {Fine : A → Type 0}
    {read : Tokens → Option (A × Tokens)}
    (each : (ts : Tokens) → Sound (Of print Fine ts) (read ts)) where
  -- behind a symbol, and in parentheses
  pub after_sound : (s : Symbol) (ts : Tokens)
      → Sound (Of (λ x. token.Symbol s ∷ print x) Fine ts) (after s read ts)
  after_sound s ts =
      and_then (symbol_sound s ts) (λ inner is.
      sound_map (each inner) (λ r h. record { prints = rw h.prints is; fine = h.fine }))

  pub enclosed_sound : (ts : Tokens)
      → Sound (λ r. Of (λ x. token.Symbol symbol.OpenParenthesis ∷ print x) Fine ts
      (r.0, token.Symbol symbol.CloseParenthesis ∷ r.1)) (enclosed read ts)
  enclosed_sound ts =
      closed_sound symbol.CloseParenthesis (after_sound symbol.OpenParenthesis ts)

  separated_by_sound : (n : ℕ) (before : List A) (ts : Tokens)
      → Sound (Extends (list_tokens print) (AreSome Fine) before ts) (separated_by n read before ts)
  separated_by_sound zero before ts = nothing
  separated_by_sound (suc n) before ts =
      and_then (each ts) (λ x first. if_symbol symbol.Comma x.1
      (λ comma. more_behind (separated_by_sound n (before ++ x.0 ∷ []) (tail x.1))
      (λ xs rest h. record {
        prints = rw (append_assoc, further_is print xs h.fine.0, h.prints, comma) first.prints;
        fine = ((λ e. absurd (cc e)), (first.fine, h.fine.1));
      }))
      (one_behind x.0 (rw append-nil first.prints) ((λ e. absurd (cc e)), (first.fine, tt))))

  pub separated_sound : (n : ℕ) (ts : Tokens)
      → Sound (Of (list_tokens print) (AreSome Fine) ts) (separated_by n read [] ts)
  separated_sound n ts = whole_list (separated_by_sound n [] ts) (λ xs rest h. h)

  pub listed_sound : (ts : Tokens)
      → Sound (Of (list_tokens print) (AreSome Fine) ts) (separated read ts)
  unfolding separated
  listed_sound ts = separated_sound (length ts) ts

  -- behind a first one and a comma
  pub several_from : (n : ℕ) (x : A) (ts all : Tokens)
      → print x ++ token.Symbol symbol.Comma ∷ ts ≡ all → Fine x
      → Sound (Of (list_tokens print) (AreSeveral Fine) all) (separated_by n read (x ∷ []) ts)
  several_from n x ts all prints fine =
      whole_list (separated_by_sound n (x ∷ []) ts) (λ xs rest h. record {
        prints = rw (append_assoc, further_is print xs h.fine.0, h.prints) prints;
        fine = (two_or_more x xs h.fine.0, (fine, h.fine.1));
      })

  pub several_sound : (ts : Tokens)
      → Sound (Of (list_tokens print) (AreSeveral Fine) ts) (several read ts)
  several_sound ts =
      and_then (closed_sound symbol.Comma (each ts)) (λ x first.
      several_from (length x.1) x.0 x.1 ts first.prints first.fine)

  -- none or more
  pub any_number_sound : (ts : Tokens)
      → Sound (Of (list_tokens print) (Each Fine) ts) (any_number read ts)
  any_number_sound ts =
      if_symbol symbol.CloseParenthesis ts (λ e. reads refl tt)
      (sound_map (listed_sound ts) (λ r h. record { prints = h.prints; fine = h.fine.1 }))

-- each is shaped and low enough
pub each_shaped : {A : Type 0} (P : A → Type 0) (h : A → ℕ) (room : ℕ) (xs : List A)
    → Each (λ x. P x × (h x ≤ room)) xs → Each P xs
each_shaped P h room [] e = tt
each_shaped P h room (x ∷ xs) e = (e.0.0, each_shaped P h room xs e.1)

pub each_low : {A : Type 0} (P : A → Type 0) (h : A → ℕ) (room : ℕ) (xs : List A)
    → Each (λ x. P x × (h x ≤ room)) xs → highest h xs ≤ room
each_low P h room [] e = omega arith
each_low P h room (x ∷ xs) e =
    let a : h x ≤ room = e.0.1 in
    let b : highest h xs ≤ room = each_low P h room xs e.1 in
    omega arith

pub each_of : {A : Type 0} (P U : A → Type 0) (h : A → ℕ) (room : ℕ)
    → ((x : A) → P x → h x ≤ room → U x) → (xs : List A) → Each P xs → highest h xs ≤ room
    → Each U xs
each_of P U h room go [] e low = tt
each_of P U h room go (x ∷ xs) e low =
    let l : max (h x) (highest h xs) ≤ room = low in
    (go x e.0 (omega arith), each_of P U h room go xs e.1 (omega arith))

-- an element of a list, or what is given to it, ends before these tokens
pub record Ends (ts : Tokens) : Type 0 where
  pub goes : goes_on ts ≡ false
  pub bracket : begins symbol.OpenBracket ts ≡ false
  pub equal : begins symbol.Equal ts ≡ false
  pub arrow : arrow_at ts ≡ None

pub ends_comma : (ts : Tokens) → Ends (token.Symbol symbol.Comma ∷ ts)
ends_comma ts = record { goes = refl; bracket = refl; equal = refl; arrow = refl }

pub ends_semicolon : (ts : Tokens) → Ends (token.Symbol symbol.Semicolon ∷ ts)
ends_semicolon ts = record { goes = refl; bracket = refl; equal = refl; arrow = refl }

pub ends_parenthesis : (ts : Tokens) → Ends (token.Symbol symbol.CloseParenthesis ∷ ts)
ends_parenthesis ts = record { goes = refl; bracket = refl; equal = refl; arrow = refl }

pub ends_bracket : (ts : Tokens) → Ends (token.Symbol symbol.CloseBracket ∷ ts)
ends_bracket ts = record { goes = refl; bracket = refl; equal = refl; arrow = refl }

-- a symbol that closes a list
abbrev pub Closes : Symbol → Type 0
Closes close = (begins symbol.Comma (token.Symbol close ∷ []) ≡ false)
    × (begins close (token.Symbol close ∷ []) ≡ true)
    × ((rest : Tokens) → Ends (token.Symbol close ∷ rest))

-- it is read where it ends
abbrev pub Undoes : {A : Type 0} → (A → Tokens) → (Tokens → Option (A × Tokens)) → A → Type 0
Undoes print read x = (rest : Tokens) → Ends rest → read (print x ++ rest) ≡ Some (x, rest)

-- each but the first takes a token at least
list_many : {A : Type 0} (print : A → Tokens) (xs : List A)
    → (length xs ≤ length (further_tokens print xs))
    × (length xs ≤ suc (length (list_tokens print xs)))
list_many print [] = (omega arith, omega arith)
list_many print (x ∷ xs) =
    let h = list_many print xs in
    let both = length-append (print x) (further_tokens print xs) in
    (omega (arith, h.0, both), omega (arith, h.0, both))

-- elements that are read where they end are read as a list
module _ {A : Type 0} (print : A → Tokens) (read : Tokens → Option (A × Tokens)) where
  separated_by_undo : (xs : List A) (n : ℕ) (before : List A) (rest : Tokens) → xs ≢ []
      → Each (Undoes print read) xs → Ends rest → begins symbol.Comma rest ≡ false → length xs ≤ n
      → separated_by n read before (list_tokens print xs ++ rest) ≡ Some (before ++ xs, rest)
  separated_by_undo [] n before rest some each ends no_comma h = absurd (some refl)
  separated_by_undo (x ∷ xs) zero before rest some each ends no_comma h = absurd (omega arith)
  separated_by_undo (x ∷ []) (suc n) before rest some each ends no_comma h =
      rw (append-nil (print x), each.0 rest ends, no_comma) refl
  separated_by_undo (x ∷ y ∷ ys) (suc n) before rest some each ends no_comma h =
      let behind : Tokens = list_tokens print (y ∷ ys) ++ rest in
      rw (
        append_assoc (print x) (further_tokens print (y ∷ ys)) rest,
        each.0 (token.Symbol symbol.Comma ∷ behind) (ends_comma behind),
        separated_by_undo (y ∷ ys) n (before ++ x ∷ []) rest (λ e. absurd (cc e)) each.1
            ends no_comma (omega arith),
        append_assoc before (x ∷ []) (y ∷ ys),
      ) refl

  -- behind what was read before
  pub separated_from : (xs : List A) (t : TokenKind) (rest : Tokens) (before : List A) → xs ≢ []
      → Each (Undoes print read) xs → Ends (t ∷ rest) → begins symbol.Comma (t ∷ rest) ≡ false
      → separated_by (length (list_tokens print xs ++ t ∷ rest)) read before
      (list_tokens print xs ++ t ∷ rest) ≡ Some (before ++ xs, t ∷ rest)
  separated_from xs t rest before some each ends no_comma =
      separated_by_undo xs _ before (t ∷ rest) some each ends no_comma
      (omega (arith, (list_many print xs).1, length-append (list_tokens print xs) (t ∷ rest)))

  pub separated_undo : (xs : List A) (t : TokenKind) (rest : Tokens) → xs ≢ []
      → Each (Undoes print read) xs → Ends (t ∷ rest) → begins symbol.Comma (t ∷ rest) ≡ false
      → separated read (list_tokens print xs ++ t ∷ rest) ≡ Some (xs, t ∷ rest)
  unfolding separated
  separated_undo xs t rest = separated_from xs t rest []

  -- none or more, up to `)`
  pub any_number_undo : (xs : List A) (rest : Tokens) → Each (Undoes print read) xs
      → ((x : A) (after : Tokens) → begins symbol.CloseParenthesis (print x ++ after) ≡ false)
      → any_number read (list_tokens print xs ++ token.Symbol symbol.CloseParenthesis ∷ rest)
      ≡ Some (xs, token.Symbol symbol.CloseParenthesis ∷ rest)
  any_number_undo [] rest each opens = refl
  any_number_undo (x ∷ xs) rest each opens =
      let close : TokenKind = token.Symbol symbol.CloseParenthesis in
      let no_close : begins symbol.CloseParenthesis (list_tokens print (x ∷ xs) ++ close ∷ rest)
      ≡ false = rw append_assoc (opens x (further_tokens print xs ++ close ∷ rest)) in
      rw no_close
      (separated_undo (x ∷ xs) close rest (λ e. absurd (cc e)) each (ends_parenthesis rest) refl)

  -- and what closes them
  pub list_from : (close : Symbol) → Closes close → (xs before : List A) (rest : Tokens) → xs ≢ []
      → Each (Undoes print read) xs
      → listed_to close (length (list_tokens print xs ++ token.Symbol close ∷ rest)) read before
      (list_tokens print xs ++ token.Symbol close ∷ rest) ≡ Some (before ++ xs, rest)
  list_from close closes xs before rest some each =
      rw (
        separated_from xs (token.Symbol close) rest before some each (closes.2 rest) closes.0,
        closes.1,
      ) refl

  pub list_undo : (close : Symbol) → Closes close → (xs : List A) (rest : Tokens) → xs ≢ []
      → Each (Undoes print read) xs
      → listed_to close (length (list_tokens print xs ++ token.Symbol close ∷ rest)) read []
      (list_tokens print xs ++ token.Symbol close ∷ rest) ≡ Some (xs, rest)
  list_undo close closes xs = list_from close closes xs []

  -- two or more
  pub several_undo : (xs : List A) (t : TokenKind) (rest : Tokens) → 2 ≤ length xs
      → Each (Undoes print read) xs → Ends (t ∷ rest) → begins symbol.Comma (t ∷ rest) ≡ false
      → several read (list_tokens print xs ++ t ∷ rest) ≡ Some (xs, t ∷ rest)
  several_undo (x ∷ y ∷ ys) t rest some each ends no_comma =
      let behind : Tokens = list_tokens print (y ∷ ys) ++ t ∷ rest in
      rw (
        append_assoc (print x) (further_tokens print (y ∷ ys)) (t ∷ rest),
        each.0 (token.Symbol symbol.Comma ∷ behind) (ends_comma behind),
        separated_from (y ∷ ys) t rest (x ∷ []) (λ e. absurd (cc e)) each.1 ends no_comma,
      ) refl
  several_undo _ t rest some each ends no_comma = absurd (omega arith)
