-- Runs of bytes at the front of a text, and each function's step as a piece of the reading.
use Rattle.std.proofs.Common.{◌≡◌, ◌≢◌, inl, inr, ℕ, zero, suc, ◌+◌, ◌<◌, ◌≤◌, Bool, true, false}
use Rattle.std.proofs.Common.{List, [], ◌∷◌, ◌++◌, length, get_or, take, drop, refl, sym, ap, subst}
use Rattle.std.proofs.Common.{◌∙◌, arith, drop_of_length-le, ◌^◌, Option, Some, None, Result, Ok}
use Rattle.std.proofs.Common.{Err}
use Rattle.std.specs.Prelude.{◌==◌, ◌&&◌, not, All, IsErrAnd}
use Rattle.std.specs.List.{list_all, prefix_len, find}
use Rattle.std.proofs.lemmas.Bool.{false≢true, cond-true, cond-false, and_parts, and_from, cases_lt}
use Rattle.std.proofs.lemmas.Bool.Decides.{nat_tests, Decides-eqb}
use Rattle.std.proofs.lemmas.List.{append_assoc, take_at, drop_at, drop_more, append-nil}
use Rattle.std.proofs.lemmas.List.{take-append-drop, length-drop, drop-drop}
use Rattle.std.proofs.lemmas.List.Elements.{All-weaker, All-head, All-tail}
use Rattle.std.proofs.lemmas.List.Sums.{prefix_len-le-length, prefix_len_stops}
use Rattle.std.proofs.lemmas.List.Sums.{AllPass-from_list_all}
use Rattle.cir_lexer.specs.Bytes.{is_blank, is_mark, is_letter, is_digit, is_name_byte}
use Rattle.cir_lexer.specs.Bytes.{is_hexadecimal}
use Rattle.cir_lexer.specs.Class.{first_class, class_of}
use Rattle.cir_lexer.specs.Spelling.{is_identifier, IsQuotable, IsSpelling, number_in, quoted}
use Rattle.cir_lexer.specs.Reading.{NoLonger, IsLineEnd, BeginsComment, IsGap, Blank, Line, Block}
use Rattle.cir_lexer.specs.Reading.{IsLineComment, IsBlockComment, IsQuotation, IsLongest, IsNarrow}
use Rattle.cir_lexer.specs.Reading.{IsFault, IsBadInside, Closes, Piece, Gap, Spelled, Begins}
use Rattle.cir_lexer.specs.Reading.{IsCut, tokens_of}
use Rattle.cir_lexer.specs.Lengths.{identifier_len, is_lettered, is_quotable, is_in_line}
use Rattle.cir_lexer.specs.Lengths.{begins_pair, begins_hexadecimal, IsLongestSymbol, IsFirstClose}
use Rattle.cir_lexer.proofs.Spelled.{by_test, kind_class, text_class, reserved_identifier}
use Rattle.cir_lexer.proofs.Spelled.{spelled_first, is_other, no_comment}
use Rattle.cir_token.specs.Spelling.{symbol_bytes}
use Rattle.cir_token.specs.declared.token.TokenKind.TheVariants as token
use Rattle.cir_token.specs.declared.token.Symbol.{Symbol}
use Rattle.std.specs.Option.{SomeIff}
use Rattle.std.specs.Str.{IsUtf8}
use Rattle.cir_lexer.specs.Steps.{Takes, Steps, IsNumeralAt}
use Rattle.cir_lexer.specs.declared.class.Class.{Class}
use Rattle.cir_token.specs.declared.token.Token.{Token}
use Rattle.cir_token.specs.declared.token.TokenKind.{TokenKind}
use Rattle.cir_token.specs.declared.token.LexCause.{LexCause}
use Rattle.cir_token.specs.declared.token.LexCause.TheVariants.{BadChar, OpenComment, OpenString}
use Rattle.cir_token.specs.declared.token.LexCause.TheVariants.{NumberTooWide}
use Rattle.cir_lexer.specs.declared.fault.LexFault.{LexFault}
use Rattle.cir_lexer.specs.declared.fault.LexFault.TheVariants.{At}
use Rattle.cir_lexer.specs.declared.class.Class.TheVariants as class
pub use Rattle.std.proofs.lemmas.List.{length-append, length-take-le, take_rest}

pub ruleset prefixes = (prefix_len-le-length)

pub prefix_step : (p : ℕ → Bool) (c : ℕ) (cs : List ℕ) → p c ≡ true
    → prefix_len p (c ∷ cs) ≡ suc (prefix_len p cs)
prefix_step p c cs e = cond-true _ _ _ e ∙ omega arith

-- a front all of which passes is within the longest one that does
prefix_all : (p : ℕ → Bool) (text front after : List ℕ) → text ≡ front ++ after
    → list_all p front ≡ true → length front ≤ prefix_len p text
prefix_all p text front after t e =
    subst (λ t. length front ≤ prefix_len p t) (sym t) (within front e)
  where
    within : (front : List ℕ) → list_all p front ≡ true
        → length front ≤ prefix_len p (front ++ after)
    within [] e = omega arith
    within (c ∷ cs) e = let both = and_parts (p c) (list_all p cs) e in
        omega (arith, prefix_step p c (cs ++ after) both.0, within cs both.1)

-- and the longest one passes
prefix_passes : (p : ℕ → Bool) (text : List ℕ) → list_all p (take (prefix_len p text) text) ≡ true
prefix_passes p [] = refl
prefix_passes p (c ∷ cs) = by_test (p c)
    (λ e. rw (prefix_step p c cs e) (and_from _ _ e (prefix_passes p cs)))
    (λ e. rw (cond-false (p c) (1 + prefix_len p cs) 0 e) refl)

pub all_taken : (p : ℕ → Bool) (Q : ℕ → Type 0) → ((c : ℕ) → p c ≡ true → Q c) → (text : List ℕ)
    → All Q (take (prefix_len p text) text)
all_taken p Q h text =
    All-weaker (λ c. p c ≡ true) Q h (take (prefix_len p text) text)
    (AllPass-from_list_all p (take (prefix_len p text) text) (prefix_passes p text))

-- behind a run the line ends, where what stops it could only be a line feed
pub ends_line : (p : ℕ → Bool) (text : List ℕ)
    → (prefix_len p text < length text → p (get_or text (prefix_len p text) 0) ≡ false
    → get_or text (prefix_len p text) 0 ≡ 10)
    → IsLineEnd (drop (prefix_len p text) text)
ends_line p text h = let n = prefix_len p text in elim (cases_lt n (length text)) [
  | inl l ↦
      let here = h l (prefix_len_stops p text 0 l) in
      inr (drop (n + 1) text, drop_more text n 0 l ∙ ap (λ c. c ∷ drop (n + 1) text) here)
  | inr g ↦ inl (drop_of_length-le text g)
]

-- two cuts of a text with fronts of one length are one
pub split_same : (b a c d : List ℕ) → b ++ a ≡ c ++ d → length b ≡ length c → (b ≡ c) × (a ≡ d)
split_same b a c d e l = (
  sym (take_at b a _ refl) ∙ ap (take (length b)) e ∙ take_at c d _ (sym l),
  sym (drop_at b a _ refl) ∙ ap (drop (length b)) e ∙ drop_at c d _ (sym l),
)

-- two bodies of bytes that pass, with what stops a run behind them, are one
module _ (p : ℕ → Bool) (Q : ℕ → Type 0) (h : (c : ℕ) → Q c → p c ≡ true) where
  run_len : (body after : List ℕ) → All Q body → prefix_len p after ≡ 0
      → prefix_len p (body ++ after) ≡ length body
  run_len [] after a z = z
  run_len (c ∷ cs) after a z = prefix_step p c (cs ++ after) (h c (All-head Q c cs a))
      ∙ ap suc (run_len cs after (All-tail Q c cs a) z)

  run_same : (b a c d : List ℕ) → b ++ a ≡ c ++ d → All Q b → All Q c → prefix_len p a ≡ 0
      → prefix_len p d ≡ 0 → (b ≡ c) × (a ≡ d)
  run_same b a c d e m n x y =
      split_same b a c d e (sym (run_len b a m x) ∙ ap (prefix_len p) e ∙ run_len c d n y)

pub line_stops : (p : ℕ → Bool) (after : List ℕ) → p 10 ≡ false → IsLineEnd after
    → prefix_len p after ≡ 0
line_stops p after f (inl e) = ap (prefix_len p) e
line_stops p after f (inr (rest, e)) = ap (prefix_len p) e ∙ cond-false _ _ _ f

-- the test by which a run stays in its line
in_line_is : (c : ℕ) → (c ≢ 10 → is_in_line c ≡ true) × (is_in_line c ≡ true → c ≢ 10)
    × (is_in_line c ≡ false → c ≡ 10)
in_line_is c = (
  λ n. grind (arith, nat_tests),
  λ e. grind (arith, nat_tests),
  λ e. grind (arith, nat_tests),
)

pub line_same : (b a c d : List ℕ) → b ++ a ≡ c ++ d → All (λ x. x ≢ 10) b → All (λ x. x ≢ 10) c
    → prefix_len is_in_line a ≡ 0 → prefix_len is_in_line d ≡ 0 → (b ≡ c) × (a ≡ d)
line_same = run_same is_in_line (λ x. x ≢ 10) (λ c. (in_line_is c).0)

-- the test by which a run stays in its string
quotable_is : (c : ℕ) → ((c ≢ 34) × (c ≢ 10) → is_quotable c ≡ true)
    × (is_quotable c ≡ true → (c ≢ 34) × (c ≢ 10)) × (c ≢ 34 → is_quotable c ≡ false → c ≡ 10)
quotable_is c = (
  λ h. let a : c ≢ 34 = h.0 in let b : c ≢ 10 = h.1 in grind (arith, nat_tests),
  λ e. (λ h. grind (arith, nat_tests), λ h. grind (arith, nat_tests)),
  λ n e. grind (arith, nat_tests),
)

pub quote_same : (b a c d : List ℕ) → b ++ a ≡ c ++ d → IsQuotable b → IsQuotable c
    → prefix_len is_quotable a ≡ 0 → prefix_len is_quotable d ≡ 0 → (b ≡ c) × (a ≡ d)
quote_same = run_same is_quotable (λ x. (x ≢ 34) × (x ≢ 10)) (λ c. (quotable_is c).0)

-- a string whose body ends with a quote is the longest spelling
pub string_longest : (text body after : List ℕ) → text ≡ 34 ∷ (body ++ 34 ∷ after) → IsQuotable body
    → NoLonger text (length body + 2)
unfolding is_blank is_letter is_mark is_digit
string_longest text body after b q front rest (token.Str other) e s =
    let same : 34 ∷ (body ++ 34 ∷ after) ≡ 34 ∷ ((other ++ 34 ∷ []) ++ rest) =
    sym b ∙ e ∙ ap (λ f. f ++ rest) s.0 in
    let tail : body ++ 34 ∷ after ≡ (other ++ 34 ∷ []) ++ rest = cc in
    let one = quote_same body (34 ∷ after) other (34 ∷ rest)
    (tail ∙ append_assoc other (34 ∷ []) rest) q s.1 refl refl in
    omega (arith, ap length s.0, length-append other (34 ∷ []), ap length one.0)
string_longest text body after b q front rest kind e s =
    let c : class.Quote ≡ kind_class kind =
    sym (ap first_class b) ∙ text_class text front rest kind e s in cc

-- the first byte behind the marks is a letter
abbrev lettered : List ℕ → Bool
lettered text = is_lettered (find (λ c. not (is_mark c)) text)

name_byte : (c : ℕ) → (is_mark c ≡ true → is_name_byte c ≡ true)
    × (is_letter c ≡ true → is_name_byte c ≡ true)
name_byte c = (λ m. grind arith, λ l. grind arith)

identifier_front : (front after : List ℕ) → is_identifier front ≡ true
    → (lettered (front ++ after) ≡ true) × (list_all is_name_byte front ≡ true)
identifier_front [] after e = absurd (false≢true e)
identifier_front (c ∷ cs) after e = by_test (is_mark c)
    (λ m. let tail : is_identifier cs ≡ true = rw m at e in
    let more = identifier_front cs after tail in
    (rw m more.0, and_from _ _ ((name_byte c).0 m) more.1))
    (λ m. let both : (is_letter c && list_all is_name_byte cs) ≡ true = rw m at e in
    let more = and_parts (is_letter c) (list_all is_name_byte cs) both in
    (rw m more.0, and_from _ _ ((name_byte c).1 more.0) more.1))

-- no identifier at the front is longer
identifier_longest : (text front after : List ℕ) → text ≡ front ++ after
    → is_identifier front ≡ true → length front ≤ identifier_len text
identifier_longest text front after t e =
    let is = identifier_front front after e in
    rw (ap lettered t ∙ is.0) (prefix_all is_name_byte text front after t is.1)

identifier_taken : (text : List ℕ) → lettered text ≡ true
    → is_identifier (take (prefix_len is_name_byte text) text) ≡ true
identifier_taken [] e = absurd (false≢true e)
identifier_taken (c ∷ cs) e = by_test (is_mark c)
    (λ m. let tail : lettered cs ≡ true = rw m at e in
    rw (prefix_step is_name_byte c cs ((name_byte c).0 m), m) (identifier_taken cs tail))
    (λ m. let letter : is_letter c ≡ true = rw m at e in
    rw (prefix_step is_name_byte c cs ((name_byte c).1 letter), m, letter)
    (prefix_passes is_name_byte cs))

-- what has a length is an identifier
pub word_is : (text : List ℕ) (n : ℕ) → n ≡ identifier_len text → n ≢ 0
    → is_identifier (take n text) ≡ true
word_is text n e some = by_test (lettered text)
    (λ l. rw (e ∙ cond-true _ _ _ l) (identifier_taken text l))
    (λ l. absurd (some (e ∙ cond-false _ _ _ l)))

-- at a letter or a mark no spelling is longer than the identifier or the `_` there
pub word_longest : (text : List ℕ) (n : ℕ) → first_class text ≡ class.Word → identifier_len text ≤ n
    → (1 ≤ prefix_len (λ c. c == 95) text → 1 ≤ n) → NoLonger text n
word_longest text n w le mark front after (token.Reserved v) e s =
    let l = identifier_longest text front after e (ap is_identifier s ∙ reserved_identifier v)
    in omega arith
word_longest text n w le mark front after (token.Name name) e s =
    let l = identifier_longest text front after e (ap is_identifier s.0 ∙ s.1) in omega arith
word_longest text n w le mark front after token.Underscore e s =
    let one : length front ≡ 1 = ap length s in
    let run = prefix_all (λ c. c == 95) text front after e (rw s refl) in
    let l = mark (omega arith) in omega arith
word_longest text n w le mark front after kind e s =
    let c : class.Word ≡ kind_class kind = sym w ∙ text_class text front after kind e s in cc

unmarked : (c : ℕ) (cs : List ℕ) → is_mark c ≡ true → identifier_len (c ∷ cs) ≡ 0
    → identifier_len cs ≡ 0
unmarked c cs m z = by_test (lettered cs)
    (λ l. let here : lettered (c ∷ cs) ≡ true = rw m l in
    let none : prefix_len is_name_byte (c ∷ cs) ≡ 0 = sym (cond-true _ _ _ here) ∙ z in
    absurd (omega (arith, none, prefix_step is_name_byte c cs ((name_byte c).0 m))))
    (λ l. cond-false _ _ _ l)

-- in a run of `_` that begins no identifier, no place begins one
pub mark_at : (i : ℕ) (text : List ℕ) → i < prefix_len (λ c. c == 95) text → identifier_len text ≡ 0
    → (drop i text ≡ 95 ∷ drop (suc i) text) × (identifier_len (drop i text) ≡ 0)
unfolding is_mark
mark_at i [] l z = absurd (omega arith)
mark_at zero (c ∷ cs) l z = by_test (c == 95)
    (λ t. (ap (λ d. d ∷ cs) ((Decides-eqb c 95).0 t), z))
    (λ f. absurd (omega (arith, l, cond-false (c == 95) (1 + prefix_len (λ d. d == 95) cs) 0 f)))
mark_at (suc i) (c ∷ cs) l z = by_test (c == 95)
    (λ t. mark_at i cs (omega (arith, l, prefix_step (λ d. d == 95) c cs t))
    (unmarked c cs (ap is_mark ((Decides-eqb c 95).0 t)) z))
    (λ f. absurd (omega (arith, l, cond-false (c == 95) (1 + prefix_len (λ d. d == 95) cs) 0 f)))

-- a decimal number at the front, where no hexadecimal one begins
pub decimal_longest : (text : List ℕ) → first_class text ≡ class.Digit
    → begins_hexadecimal text ≡ false → NoLonger text (prefix_len is_digit text)
decimal_longest text d no_hexadecimal front after (token.Number v) e (inl is) =
    prefix_all is_digit text front after e is.digits
decimal_longest text d no_hexadecimal front after (token.Number v) e (inr is) =
    absurd (false≢true
    (sym no_hexadecimal ∙ ap begins_hexadecimal (e ∙ ap (λ f. f ++ after) is.spelled)
    ∙ begins is.digits is.some is.each))
  where
    begins : (digits : List ℕ) → digits ≢ [] → list_all is_hexadecimal digits ≡ true
        → begins_hexadecimal (48 ∷ 120 ∷ (digits ++ after)) ≡ true
    begins [] n h = absurd (n refl)
    begins (c ∷ cs) n h = (and_parts (is_hexadecimal c) (list_all is_hexadecimal cs) h).0
decimal_longest text d no_hexadecimal front after kind e s =
    let c : class.Digit ≡ kind_class kind = sym d ∙ text_class text front after kind e s in cc

-- a hexadecimal number at the front
pub hexadecimal_longest : (rest text : List ℕ) → text ≡ 48 ∷ 120 ∷ rest
    → first_class text ≡ class.Digit → NoLonger text (prefix_len is_hexadecimal rest + 2)
unfolding is_digit
hexadecimal_longest rest text b d front after (token.Number v) e (inl is) =
    let one : length front ≤ 1 + 0 =
    prefix_all is_digit (48 ∷ 120 ∷ rest) front after (sym b ∙ e) is.digits in omega arith
hexadecimal_longest rest text b d front after (token.Number v) e (inr is) =
    let same : 48 ∷ 120 ∷ rest ≡ 48 ∷ 120 ∷ (is.digits ++ after) =
    sym b ∙ e ∙ ap (λ f. f ++ after) is.spelled in
    let tail : rest ≡ is.digits ++ after = cc in
    let le = prefix_all is_hexadecimal rest is.digits after tail is.each in
    omega (arith, ap length is.spelled)
hexadecimal_longest rest text b d front after kind e s =
    let c : class.Digit ≡ kind_class kind = sym d ∙ text_class text front after kind e s in cc

-- where each symbol at the front is so short, each spelling there is
pub symbol_longest : (text : List ℕ) (n : ℕ) → first_class text ≡ class.Other
    → ((s : Symbol) (after : List ℕ) → text ≡ symbol_bytes s ++ after
    → length (symbol_bytes s) ≤ n) → NoLonger text n
symbol_longest text n o le front after (token.Symbol s) e is =
    let l = le s after (e ∙ ap (λ b. b ++ after) is) in omega (arith, ap length is)
symbol_longest text n o le front after kind e is =
    let c : class.Other ≡ kind_class kind = sym o ∙ text_class text front after kind e is in cc

pair_parts : (a b c d : ℕ) → (c == a && d == b) ≡ true → (c ≡ a) × (d ≡ b)
pair_parts a b c d e = let both = and_parts (c == a) (d == b) e in
    ((Decides-eqb c a).0 both.0, (Decides-eqb d b).0 both.1)

pub pair_begins : (a b : ℕ) (text : List ℕ) → begins_pair a b text ≡ true
    → text ≡ a ∷ b ∷ drop 2 text
pair_begins a b [] e = absurd (false≢true e)
pair_begins a b (c ∷ []) e = absurd (false≢true e)
pair_begins a b (c ∷ d ∷ rest) e = let is = pair_parts a b c d e in
    λ i. is.0 i ∷ is.1 i ∷ rest

pub no_pairs : (text : List ℕ) → begins_pair 47 47 text ≡ false → begins_pair 47 42 text ≡ false
    → ¬ BeginsComment text
no_pairs text a b (inl (rest, e)) = false≢true (sym a ∙ ap (begins_pair 47 47) e)
no_pairs text a b (inr (rest, e)) = false≢true (sym b ∙ ap (begins_pair 47 42) e)

pub zero_begins : (text : List ℕ) → begins_hexadecimal text ≡ true → (text ≡ 48 ∷ 120 ∷ drop 2 text)
    × (0 < prefix_len is_hexadecimal (drop 2 text))
zero_begins [] e = absurd (false≢true e)
zero_begins (a ∷ []) e = absurd (false≢true e)
zero_begins (a ∷ b ∷ []) e = absurd (false≢true e)
zero_begins (a ∷ b ∷ c ∷ cs) e =
    let more = and_parts (a == 48) (b == 120 && is_hexadecimal c) e in
    let last = and_parts (b == 120) (is_hexadecimal c) more.1 in (
      λ i. (Decides-eqb a 48).0 more.0 i ∷ (Decides-eqb b 120).0 last.0 i ∷ c ∷ cs,
      omega (arith, prefix_step is_hexadecimal c cs last.1),
    )

abbrev size_of : Piece → ℕ
size_of (Gap n) = n
size_of (Spelled n kind) = n

abbrev size : List Piece → ℕ
size [] = 0
size (piece ∷ pieces) = size_of piece + size pieces

gap_front : (text after : List ℕ) → IsGap text after → (front : List ℕ) × (text ≡ front ++ after)
gap_front text after (Blank c b e) = (c ∷ [], e)
gap_front text after (Line body l u) = (47 ∷ 47 ∷ body, l.begins)
gap_front text after (Block body l u) = (
  47 ∷ 42 ∷ (body ++ 42 ∷ 47 ∷ []),
  l.begins ∙ ap (λ r. 47 ∷ 42 ∷ r) (sym (append_assoc body (42 ∷ 47 ∷ []) after)),
)

-- the bytes of a piece
begins_front : (text : List ℕ) (piece : Piece) (after : List ℕ) → Begins text piece after
    → (front : List ℕ) × (text ≡ front ++ after) × (length front ≡ size_of piece)
begins_front text (Gap n) after b = let f = gap_front text after b.0 in
    (f.0, f.1, omega (arith, b.1, ap length f.1, length-append f.0 after))
begins_front text (Spelled n kind) after b = (b.0, b.1.begins, sym b.3)

cut_size : (text : List ℕ) (pieces : List Piece) (rest : List ℕ) → IsCut text pieces rest
    → length text ≡ size pieces + length rest
cut_size text [] rest c = ap length c ∙ omega arith
cut_size text (piece ∷ pieces) rest c = let f = begins_front text piece c.0 c.1 in
    omega (arith, ap length f.1, length-append f.0 c.0, f.2, cut_size c.0 pieces rest c.2)

cut_append : (text : List ℕ) (pieces : List Piece) (middle : List ℕ) (more : List Piece)
    (rest : List ℕ) → IsCut text pieces middle → IsCut middle more rest
    → IsCut text (pieces ++ more) rest
cut_append text [] middle more rest c d = subst (λ t. IsCut t more rest) (sym c) d
cut_append text (piece ∷ pieces) middle more rest c d =
    (c.0, c.1, cut_append c.0 pieces middle more rest c.2 d)

tokens_append : (at : ℕ) (pieces more : List Piece) (end : ℕ) → end ≡ at + size pieces
    → tokens_of at (pieces ++ more) ≡ tokens_of at pieces ++ tokens_of end more
tokens_append at [] more end e = let f : at ≡ end = omega arith in ap (λ k. tokens_of k more) f
tokens_append at (Gap n ∷ pieces) more end e = tokens_append (at + n) pieces more end (omega arith)
tokens_append at (Spelled n kind ∷ pieces) more end e =
    ap (λ ts. record { kind = kind; offset = at; len = n } ∷ ts)
    (tokens_append (at + n) pieces more end (omega arith))

pub takes_none : (text : List ℕ) (at : ℕ) (old new : List Token) → new ≡ old
    → Takes text at old new 0
takes_none text at old new e =
    record { pieces = []; within = omega arith; cut = refl; added = e ∙ sym (append-nil old) }

-- a step behind others
pub takes_more : (text : List ℕ) (from at here : ℕ) (old mid new : List Token) (n : ℕ)
    → here ≡ from + at → Takes text from old mid at → Takes (drop at text) here mid new n
    → Takes text from old new (at + n)
takes_more text from at here old mid new n e p t =
    let size = cut_size text p.pieces (drop at text) p.cut in
    record {
      pieces = p.pieces ++ t.pieces;
      within = omega (arith, p.within, t.within, length-drop at text);
      cut = cut_append text p.pieces (drop at text) t.pieces (drop (at + n) text) p.cut
          (subst (λ r. IsCut (drop at text) t.pieces r) (drop-drop n at text) t.cut);
      added = t.added ∙ ap (λ ts. ts ++ tokens_of here t.pieces) p.added
          ∙ append_assoc old (tokens_of from p.pieces) (tokens_of here t.pieces)
          ∙ ap (λ ts. old ++ ts) (sym (tokens_append from p.pieces t.pieces here
          (omega (arith, e, p.within, size, length-drop at text))));
    }

takes_piece : (text : List ℕ) (at : ℕ) (old new : List Token) (piece : Piece) (after : List ℕ)
    → Begins text piece after → new ≡ old ++ tokens_of at (piece ∷ [])
    → Takes text at old new (size_of piece)
takes_piece text at old new piece after b added = let f = begins_front text piece after b in
    record {
      pieces = piece ∷ [];
      within = omega (arith, ap length f.1, length-append f.0 after, f.2);
      cut = (after, b, sym (ap (drop (size_of piece)) f.1 ∙ drop_at f.0 after _ f.2));
      added = added;
    }

-- a token of n bytes was added
pub takes_token : (text : List ℕ) (at : ℕ) (old new : List Token) (n : ℕ) (kind : TokenKind)
    (bytes after : List ℕ) → IsLongest text bytes kind after → IsNarrow kind → n ≡ length bytes
    → new ≡ old ++ record { kind = kind; offset = at; len = n } ∷ []
    → (0 < n) × Takes text at old new n
takes_token text at old new n kind bytes after l narrow e added = (
  omega (arith, e, (spelled_first bytes kind l.spelled).1),
  takes_piece text at old new (Spelled n kind) after (bytes, l, narrow, e) added,
)

-- a gap of n bytes was stepped over
pub takes_gap : (text : List ℕ) (at : ℕ) (old : List Token) (n : ℕ) (after : List ℕ)
    → IsGap text after → 0 < n → length text ≡ n + length after → (0 < n) × Takes text at old old n
takes_gap text at old n after gap some e =
    (some, takes_piece text at old old (Gap n) after (gap, e) (sym (append-nil old)))

pub blank_is : (c : ℕ) → class_of c ≡ class.Blank → is_blank c ≡ true
unfolding is_letter is_mark is_digit
blank_is c e = grind (arith, nat_tests)

pub takes_blank : (text : List ℕ) (at : ℕ) (old : List Token) → 0 < length text
    → class.Blank ≡ first_class text → (0 < 1) × Takes text at old old 1
takes_blank [] at old some c = absurd (omega arith)
takes_blank (d ∷ cs) at old some c =
    takes_gap (d ∷ cs) at old 1 cs (Blank d (blank_is d (sym c)) refl) (omega arith) (omega arith)

-- a fault at the first byte
pub faults : (text : List ℕ) (at : ℕ) (fault : LexFault) (cause : LexCause) → fault ≡ At cause at
    → IsFault text cause 0 → Steps text at [] [] (Err fault)
faults text at fault cause e h =
    subst (λ f. Steps text at [] [] (Err f)) (sym e) (0, h, omega arith)

-- a body that begins so far behind and isn't all of characters
pub bad_body : (text : List ℕ) (at : ℕ) (old new : List Token) (r : Result ℕ LexFault)
    (fault : LexFault) (start n : ℕ) → IsErrAnd r (λ x. x ≡ fault)
    → fault ≡ At BadChar (at + start + n) → IsBadInside text (start + n) → Steps text at old new r
bad_body text at old new (Ok k) fault start n is e bad = absurd is
bad_body text at old new (Err x) fault start n is e bad =
    subst (λ f. Steps text at old new (Err f)) (sym (is ∙ e)) (start + n, inr bad, omega arith)

-- the bodies of comments and strings, in the words of the code
module _ (text rest : List ℕ) (n : ℕ) where
  pub line_body_is : rest ≡ drop 2 text → begins_pair 47 47 text ≡ true
      → n ≡ prefix_len is_in_line rest → (after : List ℕ) × IsLineComment text (take n rest) after
      × (length (take n rest) + 2 ≤ length text)
  line_body_is e b is =
      let begins : text ≡ 47 ∷ 47 ∷ (take n rest ++ drop n rest) = pair_begins 47 47 text b
      ∙ ap (λ r. 47 ∷ 47 ∷ r) (sym e ∙ sym (take-append-drop n rest)) in (
        drop n rest,
        record {
          begins = begins;
          line = rw is (all_taken is_in_line (λ c. c ≢ 10) (λ c. (in_line_is c).1) rest);
          end = rw is (ends_line is_in_line rest (λ l. (in_line_is _).2));
        },
        omega (arith, ap length begins, length-append (take n rest) (drop n rest)),
      )

  pub block_body_is : rest ≡ drop 2 text → begins_pair 47 42 text ≡ true → IsFirstClose rest n
      → (after : List ℕ) × IsBlockComment text (take n rest) after
      × (length (take n rest) + 4 ≤ length text)
  block_body_is e b f =
      let whole : rest ≡ take n rest ++ 42 ∷ 47 ∷ f.here.0 =
      sym (take-append-drop n rest) ∙ ap (λ r. take n rest ++ r) f.here.1 in
      let begins : text ≡ 47 ∷ 42 ∷ (take n rest ++ 42 ∷ 47 ∷ f.here.0) =
      pair_begins 47 42 text b ∙ ap (λ r. 47 ∷ 42 ∷ r) (sym e ∙ whole) in (
        f.here.0,
        record {
          begins = begins;
          first = λ k l closes. f.first k (omega (arith, l, length-take-le n rest f.within))
              (subst (λ t. Closes (drop k t)) (sym whole) closes);
        },
        omega (arith, ap length begins, length-append (take n rest) (42 ∷ 47 ∷ f.here.0)),
      )

-- a search that has come a byte further, or to the end
pub close_later : (text rest : List ℕ) (at : ℕ) → rest ≡ drop at text
    → begins_pair 42 47 rest ≡ false → ((k : ℕ) → k < at → ¬ Closes (drop k text)) → (k : ℕ)
    → k < at + 1 → ¬ Closes (drop k text)
close_later text rest at e b before k l closes = elim (cases_lt k at) [
  | inl m ↦ before k m closes
  | inr m ↦ let here : k ≡ at = omega arith in
      false≢true (sym b ∙ ap (begins_pair 42 47) (e ∙ ap (λ n. drop n text) (sym here) ∙ closes.1))
]

pub close_none : (text : List ℕ) (at : ℕ) → length text ≤ at
    → ((k : ℕ) → k < at → ¬ Closes (drop k text)) → (k : ℕ) → ¬ Closes (drop k text)
close_none text at l before k closes = elim (cases_lt k at) [
  | inl m ↦ before k m closes
  | inr m ↦ let h : [] ≡ 42 ∷ 47 ∷ closes.0 =
      sym (drop_of_length-le text (omega arith)) ∙ closes.1 in cc
]

pub block_open : (text rest : List ℕ) → rest ≡ drop 2 text → begins_pair 47 42 text ≡ true
    → ((k : ℕ) → ¬ Closes (drop k rest)) → IsFault text OpenComment 0
block_open text rest e b none =
    (rest, pair_begins 47 42 text b ∙ ap (λ r. 47 ∷ 42 ∷ r) (sym e), none, refl)

pub quote_is : (c : ℕ) → class_of c ≡ class.Quote → c ≡ 34
unfolding is_blank is_letter is_mark is_digit
quote_is c e = grind (arith, nat_tests)

quote_begins : (text rest : List ℕ) → rest ≡ drop 1 text → 0 < length text
    → first_class text ≡ class.Quote → text ≡ 34 ∷ rest
quote_begins [] rest e some c = absurd (omega arith)
quote_begins (d ∷ cs) rest e some c = λ i. quote_is d c i ∷ sym e i

module _ (text rest : List ℕ) (n : ℕ) where
  pub quoted_body_is : rest ≡ drop 1 text → 0 < length text → first_class text ≡ class.Quote
      → n ≡ prefix_len is_quotable rest → n < length rest → get_or rest n 0 ≡ 34
      → (after : List ℕ) × IsQuotation text (take n rest) after
      × (length (take n rest) + 2 ≤ length text)
  quoted_body_is e some c is l quote =
      let begins : text ≡ 34 ∷ (take n rest ++ 34 ∷ drop (n + 1) rest) =
      quote_begins text rest e some c
      ∙ ap (λ r. 34 ∷ r) (sym (take-append-drop n rest)
      ∙ ap (λ r. take n rest ++ r)
      (drop_more rest n 0 l ∙ ap (λ c. c ∷ drop (n + 1) rest) quote)) in (
        drop (n + 1) rest,
        record {
          begins = begins;
          quotable = rw is (all_taken is_quotable _ (λ c. (quotable_is c).1) rest);
        },
        omega (arith, ap length begins, length-append (take n rest) (34 ∷ drop (n + 1) rest)),
      )

  pub quote_open : rest ≡ drop 1 text → 0 < length text → first_class text ≡ class.Quote
      → n ≡ prefix_len is_quotable rest → (n < length rest → get_or rest n 0 ≢ 34)
      → IsFault text OpenString 0
  quote_open e some c is none = (
    take n rest,
    drop n rest,
    quote_begins text rest e some c ∙ ap (λ r. 34 ∷ r) (sym (take-append-drop n rest)),
    rw is (all_taken is_quotable _ (λ c. (quotable_is c).1) rest),
    rw is (ends_line is_quotable rest (λ l. (quotable_is _).2 ((rw is at none) l))),
    refl,
  )

pub string_is : (text body after : List ℕ) (value : List ℕ) → first_class text ≡ class.Quote
    → IsQuotation text body after → IsUtf8 body → value ≡ body
    → IsLongest text (quoted body) (token.Str value) after
string_is text body after value c q utf8 e =
    let len : length body + 2 ≡ length (quoted body) =
    omega (arith, length-append body (34 ∷ [])) in
    record {
      begins = q.begins ∙ ap (λ r. 34 ∷ r) (sym (append_assoc body (34 ∷ []) after));
      spelled = rw e (refl, q.quotable, utf8);
      longest = subst (NoLonger text) len (string_longest text body after q.begins q.quotable);
      no_gap = no_comment text (ap is_other c);
    }

-- an identifier or a number, as the first bytes of the text
pub front_is : (text : List ℕ) (n : ℕ) (kind : TokenKind) → n ≤ length text
    → is_other (first_class text) ≡ false → IsSpelling (take n text) kind → NoLonger text n
    → IsLongest text (take n text) kind (drop n text)
front_is text n kind le c spelled longest =
    record {
      begins = sym (take-append-drop n text);
      spelled = spelled;
      longest = subst (NoLonger text) (sym (length-take-le n text le)) longest;
      no_gap = no_comment text c;
    }

pub takes_front : (text : List ℕ) (at : ℕ) (old new : List Token) (n : ℕ) (kind : TokenKind)
    → n ≤ length text → first_class text ≡ class.Word → identifier_len text ≤ n
    → (1 ≤ prefix_len (λ c. c == 95) text → 1 ≤ n) → IsSpelling (take n text) kind → IsNarrow kind
    → new ≡ old ++ record { kind = kind; offset = at; len = n } ∷ []
    → (0 < n) × Takes text at old new n
takes_front text at old new n kind le c is mark spelled narrow added =
    takes_token text at old new n kind (take n text) (drop n text)
    (front_is text n kind le (ap is_other c) spelled (word_longest text n c is mark)) narrow
    (sym (length-take-le n text le)) added

-- one of a run of `_` that begins no identifier
pub takes_mark : (text : List ℕ) (i at : ℕ) (old new : List Token)
    → i < prefix_len (λ c. c == 95) text → identifier_len text ≡ 0
    → new ≡ old ++ record { kind = token.Underscore; offset = at; len = 1 } ∷ []
    → Takes (drop i text) at old new 1
unfolding is_blank is_letter is_mark is_digit
takes_mark text i at old new l none added =
    let here = mark_at i text l none in
    (takes_front (drop i text) at old new 1 token.Underscore (rw here.0 (omega arith))
    (ap first_class here.0) (omega (arith, here.1)) (λ h. omega arith)
    (rw here.0 refl) tt added).1

abbrev is_stray : Class → Bool
is_stray class.Word = true
is_stray class.Other = true
is_stray _ = false

stray_class : (c : ℕ) → is_stray (class_of c) ≡ true → (is_blank c ≡ false) × (c ≢ 34)
unfolding is_blank is_letter is_mark is_digit
stray_class c e = (grind (arith, nat_tests), λ h. grind (arith, nat_tests))

-- a byte at which no spelling stands
stray : (text : List ℕ) → 0 < length text → is_stray (first_class text) ≡ true → NoLonger text 0
    → IsFault text BadChar 0
stray [] some c none = absurd (omega arith)
stray (d ∷ cs) some c none = let s = stray_class d c in inl (
  record { first = d; rest = cs; begins = refl; no_blank = s.0; no_quote = s.1; no_token = none },
  refl,
)

pub stray_mark : (text : List ℕ) → 0 < length text → first_class text ≡ class.Word
    → identifier_len text ≡ 0 → prefix_len (λ c. c == 95) text ≡ 0 → IsFault text BadChar 0
stray_mark text some c none empty =
    stray text some (ap is_stray c) (word_longest text 0 c (omega arith) (λ h. omega arith))

pub stray_symbol : (text : List ℕ) → 0 < length text → first_class text ≡ class.Other
    → ((other : Symbol) (after : List ℕ) → text ≢ symbol_bytes other ++ after)
    → IsFault text BadChar 0
stray_symbol text some c none =
    stray text some (ap is_stray c) (symbol_longest text 0 c (λ s after e. absurd (none s after e)))

pub symbol_token : (text : List ℕ) (s : Symbol) → first_class text ≡ class.Other
    → ¬ BeginsComment text → IsLongestSymbol text s
    → IsLongest text (symbol_bytes s) (token.Symbol s) (drop (length (symbol_bytes s)) text)
symbol_token text s c no_gap f =
    record {
      begins = f.begins;
      spelled = refl;
      longest = symbol_longest text (length (symbol_bytes s)) c f.longest;
      no_gap = no_gap;
    }

digit_is : (c : ℕ) → class_of c ≡ class.Digit → is_digit c ≡ true
unfolding is_blank is_letter is_mark
digit_is c e = grind (arith, nat_tests)

-- a decimal number
pub decimal_at : (text : List ℕ) (n : ℕ) (value : Option ℕ) → 0 < length text
    → first_class text ≡ class.Digit → begins_hexadecimal text ≡ false
    → n ≡ prefix_len is_digit text
    → SomeIff value (number_in 10 (take n text) < 2 ^ 128) (number_in 10 (take n text))
    → IsNumeralAt text n value
decimal_at text n value some c no_hexadecimal is narrow =
    let within : n ≤ length text = omega (arith, is, prefix_len-le-length is_digit text) in
    let len : length (take n text) ≡ n = length-take-le n text within in
    record {
      bytes = take n text;
      after = drop n text;
      number = number_in 10 (take n text);
      token = front_is text n (token.Number (number_in 10 (take n text))) within (ap is_other c)
          (inl (record {
            some = λ e. absurd (digits text some c (omega (arith, ap length e, len, is)));
            digits = rw is (prefix_passes is_digit text);
            counts = refl;
          }))
          (rw is (decimal_longest text c no_hexadecimal));
      size = sym len;
      narrow = narrow;
    }
  where
    digits : (text : List ℕ) → 0 < length text → first_class text ≡ class.Digit
        → prefix_len is_digit text ≢ 0
    digits [] some c e = absurd (omega arith)
    digits (d ∷ cs) some c e = absurd (omega (arith, e, prefix_step is_digit d cs (digit_is d c)))

-- a hexadecimal number
pub hexadecimal_at : (text rest : List ℕ) (n : ℕ) (value : Option ℕ) → rest ≡ drop 2 text
    → first_class text ≡ class.Digit → begins_hexadecimal text ≡ true
    → n ≡ prefix_len is_hexadecimal rest
    → SomeIff value (number_in 16 (take n rest) < 2 ^ 128) (number_in 16 (take n rest))
    → IsNumeralAt text (n + 2) value
hexadecimal_at text rest n value e c hex is narrow =
    let b = zero_begins text hex in
    let whole : text ≡ 48 ∷ 120 ∷ rest = b.0 ∙ ap (λ r. 48 ∷ 120 ∷ r) (sym e) in
    let len : length (take n rest) ≡ n =
    length-take-le n rest (omega (arith, is, prefix_len-le-length is_hexadecimal rest)) in
    let some : 0 < n = omega (arith, is, ap (prefix_len is_hexadecimal) e, b.1) in
    record {
      bytes = 48 ∷ 120 ∷ take n rest;
      after = drop n rest;
      number = number_in 16 (take n rest);
      token = record {
        begins = whole ∙ ap (λ r. 48 ∷ 120 ∷ r) (sym (take-append-drop n rest));
        spelled = inr (record {
          digits = take n rest;
          spelled = refl;
          some = λ z. absurd (omega (arith, ap length z, len, some));
          each = rw is (prefix_passes is_hexadecimal rest);
          counts = refl;
        });
        longest = subst (NoLonger text) (omega (arith, is, len))
            (hexadecimal_longest rest text whole c);
        no_gap = no_comment text (ap is_other c);
      };
      size = omega (arith, len);
      narrow = narrow;
    }

pub wide_number : (text : List ℕ) (n : ℕ) (value : Option ℕ) → value ≡ None
    → IsNumeralAt text n value → IsFault text NumberTooWide 0
wide_number text n value none f =
    let wide : ¬ (f.number < 2 ^ 128) =
    subst (λ v. SomeIff v (f.number < 2 ^ 128) f.number) none f.narrow in
    (f.bytes, f.after, f.number, f.token, high f.number wide, refl)
  where
    high : (k : ℕ) → ¬ (k < 2 ^ 128) → 2 ^ 128 ≤ k
    high k w = omega (arith, w)

pub takes_number : (text : List ℕ) (at : ℕ) (old new : List Token) (n value : ℕ)
    → IsNumeralAt text n (Some value)
    → new ≡ old ++ record { kind = token.Number value; offset = at; len = n } ∷ []
    → (0 < n) × Takes text at old new n
takes_number text at old new n value f added =
    let narrow : (f.number < 2 ^ 128) × (value ≡ f.number) = f.narrow in
    takes_token text at old new n (token.Number value) f.bytes f.after
    (subst (λ k. IsLongest text f.bytes (token.Number k) f.after) (sym narrow.1) f.token)
    (subst (λ k. k < 2 ^ 128) (sym narrow.1) narrow.0) f.size added
