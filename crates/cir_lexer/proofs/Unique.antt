-- A text has one reading.
use Rattle.std.proofs.Common.{◌≡◌, ◌≢◌, ◌⊎◌, inl, inr, ℕ, ◌+◌, ◌-◌, ◌<◌, ◌≤◌, Bool, true}
use Rattle.std.proofs.Common.{false, List, [], ◌∷◌, ◌++◌, length, drop, refl, sym, ap, subst, ◌∙◌}
use Rattle.std.proofs.Common.{arith, Some, Result, Ok, Err}
use Rattle.std.specs.Prelude.{⊤, codes}
use Rattle.std.specs.List.{list_all, prefix_len}
use Rattle.std.proofs.lemmas.Bool.Decides.{nat_tests}
use Rattle.std.specs.Str.{IsUtf8}
use Rattle.std.specs.Str.Lossy.{utf8_valid_len}
use Rattle.std.proofs.lemmas.Bool.{false≢true, false_from_ne_true, cond-true, cases_lt}
use Rattle.std.proofs.lemmas.List.{append_assoc, append_cancel_right, length-append, drop_at}
use Rattle.cir_lexer.specs.Bytes.{is_blank, is_mark, is_letter, is_digit}
use Rattle.cir_lexer.specs.Class.{class_of, first_class}
use Rattle.cir_lexer.specs.Spelling.{IsSpelling, IsQuotable, IsDecimal, IsHexadecimal, quoted}
use Rattle.cir_lexer.specs.Spelling.{is_identifier, number_in}
use Rattle.cir_lexer.specs.Reading.{Blank, Line, Block, IsLongest, IsNarrow, IsFault}
use Rattle.cir_lexer.specs.Reading.{IsStray, InLine, InBlock, InString, IsLineComment}
use Rattle.cir_lexer.specs.Reading.{IsBlockComment, IsQuotation, Closes, IsLineEnd, NoLonger}
use Rattle.cir_lexer.specs.Reading.{BeginsComment, Piece, Gap, Spelled, Begins, IsCut, IsReading}
use Rattle.cir_lexer.specs.Reading.{tokens_of}
use Rattle.cir_lexer.specs.Lengths.{begins_pair, is_in_line, is_quotable}
use Rattle.cir_lexer.proofs.Spelled.{kind_class, spelled_first, text_class, reserved_identifier}
use Rattle.cir_lexer.proofs.Spelled.{word_of, word_back, symbol_of, symbol_back}
use Rattle.cir_lexer.proofs.Taking.{split_same, line_same, line_stops, quote_same, pair_begins}
use Rattle.cir_lexer.specs.declared.class.Class.{Class}
use Rattle.cir_token.specs.Spelling.{reserved_bytes}
use Rattle.cir_token.specs.declared.token.Symbol.TheVariants.{Slash}
use Rattle.cir_token.specs.declared.token.Reserved.{Reserved}
use Rattle.cir_token.specs.declared.token.Token.{Token}
use Rattle.cir_token.specs.declared.token.TokenKind.{TokenKind}
use Rattle.cir_token.specs.declared.token.TokenKind.TheVariants.{Reserved as Word, Name, Underscore}
use Rattle.cir_token.specs.declared.token.TokenKind.TheVariants.{Number, Str, Symbol as Sign}
use Rattle.cir_token.specs.declared.token.LexCause.{LexCause}
use Rattle.cir_token.specs.declared.token.LexCause.TheVariants.{BadChar, OpenComment, OpenString}
use Rattle.cir_token.specs.declared.token.LexCause.TheVariants.{NumberTooWide}
use Rattle.cir_lexer.specs.declared.fault.LexFault.{LexFault}
use Rattle.cir_lexer.specs.declared.fault.LexFault.TheVariants.{At, OutOfMemory}
use Rattle.cir_lexer.specs.declared.class.Class.TheVariants as class

-- an `x` is no digit
mixed : (bytes : List ℕ) (v w : ℕ) → IsDecimal bytes v → IsHexadecimal bytes w → ⊥
unfolding is_digit
mixed bytes v w d h = let e : list_all is_digit (48 ∷ 120 ∷ h.digits) ≡ true =
    ap (list_all is_digit) (sym h.spelled) ∙ d.digits in false≢true e

number_same : (bytes : List ℕ) (v w : ℕ) → IsDecimal bytes v ⊎ IsHexadecimal bytes v
    → IsDecimal bytes w ⊎ IsHexadecimal bytes w → v ≡ w
number_same bytes v w (inl d) (inl e) = d.counts ∙ sym e.counts
number_same bytes v w (inl d) (inr h) = absurd (mixed bytes v w d h)
number_same bytes v w (inr h) (inl d) = absurd (mixed bytes w v d h)
number_same bytes v w (inr h) (inr k) =
    let e : 48 ∷ 120 ∷ h.digits ≡ 48 ∷ 120 ∷ k.digits = sym h.spelled ∙ k.spelled in
    let same : h.digits ≡ k.digits = cc in h.counts ∙ ap (number_in 16) same ∙ sym k.counts

no_identifier : (bytes : List ℕ) → is_identifier bytes ≡ true → bytes ≡ codes "_" → ⊥
unfolding is_mark is_letter
no_identifier bytes i e = false≢true (sym (ap is_identifier e) ∙ i)

-- a reserved word is an identifier
word_is : (bytes : List ℕ) (w : Reserved) → bytes ≡ reserved_bytes w → is_identifier bytes ≡ true
word_is bytes w e = ap is_identifier e ∙ reserved_identifier w

-- a spelling is of one token
kind_same : (bytes : List ℕ) (k l : TokenKind) → IsSpelling bytes k → IsSpelling bytes l → k ≡ l
kind_same bytes (Word w) (Word v) e f =
    let h : Some w ≡ Some v = sym (word_back w) ∙ ap word_of (sym e ∙ f) ∙ word_back v in
    let g : w ≡ v = cc in ap Word g
kind_same bytes (Word w) (Name n) e f = absurd (f.2 w (sym f.0 ∙ e))
kind_same bytes (Name n) (Word w) e f = absurd (e.2 w (sym e.0 ∙ f))
kind_same bytes (Name n) (Name m) e f = ap Name (sym e.0 ∙ f.0)
kind_same bytes (Word w) Underscore e f = absurd (no_identifier bytes (word_is bytes w e) f)
kind_same bytes Underscore (Word w) e f = absurd (no_identifier bytes (word_is bytes w f) e)
kind_same bytes (Name n) Underscore e f =
    absurd (no_identifier bytes (ap is_identifier e.0 ∙ e.1) f)
kind_same bytes Underscore (Name n) e f =
    absurd (no_identifier bytes (ap is_identifier f.0 ∙ f.1) e)
kind_same bytes Underscore Underscore e f = refl
kind_same bytes (Number v) (Number w) e f = ap Number (number_same bytes v w e f)
kind_same bytes (Str a) (Str b) e f =
    let h : 34 ∷ (a ++ 34 ∷ []) ≡ 34 ∷ (b ++ 34 ∷ []) = sym e.0 ∙ f.0 in
    let t : a ++ 34 ∷ [] ≡ b ++ 34 ∷ [] = cc in ap Str (append_cancel_right a b (34 ∷ []) t)
kind_same bytes (Sign a) (Sign b) e f =
    let h : Some a ≡ Some b = sym (symbol_back a) ∙ ap symbol_of (sym e ∙ f) ∙ symbol_back b in
    let g : a ≡ b = cc in ap Sign g
kind_same bytes k l e f =
    let c : kind_class k ≡ kind_class l =
    sym (spelled_first bytes k e).0 ∙ (spelled_first bytes l f).0 in cc

-- the longest spelling at a place is one
token_same : (text b c : List ℕ) (k l : TokenKind) (a d : List ℕ) → IsLongest text b k a
    → IsLongest text c l d → (b ≡ c) × (k ≡ l) × (a ≡ d)
token_same text b c k l a d m n =
    let le : length b ≤ length c = n.longest b a k m.begins m.spelled in
    let ge : length c ≤ length b = m.longest c d l n.begins n.spelled in
    let cut = split_same b a c d (sym m.begins ∙ n.begins) (omega arith) in
    (cut.0, kind_same c k l (subst (λ t. IsSpelling t k) cut.0 m.spelled) n.spelled, cut.1)

-- the first place of its kind is one
first_same : (P : ℕ → Type 0) (m n : ℕ) → P m → ((k : ℕ) → k < m → ¬ P k) → P n
    → ((k : ℕ) → k < n → ¬ P k) → m ≡ n
first_same P m n x f y g = elim (cases_lt m n) [
  | inl l ↦ absurd (g m l x)
  | inr h ↦ elim (cases_lt n m) [ inl l ↦ absurd (f n l y) | inr k ↦ omega arith ]
]

block_same : (b a c d : List ℕ) → b ++ 42 ∷ 47 ∷ a ≡ c ++ 42 ∷ 47 ∷ d
    → ((k : ℕ) → k < length b → ¬ Closes (drop k (b ++ 42 ∷ 47 ∷ a)))
    → ((k : ℕ) → k < length c → ¬ Closes (drop k (c ++ 42 ∷ 47 ∷ d))) → (b ≡ c) × (a ≡ d)
block_same b a c d e n m =
    let cut = split_same b (42 ∷ 47 ∷ a) c (42 ∷ 47 ∷ d) e
    (first_same (λ k. Closes (drop k (b ++ 42 ∷ 47 ∷ a))) (length b) (length c)
    (a, drop_at b _ _ refl) n (d, ap (drop (length c)) e ∙ drop_at c _ _ refl)
    (λ k l h. m k l (h.0, ap (drop k) (sym e) ∙ h.1))) in
    (cut.0, ap (drop 2) cut.1)

-- what a text begins with: a piece, a fault, or nothing
data Shown : Type 0 where
  ShowsPiece : Piece → List ℕ → Shown
  ShowsFault : LexCause → ℕ → Shown
  ShowsEnd : Shown

abbrev Shows : List ℕ → Shown → Type 0
Shows text (ShowsPiece piece after) = Begins text piece after
Shows text (ShowsFault cause n) = IsFault text cause n
Shows text ShowsEnd = text ≡ []

abbrev gap_at : List ℕ → List ℕ → Shown
gap_at text after = ShowsPiece (Gap (length text - length after)) after

abbrev token_at : List ℕ → TokenKind → List ℕ → Shown
token_at bytes kind after = ShowsPiece (Spelled (length bytes) kind) after

-- where no spelling stands
abbrev none_at : List ℕ → Shown
none_at [] = ShowsEnd
none_at (c ∷ cs) = ShowsFault BadChar 0

-- bytes so far behind that aren't all of characters
abbrev bad_at : ℕ → List ℕ → Shown
bad_at start body = ShowsFault BadChar (start + utf8_valid_len body)

-- good where this holds, and otherwise bad
abbrev Told : Type 0 → Shown → Shown → Shown → Type 0
Told P good bad s = (P × (s ≡ good)) ⊎ ((¬ P) × (s ≡ bad))

told_same : {P Q : Type 0} {g h x y s t : Shown} → (P → Q) → (Q → P) → g ≡ h → x ≡ y → Told P g x s
    → Told Q h y t → s ≡ t
told_same to from good bad (inl f) (inl g) = f.1 ∙ good ∙ sym g.1
told_same to from good bad (inl f) (inr g) = absurd (g.0 (to f.0))
told_same to from good bad (inr f) (inl g) = absurd (f.0 (from g.0))
told_same to from good bad (inr f) (inr g) = f.1 ∙ bad ∙ sym g.1

-- what is told of a body that is one
body_same : {b c : List ℕ} {g h s t : Shown} (start : ℕ) → b ≡ c → g ≡ h
    → Told (IsUtf8 b) g (bad_at start b) s → Told (IsUtf8 c) h (bad_at start c) t → s ≡ t
body_same start e good =
    told_same (subst IsUtf8 e) (subst IsUtf8 (sym e)) good (ap (bad_at start) e)

-- which kind of thing it is, by the first bytes
data Tag : Type 0 where
  TagBlank : Tag
  TagLine : Tag
  TagBlock : Tag
  TagQuote : Tag
  TagToken : Tag

abbrev tag_at : Class → Bool → Bool → Tag
tag_at class.Blank _ _ = TagBlank
tag_at class.Quote _ _ = TagQuote
tag_at _ true _ = TagLine
tag_at _ false true = TagBlock
tag_at _ false false = TagToken

abbrev tag_of : List ℕ → Tag
tag_of text = tag_at (first_class text) (begins_pair 47 47 text) (begins_pair 47 42 text)

data Kinds (text : List ℕ) (s : Shown) : Tag → Type 0 where
  OfBlank : (c : ℕ) (after : List ℕ) → text ≡ c ∷ after → s ≡ gap_at text after
      → Kinds text s TagBlank
  OfLine : (body after : List ℕ) → IsLineComment text body after
      → Told (IsUtf8 body) (gap_at text after) (bad_at 2 body) s → Kinds text s TagLine
  OfBlock : (body after : List ℕ) → IsBlockComment text body after
      → Told (IsUtf8 body) (gap_at text after) (bad_at 2 body) s → Kinds text s TagBlock
  OfOpen : (body : List ℕ) → text ≡ 47 ∷ 42 ∷ body → ((k : ℕ) → ¬ Closes (drop k body))
      → s ≡ ShowsFault OpenComment 0 → Kinds text s TagBlock
  OfQuote : (body after : List ℕ) → IsQuotation text body after
      → Told (IsUtf8 body) (token_at (quoted body) (Str body) after) (bad_at 1 body) s
      → Kinds text s TagQuote
  OfUnquoted : (body after : List ℕ) → text ≡ 34 ∷ (body ++ after) → IsQuotable body
      → IsLineEnd after → s ≡ ShowsFault OpenString 0 → Kinds text s TagQuote
  OfToken : (bytes : List ℕ) (kind : TokenKind) (after : List ℕ) → IsLongest text bytes kind after
      → Told (IsNarrow kind) (token_at bytes kind after) (ShowsFault NumberTooWide 0) s
      → Kinds text s TagToken
  OfNone : NoLonger text 0 → s ≡ none_at text → Kinds text s TagToken

-- outside comments the class of the first byte decides
plain_tag : (text : List ℕ) (c : Class) → first_class text ≡ c → ¬ BeginsComment text
    → tag_of text ≡ tag_at c false false
plain_tag text c e n =
    let line = false_from_ne_true (begins_pair 47 47 text)
    (λ t. n (inl (drop 2 text, pair_begins 47 47 text t))) in
    let block = false_from_ne_true (begins_pair 47 42 text)
    (λ t. n (inr (drop 2 text, pair_begins 47 42 text t))) in
    λ i. tag_at (e i) (line i) (block i)

blank_tag : (text : List ℕ) (c : ℕ) (after : List ℕ) → text ≡ c ∷ after → is_blank c ≡ true
    → tag_of text ≡ TagBlank
blank_tag text c after e b = ap tag_of e
    ∙ ap (λ k. tag_at k (begins_pair 47 47 (c ∷ after)) (begins_pair 47 42 (c ∷ after)))
    (cond-true (is_blank c) _ _ b)

stray_class : (c : ℕ) → is_blank c ≡ false → c ≢ 34 → tag_at (class_of c) false false ≡ TagToken
unfolding is_letter is_mark is_digit
stray_class c b q = grind (arith, nat_tests)

stray_tag : (text : List ℕ) → IsStray text → tag_of text ≡ TagToken
stray_tag text s =
    plain_tag text (class_of s.first) (ap first_class s.begins) slash
    ∙ stray_class s.first s.no_blank s.no_quote
  where
    slash : ¬ BeginsComment text
    slash (inl (r, e)) = let le = s.no_token (47 ∷ []) (47 ∷ r) (Sign Slash) e refl in omega arith
    slash (inr (r, e)) = let le = s.no_token (47 ∷ []) (42 ∷ r) (Sign Slash) e refl in omega arith

gap_size : (text after : List ℕ) (n : ℕ) → length text ≡ n + length after
    → ShowsPiece (Gap n) after ≡ gap_at text after
gap_size text after n e = let m : n ≡ length text - length after = omega arith in
    ap (λ k. ShowsPiece (Gap k) after) m

tagged : (text : List ℕ) (s : Shown) (tag : Tag) → tag_of text ≡ tag → Kinds text s tag
    → Kinds text s (tag_of text)
tagged text s tag e k = subst (Kinds text s) (sym e) k

kinds_of : (text : List ℕ) (s : Shown) → Shows text s → Kinds text s (tag_of text)
unfolding is_blank is_letter is_mark is_digit
kinds_of text (ShowsPiece (Gap n) after) (Blank c b e, l) =
    tagged text _ TagBlank (blank_tag text c after e b)
    (OfBlank c after e (gap_size text after n l))
kinds_of text (ShowsPiece (Gap n) after) (Line body c u, l) =
    tagged text _ TagLine (ap tag_of c.begins)
    (OfLine body after c (inl (u, gap_size text after n l)))
kinds_of text (ShowsPiece (Gap n) after) (Block body c u, l) =
    tagged text _ TagBlock (ap tag_of c.begins)
    (OfBlock body after c (inl (u, gap_size text after n l)))
kinds_of text (ShowsPiece (Spelled n (Str body)) after) (bytes, l, narrow, e) =
    let begins : text ≡ 34 ∷ (body ++ 34 ∷ after) = l.begins ∙ ap (λ b. b ++ after) l.spelled.0
    ∙ ap (λ r. 34 ∷ r) (append_assoc body (34 ∷ []) after) in
    tagged text _ TagQuote (ap tag_of begins)
    (OfQuote body after (record { begins = begins; quotable = l.spelled.1 })
    (inl (
      l.spelled.2,
      ap (λ k. ShowsPiece (Spelled k (Str body)) after)
          (e ∙ ap length l.spelled.0),
    )))
kinds_of text (ShowsPiece (Spelled n kind) after) (bytes, l, narrow, e) =
    tagged text _ TagToken
    (plain_tag text _ (text_class text bytes after kind l.begins l.spelled) l.no_gap)
    (OfToken bytes kind after l (inl (narrow, ap (λ k. ShowsPiece (Spelled k kind) after) e)))
kinds_of text (ShowsFault BadChar n) (inl (s, e)) =
    tagged text _ TagToken (stray_tag text s)
    (OfNone s.no_token (ap (ShowsFault BadChar) e ∙ ap none_at (sym s.begins)))
kinds_of text (ShowsFault BadChar n) (inr (InLine body after l u e)) =
    tagged text _ TagLine (ap tag_of l.begins)
    (OfLine body after l (inr (u, ap (ShowsFault BadChar) e)))
kinds_of text (ShowsFault BadChar n) (inr (InBlock body after l u e)) =
    tagged text _ TagBlock (ap tag_of l.begins)
    (OfBlock body after l (inr (u, ap (ShowsFault BadChar) e)))
kinds_of text (ShowsFault BadChar n) (inr (InString body after l u e)) =
    tagged text _ TagQuote (ap tag_of l.begins)
    (OfQuote body after l (inr (u, ap (ShowsFault BadChar) e)))
kinds_of text (ShowsFault OpenComment n) (body, e, none, z) =
    tagged text _ TagBlock (ap tag_of e) (OfOpen body e none (ap (ShowsFault OpenComment) z))
kinds_of text (ShowsFault OpenString n) (body, after, e, q, end, z) =
    tagged text _ TagQuote (ap tag_of e)
    (OfUnquoted body after e q end (ap (ShowsFault OpenString) z))
kinds_of text (ShowsFault NumberTooWide n) (bytes, after, value, l, wide, z) =
    tagged text _ TagToken
    (plain_tag text _ (text_class text bytes after (Number value) l.begins l.spelled) l.no_gap)
    (OfToken bytes (Number value) after l
    (inr (λ narrow. omega (arith, wide, narrow), ap (ShowsFault NumberTooWide) z)))
kinds_of text ShowsEnd e =
    tagged text _ TagToken (ap tag_of e)
    (OfNone (λ front after kind f s.
    omega (arith, ap length (sym f ∙ e), length-append front after)) (ap none_at (sym e)))

open_clash : (text b a c : List ℕ) → IsBlockComment text b a → text ≡ 47 ∷ 42 ∷ c
    → ((k : ℕ) → ¬ Closes (drop k c)) → ⊥
open_clash text b a c l e n =
    let x : b ++ 42 ∷ 47 ∷ a ≡ c = ap (drop 2) (sym l.begins ∙ e) in
    n (length b) (a, ap (drop (length b)) (sym x) ∙ drop_at b (42 ∷ 47 ∷ a) (length b) refl)

-- a string isn't both ended and open
quote_clash : (text b a c d : List ℕ) → IsQuotation text b a → text ≡ 34 ∷ (c ++ d) → IsQuotable c
    → IsLineEnd d → ⊥
quote_clash text b a c d l e q end =
    let cut = quote_same b (34 ∷ a) c d (ap (drop 1) (sym l.begins ∙ e)) l.quotable q refl
    (line_stops is_quotable d refl end) in
    omega (arith, ap (prefix_len is_in_line) cut.1, line_stops is_in_line d refl end)

token_some : (text b : List ℕ) (k : TokenKind) (a : List ℕ) → IsLongest text b k a → NoLonger text 0
    → ⊥
token_some text b k a m n =
    omega (arith, n b a k m.begins m.spelled, (spelled_first b k m.spelled).1)

-- a text begins with one thing
shown_same : {tag : Tag} (text : List ℕ) (s t : Shown) → Kinds text s tag → Kinds text t tag → s ≡ t
shown_same text s t (OfBlank c a e f) (OfBlank d b g h) =
    f ∙ ap (gap_at text) (ap (drop 1) (sym e ∙ g)) ∙ sym h
shown_same text s t (OfLine b a l f) (OfLine c d m g) =
    let e = line_same b a c d (ap (drop 2) (sym l.begins ∙ m.begins)) l.line m.line
    (line_stops is_in_line a refl l.end) (line_stops is_in_line d refl m.end) in
    body_same 2 e.0 (ap (gap_at text) e.1) f g
shown_same text s t (OfBlock b a l f) (OfBlock c d m g) =
    let e = block_same b a c d (ap (drop 2) (sym l.begins ∙ m.begins)) l.first m.first in
    body_same 2 e.0 (ap (gap_at text) e.1) f g
shown_same text s t (OfBlock b a l f) (OfOpen c e n g) = absurd (open_clash text b a c l e n)
shown_same text s t (OfOpen c e n g) (OfBlock b a l f) = absurd (open_clash text b a c l e n)
shown_same text s t (OfOpen b e n f) (OfOpen c h m g) = f ∙ sym g
shown_same text s t (OfQuote b a l f) (OfQuote c d m g) =
    let e = quote_same b (34 ∷ a) c (34 ∷ d) (ap (drop 1) (sym l.begins ∙ m.begins)) l.quotable
    m.quotable refl refl in
    body_same 1 e.0 (λ i. token_at (quoted (e.0 i)) (Str (e.0 i)) (drop 1 (e.1 i))) f g
shown_same text s t (OfQuote b a l f) (OfUnquoted c d e q p g) =
    absurd (quote_clash text b a c d l e q p)
shown_same text s t (OfUnquoted c d e q p g) (OfQuote b a l f) =
    absurd (quote_clash text b a c d l e q p)
shown_same text s t (OfUnquoted b a e q p f) (OfUnquoted c d h r v g) = f ∙ sym g
shown_same text s t (OfToken b k a l f) (OfToken c m d n g) =
    let e = token_same text b c k m a d l n in
    told_same (subst IsNarrow e.1) (subst IsNarrow (sym e.1))
    (λ i. token_at (e.0 i) (e.1 i) (e.2 i)) refl f g
shown_same text s t (OfToken b k a l f) (OfNone n g) = absurd (token_some text b k a l n)
shown_same text s t (OfNone n g) (OfToken b k a l f) = absurd (token_some text b k a l n)
shown_same text s t (OfNone n f) (OfNone m g) = f ∙ sym g

shows_same : (text : List ℕ) (s t : Shown) → Shows text s → Shows text t → s ≡ t
shows_same text s t a b = shown_same text s t (kinds_of text s a) (kinds_of text t b)

-- a reading ends with the text, or with a fault
abbrev IsEnd : Shown → Type 0
IsEnd (ShowsPiece _ _) = ⊥
IsEnd _ = ⊤

no_more : (text : List ℕ) (p : Piece) (a : List ℕ) (e : Shown) → Begins text p a → Shows text e
    → IsEnd e → ⊥
no_more text p a e b u i = subst IsEnd (shows_same text e (ShowsPiece p a) u b) i

cut_same : (text : List ℕ) (ps qs : List Piece) (r t : List ℕ) (e f : Shown) → IsCut text ps r
    → IsCut text qs t → Shows r e → Shows t f → IsEnd e → IsEnd f → (ps ≡ qs) × (r ≡ t) × (e ≡ f)
cut_same text [] [] r t e f x y u v i j = let same : r ≡ t = sym x ∙ y in
    (refl, same, shows_same t e f (subst (λ z. Shows z e) same u) v)
cut_same text [] (q ∷ qs) r t e f x y u v i j =
    absurd (no_more text q y.0 e y.1 (subst (λ z. Shows z e) (sym x) u) i)
cut_same text (p ∷ ps) [] r t e f x y u v i j =
    absurd (no_more text p x.0 f x.1 (subst (λ z. Shows z f) (sym y) v) j)
cut_same text (p ∷ ps) (q ∷ qs) r t e f x y u v i j =
    let same : ShowsPiece p x.0 ≡ ShowsPiece q y.0 =
    shows_same text (ShowsPiece p x.0) (ShowsPiece q y.0) x.1 y.1 in
    let piece : p ≡ q = cc in
    let left : x.0 ≡ y.0 = cc in
    let rest = cut_same y.0 ps qs r t e f (subst (λ z. IsCut z ps r) left x.2) y.2 u v i j in
    (λ k. piece k ∷ rest.0 k, rest.1, rest.2)

-- a reading is its pieces, and how it ends
abbrev result_of : List ℕ → List Piece → List ℕ → Shown → Result (List Token) LexFault
result_of bytes pieces rest (ShowsFault cause n) =
    Err (At cause ((length bytes + n) - length rest))
result_of bytes pieces rest _ = Ok (tokens_of 0 pieces)

abbrev IsWhole : List ℕ → Result (List Token) LexFault → Type 0
IsWhole bytes r = (pieces : List Piece) × (rest : List ℕ) × (ending : Shown)
    × IsCut bytes pieces rest × Shows rest ending × IsEnd ending
    × (r ≡ result_of bytes pieces rest ending)

whole : (bytes : List ℕ) (r : Result (List Token) LexFault) → IsReading bytes r → IsWhole bytes r
whole bytes (Ok ts) (pieces, cut, e) = (pieces, [], ShowsEnd, cut, refl, tt, ap Ok e)
whole bytes (Err (At cause offset)) (pieces, rest, n, cut, fault, e) =
    let o : offset ≡ (length bytes + n) - length rest = omega arith in
    (pieces, rest, ShowsFault cause n, cut, fault, tt, ap (λ k. Err (At cause k)) o)
whole bytes (Err OutOfMemory) x = absurd x

-- bytes have one reading
pub reading_same : (bytes : List ℕ) (a b : Result (List Token) LexFault) → IsReading bytes a
    → IsReading bytes b → a ≡ b
reading_same bytes a b x y =
    let v = whole bytes a x in
    let w = whole bytes b y in
    let e = cut_same bytes v.0 w.0 v.1 w.1 v.2 w.2 v.3 w.3 v.4 w.4 v.5 w.5 in
    v.6 ∙ (λ i. result_of bytes (e.0 i) (e.1 i) (e.2 i)) ∙ sym w.6
