-- What the first byte of a spelling says of it, and what the searches in the tables find.
use Rattle.std.proofs.Common.{◌≡◌, ◌≢◌, inl, inr, ℕ, ◌<◌, Bool, true, false, List, [], ◌∷◌, ◌++◌}
use Rattle.std.proofs.Common.{cond, length, refl, sym, ap, ◌∙◌, arith, ◌+◌, ◌*◌, ◌≤◌, get_or, drop}
use Rattle.std.proofs.Common.{subst, Option, Some, None, nat_eq}
use Rattle.std.specs.Prelude.{◌&&◌, ◌==◌, nat_le, fold, filter, MatchOption, All, ⊤}
use Rattle.std.specs.List.{list_all, find, starts_with}
use Rattle.std.proofs.lemmas.Bool.{false≢true, and_parts, cond-true, cond-false, leb-true}
use Rattle.std.proofs.lemmas.Bool.Decides.{nat_tests, Decides-eqb}
use Rattle.std.proofs.lemmas.List.{get_or_append_left, drop_more}
use Rattle.cir_lexer.specs.Bytes.{is_blank, is_mark, is_letter, is_digit, digit_value}
use Rattle.cir_lexer.specs.Class.{class_of, first_class, words_from, symbols_from}
use Rattle.cir_lexer.specs.Spelling.{is_identifier, IsSpelling}
use Rattle.cir_lexer.specs.Reading.{BeginsComment}
use Rattle.cir_lexer.specs.declared.class.Class.{Class}
use Rattle.cir_token.specs.Spelling.{reserved_bytes, symbol_bytes, all_reserved, all_symbols}
use Rattle.cir_token.specs.declared.token.TokenKind.{TokenKind}
use Rattle.cir_token.specs.declared.token.TokenKind.TheVariants as token
use Rattle.cir_token.specs.declared.token.Symbol.{Symbol}
use Rattle.cir_token.specs.declared.token.Reserved.{Reserved}
use Rattle.std.specs.Cmp.Lexicographic.{pointwise, same_text}
use Rattle.std.proofs.Math.Nat.{mul-le-mul_left}
use Rattle.std.proofs.lemmas.Slice.Eq.{starts_is, bytes_eq-Decides}
use Rattle.std.proofs.lemmas.List.Elements.{All-nil, All-cons, All-head, All-tail}
use Rattle.std.proofs.lemmas.List.Sums.{AllPass-from_list_all}
use Rattle.cir_lexer.specs.Lengths.{IsLongestSymbol}
use Rattle.cir_lexer.specs.declared.class.Class.TheVariants as class
use Rattle.cir_token.specs.declared.token.Symbol.TheVariants as symbol
use Rattle.cir_token.specs.declared.token.Reserved.TheVariants as word

pub by_test : {P : Type 0} (b : Bool) → (b ≡ true → P) → (b ≡ false → P) → P
by_test true yes_is no_is = yes_is refl
by_test false yes_is no_is = no_is refl

pub symbol_first : (s : Symbol) → (first_class (symbol_bytes s) ≡ class.Other)
    × (0 < length (symbol_bytes s))
unfolding is_blank is_letter is_mark is_digit
symbol_first symbol.ConstrainLeft = (refl, omega arith)
symbol_first _ = (refl, omega arith)

pub reserved_identifier : (w : Reserved) → is_identifier (reserved_bytes w) ≡ true
unfolding is_letter is_mark is_digit
reserved_identifier word.Pragma = refl
reserved_identifier _ = refl

word_class : (c : ℕ) (more rest : Bool) → cond (is_mark c) more (is_letter c && rest) ≡ true
    → class_of c ≡ class.Word
unfolding is_blank is_letter is_mark is_digit
word_class c more rest e = grind (arith, nat_tests)

digit_class : (c : ℕ) → is_digit c ≡ true → class_of c ≡ class.Digit
unfolding is_blank is_letter is_mark is_digit
digit_class c e = grind (arith, nat_tests)

pub identifier_first : (bytes : List ℕ) → is_identifier bytes ≡ true
    → (first_class bytes ≡ class.Word) × (0 < length bytes)
identifier_first [] e = absurd (false≢true e)
identifier_first (c ∷ cs) e = (word_class c _ _ e, omega arith)

digits_first : (bytes : List ℕ) → bytes ≢ [] → list_all is_digit bytes ≡ true
    → (first_class bytes ≡ class.Digit) × (0 < length bytes)
digits_first [] n e = absurd (n refl)
digits_first (c ∷ cs) n e = (digit_class c (and_parts (is_digit c) _ e).0, omega arith)

-- the class of a token's first byte
abbrev pub kind_class : TokenKind → Class
kind_class (token.Number _) = class.Digit
kind_class (token.Str _) = class.Quote
kind_class (token.Symbol _) = class.Other
kind_class _ = class.Word

-- a spelling has bytes, and its first one is of its token's class
pub spelled_first : (bytes : List ℕ) (kind : TokenKind) → IsSpelling bytes kind
    → (first_class bytes ≡ kind_class kind) × (0 < length bytes)
unfolding is_blank is_letter is_mark is_digit
spelled_first bytes (token.Reserved w) e =
    rw e (identifier_first (reserved_bytes w) (reserved_identifier w))
spelled_first bytes (token.Name name) e = identifier_first bytes (ap is_identifier e.0 ∙ e.1)
spelled_first bytes token.Underscore e = rw e (refl, omega arith)
spelled_first bytes (token.Number value) (inl d) = digits_first bytes d.some d.digits
spelled_first bytes (token.Number value) (inr h) = rw h.spelled (refl, omega arith)
spelled_first bytes (token.Str body) e = rw e.0 (refl, omega arith)
spelled_first bytes (token.Symbol s) e = rw e (symbol_first s)

-- so is that of a text that begins with it
pub text_class : (text front after : List ℕ) (kind : TokenKind) → text ≡ front ++ after
    → IsSpelling front kind → first_class text ≡ kind_class kind
text_class text front after kind e s =
    let first = spelled_first front kind s in
    ap first_class e ∙ ap class_of (get_or_append_left front after 0 0 first.1) ∙ first.0

abbrev pub is_other : Class → Bool
is_other class.Other = true
is_other _ = false

-- a comment begins with a byte of the class of symbols
pub no_comment : (text : List ℕ) → is_other (first_class text) ≡ false → ¬ BeginsComment text
unfolding is_blank is_letter is_mark is_digit
no_comment text n (inl (rest, e)) = false≢true (sym n ∙ ap (λ t. is_other (first_class t)) e)
no_comment text n (inr (rest, e)) = false≢true (sym n ∙ ap (λ t. is_other (first_class t)) e)

module _ {X : Type 0} (p : X → Bool) where
  head_found : (x : X) (xs : List X) (r : Option X) → p x ≡ true → find p (x ∷ xs) ≡ r → Some x ≡ r
  head_found x xs r t e = sym (cond-true _ _ _ t) ∙ e

  later_found : (x : X) (xs : List X) (r : Option X) → p x ≡ false → find p (x ∷ xs) ≡ r
      → find p xs ≡ r
  later_found x xs r f e = sym (cond-false _ _ _ f) ∙ e

  -- what a search finds passes its test, and what all in the list do
  found_is : (P : X → Type 0) (xs : List X) (y : X) → All P xs → find p xs ≡ Some y
      → P y × (p y ≡ true)
  found_is P [] y a e = cc
  found_is P (x ∷ xs) y a e = by_test (p x)
      (λ t. let h : Some x ≡ Some y = head_found x xs (Some y) t e in let g : x ≡ y = cc in
      subst (λ z. P z × (p z ≡ true)) g (All-head P x xs a, t))
      (λ f. found_is P xs y (All-tail P x xs a) (later_found x xs (Some y) f e))

  -- where none is found, all fail
  none_found : (xs : List X) → find p xs ≡ None → All (λ x. p x ≡ false) xs
  none_found [] e = All-nil (λ x. p x ≡ false)
  none_found (x ∷ xs) e = by_test (p x)
      (λ t. let h : Some x ≡ None = head_found x xs None t e in cc)
      (λ f. All-cons (λ x. p x ≡ false) x xs f (none_found xs (later_found x xs None f e)))

  -- a search among those that pass a test which all that it looks for pass
  find_filter : (q : X → Bool) → ((x : X) → p x ≡ true → q x ≡ true) → (xs : List X)
      → find p (filter q xs) ≡ find p xs
  find_filter q h [] = refl
  find_filter q h (x ∷ xs) = by_test (q x)
      (λ t. rw t (ap (λ r. cond (p x) (Some x) r) (find_filter q h xs)))
      (λ f. rw f (find_filter q h xs ∙ sym (cond-false (p x) _ _
      (by_test (p x) (λ t. absurd (false≢true (sym f ∙ h x t))) (λ g. g)))))

abbrev no_longer : Symbol → Symbol → Bool
no_longer x y = nat_le (length (symbol_bytes y)) (length (symbol_bytes x))

abbrev falls : List Symbol → Bool
falls [] = true
falls (x ∷ xs) = list_all (no_longer x) (x ∷ xs) && falls xs

-- in a list with no symbol longer than one before it, the first that passes is the longest
find_longest : (p q : Symbol → Bool) (xs : List Symbol) (x y : Symbol) → falls xs ≡ true
    → find p xs ≡ Some x → find q xs ≡ Some y → p y ≡ true
    → length (symbol_bytes y) ≤ length (symbol_bytes x)
find_longest p q [] x y f e g t = cc
find_longest p q (z ∷ zs) x y f e g t = by_test (p z)
    (λ b. let h : Some z ≡ Some x = head_found p z zs (Some x) b e in let i : z ≡ x = cc in
    let le = found_is q (λ s. no_longer z s ≡ true) (z ∷ zs) y
    (AllPass-from_list_all (no_longer z) (z ∷ zs) (and_parts _ (falls zs) f).0) g in
    omega (arith, leb-true _ _ le.0, ap (λ s. length (symbol_bytes s)) i))
    (λ b. by_test (q z)
    (λ c. let h : Some z ≡ Some y = head_found q z zs (Some y) c g in let i : z ≡ y = cc
    in absurd (false≢true (sym b ∙ ap p i ∙ t)))
    (λ c. find_longest p q zs x y (and_parts _ (falls zs) f).1 (later_found p z zs (Some x) b e)
    (later_found q z zs (Some y) c g) t))

-- the bytes are those of this word, or of this symbol
abbrev is_word : List ℕ → Reserved → Bool
is_word bytes w = pointwise nat_eq (reserved_bytes w) bytes

abbrev is_symbol : List ℕ → Symbol → Bool
is_symbol bytes s = pointwise nat_eq (symbol_bytes s) bytes

abbrev pub word_of : List ℕ → Option Reserved
word_of bytes = find (is_word bytes) all_reserved

pub word_back : (w : Reserved) → word_of (reserved_bytes w) ≡ Some w
word_back word.Pragma = refl
word_back _ = refl

abbrev pub symbol_of : List ℕ → Option Symbol
symbol_of bytes = find (is_symbol bytes) all_symbols

pub symbol_back : (s : Symbol) → symbol_of (symbol_bytes s) ≡ Some s
symbol_back symbol.ConstrainLeft = refl
symbol_back _ = refl

find_word : (name : List ℕ) (r : Option Reserved) → r ≡ word_of name
    → MatchOption r ((w : Reserved) → name ≢ reserved_bytes w) (λ w. name ≡ reserved_bytes w)
find_word name None e = λ w o.
    let fails = found_is (is_word (reserved_bytes w)) (λ v. is_word name v ≡ false) all_reserved w
    (none_found (is_word name) all_reserved (sym e)) (word_back w) in
    false≢true (sym fails.0 ∙ (bytes_eq-Decides (reserved_bytes w) name).1 (sym o))
find_word name (Some w) e =
    let found = found_is (is_word name) (λ v. ⊤) all_reserved w (λ k d l. tt) (sym e) in
    sym (same_text _ _ (sym found.1))

-- the reserved word among those with the first byte of the name
pub reserved_is : (name : List ℕ) (words : List Reserved) (r : Option Reserved)
    → words ≡ words_from (get_or name 0 0) → r ≡ find (is_word name) words
    → MatchOption r ((w : Reserved) → name ≢ reserved_bytes w) (λ w. name ≡ reserved_bytes w)
reserved_is name words r f e = find_word name r
    (e ∙ ap (find (is_word name)) f
    ∙ find_filter (is_word name) (λ w. get_or (reserved_bytes w) 0 0 == get_or name 0 0)
    (λ w t. (Decides-eqb (get_or (reserved_bytes w) 0 0) (get_or name 0 0)).1
    (ap (λ b. get_or b 0 0) (same_text (reserved_bytes w) name (sym t)))) all_reserved)

module _ (text : List ℕ) where
  -- the text begins with this symbol
  abbrev begins : Symbol → Bool
  begins s = starts_with nat_eq text (symbol_bytes s)

  begins_is : (s : Symbol) → (begins s ≡ true
      → text ≡ symbol_bytes s ++ drop (length (symbol_bytes s)) text)
      × ((rest : List ℕ) → text ≡ symbol_bytes s ++ rest → begins s ≡ true)
  begins_is s = starts_is Decides-eqb text (symbol_bytes s) (begins s) refl

  -- the first symbol of the table that the text begins with is the longest
  first_symbol : (r : Option Symbol) → r ≡ find begins all_symbols
      → MatchOption r ((s : Symbol) (after : List ℕ) → text ≢ symbol_bytes s ++ after)
      (λ s. IsLongestSymbol text s)
  first_symbol None e = λ s after o.
      let fails = found_is (is_symbol (symbol_bytes s)) (λ t. begins t ≡ false) all_symbols s
      (none_found begins all_symbols (sym e)) (symbol_back s) in
      false≢true (sym fails.0 ∙ (begins_is s).1 after o)
  first_symbol (Some s) e =
      record {
        begins = (begins_is s).0 (found_is begins (λ t. ⊤) all_symbols s (λ k d l. tt) (sym e)).1;
        longest = λ other rest o.
            find_longest begins (is_symbol (symbol_bytes other)) all_symbols s other refl (sym e)
            (symbol_back other) ((begins_is other).1 rest o);
      }

  same_first : (s : Symbol) → begins s ≡ true
      → (get_or (symbol_bytes s) 0 0 == get_or text 0 0) ≡ true
  same_first s t = (Decides-eqb _ _).1
      (sym (get_or_append_left (symbol_bytes s) _ 0 0 (symbol_first s).1)
      ∙ sym (ap (λ b. get_or b 0 0) ((begins_is s).0 t)))

  -- and so among those with its first byte
  pub symbol_is : (symbols : List Symbol) (r : Option Symbol)
      → symbols ≡ symbols_from (get_or text 0 0) → r ≡ find begins symbols
      → MatchOption r ((s : Symbol) (after : List ℕ) → text ≢ symbol_bytes s ++ after)
      (λ s. IsLongestSymbol text s)
  symbol_is symbols r f e = first_symbol r
      (e ∙ ap (find begins) f
      ∙ find_filter begins (λ s. get_or (symbol_bytes s) 0 0 == get_or text 0 0) same_first
      all_symbols)

-- numbers grow with their digits
number_grows : (base : ℕ) (digits : List ℕ) (n : ℕ) → 1 ≤ base
    → n ≤ fold (λ m c. m * base + digit_value c) n digits
number_grows base [] n l = omega arith
number_grows base (c ∷ cs) n l = let h : n * 1 ≤ n * base = mul-le-mul_left n l in
    omega (arith, number_grows base cs (n * base + digit_value c) l, h)

-- a digit that comes makes the number no smaller
pub number_ahead : (base : ℕ) (digits : List ℕ) (i value number : ℕ) → 1 ≤ base → i < length digits
    → fold (λ m c. m * base + digit_value c) value (drop i digits) ≡ number
    → value * base + digit_value (get_or digits i 0) ≤ number
number_ahead base digits i value number l h e =
    let more = value * base + digit_value (get_or digits i 0) in
    let same = ap (fold (λ m c. m * base + digit_value c) value) (drop_more digits i 0 h) in
    omega (arith, number_grows base (drop (i + 1) digits) more l, sym same ∙ e)
