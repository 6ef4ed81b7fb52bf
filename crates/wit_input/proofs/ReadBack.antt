-- Public values that are written are read back.
use Rattle.std.proofs.Common.{◌≡◌, ◌∙◌, ℕ, ◌+◌, ◌*◌, ◌<◌, ◌≤◌, Bool, true, false, ◌&&◌, List, []}
use Rattle.std.proofs.Common.{◌∷◌, ◌++◌, All, length, Option, Some, None, Result, Ok, refl, sym, ap}
use Rattle.std.proofs.Common.{arith, nat_eq, nat_lt, decimal, append_assoc, append-nil}
use Rattle.std.proofs.Common.{option_and_then, option_map, ok_or, codes, ◌==◌, ◌^◌, IsUtf8}
use Rattle.std.specs.Char.{digit_value}
use Rattle.std.specs.List.{starts_with}
use Rattle.std.specs.Str.Parse.{AllDigits, digits_value, digits_value_after}
use Rattle.std.proofs.lemmas.Bool.{false_from_ne_true, eqb-true}
use Rattle.std.proofs.lemmas.Bool.Decides.{nat_tests}
use Rattle.std.proofs.lemmas.Fmt.{decimal_is_IsNumeral, IsAscii-from_digits}
use Rattle.std.proofs.lemmas.List.Concat.{flat_map-cons}
use Rattle.std.proofs.lemmas.List.Elements.{All-head, All-tail}
use Rattle.std.proofs.lemmas.Str.{IsUtf8-append, IsUtf8-from_ascii, IsUtf8-nil}
use Rattle.binary_format.specs.Reading.{◌>>=◌}
use Rattle.gold_field.specs.declared.gold.TheConstants.{P}
use Rattle.json.specs.Json as json
use Rattle.json.specs.Lex.{tokens}
use Rattle.json.specs.Print.{escape, escape_byte, quoted as json_quoted}
use Rattle.json.specs.Token.{Token}
use Rattle.json.specs.Tree.{ItemsHaveNumbers, json_tokens}
use Rattle.json.specs.Tree as tree
use Rattle.json.proofs.Printed.Strings.{escape_byte_plain}
use Rattle.json.proofs.Printed.Tokens.{tokens-print}
use Rattle.json.proofs.Printed.Trees.{ArePrintable-json_tokens, value-json_tokens}
use Rattle.json.proofs.Printed.Utf8.{IsUtf8-are_ascii}
use Rattle.serde_json.specs.Data.{Data, string, array, Items, no_items, item}
use Rattle.serde_json.specs.Find.{as_array}
use Rattle.serde_json.specs.Read.{max_depth, of_items, of_json, read}
use Rattle.serde_json.specs.Written.{compact_text, items_outline}
use Rattle.serde_json.specs.Written.{items_text as json_items, outline}
use Rattle.serde_json.proofs.Texts.{print-outline}
use Rattle.wit_input.specs.Input.{numbers_from}
use Rattle.wit_input.specs.Numbers.{digits_from, limited, reduced, text_number}
use Rattle.wit_input.specs.Publics.{items_text, others_text, publics_of, publics_text, quoted}
use Rattle.wit_input.specs.Values.{values_in}
use Rattle.wit_input.specs.declared.fault.InputFault.{InputFault}
use Rattle.wit_input.specs.declared.fault.InputFault.TheVariants.{BadNumber, NotJson}
use Rattle.wit_input.proofs.Digits.{below, no, yes}
use Rattle.wit_input.proofs.Documents.{spelled}

-- ---- a decimal string

digit_between : (c : ℕ) → digit_value c < 10 → (48 ≤ c) × (c ≤ 57)
digit_between c h = grind (arith, nat_tests)

digits_read : (before : ℕ) (ds : List ℕ) → AllDigits 10 ds
    → digits_from 10 before ds ≡ Some (digits_value_after 10 before ds)
digits_read before [] h = refl
digits_read before (d ∷ ds) h =
    yes _ _ _ (below (digit_value d) 10 h.0) ∙ digits_read (before * 10 + digit_value d) ds h.1

and_false : (b : Bool) → (b && false) ≡ false
and_false true = refl
and_false false = refl

not_equal : (m n : ℕ) → n < m → nat_eq m n ≡ false
not_equal m n h =
    false_from_ne_true (nat_eq m n) (λ e.
    let same : m ≡ n = eqb-true m n e in omega (arith, same, h))

-- the second byte is no `x`
not_hex : (ds : List ℕ) → AllDigits 10 ds → starts_with nat_eq ds (codes "0x") ≡ false
not_hex [] h = refl
not_hex (d ∷ []) h = and_false (nat_eq 48 d)
not_hex (d ∷ e ∷ ds) h =
    let small = (digit_between e h.1.0).1 in
    ap (λ (b : Bool). nat_eq 48 d && (b && true)) (not_equal 120 e (omega (arith, small)))
    ∙ and_false (nat_eq 48 d)

limited_is : (n : ℕ) → n < P → limited (Some n) ≡ Some n
limited_is n h = yes (nat_lt n (2 ^ 128)) (Some n) None (below n (2 ^ 128) (omega arith))

reduced_is : (n : ℕ) → n < P → reduced n ≡ n
reduced_is n h = omega arith

numeral_read : (ds : List ℕ) (n : ℕ) → AllDigits 10 ds → 0 < length ds → digits_value 10 ds ≡ n
    → n < P → text_number ds ≡ Some n
numeral_read [] n h some value small = absurd (omega (arith, some))
numeral_read (d ∷ ds) n h some value small =
    let first = (digit_between d h.0).0 in
    let plain : (d == 45) ≡ false =
    false_from_ne_true (d == 45) (λ e.
    let same : d ≡ 45 = eqb-true d 45 e in omega (arith, same, first)) in
    no _ _ _ plain
    ∙ ap (option_map reduced)
    (no _ _ _ (not_hex (d ∷ ds) h) ∙ ap limited (digits_read 0 (d ∷ ds) h ∙ ap Some value)
    ∙ limited_is n small)
    ∙ ap Some (reduced_is n small)

decimal_digits : (n : ℕ) → n < P → AllDigits 10 (decimal n)
decimal_digits n h = (decimal_is_IsNumeral n (omega arith)).0.1

decimal_read : (n : ℕ) → n < P → text_number (decimal n) ≡ Some n
decimal_read n h =
    let numeral = decimal_is_IsNumeral n (omega arith) in
    numeral_read (decimal n) n numeral.0.1 numeral.0.0 numeral.1 h

-- ---- the array of strings

abbrev strings : List ℕ → Items
strings [] = no_items
strings (n ∷ ns) = item (string (decimal n)) (strings ns)

escape_digits : (ds : List ℕ) → AllDigits 10 ds → escape ds ≡ ds
escape_digits [] h = refl
escape_digits (d ∷ ds) h =
    let between = digit_between d h.0 in
    flat_map-cons escape_byte d ds
    ∙ (λ i. escape_byte_plain d
    (λ e. omega (arith, e, between.0)) (λ e. omega (arith, e, between.1))
    (omega (arith, between.0)) i ++ escape_digits ds h.1 i)

quoted_is : (n : ℕ) → n < P → json_quoted (decimal n) ≡ quoted n
quoted_is n h =
    ap (λ (text : List ℕ). 34 ∷ (text ++ 34 ∷ [])) (escape_digits (decimal n) (decimal_digits n h))

others_are : (ns : List ℕ) → All (λ n. n < P) ns
    → json_items true (strings ns) ≡ others_text ns ++ 93 ∷ []
others_are [] h = refl
others_are (n ∷ ns) h =
    (λ i. 44 ∷ (quoted_is n (All-head (λ n. n < P) n ns h) i
    ++ others_are ns (All-tail (λ n. n < P) n ns h) i))
    ∙ ap (λ (text : List ℕ). 44 ∷ text) (sym (append_assoc (quoted n) (others_text ns) (93 ∷ [])))

items_are : (ns : List ℕ) → All (λ n. n < P) ns
    → json_items false (strings ns) ≡ items_text ns ++ 93 ∷ []
items_are [] h = refl
items_are (n ∷ ns) h =
    (λ i. quoted_is n (All-head (λ n. n < P) n ns h) i
    ++ others_are ns (All-tail (λ n. n < P) n ns h) i)
    ∙ sym (append_assoc (quoted n) (others_text ns) (93 ∷ []))

text_is : (ns : List ℕ) → All (λ n. n < P) ns → compact_text (array (strings ns)) ≡ publics_text ns
text_is ns h = ap (λ (text : List ℕ). 91 ∷ text) (items_are ns h)

of_strings : (ns : List ℕ) → of_items (items_outline (strings ns)) ≡ Some (strings ns)
of_strings [] = refl
of_strings (n ∷ ns) = ap (option_map (item (string (decimal n)))) (of_strings ns)

no_numbers : (ns : List ℕ) → ItemsHaveNumbers (items_outline (strings ns))
no_numbers [] = tt
no_numbers (n ∷ ns) = (tt, no_numbers ns)

shallow : (ns : List ℕ) → tree.items_depth (items_outline (strings ns)) ≡ 0
shallow [] = refl
shallow (n ∷ ns) = omega (arith, shallow ns)

-- what a reading of tokens makes of the whole text
abbrev whole : Option (json.Json × List Token) → Option Data
whole read = option_and_then of_json (option_and_then (λ p. json.if_last p.0 p.1) read)

array_read : (ns : List ℕ) → All (λ n. n < P) ns
    → read (publics_text ns) ≡ Some (array (strings ns))
array_read ns h =
    let j = outline (array (strings ns)) in
    let spells : tokens (publics_text ns) ≡ json_tokens j =
    ap tokens (sym (print-outline (array (strings ns)) ∙ text_is ns h))
    ∙ tokens-print (json_tokens j) (ArePrintable-json_tokens j (no_numbers ns)) in
    ap whole (ap (json.value max_depth) (spells ∙ sym (append-nil (json_tokens j)))
    ∙ value-json_tokens j max_depth [] (omega (arith, shallow ns)))
    ∙ ap (option_map array) (of_strings ns)

-- ---- the text is in UTF-8

quoted_utf8 : (n : ℕ) → n < P → IsUtf8 (quoted n)
quoted_utf8 n h =
    IsUtf8-append (34 ∷ []) (decimal n ++ 34 ∷ []) (IsUtf8-are_ascii (34 ∷ []) refl)
    (IsUtf8-append (decimal n) (34 ∷ [])
    (IsUtf8-from_ascii (decimal n) (IsAscii-from_digits (decimal n) (decimal_digits n h)))
    (IsUtf8-are_ascii (34 ∷ []) refl))

others_utf8 : (ns : List ℕ) → All (λ n. n < P) ns → IsUtf8 (others_text ns)
others_utf8 [] h = IsUtf8-nil
others_utf8 (n ∷ ns) h =
    IsUtf8-append (44 ∷ []) (quoted n ++ others_text ns) (IsUtf8-are_ascii (44 ∷ []) refl)
    (IsUtf8-append (quoted n) (others_text ns) (quoted_utf8 n (All-head (λ n. n < P) n ns h))
    (others_utf8 ns (All-tail (λ n. n < P) n ns h)))

items_utf8 : (ns : List ℕ) → All (λ n. n < P) ns → IsUtf8 (items_text ns)
items_utf8 [] h = IsUtf8-nil
items_utf8 (n ∷ ns) h =
    IsUtf8-append (quoted n) (others_text ns) (quoted_utf8 n (All-head (λ n. n < P) n ns h))
    (others_utf8 ns (All-tail (λ n. n < P) n ns h))

text_utf8 : (ns : List ℕ) → All (λ n. n < P) ns → IsUtf8 (publics_text ns)
text_utf8 ns h =
    IsUtf8-append (91 ∷ []) (items_text ns ++ 93 ∷ []) (IsUtf8-are_ascii (91 ∷ []) refl)
    (IsUtf8-append (items_text ns) (93 ∷ []) (items_utf8 ns h) (IsUtf8-are_ascii (93 ∷ []) refl))

-- ---- the numbers

numbers_read : (place : ℕ) (ns : List ℕ) → All (λ n. n < P) ns
    → numbers_from 0 place (values_in (strings ns)) ≡ Ok ns
numbers_read place [] h = refl
numbers_read place (n ∷ ns) h =
    let rest = numbers_from 0 (place + 1) (values_in (strings ns)) in
    ap (λ (o : Option ℕ). ok_or o (BadNumber 0 place) >>= λ first. rest
    >>= λ others. Ok (first ∷ others)) (decimal_read n (All-head (λ n. n < P) n ns h))
    ∙ ap (λ (r : Result (List ℕ) InputFault). r >>= λ others. Ok (n ∷ others))
    (numbers_read (place + 1) ns (All-tail (λ n. n < P) n ns h))

pub publics_again : (ns : List ℕ) → All (λ n. n < P) ns → publics_of (publics_text ns) ≡ Ok ns
unfolding publics_of
publics_again ns h =
    ap (λ (o : Option Data). ok_or (option_and_then as_array o) NotJson >>= λ items.
    numbers_from 0 0 (values_in items))
    (spelled (publics_text ns) (array (strings ns)) (text_utf8 ns h, array_read ns h))
    ∙ numbers_read 0 ns h
