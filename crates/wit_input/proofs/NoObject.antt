-- A text that doesn't begin with an opening brace is no object.
use Rattle.std.proofs.Common.{◌≡◌, ℕ, zero, suc, ◌==◌, Bool, true, false, cond, List, [], ◌∷◌}
use Rattle.std.proofs.Common.{length, Option, Some, None, Result, Err, refl, subst, sym, ap}
use Rattle.std.specs.Prelude.{ok_or, option_and_then, option_map, ⊤}
use Rattle.std.specs.Str.{is_utf8}
use Rattle.json.specs.Ascii as ascii
use Rattle.json.specs.Json as json
use Rattle.json.specs.Lex.{Class, Place, fresh, lex, between, in_word, lex_byte, class, other}
use Rattle.json.specs.Lex.{space, place_token, punctuate, tokens, begins_colon}
use Rattle.json.specs.Token.{Token, begin_object, end_object, begin_array, end_array, key, string}
use Rattle.json.specs.Token.{number, boolean, null, bad}
use Rattle.json.specs.Word.{word, number_before, after_number, ends_word, head, literal}
use Rattle.serde_json.specs.Data.{Data, Items, Members}
use Rattle.serde_json.specs.Find.{as_object}
use Rattle.serde_json.specs.Read.{of_json, of_items, number_of, read, max_depth}
use Rattle.binary_format.specs.Reading.{◌>>=◌}
use Rattle.cir_values.specs.declared.signals.InputShape.{InputShape}
use Rattle.wit_input.specs.Document.{json_of}
use Rattle.wit_input.specs.Input.{given, input_of}
use Rattle.wit_input.specs.declared.fault.InputFault.{InputFault}
use Rattle.wit_input.specs.declared.fault.InputFault.TheVariants.{NotJson}

either : {A : Type 0} (P : A → Type 0) (b : Bool) (x y : A) → P x → P y → P (cond b x y)
either P true x y h g = h
either P false x y h g = g

abbrev opens : Token → Bool
opens begin_object = true
opens _ = false

abbrev IsClosed : Token → Type 0
IsClosed t = opens t ≡ false

number_closed : (t : List ℕ) (o : Option (List ℕ)) → IsClosed (number_before t o)
number_closed t None = refl
number_closed t (Some rest) = either IsClosed (ends_word rest) (number _) bad refl refl

literal_closed : (name : List ℕ) (t : Token) (text : List ℕ) → IsClosed t
    → IsClosed (literal name t text)
literal_closed name t text h = either IsClosed _ t bad h refl

word_closed : (t : List ℕ) → IsClosed (word t)
unfolding word
word_closed t =
    either IsClosed (head t == ascii.lower_t) _ _
    (literal_closed ascii.true_text (boolean true) t refl)
    (either IsClosed (head t == ascii.lower_f) _ _
    (literal_closed ascii.false_text (boolean false) t refl)
    (either IsClosed (head t == ascii.lower_n) _ _ (literal_closed ascii.null_text null t refl)
    (number_closed t (after_number t))))

-- the first token, if any, doesn't open an object
abbrev pub BeginsNone : List Token → Type 0
BeginsNone [] = ⊤
BeginsNone (t ∷ ts) = IsClosed t

placed : (t : Token) (colon : Bool) (k : Place → List Token) → IsClosed t
    → BeginsNone (place_token fresh t colon k)
placed begin_object colon k h = cc
placed end_object colon k h = refl
placed begin_array colon k h = refl
placed end_array colon k h = refl
placed (key s) colon k h = refl
placed (string s) true k h = refl
placed (string s) false k h = refl
placed (number s) colon k h = refl
placed (boolean b) colon k h = refl
placed null colon k h = refl
placed bad colon k h = refl

pub begins_nothing : BeginsNone (tokens [])
unfolding lex punctuate
begins_nothing = tt

-- a text that begins with a byte of a word
pub begins_word : (c : ℕ) (text : List ℕ) → class c ≡ other → BeginsNone (tokens (c ∷ text))
unfolding lex punctuate
begins_word c text is =
    subst (λ (x : Class). BeginsNone (punctuate fresh (lex_byte between x c text
    (λ next. lex next text)))) (sym is)
    (placed (word (c ∷ text)) (begins_colon (lex in_word text)) _ (word_closed (c ∷ text)))

-- blanks don't count
pub begins_blank : (c : ℕ) (text : List ℕ) → class c ≡ space → BeginsNone (tokens text)
    → BeginsNone (tokens (c ∷ text))
unfolding lex
begins_blank c text is h =
    subst (λ (x : Class). BeginsNone (punctuate fresh (lex_byte between x c text
    (λ next. lex next text)))) (sym is) h

-- ---- what is read of it

abbrev IsNoObject : Option (json.Json × List Token) → Type 0
IsNoObject None = ⊤
IsNoObject (Some (json.object ms, ts)) = ⊥
IsNoObject (Some (j, ts)) = ⊤

array_only : (r : Option (json.Items × List Token)) → IsNoObject (json.parse_map json.array r)
array_only None = tt
array_only (Some (js, ts)) = tt

with_none : (a : json.Parse json.Items) (o : json.Parse json.Members) (ts : List Token)
    → BeginsNone ts → IsNoObject (json.value_with a o ts)
with_none a o [] h = tt
with_none a o (begin_object ∷ ts) h = cc
with_none a o (end_object ∷ ts) h = tt
with_none a o (begin_array ∷ ts) h = array_only (a ts)
with_none a o (end_array ∷ ts) h = tt
with_none a o (key s ∷ ts) h = tt
with_none a o (string s ∷ ts) h = tt
with_none a o (number s ∷ ts) h = tt
with_none a o (boolean b ∷ ts) h = tt
with_none a o (null ∷ ts) h = tt
with_none a o (bad ∷ ts) h = tt

value_none : (depth : ℕ) (ts : List Token) → BeginsNone ts → IsNoObject (json.value depth ts)
unfolding json.value
value_none zero ts h = with_none (λ ts. None) (λ ts. None) ts h
value_none (suc depth) ts h =
    with_none (λ ts. json.items (json.value depth) (length ts) ts)
    (λ ts. json.members (json.value depth) (length ts) ts) ts h

abbrev finished : Option (json.Json × List Token) → Option Data
finished r = option_and_then of_json (option_and_then (λ p. json.if_last p.0 p.1) r)

finished_none : (r : Option (json.Json × List Token)) → IsNoObject r
    → option_and_then as_object (finished r) ≡ None
finished_none None h = refl
finished_none (Some (j, t ∷ ts)) h = refl
finished_none (Some (json.null, [])) h = refl
finished_none (Some (json.boolean b, [])) h = refl
finished_none (Some (json.number s, [])) h = numbered (number_of s)
  where
    numbered : (o : Option _) → option_and_then as_object (option_map Data.number o) ≡ None
    numbered None = refl
    numbered (Some n) = refl
finished_none (Some (json.string s, [])) h = refl
finished_none (Some (json.array js, [])) h = listed (of_items js)
  where
    listed : (o : Option Items) → option_and_then as_object (option_map Data.array o) ≡ None
    listed None = refl
    listed (Some ds) = refl
finished_none (Some (json.object ms, [])) h = absurd h

-- such a text is no input
pub no_input : (text : List ℕ) (inputs : List InputShape) → BeginsNone (tokens text)
    → input_of text inputs ≡ Err NotJson
unfolding input_of json_of
no_input text inputs h = ap taken none
  where
    taken : Option Members → Result (List ℕ) InputFault
    taken o = ok_or o NotJson >>= given inputs

    none : option_and_then as_object (cond (is_utf8 text) (read text) None) ≡ None
    none =
        either (λ (o : Option Data). option_and_then as_object o ≡ None) (is_utf8 text) (read text)
        None
        (finished_none (json.value max_depth (tokens text))
        (value_none max_depth (tokens text) h)) refl
