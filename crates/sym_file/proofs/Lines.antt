-- Lines of symbols: what their parts say is what is said of them, and what is written reads back.
use Rattle.std.proofs.Common.{◌≡◌, ◌≢◌, ℕ, ◌<◌, ◌≤◌, ◌^◌, Bool, true}
use Rattle.std.proofs.Common.{false, cond, List, [], ◌∷◌}
use Rattle.std.proofs.Common.{◌++◌, length, map, Option, Some, None, Result, Ok, Err, refl, ap}
use Rattle.std.proofs.Common.{◌∙◌}
use Rattle.std.proofs.Common.{sym, arith, decimal, ◌↔◌, get_or, ltb}
use Rattle.std.specs.Prelude.{codes, bytes_eq, option_map}
use Rattle.std.specs.Int.{IsInRange}
use Rattle.std.specs.List.{All}
use Rattle.std.specs.Str.{is_utf8, IsUtf8}
use Rattle.std.specs.Str.Parse.{digits_value}
use Rattle.std.proofs.lemmas.Bool.{cond-true, cond-false, and_from, and_parts, lt-ltb, ltb-true}
use Rattle.std.proofs.lemmas.Bool.{false_from_ne_true}
use Rattle.std.proofs.lemmas.Fmt.{digits_value-decimal, digits_decimal, decimal_nonempty}
use Rattle.std.proofs.lemmas.List.Elements.{All-nil, All-cons, All-head, All-append, All-map}
use Rattle.std.proofs.lemmas.List.Elements.{All-weaker, All-from_get_or}
use Rattle.std.proofs.lemmas.Slice.Eq.{bytes_eq-Decides}
use Rattle.std.proofs.lemmas.Str.{is_utf8-from_IsUtf8}
use Rattle.std.proofs.lemmas.Str.Parse.{not_in_digits}
use Rattle.text_lines.specs.Lines.{split_once, text_of, HasNo}
use Rattle.text_lines.specs.Number.{number_below}
use Rattle.text_lines.specs.Reading.{said as all_of_lines}
use Rattle.text_lines.proofs.Numerals.{Spells, spelled, spells_from, own, digits_have_no}
use Rattle.text_lines.proofs.Pieces.{split_again, split_parts, written_again}
use Rattle.text_lines.proofs.Steps.{all_said}
use Rattle.sym_file.specs.declared.line.SymLine.{SymLine}
use Rattle.sym_file.specs.Line.{wire_text, line_of, symbols_text, wire_of, is_name, with_parts}
use Rattle.sym_file.specs.Line.{said_by, in_parts, at_comma, said, symbols_of, Says, IsNarrow}
use Rattle.sym_file.specs.Line.{IsWritten}

-- numbers
number_again : (bound n : ℕ) → n < bound → bound ≤ 2 ^ 64
    → number_below bound (decimal n) ≡ Some n
number_again bound n small wide =
    let value : digits_value 10 (decimal n) ≡ n = digits_value-decimal own n (omega arith) in
    let s : Spells bound (decimal n) = record {
      digits = digits_decimal own n (omega arith);
      some = decimal_nonempty n (omega arith);
      below = omega (arith, value);
    } in
    spelled bound (decimal n) s ∙ ap Some value

no_comma : IsInRange 48 57 44 → ⊥
no_comma r = omega (arith, r.0)

no_feed : IsInRange 48 57 10 → ⊥
no_feed r = omega (arith, r.0)

no_dash : IsInRange 48 57 45 → ⊥
no_dash r = omega (arith, r.0)

spelled_without : (byte bound n : ℕ) (digits : List ℕ) → (IsInRange 48 57 byte → ⊥)
    → number_below bound digits ≡ Some n → HasNo byte digits
spelled_without byte bound n digits outside h =
    let s = spells_from bound n digits h in
    All-from_get_or (λ b. b ≢ byte) digits 0
    (λ i low. not_in_digits own digits byte s.0.digits outside i low)

-- wires
dashed : (byte : ℕ) → byte ≢ 45 → byte ≢ 49 → HasNo byte (codes "-1")
dashed byte first second =
    All-cons (λ b. b ≢ byte) 45 (49 ∷ []) (λ e. first (sym e))
    (All-cons (λ b. b ≢ byte) 49 [] (λ e. second (sym e)) (All-nil (λ b. b ≢ byte)))

not_dashed : (digits : List ℕ) → HasNo 45 digits → bytes_eq digits (codes "-1") ≡ false
not_dashed digits h =
    false_from_ne_true (bytes_eq digits (codes "-1")) (λ t.
    let e : digits ≡ codes "-1" = (bytes_eq-Decides digits (codes "-1")).0 t in
    All-head (λ b. b ≢ 45) 45 (49 ∷ []) (rw e at h) refl)

pub wire_again : (wire : Option ℕ) → IsNarrow wire → wire_of (wire_text wire) ≡ Some wire
wire_again None h = refl
wire_again (Some n) h =
    cond-false _ _ _ (not_dashed (decimal n) (digits_have_no 45 n no_dash (omega arith)))
    ∙ ap (option_map Some) (number_again (2 ^ 32) n h (omega arith))

numbered : (byte : ℕ) (o : Option ℕ) (digits : List ℕ) (wire : Option ℕ)
    → number_below (2 ^ 32) digits ≡ o → (IsInRange 48 57 byte → ⊥)
    → option_map Some o ≡ Some wire → HasNo byte digits
numbered byte None digits wire e outside h = cc
numbered byte (Some n) digits wire e outside h =
    spelled_without byte (2 ^ 32) n digits outside e

wire_by : (byte : ℕ) (t : Bool) (text : List ℕ) (wire : Option ℕ) → byte ≢ 45
    → byte ≢ 49
    → (IsInRange 48 57 byte → ⊥) → bytes_eq text (codes "-1") ≡ t
    → cond t (Some None) (option_map Some (number_below (2 ^ 32) text)) ≡ Some wire
    → HasNo byte text
wire_by byte true text wire first second outside e h =
    let same : text ≡ codes "-1" = (bytes_eq-Decides text (codes "-1")).0 e in
    rw same (dashed byte first second)
wire_by byte false text wire first second outside e h =
    numbered byte (number_below (2 ^ 32) text) text wire refl outside h

wire_without : (text : List ℕ) (wire : Option ℕ) → wire_of text ≡ Some wire
    → HasNo 44 text
wire_without text wire h =
    wire_by 44 (bytes_eq text (codes "-1")) text wire (λ e. omega (arith, e))
    (λ e. omega (arith, e)) no_comma refl h

-- what the parts say
with_all : (a : Option ℕ) (b : Option (Option ℕ)) (c : Option ℕ) (s : SymLine)
    → a ≡ Some s.label → b ≡ Some s.wire → c ≡ Some s.instance
    → is_name s.name ≡ true
    → with_parts a b c s.name ≡ Some s
with_all a b c s p q r named =
    ap (λ (o : Option ℕ). with_parts o b c s.name) p
    ∙ (ap (λ (o : Option (Option ℕ)). with_parts (Some s.label) o c s.name) q
    ∙ (ap (λ (o : Option ℕ). with_parts (Some s.label) (Some s.wire) o s.name) r
    ∙ cond-true (is_name s.name) (Some s) None named))

split_as : (front rest : List ℕ) (says : List ℕ → List ℕ → Option SymLine)
    → HasNo 44 front
    → at_comma (front ++ 44 ∷ rest) says ≡ says front rest
split_as front rest says h = ap (in_parts says) (split_again 44 front rest h)

pub says_is_said : (line : List ℕ) (s : SymLine) → Says line s → said line ≡ Some s
says_is_said line s h =
    let third : List ℕ = h.instance ++ 44 ∷ s.name in
    let second : List ℕ = h.wire ++ 44 ∷ third in
    ap said h.parts
    ∙ (split_as h.label second _
    (spelled_without 44 (2 ^ 64) s.label h.label no_comma h.label_is)
    ∙ (split_as h.wire third _ (wire_without h.wire s.wire h.wire_is)
    ∙ (split_as h.instance s.name _
    (spelled_without 44 (2 ^ 64) s.instance h.instance no_comma h.instance_is)
    ∙ with_all (number_below (2 ^ 64) h.label) (wire_of h.wire)
    (number_below (2 ^ 64) h.instance) s h.label_is h.wire_is h.instance_is h.named)))

-- and the other way
if_named : (line label wire instance name : List ℕ) (s : SymLine) (t : Bool) (l : ℕ)
    (w : Option ℕ) (i : ℕ) → is_name name ≡ t → number_below (2 ^ 64) label ≡ Some l
    → wire_of wire ≡ Some w → number_below (2 ^ 64) instance ≡ Some i
    → line ≡ label ++ 44 ∷ (wire ++ 44 ∷ (instance ++ 44 ∷ name))
    → cond t (Some record { label = l; wire = w; instance = i; name = name }) None ≡ Some s
    → Says line s
if_named line label wire instance name s false l w i t p q r e h = cc
if_named line label wire instance name s true l w i t p q r e h =
    let made : SymLine = record { label = l; wire = w; instance = i; name = name } in
    let same : made ≡ s = cc in
    let name_is : name ≡ s.name = ap (λ (x : SymLine). x.name) same in
    record {
      label = label;
      wire = wire;
      instance = instance;
      parts =
          e
          ∙ ap (λ (n : List ℕ). label ++ 44 ∷ (wire ++ 44 ∷ (instance ++ 44 ∷ n)))
          name_is;
      label_is = p ∙ ap (λ (x : SymLine). Some x.label) same;
      wire_is = q ∙ ap (λ (x : SymLine). Some x.wire) same;
      instance_is = r ∙ ap (λ (x : SymLine). Some x.instance) same;
      named = sym (ap is_name name_is) ∙ t;
    }

if_numbers : (line label wire instance name : List ℕ) (s : SymLine) (a : Option ℕ)
    (b : Option (Option ℕ)) (c : Option ℕ) → number_below (2 ^ 64) label ≡ a
    → wire_of wire ≡ b
    → number_below (2 ^ 64) instance ≡ c
    → line ≡ label ++ 44 ∷ (wire ++ 44 ∷ (instance ++ 44 ∷ name))
    → with_parts a b c name ≡ Some s
    → Says line s
if_numbers line label wire instance name s None b c p q r e h = cc
if_numbers line label wire instance name s (Some l) None c p q r e h = cc
if_numbers line label wire instance name s (Some l) (Some w) None p q r e h = cc
if_numbers line label wire instance name s (Some l) (Some w) (Some i) p q r e h =
    if_named line label wire instance name s (is_name name) l w i refl p q r e h

if_split : (text : List ℕ) (says : List ℕ → List ℕ → Option SymLine) (s : SymLine)
    (Goal : Type 0) (o : Option (List ℕ × List ℕ)) → split_once 44 text ≡ o
    → ((front rest : List ℕ) → text ≡ front ++ 44 ∷ rest → says front rest ≡ Some s
    → Goal)
    → in_parts says o ≡ Some s → Goal
if_split text says s Goal None e f h = cc
if_split text says s Goal (Some parts) e f h =
    f parts.0 parts.1 (split_parts 44 text parts.0 parts.1 e) h

if_comma : (text : List ℕ) (says : List ℕ → List ℕ → Option SymLine) (s : SymLine)
    (Goal : Type 0)
    → ((front rest : List ℕ) → text ≡ front ++ 44 ∷ rest → says front rest ≡ Some s
    → Goal)
    → at_comma text says ≡ Some s → Goal
if_comma text says s Goal f h = if_split text says s Goal (split_once 44 text) refl f h

pub said_says : (line : List ℕ) (s : SymLine) → said line ≡ Some s → Says line s
said_says line s h =
    if_comma line _ s (Says line s) (λ label behind e.
    if_comma behind _ s (Says line s) (λ wire rest f.
    if_comma rest _ s (Says line s) (λ instance name g.
    if_numbers line label wire instance name s (number_below (2 ^ 64) label) (wire_of wire)
    (number_below (2 ^ 64) instance) refl refl refl
    (e ∙ (ap (λ (l : List ℕ). label ++ 44 ∷ l) f
    ∙ ap (λ (l : List ℕ). label ++ 44 ∷ (wire ++ 44 ∷ l)) g))))) h

pub said_just : (line : List ℕ) (s : SymLine) → said line ≡ Some s ↔ Says line s
said_just line s = (said_says line s, says_is_said line s)

-- what is written
line_says : (s : SymLine) → IsWritten s → Says (line_of s) s
line_says s h = record {
  label = decimal s.label;
  wire = wire_text s.wire;
  instance = decimal s.instance;
  parts = refl;
  label_is = number_again (2 ^ 64) s.label h.narrow.label (omega arith);
  wire_is = wire_again s.wire h.narrow.wire;
  instance_is = number_again (2 ^ 64) s.instance h.narrow.instance (omega arith);
  named = and_from (ltb 0 (length s.name)) (is_utf8 s.name) (lt-ltb 0 (length s.name) h.some)
      (is_utf8-from_IsUtf8 s.name h.utf8);
}

line_again : (s : SymLine) → IsWritten s → said (line_of s) ≡ Some s
line_again s h = says_is_said (line_of s) s (line_says s h)

not_feed : (b : ℕ) → b ≡ 44 → b ≢ 10
not_feed b e f = omega (arith, e, f)

behind_comma : (front rest : List ℕ) → HasNo 10 front → HasNo 10 rest
    → HasNo 10 (front ++ 44 ∷ rest)
behind_comma front rest first second =
    All-append (λ b. b ≢ 10) front (44 ∷ rest) first
    (All-cons (λ b. b ≢ 10) 44 rest (not_feed 44 refl) second)

wire_one_line : (wire : Option ℕ) → IsNarrow wire → HasNo 10 (wire_text wire)
wire_one_line None h = dashed 10 (λ e. omega (arith, e)) (λ e. omega (arith, e))
wire_one_line (Some n) h = digits_have_no 10 n no_feed (omega arith)

one_line : (s : SymLine) → IsWritten s → HasNo 10 (line_of s)
one_line s h =
    behind_comma (decimal s.label) _ (digits_have_no 10 s.label no_feed h.narrow.label)
    (behind_comma (wire_text s.wire) _ (wire_one_line s.wire h.narrow.wire)
    (behind_comma (decimal s.instance) s.name
    (digits_have_no 10 s.instance no_feed h.narrow.instance)
    h.one_line))

pub symbols_again : (lines : List SymLine) → All IsWritten lines → length lines ≤ 16777216
    → symbols_of (symbols_text lines) ≡ Ok lines
symbols_again lines written few =
    let each : All (λ s. said (line_of s) ≡ Some s) lines =
    All-weaker IsWritten (λ s. said (line_of s) ≡ Some s) line_again lines written in
    let one : All (HasNo 10) (map line_of lines) =
    All-map (HasNo 10) line_of lines
    (All-weaker IsWritten (λ s. HasNo 10 (line_of s)) one_line lines written) in
    ap (all_of_lines said 16777216) (written_again (map line_of lines) one)
    ∙ all_said said 16777216 line_of lines record { each = each } few
