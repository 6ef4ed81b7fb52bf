-- Files of symbols: lines `LABEL,WIRE,INSTANCE,NAME`.
use Rattle.std.specs.Prelude.{◌≡◌, ℕ, ◌<◌, ◌^◌, ◌&&◌, true, Bool, List}
use Rattle.std.specs.Prelude.{◌∷◌, ◌++◌, length, map}
use Rattle.std.specs.Prelude.{nat_lt, codes, decimal, bytes_eq, if◌then◌else◌, Option, Some}
use Rattle.std.specs.Prelude.{None}
use Rattle.std.specs.Prelude.{option_map, Result}
use Rattle.std.specs.Str.{is_utf8, IsUtf8}
use Rattle.text_lines.specs.Lines.{split_once, text_of, HasNo}
use Rattle.text_lines.specs.Number.{number_below}
use Rattle.text_lines.specs.Reading.{LineRefusal, reading}
use Rattle.sym_file.specs.declared.line.SymLine.{SymLine}

-- `-1` where there is no wire
abbrev pub wire_text : Option ℕ → List ℕ
wire_text None = codes "-1"
wire_text (Some wire) = decimal wire

-- the line that is written
abbrev pub line_of : SymLine → List ℕ
line_of l =
    decimal l.label ++ 44 ∷ (wire_text l.wire ++ 44 ∷ (decimal l.instance ++ 44 ∷ l.name))

abbrev pub symbols_text : List SymLine → List ℕ
symbols_text lines = text_of (map line_of lines)

-- `-1`, which says that there is no wire, or digits that spell a number below 2^32
abbrev pub wire_of : List ℕ → Option (Option ℕ)
wire_of text =
    if bytes_eq text (codes "-1") then Some None else option_map Some (number_below (2 ^ 32) text)

-- at least one byte, in UTF-8
abbrev pub is_name : List ℕ → Bool
is_name bytes = nat_lt 0 (length bytes) && is_utf8 bytes

-- what is said of a line whose parts between commas are these; behind the third comma everything is
-- the name
abbrev pub with_parts : Option ℕ → Option (Option ℕ) → Option ℕ → (name : List ℕ)
    → Option SymLine
with_parts None wire instance name = None
with_parts (Some label) None instance name = None
with_parts (Some label) (Some wire) None name = None
with_parts (Some label) (Some wire) (Some instance) name =
    if is_name name
    then Some record { label = label; wire = wire; instance = instance; name = name } else None

abbrev pub said_by : (label wire instance name : List ℕ) → Option SymLine
said_by label wire instance name =
    with_parts (number_below (2 ^ 64) label) (wire_of wire) (number_below (2 ^ 64) instance) name

-- what is said by the parts before and behind the first comma
abbrev pub in_parts : (List ℕ → List ℕ → Option SymLine) → Option (List ℕ × List ℕ)
    → Option SymLine
in_parts says None = None
in_parts says (Some parts) = says parts.0 parts.1

abbrev pub at_comma : List ℕ → (List ℕ → List ℕ → Option SymLine) → Option SymLine
at_comma text says = in_parts says (split_once 44 text)

abbrev pub said : List ℕ → Option SymLine
said line =
    at_comma line (λ label behind. at_comma behind (λ wire rest. at_comma rest (λ instance name.
    said_by label wire instance name)))

-- the lines of a file of at most 16,777,216 lines, or why it is refused
abbrev pub symbols_of : List ℕ → Result (List SymLine) LineRefusal
symbols_of bytes = reading said 16777216 bytes

-- The line in parts: digits below 2^64, a comma, `-1` or digits below 2^32, a comma, digits below
-- 2^64, a comma, and the name. Zeros may stand before digits.
pub record Says (line : List ℕ) (s : SymLine) : Type 0 where
  pub label : List ℕ
  pub wire : List ℕ
  pub instance : List ℕ
  pub parts : line ≡ label ++ 44 ∷ (wire ++ 44 ∷ (instance ++ 44 ∷ s.name))
  pub label_is : number_below (2 ^ 64) label ≡ Some s.label
  pub wire_is : wire_of wire ≡ Some s.wire
  pub instance_is : number_below (2 ^ 64) instance ≡ Some s.instance
  pub named : is_name s.name ≡ true

-- the wire's number fits in 32 bits
abbrev pub IsNarrow : Option ℕ → Type 0
IsNarrow None = Unit {0}
IsNarrow (Some wire) = wire < 2 ^ 32

-- the numbers of a line fit
pub record IsNarrowLine (s : SymLine) : Type 0 where
  pub label : s.label < 2 ^ 64
  pub wire : IsNarrow s.wire
  pub instance : s.instance < 2 ^ 64

-- what can be written in a line
pub record IsWritten (s : SymLine) : Type 0 where
  pub narrow : IsNarrowLine s
  pub some : 0 < length s.name
  pub utf8 : IsUtf8 s.name
  pub one_line : HasNo 10 s.name
