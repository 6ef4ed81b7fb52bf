-- Texts of rules: a line for each.
use Rattle.std.specs.Prelude.{ℕ, ◌<◌, ◌^◌, List, ◌∷◌, ◌++◌, map, codes, decimal, bytes_eq}
use Rattle.std.specs.Prelude.{Option, Some, None, option_map, Result}
use Rattle.std.specs.Prelude.{if◌then◌else◌}
use Rattle.text_lines.specs.Lines.{split_once, text_of}
use Rattle.text_lines.specs.Number.{plain_below}
use Rattle.text_lines.specs.Reading.{LineRefusal, reading}
use Rattle.cir_determined.specs.declared.rule.Rule.{Rule}
use Rattle.cir_determined.specs.declared.rule.Rule.TheVariants.{Solve, Bool as Boolean, Bits}

-- two numbers with a space between them
abbrev pub pair_text : ℕ → ℕ → List ℕ
pair_text m n = decimal m ++ 32 ∷ decimal n

-- `solve K W`, `bool K W` or `bits K`, where K is a constraint and W a wire
abbrev pub line_of : Rule → List ℕ
line_of (Solve constraint wire) = codes "solve" ++ 32 ∷ pair_text constraint wire
line_of (Boolean constraint wire) = codes "bool" ++ 32 ∷ pair_text constraint wire
line_of (Bits constraint) = codes "bits" ++ 32 ∷ decimal constraint

-- the text of rules
abbrev pub rules_text : List Rule → List ℕ
rules_text rules = text_of (map line_of rules)

-- numbers below 2^32 without leading zeros
abbrev pub number_of : List ℕ → Option ℕ
number_of text = plain_below (2 ^ 32) text

abbrev pub with_second : (first : Option ℕ) → (second : Option ℕ) → Option (ℕ × ℕ)
with_second None second = None
with_second (Some m) None = None
with_second (Some m) (Some n) = Some (m, n)

abbrev pub both_numbers : Option (List ℕ × List ℕ) → Option (ℕ × ℕ)
both_numbers None = None
both_numbers (Some parts) = with_second (number_of parts.0) (number_of parts.1)

-- the two numbers that a space parts
abbrev pub pair_of : List ℕ → Option (ℕ × ℕ)
pair_of text = both_numbers (split_once 32 text)

-- the rule of this name with these numbers
abbrev pub rule_named : (name : List ℕ) → (numbers : List ℕ) → Option Rule
rule_named name numbers =
    if bytes_eq name (codes "solve") then option_map (λ n. Solve n.0 n.1) (pair_of numbers)
    else if bytes_eq name (codes "bool") then option_map (λ n. Boolean n.0 n.1) (pair_of numbers)
    else if bytes_eq name (codes "bits") then option_map Bits (number_of numbers) else None

abbrev pub rule_in : Option (List ℕ × List ℕ) → Option Rule
rule_in None = None
rule_in (Some parts) = rule_named parts.0 parts.1

-- what a line says: a name, a space, and the numbers
abbrev pub rule_of : List ℕ → Option Rule
rule_of line = rule_in (split_once 32 line)

-- the rules that a text of at most 4,194,304 lines says, or why it is refused
abbrev pub rules_of : List ℕ → Result (List Rule) LineRefusal
rules_of text = reading rule_of 4194304 text

-- the rule's numbers fit in 32 bits
abbrev pub IsNarrow : Rule → Type 0
IsNarrow (Solve constraint wire) = (constraint < 2 ^ 32) × (wire < 2 ^ 32)
IsNarrow (Boolean constraint wire) = (constraint < 2 ^ 32) × (wire < 2 ^ 32)
IsNarrow (Bits constraint) = constraint < 2 ^ 32
