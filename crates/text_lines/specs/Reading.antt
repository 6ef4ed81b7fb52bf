-- What a text says whose lines are each of one form.
use Rattle.std.specs.Prelude.{ℕ, ◌+◌, List, length, ◌&&◌, nat_lt, Option, Some, None, is_some}
use Rattle.std.specs.Prelude.{Result, Ok, Err, if◌then◌else◌}
use Rattle.std.specs.List.{prefix_len, filter_map}
use Rattle.text_lines.specs.Lines.{lines_of}
use Rattle.text_lines.specs.declared.reading.LineFault.{LineFault}
use Rattle.text_lines.specs.declared.reading.LineFault.TheVariants.{BadLine, Limit, OutOfMemory}

-- Why a text is refused: at its first line that isn't of the form, or at its first line past the
-- limit, whichever comes first, and at the limit where that line is both. Lines count from 1.
pub data LineRefusal : Type 0 where
  bad : (line : ℕ) → LineRefusal
  over : (line : ℕ) → LineRefusal

-- how many lines stand before the first that isn't of the form
abbrev pub good_lines : {A : Type 0} → (List ℕ → Option A) → List (List ℕ) → ℕ
good_lines form lines = prefix_len (λ line. is_some (form line)) lines

-- what the lines say, in order, where each is of the form and there are at most so many
abbrev pub said : {A : Type 0} → (form : List ℕ → Option A) → (limit : ℕ) → List (List ℕ)
    → Result (List A) LineRefusal
said form limit lines =
    let good = good_lines form lines in
    if nat_lt good limit && nat_lt good (length lines) then Err (bad (good + 1))
    else if nat_lt limit (length lines) then Err (over (limit + 1))
    else Ok (filter_map form lines)

abbrev pub reading : {A : Type 0} → (form : List ℕ → Option A) → (limit : ℕ) → (text : List ℕ)
    → Result (List A) LineRefusal
reading form limit text = said form limit (lines_of text)

-- what a fault says of the text: nothing where memory ran out
abbrev pub refused : LineFault → Option LineRefusal
refused (BadLine line) = Some (bad line)
refused (Limit line) = Some (over line)
refused OutOfMemory = None
