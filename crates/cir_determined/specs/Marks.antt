-- What has been shown of the wires so far.
use Rattle.std.specs.Prelude.{ℕ, Bool, false, ◌||◌, ◌==◌, List, slice_index_or}
use Rattle.cir_determined.specs.declared.marks.Mark.{Mark}
use Rattle.cir_determined.specs.Circuit.{Circuit, is_input}

-- which wires are known, that is, determined by the inputs; and which are 0 or 1
pub record Marks : Type 0 where
  pub known : ℕ → Bool
  pub boolean : ℕ → Bool

-- at first wire 0 and the inputs are known, and no wire is shown to be 0 or 1
abbrev pub opening : Circuit → Marks
opening c = record { known = λ w. (w == 0) || is_input c w; boolean = λ w. false }

-- nothing is shown of a wire
abbrev pub no_mark : Mark
no_mark = record { known = false; boolean = false }

-- what a list says that has a mark for each wire
abbrev pub marks_of : List Mark → Marks
marks_of list = record {
  known = λ w. (slice_index_or list w no_mark).known;
  boolean = λ w. (slice_index_or list w no_mark).boolean;
}
