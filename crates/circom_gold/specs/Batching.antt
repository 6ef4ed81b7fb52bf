-- What a batch finds, step by step.
use Rattle.std.specs.Prelude.{◌≡◌, ℕ, ◌<◌, ◌≤◌, List, length, slice_get}
use Rattle.std.specs.Prelude.{IsSomeAnd, Result, Ok, Err, ⊤}
use Rattle.std.specs.List.{AllZip}
use Rattle.text_lines.specs.Lines.{lines_of}
use Rattle.iden_files.specs.File.{File}
use Rattle.iden_files.specs.Spelling.{wtns_bytes}
use Rattle.cir_ast.specs.Program.{Program}
use Rattle.wit_run.specs.Batch.{most_batch}
use Rattle.wit_run.specs.declared.ending.RunEnd.{RunEnd}
use Rattle.wit_run.specs.declared.ending.RunEnd.TheVariants as end
use Rattle.circom_lines.specs.RunLines.{stop_line}
use Rattle.circom_lines.specs.declared.answer.Refusal.TheVariants.{LargeBatch}
use Rattle.circom_files.specs.declared.stop.Stop.{Stop}
use Rattle.circom_files.specs.declared.stop.Stop.TheVariants as stop
use Rattle.circom_batch.specs.Items.{without_feed}
use Rattle.circom_batch.specs.declared.inputs.Entry.{Entry}
use Rattle.circom_batch.specs.declared.inputs.Entry.TheVariants as entry
use Rattle.circom_batch.specs.declared.item.Item.{Item}
use Rattle.circom_batch.specs.declared.item.Item.TheVariants.{Witness, Refused}
use Rattle.circom_gold.specs.Batch.{Counts, IsItem}
use Rattle.circom_gold.specs.Running.{shown_place}
use Rattle.circom_gold.specs.Witness.{values_by_wire}

-- the item of a run's end
abbrev pub end_item : (files instances : List (List ℕ)) → File → RunEnd → Item
end_item files instances file (end.Ended numbers log) =
    Witness (wtns_bytes (values_by_wire file numbers))
end_item files instances file (end.Stopped stop place log) =
    Refused (without_feed (stop_line stop (shown_place files instances place)))

-- a place is one of these
abbrev pub IsWithin : (ends : ℕ) → Entry → Type 0
IsWithin ends (entry.Start place) = place < ends
IsWithin ends (entry.Refused line) = ⊤

-- the item of an entry, by the ends of the runs
abbrev pub IsEntryItem : (files instances : List (List ℕ)) → File → List RunEnd → Entry
    → Item → Type 0
IsEntryItem files instances file ends (entry.Start place) item =
    IsSomeAnd (slice_get ends place) (λ end. item ≡ end_item files instances file end)
IsEntryItem files instances file ends (entry.Refused line) item = item ≡ Refused line

-- what the program comes to on the lines of the text; want of memory is free
abbrev pub BatchesOn : Program → File → (fuel : ℕ) → (text : List ℕ)
    → Result (List Item) Stop → Type 0
BatchesOn program file fuel text (Ok items) =
    (size : ℕ) × Counts program (length (lines_of text)) size × (size ≤ most_batch)
    × AllZip (IsItem program file fuel) (lines_of text) items
BatchesOn program file fuel text (Err (stop.Refused refusal)) =
    (size : ℕ) × Counts program (length (lines_of text)) size × (most_batch < size)
    × (refusal ≡ LargeBatch size)
BatchesOn program file fuel text (Err stop.StoreFailed) = ⊥
BatchesOn program file fuel text (Err stop.OutOfMemory) = ⊤
