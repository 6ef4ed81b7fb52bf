-- What the lines of a batch come to, and the file of them.
use Rattle.std.specs.Prelude.{ℕ, ◌-◌, List, ◌++◌, length, take, Bool, true, false, codes}
use Rattle.std.specs.Prelude.{count_by}
use Rattle.std.specs.List.{flat_map}
use Rattle.iden_files.specs.Spelling.{header_bytes, section_bytes}
use Rattle.circom_batch.specs.declared.item.Item.{Item}
use Rattle.circom_batch.specs.declared.item.Item.TheVariants.{Witness, Refused}

-- the kind, the length and the bytes of what a line comes to
abbrev pub item_bytes : Item → List ℕ
item_bytes (Witness bytes) = section_bytes 0 bytes
item_bytes (Refused line) = section_bytes 1 line

-- the file of a batch: the format, its version, how many lines there are, and what they come to
abbrev pub batch_bytes : List Item → List ℕ
batch_bytes items = header_bytes (codes "wtnb") 1 (length items) ++ flat_map item_bytes items

abbrev pub is_witness : Item → Bool
is_witness (Witness bytes) = true
is_witness (Refused line) = false

-- how many lines have values
abbrev pub witnesses : List Item → ℕ
witnesses items = count_by is_witness items

-- a printed line without its line feed
abbrev pub without_feed : List ℕ → List ℕ
without_feed line = take (length line - 1) line
