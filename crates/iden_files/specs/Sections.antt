-- A file as a header and a list of sections, each a range of its bytes.
use Rattle.std.specs.Prelude.{◌==◌, ℕ, zero, suc, ◌-◌, Bool, false, not, ◌||◌, ◌&&◌, List, [], ◌∷◌}
use Rattle.std.specs.Prelude.{◌++◌, length, take, drop, Option, Some, None, is_some, Result, Ok}
use Rattle.std.specs.Prelude.{nat_le, if◌then◌else◌, codes}
use Rattle.std.specs.Option.{ok_or}
use Rattle.std.specs.Int.{w32, w64, from_le_bytes}
use Rattle.binary_format.specs.Reading.{◌>>=◌, front_of, number_of, or_short, required}
use Rattle.iden_files.specs.declared.fault.FileCause.TheVariants.{Magic, Version, Truncated}
use Rattle.iden_files.specs.declared.fault.FileCause.TheVariants.{SectionMissing, SectionTwice}
use Rattle.iden_files.specs.declared.fault.FileCause.TheVariants.{BadCount, CustomGates}
use Rattle.iden_files.specs.declared.sections.Format.{Format}
use Rattle.iden_files.specs.declared.sections.Format.TheVariants.{R1cs, Wtns}
use Rattle.iden_files.specs.Refusal.{Refusal, refusal}

-- a section: its type, its body, and the place in the file where the body ends
pub record Section : Type 0 where
  pub kind : ℕ
  pub end : ℕ
  pub body : List ℕ

-- the number at the byte k
abbrev pub u32_at : ℕ → List ℕ → ℕ
u32_at k bytes = from_le_bytes w32 (take 4 (drop k bytes))

abbrev pub u64_at : ℕ → List ℕ → ℕ
u64_at k bytes = from_le_bytes w64 (take 8 (drop k bytes))

-- the four bytes that a file begins with
abbrev pub magic : Format → List ℕ
magic R1cs = codes "r1cs"
magic Wtns = codes "wtns"

abbrev pub version : Format → ℕ
version R1cs = 1
version Wtns = 2

-- the types of sections that are read, each at most once; sections of other types are skipped
abbrev pub is_read : Format → ℕ → Bool
is_read R1cs kind = (kind == 1) || (kind == 2) || (kind == 3)
is_read Wtns kind = (kind == 1) || (kind == 2)

-- the types of sections for custom gates
abbrev pub is_gates : Format → ℕ → Bool
is_gates R1cs kind = (kind == 4) || (kind == 5)
is_gates Wtns kind = false

-- the first section of a type
abbrev pub section_of : ℕ → List Section → Option Section
section_of kind [] = None
section_of kind (s ∷ ss) = if s.kind == kind then Some s else section_of kind ss

-- check 1: the number of sections that the header names
unfoldable pub section_count : Format → List ℕ → Result ℕ Refusal
section_count format bytes = do
  long ← required (nat_le 12 (length bytes)) (refusal Truncated (length bytes))
  same ← required (u32_at 0 bytes == from_le_bytes w32 (magic format)) (refusal Magic 0)
  known ← required (u32_at 4 bytes == version format) (refusal Version 4)
  Ok (u32_at 8 bytes)

-- the next section, of bytes that end at this place
unfoldable pub section_at : ℕ → List ℕ → Result (Section × List ℕ) Refusal
section_at end bytes = do
  kind ← or_short (number_of w32 bytes) (refusal Truncated end)
  size ← or_short (number_of w64 kind.1) (refusal Truncated end)
  body ← or_short (front_of size.0 size.1) (refusal Truncated end)
  Ok (record { kind = kind.0; end = end - length body.1; body = body.0 }, body.1)

-- the sections that are read, with one more that begins at this place
unfoldable pub with_section : Format → List Section → Section → ℕ → Result (List Section) Refusal
with_section format sections s place = do
  plain ← required (not (is_gates format s.kind)) (refusal CustomGates place)
  once ← required (not (is_read format s.kind && is_some (section_of s.kind sections)))
      (refusal SectionTwice place)
  Ok (if is_read format s.kind then sections ++ s ∷ [] else sections)

-- check 2: the sections that are read, those before these bytes first
unfoldable pub sections_after : Format → ℕ → ℕ → List Section → List ℕ
    → Result (List Section) Refusal
sections_after format end zero before bytes = do
  whole ← required (length bytes == 0) (refusal BadCount (end - length bytes))
  Ok before
sections_after format end (suc n) before bytes = do
  s ← section_at end bytes
  sections ← with_section format before s.0 (end - length bytes)
  sections_after format end n sections s.1

unfoldable pub sections_of : Format → List ℕ → Result (List Section) Refusal
sections_of format bytes = do
  n ← section_count format bytes
  sections_after format (length bytes) n [] (drop 12 bytes)

-- check 3: a section that each file has
unfoldable pub needed : ℕ → ℕ → List Section → Result Section Refusal
needed kind end sections = ok_or (section_of kind sections) (refusal SectionMissing end)
