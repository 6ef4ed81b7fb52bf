-- Reading sections one after another, as a loop does.
use Rattle.std.proofs.Common.{◌≡◌, ℕ, suc, ◌-◌, ◌+◌, ◌≤◌, ◌<◌, true, false, eqb, List, length}
use Rattle.std.proofs.Common.{Result, Ok, Err, refl, sym, ◌∙◌, arith}
use Rattle.binary_format.specs.Reading.{Fails}
use Rattle.iden_files.specs.declared.fault.FileFault.{FileFault}
use Rattle.iden_files.specs.declared.fault.FileFault.TheVariants as faults
use Rattle.iden_files.specs.declared.fault.FileCause.TheVariants.{BadCount}
use Rattle.iden_files.specs.declared.sections.Format.{Format}
use Rattle.iden_files.specs.Refusal.{Refusal, refusal, refused}
use Rattle.iden_files.specs.Sections.{Section, section_at, with_section, sections_after}

module _ (format : Format) (end count i : ℕ) (before : List Section) (bytes : List ℕ)
    (total : Result (List Section) Refusal)
    (so_far : sections_after format end (count - i) before bytes ≡ total) where
  pub goes_on : (s : Section) (rest : List ℕ) (after : List Section) → i < count
      → section_at end bytes ≡ Ok (s, rest) → with_section format before s (end - length bytes)
      ≡ Ok after
      → sections_after format end (count - (i + 1)) after rest ≡ total
  unfolding sections_after
  goes_on s rest after lt at kept =
      let k : count - i ≡ suc (count - (i + 1)) = omega arith in
      let one : sections_after format end (count - i) before bytes
      ≡ sections_after format end (count - (i + 1)) after rest = rw (k, at, kept) refl in
      sym one ∙ so_far

  pub no_section : (fault : FileFault) → i < count → Fails (refused fault) (section_at end bytes)
      → Fails (refused fault) total
  unfolding sections_after
  no_section (faults.At cause offset) lt at =
      let k : count - i ≡ suc (count - (i + 1)) = omega arith in
      let one : sections_after format end (count - i) before bytes ≡ Err (refusal cause offset) =
      rw (k, at) refl in
      sym so_far ∙ one
  no_section faults.OutOfMemory lt at = tt

  pub not_kept : (s : Section) (rest : List ℕ) (fault : FileFault) → i < count
      → section_at end bytes ≡ Ok (s, rest)
      → Fails (refused fault) (with_section format before s (end - length bytes))
      → Fails (refused fault) total
  unfolding sections_after
  not_kept s rest (faults.At cause offset) lt at kept =
      let k : count - i ≡ suc (count - (i + 1)) = omega arith in
      let one : sections_after format end (count - i) before bytes ≡ Err (refusal cause offset) =
      rw (k, at, kept) refl in
      sym so_far ∙ one
  not_kept s rest faults.OutOfMemory lt at kept = tt

  pub is_done : count ≤ i → eqb (length bytes) 0 ≡ true → total ≡ Ok before
  unfolding sections_after
  is_done le empty =
      let k : count - i ≡ 0 = omega arith in
      let one : sections_after format end (count - i) before bytes ≡ Ok before =
      rw (k, empty) refl in
      sym so_far ∙ one

  pub more_bytes : count ≤ i → eqb (length bytes) 0 ≡ false
      → total ≡ Err (refusal BadCount (end - length bytes))
  unfolding sections_after
  more_bytes le left =
      let k : count - i ≡ 0 = omega arith in
      let one : sections_after format end (count - i) before bytes
      ≡ Err (refusal BadCount (end - length bytes)) = rw (k, left) refl in
      sym so_far ∙ one
