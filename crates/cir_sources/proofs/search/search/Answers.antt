use Rattle.std.proofs.Common.{◌≡◌, ◌∙◌, List, None, Some, ℕ, ap}
use Rattle.out_io.proofs.Asking.{read_on}
use Rattle.cir_sources.specs.Names.{in_folder, resolved}
use Rattle.cir_sources.specs.Includes.{beside, bytes_at}
use Rattle.cir_sources.proofs.Searching.{looked}
use Rattle.cir_sources.proofs.search.search.Goals as goal

pub returns-in-Absent-Some-clause-learns : goal.returns-in-Absent-Some-clause-learns
returns-in-Absent-Some-clause-learns g c =
    let first = rw c.in-Absent-Some.is-0 at c.in_ok-target.ensures.learns in
    let second = c.in_ok-target-in-Absent-Some.ensures.learns in
    record {
      more = λ files are. first.more files (second.more files are);
      knows = λ all knows. second.knows all (first.knows all knows);
    }

pub returns-in-Absent-Some-clause-targets : goal.returns-in-Absent-Some-clause-targets
returns-in-Absent-Some-clause-targets g c =
    let near = rw (c.in-Absent-Some.is-0, c.as_slice.ensures.value ∙ c.in_ok-name.ensures)
    at c.in_ok-target.ensures.looks in
    let far = rw (c.as_slice-in-Absent-Some.ensures.value ∙ c.in_ok-name-in-Absent-Some.ensures
    ∙ ap (λ (f : List ℕ). resolved
    (in_folder f c.args.site.now.name)) c.as_bytes.ensures.value)
    at c.in_ok-target-in-Absent-Some.ensures.looks in
    rw c.in-Absent-Some.is-1 (λ files are missing.
    let absent : bytes_at files (beside c.args.site.now) ≡ None =
    near files (c.in_ok-target-in-Absent-Some.ensures.learns.more files missing) in
    looked files c.args.names.now (Some c.in-Absent-Some.folder.now) c.args.site.now _
    c.in_ok-target-in-Absent-Some.target (λ b e. rw (absent, e)) (λ e. rw (absent, e)) are
    (far files missing))

pub returns-in_err-target-in-Absent-Some-clause-asked :
    goal.returns-in_err-target-in-Absent-Some-clause-asked
returns-in_err-target-in-Absent-Some-clause-asked g c =
    read_on c.look.ensures.asked c.look-in-Absent-Some.ensures.asked

pub returns-in-Absent-Some-clause-asked : goal.returns-in-Absent-Some-clause-asked
returns-in-Absent-Some-clause-asked g c =
    read_on c.look.ensures.asked c.look-in-Absent-Some.ensures.asked
