use Rattle.std.proofs.Common.{◌∙◌, inl, inr}
use Rattle.clap.specs.Faults.{fault_of}
use Rattle.clap.specs.Simple.{app_of, matches_of}
use Rattle.circom_words.specs.Matches.{rows_in}
use Rattle.circom_words.specs.Words.{texts}
use Rattle.circom_words.proofs.Found.{simple, found_rows, nothing_found}
use Rattle.circom_words.proofs.words.found.Goals as goal

pub returns-in-Ok : goal.returns-in-Ok
returns-in-Ok c =
    found_rows (app_of c.args.form) (texts c.args.words.now) (rows_in c.in-Ok.matches)
    (c.in-Ok.ensures.kinds c.requires)
    (c.in-Ok.ensures.matches (simple (app_of c.args.form) c.requires)).0

pub returns : goal.returns
returns c =
    elim (c.in-Err.ensures.kinds c.requires) [
      | inl memory ↦ absurd (c.in_default.not-OutOfMemory (c.kind.ensures ∙ memory))
      | inr among ↦
          nothing_found (fault_of (app_of c.args.form) (texts c.args.words.now))
          (matches_of (app_of c.args.form) (texts c.args.words.now)) _ among
    ]
